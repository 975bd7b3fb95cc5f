-- Which texts are logs, of which calls, and the first fault of a text that is none.
use Rattle.std.specs.Prelude.{ℕ, ◌≡◌, ◌+◌, Vec, List, [], ◌∷◌, Option, Some, None, Result, Ok, Err}
use Rattle.std.specs.declared.alloc.Global.{Global}
use Rattle.gz_core.specs.declared.texts.TextError.{TextError}
use Rattle.gz_core.specs.declared.texts.TextError.TheVariants.{Bad, TooLong, NoMemory}
use Rattle.gz_core.specs.declared.texts.Why.TheVariants as whys
use Rattle.gz_history.specs.declared.record.CallRec.{CallRec}
use Rattle.gz_text.specs.declared.faults.Fault.{Fault}
use Rattle.gz_text.specs.declared.faults.Fault.TheVariants as faults
use Rattle.gz_text.specs.Faults.{told_number}
use Rattle.gz_text.specs.Texts.{lines, fields_of}
use Rattle.gz_logs.specs.declared.lines.Counts.{Counts}
use Rattle.gz_logs.specs.Lines.{Seen, after}

-- what a log tells: the calls, how many events there were, and how many of them were skipped
pub record Log : Type 0 where
  pub calls : List CallRec
  pub events : ℕ
  pub skipped : ℕ

-- a line, counted from 1, and its fault
pub record FaultAt : Type 0 where
  pub line : ℕ
  pub fault : Fault

-- the log that was read up to this line, which has no fault if the last line was read
abbrev pub finished : ℕ → List CallRec → Option Counts → Result Log FaultAt
finished line calls None = Err (record { line = line; fault = faults.Bad whys.End })
finished line calls (Some counts) = Ok (record { calls = calls; events = counts.events; skipped = counts.skipped })

-- what follows from a line that was read, unless it has a fault
abbrev pub at_line : ℕ → Result Seen Fault → (Seen → Result Log FaultAt) → Result Log FaultAt
at_line line (Ok seen) next = next seen
at_line line (Err fault) next = Err (record { line = line; fault = fault })

-- the lines of a log from one on, after what was seen
abbrev pub read_from : ℕ → Seen → List (List ℕ) → Result Log FaultAt
read_from line seen [] = finished line seen.calls seen.ends
read_from line seen (text ∷ texts) = at_line line (after seen (fields_of text)) (λ next. read_from (line + 1) next texts)

-- nothing was read
abbrev pub unread : Seen
unread = record { calls = []; ends = None }

-- the log of a text, or the first line with a fault
abbrev pub parsed : List ℕ → Result Log FaultAt
parsed text = read_from 1 unread (lines text)

-- this line, of which this number is told, is the first with a fault, and has this one
abbrev pub IsFaultTold : Result Log FaultAt → ℕ → Fault → Type 0
IsFaultTold log told fault = (line : ℕ) × ((told ≡ told_number line) × (log ≡ Err (record { line = line; fault = fault })))

-- what a text reads as: its calls exactly where it is a log; else the first line with a fault is told, with it
abbrev pub Parses : Result Log FaultAt → Result (Vec CallRec Global) TextError → Type 0
Parses log (Ok calls) = (events skipped : ℕ) × (log ≡ Ok (record { calls = calls.items; events = events; skipped = skipped }))
Parses log (Err (Bad line why)) = IsFaultTold log line (faults.Bad why)
Parses log (Err (TooLong line)) = IsFaultTold log line faults.TooLong
Parses log (Err NoMemory) = Unit {0}
