-- Which texts are schedules, and the first line of a text that keeps it from being one.
use Rattle.std.specs.Prelude.{ℕ, ◌≡◌, ◌-◌, ◌^◌, ◌<◌, ◌≤◌, Vec, List, length, map, filter_map, Option, Some, None, option_and_then, Result, Ok, Err, slice_get}
use Rattle.std.specs.declared.alloc.Global.{Global}
use Rattle.gz_core.specs.declared.calls.Call.{Call}
use Rattle.gz_core.specs.declared.calls.Call.TheVariants.{Put, Delete, Get, GetAt, Collect}
use Rattle.gz_core.specs.declared.texts.TextError.{TextError}
use Rattle.gz_core.specs.declared.texts.TextError.TheVariants.{Bad, TooLong, NoMemory}
use Rattle.gz_text.specs.declared.faults.Fault.{Fault}
use Rattle.gz_text.specs.declared.faults.Fault.TheVariants as faults
use Rattle.gz_text.specs.Faults.{told_number}
use Rattle.gz_text.specs.Texts.{lines}
use Rattle.gz_lines.specs.declared.line.Line.{Line}
use Rattle.gz_lines.specs.declared.line.Line.TheVariants.{OpenSession, Begin, Deliver, Reply, GiveUp, Crash, Take, Settle, Drain}
use Rattle.gz_lines.specs.declared.line.Reading.{Reading}
use Rattle.gz_lines.specs.declared.line.Reading.TheVariants.{Skipped, Faulty, Is}
use Rattle.gz_lines.specs.Grammar.{read_line}

-- a call keeps to the bounds that lines have, of an object's bytes and of a version; no line asks for a collection yet
abbrev pub IsBoundedCall : Call → Type 0
IsBoundedCall (Put key bytes) = length bytes ≤ 1048576
IsBoundedCall (Delete key) = Unit {0}
IsBoundedCall (Get key) = Unit {0}
IsBoundedCall (GetAt key version) = (1 ≤ version) × (version < 2 ^ 32)
IsBoundedCall (Collect key keep) = ⊥

-- the line's call keeps to them
abbrev pub IsBoundedLine : Line → Type 0
IsBoundedLine OpenSession = Unit {0}
IsBoundedLine (Begin session call) = IsBoundedCall call
IsBoundedLine (Deliver n) = Unit {0}
IsBoundedLine (Reply n which) = Unit {0}
IsBoundedLine (GiveUp n) = Unit {0}
IsBoundedLine (Crash session) = Unit {0}
IsBoundedLine (Take n) = Unit {0}
IsBoundedLine (Settle session without) = Unit {0}
IsBoundedLine (Drain session) = Unit {0}

-- what the lines of a text read as
abbrev pub readings : List ℕ → List Reading
readings text = map read_line (lines text)

-- the line that was read, if there is one
abbrev pub line_of : Reading → Option Line
line_of Skipped = None
line_of (Faulty fault) = None
line_of (Is line) = Some line

-- the fault of a line, if it has one
abbrev pub fault_of : Reading → Option Fault
fault_of Skipped = None
fault_of (Faulty fault) = Some fault
fault_of (Is line) = None

-- the fault of the line at a place, if there is a line and it has one
abbrev pub fault_at : List Reading → ℕ → Option Fault
fault_at all i = option_and_then fault_of (slice_get all i)

-- no line above this place has a fault
abbrev pub AreFaultless : List Reading → ℕ → Type 0
AreFaultless all n = (i : ℕ) → i < n → fault_at all i ≡ None

-- this line, counted from 1, is the first with a fault, and has this one
pub record IsFirstFault (all : List Reading) (line : ℕ) (fault : Fault) : Type 0 where
  pub counted : 1 ≤ line
  pub within : line ≤ length all
  pub above : AreFaultless all (line - 1)
  pub found : fault_at all (line - 1) ≡ Some fault

-- a line of which this number is told is the first with a fault, and has this one
abbrev pub IsFaultTold : List Reading → ℕ → Fault → Type 0
IsFaultTold all told fault = (line : ℕ) × (told ≡ told_number line) × IsFirstFault all line fault

-- what lines read as: they are taken exactly where none has a fault; else the first one with a fault is told, with it
abbrev pub Reads : List Reading → Result (Vec Line Global) TextError → Type 0
Reads all (Ok found) = AreFaultless all (length all) × (found.items ≡ filter_map line_of all)
Reads all (Err (Bad line why)) = IsFaultTold all line (faults.Bad why)
Reads all (Err (TooLong line)) = IsFaultTold all line faults.TooLong
Reads all (Err NoMemory) = Unit {0}
