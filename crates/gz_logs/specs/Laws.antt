-- What the text of a log and the calls that are read of it tell of each other.
use Rattle.std.specs.Prelude.{ℕ, ◌≡◌, List, [], ◌∷◌, ◌++◌, flat_map, Ok, codes}
use Rattle.std.specs.List.{join_with_byte}
use Rattle.gz_history.specs.Log.{log_of}
use Rattle.gz_text.specs.Texts.{lines, fields_of}
use Rattle.gz_history.specs.declared.record.CallRec.{CallRec}
use Rattle.gz_logs.specs.Fitting.{FitsLog}
use Rattle.gz_logs.specs.Parsed.{Log, parsed}

-- a line of these fields, with one blank between them and LF at its end; nothing of a line that is skipped
abbrev pub tidy_line : List (List ℕ) → List ℕ
tidy_line [] = []
tidy_line (word ∷ more) = join_with_byte 32 (word ∷ more) ++ codes "\n"

-- a text without the lines that are skipped, with one blank between the fields of a line and LF at its end
abbrev pub tidy : List ℕ → List ℕ
tidy text = flat_map (λ line. tidy_line (fields_of line)) (lines text)

-- what is read is the log of these calls, but for lines that are skipped, blanks and ends of lines
abbrev pub ReadIsWritten : Type 0
ReadIsWritten = (text : List ℕ) (log : Log) → parsed text ≡ Ok log → tidy text ≡ log_of log.calls log.events log.skipped

-- the log of calls that fit is read back as these calls, events and skipped events
abbrev pub WrittenIsRead : Type 0
WrittenIsRead = (calls : List CallRec) (events skipped : ℕ) → FitsLog calls events skipped
    → parsed (log_of calls events skipped) ≡ Ok (record { calls = calls; events = events; skipped = skipped })

-- what is read fits, so that it can be written and is read back as it was
abbrev pub ReadCanBeWritten : Type 0
ReadCanBeWritten = (text : List ℕ) (log : Log) → parsed text ≡ Ok log
    → FitsLog log.calls log.events log.skipped × (parsed (log_of log.calls log.events log.skipped) ≡ Ok log)
