-- What a reader holds of a log, and what a line makes of it.
use Rattle.std.specs.Prelude.{◌≡◌, Result, Ok, Err}
use Rattle.gz_text.specs.declared.faults.Fault.{Fault}
use Rattle.gz_logs.specs.declared.reader.Reader.{Reader}
use Rattle.gz_logs.specs.Lines.{Seen}

-- what the reader has seen
abbrev pub seen_of : Reader → Seen
seen_of reader = record { calls = reader.calls.list.items; ends = reader.ends }

-- a line was read, and this is seen; or it has this fault
abbrev pub Steps : Result Seen Fault → Seen → Result (Unit {0}) Fault → Type 0
Steps read new (Ok done) = read ≡ Ok new
Steps read new (Err fault) = read ≡ Err fault
