use Rattle.std.proofs.Common.{◌≡◌}
use Rattle.gz_logs.specs.Parsed.{unread}
use Rattle.gz_logs.specs.Reading.{seen_of}
use Rattle.gz_logs.proofs.LineByLine.{rest_of}
use Rattle.gz_logs.proofs.reader.read_lines.Given as goal

abbrev pub invariant-loop-i : goal.invariant-loop-i
invariant-loop-i l = rest_of l.texts l.i (seen_of l.reader) ≡ rest_of l.texts 0 unread
