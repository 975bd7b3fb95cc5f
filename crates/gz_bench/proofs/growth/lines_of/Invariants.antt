use Rattle.std.proofs.Common.{All}
use Rattle.gz_lines.specs.Schedule.{IsBoundedLine}
use Rattle.gz_bench.proofs.growth.lines_of.Given as goal

abbrev pub invariant-loop-i : goal.invariant-loop-i
invariant-loop-i l = All IsBoundedLine l.lines.items
