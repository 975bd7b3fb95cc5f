use Rattle.gz_code.specs.Encoding.{AreNumbers}
use Rattle.gz_code.proofs.encode.points_from.Given as goal

abbrev pub invariant-loop-i : goal.invariant-loop-i
invariant-loop-i l = AreNumbers l.first l.i l.points.items
