use Rattle.gz_code.specs.Interpolation.{AreRows}
use Rattle.gz_code.proofs.interpolate.rows_of.Given as goal

abbrev pub invariant-loop-target : goal.invariant-loop-target
invariant-loop-target l = AreRows l.points l.targets l.target-index l.rows.items
