use Rattle.gz_lanes.specs.Combination.{HasAdded}
use Rattle.gz_lanes.proofs.plain.add_multiple.Given as goal

abbrev pub invariant-loop-i : goal.invariant-loop-i
invariant-loop-i l = HasAdded l.coefficient l.source l.initial.sum l.sum l.i
