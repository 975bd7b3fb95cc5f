use Rattle.gz_lanes.specs.Combination.{contents}
use Rattle.gz_code.specs.Decoding.{AreSlices}
use Rattle.gz_code.proofs.decode.slices_given.Given as goal

abbrev pub invariant-loop-i : goal.invariant-loop-i
invariant-loop-i l = AreSlices l.pieces l.i (contents l.slices.items)
