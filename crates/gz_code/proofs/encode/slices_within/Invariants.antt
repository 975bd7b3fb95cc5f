use Rattle.gz_lanes.specs.Combination.{contents}
use Rattle.gz_code.specs.Encoding.{AreDataPieces}
use Rattle.gz_code.proofs.encode.slices_within.Given as goal

abbrev pub invariant-loop-j : goal.invariant-loop-j
invariant-loop-j l = AreDataPieces l.object l.width l.j (contents l.slices.items)
