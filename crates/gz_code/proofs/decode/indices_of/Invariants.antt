use Rattle.gz_code.specs.Decoding.{AreIndices}
use Rattle.gz_code.proofs.decode.indices_of.Given as goal

abbrev pub invariant-loop-i : goal.invariant-loop-i
invariant-loop-i l = AreIndices l.pieces l.i l.points.items
