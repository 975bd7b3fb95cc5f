use Rattle.gz_code.specs.Encoding.{AreDataPieces}
use Rattle.gz_code.specs.Interpolation.{rows}
use Rattle.gz_code.proofs.encode.data_pieces.Given as goal

abbrev pub invariant-loop-j : goal.invariant-loop-j
invariant-loop-j l = AreDataPieces l.object l.width l.j (rows l.pieces)
