use Rattle.gz_code.specs.Encoding.{IsPadded}
use Rattle.gz_code.proofs.encode.padded.Given as goal

abbrev pub invariant-loop-i : goal.invariant-loop-i
invariant-loop-i l = IsPadded l.bytes l.i l.piece.items
