use Rattle.gz_code.specs.Decoding.{IsLocated}
use Rattle.gz_code.proofs.decode.locate.Given as goal

abbrev pub invariant-loop-j : goal.invariant-loop-j
invariant-loop-j l = IsLocated l.initial.points.items l.points.items l.j l.order.items
