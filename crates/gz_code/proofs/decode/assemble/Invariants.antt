use Rattle.gz_lanes.specs.Combination.{contents}
use Rattle.gz_code.specs.Decoding.{IsAssembled}
use Rattle.gz_code.proofs.decode.assemble.Given as goal

abbrev pub invariant-loop-j : goal.invariant-loop-j
invariant-loop-j l = IsAssembled l.order (contents l.pieces) l.width l.j l.len l.object.items
