use Rattle.std.proofs.Common.{arith, ◌<◌, length}
use Rattle.gz_code.proofs.Seen.{index_of_item, index_below}
use Rattle.gz_code.proofs.Rebuilding.{indices_more}
use Rattle.gz_code.proofs.decode.indices_of.Goals as goal

pub overflow_cast-index : goal.overflow_cast-index
overflow_cast-index c =
    let l : c.loop-i.i < length c.args.pieces.now = omega (arith, c.requires.enough, c.loop-i-test.true) in
    let index = index_of_item c.args.pieces.now c.loop-i.i c.index-pieces-i.result l c.index-pieces-i.is in
    record { fits = omega (arith, index, index_below c.args.pieces.now 256 c.loop-i.i c.requires.below l) }

pub loop-i-preserved : goal.loop-i-preserved
loop-i-preserved c =
    indices_more c.args.pieces.now c.loop-i.i c.loop-i.points.items c.push.new.self.items c.index-pieces-i.result c.loop-i.invariant
    (omega (arith, c.requires.enough, c.loop-i-test.true)) c.index-pieces-i.is c.in_ok-push.ensures.items
