use Rattle.std.proofs.Common.{arith, ◌<◌}
use Rattle.gz_code.proofs.Seen.{index_of_item, index_below, seen_none, seen_more}
use Rattle.gz_code.proofs.decode.check_repeats.Goals as goal

pub loop-index-init : goal.loop-index-init
loop-index-init c = seen_none c.args.pieces.now

pub bounds-seen-index : goal.bounds-seen-index
bounds-seen-index c =
    let index = index_of_item c.args.pieces.now c.loop-index.index-index c.loop-index-item.result c.loop-index-test.true c.loop-index-item.is in
    omega (arith, index, index_below c.args.pieces.now 256 c.loop-index.index-index c.requires c.loop-index-test.true)

pub bounds-seen-index-in-loop-index : goal.bounds-seen-index-in-loop-index
bounds-seen-index-in-loop-index c =
    let index = index_of_item c.args.pieces.now c.loop-index.index-index c.loop-index-item.result c.loop-index-test.true c.loop-index-item.is in
    omega (arith, index, index_below c.args.pieces.now 256 c.loop-index.index-index c.requires c.loop-index-test.true)

pub loop-index-preserved : goal.loop-index-preserved
loop-index-preserved c =
    let index = index_of_item c.args.pieces.now c.loop-index.index-index c.loop-index-item.result c.loop-index-test.true c.loop-index-item.is in
    let fits : c.loop-index-item.result.0 < 256 = omega (arith, index, index_below c.args.pieces.now 256 c.loop-index.index-index c.requires c.loop-index-test.true) in
    seen_more c.args.pieces.now c.loop-index.index-index c.loop-index-item.result.0 c.loop-index.seen c.loop-index.invariant index fits c.if-seen-index.false

pub returns : goal.returns
returns c place l = c.loop-index.invariant.distinct place (omega arith)
