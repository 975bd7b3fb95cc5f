use Rattle.std.proofs.Common.{arith}
use Rattle.gz_lanes.specs.Combination.{contents}
use Rattle.gz_code.proofs.Rebuilding.{slices_more}
use Rattle.gz_code.proofs.decode.slices_given.Goals as goal

pub loop-i-preserved : goal.loop-i-preserved
loop-i-preserved c =
    slices_more c.args.pieces.now c.loop-i.i (contents c.loop-i.slices.items) (contents c.push_slice.new.slices.items) c.as_slice.result.now c.index-pieces-i.result c.loop-i.invariant
    (omega (arith, c.requires, c.loop-i-test.true)) c.index-pieces-i.is c.as_slice.ensures.value c.push_slice.ensures.are_bytes c.in_ok-push_slice.ensures.added
