use Rattle.std.proofs.Common.{refl, slice_index}
use Rattle.gz_lanes.specs.Combination.{contents}
use Rattle.gz_code.proofs.Growing.{values_more}
use Rattle.gz_code.proofs.interpolate.plain_pieces_at.Goals as goal

pub loop-target-preserved : goal.loop-target-preserved
loop-target-preserved c =
    let n = c.loop-target.target-index in
    values_more c.args.points.now (contents c.args.sources.now) c.args.width c.args.targets.now n (slice_index c.args.targets.now n) c.loop-target.pieces.items c.push.new.self.items c.in_ok-piece_at.field-0
    c.loop-target.invariant refl c.in_ok-piece_at.ensures c.in_ok-push.ensures.items
