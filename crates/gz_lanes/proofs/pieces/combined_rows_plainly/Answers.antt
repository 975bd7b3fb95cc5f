use Rattle.std.proofs.Common.{arith, ◌+◌}
use Rattle.gz_lanes.specs.Combination.{contents}
use Rattle.gz_lanes.proofs.Products.{pieces_more}
use Rattle.gz_lanes.proofs.pieces.combined_rows_plainly.Goals as goal

pub loop-at-preserved : goal.loop-at-preserved
loop-at-preserved c =
    pieces_more c.args.rows.now (contents c.args.sources.now) c.args.width c.loop-at.at (c.loop-at.at + 1) c.loop-at.pieces.items c.push.new.self.items c.in_ok-combined_plainly.field-0 c.index-rows-at.result
    c.loop-at.invariant c.loop-at-test.true c.index-rows-at.is c.in_ok-combined_plainly.ensures c.in_ok-push.ensures.items (omega arith)
