use Rattle.std.proofs.Common.{arith, ◌+◌, ◌∙◌}
use Rattle.gz_lanes.specs.Combination.{contents}
use Rattle.gz_lanes.proofs.Products.{pieces_more}
use Rattle.gz_lanes.proofs.pieces.combined_rows.Goals as goal

pub loop-at-preserved : goal.loop-at-preserved
loop-at-preserved c =
    let made = c.in_ok-combined.ensures in
    let one = pieces_more c.args.rows.now (contents c.args.sources.now) c.args.width c.loop-at.at (c.loop-at.at + 1) c.loop-at.pieces.items c.push.new.self.items c.in_ok-combined.field-0 c.index-rows-at.result
    c.loop-at.invariant.0 c.loop-at-test.true c.index-rows-at.is made.piece c.in_ok-push.ensures.items (omega arith) in
    (one, made.copies.0, made.copies.1 ∙ c.loop-at.invariant.2, made.copies.2)
