use Rattle.gz_lanes.specs.Combination.{contents}
use Rattle.gz_lanes.proofs.Products.{stored_more}
use Rattle.gz_lanes.proofs.vector.put.Goals as goal

pub returns : goal.returns
returns c before =
    stored_more c.args.row.now (contents c.args.sources.now) c.args.sums c.args.block.now c.store.new.bytes c.args.at c.args.offset c.store.ensures c.requires.sums_are before
