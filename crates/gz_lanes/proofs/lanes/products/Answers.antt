use Rattle.gz_lanes.proofs.Products.{products_are}
use Rattle.gz_lanes.proofs.lanes.products.Goals as goal

pub returns-clause-lanes : goal.returns-clause-lanes
returns-clause-lanes c =
    products_are c.args.coefficient c.args.bytes c.low_halves.result c.high_halves.result c.args.low_table c.args.high_table c.look_up-of_low.result c.look_up-of_high.result c.sum.result
    c.requires.low c.requires.high c.low_halves.ensures c.high_halves.ensures.halves c.high_halves.ensures.small c.look_up-of_low.ensures c.look_up-of_high.ensures c.sum.ensures
