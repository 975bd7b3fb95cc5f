use Rattle.std.proofs.Common.{length, ◌+◌, ◌≤◌, arith}
use Rattle.gz_lanes.specs.Combination.{contents}
use Rattle.gz_lanes.proofs.Columns.{source_holds, loaded}
use Rattle.gz_lanes.proofs.Differences.{difference_added}
use Rattle.gz_lanes.proofs.vector.add_difference.Goals as goal

pub load-requires : goal.load-requires
load-requires c = source_holds (λ s. c.args.at + 16 ≤ length s) c.args.sources.now c.args.j (omega (arith, c.requires.paired, c.requires.within)) c.requires.inside

pub returns : goal.returns
returns c =
    let sources = c.args.sources.now in
    difference_added c.args.row.now (contents sources) c.args.at c.args.j c.args.base c.load.result c.sum-difference.result c.times.result c.args.below c.sum.result
    c.requires.base_is (loaded sources c.args.at c.args.j c.load.result c.load.ensures.lanes)
    c.sum-difference.ensures c.times.ensures.lanes c.requires.below_is c.sum.ensures
