use Rattle.std.proofs.Common.{arith}
use Rattle.gz_lanes.specs.Combination.{contents}
use Rattle.gz_lanes.proofs.Differences.{differences_done}
use Rattle.gz_lanes.proofs.vector.one_sum.Goals as goal

pub returns : goal.returns
returns c = differences_done c.args.row.now (contents c.args.sources.now) c.args.at c.loop-j.j c.loop-j.total (omega (arith, c.requires.paired, c.requires.some, c.loop-j-test.false, c.loop-j.auto.j)) c.loop-j.invariant
