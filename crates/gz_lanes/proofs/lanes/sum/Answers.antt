use Rattle.std.proofs.Common.{bit_xor}
use Rattle.gz_lanes.proofs.Vectors.{zipped}
use Rattle.gz_lanes.proofs.lanes.sum.Goals as goal

pub returns : goal.returns
returns c = zipped bit_xor c.args.a c.args.b c.fits-a.0 c.fits-b.0
