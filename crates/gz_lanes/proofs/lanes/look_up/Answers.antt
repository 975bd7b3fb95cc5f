use Rattle.gz_lanes.proofs.Vectors.{may_look_up, looked_up}
use Rattle.gz_lanes.proofs.lanes.look_up.Goals as goal

pub swizzle : goal.swizzle
swizzle c = may_look_up c.args.places c.fits-places.0 c.requires

pub returns : goal.returns
returns c = looked_up c.args.places c.fits-places.0 c.requires c.args.table
