use Rattle.std.proofs.Common.{refl, ◌+◌}
use Rattle.gz_code.proofs.Growing.{numbers_more}
use Rattle.gz_code.proofs.encode.points_from.Goals as goal

pub loop-i-preserved : goal.loop-i-preserved
loop-i-preserved c = numbers_more c.args.first c.loop-i.i (c.args.first + c.loop-i.i) c.loop-i.points.items c.push.new.self.items c.loop-i.invariant refl c.in_ok-push.ensures.items
