use Rattle.gz_code.proofs.Growing.{located_more}
use Rattle.gz_code.proofs.decode.locate.Goals as goal

pub loop-j-preserved : goal.loop-j-preserved
loop-j-preserved c =
    located_more c.args.points.now.items c.loop-j.points.items c.place_or_add.new.points.items c.loop-j.j c.in_ok-place.place c.loop-j.order.items c.loop-j.invariant c.in_ok-place.ensures
    c.push.new.self.items c.in_ok-push.ensures.items
