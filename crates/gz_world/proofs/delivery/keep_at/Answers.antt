use Rattle.gz_world.specs.States.{with_reply}
use Rattle.gz_world.proofs.Elements.{element_set}
use Rattle.gz_world.proofs.delivery.keep_at.Goals as goal

pub returns : goal.returns
returns c = λ r there. element_set c.args.net.now.items c.args.at c.index_mut.result.now c.keep.new.self r (with_reply c.args.tick c.args.reply) c.requires.at c.index_mut.ensures.value c.keep.ensures there
