use Rattle.gz_world.specs.States.{with_given_up}
use Rattle.gz_world.proofs.Elements.{element_set}
use Rattle.gz_world.proofs.turns.give_up_at.Goals as goal

pub returns-clause-marked : goal.returns-clause-marked
returns-clause-marked c = λ r there. element_set c.args.net.now.items c.args.at c.index_mut.result.now c.give_up.new.self r (with_given_up c.args.tick) c.requires c.index_mut.ensures.value c.give_up.ensures there
