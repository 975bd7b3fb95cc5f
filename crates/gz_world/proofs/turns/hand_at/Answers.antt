use Rattle.gz_world.specs.States.{with_handed}
use Rattle.gz_world.proofs.Elements.{element_set}
use Rattle.gz_world.proofs.turns.hand_at.Goals as goal

pub returns-clause-marked : goal.returns-clause-marked
returns-clause-marked c = λ r there. element_set c.args.net.now.items c.args.at c.index_mut.result.now c.hand.new.self r (with_handed c.args.tick c.args.which) c.requires c.index_mut.ensures.value c.hand.ensures there
