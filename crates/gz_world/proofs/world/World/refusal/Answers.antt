use Rattle.gz_world.proofs.world.World.refusal.Goals as goal

pub returns-in-Begin : goal.returns-in-Begin
returns-in-Begin g c = λ traces fits. rw c.in-Begin.is (c.begin_refusal.ensures traces c.in-Begin.call fits)

pub returns-in-Deliver : goal.returns-in-Deliver
returns-in-Deliver g c = λ traces fits. rw c.in-Deliver.is (c.deliver_refusal.ensures traces)
