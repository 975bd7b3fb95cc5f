use Rattle.gz_world.proofs.world.World.call_and_live.Goals as goal

pub returns-in-Some-clause-call : goal.returns-in-Some-clause-call
returns-in-Some-clause-call g c = λ events traces fits. rw c.in-Some.is (c.last_call.ensures events traces fits)

pub returns-in-Some-clause-live : goal.returns-in-Some-clause-live
returns-in-Some-clause-live g c = λ events traces fits. rw c.in-Some.is (c.lowest_live.ensures events traces fits)
