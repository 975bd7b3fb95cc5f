use Rattle.std.proofs.Common.{refl}
use Rattle.gz_world.proofs.world.World.entry_of.Goals as goal

pub returns-clause-is : goal.returns-clause-is
returns-clause-is g c = λ events traces fits. record {
  event_is = refl;
  outcome_is = refl;
  session_is = refl;
  call_is = c.call_and_live-call.ensures.call events traces fits;
  live_is = c.call_and_live-call.ensures.live events traces fits;
  sent_is = refl;
}
