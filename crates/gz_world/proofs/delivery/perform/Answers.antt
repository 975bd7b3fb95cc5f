use Rattle.gz_world.proofs.Results.{if_ok_map}
use Rattle.gz_world.proofs.delivery.perform.Goals as goal

pub returns-in-WriteRow-clause-kind : goal.returns-in-WriteRow-clause-kind
returns-in-WriteRow-clause-kind g c = rw c.in-WriteRow.is (if_ok_map c.write.result _ _ (λ reply k. k c.in-WriteRow.step) c.write.ensures.kind)

pub returns-in-WriteRow-clause-step : goal.returns-in-WriteRow-clause-step
returns-in-WriteRow-clause-step g c = rw c.in-WriteRow.is (if_ok_map c.write.result _ _ (λ reply k. k c.in-WriteRow.step) c.write.ensures.step)

pub returns-in-WriteRow-clause-audit : goal.returns-in-WriteRow-clause-audit
returns-in-WriteRow-clause-audit g c = rw c.in-WriteRow.is (if_ok_map c.write.result _ _ (λ reply k. k c.in-WriteRow.step) c.write.ensures.audit)
