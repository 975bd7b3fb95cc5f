use Rattle.std.proofs.Common.{[], refl, inl}
use Rattle.std.proofs.lemmas.Result.{IfOk-weaker}
use Rattle.gz_round.proofs.Phases.{ends_not}
use Rattle.gz_round.proofs.run.Run.take_turn.Goals as goal

pub returns-in-Some-clause-turned : goal.returns-in-Some-clause-turned
returns-in-Some-clause-turned c =
    IfOk-weaker c.close.result _ _ (λ turn p. λ w past ms r.
    ([], inl refl, p w past ms r (c.in-Some.ensures w past ms r.stands))) c.close.ensures.turned

pub returns-in-Some-clause-ends : goal.returns-in-Some-clause-ends
returns-in-Some-clause-ends c = c.close.ensures.ends

pub returns-in-Some-clause-goes : goal.returns-in-Some-clause-goes
returns-in-Some-clause-goes c = IfOk-weaker c.close.result _ _ (λ turn same. λ w past ms r goes. absurd (ends_not turn.outcome _ same goes)) c.close.ensures.outcome
