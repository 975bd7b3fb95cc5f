use Rattle.std.proofs.lemmas.Result.{IfOk-weaker}
use Rattle.gz_round.specs.Acting.{CanAct}
use Rattle.std.proofs.Common.{[], sym, subst}
use Rattle.gz_core.specs.History.{sent_from}
use Rattle.gz_round.specs.Starting.{AreRowRequests, ReadAlone}
use Rattle.gz_round.specs.Following.{HasTurned}
use Rattle.gz_round.proofs.Passes.{alone_last, none_alone, none_requested}
use Rattle.gz_round.specs.Acting.{ChoiceMeans}
use Rattle.gz_round.proofs.GivingIn.{given_in_turned}
use Rattle.gz_round.proofs.Phases.{classic_no_vote}
use Rattle.gz_round.proofs.run.Run.propose_or_step.Goals as goal

pub returns-in-GiveIn-clause-turned : goal.returns-in-GiveIn-clause-turned
returns-in-GiveIn-clause-turned c = λ w past ms a.
    subst (λ outs. HasTurned c.args.config.now w past c.args.self.now (sent_from c.args.first outs ms) c.give_in.result.outcome) (sym c.give_in.ensures.send)
    (subst (HasTurned c.args.config.now w past c.args.self.now (sent_from c.args.first [] ms)) (sym c.give_in.ensures.outcome)
    (given_in_turned c.args.config.now w past c.args.self.now ms c.requires.config a.ready.stands a.going (subst (ChoiceMeans c.args.config.now w past c.args.self.now ms) c.in-GiveIn.is (c.in_ok-choose.ensures w past ms a))))

pub choose-requires-clause-config : goal.choose-requires-clause-config
choose-requires-clause-config c = c.requires.config

pub choose-requires-clause-acts : goal.choose-requires-clause-acts
choose-requires-clause-acts c = c.requires.acts

pub step_or_prepare-requires-clause-config : goal.step_or_prepare-requires-clause-config
step_or_prepare-requires-clause-config c = c.requires.config

pub step_or_prepare-requires-clause-first : goal.step_or_prepare-requires-clause-first
step_or_prepare-requires-clause-first c = c.requires.first

pub step_or_prepare-requires-clause-carries : goal.step_or_prepare-requires-clause-carries
step_or_prepare-requires-clause-carries c =
    let k : CanAct c.args.config.now c.args.self.now = c.requires.acts in
    (k.0, k.1, k.2, record { acts = k.3; few = subst (ChoiceMeans c.args.config.now k.0 k.1 c.args.self.now k.2) c.in-Wait.is (c.in_ok-choose.ensures k.0 k.1 k.2 k.3) })

pub step_or_prepare-requires-in-Accept-clause-config : goal.step_or_prepare-requires-in-Accept-clause-config
step_or_prepare-requires-in-Accept-clause-config c = c.requires.config

pub step_or_prepare-requires-in-Accept-clause-first : goal.step_or_prepare-requires-in-Accept-clause-first
step_or_prepare-requires-in-Accept-clause-first c = c.requires.first

pub step_or_prepare-requires-in-Accept-clause-carries : goal.step_or_prepare-requires-in-Accept-clause-carries
step_or_prepare-requires-in-Accept-clause-carries c =
    let k : CanAct c.args.config.now c.args.self.now = c.requires.acts in
    (k.0, k.1, k.2, (subst (ChoiceMeans c.args.config.now k.0 k.1 c.args.self.now k.2) c.in-Accept.is (c.in_ok-choose.ensures k.0 k.1 k.2 k.3)).1)

pub returns-in-Wait-clause-turned : goal.returns-in-Wait-clause-turned
returns-in-Wait-clause-turned c =
    IfOk-weaker c.step_or_prepare.result _ _ (λ turn p. λ w past ms a.
    p w past ms (record { acts = a; few = subst (ChoiceMeans c.args.config.now w past c.args.self.now ms) c.in-Wait.is (c.in_ok-choose.ensures w past ms a) })) c.step_or_prepare.ensures.turned

pub returns-in-Accept-clause-turned : goal.returns-in-Accept-clause-turned
returns-in-Accept-clause-turned c =
    IfOk-weaker c.step_or_prepare-in-Accept.result _ _ (λ turn p. λ w past ms a.
    p w past ms (subst (ChoiceMeans c.args.config.now w past c.args.self.now ms) c.in-Accept.is (c.in_ok-choose.ensures w past ms a)).1) c.step_or_prepare-in-Accept.ensures.turned

pub step_or_prepare-requires-clause-round : goal.step_or_prepare-requires-clause-round
step_or_prepare-requires-clause-round c = c.requires.round

pub step_or_prepare-requires-in-Accept-clause-round : goal.step_or_prepare-requires-in-Accept-clause-round
step_or_prepare-requires-in-Accept-clause-round c = c.requires.round

pub returns-in-GiveIn-clause-sends : goal.returns-in-GiveIn-clause-sends
returns-in-GiveIn-clause-sends c = subst AreRowRequests (sym c.give_in.ensures.send) none_requested

pub returns-in-GiveIn-clause-ends : goal.returns-in-GiveIn-clause-ends
returns-in-GiveIn-clause-ends c = alone_last c.give_in.result.outcome c.give_in.result.send (subst ReadAlone (sym c.give_in.ensures.send) none_alone)

pub returns-in-Accept-clause-fast : goal.returns-in-Accept-clause-fast
returns-in-Accept-clause-fast c =
    let k : CanAct c.args.config.now c.args.self.now = c.requires.acts in
    let classic = (subst (ChoiceMeans c.args.config.now k.0 k.1 c.args.self.now k.2) c.in-Accept.is (c.in_ok-choose.ensures k.0 k.1 k.2 k.3)).0 in
    IfOk-weaker c.step_or_prepare-in-Accept.result _ _ (λ turn p. classic_no_vote c.args.self.now.stage c.in-Accept.stage _ classic p) c.step_or_prepare-in-Accept.ensures.fast

pub returns-in-GiveIn-clause-fast : goal.returns-in-GiveIn-clause-fast
returns-in-GiveIn-clause-fast c = λ v is. is
