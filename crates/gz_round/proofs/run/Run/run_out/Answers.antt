use Rattle.std.proofs.Common.{sym, subst}
use Rattle.std.proofs.lemmas.Result.{IfOk-weaker}
use Rattle.gz_core.specs.History.{sent_from}
use Rattle.gz_round.specs.declared.outcome.Outcome.TheVariants.{Ends}
use Rattle.gz_round.specs.Starting.{AreRowRequests, ReadAlone}
use Rattle.gz_round.specs.Following.{HasTurned}
use Rattle.gz_round.specs.Acting.{CanRunOut, Prepares}
use Rattle.gz_round.proofs.GivingIn.{ended_turned}
use Rattle.gz_round.proofs.Passes.{none_alone, none_requested}
use Rattle.gz_round.proofs.Prepares.{out_prepares}
use Rattle.gz_round.proofs.run.Run.run_out.Goals as goal

pub returns-in-Some-clause-turned : goal.returns-in-Some-clause-turned
returns-in-Some-clause-turned c = λ w past ms r.
    subst (λ outs. HasTurned c.args.config.now w past c.args.self.now (sent_from c.args.first outs ms) (Ends c.in-Some.answer)) (sym c.new.ensures)
    (ended_turned c.args.config.now w past c.args.self.now ms c.in-Some.answer c.requires.config r (sym c.in-Some.ensures))

pub returns-in-Some-clause-sends : goal.returns-in-Some-clause-sends
returns-in-Some-clause-sends c = subst AreRowRequests (sym c.new.ensures) none_requested

pub returns-in-Some-clause-ends : goal.returns-in-Some-clause-ends
returns-in-Some-clause-ends c = subst ReadAlone (sym c.new.ensures) none_alone

pub prepare-requires-clause-prepares : goal.prepare-requires-clause-prepares
prepare-requires-clause-prepares c =
    let k : CanRunOut c.args.config.now c.args.self.now = c.requires.runs_out in
    (k.0, k.1, k.2, subst (Prepares c.args.config.now k.0 k.1 c.args.self.now k.2) (sym c.working-version.ensures) (out_prepares c.args.config.now k.0 k.1 c.args.self.now k.2 k.3 (sym c.in-None.ensures)))

pub returns-in-None-clause-turned : goal.returns-in-None-clause-turned
returns-in-None-clause-turned c =
    IfOk-weaker c.prepare.result _ _ (λ turn h. λ w past ms r.
    h w past ms (subst (Prepares c.args.config.now w past c.args.self.now ms) (sym c.working-version.ensures) (out_prepares c.args.config.now w past c.args.self.now ms r (sym c.in-None.ensures)))) c.prepare.ensures.turned

pub prepare-requires-clause-round : goal.prepare-requires-clause-round
prepare-requires-clause-round c = c.requires.round

pub returns-in-Some-clause-fast : goal.returns-in-Some-clause-fast
returns-in-Some-clause-fast c = λ v is. is
