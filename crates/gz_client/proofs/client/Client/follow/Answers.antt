use Rattle.std.proofs.Common.{Some, None, refl, sym, subst}
use Rattle.std.proofs.lemmas.Result.{IfOk-weaker}
use Rattle.gz_core.specs.History.{sent_from}
use Rattle.gz_core.specs.declared.requests.Turn.{Turn}
use Rattle.gz_round.specs.Starting.{SendsLast}
use Rattle.gz_round.specs.declared.outcome.Outcome.TheVariants.{Goes, Placed as PlacedAt, Learnt, Ends}
use Rattle.gz_client.specs.Changes.{changed}
use Rattle.gz_client.specs.Turning.{HasFollowed, FollowsBy}
use Rattle.gz_client.specs.declared.client.Client.{Client}
use Rattle.gz_client.specs.declared.running.Change.{Change}
use Rattle.gz_client.specs.declared.running.Puts.{Puts}
use Rattle.gz_client.proofs.Following.{follows_on, follows_placed, follows_learnt, follows_ended}
use Rattle.gz_client.proofs.client.Client.follow.Goals as goal

pub returns-in_ok-puts-in-Goes-clause-ok : goal.returns-in_ok-puts-in-Goes-clause-ok
returns-in_ok-puts-in-Goes-clause-ok c =
    let client : Client = c.args.self.now in
    λ w past closing ms h below.
    subst (λ (t : Turn). FollowsBy client (changed client c.runs_on.result.0) c.args.first t w past closing ms) (sym c.runs_on.ensures.turn)
    (subst (λ (k : Change). FollowsBy client (changed client k) c.args.first (record { send = c.args.turn.send; answer = None }) w past closing ms) (sym c.runs_on.ensures.change)
    (follows_on client c.args.run c.in_ok-puts-in-Goes.puts c.args.first c.args.turn.send w past closing ms c.requires.sends
    (subst (λ (p : Puts). HasFollowed client.config w past c.args.run p closing (sent_from c.args.first c.args.turn.send ms) Goes) (sym c.in_ok-puts-in-Goes.ensures)
    (subst (λ o. HasFollowed client.config w past c.args.run c.args.puts.now closing (sent_from c.args.first c.args.turn.send ms) o) c.in-Goes.is h))))

pub returns-in-Placed-clause-ok : goal.returns-in-Placed-clause-ok
returns-in-Placed-clause-ok c =
    IfOk-weaker c.place.result _ _ (λ after p. λ w past closing ms h below.
    follows_placed c.args.self.now c.args.run c.args.puts.now c.in-Placed.version c.args.first c.args.turn.send after.0 after.1 w past closing ms c.requires.sends (subst (λ o. SendsLast o c.args.turn.send) c.in-Placed.is c.requires.ends)
    (subst (λ o. HasFollowed c.args.self.now.config w past c.args.run c.args.puts.now closing (sent_from c.args.first c.args.turn.send ms) o) c.in-Placed.is h) p) c.place.ensures.ok

pub returns-in-Learnt-clause-ok : goal.returns-in-Learnt-clause-ok
returns-in-Learnt-clause-ok c =
    IfOk-weaker c.read.result _ _ (λ after p. λ w past closing ms h below.
    follows_learnt c.args.self.now c.args.run c.args.puts.now c.in-Learnt.version c.in-Learnt.value c.args.first c.args.turn.send after.0 after.1 w past closing ms c.requires.sends (subst (λ o. SendsLast o c.args.turn.send) c.in-Learnt.is c.requires.ends)
    (subst (λ o. HasFollowed c.args.self.now.config w past c.args.run c.args.puts.now closing (sent_from c.args.first c.args.turn.send ms) o) c.in-Learnt.is h) below p) c.read.ensures

pub returns-in-Ends-clause-ok : goal.returns-in-Ends-clause-ok
returns-in-Ends-clause-ok c =
    let client : Client = c.args.self.now in
    λ w past closing ms h below.
    subst (λ (t : Turn). FollowsBy client (changed client c.ends.result.0) c.args.first t w past closing ms) (sym c.ends.ensures.turn)
    (subst (λ (k : Change). FollowsBy client (changed client k) c.args.first (record { send = c.args.turn.send; answer = Some c.in-Ends.answer }) w past closing ms) (sym c.ends.ensures.change)
    (follows_ended client c.args.run c.args.puts.now c.in-Ends.answer c.args.first c.args.turn.send w past closing ms c.requires.sends (subst (λ o. SendsLast o c.args.turn.send) c.in-Ends.is c.requires.ends)
    (subst (λ o. HasFollowed client.config w past c.args.run c.args.puts.now closing (sent_from c.args.first c.args.turn.send ms) o) c.in-Ends.is h)))
