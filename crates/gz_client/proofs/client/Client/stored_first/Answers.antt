use Rattle.std.proofs.Common.{◌+◌, ◌≤◌, [], List, Some, None, sym, ◌∙◌, subst}
use Rattle.std.proofs.lemmas.Bool.{false≢true}
use Rattle.gz_core.specs.declared.calls.Answer.TheVariants.{Short}
use Rattle.gz_core.specs.declared.requests.Out.{Out}
use Rattle.gz_core.specs.declared.requests.Turn.{Turn}
use Rattle.gz_round.specs.declared.run.Run.{Run}
use Rattle.gz_round.specs.Following.{Ready}
use Rattle.gz_client.specs.Changes.{changed}
use Rattle.gz_client.specs.Turning.{TurnsBy, HasCountedFirst}
use Rattle.gz_client.specs.declared.client.Client.{Client}
use Rattle.gz_client.specs.declared.running.Change.{Change}
use Rattle.gz_client.specs.declared.running.Change.TheVariants.{Runs}
use Rattle.gz_client.specs.declared.running.Puts.{Puts}
use Rattle.gz_client.proofs.StoringFirst.{stores_on, ends_short, looks}
use Rattle.gz_client.proofs.client.Client.stored_first.Goals as goal

pub returns-then-has_enough-clause-ok : goal.returns-then-has_enough-clause-ok
returns-then-has_enough-clause-ok c =
    let client : Client = c.args.self.now in
    λ w past ms round h.
    let here : HasCountedFirst client.config w past c.args.run.now c.in_ok-puts.puts ms = subst (λ (p : Puts). HasCountedFirst client.config w past c.args.run.now p ms) (sym c.in_ok-puts.ensures) h in
    let ready : Ready client.config w past c.in_ok-run.run' ms = subst (λ (r : Run). Ready client.config w past r ms) (sym c.in_ok-run.ensures) h.ready in
    let enough = subst (λ (p : Puts). client.config.k + client.config.f ≤ p.counts.stored) (sym c.in_ok-puts.ensures) (c.has_enough.ensures.0 c.if-has_enough.true) in
    subst (λ (t : Turn). TurnsBy client (changed client c.runs_on.result.0) c.args.first t w past ms) (sym c.runs_on.ensures.turn)
    (subst (λ (k : Change). TurnsBy client (changed client k) c.args.first (record { send = c.in_ok-send.send; answer = None }) w past ms) (sym c.runs_on.ensures.change)
    (looks client c.args.run.now c.open.new.self c.in_ok-puts.puts c.args.first c.in_ok-send.send w past ms enough c.requires.config here (c.in_ok-send.ensures.runs w past ms ready h.only) (c.in_ok-send.ensures.reads w past ms ready h.only)))

pub returns-then-has_lost_too_many-clause-ok : goal.returns-then-has_lost_too_many-clause-ok
returns-then-has_lost_too_many-clause-ok c =
    let client : Client = c.args.self.now in
    λ w past ms round h.
    subst (λ (t : Turn). TurnsBy client (changed client c.ends.result.0) c.args.first t w past ms) (sym c.ends.ensures.turn)
    (subst (λ (k : Change). TurnsBy client (changed client k) c.args.first (record { send = c.new.result; answer = Some (Short c.args.counts.stored) }) w past ms) (sym c.ends.ensures.change)
    (subst (λ (s : List Out). TurnsBy client (changed client (Runs client.calls client.round None)) c.args.first (record { send = s; answer = Some (Short c.args.counts.stored) }) w past ms) (sym c.new.ensures)
    (ends_short client c.args.run.now c.args.puts.now c.args.n c.args.first c.args.counts w past ms (c.has_lost_too_many.ensures.0 c.if-has_lost_too_many.true) round h)))

pub returns-clause-ok : goal.returns-clause-ok
returns-clause-ok c =
    let client : Client = c.args.self.now in
    λ w past ms round h.
    subst (λ (t : Turn). TurnsBy client (changed client c.goes_on.result.0) c.args.first t w past ms) (sym c.goes_on.ensures.turn)
    (subst (λ (k : Change). TurnsBy client (changed client k) c.args.first (record { send = []; answer = None }) w past ms) (sym c.goes_on.ensures.change)
    (stores_on client c.args.run.now c.args.puts.now c.args.n c.args.first c.args.counts w past ms c.requires.running
    (λ e. false≢true (sym c.if-has_enough.false ∙ c.has_enough.ensures.1 e)) (λ e. false≢true (sym c.if-has_lost_too_many.false ∙ c.has_lost_too_many.ensures.1 e)) round h))
