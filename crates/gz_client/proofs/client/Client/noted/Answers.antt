use Rattle.std.proofs.Common.{◌∷◌, ◌∙◌, Option, sym, ap, subst}
use Rattle.std.specs.Option.{option_copied}
use Rattle.gz_core.specs.declared.requests.Reply.{Reply}
use Rattle.gz_round.specs.Following.{Ready}
use Rattle.gz_round.specs.declared.run.Run.{Run}
use Rattle.gz_client.specs.Traces.{told_of}
use Rattle.gz_client.proofs.client.Client.noted.Goals as goal

pub returns-in_ok-note_reply-in-Some-clause-ready : goal.returns-in_ok-note_reply-in-Some-clause-ready
returns-in_ok-note_reply-in-Some-clause-ready c = λ w past ms a l awaits ready.
    subst (λ (o : Option Reply). Ready c.args.self.now.config w past c.note_reply.new.self (told_of c.args.self.now.config.n o a ∷ ms)) (ap (λ o. option_copied o) (sym c.in-Some.is))
    (c.in_ok-note_reply-in-Some.ensures.ready w past ms a l awaits (subst (λ (r : Run). Ready c.args.self.now.config w past r ms) (sym c.in_ok-run.ensures) ready))

pub returns-in-None-clause-ready : goal.returns-in-None-clause-ready
returns-in-None-clause-ready c = λ w past ms a l awaits ready.
    subst (λ (o : Option Reply). Ready c.args.self.now.config w past c.note_give_up.new.self (told_of c.args.self.now.config.n o a ∷ ms)) (ap (λ o. option_copied o) (sym c.in-None.is))
    (c.note_give_up.ensures.ready c.args.self.now.config w past ms a l awaits (subst (λ (r : Run). Ready c.args.self.now.config w past r ms) (sym c.in_ok-run.ensures) ready))

pub returns-in_ok-note_reply-in-Some-clause-stage : goal.returns-in_ok-note_reply-in-Some-clause-stage
returns-in_ok-note_reply-in-Some-clause-stage c = c.in_ok-note_reply-in-Some.ensures.stage ∙ ap (λ (r : Run). r.stage) c.in_ok-run.ensures

pub returns-in-None-clause-stage : goal.returns-in-None-clause-stage
returns-in-None-clause-stage c = c.note_give_up.ensures.stage ∙ ap (λ (r : Run). r.stage) c.in_ok-run.ensures
