-- Sites that tell their state go on telling it, and the configuration stays.
use Rattle.std.proofs.Common.{ℕ, ◌≡◌, ◌<◌, Some, None, refl, sym, ◌∙◌, subst, inl, inr}
use Rattle.std.specs.Prelude.{Option, MatchOption, IsSome}
use Rattle.std.proofs.lemmas.Bool.{cases_eq}
use Rattle.gz_config.specs.declared.Config.{Config}
use Rattle.gz_core.specs.declared.requests.Reply.{Reply}
use Rattle.gz_site.specs.Told.{Told, Tells}
use Rattle.gz_world.specs.Refusals.{refusal_of}
use Rattle.gz_world.specs.Reached.{AllTell}
use Rattle.gz_world.specs.States.{State, RequestAt}
use Rattle.gz_world.specs.Steps.{SitesStay, Answers, DeliversBy, Does, Skips, HasEffect, WorldStep}
use Rattle.gz_world.specs.declared.events.Effect.{Effect}
use Rattle.gz_world.specs.declared.events.Event.{Event}
use Rattle.gz_world.specs.declared.events.Event.TheVariants as events

told_after : (o p : Option Told) (R : Told → Told → Type 0) → Tells o p R → IsSome o → IsSome p
told_after None None R h some = some
told_after None (Some new) R h some = absurd h
told_after (Some old) None R h some = absurd h
told_after (Some old) (Some new) R h some = refl

-- what told its state still does, under the same configuration
pub record StillTell (old new : State) : Type 0 where
  pub sites : (i : ℕ) → IsSome (old.sites i) → IsSome (new.sites i)
  pub config : new.cfg ≡ old.cfg

stay_tell : (old new : State) → SitesStay old new → (i : ℕ) → IsSome (old.sites i) → IsSome (new.sites i)
stay_tell old new stay i h = subst (λ (o : Option Told). IsSome o) (sym (stay.sites i)) h

deliver_tell : (old new : State) (n : ℕ) (r : RequestAt) (reply : Reply) (effect : Effect) → DeliversBy old n r reply effect new → (i : ℕ) → IsSome (old.sites i) → IsSome (new.sites i)
deliver_tell old new n r reply effect d i h = elim (cases_eq i r.site) [
  | inl e ↦
      subst (λ k. IsSome (new.sites k)) (sym e)
      (told_after (old.sites r.site) (new.sites r.site) (λ before after. Answers before r.op reply after) d.site (subst (λ k. IsSome (old.sites k)) e h))
  | inr ne ↦ subst (λ (o : Option Told). IsSome o) (sym (d.others i ne)) h
]

does_tell : (old new : State) (event : Event) (effect : Effect) → Does old event effect new → StillTell old new
does_tell old new events.OpenSession effect d = record { sites = stay_tell old new d.sites; config = d.frame.cfg }
does_tell old new (events.Begin session call) effect d = record { sites = stay_tell old new d.1.1.sites; config = d.1.1.frame.cfg }
does_tell old new (events.Deliver n) effect d = record { sites = deliver_tell old new n d.0 d.1.0 effect d.1.1; config = d.1.1.frame.cfg }
does_tell old new (events.Reply n which) effect d = record { sites = stay_tell old new d.1.1.1.1.sites; config = d.1.1.1.1.frame.cfg }
does_tell old new (events.GiveUp n) effect d = record { sites = stay_tell old new d.1.1.sites; config = d.1.1.frame.cfg }
does_tell old new (events.Crash session) effect d = record { sites = stay_tell old new d.sites; config = d.frame.cfg }

acts_tell : (old new : State) (event : Event) (effect : Effect) → HasEffect old event effect new → StillTell old new
acts_tell old new event effect acts =
    elim (refusal_of old event) as (λ o. MatchOption o (Does old event effect new) (λ why. Skips old event why effect new) → StillTell old new) [
      | None ↦ λ d. does_tell old new event effect d
      | Some why ↦ λ k. record { sites = stay_tell old new k.same.sites; config = k.same.frame.cfg }
    ] acts

-- one event
pub step_config : (old new : State) (event : Event) → WorldStep old event new → new.cfg ≡ old.cfg
step_config old new event step = step.1.1.1.1.cfg ∙ (acts_tell old step.1.0 event step.0 step.1.1.1.0).config

pub step_tell : (old new : State) (event : Event) → WorldStep old event new → AllTell old → AllTell new
step_tell old new event step tell =
    let mid = step.1.0 in
    let k = acts_tell old mid event step.0 step.1.1.1.0 in
    λ i l. stay_tell mid new step.1.1.1.1.sites i (k.sites i (tell i (subst (λ (c : Config). i < c.n) (step_config old new event step) l)))
