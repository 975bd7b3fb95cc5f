-- The request that is awaited of a site.
use Rattle.std.proofs.Common.{◌≡◌, ◌==◌, ℕ, Bool, true, false, List, [], ◌∷◌, Option, Some, None, refl, sym, ap, ◌∙◌, subst, inl, inr, ◌⊎◌}
use Rattle.std.proofs.lemmas.Bool.{cases_Bool, cond-true, cond-false, eqb-true, and_parts}
use Rattle.std.proofs.lemmas.Option.{same_Some, none-some}
use Rattle.gz_core.specs.History.{Asked, Action, Sent, Handed, GaveUp, Rested, GaveIn, is_row_request}
use Rattle.gz_round.specs.declared.hearing.Seen.{Seen}
use Rattle.gz_round.specs.Sites.{SiteNow, site_now, after, after_reply, after_sent, concerns, is_to, seen_in, written_by, is_changed}
use Rattle.gz_round.proofs.Actions.{now_here, now_other}

-- a request about a row names the site that it is to
pub to_site : (a : Asked) (s : ℕ) → is_to a s ≡ true → a.site ≡ s
to_site a s k = eqb-true a.site s (and_parts (is_row_request a.op) (a.site == s) k).1

-- a request that is awaited after one was sent is that one, or was awaited before
pub awaits_sent : (ms : List Action) (a b : Asked) (s : ℕ) → (site_now (Sent a ∷ ms) s).awaits ≡ Some b → ((a ≡ b) × (is_to a s ≡ true)) ⊎ ((site_now ms s).awaits ≡ Some b)
awaits_sent ms a b s e =
    elim (cases_Bool (is_to a s)) [
      | inl k ↦ (
          let here : (after_sent a (site_now ms s)).awaits ≡ Some b = sym (ap (λ n. n.awaits) (now_here (Sent a) ms s k)) ∙ e in
          elim (cases_Bool a.awaited) [
            | inl t ↦ inl (same_Some a b (sym (ap (λ n. n.awaits) (cond-true a.awaited _ (site_now ms s) t)) ∙ here), k)
            | inr t ↦ inr (sym (ap (λ n. n.awaits) (cond-false a.awaited _ (site_now ms s) t)) ∙ here)
          ])
      | inr k ↦ inr (sym (ap (λ n. n.awaits) (now_other (Sent a) ms s k)) ∙ e)
    ]

-- a reply ends the request that was awaited
pub reply_idle : (seen : Option Seen) (changed : Bool) (now : SiteNow) → (after_reply seen changed now).awaits ≡ None
reply_idle (Some seen) changed now = refl
reply_idle None true now = refl
reply_idle None false now = refl

-- an action that ends a request leaves the others awaited
pub ended_awaits : (ms : List Action) (m : Action) (b : Asked) (s : ℕ) → ((now : SiteNow) → (after m now).awaits ≡ None) → (site_now (m ∷ ms) s).awaits ≡ Some b → (site_now ms s).awaits ≡ Some b
ended_awaits ms m b s idle e =
    elim (cases_Bool (concerns m s)) [
      | inl k ↦ absurd (none-some b (sym (ap (λ n. n.awaits) (now_here m ms s k) ∙ idle (site_now ms s)) ∙ e))
      | inr k ↦ sym (ap (λ n. n.awaits) (now_other m ms s k)) ∙ e
    ]

-- a request that is awaited of a site is about its row
pub awaits_to : (ms : List Action) (s : ℕ) (a : Asked) → (site_now ms s).awaits ≡ Some a → is_to a s ≡ true
awaits_to [] s a e = absurd (none-some a e)
awaits_to (Sent b ∷ ms) s a e =
    elim (awaits_sent ms b a s e) [
      | inl k ↦ subst (λ (z : Asked). is_to z s ≡ true) k.0 k.1
      | inr k ↦ awaits_to ms s a k
    ]
awaits_to (Handed b reply ∷ ms) s a e = awaits_to ms s a (ended_awaits ms (Handed b reply) a s (reply_idle (seen_in (written_by b.op) reply) (is_changed reply)) e)
awaits_to (GaveUp b ∷ ms) s a e = awaits_to ms s a (ended_awaits ms (GaveUp b) a s (λ now. refl) e)
awaits_to (Rested ∷ ms) s a e = awaits_to ms s a (ended_awaits ms Rested a s (λ now. refl) e)
awaits_to (GaveIn ∷ ms) s a e = awaits_to ms s a (ended_awaits ms GaveIn a s (λ now. refl) e)
