-- What one more action makes of the sites.
use Rattle.std.proofs.Common.{◌≡◌, ◌≢◌, ◌==◌, ℕ, ◌+◌, true, false, List, [], ◌∷◌, ◌++◌, length, None, refl, sym, ap, ◌∙◌, subst, inl, inr, arith}
use Rattle.std.proofs.lemmas.Bool.{cases_Bool, cond-true, cond-false, and_parts, and_right, ne_eqb, eq-eqb}
use Rattle.gz_core.specs.declared.requests.Out.{Out}
use Rattle.gz_core.specs.declared.requests.Reply.{Reply}
use Rattle.gz_core.specs.History.{Asked, Action, Sent, Handed, GaveUp, Rested, GaveIn, is_row_request, asked_of, sent_from}
use Rattle.gz_round.specs.Sites.{SiteNow, site_now, after, concerns, is_to, is_about_rows, heard_in, seen_in, written_by}

-- a request about a row is to the site that it names
pub is_to_same : (a : Asked) (s : ℕ) → is_row_request a.op ≡ true → a.site ≡ s → is_to a s ≡ true
is_to_same a s row e = rw row (eq-eqb a.site s e)

-- and so is no request to any other site
pub is_to_other : (a : Asked) (s : ℕ) → s ≢ a.site → is_to a s ≡ false
is_to_other a s n = and_right (is_row_request a.op) (a.site == s) (ne_eqb a.site s (λ (e : a.site ≡ s). n (sym e)))

-- a request to a site is about its row
pub is_to_row : (a : Asked) (s : ℕ) → is_to a s ≡ true → is_row_request a.op ≡ true
is_to_row a s k = (and_parts (is_row_request a.op) (a.site == s) k).0

-- an action that concerns a site is about rows
pub concerns_rows : (m : Action) (s : ℕ) → concerns m s ≡ true → is_about_rows m ≡ true
concerns_rows (Sent a) s k = is_to_row a s k
concerns_rows (Handed a reply) s k = is_to_row a s k
concerns_rows (GaveUp a) s k = is_to_row a s k
concerns_rows Rested s k = refl
concerns_rows GaveIn s k = refl

-- what a reply of a row request shows is heard
pub heard_row : (a : Asked) (reply : Reply) → is_row_request a.op ≡ true → heard_in (Handed a reply) ≡ seen_in (written_by a.op) reply
heard_row a reply row = cond-true (is_row_request a.op) (seen_in (written_by a.op) reply) None row

-- the site that an action concerns
pub now_here : (m : Action) (ms : List Action) (s : ℕ) → concerns m s ≡ true → site_now (m ∷ ms) s ≡ after m (site_now ms s)
now_here m ms s h = cond-true (concerns m s) (after m (site_now ms s)) (site_now ms s) h

-- the others stay
pub now_other : (m : Action) (ms : List Action) (s : ℕ) → concerns m s ≡ false → site_now (m ∷ ms) s ≡ site_now ms s
now_other m ms s h = cond-false (concerns m s) (after m (site_now ms s)) (site_now ms s) h

-- one more request of an event comes last
pub sent_append : (first : ℕ) (outs : List Out) (out : Out) (ms : List Action) → sent_from first (outs ++ (out ∷ [])) ms ≡ Sent (asked_of (first + length outs) out) ∷ sent_from first outs ms
sent_append first [] out ms = ap (λ k. Sent (asked_of k out) ∷ ms) (omega arith)
sent_append first (o ∷ os) out ms =
    sent_append (first + 1) os out (Sent (asked_of first o) ∷ ms) ∙ ap (λ k. Sent (asked_of k out) ∷ sent_from (first + 1) os (Sent (asked_of first o) ∷ ms)) (omega arith)

-- a fact of a site after an action, from the two cases
pub each_site : (P : SiteNow → Type 0) (m : Action) (ms : List Action) (s : ℕ) → (concerns m s ≡ true → P (after m (site_now ms s))) → (concerns m s ≡ false → P (site_now ms s)) → P (site_now (m ∷ ms) s)
each_site P m ms s here other =
    elim (cases_Bool (concerns m s)) [
      | inl e ↦ subst P (sym (now_here m ms s e)) (here e)
      | inr e ↦ subst P (sym (now_other m ms s e)) (other e)
    ]
