-- Replies as a call hears them: a row that is heard is one that a run can hold.
use Rattle.std.proofs.Common.{◌≡◌, ◌≢◌, ℕ, Bool, true, false, if◌then◌else◌, List, [], ◌∷◌, Option, Some, None, refl, sym, ap, ◌∙◌, subst, inl, inr}
use Rattle.std.proofs.lemmas.Bool.{cases_Bool, cond-true, cond-false}
use Rattle.std.proofs.lemmas.Option.{same_Some, none-some}
use Rattle.gz_core.specs.Rows.{RowAt}
use Rattle.gz_core.specs.declared.requests.Reply.{Reply}
use Rattle.gz_core.specs.declared.requests.Reply.TheVariants.{Row, NoRow, Written, Failed}
use Rattle.gz_core.specs.History.{Asked, Action, Handed, Caller, Trace, is_row_request}
use Rattle.gz_config.specs.declared.Config.{Config}
use Rattle.gz_round.specs.declared.hearing.Seen.{Seen}
use Rattle.gz_round.specs.Sites.{as_heard, if_it_stands, seen_in, written_by, is_changed, heard_in, WasHeard, can_stand}
use Rattle.gz_round.specs.Sending.{IsAllowed, AreAllowed}
use Rattle.gz_round.proofs.Columns.{empty_stands}

-- a row that stands is heard
it_stands : (n : ℕ) (row : RowAt) (reply : Reply) → can_stand n row ≡ true → if_it_stands n row reply ≡ reply
it_stands n row reply h = cond-true (can_stand n row) reply Failed h

-- any other reply of it is heard as a failure
it_fails : (n : ℕ) (row : RowAt) (reply : Reply) → can_stand n row ≡ false → if_it_stands n row reply ≡ Failed
it_fails n row reply h = cond-false (can_stand n row) reply Failed h

changed_if : (n : ℕ) (row : RowAt) (reply : Reply) → is_changed reply ≡ false → is_changed (if_it_stands n row reply) ≡ is_changed reply
changed_if n row reply e =
    elim (cases_Bool (can_stand n row)) [
      | inl h ↦ ap is_changed (it_stands n row reply h)
      | inr h ↦ ap is_changed (it_fails n row reply h) ∙ sym e
    ]

-- a write that was overtaken is heard as such, and nothing else is
pub changed_heard : (n : ℕ) (written : Option RowAt) (reply : Reply) → is_changed (as_heard n written reply) ≡ is_changed reply
changed_heard n written (Row etag row) = changed_if n row (Row etag row) refl
changed_heard n (Some row) (Written etag) = changed_if n row (Written etag) refl
changed_heard n written reply = refl

again_if : (n : ℕ) (hear : Reply → Reply) (row : RowAt) (reply : Reply) → hear Failed ≡ Failed → hear reply ≡ if_it_stands n row reply → hear (if_it_stands n row reply) ≡ if_it_stands n row reply
again_if n hear row reply fails e =
    elim (cases_Bool (can_stand n row)) [
      | inl h ↦ ap hear (it_stands n row reply h) ∙ e
      | inr h ↦ ap hear (it_fails n row reply h) ∙ (fails ∙ sym (it_fails n row reply h))
    ]

-- what was heard is heard as it is
pub heard_again : (n : ℕ) (written : Option RowAt) (reply : Reply) → as_heard n written (as_heard n written reply) ≡ as_heard n written reply
heard_again n written (Row etag row) = again_if n (as_heard n written) row (Row etag row) refl refl
heard_again n (Some row) (Written etag) = again_if n (as_heard n (Some row)) row (Written etag) refl refl
heard_again n written reply = refl

kept_stands : (n : ℕ) (row : RowAt) (reply : Reply) → Failed ≢ reply → if_it_stands n row reply ≡ reply → can_stand n row ≡ true
kept_stands n row reply other e =
    elim (cases_Bool (can_stand n row)) [
      | inl h ↦ h
      | inr h ↦ absurd (other (sym (it_fails n row reply h) ∙ e))
    ]

seen_stands : (n : ℕ) (made seen : Seen) → can_stand n made.row ≡ true → Some made ≡ Some seen → can_stand n seen.row ≡ true
seen_stands n made seen h e = subst (λ (z : Seen). can_stand n z.row ≡ true) (same_Some made seen e) h

reply_stands : (n : ℕ) (written : Option RowAt) (reply : Reply) (seen : Seen) → as_heard n written reply ≡ reply → seen_in written reply ≡ Some seen → can_stand n seen.row ≡ true
reply_stands n written (Row etag row) seen kept e = seen_stands n _ seen (kept_stands n row (Row etag row) (λ z. cc) kept) e
reply_stands n written NoRow seen kept e = seen_stands n _ seen (empty_stands n) e
reply_stands n (Some row) (Written etag) seen kept e = seen_stands n _ seen (kept_stands n row (Written etag) (λ z. cc) kept) e
reply_stands n written reply seen kept e = absurd (none-some seen e)

handed_stands : (c : Config) (a : Asked) (reply : Reply) (seen : Seen) (about : Bool) → is_row_request a.op ≡ about → (is_row_request a.op ≡ true → as_heard c.n (written_by a.op) reply ≡ reply) → (if about then seen_in (written_by a.op) reply else None) ≡ Some seen → can_stand c.n seen.row ≡ true
handed_stands c a reply seen true about kept e = reply_stands c.n (written_by a.op) reply seen (kept about) e
handed_stands c a reply seen false about kept e = absurd (none-some seen e)

action_stands : (c : Config) (w : Caller) (past : List Trace) (ms : List Action) (m : Action) (seen : Seen) → IsAllowed c w past ms m → heard_in m ≡ Some seen → can_stand c.n seen.row ≡ true
action_stands c w past ms (Handed a reply) seen may e = handed_stands c a reply seen (is_row_request a.op) refl (λ about. (may about).1) e
action_stands c w past ms m seen may e = absurd (none-some seen e)

-- a row that was heard is one that a run can hold
pub heard_stands : (c : Config) (w : Caller) (past : List Trace) (ms : List Action) (s : ℕ) (row : RowAt) → AreAllowed c w past ms → WasHeard ms s row → can_stand c.n row ≡ true
heard_stands c w past [] s row allowed h = absurd h
heard_stands c w past (m ∷ ms) s row allowed (inl k) = subst (λ r. can_stand c.n r ≡ true) k.3 (action_stands c w past ms m k.0 allowed.0 k.2)
heard_stands c w past (m ∷ ms) s row allowed (inr k) = heard_stands c w past ms s row allowed.1 k
