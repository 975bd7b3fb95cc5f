-- What a call over n sites hears of a reply: the reply itself, or a failure.
use Rattle.std.proofs.Common.{◌≡◌, ℕ, ◌⊎◌, inl, inr, Some, None, true, false, refl, ap, sym, ◌∙◌, subst}
use Rattle.std.specs.Prelude.{Option, if◌then◌else◌}
use Rattle.gz_core.specs.Rows.{RowAt}
use Rattle.gz_core.specs.declared.requests.Reply.{Reply}
use Rattle.gz_core.specs.declared.requests.Reply.TheVariants.{Row, Written, Failed}
use Rattle.gz_round.specs.declared.hearing.Seen.{Seen}
use Rattle.gz_round.specs.Sites.{as_heard, if_it_stands, can_stand, seen_in, heard_in, written_by}
use Rattle.gz_core.specs.History.{Asked, Handed, is_row_request}
use Rattle.gz_round.proofs.Actions.{heard_row}
use Rattle.gz_round.proofs.Blobs.{blob_heard}
use Rattle.std.proofs.lemmas.Bool.{cases_Bool}
use Rattle.gz_laws.specs.Carried.{HasReply}
use Rattle.gz_world.specs.States.{RequestAt}

stands_or_failed : (n : ℕ) (row : RowAt) (reply : Reply) → (if_it_stands n row reply ≡ reply) ⊎ (if_it_stands n row reply ≡ Failed)
stands_or_failed n row reply = elim (can_stand n row) as (λ b. ((if b then reply else Failed) ≡ reply) ⊎ ((if b then reply else Failed) ≡ Failed)) [ true ↦ inl refl | false ↦ inr refl ]

pub heard_or_failed : (n : ℕ) (written : Option RowAt) (reply : Reply) → (as_heard n written reply ≡ reply) ⊎ (as_heard n written reply ≡ Failed)
heard_or_failed n written (Row etag row) = stands_or_failed n row (Row etag row)
heard_or_failed n (Some row) (Written etag) = stands_or_failed n row (Written etag)
heard_or_failed n written reply = inl refl

-- what holds of the row that a reply shows, and where none is shown, holds of the row that is heard
pub on_heard : (P : Option Seen → Type 0) (n : ℕ) (written : Option RowAt) (reply : Reply) → P None → P (seen_in written reply) → P (seen_in written (as_heard n written reply))
on_heard P n written reply none shown = elim (heard_or_failed n written reply) [
  | inl e ↦ subst (λ r. P (seen_in written r)) (sym e) shown
  | inr e ↦ subst (λ r. P (seen_in written r)) (sym e) none
]

-- a row that is heard is the one that the reply shows
pub heard_shown : (n : ℕ) (written : Option RowAt) (reply : Reply) (seen : Seen) → seen_in written (as_heard n written reply) ≡ Some seen → seen_in written reply ≡ Some seen
heard_shown n written reply seen h = elim (heard_or_failed n written reply) [
  | inl e ↦ sym (ap (seen_in written) e) ∙ h
  | inr e ↦ (let bad : None ≡ Some seen = sym (ap (seen_in written) e) ∙ h in cc)
]

-- so what holds of the row that was shown holds of the one that the request's call was handed
pub of_reply : (P : Option Seen → Type 0) (n : ℕ) (r : RequestAt) (reply : Reply) (has : HasReply n r reply) → P None → P (seen_in (written_by r.op) has.made) → P (seen_in (written_by r.op) reply)
of_reply P n r reply has none shown = subst (λ (q : Reply). P (seen_in (written_by r.op) q)) (sym has.heard) (on_heard P n (written_by r.op) has.made none shown)

-- a reply whose rows can stand is heard as it was made
pub stands_heard : (n : ℕ) (row : RowAt) (reply : Reply) → can_stand n row ≡ true → if_it_stands n row reply ≡ reply
stands_heard n row reply h = ap (λ b. if b then reply else Failed) h

-- what holds of the row that a reply of a row request shows, and where none is shown, holds of the row that is heard
pub heard_case : (P : Option Seen → Type 0) (a : Asked) (reply : Reply) → (is_row_request a.op ≡ true → P (seen_in (written_by a.op) reply)) → P None → P (heard_in (Handed a reply))
heard_case P a reply row none = elim (cases_Bool (is_row_request a.op)) [
  | inl e ↦ subst P (sym (heard_row a reply e)) (row e)
  | inr e ↦ subst P (sym (blob_heard (Handed a reply) e)) none
]
