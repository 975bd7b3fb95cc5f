-- The last row that a call heard from a site goes forward from each that it heard there.
use Rattle.std.proofs.Common.{◌≡◌, ℕ, inl, inr, List, [], ◌∷◌, Some, None, Bool, true, false, refl, ap, sym, ◌∙◌, subst}
use Rattle.std.proofs.lemmas.Bool.{cases_eq, cases_Bool}
use Rattle.std.specs.Prelude.{Option, if◌then◌else◌}
use Rattle.gz_core.specs.Slots.{slots}
use Rattle.gz_round.specs.declared.hearing.Seen.{Seen}
use Rattle.gz_core.specs.History.{Asked, Action, Sent, Handed, GaveUp, Rested, GaveIn, is_row_request}
use Rattle.gz_round.specs.Sites.{SiteNow, site_now, after, after_reply, is_to, seen_in, written_by, is_changed}
use Rattle.gz_ledger.specs.Histories.{RowSeen, IsIn}
use Rattle.gz_ledger.proofs.Follows.{Follows, follows_refl}
use Rattle.gz_laws.specs.Heard.{seen_entry, heard_of}
use Rattle.gz_laws.proofs.HeardOrder.{EntryFollows, IsOfRowRequest, HeardInOrder}
use Rattle.gz_round.proofs.Actions.{is_to_same, is_to_other, heard_row}
use Rattle.gz_round.proofs.Blobs.{blob_heard, blob_site}
use Rattle.gz_laws.proofs.Overtaking.{row_sent}

-- a row of a site
abbrev pub entry_at : ℕ → Seen → RowSeen
entry_at s seen = record { site = s; row = slots seen.row }

-- the last row of a site is among these, and goes forward from another one
abbrev pub IsLastOf : Option Seen → List RowSeen → ℕ → RowSeen → Type 0
IsLastOf last es s e = (seen : Seen) × ((last ≡ Some seen) × (IsIn (entry_at s seen) es × Follows e.row (slots seen.row)))

-- a reply without a row leaves the last one
none_row : (b changed : Bool) (now : SiteNow) → (if b then after_reply None changed now else now).row ≡ now.row
none_row true true now = refl
none_row true false now = refl
none_row false changed now = refl

if_same : (b c : Bool) (x y : SiteNow) → b ≡ c → (if b then x else y).row ≡ (if c then x else y).row
if_same b c x y e = ap (λ t. (if t then x else y).row) e

same_entry : (a : Asked) (s : ℕ) (x : Seen) → a.site ≡ s → entry_at s x ≡ entry_at a.site x
same_entry a s x same = ap (λ k. entry_at k x) (sym same)

handed_last : (a : Asked) (changed : Bool) (now : SiteNow) (es : List RowSeen) (s : ℕ) (e : RowSeen) (o : Option Seen) → IsOfRowRequest a.op o → EntryFollows es a.site o → IsIn e (seen_entry a.site o es) → e.site ≡ s → (IsIn e es → IsLastOf now.row es s e) → IsLastOf (if is_to a s then after_reply o changed now else now).row (seen_entry a.site o es) s e
handed_last a changed now es s e None row order i at before =
    let k = before i in
    (k.0, (none_row (is_to a s) changed now ∙ k.1.0, k.1.1))
handed_last a changed now es s e (Some x) row order (inl same) at before =
    let here : a.site ≡ s = ap (λ (q : RowSeen). q.site) (sym same) ∙ at in
    (x, (if_same (is_to a s) true (after_reply (Some x) changed now) now (is_to_same a s row here), (inl (same_entry a s x here), subst (λ (q : RowSeen). Follows q.row (slots x.row)) (sym same) (follows_refl (slots x.row)))))
handed_last a changed now es s e (Some x) row order (inr i) at before = elim (cases_eq a.site s) [
  | inl here ↦ (x, (if_same (is_to a s) true (after_reply (Some x) changed now) now (is_to_same a s row here), (inl (same_entry a s x here), order e i (at ∙ sym here))))
  | inr apart ↦ (let k = before i in (k.0, (if_same (is_to a s) false (after_reply (Some x) changed now) now (is_to_other a s (λ e. apart (sym e))) ∙ k.1.0, (inr k.1.1.0, k.1.1.1))))
]

left_row : (b : Bool) (now next : SiteNow) → next.row ≡ now.row → (if b then next else now).row ≡ now.row
left_row true now next e = e
left_row false now next e = refl

pub last_from : (ms : List Action) (s : ℕ) (e : RowSeen) → HeardInOrder ms → IsIn e (heard_of ms) → e.site ≡ s → IsLastOf (site_now ms s).row (heard_of ms) s e
last_from [] s e order i at = absurd i
last_from (Sent a ∷ ms) s e order i at = let k = last_from ms s e order i at in (k.0, (row_sent a ms s ∙ k.1.0, k.1.1))
last_from (Handed a reply ∷ ms) s e order i at = elim (cases_Bool (is_row_request a.op)) [
  | inl row ↦ (let shows = heard_row a reply row in
      let last = handed_last a (is_changed reply) (site_now ms s) (heard_of ms) s e (seen_in (written_by a.op) reply) (subst (IsOfRowRequest a.op) shows order.0.0) (subst (EntryFollows (heard_of ms) a.site) shows order.0.1)
      (subst (λ o. IsIn e (seen_entry a.site o (heard_of ms))) shows i) at (λ j. last_from ms s e order.1 j at) in
      subst (λ o. IsLastOf (site_now (Handed a reply ∷ ms) s).row (seen_entry a.site o (heard_of ms)) s e) (sym shows) last)
  | inr blob ↦ (let shows = blob_heard (Handed a reply) blob in
      let k = last_from ms s e order.1 (subst (λ o. IsIn e (seen_entry a.site o (heard_of ms))) shows i) at in
      (k.0, (ap (λ (now : SiteNow). now.row) (blob_site (Handed a reply) ms s blob) ∙ k.1.0, (subst (λ o. IsIn (entry_at s k.0) (seen_entry a.site o (heard_of ms))) (sym shows) k.1.1.0, k.1.1.1))))
]
last_from (GaveUp a ∷ ms) s e order i at = let k = last_from ms s e order i at in (k.0, (left_row (is_to a s) (site_now ms s) (after (GaveUp a) (site_now ms s)) refl ∙ k.1.0, k.1.1))
last_from (Rested ∷ ms) s e order i at = last_from ms s e order i at
last_from (GaveIn ∷ ms) s e order i at = last_from ms s e order i at

-- what was heard earlier was heard in order
pub order_tail : (m : Action) (ms : List Action) → HeardInOrder (m ∷ ms) → HeardInOrder ms
order_tail (Sent a) ms h = h
order_tail (Handed a reply) ms h = h.1
order_tail (GaveUp a) ms h = h
order_tail Rested ms h = h
order_tail GaveIn ms h = h
