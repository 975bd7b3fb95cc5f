-- Why a row doesn't take the step of a classic ballot: it has taken it already.
use Rattle.std.proofs.Common.{◌≡◌, ◌≢◌, ℕ, zero, suc, ◌<◌, ◌≤◌, Bool, true, false, cond, ◌&&◌, Option, Some, None, refl, sym, ap, ◌∙◌, subst, inl, inr, ◌⊎◌, arith, leb}
use Rattle.std.specs.Prelude.{nat_lt, List}
use Rattle.std.proofs.lemmas.Bool.{cases_lt, cond-true, cond-false, false≢true, and_right, false_from_ne_true, leb-true}
use Rattle.std.proofs.lemmas.Bool.Decides.{nat_tests}
use Rattle.gz_core.specs.Names.{Name, BallotAt, fast, is_below, same_ballot}
use Rattle.gz_core.specs.Values.{name_of}
use Rattle.gz_core.specs.Rows.{RowAt, column_in}
use Rattle.gz_core.specs.Slots.{slots, slot_of, slot_decision, vote_pair}
use Rattle.gz_core.specs.declared.slots.Slot.{Slot}
use Rattle.gz_core.specs.declared.slots.Slot.TheVariants.{Gone, DecidedAs, OpenAt}
use Rattle.gz_core.specs.Counts.{count_sites}
use Rattle.gz_core.specs.declared.rows.Column.{Column}
use Rattle.gz_core.specs.declared.rows.Column.TheVariants.{Open, Decided}
use Rattle.gz_config.specs.declared.Config.{Config}
use Rattle.gz_accept.specs.declared.answers.Step.{Step}
use Rattle.gz_accept.specs.declared.answers.Step.TheVariants.{Done, Already, Below}
use Rattle.gz_accept.specs.Steps.{open_answer, is_cast_in, promise_at, classic_at, promise_answer, classic_answer}
use Rattle.gz_core.proofs.Ballots.{same_means, name_refl}
use Rattle.gz_pick.specs.Evidences.{decides, is_named}
use Rattle.gz_core.specs.History.{Action}
use Rattle.gz_round.specs.Rounds.{slot_round, slot_promises_above, promises_above}
use Rattle.gz_round.specs.Sending.{rows_known, IsUndecided}

count_step : (b : Bool) (k : ℕ) → k ≤ cond b (suc k) k
count_step true k = omega arith
count_step false k = omega arith

one_more : (n s : ℕ) (p : ℕ → Bool) → p s ≡ true → (s ≡ n) ⊎ (1 ≤ count_sites n p) → 1 ≤ count_sites (suc n) p
one_more n s p e (inl same) = let here : p n ≡ true = subst (λ (k : ℕ). p k ≡ true) same e in let count : count_sites (suc n) p ≡ suc (count_sites n p) = cond-true (p n) (suc (count_sites n p)) (count_sites n p) here in omega arith
one_more n s p e (inr some) = let grows = count_step (p n) (count_sites n p) in omega arith

-- a site that passes a test counts
pub count_one : (n : ℕ) (p : ℕ → Bool) (s : ℕ) → s < n → p s ≡ true → 1 ≤ count_sites n p
count_one zero p s l e = absurd (omega arith)
count_one (suc n) p s l e = one_more n s p e (elim (cases_lt s n) [ inl low ↦ inr (count_one n p s low e) | inr high ↦ inl (omega arith) ])

-- a version that isn't decided
abbrev IsOpenSlot : Slot → Type 0
IsOpenSlot slot = (x : Name) → slot ≡ DecidedAs x → ⊥

-- while work at a version goes on, it is decided in no known row
pub undecided_known : (c : Config) (ms : List Action) (v s : ℕ) (row : RowAt) → IsUndecided c ms v → s < c.n → rows_known ms s ≡ Some row → IsOpenSlot (slot_of (column_in row.columns v))
undecided_known c ms v s row none l e x is =
    let named : decides x v (Some row) ≡ true = ap (λ slot. is_named x (slot_decision slot)) is ∙ name_refl x in
    none.evident x (inr (count_one c.n (λ z. decides x v (rows_known ms z)) s l (ap (decides x v) e ∙ named)))

-- nor is it collected in one
pub kept_known : (c : Config) (ms : List Action) (v s : ℕ) (row : RowAt) → IsUndecided c ms v → s < c.n → rows_known ms s ≡ Some row → leb v row.floor ≡ false
kept_known c ms v s row none l e = false_from_ne_true (leb v row.floor) (λ (k : leb v row.floor ≡ true). omega (arith, none.gone s row l e, leb-true v row.floor k))

-- a version that wasn't collected is its column
kept_slot : (row : RowAt) (v : ℕ) → leb v row.floor ≡ false → slots row v ≡ slot_of (column_in row.columns v)
kept_slot row v e = cond-false (nat_lt 0 row.floor && leb v row.floor) Gone (slot_of (column_in row.columns v)) (and_right (nat_lt 0 row.floor) (leb v row.floor) e)

kept_answer : (row : RowAt) (v : ℕ) (answer : ℕ → Slot → Step) → leb v row.floor ≡ false → answer row.floor (slots row v) ≡ answer row.floor (slot_of (column_in row.columns v))
kept_answer row v answer e = ap (answer row.floor) (kept_slot row v e)

open_untaken : (promise b : BallotAt) (taken : Bool) → is_below b promise ≡ false → open_answer promise b taken ≢ Done → open_answer promise b taken ≡ Already
open_untaken promise b true e n = cond-false (is_below b promise) (Below promise) Already e
open_untaken promise b false e n = absurd (n (cond-false (is_below b promise) (Below promise) Done e))

promise_slot_untaken : (b : BallotAt) (floor : ℕ) (o : Option Column) → slot_promises_above (slot_of o) b ≡ false → IsOpenSlot (slot_of o) → promise_at b floor (slot_of o) ≢ Done → promise_at b floor (slot_of o) ≡ Already
promise_slot_untaken b floor None e u n = open_untaken fast b (same_ballot fast b) e n
promise_slot_untaken b floor (Some (Open promise vote)) e u n = open_untaken promise b (same_ballot promise b) e n
promise_slot_untaken b floor (Some (Decided value)) e u n = absurd (u (name_of value) refl)

classic_slot_untaken : (b : BallotAt) (floor : ℕ) (o : Option Column) → slot_promises_above (slot_of o) b ≡ false → IsOpenSlot (slot_of o) → classic_at b floor (slot_of o) ≢ Done → classic_at b floor (slot_of o) ≡ Already
classic_slot_untaken b floor None e u n = open_untaken fast b false e n
classic_slot_untaken b floor (Some (Open promise vote)) e u n = open_untaken promise b (is_cast_in b (vote_pair vote)) e n
classic_slot_untaken b floor (Some (Decided value)) e u n = absurd (u (name_of value) refl)

kept_above : (row : RowAt) (v : ℕ) (b : BallotAt) → leb v row.floor ≡ false → promises_above row v b ≡ false → slot_promises_above (slot_of (column_in row.columns v)) b ≡ false
kept_above row v b kept e = sym (ap (λ s. slot_promises_above s b) (kept_slot row v kept)) ∙ e

-- a row that doesn't take the promise, and promises nothing above, has taken it
pub promise_untaken : (row : RowAt) (v : ℕ) (b : BallotAt) → leb v row.floor ≡ false → IsOpenSlot (slot_of (column_in row.columns v)) → promises_above row v b ≡ false → promise_answer row v b ≢ Done → promise_answer row v b ≡ Already
promise_untaken row v b kept u above n =
    let answer : promise_answer row v b ≡ promise_at b row.floor (slot_of (column_in row.columns v)) = kept_answer row v (promise_at b) kept in
    answer ∙ promise_slot_untaken b row.floor (column_in row.columns v) (kept_above row v b kept above) u (λ done. n (answer ∙ done))

-- and so it is with a vote
pub classic_untaken : (row : RowAt) (v : ℕ) (b : BallotAt) → leb v row.floor ≡ false → IsOpenSlot (slot_of (column_in row.columns v)) → promises_above row v b ≡ false → classic_answer row v b ≢ Done → classic_answer row v b ≡ Already
classic_untaken row v b kept u above n =
    let answer : classic_answer row v b ≡ classic_at b row.floor (slot_of (column_in row.columns v)) = kept_answer row v (classic_at b) kept in
    answer ∙ classic_slot_untaken b row.floor (column_in row.columns v) (kept_above row v b kept above) u (λ done. n (answer ∙ done))

open_fresh : (promise b : BallotAt) → promise.round < b.round → open_answer promise b (same_ballot promise b) ≡ Done
open_fresh promise b l =
    let above : is_below b promise ≡ false = grind (arith, nat_tests) in
    let other : same_ballot promise b ≡ false = false_from_ne_true (same_ballot promise b) (λ (e : same_ballot promise b ≡ true). let same = ap (λ (d : BallotAt). d.round) (same_means promise b e) in omega arith) in
    cond-false (is_below b promise) (Below promise) (cond (same_ballot promise b) Already Done) above ∙ cond-false (same_ballot promise b) Already Done other

-- one that promises some ballot is open, and takes that of a later round
pub open_taken : (slot : Slot) (floor : ℕ) (d b : BallotAt) → slot_promises_above slot d ≡ true → slot_round slot < b.round → promise_at b floor slot ≡ Done
open_taken Gone floor d b e l = absurd (false≢true e)
open_taken (DecidedAs x) floor d b e l = absurd (false≢true e)
open_taken (OpenAt promise vote) floor d b e l = open_fresh promise b l

slot_fresh : (b : BallotAt) (floor : ℕ) (o : Option Column) → slot_round (slot_of o) < b.round → IsOpenSlot (slot_of o) → promise_at b floor (slot_of o) ≡ Done
slot_fresh b floor None l u = open_fresh fast b l
slot_fresh b floor (Some (Open promise vote)) l u = open_fresh promise b l
slot_fresh b floor (Some (Decided value)) l u = absurd (u (name_of value) refl)

-- a row takes the promise of a ballot of a later round, unless its version was collected
pub fresh_taken : (row : RowAt) (v : ℕ) (b : BallotAt) → leb v row.floor ≡ false → IsOpenSlot (slot_of (column_in row.columns v)) → slot_round (slots row v) < b.round → promise_answer row v b ≡ Done
fresh_taken row v b kept u l =
    kept_answer row v (promise_at b) kept ∙ slot_fresh b row.floor (column_in row.columns v) (subst (λ (s : Slot). slot_round s < b.round) (kept_slot row v kept) l) u
