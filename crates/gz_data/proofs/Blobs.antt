-- Blobs over what happened to a call.
use Rattle.std.proofs.Common.{◌≡◌, ℕ, zero, suc, ◌+◌, ◌<◌, Bool, true, false, cond, List, [], ◌∷◌, ◌++◌, length, Option, Some, None, refl, sym, ap, subst, ◌∙◌, inl, inr, arith}
use Rattle.std.specs.Prelude.{◌⊎◌, ◌==◌, ◌&&◌, not}
use Rattle.std.specs.List.{Contains, filter, count_by}
use Rattle.std.proofs.lemmas.Bool.{cases_Bool, eqb-true, eq-eqb}
use Rattle.std.proofs.lemmas.List.Elements.{Contains-append_left, Contains-push}
use Rattle.std.proofs.lemmas.List.Sums.{sum_by-cons, sum_by-append}
use Rattle.gz_core.specs.Blobs.{BlobAt, same_blob}
use Rattle.gz_core.specs.declared.requests.Op.{Op}
use Rattle.gz_core.specs.declared.requests.Op.TheVariants.{ReadRow, WriteRow, PutBlob, GetBlob, DropBlob}
use Rattle.gz_core.specs.declared.requests.Reply.{Reply}
use Rattle.gz_core.specs.History.{Asked, Action, Sent, Handed, GaveUp, Rested, GaveIn, is_row_request}
use Rattle.gz_core.specs.Awaiting.{without, without_rows, awaiting, IsAwaited, IsSentInTurn, AreInTurn}
use Rattle.gz_core.proofs.Awaited.{contains_filter, contains_cases, contains_none, awaiting_rises, count_without, stays_awaited}
use Rattle.gz_data.specs.Blobs.{Outcome, Answered, Abandoned, BlobNow, is_op_about, is_about, blob_after, blob_now, is_put_blob, is_stored, sends_put, stores, loses, count_actions, puts_sent, stored, lost, puts_awaited}

-- ---- the fragments of a put are counted

abbrev is_put : Asked → Bool
is_put a = is_put_blob a.op

abbrev one_if : Bool → ℕ
one_if b = cond b 1 0

more : (b : Bool) (n : ℕ) → cond b (n + 1) n ≡ n + one_if b
more true n = refl
more false n = omega arith

-- a request to store a fragment is about no row
put_not_row : (op : Op) → is_put_blob op ≡ true → is_row_request op ≡ false
put_not_row (ReadRow key) e = absurd cc
put_not_row (WriteRow key expect step row) e = absurd cc
put_not_row (PutBlob name bytes) e = refl
put_not_row (GetBlob name) e = absurd cc
put_not_row (DropBlob name) e = absurd cc

row_not_put : (op : Op) → is_row_request op ≡ true → is_put_blob op ≡ false
row_not_put (ReadRow key) e = refl
row_not_put (WriteRow key expect step row) e = refl
row_not_put (PutBlob name bytes) e = absurd cc
row_not_put (GetBlob name) e = absurd cc
row_not_put (DropBlob name) e = absurd cc

count_rest : (rs : List Asked) → count_by is_put (without_rows rs) ≡ count_by is_put rs
count_rest [] = refl
count_rest (a ∷ rs) =
    let count : Asked → ℕ = λ b. one_if (is_put b) in
    elim (cases_Bool (is_row_request a.op)) [
      | inl e ↦ rw e (omega (arith, count_rest rs, sum_by-cons count a rs, ap one_if (row_not_put a.op e)))
      | inr e ↦ rw e (omega (arith, count_rest rs, sum_by-cons count a rs, sum_by-cons count a (without_rows rs)))
    ]

count_sent : (rs : List Asked) (a : Asked) (b : Bool) → (is_row_request a.op ≡ false → b ≡ true) → count_by is_put (cond b (rs ++ a ∷ []) rs) ≡ count_by is_put rs + one_if (is_put a)
count_sent rs a true h =
    let count : Asked → ℕ = λ c. one_if (is_put c) in
    omega (arith, sum_by-append count rs (a ∷ []), sum_by-cons count a [])
count_sent rs a false h =
    elim (cases_Bool (is_put a)) [
      | inl e ↦ absurd (let t = h (put_not_row a.op e) in cc)
      | inr e ↦ omega (arith, ap one_if e)
    ]

split_by : (p s : Bool) → one_if (p && s) + one_if (p && not s) ≡ one_if p
split_by true true = refl
split_by true false = refl
split_by false true = refl
split_by false false = refl

-- what is awaited, was stored and was lost is all that was sent
pub puts_counted : (ms : List Action) → AreInTurn ms → puts_awaited ms + stored ms + lost ms ≡ puts_sent ms
puts_counted [] h = refl
puts_counted (Sent a ∷ ms) h =
    omega (arith, puts_counted ms h.1, count_sent (awaiting ms) a a.awaited h.0.blob, more (is_put a) (puts_sent ms))
puts_counted (Handed a reply ∷ ms) h =
    omega (
      arith,
      puts_counted ms h.1,
      count_without is_put 0 (awaiting ms) a (awaiting_rises ms h.1) h.0,
      more (is_put a && is_stored reply) (stored ms),
      more (is_put a && not (is_stored reply)) (lost ms),
      split_by (is_put a) (is_stored reply),
    )
puts_counted (GaveUp a ∷ ms) h =
    omega (arith, puts_counted ms h.1, count_without is_put 0 (awaiting ms) a (awaiting_rises ms h.1) h.0, more (is_put a) (lost ms))
puts_counted (Rested ∷ ms) h = omega (arith, puts_counted ms h.1, count_rest (awaiting ms))
puts_counted (GaveIn ∷ ms) h = omega (arith, puts_counted ms h.1, count_rest (awaiting ms))

-- ---- what was asked for and did not come is awaited

-- a request about this blob is awaited
abbrev IsAwaitedOf : List Asked → BlobAt → Type 0
IsAwaitedOf rs b = (a : Asked) × Contains rs a × (is_op_about b a.op ≡ true)

about_not_row : (b : BlobAt) (op : Op) → is_op_about b op ≡ true → is_row_request op ≡ false
about_not_row b (ReadRow key) e = absurd cc
about_not_row b (WriteRow key expect step row) e = absurd cc
about_not_row b (PutBlob name bytes) e = refl
about_not_row b (GetBlob name) e = refl
about_not_row b (DropBlob name) e = refl

-- the blob was asked for, and nothing came of it
abbrev IsOpen : BlobNow → Type 0
IsOpen now = (now.asked ≡ true) × (now.outcome ≡ None)

sent_awaited : (rs : List Asked) (a : Asked) (b : BlobAt) (t : Bool) → IsAwaitedOf rs b → IsAwaitedOf (cond t (rs ++ a ∷ []) rs) b
sent_awaited rs a b true h = (h.0, Contains-append_left rs (a ∷ []) h.0 h.1, h.2)
sent_awaited rs a b false h = h

was_open : (t : Bool) (now later : BlobNow) → t ≡ false → IsOpen (cond t later now) → IsOpen now
was_open true now later e h = absurd cc
was_open false now later e h = h

not_open : (t : Bool) (now later : BlobNow) (came : Outcome) → t ≡ true → later.outcome ≡ Some came → IsOpen (cond t later now) → ⊥
not_open true now later came e o h = let bad = sym o ∙ h.1 in cc
not_open false now later came e o h = absurd cc

ended_awaited : (ms : List Action) (a : Asked) (b : BlobAt) (later : BlobNow) (came : Outcome) → AreInTurn ms → IsAwaited ms a → later.outcome ≡ Some came
    → (IsOpen (blob_now ms b) → IsAwaitedOf (awaiting ms) b) → IsOpen (cond (is_op_about b a.op) later (blob_now ms b)) → IsAwaitedOf (without a.number (awaiting ms)) b
ended_awaited ms a b later came turn i o before h =
    elim (cases_Bool (is_op_about b a.op)) [
      | inl e ↦ absurd (not_open (is_op_about b a.op) (blob_now ms b) later came e o h)
      | inr e ↦
          let other = before (was_open (is_op_about b a.op) (blob_now ms b) later e h) in
          (other.0, stays_awaited ms a other.0 turn i other.1 (λ same. let bad = ap (λ (c : Asked). is_op_about b c.op) same in cc), other.2)
    ]

rest_awaited : (rs : List Asked) (b : BlobAt) → IsAwaitedOf rs b → IsAwaitedOf (without_rows rs) b
rest_awaited rs b h = (h.0, contains_filter (λ (c : Asked). not (is_row_request c.op)) rs h.0 h.1 (ap not (about_not_row b h.0.op h.2)), h.2)

sent_first : (rs : List Asked) (a : Asked) (b : BlobAt) (t : Bool) → t ≡ true → is_op_about b a.op ≡ true → IsAwaitedOf (cond t (rs ++ a ∷ []) rs) b
sent_first rs a b true e about = (a, Contains-push rs a, about)
sent_first rs a b false e about = absurd cc

pub asked_comes : (ms : List Action) (b : BlobAt) → AreInTurn ms → (blob_now ms b).asked ≡ true → (blob_now ms b).outcome ≡ None → IsAwaitedOf (awaiting ms) b
asked_comes [] b h asked none = absurd cc
asked_comes (Sent a ∷ ms) b h asked none =
    elim (cases_Bool (is_op_about b a.op)) [
      | inl e ↦ sent_first (awaiting ms) a b a.awaited (h.0.blob (about_not_row b a.op e)) e
      | inr e ↦
          let before = was_open (is_op_about b a.op) (blob_now ms b) (record { asked = true; outcome = None }) e (asked, none) in
          sent_awaited (awaiting ms) a b a.awaited (asked_comes ms b h.1 before.0 before.1)
    ]
asked_comes (Handed a reply ∷ ms) b h asked none =
    ended_awaited ms a b (record { asked = (blob_now ms b).asked; outcome = Some (Answered reply) }) (Answered reply) h.1 h.0 refl (λ o. asked_comes ms b h.1 o.0 o.1) (asked, none)
asked_comes (GaveUp a ∷ ms) b h asked none =
    ended_awaited ms a b (record { asked = (blob_now ms b).asked; outcome = Some Abandoned }) Abandoned h.1 h.0 refl (λ o. asked_comes ms b h.1 o.0 o.1) (asked, none)
asked_comes (Rested ∷ ms) b h asked none = rest_awaited (awaiting ms) b (asked_comes ms b h.1 asked none)
asked_comes (GaveIn ∷ ms) b h asked none = rest_awaited (awaiting ms) b (asked_comes ms b h.1 asked none)
