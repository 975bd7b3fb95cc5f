-- Sites that pass a test, against the rows of a list that do.
use Rattle.std.proofs.Common.{◌≡◌, ℕ, zero, suc, ◌+◌, ◌<◌, ◌≤◌, Bool, true, cond, List, [], ◌∷◌, Option, Some, None, length, get_or, refl, sym, ◌∙◌, ap, subst, inl, inr, arith, count_by, ◌==◌, ◌≢◌, nat_lt}
use Rattle.std.proofs.lemmas.Bool.{cases_Bool, false≢true}
use Rattle.std.proofs.lemmas.Bool.Decides.{nat_tests}
use Rattle.std.proofs.lemmas.List.Recursion.{is_count_by, is_position_or_len}
use Rattle.std.proofs.lemmas.List.Quantifiers.{position-Some}
use Rattle.std.specs.List.{position_or_len, position}
use Rattle.gz_core.specs.Counts.{count_sites}
use Rattle.gz_core.specs.Rows.{RowAt}
use Rattle.gz_pick.specs.Evidences.{row_at}

-- the first site, and the others
count_first : (n : ℕ) (p : ℕ → Bool) → count_sites (suc n) p ≡ cond (p zero) 1 0 + count_sites n (λ s. p (suc s))
count_first zero p = elim (cases_Bool (p zero)) [ inl e ↦ rw e (omega arith) | inr e ↦ rw e (omega arith) ]
count_first (suc n) p =
    let before = count_first n p in
    elim (cases_Bool (p (suc n))) [ inl e ↦ rw e (omega arith) | inr e ↦ rw e (omega arith) ]

-- how many rows pass, one after another
abbrev passing : (Option RowAt → Bool) → List (Option RowAt) → ℕ
passing p [] = 0
passing p (row ∷ rows) = cond (p row) (1 + passing p rows) (passing p rows)

passing_sites : (p : Option RowAt → Bool) (rows : List (Option RowAt)) → passing p rows ≡ count_sites (length rows) (λ s. p (row_at rows s))
passing_sites p [] = refl
passing_sites p (row ∷ rows) =
    let first = count_first (length rows) (λ s. p (row_at (row ∷ rows) s)) in
    let others = passing_sites p rows in
    elim (cases_Bool (p row)) [
      | inl e ↦ rw e (omega (arith, rw e at first))
      | inr e ↦ rw e (omega (arith, rw e at first))
    ]

-- so many rows pass as sites do
pub count_rows : (p : Option RowAt → Bool) (rows : List (Option RowAt)) → count_by p rows ≡ count_sites (length rows) (λ s. p (row_at rows s))
count_rows p rows = sym (is_count_by (passing p) p refl (λ row others. refl) rows) ∙ passing_sites p rows

-- a site that passes is counted
pub count_one : (n : ℕ) (p : ℕ → Bool) (s : ℕ) → s < n → p s ≡ true → 1 ≤ count_sites n p
count_one zero p s below passed = absurd (omega arith)
count_one (suc n) p s below passed =
    elim (cases_Bool (p n)) [
      | inl e ↦ rw e (omega arith)
      | inr e ↦ elim (cases_Bool (s == n)) [
        | inl f ↦ let same : s ≡ n = grind (arith, nat_tests) in absurd (false≢true (sym e ∙ ap p (sym same) ∙ passed))
        | inr f ↦ rw e (count_one n p s (grind (arith, nat_tests)) passed)
      ]
    ]

-- the row of a site within the list is the one that stands there
pub row_at_get : (rows : List (Option RowAt)) (s : ℕ) → s < length rows → row_at rows s ≡ get_or rows s None
row_at_get [] s below = absurd (omega arith)
row_at_get (row ∷ rows) zero below = refl
row_at_get (row ∷ rows) (suc s) below = row_at_get rows s (omega arith)

-- the place of the first row that passes, one after another
abbrev place : (Option RowAt → Bool) → List (Option RowAt) → ℕ
place p [] = 0
place p (row ∷ rows) = cond (p row) 0 (1 + place p rows)

place_low : (p : Option RowAt → Bool) (rows : List (Option RowAt)) (s : ℕ) → s < length rows → p (row_at rows s) ≡ true → place p rows < length rows
place_low p [] s below passed = absurd (omega arith)
place_low p (row ∷ rows) zero below passed = rw passed (omega arith)
place_low p (row ∷ rows) (suc s) below passed =
    let inner : s < length rows = omega arith in
    let later = place_low p rows s inner passed in
    elim (cases_Bool (p row)) [ inl e ↦ rw e (omega arith) | inr e ↦ rw e (omega arith) ]

-- where a row passes, there is a first one
pub first_there : (p : Option RowAt → Bool) (rows : List (Option RowAt)) (s : ℕ) → s < length rows → p (row_at rows s) ≡ true → position p rows ≢ None
first_there p rows s below passed =
    let low = place_low p rows s below passed in
    let same : place p rows ≡ position_or_len p rows = is_position_or_len (place p) p refl (λ row others. refl) rows in
    let within : nat_lt (position_or_len p rows) (length rows) ≡ true = subst (λ (k : ℕ). nat_lt k (length rows) ≡ true) same (grind (arith, nat_tests)) in
    λ none. let some : Some (position_or_len p rows) ≡ None = rw within at none in cc

-- the first row that passes
pub first_passes : (p : Option RowAt → Bool) (rows : List (Option RowAt)) (s : ℕ) → position p rows ≡ Some s → (s < length rows) × (p (row_at rows s) ≡ true)
first_passes p rows s first =
    let found = position-Some p rows s None first in
    (found.0, ap p (row_at_get rows s found.0) ∙ found.1)
