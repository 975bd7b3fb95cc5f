-- A list that grows at its end.
use Rattle.std.proofs.Common.{◌≡◌, ℕ, ◌+◌, ◌<◌, List, [], ◌∷◌, ◌++◌, length, get_or, arith, ◌∙◌, subst, sym, ap, inl, inr}
use Rattle.std.proofs.lemmas.Bool.{cases_lt}
use Rattle.std.proofs.lemmas.List.{get_or_push, get_or_append_left, length_push}

-- what holds of each place and its element holds after a push of an element that fits
pub each_pushed : {X : Type 0} (P : ℕ → X → Type 0) (xs : List X) (y d : X) (n : ℕ) → length xs ≡ n → ((i : ℕ) → i < n → P i (get_or xs i d)) → P n y
    → (i : ℕ) → i < n + 1 → P i (get_or (xs ++ y ∷ []) i d)
each_pushed P xs y d n long before last i l =
    elim (cases_lt i n) [
      | inl below ↦ subst (P i) (sym (get_or_append_left xs (y ∷ []) d i (omega arith))) (before i below)
      | inr end ↦
          let here : n ≡ i = omega arith in
          subst (λ k. P k (get_or (xs ++ y ∷ []) k d)) here (subst (P n) (sym (get_or_push xs y d n long)) last)
    ]

pub length_pushed : {X : Type 0} (xs : List X) (y : X) (n : ℕ) → length xs ≡ n → length (xs ++ y ∷ []) ≡ n + 1
length_pushed xs y n long = length_push xs y ∙ ap (λ m. m + 1) long
