-- A test of each number below a bound, that the checker computes.
use lib.Dec.{eqb→eq}
use Rattle.std.proofs.Common.{List, [], ◌∷◌, length, get_or, eqb, ap, ◌∙◌, ◌≡◌, ℕ, zero, suc, ◌+◌, ◌-◌, ◌<◌, inl, inr, subst, arith, T, Bool, true, false, ◌&&◌, eq-zero-or-pos}

abbrev pub holds_below : (ℕ → Bool) → ℕ → Bool
holds_below p zero = true
holds_below p (suc n) = p n && holds_below p n

pub both_hold : (a b : Bool) → T (a && b) → T a × T b
both_hold true b h = (tt, h)
both_hold false b h = absurd h

pub each_below : (p : ℕ → Bool) (n : ℕ) → T (holds_below p n) → (i : ℕ) → i < n → T (p i)
each_below p zero h i l = absurd (omega arith)
each_below p (suc n) h i l =
    elim (eq-zero-or-pos (n - i)) [
      | inl z ↦ let e : n ≡ i = omega arith in subst (λ x. T (p x)) e (both_hold _ _ h).0
      | inr g ↦ each_below p n (both_hold (p n) _ h).1 i (omega arith)
    ]

pub equal_below : (f g : ℕ → ℕ) (n : ℕ) → T (holds_below (λ i. eqb (f i) (g i)) n) → (i : ℕ) → i < n → f i ≡ g i
equal_below f g n t i l = eqb→eq (f i) (g i) (each_below (λ i. eqb (f i) (g i)) n t i l)

-- a walk down a table whose entry at place i is f i
abbrev pub is_table : (ℕ → ℕ) → ℕ → List ℕ → Bool
is_table f i [] = true
is_table f i (x ∷ xs) = eqb x (f i) && is_table f (suc i) xs

pub entry_of_table : (f : ℕ → ℕ) (i : ℕ) (xs : List ℕ) → T (is_table f i xs) → (k : ℕ) → k < length xs → get_or xs k 0 ≡ f (i + k)
entry_of_table f i [] t k l = absurd (omega arith)
entry_of_table f i (x ∷ xs) t zero l =
    let here : i ≡ i + 0 = omega arith in
    eqb→eq x (f i) (both_hold _ _ t).0 ∙ ap f here
entry_of_table f i (x ∷ xs) t (suc k) l =
    let next : suc i + k ≡ i + suc k = omega arith in
    entry_of_table f (suc i) xs (both_hold (eqb x (f i)) _ t).1 k (omega arith) ∙ ap f next
