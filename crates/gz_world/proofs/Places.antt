-- Elements of lists by their places, after an element was changed or put at the end.
use Rattle.std.proofs.Common.{◌≡◌, ◌≢◌, ℕ, zero, suc, ◌+◌, ◌<◌, ◌⊎◌, inl, inr, List, [], ◌∷◌, ◌++◌, Some, length, refl, ap, arith, map}
use Rattle.std.specs.Prelude.{slice_get, slice_set}

-- what stands at a place that was changed
pub get_set_same : {A : Type 0} (xs : List A) (i : ℕ) (x y : A) → slice_get xs i ≡ Some x → slice_get (slice_set xs i y) i ≡ Some y
get_set_same [] i x y h = cc
get_set_same (z ∷ zs) zero x y h = refl
get_set_same (z ∷ zs) (suc i) x y h = get_set_same zs i x y h

-- what stands at another place
pub get_set_other : {A : Type 0} (xs : List A) (i j : ℕ) (y : A) → j ≢ i → slice_get (slice_set xs i y) j ≡ slice_get xs j
get_set_other [] i j y apart = refl
get_set_other (z ∷ zs) zero zero y apart = absurd (apart refl)
get_set_other (z ∷ zs) zero (suc j) y apart = refl
get_set_other (z ∷ zs) (suc i) zero y apart = refl
get_set_other (z ∷ zs) (suc i) (suc j) y apart = get_set_other zs i j y (λ e. apart (ap suc e))

-- an element stays in its place when others are put after it
pub get_append : {A : Type 0} (xs ys : List A) (i : ℕ) (x : A) → slice_get xs i ≡ Some x → slice_get (xs ++ ys) i ≡ Some x
get_append [] ys i x h = cc
get_append (z ∷ zs) ys zero x h = h
get_append (z ∷ zs) ys (suc i) x h = get_append zs ys i x h

-- an element of two lists, one after the other, is of the first or of the second
pub get_of_two : {A : Type 0} (xs ys : List A) (i : ℕ) (x : A) → slice_get (xs ++ ys) i ≡ Some x → (slice_get xs i ≡ Some x) ⊎ ((j : ℕ) × ((i ≡ length xs + j) × (slice_get ys j ≡ Some x)))
get_of_two [] ys i x h = inr (i, (omega arith, h))
get_of_two (z ∷ zs) ys zero x h = inl h
get_of_two (z ∷ zs) ys (suc i) x h =
    elim (get_of_two zs ys i x h) [
      | inl e ↦ inl e
      | inr e ↦ let p = e.1.0 in inr (e.0, (omega (arith, p), e.1.1))
    ]

-- the element that was put at the end
pub get_last : {A : Type 0} (xs : List A) (x : A) → slice_get (xs ++ x ∷ []) (length xs) ≡ Some x
get_last [] x = refl
get_last (z ∷ zs) x = get_last zs x

-- an element of a list of one
pub get_one : {A : Type 0} (x y : A) (j : ℕ) → slice_get (x ∷ []) j ≡ Some y → (j ≡ 0) × (x ≡ y)
get_one x y zero h = (refl, cc)
get_one x y (suc j) h = cc

-- an element of a mapped list comes from an element of the list
pub get_mapped : {A B : Type 0} (f : A → B) (xs : List A) (i : ℕ) (y : B) → slice_get (map f xs) i ≡ Some y → (x : A) × ((slice_get xs i ≡ Some x) × (f x ≡ y))
get_mapped f [] i y h = cc
get_mapped f (z ∷ zs) zero y h = (z, (refl, cc))
get_mapped f (z ∷ zs) (suc i) y h = get_mapped f zs i y h

-- a place that has an element is below the length
pub get_below : {A : Type 0} (xs : List A) (i : ℕ) (x : A) → slice_get xs i ≡ Some x → i < length xs
get_below [] i x h = cc
get_below (z ∷ zs) zero x h = omega arith
get_below (z ∷ zs) (suc i) x h = let r = get_below zs i x h in omega (arith, r)

-- a place below the length has an element
pub get_there : {A : Type 0} (xs : List A) (i : ℕ) → i < length xs → (x : A) × (slice_get xs i ≡ Some x)
get_there [] i h = absurd (omega arith)
get_there (z ∷ zs) zero h = (z, refl)
get_there (z ∷ zs) (suc i) h = let l : i < length zs = omega arith in get_there zs i l
