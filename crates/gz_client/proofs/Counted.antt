-- The elements of a list, by their places, and how many of them pass a test.
use Rattle.std.proofs.Common.{◌≡◌, ℕ, ◌+◌, ◌<◌, ◌≤◌, Bool, true, false, cond, List, [], ◌∷◌, ◌++◌, map, length, Some, refl, sym, ap, ◌∙◌, inl, inr, arith}
use Rattle.std.specs.Prelude.{nat_lt, ◌||◌, slice_get}
use Rattle.std.specs.List.{Contains, count_by, list_any}
use Rattle.std.proofs.lemmas.Bool.{lt-ltb}
use Rattle.std.proofs.lemmas.Option.{slice_get_read, slice_get_within, get_or_from_slice_get}
use Rattle.std.proofs.lemmas.List.Sums.{sum_by-append, sum_by-cons}
use Rattle.gz_core.proofs.Awaited.{contains_cases, contains_none, contains_head, contains_tail}

one_if : Bool → ℕ
one_if b = cond b 1 0

one_most : (b : Bool) → one_if b ≤ 1
unfolding one_if
one_most true = omega arith
one_most false = omega arith

any_head : (b a : Bool) (k : ℕ) → a ≡ nat_lt 0 k → (b || a) ≡ nat_lt 0 (cond b 1 0 + k)
any_head true a k e = sym (lt-ltb 0 (1 + k) (omega arith))
any_head false a k e = e ∙ ap (nat_lt 0) (omega arith)

module _ {X : Type 0} where
  -- an element stands at a place
  pub contains_got : (xs : List X) (x : X) (h : Contains xs x) → slice_get xs h.0 ≡ Some x
  contains_got xs x h = slice_get_read xs (length xs) h.0 x refl h.1 (sym h.2)

  -- what stands at a place is an element
  pub got_contains : (xs : List X) (i : ℕ) (x : X) → slice_get xs i ≡ Some x → Contains xs x
  got_contains xs i x e = (i, slice_get_within xs i x e, get_or_from_slice_get xs i x x e)

  -- one more element
  pub count_cons : (p : X → Bool) (x : X) (xs : List X) → count_by p (x ∷ xs) ≡ cond (p x) 1 0 + count_by p xs
  count_cons p x xs = sum_by-cons (λ y. cond (p y) 1 0) x xs

  pub count_cons_most : (p : X → Bool) (x : X) (xs : List X) → count_by p (x ∷ xs) ≤ 1 + count_by p xs
  unfolding one_if
  count_cons_most p x xs = omega (arith, count_cons p x xs, one_most (p x))

  pub count_cons_fails : (p : X → Bool) (x : X) (xs : List X) → p x ≡ false → count_by p (x ∷ xs) ≡ count_by p xs
  unfolding one_if
  count_cons_fails p x xs e = let none : one_if (p x) ≡ 0 = ap one_if e in omega (arith, count_cons p x xs, none)

  -- where an element passes, the count is above 0
  pub some_counted : (p : X → Bool) (xs : List X) (x : X) → Contains xs x → p x ≡ true → 0 < count_by p xs
  unfolding one_if
  some_counted p [] x h e = absurd (contains_none x h)
  some_counted p (y ∷ ys) x h e =
      let sum = count_cons p y ys in
      elim (contains_cases y ys x h) [
        | inl same ↦ let one : one_if (p y) ≡ 1 = ap one_if (ap p same ∙ e) in omega arith
        | inr there ↦ let rest = some_counted p ys x there e in omega arith
      ]

  -- an element that passes, of a list in which some do
  pub counted_some : (p : X → Bool) (xs : List X) → 0 < count_by p xs → (x : X) × Contains xs x × (p x ≡ true)
  unfolding one_if
  counted_some p [] l = absurd (omega arith)
  counted_some p (y ∷ ys) l =
      let sum = count_cons p y ys in
      elim (p y) as (λ t. p y ≡ t → (x : X) × Contains (y ∷ ys) x × (p x ≡ true)) [
        | true ↦ λ e. (y, contains_head y ys, e)
        | false ↦ λ e.
            let none : one_if (p y) ≡ 0 = ap one_if e in
            let rest = counted_some p ys (omega arith) in
            (rest.0, contains_tail y ys rest.0 rest.1, rest.2)
      ] refl

  -- some element passes where their count is above 0
  pub any_counted : (p : X → Bool) (xs : List X) → list_any p xs ≡ nat_lt 0 (count_by p xs)
  any_counted p [] = refl
  any_counted p (x ∷ xs) = any_head (p x) (list_any p xs) (count_by p xs) (any_counted p xs) ∙ ap (nat_lt 0) (sym (count_cons p x xs))

  -- every element passes
  pub count_all : (xs : List X) → count_by (λ x. true) xs ≡ length xs
  count_all [] = refl
  count_all (x ∷ xs) = omega (arith, count_cons (λ y. true) x xs, count_all xs)

  -- none does
  pub count_none : (xs : List X) → count_by (λ x. false) xs ≡ 0
  count_none [] = refl
  count_none (x ∷ xs) = omega (arith, count_cons (λ y. false) x xs, count_none xs)

  -- two tests that agree on the elements
  pub count_agree : (p q : X → Bool) (xs : List X) → ((x : X) → Contains xs x → p x ≡ q x) → count_by p xs ≡ count_by q xs
  unfolding one_if
  count_agree p q [] h = refl
  count_agree p q (x ∷ xs) h =
      let head : one_if (p x) ≡ one_if (q x) = ap one_if (h x (contains_head x xs)) in
      let rest = count_agree p q xs (λ y i. h y (contains_tail x xs y i)) in
      omega (arith, count_cons p x xs, count_cons q x xs)

  -- a test that passes what exactly one of two others does
  pub count_split : (p q r : X → Bool) (xs : List X) → ((x : X) → cond (r x) 1 0 ≡ cond (p x) 1 0 + cond (q x) 1 0) → count_by r xs ≡ count_by p xs + count_by q xs
  count_split p q r [] h = refl
  count_split p q r (x ∷ xs) h = omega (arith, h x, count_cons p x xs, count_cons q x xs, count_cons r x xs, count_split p q r xs h)

  pub count_append : (p : X → Bool) (xs ys : List X) → count_by p (xs ++ ys) ≡ count_by p xs + count_by p ys
  count_append p xs ys = sum_by-append (λ x. cond (p x) 1 0) xs ys

pub count_map : {X Y : Type 0} (f : X → Y) (p : Y → Bool) (xs : List X) → count_by p (map f xs) ≡ count_by (λ x. p (f x)) xs
count_map f p [] = refl
count_map f p (x ∷ xs) = omega (arith, count_cons p (f x) (map f xs), count_cons (λ y. p (f y)) x xs, count_map f p xs)
