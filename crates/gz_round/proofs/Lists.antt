-- Lists with a place for each site: what a write changes, and counts over them.
use Rattle.std.proofs.Common.{◌||◌, ◌&&◌, ◌≡◌, ◌≢◌, ℕ, zero, suc, ◌+◌, ◌<◌, ◌≤◌, Bool, true, false, cond, List, [], ◌∷◌, ◌++◌, length, take, Some, refl, sym, ap, ◌∙◌, subst, inl, inr, arith}
use Rattle.std.proofs.Math.ListN.{set}
use Rattle.std.proofs.Math.Seq.{take-length}
use Rattle.std.specs.Prelude.{nat_lt}
use Rattle.std.specs.List.{slice_get, count_by, list_any, list_all}
use Rattle.std.proofs.lemmas.Bool.{true≢false, cases_eq, or_cases, or_left, or_right, and_parts}
use Rattle.std.proofs.lemmas.Option.{same_Some, none-some}
use Rattle.std.proofs.lemmas.Bool.Decides.{nat_tests}
use Rattle.std.proofs.lemmas.List.Sums.{sum_by-cons}
use Rattle.gz_core.specs.Counts.{count_sites}

-- the element that was written
pub slice_get-set_same : {A : Type 0} (xs : List A) (i : ℕ) (x : A) → i < length xs → slice_get (set xs i x) i ≡ Some x
slice_get-set_same [] i x l = absurd (omega arith)
slice_get-set_same (y ∷ ys) zero x l = refl
slice_get-set_same (y ∷ ys) (suc i) x l = slice_get-set_same ys i x (omega arith)

-- the others stay
pub slice_get-set_other : {A : Type 0} (xs : List A) (i k : ℕ) (x : A) → k ≢ i → slice_get (set xs i x) k ≡ slice_get xs k
slice_get-set_other [] i k x n = refl
slice_get-set_other (y ∷ ys) zero zero x n = absurd (n refl)
slice_get-set_other (y ∷ ys) zero (suc k) x n = refl
slice_get-set_other (y ∷ ys) (suc i) zero x n = refl
slice_get-set_other (y ∷ ys) (suc i) (suc k) x n = slice_get-set_other ys i k x (λ (e : k ≡ i). n (ap suc e))

-- a place in the list has an element
pub place_of : {A : Type 0} (xs : List A) (i : ℕ) → i < length xs → (x : A) × (slice_get xs i ≡ Some x)
place_of [] i l = absurd (omega arith)
place_of (y ∷ ys) zero l = (y, refl)
place_of (y ∷ ys) (suc i) l = place_of ys i (omega arith)

-- a list that has a function of the site goes on to, where one place changes as the function does
pub told_after_set : {A : Type 0} (n : ℕ) (xs : List A) (f g : ℕ → A) (at : ℕ) (y : A) → length xs ≡ n → ((s : ℕ) → s < n → slice_get xs s ≡ Some (f s)) →
    y ≡ g at → ((s : ℕ) → s ≢ at → f s ≡ g s) → (s : ℕ) → s < n → slice_get (set xs at y) s ≡ Some (g s)
told_after_set n xs f g at y len told here others s l =
    elim (cases_eq s at) [
      | inl e ↦ (
          let here_s : y ≡ g s = here ∙ ap g (sym e) in
          let within : at < length xs = omega arith in
          let got : slice_get (set xs at y) at ≡ Some y = slice_get-set_same xs at y within in
          subst (λ (k : ℕ). slice_get (set xs at y) k ≡ Some (g s)) (sym e) (got ∙ ap (λ z. Some z) here_s))
      | inr n ↦ slice_get-set_other xs at s y n ∙ (told s l ∙ ap (λ z. Some z) (others s n))
    ]

-- the same function, the same list
pub told_same : {A : Type 0} (n : ℕ) (xs : List A) (f g : ℕ → A) → ((s : ℕ) → s < n → slice_get xs s ≡ Some (f s)) → ((s : ℕ) → f s ≡ g s) → (s : ℕ) → s < n → slice_get xs s ≡ Some (g s)
told_same n xs f g told same s l = told s l ∙ ap (λ z. Some z) (same s)

-- tests that agree on the sites count the same
pub count_same : (n : ℕ) (p q : ℕ → Bool) → ((s : ℕ) → s < n → p s ≡ q s) → count_sites n p ≡ count_sites n q
count_same zero p q h = refl
count_same (suc n) p q h =
    ap (λ b. cond b (suc (count_sites n p)) (count_sites n p)) (h n (omega arith)) ∙ ap (λ k. cond (q n) (suc k) k) (count_same n p q (λ (s : ℕ) (l : s < n). h s (omega arith)))

one_site : (a : Bool) → cond a (suc zero) zero ≡ cond a 1 0 + 0
one_site true = omega arith
one_site false = omega arith

last_or_first : (a b : Bool) (x y : ℕ) → cond a (suc (cond b 1 0 + x)) (cond b 1 0 + x) ≡ cond b 1 0 + cond a (suc x) x
last_or_first true true x y = omega arith
last_or_first true false x y = omega arith
last_or_first false true x y = omega arith
last_or_first false false x y = omega arith

-- a count from the first site on
pub count_first : (n : ℕ) (p : ℕ → Bool) → count_sites (suc n) p ≡ cond (p 0) 1 0 + count_sites n (λ s. p (suc s))
count_first zero p = one_site (p 0)
count_first (suc n) p = rw (count_first n p) (last_or_first (p (suc n)) (p 0) (count_sites n (λ s. p (suc s))) 0)

-- a count over a list that has a function of the site is the count of the sites
pub count_told : {A : Type 0} (p : A → Bool) (n : ℕ) (xs : List A) (f : ℕ → A) → length xs ≡ n → ((s : ℕ) → s < n → slice_get xs s ≡ Some (f s)) → count_by p xs ≡ count_sites n (λ s. p (f s))
count_told p zero [] f len told = refl
count_told p zero (x ∷ xs) f len told = absurd (omega arith)
count_told p (suc n) [] f len told = absurd (omega arith)
count_told {A = A} p (suc n) (x ∷ xs) f len told =
    let here : x ≡ f 0 = same_Some x (f 0) (told 0 (omega arith)) in
    let rest : count_by p xs ≡ count_sites n (λ s. p (f (suc s))) = count_told p n xs (λ s. f (suc s)) (omega arith) (λ (s : ℕ) (l : s < n). told (suc s) (omega arith)) in
    let weight : A → ℕ = λ y. cond (p y) 1 0 in
    let first : weight x ≡ weight (f 0) = ap weight here in
    omega (arith, count_first n (λ s. p (f s)), rest, first, sum_by-cons weight x xs)

weight_most : (b : Bool) → cond b 1 0 ≤ 1
weight_most true = omega arith
weight_most false = omega arith

-- a count over the first places, with one more that passes or does not
count_next : {A : Type 0} (p : A → Bool) (xs : List A) (i : ℕ) (x : A) → slice_get xs i ≡ Some x → count_by p (take (suc i) xs) ≡ cond (p x) 1 0 + count_by p (take i xs)
count_next p [] i x e = absurd (none-some x e)
count_next {A = A} p (y ∷ ys) zero x e =
    let weight : A → ℕ = λ z. cond (p z) 1 0 in
    let same : weight y ≡ weight x = ap weight (same_Some y x e) in
    omega (arith, sum_by-cons weight y [], same)
count_next {A = A} p (y ∷ ys) (suc i) x e =
    let weight : A → ℕ = λ z. cond (p z) 1 0 in
    omega (arith, count_next p ys i x e, sum_by-cons weight y (take (suc i) ys), sum_by-cons weight y (take i ys))

pub count_more : {A : Type 0} (p : A → Bool) (xs : List A) (i : ℕ) (x : A) → slice_get xs i ≡ Some x → p x ≡ true → count_by p (take (i + 1) xs) ≡ count_by p (take i xs) + 1
count_more p xs i x e h =
    let more : suc i ≡ i + 1 = omega arith in
    let passes : ◌≡◌ {A = ℕ} (cond (p x) 1 0) 1 = ap (λ b. cond b 1 0) h in
    subst (λ k. count_by p (take k xs) ≡ count_by p (take i xs) + 1) more (omega (arith, count_next p xs i x e, passes))

pub count_skip : {A : Type 0} (p : A → Bool) (xs : List A) (i : ℕ) (x : A) → slice_get xs i ≡ Some x → p x ≡ false → count_by p (take (i + 1) xs) ≡ count_by p (take i xs)
count_skip p xs i x e h =
    let more : suc i ≡ i + 1 = omega arith in
    let fails : ◌≡◌ {A = ℕ} (cond (p x) 1 0) 0 = ap (λ b. cond b 1 0) h in
    subst (λ k. count_by p (take k xs) ≡ count_by p (take i xs)) more (omega (arith, count_next p xs i x e, fails))

-- it is no more than their number
pub count_within : {A : Type 0} (p : A → Bool) (xs : List A) (i : ℕ) → i ≤ length xs → count_by p (take i xs) ≤ i
count_within p xs zero l = omega arith
count_within p [] (suc i) l = absurd (omega arith)
count_within {A = A} p (y ∷ ys) (suc i) l =
    let weight : A → ℕ = λ z. cond (p z) 1 0 in
    omega (arith, count_within p ys i (omega arith), weight_most (p y), sum_by-cons weight y (take i ys))

pub count_whole : {A : Type 0} (p : A → Bool) (xs : List A) (i : ℕ) → i ≡ length xs → count_by p (take i xs) ≡ count_by p xs
count_whole p xs i e = ap (count_by p) (ap (λ n. take n xs) e ∙ take-length xs)

-- some element passes where a site does
pub any_told : {A : Type 0} (p : A → Bool) (xs : List A) (s : ℕ) (x : A) → slice_get xs s ≡ Some x → p x ≡ true → list_any p xs ≡ true
any_told p [] s x e h = absurd (cc)
any_told p (y ∷ ys) zero x e h = or_left (p y) (list_any p ys) (subst (λ z. p z ≡ true) (sym (same_Some y x e)) h)
any_told p (y ∷ ys) (suc s) x e h = or_right (p y) (list_any p ys) (any_told p ys s x e h)

-- where some element passes, here is its place
pub any_found : {A : Type 0} (p : A → Bool) (xs : List A) → list_any p xs ≡ true → (s : ℕ) × (x : A) × (slice_get xs s ≡ Some x) × (p x ≡ true)
any_found p [] h = absurd (cc)
any_found {A = A} p (y ∷ ys) h =
    elim (or_cases (p y) (list_any p ys) h) [
      | inl e ↦ (zero, y, refl, e)
      | inr e ↦ (let w : (s : ℕ) × (x : A) × (slice_get ys s ≡ Some x) × (p x ≡ true) = any_found p ys e in (suc w.0, w.1, w.2, w.3))
    ]

not_true : (b : Bool) → ((b ≡ true) → ⊥) → b ≡ false
not_true true h = absurd (h refl)
not_true false h = refl

-- where none passes at any place, none does
pub none_found : {A : Type 0} (p : A → Bool) (xs : List A) → ((s : ℕ) (x : A) → slice_get xs s ≡ Some x → p x ≡ false) → list_any p xs ≡ false
none_found p xs h = not_true (list_any p xs) (λ some. let w = any_found p xs some in true≢false (sym w.3 ∙ h w.0 w.1 w.2))

-- each element passes where all do
pub all_at : {A : Type 0} (p : A → Bool) (xs : List A) (s : ℕ) (x : A) → list_all p xs ≡ true → slice_get xs s ≡ Some x → p x ≡ true
all_at p [] s x h e = absurd (cc)
all_at p (y ∷ ys) zero x h e = subst (λ z. p z ≡ true) (same_Some y x e) (and_parts (p y) (list_all p ys) h).0
all_at p (y ∷ ys) (suc s) x h e = all_at p ys s x (and_parts (p y) (list_all p ys) h).1 e

-- one more of the same
pub each_pushed : {A : Type 0} (xs : List A) (x : A) (n : ℕ) → length xs ≡ n → ((s : ℕ) → s < n → slice_get xs s ≡ Some x) → (s : ℕ) → s < n + 1 → slice_get (xs ++ (x ∷ [])) s ≡ Some x
each_pushed [] x n len h zero l = refl
each_pushed [] x n len h (suc s) l = absurd (omega arith)
each_pushed (y ∷ ys) x n len h zero l = h zero (omega arith)
each_pushed (y ∷ ys) x n len h (suc s) l = each_pushed ys x (length ys) refl (λ (k : ℕ) (m : k < length ys). h (suc k) (omega arith)) s (omega arith)

neither : (a b : Bool) → (a || b) ≡ false → (a ≡ false) × (b ≡ false)
neither true b h = absurd (true≢false h)
neither false b h = (refl, h)

-- the elements before a place, with one more
any_skip_at : {A : Type 0} (p : A → Bool) (xs : List A) (i : ℕ) (x : A) → slice_get xs i ≡ Some x → p x ≡ false → list_any p (take i xs) ≡ false → list_any p (take (suc i) xs) ≡ false
any_skip_at p [] i x e h before = refl
any_skip_at p (y ∷ ys) zero x e h before = ap (λ b. b || false) (subst (λ z. p z ≡ false) (sym (same_Some y x e)) h)
any_skip_at p (y ∷ ys) (suc i) x e h before = subst (λ b. (b || list_any p (take (suc i) ys)) ≡ false) (sym (neither (p y) (list_any p (take i ys)) before).0) (any_skip_at p ys i x e h (neither (p y) (list_any p (take i ys)) before).1)

all_more_at : {A : Type 0} (p : A → Bool) (xs : List A) (i : ℕ) (x : A) → slice_get xs i ≡ Some x → p x ≡ true → list_all p (take i xs) ≡ true → list_all p (take (suc i) xs) ≡ true
all_more_at p [] i x e h before = refl
all_more_at p (y ∷ ys) zero x e h before = ap (λ b. b && true) (subst (λ z. p z ≡ true) (sym (same_Some y x e)) h)
all_more_at p (y ∷ ys) (suc i) x e h before = subst (λ b. (b && list_all p (take (suc i) ys)) ≡ true) (sym (and_parts (p y) (list_all p (take i ys)) before).0) (all_more_at p ys i x e h (and_parts (p y) (list_all p (take i ys)) before).1)

pub any_skip : {A : Type 0} (p : A → Bool) (xs : List A) (i : ℕ) (x : A) → slice_get xs i ≡ Some x → p x ≡ false → list_any p (take i xs) ≡ false → list_any p (take (i + 1) xs) ≡ false
any_skip p xs i x e h before =
    let more : suc i ≡ i + 1 = omega arith in
    subst (λ (k : ℕ). list_any p (take k xs) ≡ false) more (any_skip_at p xs i x e h before)

pub all_more : {A : Type 0} (p : A → Bool) (xs : List A) (i : ℕ) (x : A) → slice_get xs i ≡ Some x → p x ≡ true → list_all p (take i xs) ≡ true → list_all p (take (i + 1) xs) ≡ true
all_more p xs i x e h before =
    let more : suc i ≡ i + 1 = omega arith in
    subst (λ (k : ℕ). list_all p (take k xs) ≡ true) more (all_more_at p xs i x e h before)

-- not all pass where one does not
pub all_broken : {A : Type 0} (p : A → Bool) (xs : List A) (i : ℕ) (x : A) → slice_get xs i ≡ Some x → p x ≡ false → list_all p xs ≡ false
all_broken p xs i x e h = not_true (list_all p xs) (λ all. true≢false (sym (all_at p xs i x all e) ∙ h))

-- the elements before the last place are all
pub any_whole : {A : Type 0} (p : A → Bool) (xs : List A) (i : ℕ) → i ≡ length xs → list_any p (take i xs) ≡ list_any p xs
any_whole p xs i e = ap (list_any p) (ap (λ n. take n xs) e ∙ take-length xs)

pub all_whole : {A : Type 0} (p : A → Bool) (xs : List A) (i : ℕ) → i ≡ length xs → list_all p (take i xs) ≡ list_all p xs
all_whole p xs i e = ap (list_all p) (ap (λ n. take n xs) e ∙ take-length xs)

-- some element passes where the count of those that do is above 0
counts_any : (b : Bool) (any : Bool) (k : ℕ) → nat_lt 0 k ≡ any → nat_lt 0 (cond b 1 0 + k) ≡ (b || any)
counts_any true any k h =
    let above : nat_lt 0 (1 + k) ≡ true = grind (arith, nat_tests) in
    above
counts_any false any k h =
    let same : k ≡ 0 + k = omega arith in
    subst (λ (n : ℕ). nat_lt 0 n ≡ any) same h

pub any_counted : {A : Type 0} (p : A → Bool) (xs : List A) → nat_lt 0 (count_by p xs) ≡ list_any p xs
any_counted p [] = refl
any_counted {A = A} p (y ∷ ys) =
    let weight : A → ℕ = λ z. cond (p z) 1 0 in
    let more : weight y + count_by p ys ≡ count_by p (y ∷ ys) = omega (arith, sum_by-cons weight y ys) in
    subst (λ (n : ℕ). nat_lt 0 n ≡ list_any p (y ∷ ys)) more (counts_any (p y) (list_any p ys) (count_by p ys) (any_counted p ys))
