-- Counts of sites that pass a test, and what sets that are large enough have in common.
use Rattle.std.proofs.Common.{◌≡◌, ℕ, zero, suc, ◌+◌, ◌*◌, ◌<◌, ◌≤◌, Bool, true, false, cond, ◌&&◌, ◌||◌, ◌==◌, refl, inl, inr, ◌⊎◌, ap, sym, subst, arith}
use Rattle.std.proofs.lemmas.Bool.{cases_eq, and_parts, true≢false, cases_lt, ne_eqb, or_left, or_right, eq-eqb, cond-true, cond-false}
use Rattle.gz_core.specs.Counts.{count_sites}

-- one more site of two sets
two_step : (a b : Bool) (n x y z : ℕ) → x + y ≤ n + z → cond a (suc x) x + cond b (suc y) y ≤ suc n + cond (a && b) (suc z) z
two_step true true n x y z h = omega arith
two_step true false n x y z h = omega arith
two_step false true n x y z h = omega arith
two_step false false n x y z h = omega arith

-- two sets of sites have at least so many in common
pub count_two : (n : ℕ) (p q : ℕ → Bool) → count_sites n p + count_sites n q ≤ n + count_sites n (λ s. p s && q s)
count_two zero p q = omega arith
count_two (suc n) p q = two_step (p n) (q n) n (count_sites n p) (count_sites n q) (count_sites n (λ s. p s && q s)) (count_two n p q)

most_step : (a : Bool) (n x : ℕ) → x ≤ n → cond a (suc x) x ≤ suc n
most_step true n x h = omega arith
most_step false n x h = omega arith

-- no more sites pass than there are
pub count_most : (n : ℕ) (p : ℕ → Bool) → count_sites n p ≤ n
count_most zero p = omega arith
count_most (suc n) p = most_step (p n) n (count_sites n p) (count_most n p)

weaker_step : (a b : Bool) (x y : ℕ) → (a ≡ true → b ≡ true) → x ≤ y → cond a (suc x) x ≤ cond b (suc y) y
weaker_step true true x y h l = omega arith
weaker_step true false x y h l = absurd (true≢false (sym (h refl)))
weaker_step false true x y h l = omega arith
weaker_step false false x y h l = l

-- a test that is weaker on these sites lets at least as many pass
pub count_within : (n : ℕ) (p q : ℕ → Bool) → ((s : ℕ) → s < n → p s ≡ true → q s ≡ true) → count_sites n p ≤ count_sites n q
count_within zero p q h = omega arith
count_within (suc n) p q h = weaker_step (p n) (q n) (count_sites n p) (count_sites n q) (h n (omega arith)) (count_within n p q (λ (s : ℕ) (l : s < n). h s (omega arith)))

-- a weaker test lets at least as many sites pass
pub count_weaker : (n : ℕ) (p q : ℕ → Bool) → ((s : ℕ) → p s ≡ true → q s ≡ true) → count_sites n p ≤ count_sites n q
count_weaker n p q h = count_within n p q (λ (s : ℕ) (l : s < n). h s)

found_step : (n : ℕ) (p : ℕ → Bool) (t : Bool) → p n ≡ t → (0 < count_sites n p → (s : ℕ) × (s < n) × (p s ≡ true)) → 0 < cond t (suc (count_sites n p)) (count_sites n p) → (s : ℕ) × (s < suc n) × (p s ≡ true)
found_step n p true e h l = (n, omega arith, e)
found_step n p false e h l = let w : (s : ℕ) × (s < n) × (p s ≡ true) = h l in (w.0, omega arith, w.2)

-- where some site passes, here is one
pub count_found : (n : ℕ) (p : ℕ → Bool) → 0 < count_sites n p → (s : ℕ) × (s < n) × (p s ≡ true)
count_found zero p h = absurd (omega arith)
count_found (suc n) p h = found_step n p (p n) refl (count_found n p) h

-- two sets of sites, together more than all, have a common site
pub meeting : (n : ℕ) (p q : ℕ → Bool) → n < count_sites n p + count_sites n q → (s : ℕ) × (s < n) × (p s ≡ true) × (q s ≡ true)
meeting n p q h =
    let w : (s : ℕ) × (s < n) × ((p s && q s) ≡ true) = count_found n (λ s. p s && q s) (omega (arith, count_two n p q)) in
    let both : (p w.0 ≡ true) × (q w.0 ≡ true) = and_parts (p w.0) (q w.0) w.2 in
    (w.0, w.1, both.0, both.1)

-- three sets of sites, together more than all twice, have a common site
pub meeting_three : (n : ℕ) (p q r : ℕ → Bool) → 2 * n < count_sites n p + count_sites n q + count_sites n r → (s : ℕ) × (s < n) × (p s ≡ true) × (q s ≡ true) × (r s ≡ true)
meeting_three n p q r h =
    let w : (s : ℕ) × (s < n) × (p s ≡ true) × ((q s && r s) ≡ true) = meeting n p (λ s. q s && r s) (omega (arith, count_two n q r)) in
    let both : (q w.0 ≡ true) × (r w.0 ≡ true) = and_parts (q w.0) (r w.0) w.3 in
    (w.0, w.1, w.2, both.0, both.1)

same_step : (a : Bool) (x y : ℕ) → suc x ≤ y → suc (cond a (suc x) x) ≤ cond a (suc y) y
same_step true x y h = omega arith
same_step false x y h = h

last_or_below : (n x : ℕ) → x < suc n → (x ≡ n) ⊎ (x < n)
last_or_below n x l = elim (cases_lt x n) [ inl k ↦ inr k | inr k ↦ inl (omega arith) ]

added_step : (n x : ℕ) (p : ℕ → Bool) → (x ≡ n) ⊎ (x < n) → p x ≡ false → (x < n → suc (count_sites n p) ≤ count_sites n (λ s. (x == s) || p s)) → suc (count_sites (suc n) p) ≤ count_sites (suc n) (λ s. (x == s) || p s)
added_step n x p (inl e) f h =
    let here : p n ≡ false = subst (λ (k : ℕ). p k ≡ false) e f in
    let now : count_sites (suc n) p ≡ count_sites n p = cond-false (p n) (suc (count_sites n p)) (count_sites n p) here in
    let test : ((x == n) || p n) ≡ true = or_left (x == n) (p n) (eq-eqb x n e) in
    let then : count_sites (suc n) (λ s. (x == s) || p s) ≡ suc (count_sites n (λ s. (x == s) || p s)) = cond-true ((x == n) || p n) (suc (count_sites n (λ s. (x == s) || p s))) (count_sites n (λ s. (x == s) || p s)) test in
    omega (arith, count_weaker n p (λ s. (x == s) || p s) (λ (s : ℕ) (k : p s ≡ true). or_right (x == s) (p s) k))
added_step n x p (inr l) f h =
    let other : (x == n) ≡ false = ne_eqb x n (λ (e : x ≡ n). omega arith) in
    let test : ((x == n) || p n) ≡ p n = ap (λ b. b || p n) other in
    rw test (same_step (p n) (count_sites n p) (count_sites n (λ s. (x == s) || p s)) (h l))

-- one site more passes a test that one more site is let into
pub count_added : (n x : ℕ) (p : ℕ → Bool) → x < n → p x ≡ false → suc (count_sites n p) ≤ count_sites n (λ s. (x == s) || p s)
count_added zero x p l f = absurd (omega arith)
count_added (suc n) x p l f = added_step n x p (last_or_below n x l) f (λ (k : x < n). count_added n x p k f)

one_step : (a b : Bool) (x y : ℕ) → (b ≡ true → a ≡ true) → y ≤ suc x → cond b (suc y) y ≤ suc (cond a (suc x) x)
one_step true true x y h l = omega arith
one_step true false x y h l = omega arith
one_step false true x y h l = absurd (true≢false (sym (h refl)))
one_step false false x y h l = l

new_step : (a b : Bool) (x y : ℕ) → y ≤ x → cond b (suc y) y ≤ suc (cond a (suc x) x)
new_step true true x y l = omega arith
new_step true false x y l = omega arith
new_step false true x y l = omega arith
new_step false false x y l = omega arith

-- a set with at most one new site has at most one site more
pub count_new : (n x : ℕ) (p q : ℕ → Bool) → ((s : ℕ) → q s ≡ true → (p s ≡ true) ⊎ (s ≡ x)) → count_sites n q ≤ suc (count_sites n p)
count_new zero x p q h = omega arith
count_new (suc n) x p q h =
    elim (cases_eq n x) [
      | inl e ↦ new_step (p n) (q n) (count_sites n p) (count_sites n q) (count_within n q p (λ (s : ℕ) (l : s < n) (k : q s ≡ true). elim (h s k) [ inl f ↦ f | inr f ↦ absurd (omega arith) ]))
      | inr e ↦ one_step (p n) (q n) (count_sites n p) (count_sites n q) (λ (k : q n ≡ true). elim (h n k) [ inl f ↦ f | inr f ↦ absurd (e f) ]) (count_new n x p q h)
    ]
