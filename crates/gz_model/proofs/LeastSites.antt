-- The least site of a set that grows by one, and lists of sites as sets.
use Rattle.std.proofs.Common.{◌≡◌, ℕ, ◌+◌, ◌*◌, ◌<◌, ◌≤◌, Bool, true, false, ◌&&◌, ◌||◌, ◌==◌, List, [], ◌∷◌, length, take, get_or, Option, Some, None, IsSome, refl, ap, ◌∙◌, sym, subst, inl, inr, ◌⊎◌, arith}
use Rattle.std.proofs.lemmas.Bool.{true≢false, both_ways, false_from_ne_true, ltb-true, ltb-false, and_parts, and_from, or_cases, or_left, or_right, eqb-true, eq-eqb}
use Rattle.std.proofs.lemmas.List.{take_more}
use Rattle.std.proofs.lemmas.List.Recursion.{or_push}
use Rattle.gz_core.specs.Counts.{count_sites}
use Rattle.gz_core.proofs.Counting.{count_added, meeting, meeting_three}
use Rattle.gz_model.specs.Sites.{has_site, AreSites, IsLeastSite, is_before_least}

-- one more site of a list
pub has_site-more : (xs : List ℕ) (i x s : ℕ) → i < length xs → x ≡ get_or xs i x → has_site (take (i + 1) xs) s ≡ (has_site (take i xs) s || (x == s))
has_site-more xs i x s l is =
    ap (λ (ys : List ℕ). has_site ys s) (take_more xs i x l) ∙ (or_push (λ (ys : List ℕ). has_site ys s) (λ (y : ℕ). y == s) refl (λ _ _. refl) (take i xs) (get_or xs i x) ∙ ap (λ (y : ℕ). has_site (take i xs) s || (y == s)) (sym is))

-- a set grows by at most one site
pub record Adds (p r : ℕ → Bool) (x : ℕ) : Type 0 where
  pub kept : (s : ℕ) → p s ≡ true → r s ≡ true
  pub new : (s : ℕ) → r s ≡ true → (p s ≡ true) ⊎ (s ≡ x)

-- the sites of a list that pass another test, with one more site of the list
pub adds_more : (xs : List ℕ) (i x : ℕ) (q : ℕ → Bool) → i < length xs → x ≡ get_or xs i x → Adds (λ s. has_site (take i xs) s && q s) (λ s. has_site (take (i + 1) xs) s && q s) x
adds_more xs i x q l is = record {
  kept = λ (s : ℕ) (h : (has_site (take i xs) s && q s) ≡ true).
      let parts : (has_site (take i xs) s ≡ true) × (q s ≡ true) = and_parts (has_site (take i xs) s) (q s) h in
      and_from (has_site (take (i + 1) xs) s) (q s) (has_site-more xs i x s l is ∙ or_left (has_site (take i xs) s) (x == s) parts.0) parts.1;
  new = λ (s : ℕ) (h : (has_site (take (i + 1) xs) s && q s) ≡ true).
      let parts : (has_site (take (i + 1) xs) s ≡ true) × (q s ≡ true) = and_parts (has_site (take (i + 1) xs) s) (q s) h in
      elim (or_cases (has_site (take i xs) s) (x == s) (sym (has_site-more xs i x s l is) ∙ parts.0)) [
        | inl e ↦ inl (and_from (has_site (take i xs) s) (q s) e parts.1)
        | inr e ↦ inr (sym (eqb-true x s e))
      ];
}

-- the new site is in the grown list
pub has_site-last : (xs : List ℕ) (i x : ℕ) → i < length xs → x ≡ get_or xs i x → has_site (take (i + 1) xs) x ≡ true
has_site-last xs i x l is = has_site-more xs i x x l is ∙ or_right (has_site (take i xs) x) (x == x) (eq-eqb x x refl)

-- a new site before the least one is the least one
pub least_taken : (p r : ℕ → Bool) (x : ℕ) (least : Option ℕ) → Adds p r x → r x ≡ true → is_before_least x least ≡ true → IsLeastSite p least → IsLeastSite r (Some x)
least_taken p r x None a e b h =
    (e, λ (s : ℕ) (l : s < x). false_from_ne_true (r s) (λ (t : r s ≡ true). elim (a.new s t) [ inl u ↦ both_ways (p s) (h s) u | inr u ↦ omega arith ]))
least_taken p r x (Some m) a e b h =
    let lower : x < m = ltb-true x m b in
    (e, λ (s : ℕ) (l : s < x). false_from_ne_true (r s) (λ (t : r s ≡ true). elim (a.new s t) [ inl u ↦ both_ways (p s) (h.1 s (omega arith)) u | inr u ↦ omega arith ]))

-- a site that fails the test leaves the least one
pub least_failed : (p r : ℕ → Bool) (x : ℕ) (least : Option ℕ) → Adds p r x → r x ≡ false → IsLeastSite p least → IsLeastSite r least
least_failed p r x None a e h =
    λ (s : ℕ). false_from_ne_true (r s) (λ (t : r s ≡ true). elim (a.new s t) [ inl u ↦ both_ways (p s) (h s) u | inr u ↦ both_ways (r x) e (subst (λ (k : ℕ). r k ≡ true) u t) ])
least_failed p r x (Some m) a e h =
    (a.kept m h.0, λ (s : ℕ) (l : s < m). false_from_ne_true (r s) (λ (t : r s ≡ true). elim (a.new s t) [ inl u ↦ both_ways (p s) (h.1 s l) u | inr u ↦ both_ways (r x) e (subst (λ (k : ℕ). r k ≡ true) u t) ]))

-- so does a site that is not before it
pub least_above : (p r : ℕ → Bool) (x : ℕ) (least : Option ℕ) → Adds p r x → is_before_least x least ≡ false → IsLeastSite p least → IsLeastSite r least
least_above p r x None a b h = absurd (true≢false b)
least_above p r x (Some m) a b h =
    let above : m ≤ x = ltb-false x m b in
    (a.kept m h.0, λ (s : ℕ) (l : s < m). false_from_ne_true (r s) (λ (t : r s ≡ true). elim (a.new s t) [ inl u ↦ both_ways (p s) (h.1 s l) u | inr u ↦ omega arith ]))

-- sites of a list, none of them twice, counted
pub count_list : (n : ℕ) (xs : List ℕ) → AreSites n xs → length xs ≤ count_sites n (has_site xs)
count_list n [] a = omega arith
count_list n (x ∷ xs) a = omega (arith, count_list n xs a.2, count_added n x (has_site xs) a.0 a.1)

-- where some site passes, there is a least one
pub least_some : (p : ℕ → Bool) (least : Option ℕ) (s : ℕ) → p s ≡ true → IsLeastSite p least → IsSome least
least_some p None s e h = absurd (both_ways (p s) (h s) e)
least_some p (Some m) s e h = refl

-- two lists of sites, together longer than there are sites, have a least common one
pub least_of_two : (n : ℕ) (a b : List ℕ) (least : Option ℕ) → IsLeastSite (λ s. has_site a s && has_site b s) least → AreSites n a → AreSites n b → n < length a + length b → IsSome least
least_of_two n a b least h one two l =
    let w : (s : ℕ) × (s < n) × (has_site a s ≡ true) × (has_site b s ≡ true) = meeting n (has_site a) (has_site b) (omega (arith, count_list n a one, count_list n b two)) in
    least_some (λ s. has_site a s && has_site b s) least w.0 (and_from (has_site a w.0) (has_site b w.0) w.2 w.3) h

-- the same for three lists, together longer than twice the sites
pub least_of_three : (n : ℕ) (a b c : List ℕ) (least : Option ℕ) → IsLeastSite (λ s. has_site a s && (has_site b s && has_site c s)) least → AreSites n a → AreSites n b → AreSites n c → 2 * n < length a + length b + length c → IsSome least
least_of_three n a b c least h one two three l =
    let w : (s : ℕ) × (s < n) × (has_site a s ≡ true) × (has_site b s ≡ true) × (has_site c s ≡ true) = meeting_three n (has_site a) (has_site b) (has_site c) (omega (arith, count_list n a one, count_list n b two, count_list n c three)) in
    least_some (λ s. has_site a s && (has_site b s && has_site c s)) least w.0 (and_from (has_site a w.0) (has_site b w.0 && has_site c w.0) w.2 (and_from (has_site b w.0) (has_site c w.0) w.3 w.4)) h
