-- Heard sites and their votes, counted.
use Rattle.std.proofs.Common.{◌≡◌, ℕ, zero, suc, ◌+◌, ◌<◌, ◌≤◌, Bool, true, false, cond, ◌&&◌, ◌||◌, ◌==◌, List, [], ◌∷◌, length, Some, None, refl, ap, ◌∙◌, sym, subst, inl, inr, arith}
use Rattle.std.specs.List.{slice_get, count_by, position, position_or_len}
use Rattle.std.specs.Prelude.{nat_lt}
use Rattle.std.proofs.lemmas.Bool.{true≢false, both_ways, and_parts, and_from, or_cases, or_left, or_right, eqb-true, eq-eqb, cases_Bool, cond-true, cond-false, ltb-false}
use Rattle.std.proofs.lemmas.Option.{slice_get_within, get_or_from_slice_get, none-some, same_Some, slice_get-get_or}
use Rattle.std.proofs.lemmas.List.Quantifiers.{position-Some}
use Rattle.std.proofs.lemmas.List.Sums.{fails_before_first, sum_by-cons}
use Rattle.gz_core.specs.Counts.{count_sites}
use Rattle.gz_core.proofs.Counting.{count_added, count_weaker, count_new}
use Rattle.gz_pick.specs.declared.heard.Heard.{Heard}
use Rattle.gz_pick.specs.Choices.{has_heard_site, AreHeardSites}

-- a site is heard at some place
pub record IsHeard (heard : List Heard) (s : ℕ) : Type 0 where
  pub at : ℕ
  pub entry : Heard
  pub is : slice_get heard at ≡ Some entry
  pub site : entry.site ≡ s

-- one heard site more
pub heard_later : (h : Heard) (hs : List Heard) (s : ℕ) → IsHeard hs s → IsHeard (h ∷ hs) s
heard_later h hs s i = record { at = suc i.at; entry = i.entry; is = i.is; site = i.site }

-- the test on sites finds the entry
pub site_heard : (heard : List Heard) (s : ℕ) → has_heard_site s heard ≡ true → IsHeard heard s
site_heard [] s e = absurd (true≢false (sym e))
site_heard (h ∷ hs) s e =
    elim (cases_Bool (h.site == s)) [
      | inl t ↦ record { at = zero; entry = h; is = refl; site = eqb-true h.site s t }
      | inr t ↦ heard_later h hs s (site_heard hs s (sym (cond-false (h.site == s) true (has_heard_site s hs) t) ∙ e))
    ]

-- a site of a shorter list, or the first one, is heard
has_site_cons : (h : Heard) (hs : List Heard) (s : ℕ) → ((h.site == s) || has_heard_site s hs) ≡ true → has_heard_site s (h ∷ hs) ≡ true
has_site_cons h hs s e =
    elim (cases_Bool (h.site == s)) [
      | inl t ↦ cond-true (h.site == s) true (has_heard_site s hs) t
      | inr t ↦ cond-false (h.site == s) true (has_heard_site s hs) t ∙ (elim (or_cases (h.site == s) (has_heard_site s hs) e) [ inl f ↦ absurd (both_ways (h.site == s) t f) | inr f ↦ f ])
    ]

-- as many sites were heard as there are entries
pub heard_sites : (n : ℕ) (heard : List Heard) → AreHeardSites n heard → length heard ≤ count_sites n (λ s. has_heard_site s heard)
heard_sites n [] a = omega arith
heard_sites n (h ∷ hs) a =
    omega (arith, heard_sites n hs a.1.1, count_added n h.site (λ s. has_heard_site s hs) a.0 a.1.0, count_weaker n (λ s. (h.site == s) || has_heard_site s hs) (λ s. has_heard_site s (h ∷ hs)) (has_site_cons h hs))

-- a site has an entry that passes a test
pub has_entry : (Heard → Bool) → List Heard → ℕ → Bool
has_entry p [] s = false
has_entry p (h ∷ hs) s = ((h.site == s) && p h) || has_entry p hs s

-- an entry that passes is an entry of its site
pub entry_has : (p : Heard → Bool) (heard : List Heard) (at : ℕ) (h : Heard) → slice_get heard at ≡ Some h → p h ≡ true → has_entry p heard h.site ≡ true
unfolding has_entry
entry_has p [] at h e t = absurd (none-some h e)
entry_has p (g ∷ hs) zero h e t =
    let same : g ≡ h = same_Some g h e in
    or_left ((g.site == h.site) && p g) (has_entry p hs h.site) (and_from (g.site == h.site) (p g) (eq-eqb g.site h.site (ap (λ (k : Heard). k.site) same)) (subst (λ (k : Heard). p k ≡ true) (sym same) t))
entry_has p (g ∷ hs) (suc at) h e t = or_right ((g.site == h.site) && p g) (has_entry p hs h.site) (entry_has p hs at h e t)

entry_yes : (p : Heard → Bool) (h : Heard) (hs : List Heard) (n : ℕ) → count_sites n (has_entry p hs) ≤ count_by p hs → count_sites n (has_entry p (h ∷ hs)) ≤ suc (count_by p hs)
unfolding has_entry
entry_yes p h hs n l =
    omega (arith, l, count_new n h.site (has_entry p hs) (has_entry p (h ∷ hs)) (λ (s : ℕ) (e : has_entry p (h ∷ hs) s ≡ true). elim (or_cases ((h.site == s) && p h) (has_entry p hs s) e) [ inl f ↦ inr (sym (eqb-true h.site s (and_parts (h.site == s) (p h) f).0)) | inr f ↦ inl f ]))

entry_no : (p : Heard → Bool) (h : Heard) (hs : List Heard) (n : ℕ) → p h ≡ false → count_sites n (has_entry p hs) ≤ count_by p hs → count_sites n (has_entry p (h ∷ hs)) ≤ count_by p hs
unfolding has_entry
entry_no p h hs n f l =
    omega (arith, l, count_weaker n (has_entry p (h ∷ hs)) (has_entry p hs) (λ (s : ℕ) (e : has_entry p (h ∷ hs) s ≡ true). elim (or_cases ((h.site == s) && p h) (has_entry p hs s) e) [ inl g ↦ absurd (both_ways (p h) f (and_parts (h.site == s) (p h) g).1) | inr g ↦ g ]))

-- the count of a list with one more entry
count_cons : (p : Heard → Bool) (h : Heard) (hs : List Heard) → count_by p (h ∷ hs) ≡ cond (p h) 1 0 + count_by p hs
count_cons p h hs = sum_by-cons (λ (g : Heard). cond (p g) 1 0) h hs

count_yes : (p : Heard → Bool) (h : Heard) (hs : List Heard) → p h ≡ true → count_by p (h ∷ hs) ≡ suc (count_by p hs)
count_yes p h hs e =
    let one : ◌≡◌ {A = ℕ} (cond (p h) 1 0) 1 = cond-true (p h) 1 0 e in
    omega (arith, one, count_cons p h hs)

count_no : (p : Heard → Bool) (h : Heard) (hs : List Heard) → p h ≡ false → count_by p (h ∷ hs) ≡ count_by p hs
count_no p h hs e =
    let none : ◌≡◌ {A = ℕ} (cond (p h) 1 0) 0 = cond-false (p h) 1 0 e in
    omega (arith, none, count_cons p h hs)

-- no more sites have an entry that passes than there are such entries
pub count_entries : (p : Heard → Bool) (heard : List Heard) (n : ℕ) → count_sites n (has_entry p heard) ≤ count_by p heard
unfolding has_entry
count_entries p [] n = count_none n
  where
    count_none : (m : ℕ) → count_sites m (λ s. false) ≤ 0
    count_none zero = omega arith
    count_none (suc m) = count_none m
count_entries p (h ∷ hs) n =
    elim (cases_Bool (p h)) [
      | inl e ↦ subst (λ (k : ℕ). count_sites n (has_entry p (h ∷ hs)) ≤ k) (sym (count_yes p h hs e)) (entry_yes p h hs n (count_entries p hs n))
      | inr e ↦ subst (λ (k : ℕ). count_sites n (has_entry p (h ∷ hs)) ≤ k) (sym (count_no p h hs e)) (entry_no p h hs n e (count_entries p hs n))
    ]

-- two tests that exclude each other share the entries
pub count_exclusive : (p q : Heard → Bool) (heard : List Heard) → ((h : Heard) → p h ≡ true → q h ≡ true → ⊥) → count_by p heard + count_by q heard ≤ length heard
count_exclusive p q [] x = omega arith
count_exclusive p q (h ∷ hs) x =
    elim (cases_Bool (p h)) [
      | inl e ↦ elim (cases_Bool (q h)) [
        | inl f ↦ absurd (x h e f)
        | inr f ↦ omega (arith, count_exclusive p q hs x, count_yes p h hs e, count_no q h hs f)
      ]
      | inr e ↦ elim (cases_Bool (q h)) [
        | inl f ↦ omega (arith, count_exclusive p q hs x, count_no p h hs e, count_yes q h hs f)
        | inr f ↦ omega (arith, count_exclusive p q hs x, count_no p h hs e, count_no q h hs f)
      ]
    ]

-- the first place that passes: no entry passes where there is none
pub place_none : (p : Heard → Bool) (heard : List Heard) (at : ℕ) (h : Heard) → position p heard ≡ None → slice_get heard at ≡ Some h → p h ≡ false
place_none p heard at h e is =
    elim (cases_Bool (nat_lt (position_or_len p heard) (length heard))) [
      | inl t ↦ absurd (none-some (position_or_len p heard) (sym e ∙ cond-true (nat_lt (position_or_len p heard) (length heard)) (Some (position_or_len p heard)) None t))
      | inr t ↦
          let past : length heard ≤ position_or_len p heard = ltb-false (position_or_len p heard) (length heard) t in
          let within : at < length heard = slice_get_within heard at h is in
          subst (λ (g : Heard). p g ≡ false) (get_or_from_slice_get heard at h h is) (fails_before_first p heard at h (omega arith))
    ]

-- and the entry there passes
pub place_some : (p : Heard → Bool) (heard : List Heard) (at : ℕ) → position p heard ≡ Some at → (h : Heard) × (slice_get heard at ≡ Some h) × (p h ≡ true)
place_some p [] at e = absurd (none-some at e)
place_some p (g ∷ hs) at e =
    let w = position-Some p (g ∷ hs) at g e in
    (_, slice_get-get_or (g ∷ hs) at g w.0, w.1)
