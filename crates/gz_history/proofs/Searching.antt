-- From the search for a broken rule to the rules.
use Rattle.std.proofs.Common.{◌≡◌, ℕ, ◌<◌, ◌+◌, List, Some, inl, inr, ◌∙◌, sym, subst, slice_get, arith}
use Rattle.std.proofs.lemmas.Bool.{cases_lt}
use Rattle.std.proofs.lemmas.Option.{same_Some}
use Rattle.std.proofs.lemmas.Bool.Decides.{nat_tests}
use Rattle.std.specs.Prelude.{◌&&◌, not, nat_eq, true, false}
use Rattle.gz_core.specs.Names.{Name}
use Rattle.gz_core.proofs.Ballots.{name_refl, name_means}
use Rattle.gz_history.specs.Broken.{AreInOrder, AllPrecede, PrecedesAt, EndsLater}
use Rattle.gz_history.specs.declared.record.CallRec.{CallRec}

-- what holds at each place below an end, and at the end, holds below the next
pub below_next : {P : ℕ → Type 0} (n : ℕ) → ((j : ℕ) → j < n → P j) → P n → (j : ℕ) → j < n + 1 → P j
below_next {P = P} n h p j l =
    elim (cases_lt j n) [
      | inl s ↦ h j s
      | inr g ↦ let e : n ≡ j = omega arith in subst P e p
    ]

-- one more call in order
pub order_more : (calls : List CallRec) (n : ℕ) (a : CallRec) → AreInOrder calls n → slice_get calls n ≡ Some a → EndsLater a → AllPrecede calls n n → AreInOrder calls (n + 1)
order_more calls n a h p ends precede = record {
  order = λ i j l m. below_next {P = λ (k : ℕ). i < k → PrecedesAt calls i k} n (λ k o s. h.order i k s o) (λ s. precede i s) j m l;
  ends = λ i b l s. below_next {P = λ (k : ℕ). (c : CallRec) → slice_get calls k ≡ Some c → EndsLater c} n (λ k o c t. h.ends k c o t) (λ c t. subst EndsLater (same_Some a c (sym p ∙ t)) ends) i l b s;
}

-- what holds of each call below an end, and of the call there, holds of each call below the next
pub each_more : {P : CallRec → Type 0} (calls : List CallRec) (n : ℕ) (a : CallRec) → ((i : ℕ) (c : CallRec) → i < n → slice_get calls i ≡ Some c → P c) → slice_get calls n ≡ Some a → P a → (i : ℕ) (c : CallRec) → i < n + 1 → slice_get calls i ≡ Some c → P c
each_more {P = P} calls n a h p r i c l s =
    below_next {P = λ (m : ℕ). (d : CallRec) → slice_get calls m ≡ Some d → P d} n (λ m o d t. h m d o t) (λ d t. subst P (same_Some a d (sym p ∙ t)) r) i l c s

-- equal names pass the test of their parts
pub names_tie : (x y : Name) → x ≡ y → (nat_eq x.session y.session && nat_eq x.seq y.seq) ≡ true
names_tie x y e = subst (λ (z : Name). (nat_eq x.session z.session && nat_eq x.seq z.seq) ≡ true) e (name_refl x)

-- names that the test does not tell apart are equal
pub same_of : (x y : Name) → not (nat_eq x.session y.session && nat_eq x.seq y.seq) ≡ false → x ≡ y
same_of x y e = name_means x y (grind (arith, nat_tests))
