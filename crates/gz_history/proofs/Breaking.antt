-- The steps of the search for two calls that break a relation.
use Rattle.std.proofs.Common.{◌≡◌, ℕ, ◌<◌, ◌+◌, List, Some, ap, ◌∙◌, sym, subst, slice_get}
use Rattle.std.proofs.lemmas.Option.{same_Some}
use Rattle.gz_core.specs.Names.{Name}
use Rattle.gz_history.specs.Broken.{OfOneObject, Broke, KeptAt, KeptWith, AreBroken, ReturnedUpTo, AllPrecede, Precedes, PrecedesAt}
use Rattle.gz_history.specs.Legal.{ReturnWritten}
use Rattle.gz_history.specs.declared.record.CallRec.{CallRec}
use Rattle.gz_history.specs.declared.legality.Broken.{Broken}
use Rattle.gz_history.proofs.Searching.{below_next}

-- what two calls keep, the calls at their places keep
kept_at : (R : CallRec → CallRec → Type 0) (calls : List CallRec) (i j : ℕ) (a b : CallRec) → slice_get calls i ≡ Some a → slice_get calls j ≡ Some b → OfOneObject R a b → KeptAt R calls i j
kept_at R calls i j a b p q kept c d r s =
    subst (λ (x : CallRec). OfOneObject R x d) (same_Some a c (sym p ∙ r)) (subst (λ (y : CallRec). OfOneObject R a y) (same_Some b d (sym q ∙ s)) kept)

-- one more call that is later
pub kept_more : (R : CallRec → CallRec → Type 0) (calls : List CallRec) (i n : ℕ) (a b : CallRec) → KeptWith R calls i n → slice_get calls i ≡ Some a → slice_get calls n ≡ Some b → OfOneObject R a b → KeptWith R calls i (n + 1)
kept_more R calls i n a b h p q kept j l m =
    below_next {P = λ (k : ℕ). i < k → KeptAt R calls i k} n (λ k o s. h k s o) (λ s. kept_at R calls i n a b p q kept) j m l

-- one more call that may be read from
pub returned_more : (calls : List CallRec) (i n : ℕ) (a b : CallRec) → ReturnedUpTo calls i n → slice_get calls i ≡ Some a → slice_get calls n ≡ Some b → OfOneObject ReturnWritten a b → ReturnedUpTo calls i (n + 1)
returned_more calls i n a b h p q kept =
    below_next {P = λ (k : ℕ). KeptAt ReturnWritten calls i k} n h (kept_at ReturnWritten calls i n a b p q kept)

abbrev told_of : ℕ → Name → Name → Broken
told_of clause a b = record { clause = clause; a = a; b = b }

-- two calls that break a relation, and are answered
pub broken_at : (R : CallRec → CallRec → Type 0) (clause told : ℕ) (calls : List CallRec) (i j : ℕ) (a b : CallRec) → slice_get calls i ≡ Some a → slice_get calls j ≡ Some b → Broke R a b → told ≡ clause → AreBroken R clause calls i j (record { clause = told; a = a.name; b = b.name })
broken_at R clause told calls i j a b p q broke e = record {
  a = a;
  b = b;
  first_is = p;
  second_is = q;
  broke = broke;
  told = ap (λ (n : ℕ). told_of n a.name b.name) e;
}

-- one more call that precedes
pub precede_more : (calls : List CallRec) (j n : ℕ) (a b : CallRec) → AllPrecede calls j n → slice_get calls n ≡ Some a → slice_get calls j ≡ Some b → Precedes a b → AllPrecede calls j (n + 1)
precede_more calls j n a b h p q precedes =
    below_next {P = λ (k : ℕ). PrecedesAt calls k j} n h
    (λ c d r s. subst (λ (x : CallRec). Precedes x d) (same_Some a c (sym p ∙ r)) (subst (λ (y : CallRec). Precedes a y) (same_Some b d (sym q ∙ s)) precedes))
