-- At most one thing is refused.
use Rattle.std.proofs.Common.{◌≡◌, ℕ, ◌+◌, ◌≤◌, length, sym, ◌∙◌, ap, arith, inl, inr}
use Rattle.std.proofs.lemmas.Bool.{cases_lt}
use Rattle.gz_code.specs.CodeWord.{piece_width}
use Rattle.gz_code.specs.Decoding.{Given, index_at, IsFirst, IsBeyond, IsRepeated, IsMisfit, Nowhere, IsRefused}
use Rattle.gz_code.specs.declared.error.CodeError.{CodeError}
use Rattle.gz_code.specs.declared.error.CodeError.TheVariants.{Index, Repeated, Width, TooFew, NoMemory}

first_unique : (P : ℕ → Type 0) (n p q : ℕ) → IsFirst P n p → IsFirst P n q → p ≡ q
first_unique P n p q F G =
    elim (cases_lt p q) [
      | inl below ↦ absurd (G.before p below F.here)
      | inr from ↦ elim (cases_lt q p) [ inl above ↦ absurd (F.before q above G.here) | inr upto ↦ omega arith ]
    ]

-- the index of the first place
abbrev FirstIndex : (ℕ → Type 0) → Given → ℕ → Type 0
FirstIndex P given index = (place : ℕ) × IsFirst P (length given) place × (index_at given place ≡ index)

same_index : (P : ℕ → Type 0) (given : Given) (i j : ℕ) → FirstIndex P given i → FirstIndex P given j → i ≡ j
same_index P given i j F G = sym F.2 ∙ ap (index_at given) (first_unique P (length given) F.0 G.0 F.1 G.1) ∙ G.2

not_both : (P : ℕ → Type 0) (given : Given) (i : ℕ) → FirstIndex P given i → Nowhere P given → ⊥
not_both P given i F nowhere = nowhere F.0 F.1.below F.1.here

module _ (k m len : ℕ) (given : Given) where
  abbrev beyond : ℕ → Type 0
  beyond = IsBeyond (k + m) given

  abbrev repeated : ℕ → Type 0
  repeated = IsRepeated given

  abbrev misfit : ℕ → Type 0
  misfit = IsMisfit (piece_width k len) given

  pub refusal_unique : (e f : CodeError) → IsRefused k m len given e → IsRefused k m len given f → e ≡ f
  refusal_unique (Index i) (Index j) r s = ap Index (same_index beyond given i j r s)
  refusal_unique (Index i) (Repeated j) r s = absurd (not_both beyond given i r s.0)
  refusal_unique (Index i) (Width j) r s = absurd (not_both beyond given i r s.0)
  refusal_unique (Index i) (TooFew h n) r s = absurd (not_both beyond given i r s.0)
  refusal_unique (Repeated i) (Index j) r s = absurd (not_both beyond given j s r.0)
  refusal_unique (Repeated i) (Repeated j) r s = ap Repeated (same_index repeated given i j r.1 s.1)
  refusal_unique (Repeated i) (Width j) r s = absurd (not_both repeated given i r.1 s.1)
  refusal_unique (Repeated i) (TooFew h n) r s = absurd (not_both repeated given i r.1 s.1)
  refusal_unique (Width i) (Index j) r s = absurd (not_both beyond given j s r.0)
  refusal_unique (Width i) (Repeated j) r s = absurd (not_both repeated given j s.1 r.1)
  refusal_unique (Width i) (Width j) r s = ap Width (same_index misfit given i j r.2 s.2)
  refusal_unique (Width i) (TooFew h n) r s = absurd (not_both misfit given i r.2 s.2)
  refusal_unique (TooFew h n) (Index j) r s = absurd (not_both beyond given j s r.0)
  refusal_unique (TooFew h n) (Repeated j) r s = absurd (not_both repeated given j s.1 r.1)
  refusal_unique (TooFew h n) (Width j) r s = absurd (not_both misfit given j s.2 r.2)
  refusal_unique (TooFew h n) (TooFew g o) r s = ap (λ x. TooFew x n) (r.4 ∙ sym s.4) ∙ ap (TooFew g) (r.5 ∙ sym s.5)
  refusal_unique NoMemory f r s = absurd r
  refusal_unique (Index i) NoMemory r s = absurd s
  refusal_unique (Repeated i) NoMemory r s = absurd s
  refusal_unique (Width i) NoMemory r s = absurd s
  refusal_unique (TooFew h n) NoMemory r s = absurd s

  pub nothing_refused : (e : CodeError) → Nowhere beyond given → Nowhere repeated given → Nowhere misfit given → k ≤ length given → IsRefused k m len given e → ⊥
  nothing_refused (Index i) B R M enough r = not_both beyond given i r B
  nothing_refused (Repeated i) B R M enough r = not_both repeated given i r.1 R
  nothing_refused (Width i) B R M enough r = not_both misfit given i r.2 M
  nothing_refused (TooFew h n) B R M enough r = absurd (omega (arith, r.3))
  nothing_refused NoMemory B R M enough r = absurd r
