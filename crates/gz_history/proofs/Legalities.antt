-- A history that keeps the rules at each two places is legal.
use Rattle.std.proofs.Common.{◌≡◌, ℕ, ◌<◌, ◌≤◌, List, Option, Some, None, inl, inr, refl, ap, ◌∙◌, sym, subst, length, slice_get, Contains, arith}
use Rattle.std.specs.Prelude.{Result, Ok, Err, IfOk}
use Rattle.std.proofs.lemmas.Bool.{cases_lt}
use Rattle.std.proofs.lemmas.Option.{same_Some, slice_get_read, slice_get_within}
use Rattle.gz_history.specs.Legal.{IsLegal, EachTwo, Agree, TakeEffectOnce, KeepOrder, IsBefore, ReturnWritten, ReadsAWrite, KeepsAsked}
use Rattle.gz_history.specs.Broken.{IsHistory, KeptBefore, HaveSources, ReturnedBefore, KeptAsked}
use Rattle.gz_history.specs.declared.legality.Broken.{Broken}
use Rattle.gz_history.specs.declared.record.CallRec.{CallRec}

-- a relation that is symmetric and that each call has with itself holds of each two calls, if it does in their order
each_two_both : (R : CallRec → CallRec → Type 0) (calls : List CallRec) → ((a b : CallRec) → R a b → R b a) → ((a : CallRec) → R a a) → KeptBefore R calls (length calls) → EachTwo R calls
each_two_both R calls turn same kept a b (i, l, p) (j, m, q) k =
    let at : slice_get calls i ≡ Some a = slice_get_read calls (length calls) i a refl l (sym p) in
    let to : slice_get calls j ≡ Some b = slice_get_read calls (length calls) j b refl m (sym q) in
    elim (cases_lt i j) [
      | inl s ↦ kept i l j s m a b at to k
      | inr g ↦ elim (cases_lt j i) [
        | inl s ↦ turn b a (kept j m i s l b a to at (sym k))
        | inr h ↦
            let e : i ≡ j = omega arith in
            subst (λ (x : CallRec). R a x) (same_Some a b (sym at ∙ ap (slice_get calls) e ∙ to)) (same a)
      ]
    ]

agree_turned : (a b : CallRec) → Agree a b → Agree b a
agree_turned a b h v x y p q r s = sym (h v y x q p s r)

agree_same : (a : CallRec) → Agree a a
agree_same a v x y p q r s = same_Some x y (sym r ∙ s)

once_turned : (a b : CallRec) → TakeEffectOnce a b → TakeEffectOnce b a
once_turned a b h x v w p q r s = sym (h x w v q p s r)

once_same : (a : CallRec) → TakeEffectOnce a a
once_same a x v w p q r s = same_Some v w (sym r ∙ s)

-- a tick that stands before another is one
before_is : (o : Option ℕ) (tick : ℕ) → IsBefore o tick → (end : ℕ) × ((o ≡ Some end) × (end < tick))
before_is None tick h = absurd h
before_is (Some end) tick h = (end, (refl, h))

-- no call ended before an earlier one began, nor before it began itself
not_before : (calls : List CallRec) (i j : ℕ) (a b : CallRec) → IsHistory calls → slice_get calls i ≡ Some a → slice_get calls j ≡ Some b → j ≤ i → IsBefore a.end b.begin → ⊥
not_before calls i j a b h p q l before =
    let e = before_is a.end b.begin before in
    let began : a.begin < e.0 = h.ends i a (slice_get_within calls i a p) p e.0 e.1.0 in
    let ended : e.0 < b.begin = e.1.1 in
    elim (cases_lt j i) [
      | inl s ↦ let rose : b.begin < a.begin = (h.order j i s (slice_get_within calls i a p) b a q p).began in omega arith
      | inr g ↦
          let f : i ≡ j = omega arith in
          let same : a ≡ b = same_Some a b (sym p ∙ ap (slice_get calls) f ∙ q) in
          let ticks : a.begin ≡ b.begin = ap (λ (x : CallRec). x.begin) same in omega arith
    ]

order_from : (calls : List CallRec) → IsHistory calls → KeptBefore KeepOrder calls (length calls) → EachTwo KeepOrder calls
order_from calls h kept a b (i, l, p) (j, m, q) k v w before =
    let at : slice_get calls i ≡ Some a = slice_get_read calls (length calls) i a refl l (sym p) in
    let to : slice_get calls j ≡ Some b = slice_get_read calls (length calls) j b refl m (sym q) in
    elim (cases_lt i j) [
      | inl s ↦ kept i l j s m a b at to k v w before
      | inr g ↦ absurd (not_before calls i j a b h at to g before)
    ]

returned_from : (calls : List CallRec) → ReturnedBefore calls (length calls) → EachTwo ReturnWritten calls
returned_from calls kept a b (i, l, p) (j, m, q) k =
    kept i l j m a b (slice_get_read calls (length calls) i a refl l (sym p)) (slice_get_read calls (length calls) j b refl m (sym q)) k

sources_from : (calls : List CallRec) → HaveSources calls (length calls) → (a : CallRec) → Contains calls a → ReadsAWrite calls a
sources_from calls kept a (i, l, p) = kept i a l (slice_get_read calls (length calls) i a refl l (sym p))

asked_from : (calls : List CallRec) → KeptAsked calls (length calls) → (a : CallRec) → Contains calls a → KeepsAsked a
asked_from calls kept a (i, l, p) = kept i a l (slice_get_read calls (length calls) i a refl l (sym p))

pub legal_from : (calls : List CallRec) → IsHistory calls → KeptBefore Agree calls (length calls) → KeptBefore TakeEffectOnce calls (length calls) → KeptBefore KeepOrder calls (length calls) → HaveSources calls (length calls) → ReturnedBefore calls (length calls) → KeptAsked calls (length calls) → IsLegal calls
legal_from calls h agreement once order sources values asked = record {
  agreement = each_two_both Agree calls agree_turned agree_same agreement;
  once = each_two_both TakeEffectOnce calls once_turned once_same once;
  order = order_from calls h order;
  sources = sources_from calls sources;
  values = returned_from calls values;
  asked = asked_from calls asked;
}

-- the same, where the last rule was tried last
pub legal_if : (calls : List CallRec) (r : Result (Unit {0}) Broken) → IsHistory calls → KeptBefore Agree calls (length calls) → KeptBefore TakeEffectOnce calls (length calls) → KeptBefore KeepOrder calls (length calls) → HaveSources calls (length calls) → ReturnedBefore calls (length calls) → IfOk r (λ _. KeptAsked calls (length calls)) → IfOk r (λ _. IsLegal calls)
legal_if calls (Ok u) h agreement once order sources values asked = legal_from calls h agreement once order sources values asked
legal_if calls (Err broken) h agreement once order sources values asked = tt
