-- A call keeps the order with all later ones, where it shows a version below the least bound of those that began after its end.
use Rattle.std.proofs.Common.{ℕ, ◌≡◌, ◌+◌, ◌-◌, ◌<◌, ◌≤◌, List, length, get_or, slice_get, inl, inr, sym, ap, subst, ◌∙◌, arith}
use Rattle.std.specs.Prelude.{Option, Some, option_map}
use Rattle.std.proofs.lemmas.Bool.{cases_lt}
use Rattle.std.proofs.lemmas.Option.{same_Some, slice_get-get_or}
use Rattle.gz_core.specs.declared.calls.Call.{Call}
use Rattle.gz_core.specs.declared.calls.Call.TheVariants.{Put, Delete, Get, GetAt, Collect}
use Rattle.gz_history.specs.Answers.{shows, IsWrite}
use Rattle.gz_history.specs.Broken.{IsHistory, KeptWith}
use Rattle.gz_history.specs.Index.{AreGroups, AreTaken, IsNotAfter, IsBelowLeast, bound_at, bound_of}
use Rattle.gz_history.specs.Legal.{KeepOrder, IsBefore}
use Rattle.gz_history.specs.declared.record.CallRec.{CallRec}
use Rattle.gz_history.proofs.FirstEntries.{one_group, grouped}

-- a version below a bound
below_bound : (call : Call) (v w : ℕ) → v < bound_at call w → (v ≤ w) × (IsWrite call → v < w)
below_bound (Put key bytes) v w h = (omega arith, λ is. h)
below_bound (Delete key) v w h = (omega arith, λ is. h)
below_bound (Get key) v w h = (omega arith, λ is. absurd is)
below_bound (GetAt key asked) v w h = (omega arith, λ is. absurd is)
below_bound (Collect key keep) v w h = (omega arith, λ is. absurd is)

-- one more call is taken
pub taken_more : (calls : List CallRec) (groups : List ℕ) (place : ℕ) (old new : ℕ → Option ℕ) (a : CallRec) (g : ℕ) → slice_get calls place ≡ Some a → slice_get groups place ≡ Some g
    → ((k l : ℕ) → old k ≡ Some l → (m : ℕ) × ((new k ≡ Some m) × (m ≤ l))) → ((w : ℕ) → bound_of a ≡ Some w → (m : ℕ) × ((new g ≡ Some m) × (m ≤ w)))
    → AreTaken calls groups (place + 1) old → AreTaken calls groups place new
taken_more calls groups place old new a g at group keeps takes h j b k w l p q r =
    elim (cases_lt place j) [
      | inl s ↦ (let was = h j b k w (omega arith) p q r in
          let now = keeps k was.0 was.1.0 in
          let first = was.1.1 in
          let second = now.1.1 in
          (now.0, (now.1.0, omega arith)))
      | inr s ↦ (let e : place ≡ j = omega arith in
          let call : b ≡ a = same_Some b a (sym p ∙ ap (slice_get calls) (sym e) ∙ at) in
          let same : k ≡ g = same_Some k g (sym q ∙ ap (slice_get groups) (sym e) ∙ group) in
          subst (λ (n : ℕ). (m : ℕ) × ((new n ≡ Some m) × (m ≤ w))) (sym same) (takes w (ap bound_of (sym call) ∙ r)))
    ]

-- no call below a place began after a tick
none_after : (calls : List CallRec) (next tick : ℕ) → IsHistory calls → IsNotAfter calls next tick → next ≤ length calls → (j : ℕ) (b : CallRec) → j < next → slice_get calls j ≡ Some b → b.begin ≤ tick
none_after calls next tick h top most j b l p =
    let last = next - 1 in
    let back : last + 1 ≡ next = omega arith in
    let within : last < length calls = omega arith in
    let highest : slice_get calls last ≡ Some (get_or calls last b) = slice_get-get_or calls last b within in
    let low : (get_or calls last b).begin ≤ tick = top last (get_or calls last b) back highest in
    elim (cases_lt j last) [
      | inl s ↦ (let rose : b.begin < (get_or calls last b).begin = (h.order j last s within b (get_or calls last b) p highest).began in omega arith)
      | inr s ↦ (let e : j ≡ last = omega arith in
          let same : b ≡ get_or calls last b = same_Some b (get_or calls last b) (sym p ∙ ap (slice_get calls) e ∙ highest) in
          subst (λ (x : CallRec). x.begin ≤ tick) (sym same) low)
    ]

ended_before : (o : Option ℕ) (end tick : ℕ) → o ≡ Some end → IsBefore o tick → end < tick
ended_before o end tick e before = subst (λ (x : Option ℕ). IsBefore x tick) e before

-- the order is kept
pub keeps_order : (calls : List CallRec) (groups : List ℕ) (place next end g : ℕ) (a : CallRec) (least : ℕ → Option ℕ) → IsHistory calls → length groups ≡ length calls → AreGroups calls groups
    → slice_get calls place ≡ Some a → slice_get groups place ≡ Some g → a.end ≡ Some end → next ≤ length calls → IsNotAfter calls next end → AreTaken calls groups next least
    → IsBelowLeast least g a → KeptWith KeepOrder calls place (length calls)
keeps_order calls groups place next end g a least history len are at group ended most top taken below j later within a2 b p q key v w before show stand =
    let same : a2 ≡ a = same_Some a2 a (sym p ∙ at) in
    let ended2 : a2.end ≡ Some end = ap (λ (x : CallRec). x.end) same ∙ ended in
    let after : end < b.begin = ended_before a2.end end b.begin ended2 before in
    let h = grouped groups j (omega arith) in
    let k : g ≡ h.0 = one_group calls groups are place j a2 b g h.0 p q group h.1 key in
    let bounded : bound_of b ≡ Some (bound_at b.call w) = ap (λ (o : Option ℕ). option_map (bound_at b.call) o) stand in
    elim (cases_lt j next) [
      | inl s ↦ (let early = none_after calls next end history top most j b s q in absurd (omega arith))
      | inr s ↦ (let found = taken j b h.0 (bound_at b.call w) (omega arith) q h.1 bounded in
          let small = found.1.1 in
          let shown : shows a.answer ≡ Some v = sym (ap (λ (x : CallRec). shows x.answer) same) ∙ show in
          let lower : v < found.0 = below v found.0 shown (ap least k ∙ found.1.0) in
          below_bound b.call v w (omega arith))
    ]
