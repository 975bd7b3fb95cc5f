-- The name whose value is chosen at a version, and the greatest version at which one is.
use Rattle.std.proofs.Common.{◌≡◌, ℕ, zero, suc, ◌≤◌, ◌⊎◌, inl, inr, List, [], ◌∷◌, Some, None, Bool, true, false, refl, ap, sym, ◌∙◌, subst, arith}
use Rattle.std.proofs.lemmas.Bool.{cases_eq, and_parts, and_from, leb-true}
use Rattle.std.specs.Prelude.{Option, ◌&&◌, if◌then◌else◌, is_some}
use Rattle.std.specs.List.{Contains}
use Rattle.gz_config.specs.declared.Config.{Config}
use Rattle.gz_core.specs.Configurations.{IsConfig, need}
use Rattle.gz_core.specs.Counts.{count_sites}
use Rattle.gz_core.specs.Names.{Name}
use Rattle.gz_core.proofs.Awaited.{contains_cases, contains_none}
use Rattle.gz_model.specs.Casts.{is_at, has_cast, has_enough, IsChosen}
use Rattle.gz_model.specs.declared.casts.Cast.{Cast}
use Rattle.gz_model.proofs.LeastNames.{IsChosenOf, casts_from_chosen, at_means}
use Rattle.gz_laws.specs.Serial.{chosen_among, chosen_at, top_version, top_chosen, top_of}
use Rattle.gz_world.specs.States.{State}
use Rattle.gz_laws.proofs.Ordered.{below_next}

module _ (c : Config) (casts : List Cast) (key : List ℕ) (v : ℕ) where
  test : Cast → Bool
  test k = is_at k key v && has_enough c casts key v k.ballot k.name

  here_chosen : (k : Cast) (x : Name) → test k ≡ true → Some k.name ≡ Some x → IsChosen c casts key v x
  unfolding test
  here_chosen k x t e =
      let name : k.name ≡ x = cc in
      let parts = and_parts (is_at k key v) (has_enough c casts key v k.ballot k.name) t in
      subst (IsChosen c casts key v) name (k.ballot, leb-true (need c.qc c.qf k.ballot) (count_sites c.n (has_cast casts key v k.ballot k.name)) parts.1)

  -- what is found is chosen
  found_chosen : (ks : List Cast) (x : Name) → chosen_among c casts key v ks ≡ Some x → IsChosen c casts key v x
  unfolding test
  found_chosen [] x e = cc
  found_chosen (k ∷ ks) x e = elim (test k) as (λ t. test k ≡ t → (if t then Some k.name else chosen_among c casts key v ks) ≡ Some x → IsChosen c casts key v x) [
    | true ↦ λ t f. here_chosen k x t f
    | false ↦ λ t f. found_chosen ks x f
  ] refl e

  -- where a vote of a quorum stands, something is found
  finds_some : (ks : List Cast) (k : Cast) → Contains ks k → test k ≡ true → (x : Name) × (chosen_among c casts key v ks ≡ Some x)
  unfolding test
  finds_some [] k h t = absurd (contains_none k h)
  finds_some (d ∷ ks) k h t = elim (test d) as (λ b. test d ≡ b → (x : Name) × ((if b then Some d.name else chosen_among c casts key v ks) ≡ Some x)) [
    | true ↦ λ is. (d.name, refl)
    | false ↦ λ is. elim (contains_cases d ks k h) [
      | inl e ↦ (let bad : true ≡ false = sym t ∙ ap test (sym e) ∙ is in cc)
      | inr e ↦ finds_some ks k e t
    ]
  ] refl

  of_quorum : (x : Name) → IsChosenOf c casts casts key v x → (y : Name) × (chosen_among c casts key v casts ≡ Some y)
  unfolding test
  of_quorum x h =
      let at = at_means h.cast key v h.at in
      let enough = subst (λ (k : List ℕ). has_enough c casts k v h.cast.ballot h.cast.name ≡ true) at.1 (subst (λ (n : ℕ). has_enough c casts h.cast.key n h.cast.ballot h.cast.name ≡ true) at.0 h.enough) in
      finds_some casts h.cast h.one (and_from (is_at h.cast key v) (has_enough c casts key v h.cast.ballot h.cast.name) h.at enough)

version_low : (ks : List Cast) (k : Cast) → Contains ks k → k.version ≤ top_version ks
version_low [] k h = absurd (contains_none k h)
version_low (d ∷ ks) k h = elim (contains_cases d ks k h) [
  | inl e ↦ (let same : k.version ≡ d.version = ap (λ (q : Cast). q.version) (sym e) in omega (arith, same))
  | inr e ↦ (let low = version_low ks k e in omega (arith, low))
]

-- one value is chosen at a version
abbrev pub OneChosen : List ℕ → State → Type 0
OneChosen key s = (v : ℕ) (x y : Name) → IsChosen s.cfg s.casts key v x → IsChosen s.cfg s.casts key v y → x ≡ y

pub chosen_at_is : (key : List ℕ) (s : State) (v : ℕ) (x : Name) → IsConfig s.cfg → OneChosen key s → IsChosen s.cfg s.casts key v x → chosen_at s key v ≡ Some x
chosen_at_is key s v x config one h =
    let k = of_quorum s.cfg s.casts key v x (casts_from_chosen s.cfg s.casts key v x config h) in
    k.1 ∙ ap Some (one v k.0 x (found_chosen s.cfg s.casts key v s.casts k.0 k.1) h)

pub is_chosen_at : (key : List ℕ) (s : State) (v : ℕ) (x : Name) → chosen_at s key v ≡ Some x → IsChosen s.cfg s.casts key v x
is_chosen_at key s v x e = found_chosen s.cfg s.casts key v s.casts x e

some_of : (o : Option Name) (x : Name) → o ≡ Some x → is_some o ≡ true
some_of o x e = ap is_some e

of_some : (o : Option Name) → is_some o ≡ true → (x : Name) × (o ≡ Some x)
of_some None e = cc
of_some (Some x) e = (x, refl)

module _ (key : List ℕ) (s : State) where
  low_top : (n v : ℕ) (x : Name) → 1 ≤ v → v ≤ n → chosen_at s key v ≡ Some x → v ≤ top_chosen s key n
  low_top zero v x positive le e = absurd (omega (arith, positive, le))
  low_top (suc n) v x positive le e = elim (is_some (chosen_at s key (suc n))) as (λ t. is_some (chosen_at s key (suc n)) ≡ t → v ≤ (if t then suc n else top_chosen s key n)) [
    | true ↦ λ is. le
    | false ↦ λ is. elim (cases_eq v (suc n)) [
      | inl same ↦ (let bad : true ≡ false = sym (some_of (chosen_at s key (suc n)) x (ap (chosen_at s key) (sym same) ∙ e)) ∙ is in cc)
      | inr ne ↦ low_top n v x positive (below_next v n le ne) e
    ]
  ] refl

  top_found : (n : ℕ) → (top_chosen s key n ≡ 0) ⊎ ((x : Name) × (chosen_at s key (top_chosen s key n) ≡ Some x))
  top_found zero = inl refl
  top_found (suc n) = elim (is_some (chosen_at s key (suc n))) as (λ t. is_some (chosen_at s key (suc n)) ≡ t → let top = (if t then suc n else top_chosen s key n) in (top ≡ 0) ⊎ ((x : Name) × (chosen_at s key top ≡ Some x))) [
    | true ↦ λ is. inr (of_some (chosen_at s key (suc n)) is)
    | false ↦ λ is. top_found n
  ] refl

  -- each version at which a value is chosen is at or below the greatest one
  pub chosen_low : (v : ℕ) (x : Name) → IsConfig s.cfg → OneChosen key s → 1 ≤ v → IsChosen s.cfg s.casts key v x → v ≤ top_of s key
  chosen_low v x config one positive h =
      let k = casts_from_chosen s.cfg s.casts key v x config h in
      let at = at_means k.cast key v k.at in
      let low = version_low s.casts k.cast k.one in
      low_top (top_version s.casts) v x positive (subst (λ (n : ℕ). n ≤ top_version s.casts) at.0 low) (chosen_at_is key s v x config one h)

  pub top_is : (top_of s key ≡ 0) ⊎ ((x : Name) × IsChosen s.cfg s.casts key (top_of s key) x)
  top_is = elim (top_found (top_version s.casts)) [ inl e ↦ inl e | inr e ↦ inr (e.0, is_chosen_at key s (top_of s key) e.0 e.1) ]
