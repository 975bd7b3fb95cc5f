-- The least name of those that meet a condition, which one more name may come to meet.
use Rattle.std.proofs.Common.{◌≡◌, ℕ, suc, ◌+◌, ◌<◌, true, false, ◌&&◌, ◌==◌, List, [], ◌∷◌, ◌++◌, length, take, get_or, Option, Some, None, refl, ap, ◌∙◌, sym, subst, inl, inr, ◌⊎◌, arith}
use Rattle.std.specs.List.{Contains}
use Rattle.std.specs.Str.{bytes_eq}
use Rattle.std.proofs.lemmas.Bool.{true≢false, both_ways, and_parts, or_cases, eqb-true, leb-true, le-leb}
use Rattle.std.proofs.lemmas.Bool.Decides.{nat_tests}
use Rattle.std.proofs.lemmas.List.{take_more}
use Rattle.std.proofs.lemmas.List.Elements.{Contains-push, Contains-push_cases, Contains-append_left}
use Rattle.std.proofs.lemmas.Slice.Eq.{bytes_eq-Decides}
use Rattle.gz_core.specs.Names.{Name, BallotAt, same_ballot, same_name}
use Rattle.gz_core.specs.Configurations.{need, IsConfig}
use Rattle.gz_core.specs.Counts.{count_sites}
use Rattle.gz_config.specs.declared.Config.{Config}
use Rattle.gz_core.proofs.Ballots.{same_means, name_means}
use Rattle.gz_core.proofs.Counting.{count_found}
use Rattle.gz_core.proofs.Quorums.{need_some}
use Rattle.gz_model.specs.declared.casts.Cast.{Cast}
use Rattle.gz_model.specs.Casts.{is_at, is_vote, has_cast, has_enough, IsChosen, is_name_below, is_before_name, IsLeastName}

-- one more name may meet the condition
pub record AddsName (P R : Name → Type 0) (x : Name) : Type 0 where
  pub kept : (y : Name) → P y → R y
  pub new : (y : Name) → R y → P y ⊎ (y ≡ x)

-- no name stands before itself
name_below_never : (x : Name) → is_name_below x x ≡ false
name_below_never x = grind (arith, nat_tests)

-- a name that is not before another is not before one that is before that
name_below_other : (x m y : Name) → is_name_below x m ≡ true → is_name_below y m ≡ false → is_name_below y x ≡ false
name_below_other x m y h k = grind (arith, nat_tests)

-- a new name before the least one is the least one
pub name_taken : (P R : Name → Type 0) (x : Name) (least : Option Name) → AddsName P R x → R x → is_before_name x least ≡ true → IsLeastName P least → IsLeastName R (Some x)
name_taken P R x None a e b h =
    (e, λ (y : Name) (r : R y). elim (a.new y r) [ inl p ↦ absurd (h y p) | inr i ↦ subst (λ (z : Name). is_name_below z x ≡ false) (sym i) (name_below_never x) ])
name_taken P R x (Some m) a e b h =
    (e, λ (y : Name) (r : R y). elim (a.new y r) [ inl p ↦ name_below_other x m y b (h.1 y p) | inr i ↦ subst (λ (z : Name). is_name_below z x ≡ false) (sym i) (name_below_never x) ])

-- a name that does not meet it, or did before, leaves the least one
pub name_same : (P R : Name → Type 0) (least : Option Name) → ((y : Name) → P y → R y) → ((y : Name) → R y → P y) → IsLeastName P least → IsLeastName R least
name_same P R None kept new h = λ (y : Name) (r : R y). h y (new y r)
name_same P R (Some m) kept new h = (kept m h.0, λ (y : Name) (r : R y). h.1 y (new y r))

-- so does a name that is not before it
pub name_above : (P R : Name → Type 0) (x : Name) (least : Option Name) → AddsName P R x → is_before_name x least ≡ false → IsLeastName P least → IsLeastName R least
name_above P R x None a b h = absurd (true≢false b)
name_above P R x (Some m) a b h =
    (a.kept m h.0, λ (y : Name) (r : R y). elim (a.new y r) [ inl p ↦ h.1 y p | inr i ↦ subst (λ (z : Name). is_name_below z m ≡ false) (sym i) b ])

-- a value is that of one of these casts at this version, and a quorum has cast it
pub record IsChosenOf (cfg : Config) (casts some : List Cast) (key : List ℕ) (v : ℕ) (x : Name) : Type 0 where
  pub cast : Cast
  pub one : Contains some cast
  pub at : is_at cast key v ≡ true
  pub name : cast.name ≡ x
  pub enough : has_enough cfg casts cast.key cast.version cast.ballot cast.name ≡ true

-- the casts with one more
pub contains_more : (xs : List Cast) (i : ℕ) (x y : Cast) → i < length xs → x ≡ get_or xs i x → Contains (take (i + 1) xs) y → Contains (take i xs) y ⊎ (x ≡ y)
contains_more xs i x y l is h =
    elim (Contains-push_cases (take i xs) (get_or xs i x) y (subst (λ (ys : List Cast). Contains ys y) (take_more xs i x l) h)) [ inl e ↦ inl e | inr e ↦ inr (is ∙ e) ]

pub contains_kept : (xs : List Cast) (i : ℕ) (x y : Cast) → i < length xs → Contains (take i xs) y → Contains (take (i + 1) xs) y
contains_kept xs i x y l h = subst (λ (ys : List Cast). Contains ys y) (sym (take_more xs i x l)) (Contains-append_left (take i xs) (get_or xs i x ∷ []) y h)

pub contains_last : (xs : List Cast) (i : ℕ) (x : Cast) → i < length xs → x ≡ get_or xs i x → Contains (take (i + 1) xs) x
contains_last xs i x l is =
    subst (λ (ys : List Cast). Contains ys x) (sym (take_more xs i x l)) (subst (λ (z : Cast). Contains (take i xs ++ z ∷ []) x) is (Contains-push (take i xs) x))

-- where one more cast is looked at
pub chosen_kept : (cfg : Config) (casts xs : List Cast) (i : ℕ) (x : Cast) (key : List ℕ) (v : ℕ) → i < length xs → (y : Name) → IsChosenOf cfg casts (take i xs) key v y → IsChosenOf cfg casts (take (i + 1) xs) key v y
chosen_kept cfg casts xs i x key v l y h = record { cast = h.cast; one = contains_kept xs i x h.cast l h.one; at = h.at; name = h.name; enough = h.enough }

pub chosen_adds : (cfg : Config) (casts xs : List Cast) (i : ℕ) (x : Cast) (key : List ℕ) (v : ℕ) → i < length xs → x ≡ get_or xs i x → AddsName (IsChosenOf cfg casts (take i xs) key v) (IsChosenOf cfg casts (take (i + 1) xs) key v) x.name
chosen_adds cfg casts xs i x key v l is = record {
  kept = chosen_kept cfg casts xs i x key v l;
  new = λ (y : Name) (h : IsChosenOf cfg casts (take (i + 1) xs) key v y).
      elim (contains_more xs i x h.cast l is h.one) [
        | inl e ↦ inl (record { cast = h.cast; one = e; at = h.at; name = h.name; enough = h.enough })
        | inr e ↦ inr (sym h.name ∙ sym (ap (λ (c : Cast). c.name) e))
      ];
}

-- the cast that is looked at is not at this version, or no quorum has cast it
pub chosen_skips : (cfg : Config) (casts xs : List Cast) (i : ℕ) (x : Cast) (key : List ℕ) (v : ℕ) → i < length xs → x ≡ get_or xs i x → (is_at x key v ≡ false) ⊎ (has_enough cfg casts x.key x.version x.ballot x.name ≡ false) → (y : Name) → IsChosenOf cfg casts (take (i + 1) xs) key v y → IsChosenOf cfg casts (take i xs) key v y
chosen_skips cfg casts xs i x key v l is not y h =
    elim (contains_more xs i x h.cast l is h.one) [
      | inl e ↦ record { cast = h.cast; one = e; at = h.at; name = h.name; enough = h.enough }
      | inr e ↦ absurd (elim not [
        | inl f ↦ both_ways (is_at x key v) f (subst (λ (c : Cast). is_at c key v ≡ true) (sym e) h.at)
        | inr f ↦ both_ways (has_enough cfg casts x.key x.version x.ballot x.name) f (subst (λ (c : Cast). has_enough cfg casts c.key c.version c.ballot c.name ≡ true) (sym e) h.enough)
      ])
    ]

-- what a vote's tests show
pub record IsThisVote (cast : Cast) (k : List ℕ) (v : ℕ) (b : BallotAt) (x : Name) : Type 0 where
  pub key : cast.key ≡ k
  pub version : cast.version ≡ v
  pub ballot : cast.ballot ≡ b
  pub name : cast.name ≡ x

pub at_means : (cast : Cast) (key : List ℕ) (v : ℕ) → is_at cast key v ≡ true → (cast.version ≡ v) × (cast.key ≡ key)
at_means cast key v h =
    let parts : ((cast.version == v) ≡ true) × (bytes_eq cast.key key ≡ true) = and_parts (cast.version == v) (bytes_eq cast.key key) h in
    let decides = bytes_eq-Decides cast.key key in
    (eqb-true cast.version v parts.0, decides.0 parts.1)

pub vote_means : (cast : Cast) (key : List ℕ) (v : ℕ) (b : BallotAt) (x : Name) → is_vote cast key v b x ≡ true → IsThisVote cast key v b x
vote_means cast key v b x h =
    let parts : ((is_at cast key v && same_ballot cast.ballot b) ≡ true) × (same_name cast.name x ≡ true) = and_parts (is_at cast key v && same_ballot cast.ballot b) (same_name cast.name x) h in
    let more : (is_at cast key v ≡ true) × (same_ballot cast.ballot b ≡ true) = and_parts (is_at cast key v) (same_ballot cast.ballot b) parts.0 in
    let here : (cast.version ≡ v) × (cast.key ≡ key) = at_means cast key v more.0 in
    record { key = here.1; version = here.0; ballot = same_means cast.ballot b more.1; name = name_means cast.name x parts.1 }

-- where a site has cast a vote, here is the cast
pub cast_found : (casts : List Cast) (key : List ℕ) (v : ℕ) (b : BallotAt) (x : Name) (s : ℕ) → has_cast casts key v b x s ≡ true → (cast : Cast) × Contains casts cast × (is_vote cast key v b x ≡ true)
cast_found [] key v b x s h = absurd (true≢false (sym h))
cast_found (cast ∷ casts) key v b x s h =
    elim (or_cases ((cast.site == s) && is_vote cast key v b x) (has_cast casts key v b x s) h) [
      | inl e ↦ (cast, (0, omega arith, refl), (and_parts (cast.site == s) (is_vote cast key v b x) e).1)
      | inr e ↦
          let w : (c : Cast) × Contains casts c × (is_vote c key v b x ≡ true) = cast_found casts key v b x s e in
          (w.0, (suc w.1.0, omega (arith, w.1.1), w.1.2), w.2)
    ]

-- the same ballot, key, version and value have the same votes
enough_same : (cfg : Config) (casts : List Cast) (cast : Cast) (key : List ℕ) (v : ℕ) (b : BallotAt) (x : Name) → IsThisVote cast key v b x → has_enough cfg casts cast.key cast.version cast.ballot cast.name ≡ has_enough cfg casts key v b x
enough_same cfg casts cast key v b x is =
    let k = is.key in
    let w = is.version in
    let c = is.ballot in
    let y = is.name in
    cc

-- a value that a quorum has cast is that of a cast, and so the other way
pub chosen_from_casts : (cfg : Config) (casts : List Cast) (key : List ℕ) (v : ℕ) (x : Name) → IsChosenOf cfg casts casts key v x → IsChosen cfg casts key v x
chosen_from_casts cfg casts key v x h =
    let here : (h.cast.version ≡ v) × (h.cast.key ≡ key) = at_means h.cast key v h.at in
    let same : has_enough cfg casts h.cast.key h.cast.version h.cast.ballot h.cast.name ≡ has_enough cfg casts key v h.cast.ballot x = enough_same cfg casts h.cast key v h.cast.ballot x (record { key = here.1; version = here.0; ballot = refl; name = h.name }) in
    (h.cast.ballot, leb-true (need cfg.qc cfg.qf h.cast.ballot) (count_sites cfg.n (has_cast casts key v h.cast.ballot x)) (sym same ∙ h.enough))

pub casts_from_chosen : (cfg : Config) (casts : List Cast) (key : List ℕ) (v : ℕ) (x : Name) → IsConfig cfg → IsChosen cfg casts key v x → IsChosenOf cfg casts casts key v x
casts_from_chosen cfg casts key v x ok h =
    let site : (s : ℕ) × (s < cfg.n) × (has_cast casts key v h.0 x s ≡ true) = count_found cfg.n (has_cast casts key v h.0 x) (omega (arith, h.1, need_some cfg.n cfg.qc cfg.qf h.0 ok.quorums)) in
    let w : (cast : Cast) × Contains casts cast × (is_vote cast key v h.0 x ≡ true) = cast_found casts key v h.0 x site.0 site.2 in
    let is : IsThisVote w.0 key v h.0 x = vote_means w.0 key v h.0 x w.2 in
    let first : ((is_at w.0 key v && same_ballot w.0.ballot h.0) ≡ true) × (same_name w.0.name x ≡ true) = and_parts (is_at w.0 key v && same_ballot w.0.ballot h.0) (same_name w.0.name x) w.2 in
    record {
      cast = w.0;
      one = w.1;
      at = (and_parts (is_at w.0 key v) (same_ballot w.0.ballot h.0) first.0).0;
      name = is.name;
      enough = enough_same cfg casts w.0 key v h.0 x is ∙ le-leb (need cfg.qc cfg.qf h.0) (count_sites cfg.n (has_cast casts key v h.0 x)) h.1;
    }
