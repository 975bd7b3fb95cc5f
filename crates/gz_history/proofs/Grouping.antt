-- One more call in its group.
use Rattle.std.proofs.Common.{ℕ, zero, suc, ◌≡◌, ◌<◌, List, [], ◌∷◌, ◌++◌, length, length-append, inl, inr, refl, sym, ap, ◌∙◌, slice_get, arith}
use Rattle.std.specs.Prelude.{Option, Some}
use Rattle.std.proofs.lemmas.Bool.{cases_lt}
use Rattle.std.proofs.lemmas.Option.{same_Some, slice_get_within}
use Rattle.gz_core.specs.Calls.{key_of}
use Rattle.gz_history.specs.Index.{IsBrought}
use Rattle.gz_history.specs.declared.record.CallRec.{CallRec}

-- an element in front of others, and the next one
pub get_front : {X : Type 0} (xs ys : List X) (i : ℕ) → i < length xs → slice_get (xs ++ ys) i ≡ slice_get xs i
get_front [] ys i h = absurd (omega arith)
get_front (x ∷ xs) ys zero h = refl
get_front (x ∷ xs) ys (suc i) h = get_front xs ys i (omega arith)

pub get_next : {X : Type 0} (xs ys : List X) (x : X) → slice_get (xs ++ x ∷ ys) (length xs) ≡ Some x
get_next [] ys x = refl
get_next (z ∷ zs) ys x = get_next zs ys x

-- the group of a key, for each of the first places that have groups
abbrev pub Grouped : List CallRec → List ℕ → (List ℕ → Option ℕ) → Type 0
Grouped calls groups group_of = (j : ℕ) (a : CallRec) (g : ℕ) → slice_get calls j ≡ Some a → slice_get groups j ≡ Some g → group_of (key_of a.call) ≡ Some g

pub grouped_more : (calls : List CallRec) (groups : List ℕ) (old new : List ℕ → Option ℕ) (a : CallRec) (entry g : ℕ) → slice_get calls (length groups) ≡ Some a
    → IsBrought old new (key_of a.call) entry g → Grouped calls groups old → Grouped calls (groups ++ g ∷ []) new
grouped_more calls groups old new a entry g here b h j c k p q =
    let within = slice_get_within (groups ++ g ∷ []) j k q in
    let len = length-append groups (g ∷ []) in
    elim (cases_lt j (length groups)) [
      | inl s ↦ b.grows (key_of c.call) k (h j c k p (sym (get_front groups (g ∷ []) j s) ∙ q))
      | inr e ↦ (let top : j ≡ length groups = omega arith in
          let call : a ≡ c = same_Some a c (sym here ∙ ap (slice_get calls) (sym top) ∙ p) in
          let group : g ≡ k = same_Some g k (sym (get_next groups [] g) ∙ ap (slice_get (groups ++ g ∷ [])) (sym top) ∙ q) in
          ap (λ (x : CallRec). new (key_of x.call)) (sym call) ∙ b.found ∙ ap Some group)
    ]
