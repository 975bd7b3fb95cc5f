-- What came of a fragment last is taken back.
use Rattle.std.proofs.Common.{◌≡◌, ◌≢◌, ℕ, zero, suc, ◌+◌, ◌<◌, List, [], ◌∷◌, ◌++◌, length, map, Option, Some, None, IsSome, refl, sym, ap, subst, ◌∙◌, inl, inr, arith, length-append}
use Rattle.std.specs.Prelude.{◌⊎◌, slice_get, slice_set, option_to_list, Vec}
use Rattle.std.specs.declared.alloc.Global.{Global}
use Rattle.std.proofs.lemmas.Bool.{false≢true}
use Rattle.std.proofs.lemmas.Option.{same_Some}
use Rattle.gz_core.specs.Puts.{PutData}
use Rattle.gz_core.specs.declared.fates.Fate.{Fate}
use Rattle.gz_core.specs.declared.fates.Fate.TheVariants.{Whole, Damaged, Missing, GivenUp, Failed as FailedToCome}
use Rattle.gz_core.specs.declared.requests.Reply.{Reply}
use Rattle.gz_core.specs.declared.requests.Reply.TheVariants.{Row, NoRow, Written, Changed, Stored, Blob, NoBlob, Dropped, Failed}
use Rattle.gz_data.specs.Records.{whole_piece}
use Rattle.gz_data.specs.Whole.{Piece, pieces_of, pieces_if_some}
use Rattle.gz_data.specs.Blobs.{Outcome, Answered, Abandoned, fate_in, fate_of_piece, fate_by, piece_in, pieces_by}
use Rattle.gz_data.specs.Gathered.{GatheredAt, CameAt, IsGathered, IsWaitedFor, noted, with_given_up, gathered_after, with_came, CanKeep, IsTaken}

-- the pieces that an outcome brings of a fragment
abbrev pub pieces_in : List ℕ → PutData → ℕ → Outcome → List Piece
pieces_in key x i (Answered reply) = pieces_by i (piece_in key x i reply)
pieces_in key x i Abandoned = []

append_none : (ps : List Piece) → ps ++ [] ≡ ps
append_none [] = refl
append_none (p ∷ ps) = ap (λ (qs : List Piece). p ∷ qs) (append_none ps)

-- a gathering that took an outcome has its fate and its pieces
pub after_is : (g : GatheredAt) (key : List ℕ) (i : ℕ) (outcome : Outcome)
    → gathered_after g key i outcome ≡ with_came g (record { index = i; fate = fate_by key g.value i outcome; pieces = pieces_in key g.value i outcome })
after_is g key i (Answered reply) = refl
after_is g key i Abandoned = ap (λ (ps : List Piece). let h : GatheredAt = record { version = g.version; value = g.value; fates = slice_set g.fates i (Some GivenUp); pieces = ps } in h) (sym (append_none g.pieces))

-- a fate tells whether there is a piece
abbrev pub FateTells : List ℕ → PutData → ℕ → Outcome → Type 0
FateTells key x i outcome =
    ((fate_by key x i outcome ≡ Whole) × ((piece : List ℕ) × (pieces_in key x i outcome ≡ (i, piece) ∷ [])))
    ⊎ ((fate_by key x i outcome ≢ Whole) × (pieces_in key x i outcome ≡ []))

by_piece : (i : ℕ) (o : Option (List ℕ)) → ((fate_of_piece o ≡ Whole) × ((piece : List ℕ) × (pieces_by i o ≡ (i, piece) ∷ []))) ⊎ ((fate_of_piece o ≢ Whole) × (pieces_by i o ≡ []))
by_piece i (Some piece) = inl (refl, (piece, refl))
by_piece i None = inr ((λ e. cc), refl)

pub fate_tells : (key : List ℕ) (x : PutData) (i : ℕ) (outcome : Outcome) → FateTells key x i outcome
fate_tells key x i (Answered (Blob bytes)) = by_piece i (whole_piece key x i bytes)
fate_tells key x i (Answered (Row etag row)) = inr ((λ e. cc), refl)
fate_tells key x i (Answered NoRow) = inr ((λ e. cc), refl)
fate_tells key x i (Answered (Written etag)) = inr ((λ e. cc), refl)
fate_tells key x i (Answered Changed) = inr ((λ e. cc), refl)
fate_tells key x i (Answered Stored) = inr ((λ e. cc), refl)
fate_tells key x i (Answered NoBlob) = inr ((λ e. cc), refl)
fate_tells key x i (Answered Dropped) = inr ((λ e. cc), refl)
fate_tells key x i (Answered Failed) = inr ((λ e. cc), refl)
fate_tells key x i Abandoned = inr ((λ e. cc), refl)

-- ---- lists

module _ {X : Type 0} where
  -- what is put back where it was
  pub set_back : (xs : List X) (i : ℕ) (v w : X) → slice_get xs i ≡ Some w → slice_set (slice_set xs i v) i w ≡ xs
  set_back [] i v w e = refl
  set_back (x ∷ xs) zero v w e = ap (λ (y : X). y ∷ xs) (sym (same_Some x w e))
  set_back (x ∷ xs) (suc i) v w e = ap (λ (ys : List X). x ∷ ys) (set_back xs i v w e)

  pub set_told : (xs : List X) (i : ℕ) (v w : X) → slice_get xs i ≡ Some w → slice_get (slice_set xs i v) i ≡ Some v
  set_told [] i v w e = absurd cc
  set_told (x ∷ xs) zero v w e = refl
  set_told (x ∷ xs) (suc i) v w e = set_told xs i v w e

  head : X → List X → X
  head d [] = d
  head d (x ∷ xs) = x

  tail : List X → List X
  tail [] = []
  tail (x ∷ xs) = xs

  -- two lists with one more element are the same where they were
  pub push_same : (xs ys : List X) (x y : X) → xs ++ x ∷ [] ≡ ys ++ y ∷ [] → (xs ≡ ys) × (x ≡ y)
  unfolding head tail
  push_same [] [] x y e = (refl, ap (head x) e)
  push_same [] (b ∷ ys) x y e = absurd (let n = ap length e in omega (arith, length-append ys (y ∷ [])))
  push_same (a ∷ xs) [] x y e = absurd (let n = ap length e in omega (arith, length-append xs (x ∷ [])))
  push_same (a ∷ xs) (b ∷ ys) x y e =
      let rest = push_same xs ys x y (ap tail e) in
      (ap (λ (c : X). c ∷ xs) (ap (head a) e) ∙ ap (λ (zs : List X). b ∷ zs) rest.0, rest.1)

-- the last piece leaves
pub piece_popped : (old new : List (ℕ × Vec ℕ Global)) (last : Option (ℕ × Vec ℕ Global)) → old ≡ new ++ option_to_list last → pieces_of old ≡ pieces_of new ++ pieces_if_some last
piece_popped old [] None e = ap pieces_of e
piece_popped old [] (Some piece) e = ap pieces_of e
piece_popped old (p ∷ new) None e = ap pieces_of e ∙ ap (λ (ps : List Piece). (p.0, p.1.items) ∷ ps) (piece_popped (new ++ []) new None refl)
piece_popped old (p ∷ new) (Some piece) e = ap pieces_of e ∙ ap (λ (ps : List Piece). (p.0, p.1.items) ∷ ps) (piece_popped (new ++ piece ∷ []) new (Some piece) refl)

pub some_piece : (o : Option (ℕ × Vec ℕ Global)) → IsSome o → (p : Piece) × (pieces_if_some o ≡ p ∷ [])
some_piece None h = absurd (false≢true h)
some_piece (Some piece) h = ((piece.0, piece.1.items), refl)

pub no_piece_left : (o : Option (ℕ × Vec ℕ Global)) → o ≡ None → pieces_if_some o ≡ []
no_piece_left o e = ap pieces_if_some e

-- ---- the gathering before

made : ℕ → PutData → List (Option Fate) → List Piece → GatheredAt
made version value fates pieces = record { version = version; value = value; fates = fates; pieces = pieces }

pub taken_fate : (g : GatheredAt) (key : List ℕ) (i : ℕ) (outcome : Outcome) (now : GatheredAt) → IsTaken g key i outcome now → slice_get now.fates i ≡ Some (Some (fate_by key g.value i outcome))
taken_fate g key i outcome now h =
    ap (λ (n : GatheredAt). slice_get n.fates i) (h.is ∙ after_is g key i outcome) ∙ set_told g.fates i (Some (fate_by key g.value i outcome)) None h.waited.none

-- the last piece is the one that the outcome brought
last_is : (g : GatheredAt) (key : List ℕ) (i : ℕ) (outcome : Outcome) (pieces last : List Piece) → g.pieces ++ pieces_in key g.value i outcome ≡ pieces ++ last
    → (fate_by key g.value i outcome ≡ Whole → 0 < length (g.pieces ++ pieces_in key g.value i outcome) → (p : Piece) × (last ≡ p ∷ [])) → (fate_by key g.value i outcome ≢ Whole → last ≡ [])
    → (pieces ≡ g.pieces) × (last ≡ pieces_in key g.value i outcome)
last_is g key i outcome pieces last e whole other = elim (fate_tells key g.value i outcome) [
  | inl one ↦
      let front : List Piece → List Piece = λ ps. g.pieces ++ ps in
      let some : 0 < length (g.pieces ++ pieces_in key g.value i outcome) = omega (arith, ap length (ap front one.1.1), length-append g.pieces ((i, one.1.0) ∷ [])) in
      let p = whole one.0 some in
      let back : List Piece → List Piece = λ ps. pieces ++ ps in
      let same = push_same g.pieces pieces (i, one.1.0) p.0 (sym (ap front one.1.1) ∙ (e ∙ ap back p.1)) in
      (sym same.0, p.1 ∙ (ap (λ (q : Piece). q ∷ []) (sym same.1) ∙ sym one.1.1))
  | inr none ↦
      let front : List Piece → List Piece = λ ps. g.pieces ++ ps in
      let back : List Piece → List Piece = λ ps. pieces ++ ps in
      let empty = other none.0 in
      (sym (append_none pieces) ∙ (sym (ap back empty) ∙ (sym e ∙ (ap front none.1 ∙ append_none g.pieces))), empty ∙ sym none.1)
]

-- once the fate and the piece are taken back, the gathering is the one before, and what was taken makes the one after
pub taken_back : (g : GatheredAt) (key : List ℕ) (i : ℕ) (outcome : Outcome) (now : GatheredAt) → IsTaken g key i outcome now
    → (fates : List (Option Fate)) (pieces : List Piece) (fate : Fate) (last : List Piece) → fates ≡ slice_set now.fates i None → slice_get now.fates i ≡ Some (Some fate) → now.pieces ≡ pieces ++ last
    → (fate ≡ Whole → 0 < length now.pieces → (p : Piece) × (last ≡ p ∷ [])) → (fate ≢ Whole → last ≡ [])
    → (record { version = now.version; value = now.value; fates = fates; pieces = pieces } ≡ g) × (with_came g (record { index = i; fate = fate; pieces = last }) ≡ now)
unfolding made
taken_back g key i outcome now h fates pieces fate last set was popped whole other =
    let told : Fate = fate_by key g.value i outcome in
    let is : now ≡ with_came g (record { index = i; fate = told; pieces = pieces_in key g.value i outcome }) = h.is ∙ after_is g key i outcome in
    let same_fate : fate ≡ told = same_Some fate told (same_Some (Some fate) (Some told) (sym was ∙ taken_fate g key i outcome now h)) in
    let held : now.pieces ≡ g.pieces ++ pieces_in key g.value i outcome = ap (λ (n : GatheredAt). n.pieces) is in
    let parts = last_is g key i outcome pieces last (sym held ∙ popped) (λ e l. whole (same_fate ∙ e) (subst (λ (ps : List Piece). 0 < length ps) (sym held) l)) (λ no. other (λ e. no (sym same_fate ∙ e))) in
    let before : fates ≡ g.fates = set ∙ (ap (λ (n : GatheredAt). slice_set n.fates i None) is ∙ set_back g.fates i (Some told) None h.waited.none) in (
      ap (λ (n : GatheredAt). made n.version n.value fates pieces) is ∙ (ap (λ (fs : List (Option Fate)). made g.version g.value fs pieces) before ∙ ap (λ (ps : List Piece). made g.version g.value g.fates ps) parts.0),
      ap (λ (f : Fate). with_came g (record { index = i; fate = f; pieces = last })) same_fate ∙ (ap (λ (ps : List Piece). with_came g (record { index = i; fate = told; pieces = ps })) parts.1 ∙ sym is),
    )
