-- The data pieces of an object, of which the first lie whole in it.
use Rattle.std.proofs.Common.{◌≡◌, ℕ, ◌+◌, ◌-◌, ◌*◌, ◌<◌, ◌≤◌, ◌++◌, List, [], Vec, take, drop, length, slice_index, sym, ◌∙◌, ap, subst, arith, inl, inr, length-append, length-drop, get_or-drop}
use Rattle.std.specs.declared.alloc.Global.{Global}
use Rattle.std.specs.Prelude.{All}
use Rattle.std.proofs.Math.Nat.{add-mul}
use Rattle.std.proofs.Math.Seq.{take-length}
use Rattle.std.proofs.lemmas.Bool.{cases_lt}
use Rattle.std.proofs.lemmas.List.{get_or_append_left, get_or-append_right, get_or_default, map-append, take_at}
use Rattle.gz_code.specs.CodeWord.{IsSplit, piece_width}
use Rattle.gz_code.specs.Encoding.{AreDataPieces, AreDataSlices, AreParity}
use Rattle.gz_code.proofs.Pieces.{bytes_of, split_is}

-- the first pieces, and the pieces of what is left of the object
data_joined : (object : List ℕ) (width whole k : ℕ) (front back : List (List ℕ)) → whole ≤ k → AreDataPieces object width whole front → AreDataPieces (drop (whole * width) object) width (k - whole) back
    → AreDataPieces object width k (front ++ back)
data_joined object width whole k front back few F B =
    let left = λ (j : ℕ) (l : j < whole). let count = F.count in get_or_append_left front back [] j (omega arith) in
    let right = λ (j : ℕ) (l : whole ≤ j). get_or-append_right front back whole j [] F.count l in
    record {
      count = length-append front back ∙ omega (arith, F.count, B.count);
      widths = λ j l.
          elim (cases_lt j whole) [
            | inl early ↦ ap length (left j early) ∙ F.widths j early
            | inr late ↦ ap length (right j late) ∙ B.widths (j - whole) (omega arith)
          ];
      bytes = λ j place l within.
          elim (cases_lt j whole) [
            | inl early ↦ ap (λ row. slice_index row place) (left j early) ∙ F.bytes j place early within
            | inr late ↦
                let back_at : whole + (j - whole) ≡ j = omega arith in
                let there : whole * width + ((j - whole) * width + place) ≡ (whole + (j - whole)) * width + place = omega (arith, add-mul whole (j - whole) width) in
                ap (λ row. slice_index row place) (right j late)
                ∙ B.bytes (j - whole) place (omega arith) within
                ∙ get_or-drop (whole * width) object ((j - whole) * width + place) 0
                ∙ ap (slice_index object) (there ∙ ap (λ i. i * width + place) back_at)
          ];
    }

module _ (object : List ℕ) (width whole k : ℕ) (rest shown : List (Vec ℕ Global)) (sources : List (List ℕ)) (few : whole ≤ k) (R : AreDataPieces (take (length object - whole * width) (drop (whole * width) object)) width (k - whole) (bytes_of rest))
    (same : shown ≡ rest) (S : AreDataSlices object width whole (bytes_of shown) sources) where
  sources_are : sources ≡ S.front ++ bytes_of rest
  sources_are = S.joined ∙ ap (λ vs. S.front ++ bytes_of vs) same

  rest_are : AreDataPieces (drop (whole * width) object) width (k - whole) (bytes_of rest)
  rest_are =
      let left = drop (whole * width) object in
      subst (λ s. AreDataPieces s width (k - whole) (bytes_of rest)) (ap (λ n. take n left) (sym (length-drop (whole * width) object)) ∙ take-length left) R

  pub data_sources : AreDataPieces object width k sources
  data_sources = subst (AreDataPieces object width k) (sym sources_are) (data_joined object width whole k S.front (bytes_of rest) few S.are_whole rest_are)

  pub sources_wide : All (λ s. length s ≡ width) sources
  sources_wide i d l =
      let count = data_sources.count in
      ap length (get_or_default sources i d [] l) ∙ data_sources.widths i (omega arith)

  pub split_by_slices : (m : ℕ) (copies first parity pieces : List (Vec ℕ Global)) → k + m ≤ 256 → ((i : ℕ) → slice_index object i < 256) → width ≡ piece_width k (length object)
      → bytes_of copies ≡ take whole sources → AreParity sources width m (bytes_of parity) → first ≡ copies ++ rest → pieces ≡ first ++ parity → IsSplit k m object (bytes_of pieces)
  split_by_slices m copies first parity pieces within bytes width_is copied P joined all =
      let taken : bytes_of copies ≡ S.front = copied ∙ ap (take whole) sources_are ∙ take_at S.front (bytes_of rest) whole S.are_whole.count in
      let kept : bytes_of first ≡ sources =
      ap bytes_of joined
      ∙ map-append {B = List ℕ} (λ (piece : Vec ℕ Global). piece.items) copies rest
      ∙ ap (λ xs. xs ++ bytes_of rest) taken
      ∙ sym sources_are in
      let whole_is : bytes_of pieces ≡ sources ++ bytes_of parity =
      ap bytes_of all ∙ map-append {B = List ℕ} (λ (piece : Vec ℕ Global). piece.items) first parity ∙ ap (λ xs. xs ++ bytes_of parity) kept in
      subst (IsSplit k m object) (sym whole_is)
      (split_is k m object sources (bytes_of parity) within bytes
      (subst (λ w. AreDataPieces object w k sources) width_is data_sources)
      (subst (λ w. AreParity sources w m (bytes_of parity)) width_is P))
