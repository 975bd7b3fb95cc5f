-- Copies that go on, one after another.
use Rattle.std.proofs.Common.{◌≡◌, ℕ, ◌+◌, ◌<◌, ◌≤◌, List, [], Vec, map, take, length, get_or, set, slice_index_or, sym, ◌∙◌, ap, arith, inl, inr}
use Rattle.std.specs.declared.alloc.Global.{Global}
use Rattle.std.proofs.lemmas.Bool.{cases_lt}
use Rattle.std.proofs.lemmas.Grind.{get_or-set_at}
use Rattle.std.proofs.lemmas.List.{ext_get_or, get_or-map, get_or-set_other, get_or-take, map-set, length-map, length-take-le}
use Rattle.std.proofs.Math.Seq.{take-length}
use Rattle.std.specs.Prelude.{All}
use Rattle.gz_lanes.specs.Combination.{AreCopies}

-- the bytes that each of a list of vectors holds
abbrev pub bytes_of : List (Vec ℕ Global) → List (List ℕ)
bytes_of pieces = map (λ (piece : Vec ℕ Global). piece.items) pieces

pub bytes_at : (pieces : List (Vec ℕ Global)) (i : ℕ) (d : Vec ℕ Global) → i < length pieces → slice_index_or (bytes_of pieces) i [] ≡ (get_or pieces i d).items
bytes_at pieces i d l = get_or-map (λ (piece : Vec ℕ Global). piece.items) pieces i d [] l

module _ (sources : List (List ℕ)) (j : ℕ) (pieces : List (Vec ℕ Global)) (copy : Vec ℕ Global) where
  replaced : set (bytes_of pieces) j copy.items ≡ bytes_of (set pieces j copy)
  replaced = sym (map-set {B = List ℕ} (λ (piece : Vec ℕ Global). piece.items) pieces j copy)

  pub copied_more : (end : ℕ) → j < length pieces → copy.items ≡ take end (slice_index_or sources j [])
      → ((i : ℕ) → i < j → slice_index_or (bytes_of pieces) i [] ≡ take end (slice_index_or sources i [])) → (i : ℕ) → i < j + 1 → slice_index_or (bytes_of (set pieces j copy)) i [] ≡ take end (slice_index_or sources i [])
  copied_more end within is before i l =
      let count = length-map {B = List ℕ} pieces (λ (piece : Vec ℕ Global). piece.items) in
      ap (λ xs. get_or xs i []) (sym replaced)
      ∙ elim (cases_lt i j) [
        | inl early ↦ get_or-set_other (bytes_of pieces) j i copy.items [] (λ e. omega arith) ∙ before i early
        | inr last ↦
            let here : i ≡ j = omega arith in
            get_or-set_at (bytes_of pieces) j i copy.items [] here (omega arith) ∙ is ∙ ap (λ i. take end (slice_index_or sources i [])) (sym here)
      ]

  pub left_more : (from : ℕ) → ((i : ℕ) → j ≤ i → i < length pieces → slice_index_or (bytes_of pieces) i [] ≡ take from (slice_index_or sources i []))
      → (i : ℕ) → j + 1 ≤ i → i < length pieces → slice_index_or (bytes_of (set pieces j copy)) i [] ≡ take from (slice_index_or sources i [])
  left_more from left i after l = ap (λ xs. get_or xs i []) (sym replaced) ∙ get_or-set_other (bytes_of pieces) j i copy.items [] (λ e. omega arith) ∙ left i (omega arith) l

pub length-bytes_of : (pieces : List (Vec ℕ Global)) → length (bytes_of pieces) ≡ length pieces
length-bytes_of pieces = length-map {B = List ℕ} pieces (λ (piece : Vec ℕ Global). piece.items)

-- copies that reach the width are the sources
pub copies_are : (sources : List (List ℕ)) (width count : ℕ) (copies : List (List ℕ)) → length copies ≡ count → count ≤ length sources → All (λ s. length s ≡ width) sources → AreCopies sources width copies
    → copies ≡ take count sources
copies_are sources width count copies counted few wide C =
    ext_get_or [] copies (take count sources) (counted ∙ sym (length-take-le count sources few))
    (λ j l.
    let source = slice_index_or sources j [] in
    let whole : take width source ≡ source = ap (λ n. take n source) (sym (wide j [] (omega arith))) ∙ take-length source in
    C.each j l ∙ whole ∙ sym (get_or-take count sources j [] (omega arith)))
