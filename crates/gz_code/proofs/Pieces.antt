-- The pieces of an object from its data pieces and the parity pieces.
use Rattle.std.proofs.Common.{◌≡◌, ℕ, ◌+◌, ◌*◌, ◌-◌, ◌<◌, ◌≤◌, ◌++◌, List, [], length, slice_index, slice_index_or, get_or, sym, ◌∙◌, ap, subst, arith, inl, inr, length-append, map, Vec}
use Rattle.std.proofs.lemmas.Bool.{cases_lt}
use Rattle.std.proofs.lemmas.List.{get_or_append_left, get_or-append_right, get_or_default, length-map, map-append}
use Rattle.std.specs.declared.alloc.Global.{Global}
use Rattle.std.specs.Prelude.{All}
use Rattle.gz_code.specs.CodeWord.{IsCodeWord, IsSplit, word_at, piece_width}
use Rattle.gz_code.specs.Encoding.{AreDataPieces, AreParity}
use Rattle.gz_code.specs.Polynomial.{value, IsPolynomial, ArePoints}
use Rattle.gz_code.proofs.Interpolation.{through, through_is_polynomial, through_passes}

-- 0, 1, .. below k are different elements
pub first_points : (k : ℕ) → k ≤ 256 → ArePoints k (λ i. i)
first_points k few = record { are_elements = λ i l. omega arith; differ = λ i j l m e. absurd (omega arith) }

module _ (k m width : ℕ) (firsts parity : List (List ℕ)) (count : length firsts ≡ k) where
  front : (i : ℕ) → i < k → slice_index_or (firsts ++ parity) i [] ≡ slice_index_or firsts i []
  front i l = get_or_append_left firsts parity [] i (omega arith)

  back : (i : ℕ) → k ≤ i → slice_index_or (firsts ++ parity) i [] ≡ slice_index_or parity (i - k) []
  back i l = get_or-append_right firsts parity k i [] count l

  code_word : (place : ℕ) → k + m ≤ 256 → place < width → ((j : ℕ) → j < k → word_at firsts place j < 256) → AreParity firsts width m parity → IsCodeWord k (k + m) (word_at (firsts ++ parity) place)
  code_word place few within bytes P =
      let points = first_points k (omega arith) in
      let v = word_at firsts place in
      let p = through (λ i. i) v k k in
      let D = through_is_polynomial k (λ i. i) points v bytes in
      let passes = through_passes k (λ i. i) points v bytes in
      record {
        polynomial = p;
        degree = D;
        values = λ i l.
            elim (cases_lt i k) [
              | inl below ↦ ap (λ row. slice_index row place) (front i below) ∙ sym (passes i below)
              | inr from ↦
                  let shifted : length firsts + (i - k) ≡ i = omega arith in
                  ap (λ row. slice_index row place) (back i from)
                  ∙ P.values (i - k) place p (omega arith) within (subst (λ n. IsPolynomial n p) (sym count) D) (λ j l. passes j (omega arith))
                  ∙ ap (value p) shifted
            ];
      }

pub split_is : (k m : ℕ) (object : List ℕ) (firsts parity : List (List ℕ)) → k + m ≤ 256 → ((i : ℕ) → slice_index object i < 256)
    → AreDataPieces object (piece_width k (length object)) k firsts → AreParity firsts (piece_width k (length object)) m parity → IsSplit k m object (firsts ++ parity)
split_is k m object firsts parity few bytes D P =
    let width = piece_width k (length object) in
    record {
      count = length-append firsts parity ∙ omega (arith, D.count, P.count);
      widths = λ i l.
          elim (cases_lt i k) [
            | inl below ↦ ap length (front k m width firsts parity D.count i below) ∙ D.widths i below
            | inr from ↦ ap length (back k m width firsts parity D.count i from) ∙ P.widths (i - k) (omega arith)
          ];
      object_first = λ j place l within. ap (λ row. slice_index row place) (front k m width firsts parity D.count j l) ∙ D.bytes j place l within;
      code_words = λ place within.
          code_word k m width firsts parity D.count place few within (λ j l. subst (λ b. b < 256) (sym (D.bytes j place l within)) (bytes (j * width + place))) P;
    }

-- the bytes that each of a list of vectors holds
abbrev pub bytes_of : List (Vec ℕ Global) → List (List ℕ)
bytes_of pieces = map (λ (piece : Vec ℕ Global). piece.items) pieces

pub length-bytes_of : (pieces : List (Vec ℕ Global)) → length (bytes_of pieces) ≡ length pieces
length-bytes_of pieces = length-map {B = List ℕ} pieces (λ (piece : Vec ℕ Global). piece.items)

pub all_wide : (pieces : List (Vec ℕ Global)) (slices : List (List ℕ)) (width : ℕ) → slices ≡ bytes_of pieces
    → ((j : ℕ) → j < length pieces → length (slice_index_or (bytes_of pieces) j []) ≡ width) → All (λ s. length s ≡ width) slices
all_wide pieces slices width same wide k d l =
    let count : length slices ≡ length pieces = ap length same ∙ length-bytes_of pieces in
    ap length (get_or_default slices k d [] l ∙ ap (λ rows. get_or rows k []) same) ∙ wide k (omega arith)

pub data_wide : (object : List ℕ) (width k : ℕ) (pieces shown : List (Vec ℕ Global)) → shown ≡ pieces → AreDataPieces object width k (bytes_of pieces)
    → (j : ℕ) → j < length shown → length (slice_index_or (bytes_of shown) j []) ≡ width
data_wide object width k pieces shown same D j l =
    let count = ap length same ∙ sym (length-bytes_of pieces) ∙ D.count in
    ap (λ vs. length (get_or (bytes_of vs) j [])) same ∙ D.widths j (omega arith)

pub split_from : (k m width : ℕ) (object : List ℕ) (firsts shown parity whole : List (Vec ℕ Global)) → k + m ≤ 256 → ((i : ℕ) → slice_index object i < 256)
    → width ≡ piece_width k (length object) → AreDataPieces object width k (bytes_of firsts) → shown ≡ firsts → AreParity (bytes_of shown) width m (bytes_of parity) → whole ≡ firsts ++ parity
    → IsSplit k m object (bytes_of whole)
split_from k m width object firsts shown parity whole few bytes width_is D same P joined =
    let Q : ℕ → List (Vec ℕ Global) → Type 0 = λ w s. AreDataPieces object w k (bytes_of s) in
    let R : ℕ → List (Vec ℕ Global) → Type 0 = λ w s. AreParity (bytes_of s) w m (bytes_of parity) in
    subst (IsSplit k m object)
    (sym (map-append {B = List ℕ} (λ (piece : Vec ℕ Global). piece.items) firsts parity) ∙ ap bytes_of (sym joined))
    (split_is k m object (bytes_of firsts) (bytes_of parity) few bytes (subst (λ w. Q w firsts) width_is D) (subst (λ s. R (piece_width k (length object)) s) same (subst (λ w. R w shown) width_is P)))
