-- Lists of pieces, of places and of numbers with one more at their end.
use Rattle.std.proofs.Common.{◌≡◌, ◌≢◌, ℕ, ◌+◌, ◌-◌, ◌*◌, ◌<◌, ◌≤◌, ◌++◌, ◌∷◌, List, [], Vec, min, take, drop, length, slice_index, sym, ◌∙◌, ap, subst, arith, inl, inr, length-append, length-take, get_or-take, get_or-drop}
use Rattle.std.specs.declared.alloc.Global.{Global}
use Rattle.std.proofs.lemmas.Bool.{cases_lt}
use Rattle.std.proofs.lemmas.List.{map_push, get_or_past, get_or_push, get_or_append_left, get_or_default}
use Rattle.std.specs.Prelude.{All}
use Rattle.gz_lanes.proofs.Pushes.{each_pushed, length_pushed}
use Rattle.gz_code.specs.Decoding.{IsPlaced, IsLocated}
use Rattle.gz_code.specs.Encoding.{IsPadded, AreDataPieces, AreNumbers}
use Rattle.gz_code.specs.Interpolation.{AreValues, AreAllValues, AreWeights, AreRows}
use Rattle.gz_code.specs.Polynomial.{ArePoints}
use Rattle.gz_code.proofs.Pieces.{bytes_of}

-- one more zero
pub padded_more : (bytes piece new : List ℕ) (i : ℕ) → IsPadded bytes i piece → length bytes ≤ i → new ≡ piece ++ 0 ∷ [] → IsPadded bytes (i + 1) new
padded_more bytes piece new i P past pushed =
    subst (IsPadded bytes (i + 1)) (sym pushed) (record {
      long = length_pushed piece 0 i P.long;
      same = each_pushed (λ k y. y ≡ slice_index bytes k) piece 0 0 i P.long P.same (sym (get_or_past bytes i 0 past));
    })

-- the bytes of pieces with one more
bytes_pushed : (pieces new : List (Vec ℕ Global)) (piece : Vec ℕ Global) → new ≡ pieces ++ piece ∷ [] → bytes_of new ≡ bytes_of pieces ++ piece.items ∷ []
bytes_pushed pieces new piece pushed = ap bytes_of pushed ∙ map_push {Y = List ℕ} (λ (p : Vec ℕ Global). p.items) pieces piece

-- what the part of an object for piece n holds, with zeros after it
pub part_at : (object : List ℕ) (width n from len place : ℕ) → from ≤ length object → len ≡ min width (length object - from) → (n * width < length object → from ≡ n * width) → (length object ≤ n * width → from ≡ length object) → place < width
    → slice_index (take len (drop from object)) place ≡ slice_index object (n * width + place)
part_at object width n from len place inside len_is before past within =
    let short : length (take len (drop from object)) ≤ len = omega (arith, length-take len (drop from object)) in
    elim (cases_lt (n * width) (length object)) [
      | inl early ↦
          let start = before early in
          elim (cases_lt place len) [
            | inl whole ↦ get_or-take len (drop from object) place 0 whole ∙ get_or-drop from object place 0 ∙ ap (λ i. slice_index object (i + place)) start
            | inr zero ↦ get_or_past (take len (drop from object)) place 0 (omega arith) ∙ sym (get_or_past object (n * width + place) 0 (omega arith))
          ]
      | inr late ↦
          let start = past late in
          get_or_past (take len (drop from object)) place 0 (omega arith) ∙ sym (get_or_past object (n * width + place) 0 (omega arith))
    ]

-- one more data piece
pub data_more : (object : List ℕ) (width n : ℕ) (pieces new : List (Vec ℕ Global)) (piece : Vec ℕ Global) → AreDataPieces object width n (bytes_of pieces) → length piece.items ≡ width
    → ((place : ℕ) → place < width → slice_index piece.items place ≡ slice_index object (n * width + place)) → new ≡ pieces ++ piece ∷ [] → AreDataPieces object width (n + 1) (bytes_of new)
data_more object width n pieces new piece A wide bytes pushed =
    let firsts = bytes_of pieces in
    subst (AreDataPieces object width (n + 1)) (sym (bytes_pushed pieces new piece pushed)) (record {
      count = length_pushed firsts piece.items n A.count;
      widths = each_pushed (λ j row. length row ≡ width) firsts piece.items [] n A.count A.widths wide;
      bytes = λ j place l within.
          each_pushed (λ j row. slice_index row place ≡ slice_index object (j * width + place)) firsts piece.items [] n A.count (λ i m. A.bytes i place m within) (bytes place within) j l;
    })

-- one more piece of values
pub values_more : (points : List ℕ) (sources : List (List ℕ)) (width : ℕ) (targets : List ℕ) (n target : ℕ) (pieces new : List (Vec ℕ Global)) (piece : Vec ℕ Global) → AreAllValues points sources width targets n (bytes_of pieces)
    → target ≡ slice_index targets n → AreValues points sources width target piece.items → new ≡ pieces ++ piece ∷ [] → AreAllValues points sources width targets (n + 1) (bytes_of new)
values_more points sources width targets n target pieces new piece A here V pushed =
    let firsts = bytes_of pieces in
    subst (AreAllValues points sources width targets (n + 1)) (sym (bytes_pushed pieces new piece pushed)) (record {
      count = length_pushed firsts piece.items n A.count;
      values = each_pushed (λ t row. AreValues points sources width (slice_index targets t) row) firsts piece.items [] n A.count A.values (subst (λ y. AreValues points sources width y piece.items) here V);
    })

-- one more row of weights
pub rows_more : (points targets : List ℕ) (n target : ℕ) (rows new : List (List ℕ)) (row : List ℕ) → AreRows points targets n rows → target ≡ slice_index targets n → AreWeights points row target → new ≡ rows ++ row ∷ []
    → AreRows points targets (n + 1) new
rows_more points targets n target rows new row A here W pushed =
    subst (AreRows points targets (n + 1)) (sym pushed) (record {
      count = length_pushed rows row n A.count;
      each = each_pushed (λ t w. AreWeights points w (slice_index targets t)) rows row [] n A.count A.each (subst (AreWeights points row) here W);
    })

-- as many weights in each row as there are points
pub rows_paired : (points targets : List ℕ) (n sources : ℕ) (rows shown : List (List ℕ)) → AreRows points targets n rows → shown ≡ rows → sources ≡ length points → All (λ row. length row ≡ sources) shown
rows_paired points targets n sources rows shown A same paired =
    subst (All (λ row. length row ≡ sources)) (sym same)
    (λ k d l. let count = A.count in ap length (get_or_default rows k d [] l) ∙ (A.each k (omega arith)).long ∙ sym paired)

-- one more number
pub numbers_more : (from n number : ℕ) (numbers new : List ℕ) → AreNumbers from n numbers → number ≡ from + n → new ≡ numbers ++ number ∷ [] → AreNumbers from (n + 1) new
numbers_more from n number numbers new A here pushed =
    subst (AreNumbers from (n + 1)) (sym pushed) (record {
      count = length_pushed numbers number n A.count;
      each = each_pushed (λ i y. y ≡ from + i) numbers number 0 n A.count A.each here;
    })

-- the numbers from 0 on, and those after them
module _ (n m : ℕ) (few : n + m ≤ 256) (points targets numbers others : List ℕ) (N : AreNumbers 0 n numbers) (M : AreNumbers n m others) (same : points ≡ numbers) (same_targets : targets ≡ others) where
  pub point_is : (j : ℕ) → j < length points → slice_index points j ≡ j
  point_is j l = let long = ap length same ∙ N.count in ap (λ xs. slice_index xs j) same ∙ N.each j (omega arith) ∙ omega arith

  pub numbers_count : length points ≡ n
  numbers_count = ap length same ∙ N.count

  pub are_points : ArePoints (length points) (slice_index points)
  are_points =
      let count = numbers_count in
      record {
        are_elements = λ i l. let is = point_is i l in omega arith;
        differ = λ i j l m e. let a = point_is i (omega arith) in let b = point_is j m in absurd (omega arith);
      }

  pub targets_apart : (t j : ℕ) → t < length targets → j < length points → slice_index targets t ≢ slice_index points j
  targets_apart t j l k e =
      let long = ap length same_targets ∙ M.count in
      let count = numbers_count in
      let a : slice_index targets t ≡ n + t = ap (λ xs. slice_index xs t) same_targets ∙ M.each t (omega arith) in
      let b = point_is j k in
      absurd (omega arith)

-- the place of one more point, which was added where it was missing
module _ (given points new : List ℕ) (n at : ℕ) (order : List ℕ) (L : IsLocated given points n order) (P : IsPlaced points new n at) where
  longer : length points ≤ length new
  longer =
      elim P.grown [
        | inl same ↦ let e = ap length same in omega (arith, e)
        | inr added ↦ let e = ap length added.0 ∙ length-append points (n ∷ []) in omega (arith, e)
      ]

  stay : (i : ℕ) → i < length points → slice_index new i ≡ slice_index points i
  stay i l =
      elim P.grown [
        | inl same ↦ ap (λ xs. slice_index xs i) same
        | inr added ↦ ap (λ xs. slice_index xs i) added.0 ∙ get_or_append_left points (n ∷ []) 0 i l
      ]

  other : (t i : ℕ) → length given ≤ t → t < length new → i < length given → slice_index new t ≢ slice_index given i
  other t i after l m e =
      elim (cases_lt t (length points)) [
        | inl early ↦ L.added t i after early m (sym (stay t early) ∙ e)
        | inr late ↦
            elim P.grown [
              | inl same ↦ let long = ap length same in absurd (omega (arith, long))
              | inr added ↦
                  let long = ap length added.0 ∙ length-append points (n ∷ []) in
                  let last : length points ≡ t = omega (arith, long) in
                  let there : slice_index new t ≡ n = ap (λ xs. slice_index xs t) added.0 ∙ get_or_push points n 0 t last in
                  let few = L.longer in
                  added.1 i (omega arith) (L.kept i m ∙ sym e ∙ there)
            ]
      ]

  pub located_more : (next : List ℕ) → next ≡ order ++ at ∷ [] → IsLocated given new (n + 1) next
  located_more next pushed =
      let few = L.longer in
      let more = longer in
      subst (IsLocated given new (n + 1)) (sym pushed) (record {
        longer = omega arith;
        kept = λ i l. stay i (omega arith) ∙ L.kept i l;
        added = other;
        count = length_pushed order at n L.count;
        within = each_pushed (λ j k. k < length new) order at 0 n L.count (λ j l. let inside = L.within j l in omega arith) P.within;
        is_point = each_pushed (λ j k. slice_index new k ≡ j) order at 0 n L.count (λ j l. stay (slice_index order j) (L.within j l) ∙ L.is_point j l) P.is_point;
      })
