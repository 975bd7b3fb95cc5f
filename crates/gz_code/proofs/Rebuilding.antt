-- The steps of `join`.
use Rattle.std.proofs.Common.{◌≡◌, ℕ, ◌+◌, ◌-◌, ◌*◌, ◌<◌, ◌≤◌, ◌++◌, ◌∷◌, List, [], length, get_or, slice_index, slice_index_or, sym, ◌∙◌, ap, subst, arith, inl, inr, Vec, length-append, min, take, get_or-take}
use Rattle.std.proofs.Math.Nat.{mul-le-mul_left, mul_comm}
use Rattle.std.specs.declared.alloc.Global.{Global}
use Rattle.std.proofs.lemmas.Bool.{cases_lt}
use Rattle.std.proofs.lemmas.List.{get_or_append_left, get_or-append_right, length-take-le}
use Rattle.gz_code.specs.CodeWord.{word_at}
use Rattle.gz_code.specs.Decoding.{Given, index_at, bytes_given, AreIndices, AreSlices, IsAssembled}
use Rattle.gz_lanes.proofs.Pushes.{each_pushed, length_pushed}
use Rattle.gz_code.proofs.Seen.{index_of_item, bytes_of_item}

pub indices_more : (given : Given) (n : ℕ) (points new : List ℕ) (item : ℕ × Vec ℕ Global) → AreIndices given n points → n < length given → item ≡ get_or given n item → new ≡ points ++ item.0 ∷ []
    → AreIndices given (n + 1) new
indices_more given n points new item A l is pushed =
    subst (AreIndices given (n + 1)) (sym pushed)
    (record {
      count = length_pushed points item.0 n A.count;
      each = each_pushed (λ i y. y ≡ index_at given i) points item.0 0 n A.count A.each (sym (index_of_item given n item l is));
    })

pub slices_more : (given : Given) (n : ℕ) (slices new : List (List ℕ)) (slice : List ℕ) (item : ℕ × Vec ℕ Global) → AreSlices given n slices → n < length given → item ≡ get_or given n item
    → slice ≡ item.1.items → ((place : ℕ) → slice_index slice place < 256) → new ≡ slices ++ slice ∷ [] → AreSlices given (n + 1) new
slices_more given n slices new slice item A l is bytes_are fits pushed =
    subst (AreSlices given (n + 1)) (sym pushed)
    (record {
      count = length_pushed slices slice n A.count;
      each = each_pushed (λ i y. y ≡ slice_index_or (bytes_given given) i []) slices slice [] n A.count A.each (bytes_are ∙ sym (bytes_of_item given n item [] l is));
      are_bytes = λ i place l. each_pushed (λ i y. slice_index y place < 256) slices slice [] n A.count (λ i l. A.are_bytes i place l) (fits place) i l;
    })

-- a place in an earlier piece comes before all of a later one
earlier_place : (i j place width : ℕ) → i < j → place < width → i * width + place < j * width
earlier_place i j place width l within =
    omega (arith, mul-le-mul_left width (let next : i + 1 ≤ j = omega arith in next), mul_comm width j, mul_comm width (i + 1))

pub assembled_more : (order : List ℕ) (pieces : List (List ℕ)) (width j len count : ℕ) (object new piece : List ℕ) → IsAssembled order pieces width j len object
    → length piece ≡ width → count ≡ min width (len - length object) → piece ≡ slice_index_or pieces (slice_index order j) [] → new ≡ object ++ take count piece → IsAssembled order pieces width (j + 1) len new
assembled_more order pieces width j len count object new piece A wide count_is piece_is appended =
    let more : (j + 1) * width ≡ j * width + width = omega arith in
    let taken : length (take count piece) ≡ count = length-take-le count piece (omega arith) in
    subst (IsAssembled order pieces width (j + 1) len) (sym appended)
    (record {
      long = length-append object (take count piece) ∙ omega (arith, A.long, taken);
      bytes = λ i place l within inside.
          elim (cases_lt i j) [
            | inl below ↦
                let before = earlier_place i j place width below within in
                get_or_append_left object (take count piece) 0 (i * width + place) (omega (arith, A.long)) ∙ A.bytes i place below within inside
            | inr last ↦
                let here : i ≡ j = omega arith in
                let Q : ℕ → Type 0 = λ i. get_or (object ++ take count piece) (i * width + place) 0 ≡ word_at pieces place (slice_index order i) in
                let inside_here : j * width + place < len = subst (λ i. i * width + place < len) here inside in
                let offset : j * width + place - j * width ≡ place = omega arith in
                let full : length object ≡ j * width = omega (arith, A.long) in
                subst Q (sym here)
                (get_or-append_right object (take count piece) (j * width) (j * width + place) 0 full (omega arith)
                ∙ ap (λ k. get_or (take count piece) k 0) offset
                ∙ get_or-take count piece place 0 (omega arith)
                ∙ ap (λ s. get_or s place 0) piece_is)
          ];
    })
