-- The weights as the code computes them.
use Rattle.std.proofs.Common.{◌≡◌, ℕ, zero, suc, ◌<◌, ◌≤◌, List, length, slice_index, slice_index_or, [], bit_xor, refl, sym, ◌∙◌, ap, arith, inl, inr}
use Rattle.std.proofs.lemmas.Nat.{xor_lt}
use Rattle.std.proofs.lemmas.Bool.{cases_lt, eq-eqb, ne_eqb}
use Rattle.gz_field.specs.Field.{product}
use Rattle.gz_field.proofs.Additive.{xor_both}
use Rattle.gz_field.proofs.Algebra.{product-comm, product-assoc, product-one}
use Rattle.gz_field.proofs.Inverse.{inverse_unique}
use Rattle.gz_lanes.specs.Combination.{combination, column, IsCombined, AreCombined}
use Rattle.gz_code.specs.Interpolation.{apart, AreWeights, AreValues, AreRows, AreAllValues}
use Rattle.gz_code.specs.Polynomial.{ArePoints}
use Rattle.gz_code.proofs.Interpolation.{weight, base, apart-lt, span-lt, span_nonzero, value_from_points}

-- with nothing left out so far, it does not matter which place is to be left out
none_left_out : (x : ℕ → ℕ) (i j n y : ℕ) → n ≤ i → n ≤ j → apart x i n y ≡ apart x j n y
unfolding apart
none_left_out x i j zero y I J = refl
none_left_out x i j (suc n) y I J =
    let i_later = ne_eqb n i (λ e. absurd (omega arith)) in
    let j_later = ne_eqb n j (λ e. absurd (omega arith)) in
    rw (i_later, j_later) (ap (λ a. product a (bit_xor y (x n))) (none_left_out x i j n y (omega arith) (omega arith)))

module _ (x : ℕ → ℕ) (y : ℕ) (Y : y < 256) where
  -- the product over all points is that without j, times the difference from j
  whole_splits : (whole j n : ℕ) → ((i : ℕ) → i < n → x i < 256) → n ≤ whole → j < n → apart x whole n y ≡ product (apart x j n y) (bit_xor y (x j))
  unfolding apart
  whole_splits whole j zero X l m = absurd (omega arith)
  whole_splits whole j (suc n) X l m =
      let kept = ne_eqb n whole (λ e. absurd (omega arith)) in
      let X' : (i : ℕ) → i < n → x i < 256 = λ i l. X i (omega arith) in
      elim (cases_lt j n) [
        | inl below ↦
            let other = ne_eqb n j (λ e. absurd (omega arith)) in
            let a = apart x j n y in
            let A = apart-lt x j n y X' Y in
            let E = xor_lt 8 y (x j) Y (X j (omega arith)) in
            let F = xor_lt 8 y (x n) Y (X n (omega arith)) in
            rw (kept, other)
            (ap (λ w. product w (bit_xor y (x n))) (whole_splits whole j n X' (omega arith) below)
            ∙ product-assoc a (bit_xor y (x j)) (bit_xor y (x n)) A E F
            ∙ ap (product a) (product-comm (bit_xor y (x j)) (bit_xor y (x n)) E F)
            ∙ sym (product-assoc a (bit_xor y (x n)) (bit_xor y (x j)) A F E))
        | inr last ↦
            let here : n ≡ j = omega arith in
            let left_out = eq-eqb n j here in
            rw (kept, left_out)
            (ap (λ a. product a (bit_xor y (x n))) (none_left_out x whole j n y (omega arith) (omega arith))
            ∙ ap (λ i. product (apart x j n y) (bit_xor y (x i))) here)
      ]

-- a weight from the product over all points, the inverse r of the difference, and the inverse b of the other differences
pub weight_from_whole : (k : ℕ) (x : ℕ → ℕ) (y j all r b : ℕ) → ArePoints k x → y < 256 → j < k → r < 256 → b < 256
    → all ≡ apart x k k y → product (bit_xor y (x j)) r ≡ 1 → product (apart x j k (x j)) b ≡ 1 → product (product all r) b ≡ weight x k y j
unfolding weight base
weight_from_whole k x y j all r b P Y J R B whole undone inverse_is =
    let X = P.are_elements in
    let e = bit_xor y (x j) in
    let a = apart x j k y in
    let A = apart-lt x j k y X Y in
    let E = xor_lt 8 y (x j) Y (X j J) in
    let split = whole ∙ whole_splits x y Y k j k X (omega arith) J in
    let rest : product all r ≡ a =
    ap (λ w. product w r) split ∙ product-assoc a e r A E R ∙ ap (product a) undone ∙ product-comm a 1 A (omega arith) ∙ product-one a A in
    ap (λ w. product w b) rest
    ∙ ap (product a) (inverse_unique (apart x j k (x j)) b (span-lt k x P j J) B (span_nonzero k x P j J) inverse_is)

pub combination_same : (n : ℕ) (c d v w : ℕ → ℕ) → ((j : ℕ) → j < n → c j ≡ d j) → ((j : ℕ) → j < n → v j ≡ w j) → combination n c v ≡ combination n d w
unfolding combination
combination_same zero c d v w C V = refl
combination_same (suc n) c d v w C V =
    xor_both _ _ _ _ (combination_same n c d v w (λ j l. C j (omega arith)) (λ j l. V j (omega arith)))
    (ap (λ a. product a (v n)) (C n (omega arith)) ∙ ap (product (d n)) (V n (omega arith)))

pub weights_are : (points weights : List ℕ) (y : ℕ) → ArePoints (length points) (slice_index points) → y < 256 → length weights ≡ length points
    → ((j : ℕ) → j < length points → slice_index weights j ≡ weight (slice_index points) (length points) y j) → AreWeights points weights y
weights_are points weights y P Y long each = record {
  long = long;
  value_is = λ p D.
      value_from_points (length points) (slice_index points) P p y D Y
      ∙ combination_same (length points) _ _ _ _ (λ j l. sym (each j l)) (λ j l. refl);
}

-- at a place, the combination by the weights is the value at the target of the polynomial through the sources
pub values_are : (points weights piece : List ℕ) (sources : List (List ℕ)) (width y : ℕ) → AreWeights points weights y → length piece ≡ width → IsCombined weights sources piece width
    → AreValues points sources width y piece
values_are points weights piece sources width y W long combined = record {
  long = long;
  value_is = λ place p within D passes.
      combined place within
      ∙ ap (λ n. combination n (slice_index weights) (column sources place)) W.long
      ∙ combination_same (length points) _ _ _ _ (λ j l. refl) (λ j l. sym (passes j l))
      ∙ sym (W.value_is p D);
}

-- the combinations by weights for each target are the values there
pub all_values_are : (points targets : List ℕ) (sources weights pieces : List (List ℕ)) (width n : ℕ) → AreRows points targets n weights → AreCombined weights sources width n pieces
    → AreAllValues points sources width targets n pieces
all_values_are points targets sources weights pieces width n R C = record {
  count = C.count;
  values = λ t l.
      let piece = C.pieces_are t l in
      values_are points (slice_index_or weights t []) (slice_index_or pieces t []) sources width (slice_index targets t) (R.each t l) piece.wide piece.combined;
}
