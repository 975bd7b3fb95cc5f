-- The polynomial through k values at k points, and its value at any other point as a sum of products.
use Rattle.std.proofs.Common.{◌≡◌, ◌≢◌, ℕ, zero, suc, ◌<◌, ◌≤◌, List, [], ◌∷◌, length, slice_index, replicate, bit_xor, true, false, cond, eqb, refl, sym, ◌∙◌, ap, subst, arith, inl, inr, ◌⊎◌}
use Rattle.std.specs.Int.Bits.{xor_assoc, xor_self, xor_zero_l, xor_zero_r}
use Rattle.std.proofs.lemmas.Nat.{xor_comm, xor_lt}
use Rattle.std.proofs.lemmas.List.{length-replicate}
use Rattle.std.proofs.lemmas.Bool.{cases_lt, eq-eqb, ne_eqb}
use Rattle.gz_field.specs.Field.{product}
use Rattle.gz_field.proofs.Additive.{xor_both}
use Rattle.gz_field.proofs.Algebra.{product-sum, product-sum_l, product-zero, product-zero_l, product-one, product-lt, product-comm, product-assoc}
use Rattle.gz_field.proofs.Inverse.{inverse, inverse-lt, product-inverse, factor_is_zero, sum_of_distinct}
use Rattle.gz_lanes.specs.Combination.{combination}
use Rattle.gz_code.specs.Interpolation.{apart}
use Rattle.gz_code.specs.Polynomial.{value, IsPolynomial, ArePoints}
use Rattle.gz_code.proofs.Values.{AreElements, value-lt, product_swap, plus, value-plus, length-plus, plus_elements, scale, length-scale, scale_elements, value-scale}
use Rattle.gz_code.proofs.Roots.{same_from_points}

pub equal_or_not : (n j : ℕ) → (n ≡ j) ⊎ (n ≢ j)
equal_or_not n j =
    elim (cases_lt n j) [
      | inl below ↦ inr (λ e. absurd (omega arith))
      | inr from ↦ elim (cases_lt j n) [ inl above ↦ inr (λ e. absurd (omega arith)) | inr upto ↦ inl (omega arith) ]
    ]

-- previous + (X + r) times the polynomial
times_linear : ℕ → ℕ → List ℕ → List ℕ
times_linear previous r [] = previous ∷ []
times_linear previous r (c ∷ cs) = bit_xor previous (product r c) ∷ times_linear c r cs

value-times_linear : (previous r : ℕ) (cs : List ℕ) (y : ℕ) → r < 256 → y < 256 → AreElements cs
    → value (times_linear previous r cs) y ≡ bit_xor previous (product (bit_xor y r) (value cs y))
unfolding value times_linear
value-times_linear previous r [] y R Y C = ap (bit_xor previous) (product-zero y ∙ sym (product-zero (bit_xor y r)))
value-times_linear previous r (c ∷ cs) y R Y C =
    let s = bit_xor y r in
    let v = value cs y in
    let rest = λ (i : ℕ). C (suc i) in
    let V = value-lt cs y rest in
    ap (λ w. bit_xor (bit_xor previous (product r c)) (product y w)) (value-times_linear c r cs y R Y rest)
    ∙ ap (bit_xor (bit_xor previous (product r c))) (product-sum y c (product s v))
    ∙ xor_assoc previous (product r c) (bit_xor (product y c) (product y (product s v)))
    ∙ ap (bit_xor previous)
    (sym (xor_assoc (product r c) (product y c) (product y (product s v)))
    ∙ ap (λ w. bit_xor w (product y (product s v))) (xor_comm (product r c) (product y c) ∙ sym (product-sum_l y r c))
    ∙ ap (bit_xor (product s c)) (product_swap y s v Y (xor_lt 8 y r Y R) V)
    ∙ sym (product-sum s c (product y v)))

length-times_linear : (previous r : ℕ) (cs : List ℕ) → length (times_linear previous r cs) ≡ suc (length cs)
unfolding times_linear
length-times_linear previous r [] = refl
length-times_linear previous r (c ∷ cs) = ap suc (length-times_linear c r cs)

times_linear_elements : (previous r : ℕ) (cs : List ℕ) → previous < 256 → AreElements cs → AreElements (times_linear previous r cs)
unfolding times_linear
times_linear_elements previous r [] P C zero = P
times_linear_elements previous r [] P C (suc i) = omega arith
times_linear_elements previous r (c ∷ cs) P C zero = xor_lt 8 previous (product r c) P (product-lt r c (C 0))
times_linear_elements previous r (c ∷ cs) P C (suc i) = times_linear_elements c r cs (C 0) (λ i. C (suc i)) i

-- the polynomial whose values are those of `apart`
pub apart_polynomial : (ℕ → ℕ) → ℕ → ℕ → List ℕ
apart_polynomial x j zero = 1 ∷ []
apart_polynomial x j (suc n) = cond (eqb n j) (apart_polynomial x j n) (times_linear 0 (x n) (apart_polynomial x j n))

module _ (x : ℕ → ℕ) (j : ℕ) where
  pub apart_elements : (n : ℕ) → AreElements (apart_polynomial x j n)
  unfolding apart_polynomial
  apart_elements zero zero = omega arith
  apart_elements zero (suc i) = omega arith
  apart_elements (suc n) i =
      elim (eqb n j) as (λ b. slice_index (cond b (apart_polynomial x j n) (times_linear 0 (x n) (apart_polynomial x j n))) i < 256) [
        | true ↦ apart_elements n i
        | false ↦ times_linear_elements 0 (x n) (apart_polynomial x j n) (omega arith) (apart_elements n) i
      ]

  pub value-apart : (n y : ℕ) → ((i : ℕ) → i < n → x i < 256) → y < 256 → value (apart_polynomial x j n) y ≡ apart x j n y
  unfolding apart_polynomial apart value
  value-apart zero y X Y = ap (bit_xor 1) (product-zero y)
  value-apart (suc n) y X Y =
      let before = value-apart n y (λ i l. X i (omega arith)) Y in
      let R = X n (omega arith) in
      elim (eqb n j) as (λ b. value (cond b (apart_polynomial x j n) (times_linear 0 (x n) (apart_polynomial x j n))) y ≡ cond b (apart x j n y) (product (apart x j n y) (bit_xor y (x n)))) [
        | true ↦ before
        | false ↦
            value-times_linear 0 (x n) (apart_polynomial x j n) y R Y (apart_elements n)
            ∙ xor_zero_l _
            ∙ product-comm (bit_xor y (x n)) (value (apart_polynomial x j n) y) (xor_lt 8 y (x n) Y R) (value-lt (apart_polynomial x j n) y (apart_elements n))
            ∙ ap (λ v. product v (bit_xor y (x n))) before
      ]

  length_before : (n : ℕ) → n ≤ j → length (apart_polynomial x j n) ≡ suc n
  unfolding apart_polynomial
  length_before zero l = refl
  length_before (suc n) l =
      let other : eqb n j ≡ false = ne_eqb n j (omega arith) in
      rw other (length-times_linear 0 (x n) (apart_polynomial x j n) ∙ ap suc (length_before n (omega arith)))

  pub length-apart_polynomial : (n : ℕ) → j < n → length (apart_polynomial x j n) ≡ n
  unfolding apart_polynomial
  length-apart_polynomial zero l = absurd (omega arith)
  length-apart_polynomial (suc n) l =
      elim (cases_lt j n) [
        | inl below ↦
            let other : eqb n j ≡ false = ne_eqb n j (omega arith) in
            rw other (length-times_linear 0 (x n) (apart_polynomial x j n) ∙ ap suc (length-apart_polynomial n below))
        | inr last ↦
            let here : eqb n j ≡ true = eq-eqb n j (omega arith) in
            rw here (length_before n last)
      ]

  pub apart-lt : (n y : ℕ) → ((i : ℕ) → i < n → x i < 256) → y < 256 → apart x j n y < 256
  unfolding apart
  apart-lt zero y X Y = omega arith
  apart-lt (suc n) y X Y =
      elim (eqb n j) as (λ b. cond b (apart x j n y) (product (apart x j n y) (bit_xor y (x n))) < 256) [
        | true ↦ apart-lt n y (λ i l. X i (omega arith)) Y
        | false ↦ product-lt (apart x j n y) (bit_xor y (x n)) (xor_lt 8 y (x n) Y (X n (omega arith)))
      ]

  -- at one of the other points the product has the factor 0
  pub apart_at_other : (n i : ℕ) → i < n → i ≢ j → apart x j n (x i) ≡ 0
  unfolding apart
  apart_at_other zero i l other = absurd (omega arith)
  apart_at_other (suc n) i l other =
      elim (cases_lt i n) [
        | inl below ↦
            let before = apart_at_other n i below other in
            elim (eqb n j) as (λ b. cond b (apart x j n (x i)) (product (apart x j n (x i)) (bit_xor (x i) (x n))) ≡ 0) [
              | true ↦ before
              | false ↦ ap (λ v. product v (bit_xor (x i) (x n))) before ∙ product-zero_l (bit_xor (x i) (x n))
            ]
        | inr last ↦
            let here : i ≡ n = omega arith in
            let not_left_out : eqb n j ≡ false = ne_eqb n j (λ e. other (here ∙ e)) in
            rw not_left_out (ap (λ m. product (apart x j n (x i)) (bit_xor (x i) (x m))) (sym here) ∙ ap (product (apart x j n (x i))) (xor_self (x i)) ∙ product-zero (apart x j n (x i)))
      ]

  pub apart_nonzero : (n y : ℕ) → ((i : ℕ) → i < n → x i < 256) → y < 256 → ((i : ℕ) → i < n → i ≢ j → y ≢ x i) → apart x j n y ≢ 0
  unfolding apart
  apart_nonzero zero y X Y differs e = absurd (omega arith)
  apart_nonzero (suc n) y X Y differs e =
      let X' : (i : ℕ) → i < n → x i < 256 = λ i l. X i (omega arith) in
      let before = apart_nonzero n y X' Y (λ i l other. differs i (omega arith) other) in
      elim (equal_or_not n j) [
        | inl here ↦ let left_out = eq-eqb n j here in before (rw left_out at e)
        | inr other ↦
            let not_left_out = ne_eqb n j other in
            sum_of_distinct y (x n) (differs n (omega arith) other)
            (factor_is_zero (apart x j n y) (bit_xor y (x n)) (apart-lt n y X' Y) (xor_lt 8 y (x n) Y (X n (omega arith))) before (rw not_left_out at e))
      ]

-- the inverse of the product of the differences of point j from the others
unfoldable pub base : (ℕ → ℕ) → ℕ → ℕ → ℕ
base x k j = inverse (apart x j k (x j))

-- how the value at y depends on that at point j
unfoldable pub weight : (ℕ → ℕ) → ℕ → ℕ → ℕ → ℕ
weight x k y j = product (apart x j k y) (base x k j)

-- the polynomial through the first n of the values at k points, which is 0 at the others
pub through : (ℕ → ℕ) → (ℕ → ℕ) → ℕ → ℕ → List ℕ
through x v k zero = replicate k 0
through x v k (suc n) = plus (through x v k n) (scale (product (v n) (base x k n)) (apart_polynomial x n k))

value-zeros : (k y : ℕ) → value (replicate k 0) y ≡ 0
unfolding value
value-zeros zero y = refl
value-zeros (suc k) y = ap (bit_xor 0) (ap (product y) (value-zeros k y) ∙ product-zero y)

zeros_elements : (k : ℕ) → AreElements (replicate k 0)
zeros_elements zero i = omega arith
zeros_elements (suc k) zero = omega arith
zeros_elements (suc k) (suc i) = zeros_elements k i

module _ (k : ℕ) (x : ℕ → ℕ) (P : ArePoints k x) where
  -- two points are different, in either order
  pub points_differ : (i j : ℕ) → i < k → j < k → i ≢ j → x i ≢ x j
  points_differ i j I J other e =
      elim (cases_lt i j) [
        | inl below ↦ P.differ i j below J e
        | inr above ↦ P.differ j i (omega arith) I (sym e)
      ]

  pub span_nonzero : (j : ℕ) → j < k → apart x j k (x j) ≢ 0
  span_nonzero j J = apart_nonzero x j k (x j) P.are_elements (P.are_elements j J) (λ i I other. points_differ j i J I (λ e. other (sym e)))

  pub span-lt : (j : ℕ) → j < k → apart x j k (x j) < 256
  span-lt j J = apart-lt x j k (x j) P.are_elements (P.are_elements j J)

  pub base-lt : (j : ℕ) → j < k → base x k j < 256
  unfolding base
  base-lt j J = inverse-lt (apart x j k (x j)) (span-lt j J)

  weight_here : (j : ℕ) → j < k → weight x k (x j) j ≡ 1
  unfolding weight base
  weight_here j J = product-inverse (apart x j k (x j)) (span-lt j J) (span_nonzero j J)

  weight_elsewhere : (i j : ℕ) → i < k → i ≢ j → weight x k (x i) j ≡ 0
  unfolding weight
  weight_elsewhere i j I other = ap (λ a. product a (base x k j)) (apart_at_other x j k i I other) ∙ product-zero_l (base x k j)

  module _ (v : ℕ → ℕ) (V : (i : ℕ) → i < k → v i < 256) where
    pub length-through : (n : ℕ) → n ≤ k → length (through x v k n) ≡ k
    unfolding through
    length-through zero l = length-replicate k 0
    length-through (suc n) l =
        let before = length-through n (omega arith) in
        let added : length (scale (product (v n) (base x k n)) (apart_polynomial x n k)) ≡ k = length-scale _ _ ∙ length-apart_polynomial x n k (omega arith) in
        length-plus (through x v k n) _ (before ∙ sym added) ∙ before

    pub through_elements : (n : ℕ) → AreElements (through x v k n)
    unfolding through
    through_elements zero = zeros_elements k
    through_elements (suc n) = plus_elements (through x v k n) _ (through_elements n) (scale_elements _ _ (apart_elements x n k))

    -- the value of that polynomial is a sum of products
    pub value-through : (n y : ℕ) → n ≤ k → y < 256 → value (through x v k n) y ≡ combination n (weight x k y) v
    unfolding through combination weight
    value-through zero y l Y = value-zeros k y
    value-through (suc n) y l Y =
        let b = base x k n in
        let a = apart x n k y in
        let N = V n (omega arith) in
        let B = base-lt n (omega arith) in
        let A = apart-lt x n k y P.are_elements Y in
        let term : value (scale (product (v n) b) (apart_polynomial x n k)) y ≡ product (product a b) (v n) =
        value-scale (product (v n) b) (apart_polynomial x n k) y (product-lt (v n) b B) Y (apart_elements x n k)
        ∙ ap (product (product (v n) b)) (value-apart x n k y P.are_elements Y)
        ∙ product-assoc (v n) b a N B A
        ∙ product-comm (v n) (product b a) N (product-lt b a A)
        ∙ ap (λ w. product w (v n)) (product-comm b a B A) in
        value-plus (through x v k n) _ y ∙ xor_both _ _ _ _ (value-through n y (omega arith) Y) term

    at_later : (n i : ℕ) → i < k → n ≤ i → combination n (weight x k (x i)) v ≡ 0
    unfolding combination
    at_later zero i I l = refl
    at_later (suc n) i I l =
        xor_both _ _ _ _ (at_later n i I (omega arith))
        (ap (λ w. product w (v n)) (weight_elsewhere i n I (λ e. absurd (omega arith))) ∙ product-zero_l (v n))

    at_earlier : (n i : ℕ) → i < n → n ≤ k → combination n (weight x k (x i)) v ≡ v i
    unfolding combination
    at_earlier zero i l m = absurd (omega arith)
    at_earlier (suc n) i l m =
        elim (cases_lt i n) [
          | inl below ↦
              xor_both _ _ _ _ (at_earlier n i below (omega arith))
              (ap (λ w. product w (v n)) (weight_elsewhere i n (omega arith) (λ e. absurd (omega arith))) ∙ product-zero_l (v n))
              ∙ xor_zero_r (v i)
          | inr last ↦
              let here : i ≡ n = omega arith in
              let Q : ℕ → Type 0 = λ m. bit_xor (combination n (weight x k (x i)) v) (product (weight x k (x i) m) (v m)) ≡ v i in
              subst Q here
              (xor_both _ _ _ _ (at_later n i (omega arith) (omega arith))
              (ap (λ w. product w (v i)) (weight_here i (omega arith)) ∙ product-one (v i) (V i (omega arith)))
              ∙ xor_zero_l (v i))
        ]

    pub through_is_polynomial : IsPolynomial k (through x v k k)
    through_is_polynomial = record { degree_below = length-through k (omega arith); are_elements = through_elements k }

    pub through_passes : (i : ℕ) → i < k → value (through x v k k) (x i) ≡ v i
    through_passes i l = value-through k (x i) (omega arith) (P.are_elements i l) ∙ at_earlier k i l (omega arith)

  -- the value at y of a polynomial of degree below k, from its values at the points
  pub value_from_points : (p : List ℕ) (y : ℕ) → IsPolynomial k p → y < 256 → value p y ≡ combination k (weight x k y) (λ i. value p (x i))
  value_from_points p y D Y =
      let v = λ (i : ℕ). value p (x i) in
      let V : (i : ℕ) → i < k → v i < 256 = λ i l. value-lt p (x i) D.are_elements in
      let same = same_from_points k p (through x v k k) x D (through_is_polynomial v V) P (λ i l. sym (through_passes v V i l)) in
      ap (λ q. value q y) same ∙ value-through v V k y (omega arith) Y
