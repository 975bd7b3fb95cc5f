-- The four sums of a quad are linear in its bytes, so that the coefficients determine them.
use Rattle.std.proofs.Common.{◌≡◌, ℕ, zero, suc, ◌+◌, ◌*◌, ◌/◌, ◌<◌, List, length, slice_index, bit_xor, Bool, true, false, not, ◌&&◌, cond, eqb, refl, sym, ◌∙◌, ap, subst, arith, add-one}
use Rattle.std.specs.Int.Bits.{xor_assoc, xor_zero_l, xor_zero_r}
use Rattle.std.proofs.lemmas.Bool.{and_parts, eqb-true, eq-eqb, ne_eqb}
use Rattle.std.proofs.lemmas.Nat.{xor_lt}
use Rattle.gz_field.specs.Field.{product}
use Rattle.gz_field.proofs.Additive.{xor_swap, xor_both}
use Rattle.gz_field.proofs.Algebra.{product-sum, product-sum_l, product-zero, product-zero_l, product-one, product-lt, product-assoc}
use Rattle.gz_lanes.specs.Combination.{combination, column, IsSum}
use Rattle.gz_lanes.specs.Lanes.{HasLanes}
use Rattle.gz_lanes.specs.Quads.{lifted, first_part, second_part, third_part, fourth_part, unit, in_first, in_second, in_third, in_fourth}

-- a combination is linear in its coefficients
pub combination_sum : (n : ℕ) (f g v : ℕ → ℕ) → combination n (λ j. bit_xor (f j) (g j)) v ≡ bit_xor (combination n f v) (combination n g v)
unfolding combination
combination_sum zero f g v = refl
combination_sum (suc n) f g v = xor_both _ _ _ _ (combination_sum n f g v) (product-sum_l (f n) (g n) (v n)) ∙ xor_swap (combination n f v) (combination n g v) (product (f n) (v n)) (product (g n) (v n))

pub combination_times : (x n : ℕ) (f v : ℕ → ℕ) → x < 256 → ((j : ℕ) → j < n → f j < 256) → ((j : ℕ) → j < n → v j < 256) → combination n (λ j. product x (f j)) v ≡ product x (combination n f v)
unfolding combination
combination_times x zero f v X F V = sym (product-zero x)
combination_times x (suc n) f v X F V =
    xor_both _ _ _ _ (combination_times x n f v X (λ j l. F j (omega arith)) (λ j l. V j (omega arith))) (product-assoc x (f n) (v n) X (F n (omega arith)) (V n (omega arith)))
    ∙ sym (product-sum x (combination n f v) (product (f n) (v n)))

pub combination_same : (n : ℕ) (f g v : ℕ → ℕ) → ((j : ℕ) → j < n → f j ≡ g j) → combination n f v ≡ combination n g v
unfolding combination
combination_same zero f g v same = refl
combination_same (suc n) f g v same = xor_both _ _ _ _ (combination_same n f g v (λ j l. same j (omega arith))) (ap (λ x. product x (v n)) (same n (omega arith)))

one_more : (n : ℕ) (f v : ℕ → ℕ) → combination (n + 1) f v ≡ bit_xor (combination n f v) (product (f n) (v n))
unfolding combination
one_more n f v = rw add-one refl

-- the products of a quad
abbrev pub spread : ℕ → (ℕ → ℕ) → (ℕ → ℕ) → ℕ
spread q w v =
    bit_xor (product (w (q * 4)) (v (q * 4))) (bit_xor (product (w (q * 4 + 1)) (v (q * 4 + 1))) (bit_xor (product (w (q * 4 + 2)) (v (q * 4 + 2))) (product (w (q * 4 + 3)) (v (q * 4 + 3)))))

four_more : (q : ℕ) (f v : ℕ → ℕ) → combination ((q + 1) * 4) f v ≡ bit_xor (combination (q * 4) f v) (spread q f v)
four_more q f v =
    let m = q * 4 in
    let p = λ (i : ℕ). product (f i) (v i) in
    let whole : (q + 1) * 4 ≡ m + 3 + 1 = omega arith in
    let three : m + 3 ≡ m + 2 + 1 = omega arith in
    let two : m + 2 ≡ m + 1 + 1 = omega arith in
    ap (λ n. combination n f v) whole
    ∙ one_more (m + 3) f v
    ∙ ap (λ x. bit_xor x (p (m + 3)))
    (ap (λ n. combination n f v) three
    ∙ one_more (m + 2) f v
    ∙ ap (λ x. bit_xor x (p (m + 2))) (ap (λ n. combination n f v) two ∙ one_more (m + 1) f v ∙ ap (λ x. bit_xor x (p (m + 1))) (one_more m f v)))
    ∙ xor_assoc _ (p (m + 2)) (p (m + 3))
    ∙ xor_assoc _ (p (m + 1)) _
    ∙ xor_assoc _ (p m) _

-- g makes of the bytes of quad q the sum of their products with the coefficients w, which are bytes
record IsLinear (q : ℕ) (g : (ℕ → ℕ) → ℕ) (w : ℕ → ℕ) : Type 0 where
  is_byte : (j : ℕ) → w j < 256
  sums : (v : ℕ → ℕ) → ((r : ℕ) → r < 4 → v (q * 4 + r) < 256) → g v ≡ spread q w v

linear_sum : (q : ℕ) (g h : (ℕ → ℕ) → ℕ) (w u : ℕ → ℕ) → IsLinear q g w → IsLinear q h u → IsLinear q (λ v. bit_xor (g v) (h v)) (λ j. bit_xor (w j) (u j))
linear_sum q g h w u G H = record {
  is_byte = λ j. xor_lt 8 (w j) (u j) (G.is_byte j) (H.is_byte j);
  sums = λ v V.
      let m = q * 4 in
      let p = λ (i : ℕ). product (w i) (v i) in
      let r = λ (i : ℕ). product (u i) (v i) in
      let at = λ (i : ℕ). sym (product-sum_l (w i) (u i) (v i)) in
      xor_both _ _ _ _ (G.sums v V) (H.sums v V)
      ∙ xor_swap (p m) (bit_xor (p (m + 1)) (bit_xor (p (m + 2)) (p (m + 3)))) (r m) (bit_xor (r (m + 1)) (bit_xor (r (m + 2)) (r (m + 3))))
      ∙ xor_both _ _ _ _ (at m)
      (xor_swap (p (m + 1)) (bit_xor (p (m + 2)) (p (m + 3))) (r (m + 1)) (bit_xor (r (m + 2)) (r (m + 3)))
      ∙ xor_both _ _ _ _ (at (m + 1)) (xor_swap (p (m + 2)) (p (m + 3)) (r (m + 2)) (r (m + 3)) ∙ xor_both _ _ _ _ (at (m + 2)) (at (m + 3))));
}

linear_times : (q x : ℕ) (g : (ℕ → ℕ) → ℕ) (w : ℕ → ℕ) → x < 256 → IsLinear q g w → IsLinear q (λ v. product x (g v)) (λ j. product x (w j))
linear_times q x g w X G = record {
  is_byte = λ j. product-lt x (w j) (G.is_byte j);
  sums = λ v V.
      let at = λ (i : ℕ) (B : v i < 256). sym (product-assoc x (w i) (v i) X (G.is_byte i) B) in
      let whole : q * 4 + 0 ≡ q * 4 = omega arith in
      let first : v (q * 4) < 256 = subst (λ i. v i < 256) whole (V 0 (omega arith)) in
      ap (product x) (G.sums v V)
      ∙ product-sum x _ _
      ∙ xor_both _ _ _ _
      (at (q * 4) first)
      (product-sum x _ _
      ∙ xor_both _ _ _ _ (at (q * 4 + 1) (V 1 (omega arith))) (product-sum x _ _ ∙ xor_both _ _ _ _ (at (q * 4 + 2) (V 2 (omega arith))) (at (q * 4 + 3) (V 3 (omega arith)))));
}

linear_lifted : (q x : ℕ) (g h : (ℕ → ℕ) → ℕ) (w u : ℕ → ℕ) → x < 256 → IsLinear q g w → IsLinear q h u → IsLinear q (λ v. lifted x (g v) (h v)) (λ j. lifted x (w j) (u j))
linear_lifted q x g h w u X G H =
    linear_sum q g (λ v. product x (bit_xor (g v) (h v))) w (λ j. product x (bit_xor (w j) (u j))) G
    (linear_times q x (λ v. bit_xor (g v) (h v)) (λ j. bit_xor (w j) (u j)) X (linear_sum q g h w u G H))

unit_is_byte : (j i : ℕ) → unit j i < 256
unit_is_byte j i = elim (eqb i j) as (λ b. cond b 1 0 < 256) [ true ↦ omega arith | false ↦ omega arith ]

taken : (j i x : ℕ) → i ≡ j → x < 256 → product (unit j i) x ≡ x
taken j i x same X =
    let yes : eqb i j ≡ true = eq-eqb i j same in
    ap (λ b. product (cond b 1 0) x) yes ∙ product-one x X

left_out : (j i x : ℕ) → (i ≡ j → ⊥) → product (unit j i) x ≡ 0
left_out j i x other =
    let no : eqb i j ≡ false = ne_eqb i j other in
    ap (λ b. product (cond b 1 0) x) no ∙ product-zero_l x

linear_first : (q : ℕ) → IsLinear q (λ v. v (q * 4)) (λ j. unit j (q * 4))
linear_first q = record {
  is_byte = λ j. unit_is_byte j (q * 4);
  sums = λ v V.
      let x = v (q * 4) in
      let whole : q * 4 + 0 ≡ q * 4 = omega arith in
      let X : x < 256 = subst (λ i. v i < 256) whole (V 0 (omega arith)) in
      sym (xor_both _ _ _ _ (taken (q * 4) (q * 4) x refl X)
      (xor_both _ _ _ _ (left_out (q * 4 + 1) (q * 4) _ (λ e. omega arith))
      (xor_both _ _ _ _ (left_out (q * 4 + 2) (q * 4) _ (λ e. omega arith)) (left_out (q * 4 + 3) (q * 4) _ (λ e. omega arith))))
      ∙ xor_zero_r x);
}

linear_second : (q : ℕ) → IsLinear q (λ v. v (q * 4 + 1)) (λ j. unit j (q * 4 + 1))
linear_second q = record {
  is_byte = λ j. unit_is_byte j (q * 4 + 1);
  sums = λ v V.
      let i = q * 4 + 1 in
      let x = v i in
      sym (xor_both _ _ _ _ (left_out (q * 4) i _ (λ e. omega arith))
      (xor_both _ _ _ _ (taken i i x refl (V 1 (omega arith)))
      (xor_both _ _ _ _ (left_out (q * 4 + 2) i _ (λ e. omega arith)) (left_out (q * 4 + 3) i _ (λ e. omega arith))))
      ∙ xor_zero_l _ ∙ xor_zero_r x);
}

linear_third : (q : ℕ) → IsLinear q (λ v. v (q * 4 + 2)) (λ j. unit j (q * 4 + 2))
linear_third q = record {
  is_byte = λ j. unit_is_byte j (q * 4 + 2);
  sums = λ v V.
      let i = q * 4 + 2 in
      let x = v i in
      sym (xor_both _ _ _ _ (left_out (q * 4) i _ (λ e. omega arith))
      (xor_both _ _ _ _ (left_out (q * 4 + 1) i _ (λ e. omega arith))
      (xor_both _ _ _ _ (taken i i x refl (V 2 (omega arith))) (left_out (q * 4 + 3) i _ (λ e. omega arith))))
      ∙ xor_zero_l _ ∙ xor_zero_l _ ∙ xor_zero_r x);
}

linear_fourth : (q : ℕ) → IsLinear q (λ v. v (q * 4 + 3)) (λ j. unit j (q * 4 + 3))
linear_fourth q = record {
  is_byte = λ j. unit_is_byte j (q * 4 + 3);
  sums = λ v V.
      let i = q * 4 + 3 in
      let x = v i in
      sym (xor_both _ _ _ _ (left_out (q * 4) i _ (λ e. omega arith))
      (xor_both _ _ _ _ (left_out (q * 4 + 1) i _ (λ e. omega arith))
      (xor_both _ _ _ _ (left_out (q * 4 + 2) i _ (λ e. omega arith)) (taken i i x refl (V 3 (omega arith)))))
      ∙ xor_zero_l _ ∙ xor_zero_l _ ∙ xor_zero_l x);
}

-- a part of one more quad
quad_more : (q : ℕ) (part : ℕ → (ℕ → ℕ) → ℕ) (v : ℕ → ℕ) → IsLinear q (part q) (λ j. part q (unit j)) → ((r : ℕ) → r < 4 → v (q * 4 + r) < 256)
    → bit_xor (combination (q * 4) (λ j. part (j / 4) (unit j)) v) (part q v) ≡ combination ((q + 1) * 4) (λ j. part (j / 4) (unit j)) v
quad_more q part v L V =
    let at = λ (r : ℕ) (R : r < 4). let here : (q * 4 + r) / 4 ≡ q = omega arith in ap (λ p. product (part p (unit (q * 4 + r))) (v (q * 4 + r))) (sym here) in
    let whole : q * 4 / 4 ≡ q = omega arith in
    let first = ap (λ p. product (part p (unit (q * 4))) (v (q * 4))) (sym whole) in
    ap (bit_xor (combination (q * 4) (λ j. part (j / 4) (unit j)) v))
    (L.sums v V ∙ xor_both _ _ _ _ first (xor_both _ _ _ _ (at 1 (omega arith)) (xor_both _ _ _ _ (at 2 (omega arith)) (at 3 (omega arith)))))
    ∙ sym (four_more q (λ j. part (j / 4) (unit j)) v)

module _ (constants : List ℕ) (q : ℕ) (X : slice_index constants (q * 3) < 256) (Y : slice_index constants (q * 3 + 1) < 256) (Z : slice_index constants (q * 3 + 2) < 256) where
  abbrev x : ℕ
  x = slice_index constants (q * 3)

  abbrev y : ℕ
  y = slice_index constants (q * 3 + 1)

  abbrev z : ℕ
  z = slice_index constants (q * 3 + 2)

  low_lifted : IsLinear q (λ v. lifted x (v (q * 4)) (v (q * 4 + 1))) (λ j. lifted x (unit j (q * 4)) (unit j (q * 4 + 1)))
  low_lifted = linear_lifted q x (λ v. v (q * 4)) (λ v. v (q * 4 + 1)) (λ j. unit j (q * 4)) (λ j. unit j (q * 4 + 1)) X (linear_first q) (linear_second q)

  high_lifted : IsLinear q (λ v. lifted y (v (q * 4 + 2)) (v (q * 4 + 3))) (λ j. lifted y (unit j (q * 4 + 2)) (unit j (q * 4 + 3)))
  high_lifted = linear_lifted q y (λ v. v (q * 4 + 2)) (λ v. v (q * 4 + 3)) (λ j. unit j (q * 4 + 2)) (λ j. unit j (q * 4 + 3)) Y (linear_third q) (linear_fourth q)

  low_sum : IsLinear q (λ v. bit_xor (v (q * 4)) (v (q * 4 + 1))) (λ j. bit_xor (unit j (q * 4)) (unit j (q * 4 + 1)))
  low_sum = linear_sum q (λ v. v (q * 4)) (λ v. v (q * 4 + 1)) (λ j. unit j (q * 4)) (λ j. unit j (q * 4 + 1)) (linear_first q) (linear_second q)

  high_sum : IsLinear q (λ v. bit_xor (v (q * 4 + 2)) (v (q * 4 + 3))) (λ j. bit_xor (unit j (q * 4 + 2)) (unit j (q * 4 + 3)))
  high_sum = linear_sum q (λ v. v (q * 4 + 2)) (λ v. v (q * 4 + 3)) (λ j. unit j (q * 4 + 2)) (λ j. unit j (q * 4 + 3)) (linear_third q) (linear_fourth q)

  linear_first_part : IsLinear q (first_part constants q) (λ j. first_part constants q (unit j))
  linear_first_part = linear_lifted q z _ _ _ _ Z low_lifted high_lifted

  linear_second_part : IsLinear q (second_part constants q) (λ j. second_part constants q (unit j))
  linear_second_part = linear_lifted q z _ _ _ _ Z low_sum high_sum

  linear_third_part : IsLinear q (third_part constants q) (λ j. third_part constants q (unit j))
  linear_third_part = linear_sum q _ _ _ _ low_lifted high_lifted

  linear_fourth_part : IsLinear q (fourth_part q) (λ j. fourth_part q (unit j))
  linear_fourth_part = linear_sum q _ _ _ _ low_sum high_sum

  module _ (v : ℕ → ℕ) (V : (r : ℕ) → r < 4 → v (q * 4 + r) < 256) where
    pub first_more : bit_xor (combination (q * 4) (in_first constants) v) (first_part constants q v) ≡ combination ((q + 1) * 4) (in_first constants) v
    unfolding in_first
    first_more = quad_more q (first_part constants) v linear_first_part V

    pub second_more : bit_xor (combination (q * 4) (in_second constants) v) (second_part constants q v) ≡ combination ((q + 1) * 4) (in_second constants) v
    unfolding in_second
    second_more = quad_more q (second_part constants) v linear_second_part V

    pub third_more : bit_xor (combination (q * 4) (in_third constants) v) (third_part constants q v) ≡ combination ((q + 1) * 4) (in_third constants) v
    unfolding in_third
    third_more = quad_more q (third_part constants) v linear_third_part V

    pub fourth_more : bit_xor (combination (q * 4) in_fourth v) (fourth_part q v) ≡ combination ((q + 1) * 4) in_fourth v
    unfolding in_fourth
    fourth_more = quad_more q fourth_part v linear_fourth_part V

-- the coefficients of two parts are bytes
pair_is_byte : (j a b : ℕ) → bit_xor (unit j a) (unit j b) < 256
pair_is_byte j a b = xor_lt 8 (unit j a) (unit j b) (unit_is_byte j a) (unit_is_byte j b)

pub in_second-lt : (constants : List ℕ) (j : ℕ) → in_second constants j < 256
unfolding in_second
in_second-lt constants j =
    let m = j / 4 * 4 in
    let low = bit_xor (unit j m) (unit j (m + 1)) in
    let high = bit_xor (unit j (m + 2)) (unit j (m + 3)) in
    let z = slice_index constants (j / 4 * 3 + 2) in
    let L = pair_is_byte j m (m + 1) in
    xor_lt 8 low (product z (bit_xor low high)) L (product-lt z (bit_xor low high) (xor_lt 8 low high L (pair_is_byte j (m + 2) (m + 3))))

pub in_fourth-lt : (j : ℕ) → in_fourth j < 256
unfolding in_fourth
in_fourth-lt j =
    let m = j / 4 * 4 in
    xor_lt 8 (bit_xor (unit j m) (unit j (m + 1))) (bit_xor (unit j (m + 2)) (unit j (m + 3))) (pair_is_byte j m (m + 1)) (pair_is_byte j (m + 2) (m + 3))

-- four tests that all hold
is_true : (x : Bool) → not x ≡ false → x ≡ true
is_true true e = refl
is_true false e = sym e

pub all_equal : (a b c d e f g h : ℕ) (differ : Bool) → differ ≡ false → differ ≡ not (((eqb a e && eqb b f) && eqb c g) && eqb d h) → (a ≡ e) × (b ≡ f) × (c ≡ g) × (d ≡ h)
all_equal a b c d e f g h differ none tests =
    let all = and_parts ((eqb a e && eqb b f) && eqb c g) (eqb d h) (is_true _ (sym tests ∙ none)) in
    let three = and_parts (eqb a e && eqb b f) (eqb c g) all.0 in
    let two = and_parts (eqb a e) (eqb b f) three.0 in
    (eqb-true a e two.0, eqb-true b f two.1, eqb-true c g three.1, eqb-true d h all.1)

-- combinations by the coefficients of a row
pub row_sums : (n : ℕ) (row : List ℕ) (sources : List (List ℕ)) (at : ℕ) (w : ℕ → ℕ) (v : List ℕ) → length row ≡ n → ((j : ℕ) → j < length row → slice_index row j ≡ w j)
    → HasLanes v (λ k. combination n w (column sources (at + k))) → IsSum row sources at v
row_sums n row sources at w v long same V = record {
  long = V.long;
  each = λ k l.
      V.each k l
      ∙ ap (λ n. combination n w (column sources (at + k))) (sym long)
      ∙ sym (combination_same (length row) (slice_index row) w (column sources (at + k)) same);
}
