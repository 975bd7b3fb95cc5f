-- A polynomial of n coefficients with n zeros is 0.
use Rattle.std.proofs.Common.{◌≡◌, ◌≢◌, ℕ, zero, suc, ◌<◌, List, [], ◌∷◌, length, slice_index, bit_xor, refl, sym, ◌∙◌, ap, arith, inl, inr}
use Rattle.std.specs.Int.Bits.{xor_assoc, xor_self, xor_zero_l, xor_zero_r}
use Rattle.std.proofs.lemmas.Nat.{xor_comm, xor_lt}
use Rattle.std.proofs.lemmas.Grind.{same_number_lists}
use Rattle.std.proofs.lemmas.Bool.{cases_lt}
use Rattle.gz_field.specs.Field.{product}
use Rattle.gz_field.proofs.Additive.{xor_swap}
use Rattle.gz_field.proofs.Algebra.{product-sum, product-sum_l, product-zero}
use Rattle.gz_field.proofs.Inverse.{factor_is_zero, sum_of_distinct, same_from_sum}
use Rattle.gz_code.specs.Polynomial.{value, IsPolynomial, ArePoints}
use Rattle.gz_code.proofs.Values.{AreElements, value-lt, product_swap, plus, value-plus, slice_index-plus, length-plus, plus_elements}

-- the quotient by X + r, by synthetic division
pub quotient : ℕ → List ℕ → List ℕ
quotient r [] = []
quotient r (c ∷ []) = []
quotient r (c ∷ d ∷ ds) = value (d ∷ ds) r ∷ quotient r (d ∷ ds)

pub length-quotient : (r c : ℕ) (cs : List ℕ) → length (quotient r (c ∷ cs)) ≡ length cs
unfolding quotient
length-quotient r c [] = refl
length-quotient r c (d ∷ ds) = ap suc (length-quotient r d ds)

pub quotient_elements : (r : ℕ) (cs : List ℕ) → AreElements cs → AreElements (quotient r cs)
unfolding quotient
quotient_elements r [] C i = C i
quotient_elements r (c ∷ []) C i = omega arith
quotient_elements r (c ∷ d ∷ ds) C zero = value-lt (d ∷ ds) r (λ i. C (suc i))
quotient_elements r (c ∷ d ∷ ds) C (suc i) = quotient_elements r (d ∷ ds) (λ i. C (suc i)) i

-- c + (a + b), with d added twice
collect : (a b c d : ℕ) → bit_xor c (bit_xor a b) ≡ bit_xor (bit_xor (bit_xor b d) a) (bit_xor c d)
collect a b c d =
    sym
    (ap (λ x. bit_xor x (bit_xor c d)) (xor_assoc b d a ∙ ap (bit_xor b) (xor_comm d a) ∙ sym (xor_assoc b a d))
    ∙ xor_swap (bit_xor b a) d c d
    ∙ ap (bit_xor (bit_xor (bit_xor b a) c)) (xor_self d)
    ∙ xor_zero_r (bit_xor (bit_xor b a) c)
    ∙ xor_comm (bit_xor b a) c
    ∙ ap (bit_xor c) (xor_comm b a))

-- c + y (s q + w) from the parts of the product of s with w + y q, where s = y + r
expand : (c y r q w : ℕ) → y < 256 → r < 256 → q < 256 → w < 256
    → bit_xor c (product y (bit_xor (product (bit_xor y r) q) w)) ≡ bit_xor (product (bit_xor y r) (bit_xor w (product y q))) (bit_xor c (product r w))
expand c y r q w Y R Q W =
    let s = bit_xor y r in
    let swapped = product_swap s y q (xor_lt 8 y r Y R) Y Q in
    ap (bit_xor c) (product-sum y (product s q) w)
    ∙ collect (product y (product s q)) (product y w) c (product r w)
    ∙ sym (ap (λ x. bit_xor x (bit_xor c (product r w)))
    (product-sum s w (product y q)
    ∙ ap (bit_xor (product s w)) swapped
    ∙ ap (λ x. bit_xor x (product y (product s q))) (product-sum_l y r w)))

pub factor : (cs : List ℕ) (r y : ℕ) → r < 256 → y < 256 → AreElements cs → value cs y ≡ bit_xor (product (bit_xor y r) (value (quotient r cs) y)) (value cs r)
unfolding value quotient
factor [] r y R Y C = sym (xor_zero_r _ ∙ product-zero (bit_xor y r))
factor (c ∷ []) r y R Y C =
    ap (bit_xor c) (product-zero y ∙ sym (product-zero r)) ∙ sym (ap (λ x. bit_xor x (bit_xor c (product r 0))) (product-zero (bit_xor y r)) ∙ xor_zero_l _)
factor (c ∷ d ∷ ds) r y R Y C =
    let rest = λ (i : ℕ). C (suc i) in
    ap (λ v. bit_xor c (product y v)) (factor (d ∷ ds) r y R Y rest)
    ∙ expand c y r (value (quotient r (d ∷ ds)) y) (value (d ∷ ds) r) Y R (value-lt (quotient r (d ∷ ds)) y (quotient_elements r (d ∷ ds) rest)) (value-lt (d ∷ ds) r rest)

abbrev pub IsZero : List ℕ → Type 0
IsZero cs = (i : ℕ) → slice_index cs i ≡ 0

zero_from_quotient : (cs : List ℕ) (r : ℕ) → value cs r ≡ 0 → IsZero (quotient r cs) → IsZero cs
unfolding value quotient
zero_from_quotient [] r root q i = refl
zero_from_quotient (c ∷ []) r root q zero = sym (xor_zero_r c) ∙ ap (bit_xor c) (sym (product-zero r)) ∙ root
zero_from_quotient (c ∷ []) r root q (suc i) = refl
zero_from_quotient (c ∷ d ∷ ds) r root q zero = sym (xor_zero_r c) ∙ ap (bit_xor c) (sym (ap (product r) (q 0) ∙ product-zero r)) ∙ root
zero_from_quotient (c ∷ d ∷ ds) r root q (suc i) = zero_from_quotient (d ∷ ds) r (q 0) (λ i. q (suc i)) i

pub zero_from_roots : (n : ℕ) (cs : List ℕ) (x : ℕ → ℕ) → length cs ≡ n → AreElements cs → ArePoints n x → ((i : ℕ) → i < n → value cs (x i) ≡ 0) → IsZero cs
zero_from_roots zero [] x e C P roots i = refl
zero_from_roots zero (c ∷ cs) x e C P roots i = absurd (omega arith)
zero_from_roots (suc n) [] x e C P roots i = refl
zero_from_roots (suc n) (c ∷ cs) x e C P roots i =
    let r = x n in
    let R = P.are_elements n (omega arith) in
    let root = roots n (omega arith) in
    let fewer : length (quotient r (c ∷ cs)) ≡ n = omega (arith, length-quotient r c cs) in
    let Q = quotient_elements r (c ∷ cs) C in
    let points : ArePoints n x = record { are_elements = λ i l. P.are_elements i (omega arith); differ = λ i j l m. P.differ i j l (omega arith) } in
    zero_from_quotient (c ∷ cs) r root
    (zero_from_roots n (quotient r (c ∷ cs)) x fewer Q points
    (λ j l.
    let X = P.are_elements j (omega arith) in
    factor_is_zero (bit_xor (x j) r) (value (quotient r (c ∷ cs)) (x j)) (xor_lt 8 (x j) r X R) (value-lt (quotient r (c ∷ cs)) (x j) Q)
    (sum_of_distinct (x j) r (P.differ j n l (omega arith)))
    (sym (xor_zero_r _) ∙ ap (bit_xor _) (sym root) ∙ sym (factor (c ∷ cs) r (x j) R X C) ∙ roots j (omega arith))))
    i

-- two polynomials of degree below k that agree at k points are equal
pub same_from_points : (k : ℕ) (p q : List ℕ) (x : ℕ → ℕ) → IsPolynomial k p → IsPolynomial k q → ArePoints k x → ((i : ℕ) → i < k → value p (x i) ≡ value q (x i)) → p ≡ q
same_from_points k p q x P Q X agree =
    let long : length (plus p q) ≡ k = length-plus p q (P.degree_below ∙ sym Q.degree_below) ∙ P.degree_below in
    let zero_sum = zero_from_roots k (plus p q) x long (plus_elements p q P.are_elements Q.are_elements) X
    (λ i l. value-plus p q (x i) ∙ ap (λ v. bit_xor v (value q (x i))) (agree i l) ∙ xor_self (value q (x i))) in
    same_number_lists p q (P.degree_below ∙ sym Q.degree_below) (λ i l. same_from_sum _ _ (sym (slice_index-plus p q i) ∙ zero_sum i))

-- a polynomial of degree below k that is not 0 has fewer than k zeros
pub fewer_roots : (k : ℕ) (p zeros : List ℕ) (place : ℕ) → IsPolynomial k p → slice_index p place ≢ 0 → ArePoints (length zeros) (slice_index zeros)
    → ((i : ℕ) → i < length zeros → value p (slice_index zeros i) ≡ 0) → length zeros < k
fewer_roots k p zeros place P nonzero X roots =
    elim (cases_lt (length zeros) k) [
      | inl fewer ↦ fewer
      | inr many ↦
          let points : ArePoints k (slice_index zeros) = record { are_elements = λ i l. X.are_elements i (omega arith); differ = λ i j l m. X.differ i j l (omega arith) } in
          absurd (nonzero (zero_from_roots k p (slice_index zeros) P.degree_below P.are_elements points (λ i l. roots i (omega arith)) place))
    ]
