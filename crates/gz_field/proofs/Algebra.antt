-- The laws of the product, each from a test at the powers of two, where it is additive in each factor.
use Rattle.std.proofs.Common.{◌≡◌, ℕ, zero, suc, ◌*◌, ◌/◌, ◌%◌, ◌^◌, ◌<◌, refl, sym, ◌∙◌, ap, arith, bit_xor, T, eqb, Bool}
use Rattle.std.specs.Int.{bit_at}
use Rattle.std.proofs.lemmas.Nat.{xor_lt, xor_comm, shr_split}
use Rattle.std.proofs.lemmas.Nat.Bits.{bit_at-lt}
use lib.Bits.{xor_shifted}
use lib.Dec.{eqb→eq}
use Rattle.gz_field.specs.Field.{times_x, sum_of_shifts, product}
use Rattle.gz_field.proofs.Additive.{sum_of_shifts-sum, sum_of_shifts-sum_l}
use Rattle.gz_field.proofs.Basis.{IsAdditive, additive_zero, same_on_basis, same_on_basis_2}
use Rattle.gz_field.proofs.Computed.{holds_below, each_below, equal_below}

pub product-sum : (a b c : ℕ) → product a (bit_xor b c) ≡ bit_xor (product a b) (product a c)
product-sum a b c = sum_of_shifts-sum 8 a b c

pub product-sum_l : (a b c : ℕ) → product (bit_xor a b) c ≡ bit_xor (product a c) (product b c)
product-sum_l a b c = sum_of_shifts-sum_l 8 a b c

pub by_right : (a : ℕ) → IsAdditive (product a)
by_right a = record { adds = product-sum a }

pub by_left : (b : ℕ) → IsAdditive (λ a. product a b)
by_left b = record { adds = λ x y. product-sum_l x y b }

pub product-zero : (a : ℕ) → product a 0 ≡ 0
product-zero a = additive_zero (product a) (by_right a)

pub product-zero_l : (b : ℕ) → product 0 b ≡ 0
product-zero_l b = additive_zero (λ a. product a b) (by_left b)

pub times_x-lt : (a : ℕ) → times_x a < 256
times_x-lt a = xor_lt 8 (a * 2 % 256) (0x1d * bit_at a 7) (omega arith) (omega (arith, bit_at-lt a 7))

sum_of_shifts-lt : (n a b : ℕ) → b < 256 → sum_of_shifts n a b < 256
unfolding sum_of_shifts
sum_of_shifts-lt zero a b l = omega arith
sum_of_shifts-lt (suc n) a b l =
    xor_lt 8 (a % 2 * b) (sum_of_shifts n (a / 2) (times_x b)) (digit_times_lt (a % 2) (omega arith)) (sum_of_shifts-lt n (a / 2) (times_x b) (times_x-lt b))
  where
    digit_times_lt : (t : ℕ) → t < 2 → t * b < 256
    digit_times_lt zero T = omega arith
    digit_times_lt (suc zero) T = omega arith
    digit_times_lt (suc (suc t)) T = absurd (omega arith)

pub product-lt : (a b : ℕ) → b < 256 → product a b < 256
product-lt a b l = sum_of_shifts-lt 8 a b l

-- a test at the pairs of powers of two
equal_at_pairs : (f g : ℕ → ℕ → ℕ) → T (holds_below (λ i. holds_below (λ j. eqb (f (2 ^ i) (2 ^ j)) (g (2 ^ i) (2 ^ j))) 8) 8)
    → (i j : ℕ) → i < 8 → j < 8 → f (2 ^ i) (2 ^ j) ≡ g (2 ^ i) (2 ^ j)
equal_at_pairs f g t i j low high =
    equal_below (λ j. f (2 ^ i) (2 ^ j)) (λ j. g (2 ^ i) (2 ^ j)) 8 (each_below (λ i. holds_below (λ j. eqb (f (2 ^ i) (2 ^ j)) (g (2 ^ i) (2 ^ j))) 8) 8 t i low) j high

pub product-comm : (a b : ℕ) → a < 256 → b < 256 → product a b ≡ product b a
unfolding sum_of_shifts
product-comm a b A B =
    same_on_basis_2 product (λ a b. product b a) by_right by_left by_left by_right 8 (equal_at_pairs product (λ a b. product b a) tt) a b A B

pub product-one : (a : ℕ) → a < 256 → product 1 a ≡ a
unfolding sum_of_shifts
product-one a A =
    let whole : IsAdditive (λ x. x) = record { adds = λ x y. refl } in
    same_on_basis (product 1) (λ x. x) (by_right 1) whole 8 (equal_below (λ i. product 1 (2 ^ i)) (λ i. 2 ^ i) 8 tt) a A

abbrev to_the_left : ℕ → ℕ → ℕ → ℕ
to_the_left a b c = product (product a b) c

abbrev to_the_right : ℕ → ℕ → ℕ → ℕ
to_the_right a b c = product a (product b c)

-- the products of three powers of two
associative_at : ℕ → ℕ → ℕ → Bool
associative_at i j k = eqb (to_the_left (2 ^ i) (2 ^ j) (2 ^ k)) (to_the_right (2 ^ i) (2 ^ j) (2 ^ k))

equal_at_triples : T (holds_below (λ i. holds_below (λ j. holds_below (associative_at i j) 8) 8) 8)
unfolding sum_of_shifts associative_at
equal_at_triples = tt

equal_at_triple : (i j k : ℕ) → i < 8 → j < 8 → k < 8 → to_the_left (2 ^ i) (2 ^ j) (2 ^ k) ≡ to_the_right (2 ^ i) (2 ^ j) (2 ^ k)
unfolding associative_at
equal_at_triple i j k low middle high =
    let pairs = each_below (λ i. holds_below (λ j. holds_below (associative_at i j) 8) 8) 8 equal_at_triples i low in
    let singles = each_below (λ j. holds_below (associative_at i j) 8) 8 pairs j middle in
    eqb→eq _ _ (each_below (associative_at i j) 8 singles k high)

pub product-assoc : (a b c : ℕ) → a < 256 → b < 256 → c < 256 → product (product a b) c ≡ product a (product b c)
product-assoc a b c A B C =
    same_on_basis_2 (λ a b. to_the_left a b c) (λ a b. to_the_right a b c)
    (λ a. record { adds = λ x y. ap (λ z. product z c) (product-sum a x y) ∙ product-sum_l _ _ c })
    (λ b. record { adds = λ x y. ap (λ z. product z c) (product-sum_l x y b) ∙ product-sum_l _ _ c })
    (λ a. record { adds = λ x y. ap (product a) (product-sum_l x y c) ∙ product-sum a _ _ })
    (λ b. by_left (product b c))
    8
    (λ i j low middle. same_on_basis (to_the_left (2 ^ i) (2 ^ j)) (to_the_right (2 ^ i) (2 ^ j))
    (by_right (product (2 ^ i) (2 ^ j)))
    (record { adds = λ x y. ap (product (2 ^ i)) (product-sum (2 ^ j) x y) ∙ product-sum (2 ^ i) _ _ })
    8 (λ k high. equal_at_triple i j k low middle high) c C)
    a b A B

-- a product is the sum of those with the lower and with the upper half of a factor
pub product_by_halves : (a b : ℕ) → product a b ≡ bit_xor (product a (b % 16)) (product a (b / 16 * 16))
product_by_halves a b =
    let parts : b ≡ bit_xor (b % 16) (b / 16 * 16) = sym (shr_split b 4) ∙ sym (xor_shifted (b / 16) 4 (b % 16) (omega arith)) ∙ xor_comm (b / 16 * 16) (b % 16) in
    ap (product a) parts ∙ product-sum a (b % 16) (b / 16 * 16)
