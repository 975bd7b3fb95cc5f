-- The product of two bytes is the remainder of their product as polynomials.
use Rattle.std.proofs.Common.{◌≡◌, ℕ, zero, suc, ◌+◌, ◌*◌, ◌/◌, ◌%◌, ◌<◌, refl, sym, ◌∙◌, ap, arith, bit_xor}
use Rattle.std.specs.Int.{bit_at}
use Rattle.std.specs.Int.Bits.{xor_assoc, xor_zero_r}
use Rattle.std.proofs.Math.Nat.{mul_assoc}
use Rattle.std.proofs.lemmas.Nat.{xor_comm}
use lib.Bits.{xor_shifted}
use Rattle.gz_field.specs.Field.{times_x, sum_of_shifts, product, carryless, IsRemainder}
use Rattle.gz_field.proofs.Additive.{xor_both, xor_swap, xor_twice, digit_times}
use Rattle.gz_field.proofs.Algebra.{product-lt, times_x-lt}

-- the product is additive in its second factor, with no modulus too
pub carryless-sum : (n a b c : ℕ) → carryless n a (bit_xor b c) ≡ bit_xor (carryless n a b) (carryless n a c)
unfolding carryless
carryless-sum zero a b c = refl
carryless-sum (suc n) a b c =
    xor_both _ _ _ _
    (digit_times (a % 2) b c (omega arith))
    (ap (carryless n (a / 2)) (xor_twice b c) ∙ carryless-sum n (a / 2) (b * 2) (c * 2))
    ∙ xor_swap (a % 2 * b) (a % 2 * c) _ _

-- p and r differ by a multiple of the modulus
record IsCongruent (p r : ℕ) : Type 0 where
  pub quotient : ℕ
  pub divides : p ≡ bit_xor r (carryless 9 0x11d quotient)

congruent-sum : (p q r s : ℕ) → IsCongruent p r → IsCongruent q s → IsCongruent (bit_xor p q) (bit_xor r s)
congruent-sum p q r s f g = record {
  quotient = bit_xor f.quotient g.quotient;
  divides =
      xor_both _ _ _ _ f.divides g.divides
      ∙ xor_swap r _ s _
      ∙ ap (bit_xor (bit_xor r s)) (sym (carryless-sum 9 0x11d f.quotient g.quotient));
}

carryless-twice : (n a b : ℕ) → carryless n a b * 2 ≡ carryless n a (b * 2)
unfolding carryless
carryless-twice zero a b = refl
carryless-twice (suc n) a b =
    let digit = mul_assoc (a % 2) b 2 in
    xor_twice (a % 2 * b) _ ∙ xor_both _ _ _ _ digit (carryless-twice n (a / 2) (b * 2))

-- a number of 9 bits, by its highest bit
by_highest : (x t : ℕ) → t < 2 → x < 256 → t * 256 + x ≡ bit_xor (bit_xor x (0x1d * t)) (carryless 9 0x11d t)
unfolding carryless
by_highest x zero T l =
    let low : 0 * 256 + x ≡ x = omega arith in
    low ∙ sym (xor_zero_r _ ∙ xor_zero_r x)
by_highest x (suc zero) T l =
    sym (xor_assoc x 0x1d 0x11d ∙ xor_comm x 256 ∙ xor_shifted 1 8 x l)
by_highest x (suc (suc t)) T l = absurd (omega arith)

-- twice a byte, and that reduced
twice_congruent : (r : ℕ) → r < 256 → IsCongruent (r * 2) (times_x r)
twice_congruent r l =
    let parts : r * 2 ≡ bit_at r 7 * 256 + r * 2 % 256 = omega arith in
    record { quotient = bit_at r 7; divides = parts ∙ by_highest (r * 2 % 256) (bit_at r 7) (omega arith) (omega arith) }

congruent-twice : (p r : ℕ) → r < 256 → IsCongruent p r → IsCongruent (p * 2) (times_x r)
congruent-twice p r l f =
    let reduced = twice_congruent r l in
    let doubled : p * 2 ≡ bit_xor (r * 2) (carryless 9 0x11d (f.quotient * 2)) =
    ap (λ x. x * 2) f.divides ∙ xor_twice r _ ∙ ap (bit_xor (r * 2)) (carryless-twice 9 0x11d f.quotient) in
    record {
      quotient = bit_xor reduced.quotient (f.quotient * 2);
      divides =
          doubled
          ∙ ap (λ x. bit_xor x (carryless 9 0x11d (f.quotient * 2))) reduced.divides
          ∙ xor_assoc (times_x r) _ _
          ∙ ap (bit_xor (times_x r)) (sym (carryless-sum 9 0x11d reduced.quotient (f.quotient * 2)));
    }

congruent-digit : (t b r : ℕ) → t < 2 → IsCongruent b r → IsCongruent (t * b) (t * r)
unfolding carryless
congruent-digit zero b r T f =
    let none : (x : ℕ) → 0 * x ≡ 0 = λ x. omega arith in
    record { quotient = 0; divides = none b ∙ sym (xor_zero_r _ ∙ none r) }
congruent-digit (suc zero) b r T f =
    let one : (x : ℕ) → 1 * x ≡ x = λ x. omega arith in
    record { quotient = f.quotient; divides = one b ∙ f.divides ∙ ap (λ x. bit_xor x (carryless 9 0x11d f.quotient)) (sym (one r)) }
congruent-digit (suc (suc t)) b r T f = absurd (omega arith)

congruent-product : (n a b r : ℕ) → r < 256 → IsCongruent b r → IsCongruent (carryless n a b) (sum_of_shifts n a r)
unfolding carryless sum_of_shifts
congruent-product zero a b r l f = record { quotient = 0; divides = refl }
congruent-product (suc n) a b r l f =
    congruent-sum _ _ _ _ (congruent-digit (a % 2) b r (omega arith) f) (congruent-product n (a / 2) (b * 2) (times_x r) (times_x-lt r) (congruent-twice b r l f))

pub product_is_remainder : (a b : ℕ) → a < 256 → b < 256 → IsRemainder (carryless 8 a b) (product a b)
unfolding carryless
product_is_remainder a b A B =
    let found = congruent-product 8 a b b B (record { quotient = 0; divides = sym (xor_zero_r b) }) in
    record { is_byte = product-lt a b B; quotient = found.quotient; divides = found.divides }
