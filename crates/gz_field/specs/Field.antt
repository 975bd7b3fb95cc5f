-- The field with 256 elements: the polynomials over GF(2) of degree below 8, modulo x^8 + x^4 + x^3 + x^2 + 1 (0x11d).
-- The bits of a byte are the coefficients of its polynomial, the lowest bit that of 1.
use Rattle.std.specs.Prelude.{◌≡◌, ℕ, zero, suc, ◌*◌, ◌/◌, ◌%◌, ◌<◌, bit_xor}
use Rattle.std.specs.Int.{bit_at}

-- times x: a shift, and where x^8 appears, the other terms of the modulus, which are equal to it
abbrev pub times_x : ℕ → ℕ
times_x a = bit_xor (a * 2 % 256) (0x1d * bit_at a 7)

-- the sum of b * x^i, modulo the polynomial, over the i below n where a has the term x^i
unfoldable pub sum_of_shifts : ℕ → ℕ → ℕ → ℕ
sum_of_shifts zero a b = 0
sum_of_shifts (suc n) a b = bit_xor (a % 2 * b) (sum_of_shifts n (a / 2) (times_x b))

-- the product in the field
abbrev pub product : ℕ → ℕ → ℕ
product a b = sum_of_shifts 8 a b

-- the powers of x, that is of 2
unfoldable pub power_of_two : ℕ → ℕ
power_of_two zero = 1
power_of_two (suc n) = product 2 (power_of_two n)

-- the product of two polynomials over GF(2) with no modulus: the sum of b * x^i over the i below n where a has the term x^i
unfoldable pub carryless : ℕ → ℕ → ℕ → ℕ
carryless zero a b = 0
carryless (suc n) a b = bit_xor (a % 2 * b) (carryless n (a / 2) (b * 2))

-- a polynomial of degree below 8 that differs from p by a multiple of the modulus, which has 9 terms
pub record IsRemainder (p remainder : ℕ) : Type 0 where
  pub is_byte : remainder < 256
  pub quotient : ℕ
  pub divides : p ≡ bit_xor remainder (carryless 9 0x11d quotient)
