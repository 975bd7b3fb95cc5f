-- Inverses, and what they give.
use Rattle.std.proofs.Common.{◌≡◌, ◌≢◌, ℕ, ◌<◌, sym, ◌∙◌, ap, arith, get_or, bit_xor, T, ltb}
use Rattle.std.specs.Int.Bits.{xor_assoc, xor_self, xor_zero_l, xor_zero_r}
use Rattle.gz_field.specs.Field.{product}
use Rattle.gz_field.specs.declared.tables.TheConstants.{INVERSES}
use Rattle.gz_field.proofs.Algebra.{product-zero, product-one, product-assoc, product-comm}
use lib.Dec.{ltb→lt}
use Rattle.gz_field.proofs.Computed.{holds_below, each_below}
use Rattle.gz_field.proofs.Entries.{inverse_at}

-- the inverse of an element that is not 0
pub inverse : ℕ → ℕ
inverse a = get_or INVERSES a 0

pub product-inverse : (a : ℕ) → a < 256 → a ≢ 0 → product a (inverse a) ≡ 1
unfolding inverse
product-inverse a A nonzero = inverse_at a (omega arith) A

inverse_is_byte : T (holds_below (λ i. ltb (inverse i) 256) 256)
unfolding inverse
inverse_is_byte = tt

pub inverse-lt : (a : ℕ) → a < 256 → inverse a < 256
inverse-lt a A = ltb→lt (inverse a) 256 (each_below (λ i. ltb (inverse i) 256) 256 inverse_is_byte a A)

-- a product is 0 only where a factor is
pub factor_is_zero : (a b : ℕ) → a < 256 → b < 256 → a ≢ 0 → product a b ≡ 0 → b ≡ 0
factor_is_zero a b A B nonzero e =
    let I = inverse-lt a A in
    sym (product-one b B)
    ∙ ap (λ x. product x b) (sym (product-inverse a A nonzero) ∙ product-comm a (inverse a) A I)
    ∙ product-assoc (inverse a) a b I A B
    ∙ ap (product (inverse a)) e
    ∙ product-zero (inverse a)

-- an inverse is the one element whose product is 1
pub inverse_unique : (a b : ℕ) → a < 256 → b < 256 → a ≢ 0 → product a b ≡ 1 → b ≡ inverse a
inverse_unique a b A B nonzero e =
    let I = inverse-lt a A in
    sym (product-one b B)
    ∙ ap (λ x. product x b) (sym (product-inverse a A nonzero) ∙ product-comm a (inverse a) A I)
    ∙ product-assoc (inverse a) a b I A B
    ∙ ap (product (inverse a)) e
    ∙ product-comm (inverse a) 1 I (omega arith)
    ∙ product-one (inverse a) I

-- equal elements are those whose sum is 0
pub same_from_sum : (a b : ℕ) → bit_xor a b ≡ 0 → a ≡ b
same_from_sum a b e = sym (xor_zero_r a) ∙ ap (bit_xor a) (sym (xor_self b)) ∙ sym (xor_assoc a b b) ∙ ap (λ x. bit_xor x b) e ∙ xor_zero_l b

pub sum_of_distinct : (a b : ℕ) → a ≢ b → bit_xor a b ≢ 0
sum_of_distinct a b apart e = apart (same_from_sum a b e)
