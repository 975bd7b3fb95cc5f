-- The product is additive in each factor.
use Rattle.std.proofs.Common.{◌≡◌, ℕ, zero, suc, ◌+◌, ◌*◌, ◌/◌, ◌%◌, ◌<◌, refl, sym, ◌∙◌, ap, arith, bit_xor}
use Rattle.std.specs.Int.{bit_at}
use Rattle.std.specs.Int.Bits.{xor_assoc, xor_self, xor_zero_l, xor_zero_r}
use Rattle.std.proofs.lemmas.Nat.{xor_comm, xor_mod, xor_shr, xor_block}
use Rattle.std.proofs.lemmas.Nat.Bits.{bit_at_xor, bit_at-lt}
use Rattle.gz_field.specs.Field.{times_x, sum_of_shifts}

pub xor_swap : (a b c d : ℕ) → bit_xor (bit_xor a b) (bit_xor c d) ≡ bit_xor (bit_xor a c) (bit_xor b d)
xor_swap a b c d =
    xor_assoc a b (bit_xor c d)
    ∙ ap (bit_xor a) (sym (xor_assoc b c d) ∙ ap (λ x. bit_xor x d) (xor_comm b c) ∙ xor_assoc c b d)
    ∙ sym (xor_assoc a c (bit_xor b d))

pub xor_both : (a b c d : ℕ) → a ≡ b → c ≡ d → bit_xor a c ≡ bit_xor b d
xor_both a b c d p q = ap (λ x. bit_xor x c) p ∙ ap (bit_xor b) q

pub digit_times : (t b c : ℕ) → t < 2 → t * bit_xor b c ≡ bit_xor (t * b) (t * c)
digit_times zero b c l =
    let none : (x : ℕ) → 0 ≡ 0 * x = λ x. omega arith in
    sym (none _) ∙ xor_both 0 (0 * b) 0 (0 * c) (none b) (none c)
digit_times (suc zero) b c l =
    let one : (x : ℕ) → x ≡ 1 * x = λ x. omega arith in
    sym (one _) ∙ xor_both b (1 * b) c (1 * c) (one b) (one c)
digit_times (suc (suc n)) b c l = absurd (omega arith)

-- the sum of two digits without a carry, times c
pub times_digits : (c s t : ℕ) → s < 2 → t < 2 → c * ((s + t) % 2) ≡ bit_xor (c * s) (c * t)
times_digits c zero zero S T =
    let none : c * 0 ≡ 0 = omega arith in
    none ∙ xor_both 0 (c * 0) 0 (c * 0) (sym none) (sym none)
times_digits c zero (suc zero) S T =
    let none : c * 0 ≡ 0 = omega arith in
    sym (ap (λ x. bit_xor x (c * 1)) none ∙ xor_zero_l (c * 1))
times_digits c (suc zero) zero S T =
    let none : c * 0 ≡ 0 = omega arith in
    sym (ap (bit_xor (c * 1)) none ∙ xor_zero_r (c * 1))
times_digits c (suc zero) (suc zero) S T =
    let none : c * 0 ≡ 0 = omega arith in
    none ∙ sym (xor_self (c * 1))
times_digits c (suc (suc s)) t S T = absurd (omega arith)
times_digits c s (suc (suc t)) S T = absurd (omega arith)

pub xor_twice : (a b : ℕ) → bit_xor a b * 2 ≡ bit_xor (a * 2) (b * 2)
xor_twice a b =
    let whole : (x : ℕ) → x * 2 + 0 ≡ x * 2 = λ x. omega arith in
    sym (whole _) ∙ sym (xor_block 1 a b 0 0 (omega arith) (omega arith)) ∙ xor_both _ _ _ _ (whole a) (whole b)

pub times_x-sum : (a b : ℕ) → times_x (bit_xor a b) ≡ bit_xor (times_x a) (times_x b)
times_x-sum a b =
    xor_both _ _ _ _
    (ap (λ x. x % 256) (xor_twice a b) ∙ xor_mod (a * 2) (b * 2) 8)
    (ap (λ x. 0x1d * x) (bit_at_xor a b 7) ∙ times_digits 0x1d (bit_at a 7) (bit_at b 7) (bit_at-lt a 7) (bit_at-lt b 7))
    ∙ xor_swap (a * 2 % 256) (b * 2 % 256) (0x1d * bit_at a 7) (0x1d * bit_at b 7)

-- additive in the second factor
pub sum_of_shifts-sum : (n a b c : ℕ) → sum_of_shifts n a (bit_xor b c) ≡ bit_xor (sum_of_shifts n a b) (sum_of_shifts n a c)
unfolding sum_of_shifts
sum_of_shifts-sum zero a b c = refl
sum_of_shifts-sum (suc n) a b c =
    xor_both _ _ _ _
    (digit_times (a % 2) b c (omega arith))
    (ap (sum_of_shifts n (a / 2)) (times_x-sum b c) ∙ sum_of_shifts-sum n (a / 2) (times_x b) (times_x c))
    ∙ xor_swap (a % 2 * b) (a % 2 * c) _ _

-- two digits, added and then times c
pub digits_times : (s t c : ℕ) → s < 2 → t < 2 → bit_xor s t * c ≡ bit_xor (s * c) (t * c)
digits_times zero zero c S T =
    let none : 0 * c ≡ 0 = omega arith in
    none ∙ xor_both 0 (0 * c) 0 (0 * c) (sym none) (sym none)
digits_times zero (suc zero) c S T =
    let none : 0 * c ≡ 0 = omega arith in
    sym (ap (λ x. bit_xor x (1 * c)) none ∙ xor_zero_l (1 * c))
digits_times (suc zero) zero c S T =
    let none : 0 * c ≡ 0 = omega arith in
    sym (ap (bit_xor (1 * c)) none ∙ xor_zero_r (1 * c))
digits_times (suc zero) (suc zero) c S T =
    let none : 0 * c ≡ 0 = omega arith in
    none ∙ sym (xor_self (1 * c))
digits_times (suc (suc s)) t c S T = absurd (omega arith)
digits_times s (suc (suc t)) c S T = absurd (omega arith)

-- additive in the first factor
pub sum_of_shifts-sum_l : (n a b c : ℕ) → sum_of_shifts n (bit_xor a b) c ≡ bit_xor (sum_of_shifts n a c) (sum_of_shifts n b c)
unfolding sum_of_shifts
sum_of_shifts-sum_l zero a b c = refl
sum_of_shifts-sum_l (suc n) a b c =
    xor_both _ _ _ _
    (ap (λ x. x * c) (xor_mod a b 1) ∙ digits_times (a % 2) (b % 2) c (omega arith) (omega arith))
    (ap (λ x. sum_of_shifts n x (times_x c)) (xor_shr a b 1) ∙ sum_of_shifts-sum_l n (a / 2) (b / 2) (times_x c))
    ∙ xor_swap (a % 2 * c) (b % 2 * c) _ _
