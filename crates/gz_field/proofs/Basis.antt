-- Additive functions are equal on all bytes where they are equal at the powers of two.
use Rattle.std.proofs.Common.{◌≡◌, ℕ, zero, suc, ◌+◌, ◌*◌, ◌/◌, ◌%◌, ◌^◌, ◌<◌, sym, ◌∙◌, subst, arith, bit_xor}
use Rattle.std.specs.Int.Bits.{xor_self}
use lib.Bits.{xor_shifted}
use Rattle.std.proofs.lemmas.Nat.{pow_pos, shr_split, shr_below, mod_below}
use Rattle.gz_field.proofs.Additive.{xor_both}

-- f takes sums to sums
pub record IsAdditive (f : ℕ → ℕ) : Type 0 where
  pub adds : (a b : ℕ) → f (bit_xor a b) ≡ bit_xor (f a) (f b)

pub additive_zero : (f : ℕ → ℕ) → IsAdditive f → f 0 ≡ 0
additive_zero f h = h.adds 0 0 ∙ xor_self (f 0)

-- a number below 2 ^ (n + 1) is a digit times 2 ^ n, and a number below 2 ^ n
at_digit : (f g : ℕ → ℕ) → IsAdditive f → IsAdditive g → (d p : ℕ) → d < 2 → f p ≡ g p → f (d * p) ≡ g (d * p)
at_digit f g F G zero p l e =
    let z : 0 * p ≡ 0 = omega arith in
    let P : ℕ → Type 0 = λ x. f x ≡ g x in
    subst P (sym z) (additive_zero f F ∙ sym (additive_zero g G))
at_digit f g F G (suc zero) p l e =
    let z : p ≡ 1 * p = omega arith in
    let P : ℕ → Type 0 = λ x. f x ≡ g x in
    subst P z e
at_digit f g F G (suc (suc d)) p l e = absurd (omega arith)

pub same_on_basis : (f g : ℕ → ℕ) → IsAdditive f → IsAdditive g → (n : ℕ) → ((i : ℕ) → i < n → f (2 ^ i) ≡ g (2 ^ i)) → (x : ℕ) → x < 2 ^ n → f x ≡ g x
same_on_basis f g F G zero e x l =
    let z : x ≡ 0 = omega arith in
    let P : ℕ → Type 0 = λ x. f x ≡ g x in
    subst P (sym z) (additive_zero f F ∙ sym (additive_zero g G))
same_on_basis f g F G (suc n) e x l =
    let p = pow_pos n in
    let low = mod_below x (2 ^ n) p in
    let Q : ℕ → Type 0 = λ i. x < 2 ^ i in
    let one_more : suc n ≡ 1 + n = omega arith in
    let digit : x / 2 ^ n < 2 ^ 1 = shr_below x 1 n (subst Q one_more l) in
    let split : bit_xor (x / 2 ^ n * 2 ^ n) (x % 2 ^ n) ≡ x = xor_shifted (x / 2 ^ n) n (x % 2 ^ n) low ∙ shr_split x n in
    let P : ℕ → Type 0 = λ x. f x ≡ g x in
    let high : f (x / 2 ^ n * 2 ^ n) ≡ g (x / 2 ^ n * 2 ^ n) = at_digit f g F G (x / 2 ^ n) (2 ^ n) digit (e n (omega arith)) in
    let rest : f (x % 2 ^ n) ≡ g (x % 2 ^ n) = same_on_basis f g F G n (λ i l. e i (omega arith)) (x % 2 ^ n) low in
    subst P split (F.adds _ _ ∙ xor_both _ _ _ _ high rest ∙ sym (G.adds _ _))

-- the same of two arguments
pub same_on_basis_2 : (f g : ℕ → ℕ → ℕ)
    → ((a : ℕ) → IsAdditive (f a)) → ((b : ℕ) → IsAdditive (λ a. f a b)) → ((a : ℕ) → IsAdditive (g a)) → ((b : ℕ) → IsAdditive (λ a. g a b))
    → (n : ℕ) → ((i j : ℕ) → i < n → j < n → f (2 ^ i) (2 ^ j) ≡ g (2 ^ i) (2 ^ j)) → (a b : ℕ) → a < 2 ^ n → b < 2 ^ n → f a b ≡ g a b
same_on_basis_2 f g F1 F2 G1 G2 n e a b A B =
    same_on_basis (λ a. f a b) (λ a. g a b) (F2 b) (G2 b) n
    (λ i l. same_on_basis (f (2 ^ i)) (g (2 ^ i)) (F1 (2 ^ i)) (G1 (2 ^ i)) n (λ j m. e i j l m) b B) a A
