-- The powers of two run through all elements but 0.
use Rattle.std.proofs.Common.{◌≡◌, ℕ, zero, suc, ◌+◌, ◌-◌, ◌^◌, ◌<◌, ◌⊎◌, inl, inr, ⊎_elim, refl, sym, ◌∙◌, subst, arith, T, Bool, true, false, ◌||◌, eqb}
use lib.Dec.{eqb→eq}
use Rattle.gz_field.specs.Field.{times_x, sum_of_shifts, product, power_of_two}
use Rattle.gz_field.proofs.Additive.{times_x-sum}
use Rattle.gz_field.proofs.Algebra.{by_right, times_x-lt}
use Rattle.gz_field.proofs.Basis.{same_on_basis}
use Rattle.gz_field.proofs.Computed.{holds_below, each_below, equal_below}

pub product-two : (a : ℕ) → a < 256 → product 2 a ≡ times_x a
unfolding sum_of_shifts
product-two a l =
    same_on_basis (product 2) times_x (by_right 2) (record { adds = times_x-sum }) 8 (equal_below (λ i. product 2 (2 ^ i)) (λ i. times_x (2 ^ i)) 8 tt) a l

-- whether a is among x and the n - 1 next elements, each twice the one before
is_reached : ℕ → ℕ → ℕ → Bool
is_reached zero x a = false
is_reached (suc n) x a = eqb x a || is_reached n (times_x x) a

all_are_reached : T (holds_below (λ i. is_reached 255 1 (suc i)) 255)
unfolding is_reached
all_are_reached = tt

either : (a b : Bool) → T (a || b) → T a ⊎ T b
either true b t = inl tt
either false b t = inr t

power-lt : (n : ℕ) → power_of_two n < 256
unfolding power_of_two
power-lt zero = omega arith
power-lt (suc n) = subst (λ x. x < 256) (sym (product-two (power_of_two n) (power-lt n))) (times_x-lt (power_of_two n))

reached_at : (n i a : ℕ) → T (is_reached n (power_of_two i) a) → (k : ℕ) × (k < i + n) × (power_of_two k ≡ a)
unfolding is_reached power_of_two
reached_at zero i a t = absurd t
reached_at (suc n) i a t =
    ⊎_elim
    (λ here. (i, omega arith, eqb→eq (power_of_two i) a here))
    (λ later.
    let next = sym (product-two (power_of_two i) (power-lt i)) in
    let found = reached_at n (suc i) a (subst (λ x. T (is_reached n x a)) next later) in
    (found.0, omega (arith, found.1), found.2))
    (either (eqb (power_of_two i) a) _ t)

pub power_reaches : (a : ℕ) → 0 < a → a < 256 → (k : ℕ) × (k < 255) × (power_of_two k ≡ a)
unfolding power_of_two
power_reaches a low A =
    let from : suc (a - 1) ≡ a = omega arith in
    let all = each_below (λ i. is_reached 255 1 (suc i)) 255 all_are_reached (a - 1) (omega arith) in
    let found = reached_at 255 0 (suc (a - 1)) all in
    (found.0, found.1, found.2 ∙ from)

pub power-255 : power_of_two 255 ≡ 1
unfolding power_of_two sum_of_shifts
power-255 = refl
