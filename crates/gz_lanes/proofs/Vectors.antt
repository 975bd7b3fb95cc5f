-- What the operations on vectors of 16 bytes hold at each lane.
use Rattle.std.proofs.Common.{zero, suc, bit_xor, slice_index, ◌≡◌, ℕ, ◌+◌, ◌*◌, ◌/◌, ◌<◌, List, length, get_or, replicate, refl, sym, ◌∙◌, ap, arith, w8, Fits}
use Rattle.std.specs.Simd.Lanes.{zip2, Each1}
use Rattle.std.proofs.lemmas.Simd.{length-zip2, get_or-zip2, get_or-replicate, length-swz_l, get_or-swz_l_below, swz_l, SwzOk, SwzOk-from_below, Each1-get_or, Each1-from_get_or}
use Rattle.gz_field.specs.Field.{product}
use Rattle.gz_field.proofs.Additive.{xor_both}
use Rattle.gz_lanes.specs.Lanes.{HasLanes}
use Rattle.gz_lanes.specs.Quads.{lifted}

-- an operator on two vectors
pub zipped : (f : ℕ → ℕ → ℕ) (a b : List ℕ) → length a ≡ 16 → length b ≡ 16 → HasLanes (zip2 f a b) (λ k. f (get_or a k 0) (get_or b k 0))
zipped f a b p q = record {
  long = length-zip2 f a b (p ∙ sym q) ∙ p;
  each = λ k l. get_or-zip2 f a b k 0 0 0 (omega arith) (omega arith);
}

-- an operator on a vector and one number
pub splatted : (f : ℕ → ℕ → ℕ) (a : List ℕ) (x : ℕ) → length a ≡ 16 → HasLanes (zip2 f a (replicate 16 x)) (λ k. f (get_or a k 0) x)
splatted f a x p =
    let h = zipped f a (replicate 16 x) p refl in
    record { long = h.long; each = λ k l. h.each k l ∙ ap (f (get_or a k 0)) (get_or-replicate 16 k x 0 l) }

pub upper_half-lt : (v : List ℕ) → length v ≡ 16 → Each1 (Fits w8) v → (k : ℕ) → k < 16 → get_or v k 0 / 16 < 16
upper_half-lt v long fits k l = omega (arith, (Each1-get_or (Fits w8) v k 0 (omega arith) fits).fits)

module _ (places : List ℕ) (long : length places ≡ 16) (small : (k : ℕ) → k < 16 → get_or places k 0 < 16) where
  pub may_look_up : SwzOk w8 16 16 0 places
  may_look_up = SwzOk-from_below w8 16 1 16 0 places refl (omega arith) (Each1-from_get_or (λ j. j < 16) places 0 (λ i l. small i (omega arith)))

  pub looked_up : (table : List ℕ) → HasLanes (swz_l w8 16 table 0 places) (λ k. get_or table (get_or places k 0) 0)
  looked_up table = record {
    long = length-swz_l w8 16 table 0 places ∙ long;
    each = λ k l.
        let block : 16 * ((0 + k) / 16) + get_or places k 0 ≡ get_or places k 0 = omega arith in
        get_or-swz_l_below w8 16 table 0 places k (omega arith) (small k l) ∙ ap (λ j. get_or table j 0) block;
  }

-- a sum of vectors, and a first of a pair lifted, by what the vectors hold
pub summed : (a b r : List ℕ) (f g : ℕ → ℕ) → HasLanes a f → HasLanes b g → HasLanes r (λ k. bit_xor (slice_index a k) (slice_index b k)) → HasLanes r (λ k. bit_xor (f k) (g k))
summed a b r f g A B R = record { long = R.long; each = λ k l. R.each k l ∙ xor_both _ _ _ _ (A.each k l) (B.each k l) }

pub lifted_lanes : (x : ℕ) (a b r : List ℕ) (f g : ℕ → ℕ) → HasLanes a f → HasLanes b g → HasLanes r (λ k. lifted x (slice_index a k) (slice_index b k)) → HasLanes r (λ k. lifted x (f k) (g k))
lifted_lanes x a b r f g A B R = record {
  long = R.long;
  each = λ k l. R.each k l ∙ xor_both _ _ _ _ (A.each k l) (ap (product x) (xor_both _ _ _ _ (A.each k l) (B.each k l)));
}

-- one more term at each lane
pub added : (old more new : List ℕ) (f g h : ℕ → ℕ) → HasLanes old f → HasLanes more g → HasLanes new (λ k. bit_xor (slice_index old k) (slice_index more k)) → ((k : ℕ) → k < 16 → bit_xor (f k) (g k) ≡ h k)
    → HasLanes new h
added old more new f g h O M N sums = record { long = N.long; each = λ k l. N.each k l ∙ xor_both _ _ _ _ (O.each k l) (M.each k l) ∙ sums k l }

-- what holds of each number below four
pub each_of_four : (P : ℕ → Type 0) → P 0 → P 1 → P 2 → P 3 → (r : ℕ) → r < 4 → P r
each_of_four P a b c d zero l = a
each_of_four P a b c d (suc zero) l = b
each_of_four P a b c d (suc (suc zero)) l = c
each_of_four P a b c d (suc (suc (suc zero))) l = d
each_of_four P a b c d (suc (suc (suc (suc r)))) l = absurd (omega arith)
