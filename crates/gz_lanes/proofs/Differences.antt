-- A combination by the differences of the sources from the first one.
use Rattle.std.proofs.Common.{◌≡◌, ℕ, ◌+◌, List, length, slice_index, bit_xor, sym, ◌∙◌, ap, add-one}
use Rattle.std.specs.Int.Bits.{xor_assoc, xor_self, xor_zero_l, xor_zero_r}
use Rattle.std.proofs.lemmas.Nat.{xor_comm}
use Rattle.gz_field.specs.Field.{product}
use Rattle.gz_field.proofs.Additive.{xor_swap, xor_both}
use Rattle.gz_field.proofs.Algebra.{product-sum, product-sum_l, product-zero_l}
use Rattle.gz_lanes.specs.Combination.{combination, column, sum_below, combined_below, IsSum}
use Rattle.gz_lanes.specs.Lanes.{HasLanes}

-- a + (b + a)
add_and_remove : (a b : ℕ) → bit_xor a (bit_xor b a) ≡ b
add_and_remove a b = ap (bit_xor a) (xor_comm b a) ∙ sym (xor_assoc a a b) ∙ ap (λ x. bit_xor x b) (xor_self a) ∙ xor_zero_l b

-- all sources are as if they were the first
pub combined_below_one : (coefficients : List ℕ) (v : ℕ → ℕ) → combined_below 1 coefficients v ≡ product (sum_below (length coefficients) (slice_index coefficients)) (v 0)
unfolding combination sum_below
combined_below_one coefficients v =
    let c = slice_index coefficients in
    let t = sum_below (length coefficients) c in
    sym (product-sum_l (c 0) (bit_xor t (c 0)) (v 0)) ∙ ap (λ x. product x (v 0)) (add_and_remove (c 0) t)

-- one more source is as it is
pub combined_below_more : (j : ℕ) (coefficients : List ℕ) (v : ℕ → ℕ) (old new : ℕ) → old ≡ combined_below j coefficients v
    → new ≡ bit_xor old (product (slice_index coefficients j) (bit_xor (v j) (v 0))) → new ≡ combined_below (j + 1) coefficients v
unfolding combination sum_below
combined_below_more j coefficients v old new before added =
    let c = slice_index coefficients in
    let t = sum_below (length coefficients) c in
    let s = sum_below j c in
    rw add-one
    (added
    ∙ xor_both _ _ _ _ before (product-sum (c j) (v j) (v 0))
    ∙ xor_swap (combination j c v) (product (bit_xor t s) (v 0)) (product (c j) (v j)) (product (c j) (v 0))
    ∙ ap (bit_xor (bit_xor (combination j c v) (product (c j) (v j)))) (sym (product-sum_l (bit_xor t s) (c j) (v 0)) ∙ ap (λ x. product x (v 0)) (xor_assoc t s (c j))))

-- all sources are as they are
pub combined_below_all : (coefficients : List ℕ) (v : ℕ → ℕ) → combined_below (length coefficients) coefficients v ≡ combination (length coefficients) (slice_index coefficients) v
combined_below_all coefficients v =
    let t = sum_below (length coefficients) (slice_index coefficients) in
    ap (λ x. bit_xor (combination (length coefficients) (slice_index coefficients) v) (product x (v 0))) (xor_self t)
    ∙ ap (bit_xor (combination (length coefficients) (slice_index coefficients) v)) (product-zero_l (v 0))
    ∙ xor_zero_r _

module _ (coefficients : List ℕ) (sources : List (List ℕ)) (at : ℕ) where
  pub difference_added : (j : ℕ) (base loaded difference times below result : List ℕ) → HasLanes base (λ k. column sources (at + k) 0) → HasLanes loaded (λ k. column sources (at + k) j)
      → HasLanes difference (λ k. bit_xor (slice_index loaded k) (slice_index base k)) → HasLanes times (λ k. product (slice_index coefficients j) (slice_index difference k))
      → HasLanes below (λ k. combined_below j coefficients (column sources (at + k))) → HasLanes result (λ k. bit_xor (slice_index below k) (slice_index times k))
      → HasLanes result (λ k. combined_below (j + 1) coefficients (column sources (at + k)))
  difference_added j base loaded difference times below result F L D T B R = record {
    long = R.long;
    each = λ k l.
        let product_is = T.each k l ∙ ap (product (slice_index coefficients j)) (D.each k l ∙ xor_both _ _ _ _ (L.each k l) (F.each k l)) in
        combined_below_more j coefficients (column sources (at + k)) (slice_index below k) (slice_index result k) (B.each k l) (R.each k l ∙ ap (bit_xor (slice_index below k)) product_is);
  }

  pub differences_done : (n : ℕ) (v : List ℕ) → n ≡ length coefficients → HasLanes v (λ k. combined_below n coefficients (column sources (at + k))) → IsSum coefficients sources at v
  differences_done n v whole V = record {
    long = V.long;
    each = λ k l. V.each k l ∙ ap (λ n. combined_below n coefficients (column sources (at + k))) whole ∙ combined_below_all coefficients (column sources (at + k));
  }
