use Rattle.std.proofs.Common.{ℕ, ◌+◌, ◌<◌, length, bit_xor, sym, arith, ◌∙◌, ap}
use Rattle.std.proofs.lemmas.Nat.{xor_lt}
use Rattle.gz_field.specs.Field.{product}
use Rattle.gz_lanes.specs.Combination.{combination, column, contents}
use Rattle.gz_lanes.specs.Lanes.{HasLanes}
use Rattle.gz_lanes.specs.Quads.{in_first, in_second, in_third, in_fourth, second_weight, third_weight}
use Rattle.gz_lanes.proofs.Linear.{combination_sum, combination_times, in_second-lt, in_fourth-lt}
use Rattle.gz_lanes.proofs.Vectors.{added}
use Rattle.gz_lanes.proofs.quads.quad_sums.Goals as goal

pub returns : goal.returns
returns c =
    let constants = c.args.constants.now in
    let n = length c.args.sources.now in
    let v = λ (k : ℕ). column (contents c.args.sources.now) (c.args.at + k) in
    let parts = c.sums_of_parts.result in
    let P = c.sums_of_parts.ensures in
    let sum_is = λ (f g : ℕ → ℕ) (k : ℕ) (l : k < 16). sym (combination_sum n f g (v k)) in
    let both = λ (j : ℕ). bit_xor (in_second constants j) (in_fourth j) in
    let doubled = λ (j : ℕ). product 2 (both j) in
    let outer = λ (j : ℕ). bit_xor (in_first constants j) (in_third constants j) in
    let B = added parts.1 parts.3 c.sum-both.result _ _ (λ k. combination n both (v k)) P.second P.fourth c.sum-both.ensures (sum_is (in_second constants) in_fourth) in
    let O = added parts.0 parts.2 c.sum.result _ _ (λ k. combination n outer (v k)) P.first P.third c.sum.ensures (sum_is (in_first constants) (in_third constants)) in
    let D : HasLanes c.product_by.result (λ k. combination n doubled (v k)) = record {
      long = c.product_by.ensures.long;
      each = λ k l.
          c.product_by.ensures.each k l
          ∙ ap (product 2) (B.each k l)
          ∙ sym (combination_times 2 n both (v k) (omega arith) (λ j m. xor_lt 8 (in_second constants j) (in_fourth j) (in_second-lt constants j) (in_fourth-lt j)) (λ j m. P.are_bytes k j l m));
    } in
    let L = added c.sum.result c.product_by.result c.sum-last.result _ _ (λ k. combination n (third_weight constants) (v k)) O D c.sum-last.ensures (sum_is outer doubled) in
    record {
      first = P.first;
      second = added parts.0 parts.1 c.sum-2.result _ _ (λ k. combination n (second_weight constants) (v k)) P.first P.second c.sum-2.ensures (sum_is (in_first constants) (in_second constants));
      third = L;
      fourth = added c.sum-last.result c.sum-both.result c.sum-3.result _ _ _ L B c.sum-3.ensures (sum_is (third_weight constants) both);
    }
