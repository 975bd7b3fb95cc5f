use Rattle.std.proofs.Common.{◌≡◌, ℕ, List, length, slice_index, ap, sym, subst, ◌∙◌, arith, Fits, w8}
use Rattle.std.proofs.lemmas.Simd.{Each1-get_or}
use Rattle.gz_field.specs.Field.{product}
use Rattle.gz_field.proofs.Algebra.{product-one}
use Rattle.gz_lanes.specs.Combination.{sum_below}
use Rattle.gz_lanes.specs.Lanes.{HasLanes}
use Rattle.gz_lanes.proofs.rows.CoefficientRow.times_total.Goals as goal
use Rattle.gz_lanes.proofs.rows.CoefficientRow.times_total.Goals.{then-self-eq1, else-self-eq1}

pub returns : goal.returns
returns c =
    let bytes = c.args.bytes in
    let row = c.args.self.now in
    let whole = sum_below (length row) (slice_index row) in
    let T : List ℕ → Type 0 = λ cs. c.self.inside.total ≡ sum_below (length cs) (slice_index cs) in
    let V : List ℕ → Type 0 = λ v. HasLanes v (λ k. product whole (slice_index bytes k)) in
    let total_is : c.self.inside.total ≡ whole = subst T c.self.view_is c.self.invariant.1 in
    let long = c.fits-bytes.0 in
    elim c.if-self-eq1.branch [
      | then-self-eq1 w ↦
          let one : whole ≡ 1 = sym total_is ∙ w.if-self-eq1.true in
          subst V (sym w.result-is)
          (record {
            long = c.fits-bytes.0;
            each = λ k l. sym (ap (λ t. product t (slice_index bytes k)) one ∙ product-one (slice_index bytes k) (Each1-get_or (Fits w8) bytes k 0 (omega (arith, long)) c.fits-bytes.1).fits);
          })
      | else-self-eq1 w ↦
          let P : ℕ → Type 0 = λ t. HasLanes w.product_by.result (λ k. product t (slice_index bytes k)) in
          subst V (sym w.result-is) (subst P total_is w.product_by.ensures)
    ]
