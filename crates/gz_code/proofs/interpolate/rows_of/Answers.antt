use Rattle.std.proofs.Common.{refl, slice_index, subst, sym, List, ℕ}
use Rattle.gz_code.specs.Interpolation.{AreWeights}
use Rattle.gz_code.proofs.Growing.{rows_more}
use Rattle.gz_code.proofs.interpolate.rows_of.Goals as goal

pub loop-target-preserved : goal.loop-target-preserved
loop-target-preserved c =
    let points = c.args.points.now in
    let n = c.loop-target.target-index in
    let target = slice_index c.args.targets.now n in
    rows_more points c.args.targets.now n target c.loop-target.rows.items c.push.new.self.items c.in_ok-new.field-0 c.loop-target.invariant refl
    (subst (λ (row : List ℕ). AreWeights points row target) (sym c.in_ok-new.ensures) c.in_ok-weights.ensures)
    c.in_ok-push.ensures.items
