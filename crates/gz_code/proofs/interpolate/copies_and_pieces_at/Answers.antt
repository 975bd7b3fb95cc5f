use Rattle.std.proofs.Common.{List, ℕ, length, subst}
use Rattle.gz_lanes.specs.Combination.{contents, AreCombined}
use Rattle.gz_code.specs.Interpolation.{rows}
use Rattle.gz_code.proofs.Growing.{rows_paired}
use Rattle.gz_code.proofs.Weights.{all_values_are}
use Rattle.gz_code.proofs.interpolate.copies_and_pieces_at.Goals as goal

pub returns-clause-pieces : goal.returns-clause-pieces
returns-clause-pieces c =
    let sources = contents c.args.sources.now in
    let weights = c.in_ok-rows.rows in
    let pieces = rows c.in_ok-both.both.1 in
    let P : List (List ℕ) → Type 0 = λ w. AreCombined w sources c.args.width (length w) pieces in
    let N : ℕ → Type 0 = λ n. AreCombined weights.items sources c.args.width n pieces in
    let R = c.in_ok-rows.ensures in
    all_values_are c.args.points.now c.args.targets.now sources weights.items pieces c.args.width (length c.args.targets.now) R
    (subst N R.count (subst P c.deref.ensures.value c.in_ok-both.ensures.pieces))

pub copy_and_combine-requires-clause-paired : goal.copy_and_combine-requires-clause-paired
copy_and_combine-requires-clause-paired c =
    let targets = c.args.targets.now in
    rows_paired c.args.points.now targets (length targets) (length c.args.sources.now) c.in_ok-rows.rows.items c.deref.result.now c.in_ok-rows.ensures c.deref.ensures.value c.requires.paired

pub copy_and_combine-requires-clause-widths : goal.copy_and_combine-requires-clause-widths
copy_and_combine-requires-clause-widths c = c.requires.widths

pub returns-clause-copies : goal.returns-clause-copies
returns-clause-copies c = c.in_ok-both.ensures.copies
