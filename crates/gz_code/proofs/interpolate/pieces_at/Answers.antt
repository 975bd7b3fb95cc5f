use Rattle.std.proofs.Common.{List, ℕ, length, subst}
use Rattle.gz_lanes.specs.Combination.{contents, AreCombined}
use Rattle.gz_code.specs.Interpolation.{rows}
use Rattle.gz_code.proofs.Growing.{rows_paired}
use Rattle.gz_code.proofs.Weights.{all_values_are}
use Rattle.gz_code.proofs.interpolate.pieces_at.Goals as goal

pub returns-in_ok-pieces-in-Vector : goal.returns-in_ok-pieces-in-Vector
returns-in_ok-pieces-in-Vector c =
    let sources = contents c.args.sources.now in
    let weights = c.in_ok-rows-in-Vector.rows in
    let pieces = rows c.in_ok-pieces-in-Vector.pieces in
    let P : List (List ℕ) → Type 0 = λ w. AreCombined w sources c.args.width (length w) pieces in
    let N : ℕ → Type 0 = λ n. AreCombined weights.items sources c.args.width n pieces in
    let R = c.in_ok-rows-in-Vector.ensures in
    all_values_are c.args.points.now c.args.targets.now sources weights.items pieces c.args.width (length c.args.targets.now) R
    (subst N R.count (subst P c.deref.ensures.value c.in_ok-pieces-in-Vector.ensures))

pub combine_rows-requires : goal.combine_rows-requires
combine_rows-requires c =
    let targets = c.args.targets.now in
    record {
      paired = rows_paired c.args.points.now targets (length targets) (length c.args.sources.now) c.in_ok-rows-in-Vector.rows.items c.deref.result.now c.in_ok-rows-in-Vector.ensures c.deref.ensures.value c.requires.paired;
      widths = c.requires.widths;
    }

pub plain_pieces_at-requires : goal.plain_pieces_at-requires
plain_pieces_at-requires c = record {
  few = c.requires.few;
  points = c.requires.points;
  elsewhere = c.requires.elsewhere;
  paired = c.requires.paired;
  widths = c.requires.widths;
}
