use Rattle.std.proofs.Common.{◌≡◌, ◌<◌, ℕ, Some, max}
use Rattle.std.specs.Prelude.{drop}
use Rattle.std.specs.List.{slice_get}
use Rattle.gz_core.specs.Rows.{RowAt, IsRow}
use Rattle.gz_round.specs.Floors.{top_floor_of}
use Rattle.gz_round.proofs.floors.top_floor.Given as goal

abbrev pub invariant-loop-row : goal.invariant-loop-row
invariant-loop-row l = record {
  top : top_floor_of l.rows ≡ max l.top (top_floor_of (drop l.row-index l.rows));
  rows : (s : ℕ) (row : RowAt) → s < l.row-index → slice_get l.rows s ≡ Some (Some row) → IsRow row;
}
