use Rattle.std.proofs.Common.{◌≡◌, ◌≢◌, ◌<◌, ℕ, Some}
use Rattle.std.specs.List.{slice_get}
use Rattle.gz_core.specs.Rows.{RowAt}
use Rattle.gz_round.proofs.floors.place_with_floor.Given as goal

abbrev pub invariant-loop-at : goal.invariant-loop-at
invariant-loop-at l = (s : ℕ) (row : RowAt) → s < l.at → slice_get l.rows s ≡ Some (Some row) → row.floor ≢ l.floor
