-- The floors of the rows that are known: a row of a run has the version after its floor decided.
use Rattle.std.specs.Prelude.{ℕ, ◌≡◌, ◌≢◌, ◌≤◌, ◌<◌, ◌+◌, ◌==◌, max, Bool, false, List, [], ◌∷◌, Option, Some, None, slice_get}
use Rattle.gz_core.specs.Names.{Name}
use Rattle.gz_core.specs.Rows.{RowAt, IsRow}
use Rattle.gz_pick.specs.Looks.{row_decision}
use Rattle.gz_round.specs.declared.run.Run.{Run}
use Rattle.gz_round.specs.declared.run.Target.{Target}
use Rattle.gz_round.specs.declared.run.Target.TheVariants.{Latest, At}

-- the greatest floor of the rows that are known, 0 where there is none
abbrev pub top_floor_of : List (Option RowAt) → ℕ
top_floor_of [] = 0
top_floor_of (None ∷ rows) = top_floor_of rows
top_floor_of (Some row ∷ rows) = max row.floor (top_floor_of rows)

-- whether a row is known and has this floor
abbrev pub has_floor : ℕ → Option RowAt → Bool
has_floor floor None = false
has_floor floor (Some row) = row.floor == floor

-- each row that is known keeps the rules of rows
abbrev pub AreRows : List (Option RowAt) → Type 0
AreRows rows = (s : ℕ) (row : RowAt) → slice_get rows s ≡ Some (Some row) → IsRow row

-- the row of a site is known, has this floor, and has the version after it decided
pub record IsFloorAt (rows : List (Option RowAt)) (floor s : ℕ) : Type 0 where
  pub row : RowAt
  pub known : slice_get rows s ≡ Some (Some row)
  pub floor_is : row.floor ≡ floor
  pub name : Name
  pub decided : row_decision row (floor + 1) ≡ Some name

-- no row before this place has the floor
abbrev pub AreFloorless : List (Option RowAt) → ℕ → ℕ → Type 0
AreFloorless rows floor at = (s : ℕ) (row : RowAt) → s < at → slice_get rows s ≡ Some (Some row) → row.floor ≢ floor

-- the call asks for no version at or below a known floor
abbrev pub NoneAskedIn : Target → List (Option RowAt) → Type 0
NoneAskedIn Latest rows = Unit {0}
NoneAskedIn (At asked) rows = top_floor_of rows < asked

abbrev pub AreNoneAsked : Run → Type 0
AreNoneAsked run = AreRows run.rows × NoneAskedIn run.target run.rows

-- the call asks for a version at or below the greatest floor that is known
pub record IsAskedBelow (run : Run) (floor : ℕ) : Type 0 where
  pub asked : ℕ
  pub target : run.target ≡ At asked
  pub gone : asked ≤ floor
  pub top : floor ≡ top_floor_of run.rows
