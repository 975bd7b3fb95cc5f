-- What a site collected of an object, a call of the history was to collect.
use Rattle.std.specs.Prelude.{ℕ, ◌≡◌, ◌≤◌, ◌+◌, List, Some, slice_get}
use Rattle.gz_core.specs.Names.{Name}
use Rattle.gz_core.specs.Rows.{RowAt}
use Rattle.gz_core.specs.declared.calls.Call.TheVariants.{Collect}
use Rattle.gz_site.specs.Told.{Told}
use Rattle.gz_history.specs.declared.record.CallRec.{CallRec}
use Rattle.gz_model.specs.Casts.{IsChosen}
use Rattle.gz_world.specs.States.{State}

-- a call of the history collects the object, and a value is chosen so many versions above this one as the call keeps, or at one
-- above that
pub record IsFloorDue (key : List ℕ) (s : State) (floor : ℕ) : Type 0 where
  pub place : ℕ
  pub call : CallRec
  pub there : slice_get s.calls place ≡ Some call
  pub keep : ℕ
  pub collects : call.call ≡ Collect key keep
  pub version : ℕ
  pub name : Name
  pub chosen : IsChosen s.cfg s.casts key version name
  pub kept : floor + keep ≤ version

-- so it is of each floor that a site raised
abbrev pub AreFloorsDue : List ℕ → State → Type 0
AreFloorsDue key s = (i : ℕ) (told : Told) (etag : ℕ) (row : RowAt) → s.sites i ≡ Some told → told.rows key ≡ Some (etag, row) → 1 ≤ row.floor → IsFloorDue key s row.floor
