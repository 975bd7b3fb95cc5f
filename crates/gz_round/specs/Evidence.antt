-- Whether the known rows show that a value is chosen at a version.
use Rattle.std.specs.Prelude.{ℕ, ◌≡◌, ◌<◌, ◌≤◌, ◌+◌, List, Option, Some, slice_get}
use Rattle.gz_core.specs.Names.{Name}
use Rattle.gz_core.specs.Rows.{RowAt}
use Rattle.gz_config.specs.declared.Config.{Config}
use Rattle.gz_pick.specs.Looks.{row_name}
use Rattle.gz_pick.specs.Evidences.{IsEvident, row_at}
use Rattle.gz_core.specs.History.{Action}
use Rattle.gz_round.specs.Sites.{rows_known}

-- no value is known to be chosen at the version
abbrev pub NoneEvident : Config → List (Option RowAt) → ℕ → Type 0
NoneEvident c rows v = (x : Name) → IsEvident c.n c.qc c.qf (row_at rows) v x → ⊥

-- a value is, and the row of this site has its name there
pub record EvidentAt (c : Config) (rows : List (Option RowAt)) (v : ℕ) (s : ℕ) : Type 0 where
  pub name : Name
  pub row : RowAt
  pub inside : s < c.n
  pub known : slice_get rows s ≡ Some (Some row)
  pub named : row_name row v ≡ Some name
  pub evident : IsEvident c.n c.qc c.qf (row_at rows) v name

-- by what was sent and heard, no value is known to be chosen at the version
abbrev pub NoEvidence : Config → List Action → ℕ → Type 0
NoEvidence c ms v = (x : Name) → IsEvident c.n c.qc c.qf (rows_known ms) v x → ⊥

-- a value is known to be chosen at the version before
pub record IsAfterEvidence (c : Config) (ms : List Action) (v : ℕ) : Type 0 where
  pub before : ℕ
  pub next : v ≡ before + 1
  pub above : 1 ≤ before
  pub name : Name
  pub evident : IsEvident c.n c.qc c.qf (rows_known ms) before name
