use Rattle.std.proofs.Common.{◌≡◌, ◌++◌}
use Rattle.std.specs.Prelude.{take, drop}
use Rattle.gz_core.specs.declared.rows.Column.{Column}
use Rattle.gz_accept.specs.Steps.{with_column}
use Rattle.gz_accept.proofs.columns.place.Given as goal

abbrev pub invariant-loop-at : goal.invariant-loop-at
invariant-loop-at l = (column : Column) → with_column l.v column l.columns ≡ take l.at l.columns ++ with_column l.v column (drop l.at l.columns)
