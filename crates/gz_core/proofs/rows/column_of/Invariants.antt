use Rattle.std.proofs.Common.{◌≡◌}
use Rattle.std.specs.Prelude.{drop}
use Rattle.gz_core.specs.Rows.{column_in}
use Rattle.gz_core.proofs.rows.column_of.Given as goal

abbrev pub invariant-loop-at : goal.invariant-loop-at
invariant-loop-at l = column_in l.columns l.version ≡ column_in (drop l.at-index l.columns) l.version
