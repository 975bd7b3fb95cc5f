use Rattle.std.proofs.Common.{◌≡◌, max}
use Rattle.std.specs.Prelude.{drop}
use Rattle.gz_pick.specs.Looks.{top_in}
use Rattle.gz_pick.proofs.looks.top_of.Given as goal

abbrev pub invariant-loop-version : goal.invariant-loop-version
invariant-loop-version l = top_in l.row.columns ≡ max l.top (top_in (drop l.version-index l.row.columns))
