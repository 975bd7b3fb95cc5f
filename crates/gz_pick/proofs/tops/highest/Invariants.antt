use Rattle.std.proofs.Common.{◌≡◌, max}
use Rattle.std.specs.Prelude.{drop}
use Rattle.gz_pick.specs.Looks.{highest_of}
use Rattle.gz_pick.proofs.tops.highest.Given as goal

abbrev pub invariant-loop-row : goal.invariant-loop-row
invariant-loop-row l = highest_of l.rows ≡ max l.top (highest_of (drop l.row-index l.rows))
