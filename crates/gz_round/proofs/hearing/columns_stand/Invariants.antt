use Rattle.std.proofs.Common.{◌≡◌, take, true}
use Rattle.std.specs.List.{list_all}
use Rattle.gz_round.specs.Sites.{entry_stands}
use Rattle.gz_round.proofs.hearing.columns_stand.Given as goal

abbrev pub invariant-loop-entry : goal.invariant-loop-entry
invariant-loop-entry l = list_all (entry_stands l.n) (take l.entry-index l.columns) ≡ true
