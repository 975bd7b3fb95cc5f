use Rattle.std.proofs.Common.{◌≡◌, take, true}
use Rattle.std.specs.List.{list_all}
use Rattle.gz_round.specs.Sites.{fragment_stands}
use Rattle.gz_round.proofs.hearing.fragments_stand.Given as goal

abbrev pub invariant-loop-fragment : goal.invariant-loop-fragment
invariant-loop-fragment l = list_all (fragment_stands l.n) (take l.fragment-index l.fragments) ≡ true
