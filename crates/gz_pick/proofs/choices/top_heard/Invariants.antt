use Rattle.std.proofs.Common.{◌≡◌}
use Rattle.std.specs.Prelude.{drop}
use Rattle.gz_pick.specs.Choices.{top_of}
use Rattle.gz_pick.proofs.Joins.{join}
use Rattle.gz_pick.proofs.choices.top_heard.Given as goal

abbrev pub invariant-loop-one : goal.invariant-loop-one
invariant-loop-one l = top_of l.heard ≡ join (top_of (drop l.one-index l.heard)) l.top
