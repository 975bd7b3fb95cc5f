use Rattle.std.proofs.Common.{◌-◌}
use Rattle.std.specs.BTreeMap as tree
use Rattle.std.specs.Ordering.{nat_cmp}
use Rattle.gz_history.specs.Index.{AreTaken}
use Rattle.gz_history.proofs.order.taken_after.Given as goal

abbrev pub invariant-loop-step : goal.invariant-loop-step
invariant-loop-step l = AreTaken l.calls l.groups l.from (tree.get nat_cmp l.fn.least) → AreTaken l.calls l.groups (l.from - l.step) (tree.get nat_cmp l.least)
