use Rattle.std.proofs.Common.{◌≡◌, ◌≤◌, length}
use Rattle.std.specs.BTreeMap as tree
use Rattle.std.specs.Ordering.{nat_cmp}
use Rattle.gz_history.specs.Index.{AreTaken, AreInOrderWhere}
use Rattle.gz_history.proofs.order.in_order.Given as goal

abbrev pub invariant-loop-step : goal.invariant-loop-step
invariant-loop-step l = record {
  from : l.from ≤ length l.calls;
  len : length l.kept.items ≡ length l.calls;
  taken : AreTaken l.calls l.groups l.from (tree.get nat_cmp l.least);
  kept : AreInOrderWhere l.calls l.kept.items;
}
