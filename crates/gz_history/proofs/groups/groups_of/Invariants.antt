use Rattle.std.proofs.Common.{ℕ, ◌≡◌, length, Some, slice_get}
use Rattle.std.specs.BTreeMap as tree
use Rattle.std.specs.Ordering.{nat_cmp}
use Rattle.std.specs.Cmp.Lexicographic.{slice_cmp}
use Rattle.gz_core.specs.Calls.{key_of}
use Rattle.gz_history.specs.declared.record.CallRec.{CallRec}
use Rattle.gz_history.proofs.groups.groups_of.Given as goal

abbrev pub invariant-loop-i : goal.invariant-loop-i
invariant-loop-i l = record {
  len : length l.groups.items ≡ l.i;
  each : (j : ℕ) (a : CallRec) (g : ℕ) → slice_get l.calls j ≡ Some a → slice_get l.groups.items j ≡ Some g → tree.get (slice_cmp nat_cmp) l.heads (key_of a.call) ≡ Some g;
}
