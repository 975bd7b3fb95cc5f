use Rattle.std.proofs.Common.{◌≡◌, ◌<◌, ℕ, Some, slice_get}
use Rattle.gz_history.specs.Legal.{IsSource}
use Rattle.gz_history.specs.declared.record.CallRec.{CallRec}
use Rattle.gz_history.proofs.legality.has_source.Given as goal

abbrev pub invariant-loop-b : goal.invariant-loop-b
invariant-loop-b l = (i : ℕ) (b : CallRec) → i < l.b-index → slice_get l.calls i ≡ Some b → IsSource l.a l.x b → ⊥
