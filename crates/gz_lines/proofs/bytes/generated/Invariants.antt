use Rattle.std.proofs.Common.{◌≡◌, ◌++◌, ◌-◌}
use Rattle.gz_lines.specs.Bytes.{generated}
use Rattle.gz_lines.proofs.bytes.generated.Given as goal

abbrev pub invariant-loop-made : goal.invariant-loop-made
invariant-loop-made l = l.bytes.items ++ generated l.x (l.count - l._made) ≡ generated l.seed l.count
