use Rattle.std.proofs.Common.{◌≡◌, ℕ, take}
use Rattle.std.specs.BTreeMap as tree
use Rattle.std.specs.Ordering.{nat_cmp}
use Rattle.gz_history.specs.Serial.{first_name}
use Rattle.gz_history.proofs.serial.named_versions.Given as goal

abbrev pub invariant-loop-call : goal.invariant-loop-call
invariant-loop-call l = (version : ℕ) → tree.get nat_cmp l.names version ≡ first_name l.key (take l.call-index l.calls) version
