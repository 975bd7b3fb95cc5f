use Rattle.std.proofs.Common.{◌≡◌, take, false}
use Rattle.std.specs.List.{list_any}
use Rattle.gz_round.specs.Awaiting.{has_number}
use Rattle.gz_client.proofs.client.live.any_mark_awaits.Given as goal

abbrev pub invariant-loop-mark : goal.invariant-loop-mark
invariant-loop-mark l = list_any (has_number l.n) (take l.mark-index l.marks) ≡ false
