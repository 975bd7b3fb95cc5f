use Rattle.std.proofs.Common.{◌≡◌, take}
use Rattle.std.specs.List.{count_by}
use Rattle.gz_round.specs.Awaiting.{is_mark_live}
use Rattle.gz_round.proofs.awaiting.count_live.Given as goal

abbrev pub invariant-loop-mark : goal.invariant-loop-mark
invariant-loop-mark l = l.count ≡ count_by is_mark_live (take l.mark-index l.marks)
