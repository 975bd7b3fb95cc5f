use Rattle.std.proofs.Common.{◌≡◌, filter_map, take}
use Rattle.gz_logs.specs.Answers.{fate_in}
use Rattle.gz_logs.proofs.answers.fates_among.Given as goal

abbrev pub invariant-loop-letter : goal.invariant-loop-letter
invariant-loop-letter l = l.fates.items ≡ filter_map fate_in (take l.letter-index l.field)
