use Rattle.gz_code.proofs.Seen.{HasSeen}
use Rattle.gz_code.proofs.decode.check_repeats.Given as goal

abbrev pub invariant-loop-index : goal.invariant-loop-index
invariant-loop-index l = HasSeen l.pieces l.index-index l.seen
