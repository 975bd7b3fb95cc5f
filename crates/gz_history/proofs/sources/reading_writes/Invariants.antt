use Rattle.gz_history.specs.Broken.{HaveSources}
use Rattle.gz_history.proofs.sources.reading_writes.Given as goal

abbrev pub invariant-loop-i : goal.invariant-loop-i
invariant-loop-i l = HaveSources l.calls l.i
