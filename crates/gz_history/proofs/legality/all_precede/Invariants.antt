use Rattle.gz_history.specs.Broken.{AllPrecede}
use Rattle.gz_history.proofs.legality.all_precede.Given as goal

abbrev pub invariant-loop-i : goal.invariant-loop-i
invariant-loop-i l = AllPrecede l.calls l.j l.i
