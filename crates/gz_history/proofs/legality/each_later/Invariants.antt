use Rattle.gz_history.specs.Broken.{relation_of, KeptWith}
use Rattle.gz_history.proofs.legality.each_later.Given as goal

abbrev pub invariant-loop-j : goal.invariant-loop-j
invariant-loop-j l = KeptWith (relation_of l.rule) l.calls l.i l.j
