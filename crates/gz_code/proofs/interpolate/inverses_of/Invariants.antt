use Rattle.gz_code.specs.Interpolation.{HasInverses}
use Rattle.gz_code.proofs.interpolate.inverses_of.Given as goal

abbrev pub invariant-loop-j : goal.invariant-loop-j
invariant-loop-j l = HasInverses l.points l.inverses l.j
