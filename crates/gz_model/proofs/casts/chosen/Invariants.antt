use Rattle.std.proofs.Common.{take}
use Rattle.gz_model.specs.Casts.{IsLeastName}
use Rattle.gz_model.proofs.LeastNames.{IsChosenOf}
use Rattle.gz_model.proofs.casts.chosen.Given as goal

abbrev pub invariant-loop-cast : goal.invariant-loop-cast
invariant-loop-cast l = IsLeastName (IsChosenOf l.cfg l.casts (take l.cast-index l.casts) l.key l.v) l.least
