use Rattle.std.proofs.Common.{◌≡◌, Some, map, take}
use Rattle.gz_core.specs.declared.fates.Fate.{Fate}
use Rattle.gz_data.proofs.gathering.fates_of.Given as goal

abbrev pub invariant-loop-fate : goal.invariant-loop-fate
invariant-loop-fate l = map (λ (fate : Fate). Some fate) l.fates.items ≡ take l.fate-index l.came
