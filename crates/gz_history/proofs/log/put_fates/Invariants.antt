use Rattle.std.proofs.Common.{◌≡◌, ◌++◌, take}
use Rattle.std.specs.Prelude.{flat_map}
use Rattle.gz_history.specs.Log.{fate_text}
use Rattle.gz_history.proofs.log.put_fates.Given as goal

abbrev pub invariant-loop-fate : goal.invariant-loop-fate
invariant-loop-fate l = l.text ≡ l.fn.text ++ flat_map fate_text (take l.fate-index l.fates)
