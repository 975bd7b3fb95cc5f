use Rattle.std.proofs.Common.{◌≡◌, take, min}
use Rattle.gz_text.specs.Fields.{value_of}
use Rattle.gz_text.proofs.fields.value.Given as goal

abbrev pub invariant-loop-digit : goal.invariant-loop-digit
invariant-loop-digit l = l.value ≡ min (value_of (take l.digit-index l.digits)) l.bound
