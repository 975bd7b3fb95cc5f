use Rattle.std.proofs.Common.{◌≡◌, map, take, length}
use Rattle.std.specs.Prelude.{filter, not, ◌==◌}
use Rattle.gz_text.proofs.cut.fields.Given as goal

abbrev pub invariant-loop-part : goal.invariant-loop-part
invariant-loop-part l = map (λ x. x.now) l.fields.items ≡ filter (λ part. not (length part == 0)) (map (λ x. x.now) (take l.part-index l.part-items))
