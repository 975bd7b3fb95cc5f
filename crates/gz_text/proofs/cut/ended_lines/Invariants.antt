use Rattle.std.proofs.Common.{◌≡◌, map, take}
use Rattle.gz_text.specs.Texts.{without_return}
use Rattle.gz_text.proofs.cut.ended_lines.Given as goal

abbrev pub invariant-loop-part : goal.invariant-loop-part
invariant-loop-part l = map (λ x. x.now) l.lines.items ≡ map without_return (map (λ x. x.now) (take l.part-index l.parts))
