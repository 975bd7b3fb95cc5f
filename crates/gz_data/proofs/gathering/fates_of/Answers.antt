use Rattle.std.proofs.Common.{◌≡◌, Some, length, sym, ap, ◌∙◌, arith}
use Rattle.std.proofs.lemmas.List.{length-map, take_all}
use Rattle.gz_core.specs.declared.fates.Fate.{Fate}
use Rattle.gz_data.proofs.gathering.fates_of.Goals as goal

pub unreachable-requires-in_default-new : goal.unreachable-requires-in_default-new
unreachable-requires-in_default-new c =
    let came = c.args.came.now in
    let fates = c.loop-fate.fates.items in
    let count : length fates ≡ length came =
    sym (length-map fates (λ (fate : Fate). Some fate)) ∙ ap length c.loop-fate.invariant ∙ ap length (take_all c.loop-fate.fate-index came c.loop-fate-test.false) in
    c.in_default-new.ensures (omega (arith, c.requires.some), omega (arith, c.requires.few))
