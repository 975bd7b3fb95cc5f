use Rattle.std.proofs.Common.{ℕ, ◌≡◌, ◌∙◌, subst, slice_index, arith, inl, inr}
use Rattle.std.proofs.lemmas.Bool.{cases_lt}
use Rattle.gz_lanes.specs.Quads.{in_first, second_weight, third_weight, fourth_weight}
use Rattle.gz_lanes.proofs.Linear.{all_equal}
use Rattle.gz_lanes.proofs.quads.are_quads.Goals as goal

pub loop-j-preserved : goal.loop-j-preserved
loop-j-preserved c i l =
    elim (cases_lt i c.loop-j.j) [
      | inl before ↦ c.loop-j.invariant i before
      | inr last ↦
          let here : c.loop-j.j ≡ i = omega arith in
          let constants = c.args.constants.now in
          let P : ℕ → Type 0 = λ i.
          (slice_index c.args.a.now i ≡ in_first constants i)
          × (slice_index c.args.b.now i ≡ second_weight constants i)
          × (slice_index c.args.c.now i ≡ third_weight constants i)
          × (slice_index c.args.d.now i ≡ fourth_weight constants i) in
          let same = all_equal _ _ _ _ _ _ _ _ c.ne.result c.if-ne.false c.ne.ensures in
          subst P here (same.0 ∙ c.weights_at.ensures.first, same.1 ∙ c.weights_at.ensures.second, same.2 ∙ c.weights_at.ensures.third, same.3 ∙ c.weights_at.ensures.fourth)
    ]
