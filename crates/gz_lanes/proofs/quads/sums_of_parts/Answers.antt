use Rattle.std.proofs.Common.{ℕ, ◌≡◌, ◌+◌, ◌-◌, ◌*◌, ◌<◌, subst, arith, inl, inr}
use Rattle.std.proofs.lemmas.Bool.{cases_lt}
use Rattle.gz_lanes.specs.Combination.{combination, column, contents}
use Rattle.gz_lanes.proofs.Linear.{first_more, second_more, third_more, fourth_more}
use Rattle.gz_lanes.proofs.Vectors.{added}
use Rattle.gz_lanes.proofs.quads.sums_of_parts.Goals as goal

pub loop-q-init : goal.loop-q-init
unfolding combination
loop-q-init c = (c.zeros-first.ensures, c.zeros-second.ensures, c.zeros-third.ensures, c.zeros-fourth.ensures, λ k j l m. absurd (omega arith))

pub loop-q-preserved : goal.loop-q-preserved
loop-q-preserved c =
    let constants = c.args.constants.now in
    let q = c.loop-q.q in
    let v = λ (k : ℕ). column (contents c.args.sources.now) (c.args.at + k) in
    let so_far = c.loop-q.invariant in
    let part = c.parts.ensures in
    let V = λ (k : ℕ) (l : k < 16) (r : ℕ) (R : r < 4). part.are_bytes k r l R in
    let X = part.constants_are.0 in
    let Y = part.constants_are.1 in
    let Z = part.constants_are.2 in (
      added c.loop-q.first c.parts.result.0 c.sum-first.result _ _ _ so_far.0 part.first c.sum-first.ensures (λ k l. first_more constants q X Y Z (v k) (V k l)),
      added c.loop-q.second c.parts.result.1 c.sum-second.result _ _ _ so_far.1 part.second c.sum-second.ensures (λ k l. second_more constants q X Y Z (v k) (V k l)),
      added c.loop-q.third c.parts.result.2 c.sum-third.result _ _ _ so_far.2 part.third c.sum-third.ensures (λ k l. third_more constants q X Y Z (v k) (V k l)),
      added c.loop-q.fourth c.parts.result.3 c.sum-fourth.result _ _ _ so_far.3 part.fourth c.sum-fourth.ensures (λ k l. fourth_more constants q X Y Z (v k) (V k l)),
      λ k j l m.
          elim (cases_lt j (q * 4)) [
            | inl before ↦ so_far.4 k j l before
            | inr from ↦
                let back : q * 4 + (j - q * 4) ≡ j = omega arith in
                subst (λ i. v k i < 256) back (part.are_bytes k (j - q * 4) l (omega arith))
          ],
    )
