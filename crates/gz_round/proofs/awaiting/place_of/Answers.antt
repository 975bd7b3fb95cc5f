use Rattle.std.proofs.Common.{◌≡◌, true, length, sym, ◌∙◌, inl, inr, subst, refl, arith}
use Rattle.std.proofs.lemmas.Bool.{cases_eq, both_ways}
use Rattle.std.proofs.lemmas.Option.{same_Some, slice_get_read, slice_get_within}
use Rattle.gz_round.specs.declared.run.Mark.{Mark}
use Rattle.gz_round.specs.Awaiting.{has_number, IsSiteOf}
use Rattle.gz_round.proofs.awaiting.place_of.Goals as goal

pub loop-at-preserved : goal.loop-at-preserved
loop-at-preserved c = λ s l k.
    elim (cases_eq s c.loop-at.at) [
      | inl e ↦ (
          let here : IsSiteOf c.args.marks.now c.args.n c.loop-at.at = subst (IsSiteOf c.args.marks.now c.args.n) e k in
          let there = slice_get_read c.args.marks.now (length c.args.marks.now) c.loop-at.at c.index-marks-at.result refl (omega arith) c.index-marks-at.is in
          let same : here.0 ≡ c.index-marks-at.result = same_Some here.0 c.index-marks-at.result (sym here.1 ∙ there) in
          both_ways (has_number c.args.n c.index-marks-at.result) (sym c.has_number.ensures ∙ c.if-has_number.false) (subst (λ (m : Mark). has_number c.args.n m ≡ true) same here.2))
      | inr n ↦ c.loop-at.invariant s (omega arith) k
    ]

pub returns : goal.returns
returns c = λ s k. c.loop-at.invariant s (omega (arith, slice_get_within c.args.marks.now s k.0 k.1)) k
