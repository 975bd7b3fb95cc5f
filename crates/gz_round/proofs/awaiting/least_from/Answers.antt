use Rattle.std.proofs.Common.{◌≡◌, ◌+◌, length, refl, sym, subst, arith}
use Rattle.std.proofs.lemmas.Option.{slice_get_read}
use Rattle.gz_round.specs.Awaiting.{IsLeastBelow, number_of}
use Rattle.gz_round.proofs.Least.{least_lower}
use Rattle.gz_round.proofs.awaiting.least_from.Goals as goal

pub loop-mark-preserved : goal.loop-mark-preserved
loop-mark-preserved c =
    let there = slice_get_read c.args.marks.now (length c.args.marks.now) c.loop-mark.mark-index c.mark-item.result refl (omega arith) c.mark-item.is in
    subst (IsLeastBelow c.args.marks.now c.args.low (c.loop-mark.mark-index + 1)) (sym c.lower-best.ensures) (least_lower c.args.marks.now c.args.low c.loop-mark.mark-index c.loop-mark.best c.mark-item.result (number_of c.mark-item.result) there refl c.loop-mark.invariant)

pub returns : goal.returns
returns c =
    let done : c.loop-mark.mark-index ≡ length c.args.marks.now = omega arith in
    subst (λ n. IsLeastBelow c.args.marks.now c.args.low n c.loop-mark.best) done c.loop-mark.invariant
