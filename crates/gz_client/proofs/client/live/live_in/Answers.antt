use Rattle.std.proofs.Common.{◌+◌, sym, ap, subst, arith}
use Rattle.gz_client.specs.Lowest.{IsLeastLiveFrom}
use Rattle.gz_client.proofs.Kept.{AreBefore, none_before, kept_past, kept_here, one_more_before}
use Rattle.gz_client.proofs.client.live.live_in.Goals as goal

pub loop-place-init : goal.loop-place-init
loop-place-init c = λ apart. none_before c.args.running.now

pub returns-in-None : goal.returns-in-None
returns-in-None c = λ apart.
    kept_past c.args.running.now c.loop-place.low c.loop-place.place c.args.i (c.loop-place.invariant apart) (omega arith)
    (subst (IsLeastLiveFrom c.args.running.now c.loop-place.low) c.in-None.is (c.least_from.ensures apart.rising))

pub loop-place-preserved : goal.loop-place-preserved
loop-place-preserved c = λ apart.
    subst (λ low. AreBefore c.args.running.now low (c.loop-place.place + 1)) (ap (λ n. n + 1) (sym c.from-low.ensures))
    (one_more_before c.args.running.now c.loop-place.low c.loop-place.place c.in-Some.n apart (c.loop-place.invariant apart)
    (subst (IsLeastLiveFrom c.args.running.now c.loop-place.low) c.in-Some.is (c.least_from.ensures apart.rising)))

pub returns : goal.returns
returns c = λ apart.
    kept_here c.args.running.now c.loop-place.low c.args.i c.least_from-2.result
    (subst (AreBefore c.args.running.now c.loop-place.low) (omega arith) (c.loop-place.invariant apart)) (c.least_from-2.ensures apart.rising)
