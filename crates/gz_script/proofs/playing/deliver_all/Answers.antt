use Rattle.std.proofs.Common.{map, arith}
use Rattle.gz_world.specs.declared.events.Event.TheVariants as events
use Rattle.gz_script.specs.Plays.{HappenInPart, ChangesBy}
use Rattle.gz_script.proofs.LineLemmas.{drain_more, drain_stops, drain_ends}
use Rattle.gz_script.proofs.PlayLemmas.{if_err_of}
use Rattle.gz_script.proofs.playing.deliver_all.Goals as goal

pub returns-in_err-happen-clause-err : goal.returns-in_err-happen-clause-err
returns-in_err-happen-clause-err g c =
    let es = map (λ n. events.Deliver n) c.args.numbers.now in
    let error = c.in_err-happen.field-0.0 in
    if_err_of c.from_residual.result error (λ e. ChangesBy g.S.Site.told (HappenInPart e es) c.args.world.now c.happen.new.world) c.from_residual.ensures.1
    (drain_stops g.S.Site.told error c.args.world.now c.loop-n.world c.happen.new.world c.args.numbers.now c.loop-n.n-index (omega arith) c.loop-n.invariant.delivered c.in_err-happen.ensures.err)

pub loop-n-preserved : goal.loop-n-preserved
loop-n-preserved g c = record {
  fits = c.happen.ensures.fits;
  delivered = drain_more g.S.Site.told c.args.world.now c.loop-n.world c.happen.new.world c.args.numbers.now c.loop-n.n-index (omega arith) c.loop-n.invariant.delivered c.in_ok-happen.ensures.ok;
}

pub returns-clause-ok : goal.returns-clause-ok
returns-clause-ok g c = drain_ends g.S.Site.told c.args.world.now c.loop-n.world c.args.numbers.now c.loop-n.n-index (omega arith) c.loop-n.invariant.delivered
