use Rattle.std.proofs.Common.{arith}
use Rattle.std.specs.Prelude.{length}
use Rattle.gz_script.specs.Plays.{SettlesInPart, ChangesBy}
use Rattle.gz_script.proofs.LineLemmas.{settle_more, settle_ends, settle_tires, settle_stops}
use Rattle.gz_script.proofs.PlayLemmas.{if_err_of}
use Rattle.gz_script.proofs.playing.settle.Goals as goal

pub returns-in-None-clause-ok : goal.returns-in-None-clause-ok
returns-in-None-clause-ok g c =
    settle_ends g.S.Site.told c.args.world.now c.loop.world c.args.session c.args.without.now c.loop.counter (omega arith)
    (λ traces fits. c.in-None.ensures (length c.loop.world.journal.items) traces fits) c.loop.invariant.settles

pub returns-in_err-settle_request-in-Some-clause-err : goal.returns-in_err-settle_request-in-Some-clause-err
returns-in_err-settle_request-in-Some-clause-err g c =
    let error = c.in_err-settle_request-in-Some.field-0.0 in
    if_err_of c.from_residual.result error (λ e. ChangesBy g.S.Site.told (SettlesInPart e c.args.session c.args.without.now) c.args.world.now c.settle_request.new.world) c.from_residual.ensures.1
    (settle_stops g.S.Site.told error c.args.world.now c.loop.world c.settle_request.new.world c.args.session c.args.without.now c.loop.counter c.in-Some.n (omega arith)
    (λ traces fits. c.in-Some.ensures (length c.loop.world.journal.items) traces fits) c.loop.invariant.settles c.in_err-settle_request-in-Some.ensures.err)

pub loop-preserved : goal.loop-preserved
loop-preserved g c = record {
  fits = c.settle_request.ensures.fits;
  settles = settle_more g.S.Site.told c.args.world.now c.loop.world c.settle_request.new.world c.args.session c.args.without.now c.loop.counter c.in-Some.n
      (λ traces fits. c.in-Some.ensures (length c.loop.world.journal.items) traces fits) c.loop.invariant.settles c.in_ok-settle_request-in-Some.ensures.ok;
}

pub returns-clause-ok : goal.returns-clause-ok
returns-clause-ok g c = settle_tires g.S.Site.told c.args.world.now c.loop.world c.args.session c.args.without.now c.loop.counter (omega arith) c.loop.invariant.settles
