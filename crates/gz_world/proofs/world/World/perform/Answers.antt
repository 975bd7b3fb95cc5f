use Rattle.std.proofs.Common.{refl, subst, ◌∙◌}
use Rattle.gz_world.specs.Deliveries.{LeavesSites, LeavesAll}
use Rattle.gz_world.specs.Told.{StaysBy}
use Rattle.gz_world.specs.declared.events.Outcome.{Outcome}
use Rattle.gz_world.proofs.Idle.{clients_between}
use Rattle.gz_world.proofs.Results.{on_err_any}
use Rattle.gz_world.proofs.Performing.{steps_of, stays_reserved, stays_then, fits_kept_by}
use Rattle.gz_world.proofs.Faults.{counted_then, leaves_between}
use Rattle.gz_world.proofs.world.World.perform.Goals as goal

pub returns-in_err-reserve-clause-err : goal.returns-in_err-reserve-clause-err
returns-in_err-reserve-clause-err g c =
    let v = record c.args.self.now { journal = c.reserve.new.self } in
    on_err_any c.from_residual.result (StaysBy g.S.Site.told c.args.self.now v) (stays_reserved g.S.Site.told c.args.self.now v (record { cfg = refl; sites = refl; net = refl; clients = refl; calls = refl; casts = refl; held = refl; journal = c.reserve.ensures.items }))

pub do_event-requires-clause-fits : goal.do_event-requires-clause-fits
do_event-requires-clause-fits g c = (c.requires.fits.0, fits_kept_by c.requires.fits.0 c.args.self.now (record c.args.self.now { journal = c.reserve.new.self }) (record { cfg = refl; sites = refl; net = refl; clients = refl; calls = refl; casts = refl; held = refl; journal = c.reserve.ensures.items }) c.requires.fits.1)

pub returns-in_err-effect-clause-err : goal.returns-in_err-effect-clause-err
returns-in_err-effect-clause-err g c =
    let v = record c.args.self.now { journal = c.reserve.new.self } in
    on_err_any c.from_residual-in_err-effect.result (StaysBy g.S.Site.told c.args.self.now c.do_event.new.self)
    (stays_then g.S.Site.told c.args.self.now v c.do_event.new.self
    (stays_reserved g.S.Site.told c.args.self.now v (record { cfg = refl; sites = refl; net = refl; clients = refl; calls = refl; casts = refl; held = refl; journal = c.reserve.ensures.items }))
    c.in_err-effect.ensures.err)

pub returns-clause-step : goal.returns-clause-step
returns-clause-step g c =
    steps_of g.S.Site.told c.args.self.now (record c.args.self.now { journal = c.reserve.new.self }) c.do_event.new.self c.enter.new.self c.args.event c.in_ok-effect.effect c.enter.ensures.told.0 c.enter.result
    (record { cfg = refl; sites = refl; net = refl; clients = refl; calls = refl; casts = refl; held = refl; journal = c.reserve.ensures.items })
    c.in_ok-effect.ensures.acts c.do_event.ensures.journal c.enter.ensures.told.1.0 c.enter.ensures.told.1.1

pub returns-clause-fault : goal.returns-clause-fault
returns-clause-fault g c = λ n e. counted_then g.S.Site.faults c.args.self.now c.do_event.new.self c.enter.new.self n c.enter.ensures.net c.enter.ensures.sites (c.in_ok-effect.ensures.fault n e)

pub returns-clause-sites : goal.returns-clause-sites
returns-clause-sites g c = λ l. c.enter.ensures.sites ∙ c.in_ok-effect.ensures.sites (subst (λ (o : Outcome). LeavesSites c.args.event o) c.enter.ensures.outcome l)

pub returns-clause-others : goal.returns-clause-others
returns-clause-others g c = leaves_between c.args.self.now (record c.args.self.now { journal = c.reserve.new.self }) c.do_event.new.self c.enter.new.self c.args.event refl refl c.enter.ensures.sites c.do_event.ensures.others

pub returns-clause-idle : goal.returns-clause-idle
returns-clause-idle g c =
    clients_between c.args.self.now (record c.args.self.now { journal = c.reserve.new.self }) c.do_event.new.self c.enter.new.self c.args.event c.in_ok-effect.effect.outcome c.enter.result.outcome refl refl c.enter.ensures.clients c.enter.ensures.outcome c.in_ok-effect.ensures.idle

pub returns-in_err-reserve-clause-kept : goal.returns-in_err-reserve-clause-kept
returns-in_err-reserve-clause-kept g c =
    let v = record c.args.self.now { journal = c.reserve.new.self } in
    on_err_any c.from_residual.result (LeavesAll c.args.self.now c.args.event v) (record { clients = refl; sites = λ none. refl })

pub returns-in_err-effect-clause-kept : goal.returns-in_err-effect-clause-kept
returns-in_err-effect-clause-kept g c =
    on_err_any c.from_residual-in_err-effect.result (LeavesAll c.args.self.now c.args.event c.do_event.new.self) (record { clients = c.in_err-effect.ensures.kept.clients; sites = c.in_err-effect.ensures.kept.sites })
