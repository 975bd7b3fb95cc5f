use Rattle.std.proofs.Common.{refl, false, true}
use Rattle.gz_world.proofs.Performing.{steps_then, stays_reserved, stays_then, reached_step, reached_same}
use Rattle.gz_world.proofs.world.World.apply.Goals as goal

pub returns-in-Ok-clause-step : goal.returns-in-Ok-clause-step
returns-in-Ok-clause-step g c =
    steps_then g.S.Site.told c.args.self.now c.perform.new.self (record c.perform.new.self { spent = false }) c.args.event c.in-Ok.applied c.in-Ok.ensures.step
    (record { cfg = refl; sites = refl; net = refl; clients = refl; calls = refl; casts = refl; held = refl; journal = refl })

pub returns-in-Ok-clause-fits : goal.returns-in-Ok-clause-fits
returns-in-Ok-clause-fits g c =
    let k = returns-in-Ok-clause-step g c c.requires.fits.0 c.requires.fits.1 in
    (k.0, k.1.0)

pub returns-in-Ok-clause-reached : goal.returns-in-Ok-clause-reached
returns-in-Ok-clause-reached g c = reached_step g.S.Site.told c.args.self.now (record c.perform.new.self { spent = false }) c.args.event c.in-Ok.applied (returns-in-Ok-clause-step g c)

pub returns-in-Err-clause-err : goal.returns-in-Err-clause-err
returns-in-Err-clause-err g c =
    stays_then g.S.Site.told c.args.self.now c.perform.new.self (record c.perform.new.self { spent = true }) c.in-Err.ensures.err
    (stays_reserved g.S.Site.told c.perform.new.self (record c.perform.new.self { spent = true }) (record { cfg = refl; sites = refl; net = refl; clients = refl; calls = refl; casts = refl; held = refl; journal = refl }))

pub returns-in-Err-clause-fits : goal.returns-in-Err-clause-fits
returns-in-Err-clause-fits g c = let k = returns-in-Err-clause-err g c c.requires.fits.0 c.requires.fits.1 in (c.requires.fits.0, k.0)

pub returns-in-Err-clause-reached : goal.returns-in-Err-clause-reached
returns-in-Err-clause-reached g c = reached_same g.S.Site.told c.args.self.now (record c.perform.new.self { spent = true }) (returns-in-Err-clause-err g c)
