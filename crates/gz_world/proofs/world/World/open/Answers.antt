use Rattle.std.proofs.Common.{◌≤◌, arith, length, refl, false}
use Rattle.gz_world.proofs.Opened.{fits_opened, reached_opened, no_traces_yet}
use Rattle.gz_world.proofs.world.World.open.Goals as goal

pub returns-clause-fits : goal.returns-clause-fits
returns-clause-fits g c =
    let enough : c.args.cfg.n ≤ length c.args.sites.items = omega (arith, c.if-len-cfg.false, c.len.ensures, c.args.sites.ok) in (
      no_traces_yet,
      fits_opened c.args.cfg c.args.sites.items
          (record { cfg = c.args.cfg; sites = c.args.sites; net = c.new.result; clients = c.new-2.result; journal = c.new-3.result; casts = c.new-4.result; calls = c.new-5.result; held = 0; spent = false; alloc = c.args.alloc })
          c.requires enough
          (record { cfg_is = refl; sites_are = refl; net = c.new.ensures.items; clients = c.new-2.ensures.items; journal = c.new-3.ensures.items; casts = c.new-4.ensures; calls = c.new-5.ensures.items; held = refl; spent = refl }),
    )

pub returns-clause-reached : goal.returns-clause-reached
returns-clause-reached g c =
    let enough : c.args.cfg.n ≤ length c.args.sites.items = omega (arith, c.if-len-cfg.false, c.len.ensures, c.args.sites.ok) in
    reached_opened g.S.Site.told c.args.cfg c.args.sites.items
    (record { cfg = c.args.cfg; sites = c.args.sites; net = c.new.result; clients = c.new-2.result; journal = c.new-3.result; casts = c.new-4.result; calls = c.new-5.result; held = 0; spent = false; alloc = c.args.alloc })
    c.requires enough
    (record { cfg_is = refl; sites_are = refl; net = c.new.ensures.items; clients = c.new-2.ensures.items; journal = c.new-3.ensures.items; casts = c.new-4.ensures; calls = c.new-5.ensures.items; held = refl; spent = refl })
