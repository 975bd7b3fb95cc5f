use Rattle.std.proofs.Common.{refl, sym, subst, inl, inr}
use Rattle.gz_world.specs.declared.events.ApplyError.TheVariants.{Full, NoMemory}
use Rattle.gz_script.specs.Plays.{Plays, PlaysInPart}
use Rattle.gz_cli.specs.declared.status.Status.{Status}
use Rattle.gz_cli.specs.Causes.{HasPlayed}
use Rattle.gz_cli.specs.Worlds.{PlaysSome}
use Rattle.gz_cli.proofs.WorldLemmas.{played, reached-by, legal-by, agrees-by}
use Rattle.gz_cli.proofs.replay.replay_lines.Goals as goal

pub returns-clause-done : goal.returns-clause-done
returns-clause-done g c = λ done. record {
  world = c.play_and_write-status.new.world;
  is_left = refl;
  played =
      played c.args.config g.S.Site.told c.args.bench.now.sites.items (Plays c.args.lines.now) c.open-world.result c.play_and_write-status.new.world c.requires.config c.open-world.ensures.opened c.requires.fresh
      (c.play_and_write-status.ensures.plays (subst (λ (s : Status). HasPlayed s) (sym done) tt));
  holds = c.play_and_write-status.ensures.done done;
}

pub returns-clause-unwritten : goal.returns-clause-unwritten
returns-clause-unwritten g c = λ fault. record {
  world = c.play_and_write-status.new.world;
  is_left = refl;
  played =
      played c.args.config g.S.Site.told c.args.bench.now.sites.items (Plays c.args.lines.now) c.open-world.result c.play_and_write-status.new.world c.requires.config c.open-world.ensures.opened c.requires.fresh
      (c.play_and_write-status.ensures.plays (subst (λ (s : Status). HasPlayed s) (sym fault) tt));
  holds = c.play_and_write-status.ensures.part;
}

pub returns-clause-full : goal.returns-clause-full
returns-clause-full g c = λ events held full.
    let k = c.play_and_write-status.ensures.full events held full in (
      record {
        world = c.play_and_write-status.new.world;
        is_left = refl;
        played =
            played c.args.config g.S.Site.told c.args.bench.now.sites.items (PlaysInPart Full c.args.lines.now) c.open-world.result c.play_and_write-status.new.world c.requires.config c.open-world.ensures.opened
            c.requires.fresh k.0;
        holds = k.1;
      },
      k.2,
    )

pub returns-clause-memory : goal.returns-clause-memory
returns-clause-memory g c = λ memory. elim (c.play_and_write-status.ensures.memory memory) [
  | inl broken ↦ inl (record {
    world = c.play_and_write-status.new.world;
    is_left = refl;
    played =
        played c.args.config g.S.Site.told c.args.bench.now.sites.items (PlaysInPart NoMemory c.args.lines.now) c.open-world.result c.play_and_write-status.new.world c.requires.config c.open-world.ensures.opened
        c.requires.fresh broken.0;
    holds = broken.1;
  })
  | inr whole ↦ inr (record {
    world = c.play_and_write-status.new.world;
    is_left = refl;
    played =
        played c.args.config g.S.Site.told c.args.bench.now.sites.items (Plays c.args.lines.now) c.open-world.result c.play_and_write-status.new.world c.requires.config c.open-world.ensures.opened c.requires.fresh whole;
    holds = c.play_and_write-status.ensures.part;
  })
]

pub returns-clause-reached : goal.returns-clause-reached
returns-clause-reached g c =
    let p = played c.args.config g.S.Site.told c.args.bench.now.sites.items (PlaysSome c.args.lines.now) c.open-world.result c.play_and_write-status.new.world c.requires.config c.open-world.ensures.opened c.requires.fresh
    c.play_and_write-status.ensures.some in
    reached-by c.args.config g.S.Site.told c.args.bench.now.sites.items c.args.lines.now c.play_and_write-status.new.world p

pub returns-clause-legal : goal.returns-clause-legal
returns-clause-legal g c = λ tell.
    let p = played c.args.config g.S.Site.told c.args.bench.now.sites.items (PlaysSome c.args.lines.now) c.open-world.result c.play_and_write-status.new.world c.requires.config c.open-world.ensures.opened c.requires.fresh
    c.play_and_write-status.ensures.some in
    legal-by c.args.config g.S.Site.told c.args.bench.now.sites.items c.args.lines.now c.play_and_write-status.new.world p tell

pub returns-clause-agreed : goal.returns-clause-agreed
returns-clause-agreed g c = λ tell.
    let p = played c.args.config g.S.Site.told c.args.bench.now.sites.items (PlaysSome c.args.lines.now) c.open-world.result c.play_and_write-status.new.world c.requires.config c.open-world.ensures.opened c.requires.fresh
    c.play_and_write-status.ensures.some in
    agrees-by c.args.config g.S.Site.told c.args.bench.now.sites.items c.args.lines.now c.play_and_write-status.new.world p tell
