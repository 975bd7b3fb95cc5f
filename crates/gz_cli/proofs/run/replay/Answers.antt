use Rattle.std.proofs.Common.{inl, inr}
use Rattle.std.specs.Prelude.{option_map}
use Rattle.gz_site.specs.Files.{IsSomePart}
use Rattle.gz_script.specs.Plays.{Plays, PlaysInPart}
use Rattle.gz_world.specs.declared.events.ApplyError.TheVariants.{Full, NoMemory}
use Rattle.gz_cli.specs.Runs.{Whole}
use Rattle.gz_cli.specs.Worlds.{IsFilled, log_of_world}
use Rattle.gz_cli.proofs.ReplayLemmas.{replays}
use Rattle.gz_cli.proofs.run.replay.Goals as goal

pub returns-in-Ok-clause-done : goal.returns-in-Ok-clause-done
returns-in-Ok-clause-done g c = λ done.
    replays g.S.Site.told Plays (g.F.Shelf.files c.args.shelf.now) c.args.schedule.now (option_map (λ name. name.now) c.args.config) c.args.bench.now.sites.items c.replay_lines.new.bench.world
    (λ w. Whole (g.O.Sink.written c.args.out.now) (log_of_world w) (g.O.Sink.written c.replay_lines.new.out)) c.in-Ok.inputs.config c.as_slice.result.now c.in-Ok.inputs.lines.items
    c.in-Ok.ensures.configures c.in-Ok.ensures.loads c.as_slice.ensures.value (c.replay_lines.ensures.done done)

pub returns-in-Ok-clause-unwritten : goal.returns-in-Ok-clause-unwritten
returns-in-Ok-clause-unwritten g c = λ fault.
    replays g.S.Site.told Plays (g.F.Shelf.files c.args.shelf.now) c.args.schedule.now (option_map (λ name. name.now) c.args.config) c.args.bench.now.sites.items c.replay_lines.new.bench.world
    (λ w. IsSomePart (g.O.Sink.written c.args.out.now) (log_of_world w) (g.O.Sink.written c.replay_lines.new.out)) c.in-Ok.inputs.config c.as_slice.result.now c.in-Ok.inputs.lines.items
    c.in-Ok.ensures.configures c.in-Ok.ensures.loads c.as_slice.ensures.value (c.replay_lines.ensures.unwritten fault)

pub returns-in-Ok-clause-full : goal.returns-in-Ok-clause-full
returns-in-Ok-clause-full g c = λ events held full.
    let filled = c.replay_lines.ensures.full events held full in (
      replays g.S.Site.told (PlaysInPart Full) (g.F.Shelf.files c.args.shelf.now) c.args.schedule.now (option_map (λ name. name.now) c.args.config) c.args.bench.now.sites.items
          c.replay_lines.new.bench.world (IsFilled events held) c.in-Ok.inputs.config c.as_slice.result.now c.in-Ok.inputs.lines.items c.in-Ok.ensures.configures c.in-Ok.ensures.loads
          c.as_slice.ensures.value filled.0,
      filled.1,
    )

pub returns-in-Ok-clause-memory : goal.returns-in-Ok-clause-memory
returns-in-Ok-clause-memory g c = λ memory.
    let before = g.O.Sink.written c.args.out.now in
    let after = g.O.Sink.written c.replay_lines.new.out in
    elim (c.replay_lines.ensures.memory memory) [
      | inl broken ↦ inr (inl (replays g.S.Site.told (PlaysInPart NoMemory) (g.F.Shelf.files c.args.shelf.now) c.args.schedule.now (option_map (λ name. name.now) c.args.config)
          c.args.bench.now.sites.items c.replay_lines.new.bench.world _ c.in-Ok.inputs.config c.as_slice.result.now c.in-Ok.inputs.lines.items c.in-Ok.ensures.configures c.in-Ok.ensures.loads
          c.as_slice.ensures.value broken))
      | inr whole ↦ inr (inr (replays g.S.Site.told Plays (g.F.Shelf.files c.args.shelf.now) c.args.schedule.now (option_map (λ name. name.now) c.args.config) c.args.bench.now.sites.items
          c.replay_lines.new.bench.world (λ w. IsSomePart before (log_of_world w) after) c.in-Ok.inputs.config c.as_slice.result.now c.in-Ok.inputs.lines.items c.in-Ok.ensures.configures
          c.in-Ok.ensures.loads c.as_slice.ensures.value whole))
    ]
