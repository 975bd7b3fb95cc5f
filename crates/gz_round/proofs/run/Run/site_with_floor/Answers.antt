use Rattle.std.proofs.Common.{sym, ◌∙◌, ap}
use Rattle.gz_round.specs.Floors.{top_floor_of}
use Rattle.gz_round.proofs.HeardFloors.{floor_somewhere}
use Rattle.gz_round.proofs.run.Run.site_with_floor.Goals as goal

pub unreachable-requires : goal.unreachable-requires
unreachable-requires c = floor_somewhere c.as_slice.result.now c.args.floor c.requires.floor (c.requires.top ∙ ap top_floor_of (sym c.as_slice.ensures)) c.in-None.ensures
