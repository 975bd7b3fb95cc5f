use Rattle.std.proofs.Common.{take, map}
use Rattle.gz_world.specs.Fits.{IsFitting}
use Rattle.gz_world.specs.States.{request_of}
use Rattle.gz_script.specs.Outboxes.{AreUnansweredListed}
use Rattle.gz_script.specs.Plays.{Plays, ChangesBy}
use Rattle.gz_script.proofs.playing.play.Given as goal

abbrev pub invariant-loop-line : goal.invariant-loop-line
invariant-loop-line g l = record {
  fits : IsFitting l.world;
  listed : AreUnansweredListed l.boxes (map request_of l.world.net.items);
  plays : ChangesBy g.S.Site.told (Plays (take l.line-index l.lines)) l.fn.world l.world;
}
