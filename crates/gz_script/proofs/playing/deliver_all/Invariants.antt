use Rattle.std.proofs.Common.{take, map}
use Rattle.gz_world.specs.Fits.{IsFitting}
use Rattle.gz_world.specs.declared.events.Event.TheVariants as events
use Rattle.gz_script.specs.Plays.{Happen, ChangesBy}
use Rattle.gz_script.proofs.playing.deliver_all.Given as goal

abbrev pub invariant-loop-n : goal.invariant-loop-n
invariant-loop-n g l = record {
  fits : IsFitting l.world;
  delivered : ChangesBy g.S.Site.told (Happen (take l.n-index (map (λ n. events.Deliver n) l.numbers))) l.fn.world l.world;
}
