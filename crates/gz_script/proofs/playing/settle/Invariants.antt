use Rattle.gz_world.specs.Fits.{IsFitting}
use Rattle.gz_script.specs.Plays.{SettlesTimes, ChangesBy}
use Rattle.gz_script.proofs.playing.settle.Given as goal

abbrev pub invariant-loop : goal.invariant-loop
invariant-loop g l = record {
  fits : IsFitting l.world;
  settles : ChangesBy g.S.Site.told (SettlesTimes l.session l.without l.counter) l.fn.world l.world;
}
