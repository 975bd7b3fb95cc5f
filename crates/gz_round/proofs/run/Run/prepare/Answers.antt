use Rattle.std.proofs.Common.{arith}
use Rattle.gz_round.specs.Acting.{CanPrepare}
use Rattle.gz_round.proofs.Prepares.{rounds_below}
use Rattle.gz_round.proofs.run.Run.prepare.Goals as goal

pub next_ballot-ballot-requires-clause-used : goal.next_ballot-ballot-requires-clause-used
next_ballot-ballot-requires-clause-used c = omega (arith, c.requires.round, c.requires.first)

pub next_ballot-ballot-requires-clause-known : goal.next_ballot-ballot-requires-clause-known
next_ballot-ballot-requires-clause-known c =
    let k : CanPrepare c.args.config.now c.args.self.now c.args.version = c.requires.prepares in
    rounds_below c.args.config.now k.0 k.1 c.args.self.now _ c.args.version k.3.stands
