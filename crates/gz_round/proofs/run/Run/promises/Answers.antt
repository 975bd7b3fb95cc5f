use Rattle.std.proofs.Common.{◌≡◌, subst, arith}
use Rattle.gz_round.specs.Choosing.{AreHeardIn}
use Rattle.gz_round.proofs.run.Run.promises.Goals as goal

pub at-requires : goal.at-requires
at-requires c = omega (arith, c.requires.rows)

pub note_promise-requires : goal.note_promise-requires
note_promise-requires c =
    let sites = c.requires.config.sites in
    omega arith

pub loop-at-preserved : goal.loop-at-preserved
loop-at-preserved c = c.in_ok-note_promise.ensures c.args.config.now c.args.self.now.rows (omega arith) c.at.ensures c.loop-at.invariant

pub returns : goal.returns
returns c =
    let done : c.loop-at.at ≡ c.args.config.now.n = omega arith in
    subst (AreHeardIn c.args.config.now c.args.self.now.rows c.args.version c.args.ballot c.loop-at.heard) done c.loop-at.invariant
