use Rattle.std.proofs.Common.{refl}
use Rattle.gz_round.proofs.Passes.{alone_last}
use Rattle.gz_round.proofs.Turns.{close_turned}
use Rattle.gz_round.specs.Following.{IsReady}
use Rattle.gz_round.proofs.run.Run.close.Goals as goal

pub returns-clause-turned : goal.returns-clause-turned
returns-clause-turned c = λ w past ms r comes.
    let done = c.in_ok-send.ensures.asked w past ms (record { stands = r.stands; may = tt; held = tt; unnoticed = r.unnoticed }) in
    close_turned c.args.config.now w past c.args.self.now c.first_pass.new.self ms c.args.first c.in_ok-send.send c.args.outcome r.stands comes done c.in_ok-send.ensures.left (c.in_ok-send.ensures.stepless tt)

pub returns-clause-ends : goal.returns-clause-ends
returns-clause-ends c = alone_last c.args.outcome c.in_ok-send.send (c.in_ok-send.ensures.alone refl)

pub first_pass-requires-clause-asks : goal.first_pass-requires-clause-asks
first_pass-requires-clause-asks c =
    let k : IsReady c.args.config.now c.args.self.now = c.requires.ready in
    (k.0, k.1, k.2, record { stands = k.3.stands; may = tt; held = tt; unnoticed = k.3.unnoticed })
