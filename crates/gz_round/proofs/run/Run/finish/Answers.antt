use Rattle.gz_round.specs.Acting.{CanFinish}
use Rattle.gz_round.proofs.Turns.{finish_asks, finish_notice, finish_step, finish_turned}
use Rattle.gz_round.proofs.run.Run.finish.Goals as goal

pub returns-clause-ends : goal.returns-clause-ends
returns-clause-ends c = c.in_ok-send.ensures.stepless (finish_notice c.args.self.now c.args.version c.in_ok-step.step c.in_ok-step.ensures)

pub returns-clause-turned : goal.returns-clause-turned
returns-clause-turned c = λ w past ms f. finish_turned c.args.config.now w past c.args.self.now c.first_pass.new.self ms c.args.first c.in_ok-send.send c.args.version c.in_ok-step.step f c.in_ok-step.ensures (c.in_ok-send.ensures.asked w past ms)

pub first_pass-requires-clause-config : goal.first_pass-requires-clause-config
first_pass-requires-clause-config c = c.requires.config

pub first_pass-requires-clause-first : goal.first_pass-requires-clause-first
first_pass-requires-clause-first c = c.requires.first

pub first_pass-requires-clause-step : goal.first_pass-requires-clause-step
first_pass-requires-clause-step c =
    let k : CanFinish c.args.config.now c.args.self.now c.args.version = c.requires.finishes in
    finish_step c.args.self.now c.args.version c.in_ok-step.step k.3.above c.in_ok-step.ensures

pub first_pass-requires-clause-asks : goal.first_pass-requires-clause-asks
first_pass-requires-clause-asks c =
    let k : CanFinish c.args.config.now c.args.self.now c.args.version = c.requires.finishes in
    (k.0, k.1, k.2, finish_asks c.args.config.now k.0 k.1 c.args.self.now k.2 c.args.version c.in_ok-step.step k.3 c.in_ok-step.ensures)
