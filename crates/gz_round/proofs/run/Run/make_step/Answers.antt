use Rattle.std.proofs.Common.{arith}
use Rattle.std.proofs.lemmas.Result.{IfOk-weaker}
use Rattle.gz_round.specs.Acting.{CanStep}
use Rattle.gz_round.proofs.Turns.{steps_ask, steps_step, step_plain, stepped_from, stepped_runs, stepped_out, stepped_round}
use Rattle.gz_round.proofs.Phases.{left_no_vote, no_vote_then}
use Rattle.gz_round.proofs.run.Run.make_step.Goals as goal

pub returns-then-waits-clause-turned : goal.returns-then-waits-clause-turned
returns-then-waits-clause-turned c = λ w past ms p.
    stepped_runs c.args.config.now w past c.first_pass.new.self _ (stepped_from c.args.config.now w past c.args.self.now c.first_pass.new.self ms c.args.first c.in_ok-send.send c.in_ok-step.step p c.in_ok-step.ensures (c.in_ok-send.ensures.asked w past ms) c.in_ok-send.ensures.left) (cc)

pub run_out-requires-clause-runs_out : goal.run_out-requires-clause-runs_out
run_out-requires-clause-runs_out c =
    let k : CanStep c.args.config.now c.args.self.now = c.requires.steps in (
      k.0,
      k.1,
      k.2,
      stepped_out c.args.config.now k.0 k.1 c.args.self.now c.first_pass.new.self k.2 c.args.first c.in_ok-send.send c.in_ok-step.step k.3 c.in_ok-step.ensures c.in_ok-send.ensures.left
          (stepped_from c.args.config.now k.0 k.1 c.args.self.now c.first_pass.new.self k.2 c.args.first c.in_ok-send.send c.in_ok-step.step k.3 c.in_ok-step.ensures (c.in_ok-send.ensures.asked k.0 k.1 k.2) c.in_ok-send.ensures.left)
          (cc)
          (c.in_ok-send.ensures.idle (step_plain c.args.self.now c.in_ok-step.step c.in_ok-step.ensures) (cc)),
    )

pub first_pass-requires-clause-asks : goal.first_pass-requires-clause-asks
first_pass-requires-clause-asks c =
    let k : CanStep c.args.config.now c.args.self.now = c.requires.steps in
    (k.0, k.1, k.2, steps_ask c.args.config.now k.0 k.1 c.args.self.now k.2 c.in_ok-step.step k.3 c.in_ok-step.ensures)

pub returns-clause-turned : goal.returns-clause-turned
returns-clause-turned c =
    IfOk-weaker c.run_out.result _ _ (λ turn h. λ w past ms p.
    h w past ms (stepped_out c.args.config.now w past c.args.self.now c.first_pass.new.self ms c.args.first c.in_ok-send.send c.in_ok-step.step p c.in_ok-step.ensures c.in_ok-send.ensures.left
    (stepped_from c.args.config.now w past c.args.self.now c.first_pass.new.self ms c.args.first c.in_ok-send.send c.in_ok-step.step p c.in_ok-step.ensures (c.in_ok-send.ensures.asked w past ms) c.in_ok-send.ensures.left)
    (cc) (c.in_ok-send.ensures.idle (step_plain c.args.self.now c.in_ok-step.step c.in_ok-step.ensures) (cc)))) c.run_out.ensures.turned

pub first_pass-requires-clause-config : goal.first_pass-requires-clause-config
first_pass-requires-clause-config c = c.requires.config

pub first_pass-requires-clause-first : goal.first_pass-requires-clause-first
first_pass-requires-clause-first c = c.requires.first

pub first_pass-requires-clause-step : goal.first_pass-requires-clause-step
first_pass-requires-clause-step c =
    let k : CanStep c.args.config.now c.args.self.now = c.requires.steps in
    steps_step c.args.config.now k.0 k.1 c.args.self.now k.2 c.in_ok-step.step k.3 c.in_ok-step.ensures

pub run_out-requires-clause-config : goal.run_out-requires-clause-config
run_out-requires-clause-config c = c.requires.config

pub run_out-requires-clause-first : goal.run_out-requires-clause-first
run_out-requires-clause-first c = c.requires.first

pub run_out-requires-clause-round : goal.run_out-requires-clause-round
run_out-requires-clause-round c =
    let k : CanStep c.args.config.now c.args.self.now = c.requires.steps in
    let round = stepped_round c.args.self.now c.first_pass.new.self c.in_ok-step.step c.in_ok-step.ensures k.3.ahead c.in_ok-send.ensures.left in
    omega (arith, c.requires.round, round)

pub returns-then-waits-clause-ends : goal.returns-then-waits-clause-ends
returns-then-waits-clause-ends c = tt

pub returns-then-waits-clause-fast : goal.returns-then-waits-clause-fast
returns-then-waits-clause-fast c = left_no_vote c.args.self.now.stage c.first_pass.new.self.stage c.in_ok-send.ensures.left.stage

pub returns-clause-fast : goal.returns-clause-fast
returns-clause-fast c = IfOk-weaker c.run_out.result _ _ (λ turn p. no_vote_then c.args.self.now.stage c.first_pass.new.self.stage _ c.in_ok-send.ensures.left.stage p) c.run_out.ensures.fast
