use Rattle.gz_round.specs.Acting.{CanCast}
use Rattle.gz_round.proofs.Casts.{votes_ask, cast_is_step, cast_plain, cast_round, has_cast}
use Rattle.gz_round.proofs.run.Run.cast.Goals as goal

pub first_pass-requires-clause-config : goal.first_pass-requires-clause-config
first_pass-requires-clause-config c = c.requires.config

pub first_pass-requires-clause-first : goal.first_pass-requires-clause-first
first_pass-requires-clause-first c = c.requires.first

pub first_pass-requires-clause-step : goal.first_pass-requires-clause-step
first_pass-requires-clause-step c =
    let k : CanCast c.args.config.now c.args.self.now c.args.version = c.requires.votes in
    cast_is_step c.args.config.now k.0 k.1 c.args.self.now k.2 c.args.version c.in_ok-step.step k.3 c.in_ok-step.ensures

pub first_pass-requires-clause-asks : goal.first_pass-requires-clause-asks
first_pass-requires-clause-asks c =
    let k : CanCast c.args.config.now c.args.self.now c.args.version = c.requires.votes in
    (k.0, k.1, k.2, votes_ask c.args.config.now k.0 k.1 c.args.self.now k.2 c.args.version c.in_ok-step.step k.3 c.in_ok-step.ensures)

pub returns-clause-cast : goal.returns-clause-cast
returns-clause-cast c = λ w past ms n.
    has_cast c.args.config.now w past c.args.self.now c.first_pass.new.self ms c.args.version c.args.first c.in_ok-send.send c.in_ok-step.step n c.in_ok-step.ensures (c.in_ok-send.ensures.asked w past ms) c.in_ok-send.ensures.left

pub returns-clause-rows : goal.returns-clause-rows
returns-clause-rows c = c.in_ok-send.ensures.left.rows

pub returns-clause-round : goal.returns-clause-round
returns-clause-round c = cast_round c.args.self.now c.first_pass.new.self c.args.version c.in_ok-step.step c.in_ok-step.ensures c.in_ok-send.ensures.left

pub returns-clause-idle : goal.returns-clause-idle
returns-clause-idle c = c.in_ok-send.ensures.idle (cast_plain c.args.self.now c.args.version c.in_ok-step.step c.in_ok-step.ensures)
