use Rattle.std.proofs.Common.{arith}
use Rattle.std.proofs.lemmas.Result.{IfOk-weaker}
use Rattle.gz_round.specs.Acting.{CanSkip}
use Rattle.gz_round.proofs.Casts.{above_skipping, cast_runs, skip_goes_on}
use Rattle.gz_round.proofs.Phases.{cast_from}
use Rattle.gz_round.proofs.run.Run.skip.Goals as goal

pub cast-requires-clause-config : goal.cast-requires-clause-config
cast-requires-clause-config c = c.requires.config

pub cast-requires-clause-first : goal.cast-requires-clause-first
cast-requires-clause-first c = c.requires.first

pub cast-requires-clause-votes : goal.cast-requires-clause-votes
cast-requires-clause-votes c =
    let k : CanSkip c.args.config.now c.args.self.now c.args.version = c.requires.skips in
    (k.0, k.1, k.2, k.3.votes)

pub returns-then-waits-clause-turned : goal.returns-then-waits-clause-turned
returns-then-waits-clause-turned c = λ w past ms s.
    cast_runs c.args.config.now w past c.cast.new.self _ c.args.version (c.in_ok-send.ensures.cast w past ms s.votes) (above_skipping c.args.config.now w past c.args.self.now ms c.args.version c.args.first c.in_ok-send.send s) (cc)

pub returns-then-waits-clause-ends : goal.returns-then-waits-clause-ends
returns-then-waits-clause-ends c = tt

pub after_skip-requires-clause-config : goal.after_skip-requires-clause-config
after_skip-requires-clause-config c = c.requires.config

pub after_skip-requires-clause-first : goal.after_skip-requires-clause-first
after_skip-requires-clause-first c = c.requires.first

pub after_skip-requires-clause-round : goal.after_skip-requires-clause-round
after_skip-requires-clause-round c = omega (arith, c.requires.round, c.in_ok-send.ensures.round)

pub after_skip-requires-clause-skipped : goal.after_skip-requires-clause-skipped
after_skip-requires-clause-skipped c =
    let k : CanSkip c.args.config.now c.args.self.now c.args.version = c.requires.skips in
    (k.0, k.1, k.2, skip_goes_on c.args.config.now k.0 k.1 c.args.self.now c.cast.new.self k.2 c.args.version c.args.first c.in_ok-send.send k.3 (c.in_ok-send.ensures.cast k.0 k.1 k.2 k.3.votes) (c.in_ok-send.ensures.idle (cc)) (cc))

pub returns-clause-turned : goal.returns-clause-turned
returns-clause-turned c =
    IfOk-weaker c.after_skip.result _ _ (λ turn p. λ w past ms s.
    p w past ms (skip_goes_on c.args.config.now w past c.args.self.now c.cast.new.self ms c.args.version c.args.first c.in_ok-send.send s (c.in_ok-send.ensures.cast w past ms s.votes) (c.in_ok-send.ensures.idle (cc)) (cc))) c.after_skip.ensures.turned

pub returns-then-waits-clause-from : goal.returns-then-waits-clause-from
returns-then-waits-clause-from c =
    let k : CanSkip c.args.config.now c.args.self.now c.args.version = c.requires.skips in
    λ goes. cast_from c.cast.new.self.stage c.args.version (c.in_ok-send.ensures.cast k.0 k.1 k.2 k.3.votes).stage_is
