use Rattle.std.proofs.Common.{subst, arith}
use Rattle.std.proofs.lemmas.Result.{IfOk-weaker}
use Rattle.gz_round.specs.Acting.{CanBeginFast, Skips}
use Rattle.gz_round.proofs.Casts.{below_skipping, below_skips, cast_runs}
use Rattle.gz_round.proofs.Phases.{cast_from}
use Rattle.gz_round.proofs.run.Run.vote_below.Goals as goal

pub cast-requires-clause-config : goal.cast-requires-clause-config
cast-requires-clause-config c = c.requires.config

pub cast-requires-clause-first : goal.cast-requires-clause-first
cast-requires-clause-first c = c.requires.first

pub cast-requires-clause-votes : goal.cast-requires-clause-votes
cast-requires-clause-votes c =
    let k : CanBeginFast c.args.config.now c.args.self.now c.args.version = c.requires.begins in
    (k.0, k.1, k.2, k.3.votes)

pub returns-then-waits-clause-turned : goal.returns-then-waits-clause-turned
returns-then-waits-clause-turned c = λ w past ms b.
    cast_runs c.args.config.now w past c.cast.new.self _ c.args.version (c.in_ok-send.ensures.cast w past ms b.votes) (below_skipping c.args.config.now w past c.args.self.now ms c.args.version c.args.floor c.args.first c.in_ok-send.send b c.requires.at c.requires.top) (cc)

pub returns-then-waits-clause-ends : goal.returns-then-waits-clause-ends
returns-then-waits-clause-ends c = tt

pub skip-requires-clause-config : goal.skip-requires-clause-config
skip-requires-clause-config c = c.requires.config

pub skip-requires-clause-first : goal.skip-requires-clause-first
skip-requires-clause-first c = c.requires.first

pub skip-requires-clause-round : goal.skip-requires-clause-round
skip-requires-clause-round c = omega (arith, c.requires.round, c.in_ok-send.ensures.round)

pub skip-requires-clause-skips : goal.skip-requires-clause-skips
skip-requires-clause-skips c =
    let k : CanBeginFast c.args.config.now c.args.self.now c.args.version = c.requires.begins in (
      k.0,
      k.1,
      k.2,
      subst (Skips c.args.config.now k.0 k.1 c.cast.new.self k.2) (omega arith)
          (below_skips c.args.config.now k.0 k.1 c.args.self.now c.cast.new.self k.2 c.args.version c.args.floor c.args.first c.in_ok-send.send k.3 (c.in_ok-send.ensures.cast k.0 k.1 k.2 k.3.votes) (c.in_ok-send.ensures.idle (cc)) c.requires.rows c.in_ok-send.ensures.rows c.requires.at c.requires.top),
    )

pub returns-clause-turned : goal.returns-clause-turned
returns-clause-turned c =
    IfOk-weaker c.skip.result _ _ (λ turn p. λ w past ms b.
    p w past ms (subst (Skips c.args.config.now w past c.cast.new.self ms) (omega arith)
    (below_skips c.args.config.now w past c.args.self.now c.cast.new.self ms c.args.version c.args.floor c.args.first c.in_ok-send.send b (c.in_ok-send.ensures.cast w past ms b.votes) (c.in_ok-send.ensures.idle (cc)) c.requires.rows c.in_ok-send.ensures.rows c.requires.at c.requires.top))) c.skip.ensures.turned

pub returns-then-waits-clause-from : goal.returns-then-waits-clause-from
returns-then-waits-clause-from c =
    let k : CanBeginFast c.args.config.now c.args.self.now c.args.version = c.requires.begins in
    λ goes. cast_from c.cast.new.self.stage c.args.version (c.in_ok-send.ensures.cast k.0 k.1 k.2 k.3.votes).stage_is

pub returns-clause-from : goal.returns-clause-from
returns-clause-from c = IfOk-weaker c.skip.result _ _ (λ turn p. λ goes. λ u is. omega (arith, c.requires.at, p goes u is)) c.skip.ensures.from
