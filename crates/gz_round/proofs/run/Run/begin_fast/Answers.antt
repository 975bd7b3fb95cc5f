use Rattle.std.proofs.Common.{arith}
use Rattle.std.proofs.lemmas.Result.{IfOk-weaker}
use Rattle.gz_round.specs.Acting.{CanBeginFast}
use Rattle.gz_round.proofs.Casts.{begins_acts}
use Rattle.gz_round.proofs.PastFloors.{floors_low}
use Rattle.gz_round.proofs.Phases.{vote_from}
use Rattle.gz_round.proofs.run.Run.begin_fast.Goals as goal

pub propose_or_step-requires-clause-config : goal.propose_or_step-requires-clause-config
propose_or_step-requires-clause-config c = c.requires.config

pub propose_or_step-requires-clause-first : goal.propose_or_step-requires-clause-first
propose_or_step-requires-clause-first c = c.requires.first

pub propose_or_step-requires-clause-round : goal.propose_or_step-requires-clause-round
propose_or_step-requires-clause-round c = c.requires.round

pub propose_or_step-requires-clause-acts : goal.propose_or_step-requires-clause-acts
propose_or_step-requires-clause-acts c =
    let k : CanBeginFast c.args.config.now c.args.self.now c.args.version = c.requires.begins in
    (k.0, k.1, k.2, begins_acts c.args.config.now k.0 k.1 c.args.self.now k.2 c.args.version k.3 c.in-None.ensures.floor)

pub vote_below-requires-clause-config : goal.vote_below-requires-clause-config
vote_below-requires-clause-config c = c.requires.config

pub vote_below-requires-clause-first : goal.vote_below-requires-clause-first
vote_below-requires-clause-first c = c.requires.first

pub vote_below-requires-clause-round : goal.vote_below-requires-clause-round
vote_below-requires-clause-round c = c.requires.round

pub vote_below-requires-clause-begins : goal.vote_below-requires-clause-begins
vote_below-requires-clause-begins c = c.requires.begins

pub vote_below-requires-clause-low : goal.vote_below-requires-clause-low
vote_below-requires-clause-low c =
    let k : CanBeginFast c.args.config.now c.args.self.now c.args.version = c.requires.begins in
    omega (arith, c.in-Some.ensures.floor.1, floors_low c.args.config.now k.0 k.1 c.args.self.now k.2 k.3.votes.stands)

pub vote_below-requires-clause-rows : goal.vote_below-requires-clause-rows
vote_below-requires-clause-rows c = c.floor_from.ensures.rows

pub vote_below-requires-clause-at : goal.vote_below-requires-clause-at
vote_below-requires-clause-at c = c.in-Some.ensures.floor.0

pub vote_below-requires-clause-top : goal.vote_below-requires-clause-top
vote_below-requires-clause-top c = c.in-Some.ensures.floor.1

pub returns-in-None-clause-turned : goal.returns-in-None-clause-turned
returns-in-None-clause-turned c =
    IfOk-weaker c.propose_or_step.result _ _ (λ turn p. λ w past ms b.
    p w past ms (begins_acts c.args.config.now w past c.args.self.now ms c.args.version b c.in-None.ensures.floor)) c.propose_or_step.ensures.turned

pub returns-in-Some-clause-turned : goal.returns-in-Some-clause-turned
returns-in-Some-clause-turned c = c.vote_below.ensures.turned

pub returns-in-None-clause-from : goal.returns-in-None-clause-from
returns-in-None-clause-from c = IfOk-weaker c.propose_or_step.result _ _ (λ turn p. λ goes. vote_from _ c.args.version c.args.version (omega arith) p) c.propose_or_step.ensures.fast
