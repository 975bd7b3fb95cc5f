use Rattle.std.proofs.Common.{[], refl, inl}
use Rattle.std.proofs.lemmas.Option.{slice_get_within}
use Rattle.std.proofs.lemmas.Result.{IfOk-weaker}
use Rattle.gz_round.specs.Acting.{CanFollow}
use Rattle.gz_round.proofs.Arms.{begins_from, skips_from, learnt_has, found_learnt, trimmed_ends}
use Rattle.gz_round.proofs.Phases.{waits_on, votes_on, skips_on, placed_not, learnt_not, ends_not}
use Rattle.gz_round.proofs.run.Run.turn_by_rows.Goals as goal

pub next-requires-clause-config : goal.next-requires-clause-config
next-requires-clause-config c = c.requires.config

pub next-requires-clause-ready : goal.next-requires-clause-ready
next-requires-clause-ready c =
    let k : CanFollow c.args.config.now c.args.self.now = c.requires.follows in
    (k.0, k.1, k.2, k.3)

pub propose_or_step-requires-clause-config : goal.propose_or_step-requires-clause-config
propose_or_step-requires-clause-config c = c.requires.config

pub propose_or_step-requires-clause-first : goal.propose_or_step-requires-clause-first
propose_or_step-requires-clause-first c = c.requires.first

pub propose_or_step-requires-clause-round : goal.propose_or_step-requires-clause-round
propose_or_step-requires-clause-round c = c.requires.round

pub propose_or_step-requires-clause-acts : goal.propose_or_step-requires-clause-acts
propose_or_step-requires-clause-acts c =
    let k : CanFollow c.args.config.now c.args.self.now = c.requires.follows in
    (k.0, k.1, k.2, record { ready = k.3; going = k.4; unmet = c.in-Wait.ensures k.0 k.1 k.2 k.3 })

pub begin_fast-requires-clause-config : goal.begin_fast-requires-clause-config
begin_fast-requires-clause-config c = c.requires.config

pub begin_fast-requires-clause-first : goal.begin_fast-requires-clause-first
begin_fast-requires-clause-first c = c.requires.first

pub begin_fast-requires-clause-round : goal.begin_fast-requires-clause-round
begin_fast-requires-clause-round c = c.requires.round

pub begin_fast-requires-clause-begins : goal.begin_fast-requires-clause-begins
begin_fast-requires-clause-begins c =
    let k : CanFollow c.args.config.now c.args.self.now = c.requires.follows in
    (k.0, k.1, k.2, begins_from c.args.config.now k.0 k.1 c.args.self.now k.2 c.in-Vote.version k.3 k.4 (c.in-Vote.ensures k.0 k.1 k.2 k.3))

pub skip-requires-clause-config : goal.skip-requires-clause-config
skip-requires-clause-config c = c.requires.config

pub skip-requires-clause-first : goal.skip-requires-clause-first
skip-requires-clause-first c = c.requires.first

pub skip-requires-clause-round : goal.skip-requires-clause-round
skip-requires-clause-round c = c.requires.round

pub skip-requires-clause-skips : goal.skip-requires-clause-skips
skip-requires-clause-skips c =
    let k : CanFollow c.args.config.now c.args.self.now = c.requires.follows in
    (k.0, k.1, k.2, skips_from c.args.config.now k.0 k.1 c.args.self.now k.2 c.in-Skip.version k.3 k.4 (c.in-Skip.ensures k.0 k.1 k.2 k.3))

pub finish-requires-clause-config : goal.finish-requires-clause-config
finish-requires-clause-config c = c.requires.config

pub finish-requires-clause-first : goal.finish-requires-clause-first
finish-requires-clause-first c = c.requires.first

pub finish-requires-clause-finishes : goal.finish-requires-clause-finishes
finish-requires-clause-finishes c =
    let k : CanFollow c.args.config.now c.args.self.now = c.requires.follows in
    let n = c.in-Chosen.ensures k.0 k.1 k.2 k.3 in
    (k.0, k.1, k.2, record { stands = k.3.stands; going = k.4; unnoticed = k.3.unnoticed; above = n.0; shown = n.1; own = n.2 })

pub value_of-requires-clause-site : goal.value_of-requires-clause-site
value_of-requires-clause-site c =
    let k : CanFollow c.args.config.now c.args.self.now = c.requires.follows in
    let f = c.in-Learnt.ensures k.0 k.1 k.2 k.3 in
    slice_get_within c.args.self.now.rows c.in-Learnt.site _ f.known

pub value_of-requires-clause-has : goal.value_of-requires-clause-has
value_of-requires-clause-has c =
    let k : CanFollow c.args.config.now c.args.self.now = c.requires.follows in
    learnt_has c.args.config.now k.0 c.args.self.now k.2 c.in-Learnt.version c.in-Learnt.site (c.in-Learnt.ensures k.0 k.1 k.2 k.3)

pub close-requires-clause-config : goal.close-requires-clause-config
close-requires-clause-config c = c.requires.config

pub close-requires-clause-first : goal.close-requires-clause-first
close-requires-clause-first c = c.requires.first

pub close-requires-clause-ready : goal.close-requires-clause-ready
close-requires-clause-ready c =
    let k : CanFollow c.args.config.now c.args.self.now = c.requires.follows in
    (k.0, k.1, k.2, k.3)

pub end-requires-clause-config : goal.end-requires-clause-config
end-requires-clause-config c = c.requires.config

pub end-requires-clause-first : goal.end-requires-clause-first
end-requires-clause-first c = c.requires.first

pub end-requires-clause-ready : goal.end-requires-clause-ready
end-requires-clause-ready c =
    let k : CanFollow c.args.config.now c.args.self.now = c.requires.follows in
    (k.0, k.1, k.2, k.3)

pub end-requires-in-Unborn-clause-config : goal.end-requires-in-Unborn-clause-config
end-requires-in-Unborn-clause-config c = c.requires.config

pub end-requires-in-Unborn-clause-first : goal.end-requires-in-Unborn-clause-first
end-requires-in-Unborn-clause-first c = c.requires.first

pub end-requires-in-Unborn-clause-ready : goal.end-requires-in-Unborn-clause-ready
end-requires-in-Unborn-clause-ready c =
    let k : CanFollow c.args.config.now c.args.self.now = c.requires.follows in
    (k.0, k.1, k.2, k.3)

pub end-requires-in-Collected-clause-config : goal.end-requires-in-Collected-clause-config
end-requires-in-Collected-clause-config c = c.requires.config

pub end-requires-in-Collected-clause-first : goal.end-requires-in-Collected-clause-first
end-requires-in-Collected-clause-first c = c.requires.first

pub end-requires-in-Collected-clause-ready : goal.end-requires-in-Collected-clause-ready
end-requires-in-Collected-clause-ready c =
    let k : CanFollow c.args.config.now c.args.self.now = c.requires.follows in
    (k.0, k.1, k.2, k.3)

pub end-requires-in-Trimmed-clause-config : goal.end-requires-in-Trimmed-clause-config
end-requires-in-Trimmed-clause-config c = c.requires.config

pub end-requires-in-Trimmed-clause-first : goal.end-requires-in-Trimmed-clause-first
end-requires-in-Trimmed-clause-first c = c.requires.first

pub end-requires-in-Trimmed-clause-ready : goal.end-requires-in-Trimmed-clause-ready
end-requires-in-Trimmed-clause-ready c =
    let k : CanFollow c.args.config.now c.args.self.now = c.requires.follows in
    (k.0, k.1, k.2, k.3)

pub returns-in-Wait-clause-turned : goal.returns-in-Wait-clause-turned
returns-in-Wait-clause-turned c = IfOk-weaker c.propose_or_step.result _ _ (λ turn p. λ w past ms r going. p w past ms (record { ready = r; going = going; unmet = c.in-Wait.ensures w past ms r })) c.propose_or_step.ensures.turned

pub returns-in-Vote-clause-turned : goal.returns-in-Vote-clause-turned
returns-in-Vote-clause-turned c =
    IfOk-weaker c.begin_fast.result _ _ (λ turn p. λ w past ms r going.
    p w past ms (begins_from c.args.config.now w past c.args.self.now ms c.in-Vote.version r going (c.in-Vote.ensures w past ms r))) c.begin_fast.ensures.turned

pub returns-in-Skip-clause-turned : goal.returns-in-Skip-clause-turned
returns-in-Skip-clause-turned c =
    IfOk-weaker c.skip.result _ _ (λ turn p. λ w past ms r going.
    p w past ms (skips_from c.args.config.now w past c.args.self.now ms c.in-Skip.version r going (c.in-Skip.ensures w past ms r))) c.skip.ensures.turned

pub returns-in_ok-value-in-Learnt-clause-turned : goal.returns-in_ok-value-in-Learnt-clause-turned
returns-in_ok-value-in-Learnt-clause-turned c =
    IfOk-weaker c.close.result _ _ (λ turn p. λ w past ms r going.
    let f = c.in-Learnt.ensures w past ms r in
    ([], inl refl, p w past ms r (going, found_learnt c.args.config.now w past c.args.self.now ms c.in-Learnt.version c.in-Learnt.site c.in_ok-value-in-Learnt.value r.stands f (c.in_ok-value-in-Learnt.ensures f.row f.known)))) c.close.ensures.turned

pub returns-in-Chosen-clause-turned : goal.returns-in-Chosen-clause-turned
returns-in-Chosen-clause-turned c =
    IfOk-weaker c.finish.result _ _ (λ turn p. λ w past ms r going.
    let n = c.in-Chosen.ensures w past ms r in
    ([], inl refl, p w past ms (record { stands = r.stands; going = going; unnoticed = r.unnoticed; above = n.0; shown = n.1; own = n.2 }))) c.finish.ensures.turned

pub returns-in-Absent-clause-turned : goal.returns-in-Absent-clause-turned
returns-in-Absent-clause-turned c = IfOk-weaker c.end.result _ _ (λ turn p. λ w past ms r going. ([], inl refl, p w past ms r (going, c.in-Absent.ensures w past ms r))) c.end.ensures.turned

pub returns-in-Absent-clause-ends : goal.returns-in-Absent-clause-ends
returns-in-Absent-clause-ends c = c.end.ensures.ends

pub returns-in-Unborn-clause-turned : goal.returns-in-Unborn-clause-turned
returns-in-Unborn-clause-turned c = IfOk-weaker c.end-in-Unborn.result _ _ (λ turn p. λ w past ms r going. ([], inl refl, p w past ms r (going, c.in-Unborn.ensures w past ms r))) c.end-in-Unborn.ensures.turned

pub returns-in-Unborn-clause-ends : goal.returns-in-Unborn-clause-ends
returns-in-Unborn-clause-ends c = c.end-in-Unborn.ensures.ends

pub returns-in-Collected-clause-turned : goal.returns-in-Collected-clause-turned
returns-in-Collected-clause-turned c = IfOk-weaker c.end-in-Collected.result _ _ (λ turn p. λ w past ms r going. ([], inl refl, p w past ms r (going, c.in-Collected.ensures w past ms r))) c.end-in-Collected.ensures.turned

pub returns-in-Collected-clause-ends : goal.returns-in-Collected-clause-ends
returns-in-Collected-clause-ends c = c.end-in-Collected.ensures.ends

pub returns-in-Trimmed-clause-turned : goal.returns-in-Trimmed-clause-turned
returns-in-Trimmed-clause-turned c = IfOk-weaker c.end-in-Trimmed.result _ _ (λ turn p. λ w past ms r going. ([], inl refl, p w past ms r (trimmed_ends c.args.config.now w ms c.in-Trimmed.floor going (c.in-Trimmed.ensures w past ms r)))) c.end-in-Trimmed.ensures.turned

pub returns-in-Trimmed-clause-ends : goal.returns-in-Trimmed-clause-ends
returns-in-Trimmed-clause-ends c = c.end-in-Trimmed.ensures.ends

pub returns-in_ok-value-in-Learnt-clause-ends : goal.returns-in_ok-value-in-Learnt-clause-ends
returns-in_ok-value-in-Learnt-clause-ends c = c.close.ensures.ends

pub returns-in-Chosen-clause-ends : goal.returns-in-Chosen-clause-ends
returns-in-Chosen-clause-ends c = c.finish.ensures.ends

pub returns-in-Wait-clause-goes : goal.returns-in-Wait-clause-goes
returns-in-Wait-clause-goes c = IfOk-weaker c.propose_or_step.result _ _ (λ turn p. λ w past ms r goes. waits_on c.args.config.now w c.args.self.now _ ms (c.in-Wait.ensures w past ms r) p) c.propose_or_step.ensures.fast

pub returns-in-Vote-clause-goes : goal.returns-in-Vote-clause-goes
returns-in-Vote-clause-goes c = IfOk-weaker c.begin_fast.result _ _ (λ turn p. λ w past ms r goes. votes_on c.args.config.now w c.args.self.now _ ms c.in-Vote.version (c.in-Vote.ensures w past ms r) (p goes)) c.begin_fast.ensures.from

pub returns-in-Skip-clause-goes : goal.returns-in-Skip-clause-goes
returns-in-Skip-clause-goes c = IfOk-weaker c.skip.result _ _ (λ turn p. λ w past ms r goes. skips_on c.args.config.now w c.args.self.now _ ms c.in-Skip.version (c.in-Skip.ensures w past ms r) (p goes)) c.skip.ensures.from

pub returns-in-Chosen-clause-goes : goal.returns-in-Chosen-clause-goes
returns-in-Chosen-clause-goes c = IfOk-weaker c.finish.result _ _ (λ turn same. λ w past ms r goes. absurd (placed_not turn.outcome c.in-Chosen.version same goes)) c.finish.ensures.outcome

pub returns-in_ok-value-in-Learnt-clause-goes : goal.returns-in_ok-value-in-Learnt-clause-goes
returns-in_ok-value-in-Learnt-clause-goes c = IfOk-weaker c.close.result _ _ (λ turn same. λ w past ms r goes. absurd (learnt_not turn.outcome _ _ same goes)) c.close.ensures.outcome

pub returns-in-Absent-clause-goes : goal.returns-in-Absent-clause-goes
returns-in-Absent-clause-goes c = IfOk-weaker c.end.result _ _ (λ turn same. λ w past ms r goes. absurd (ends_not turn.outcome _ same goes)) c.end.ensures.outcome

pub returns-in-Unborn-clause-goes : goal.returns-in-Unborn-clause-goes
returns-in-Unborn-clause-goes c = IfOk-weaker c.end-in-Unborn.result _ _ (λ turn same. λ w past ms r goes. absurd (ends_not turn.outcome _ same goes)) c.end-in-Unborn.ensures.outcome

pub returns-in-Collected-clause-goes : goal.returns-in-Collected-clause-goes
returns-in-Collected-clause-goes c = IfOk-weaker c.end-in-Collected.result _ _ (λ turn same. λ w past ms r goes. absurd (ends_not turn.outcome _ same goes)) c.end-in-Collected.ensures.outcome

pub returns-in-Trimmed-clause-goes : goal.returns-in-Trimmed-clause-goes
returns-in-Trimmed-clause-goes c = IfOk-weaker c.end-in-Trimmed.result _ _ (λ turn same. λ w past ms r goes. absurd (ends_not turn.outcome _ same goes)) c.end-in-Trimmed.ensures.outcome
