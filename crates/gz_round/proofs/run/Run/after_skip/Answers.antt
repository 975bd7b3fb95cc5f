use Rattle.std.proofs.Common.{[], refl, subst, inl, arith}
use Rattle.std.proofs.lemmas.Result.{IfOk-weaker}
use Rattle.gz_round.specs.Sending.{NoEvidence}
use Rattle.gz_round.specs.Acting.{CanGoOnAbove}
use Rattle.gz_round.specs.Evidence.{NoneEvident}
use Rattle.gz_round.proofs.Targets.{vote_passes}
use Rattle.gz_round.proofs.Known.{none_evident}
use Rattle.gz_round.proofs.Casts.{above_out, above_votes, above_finishes}
use Rattle.gz_round.proofs.Phases.{cast_onward, out_from, vote_from, placed_not}
use Rattle.gz_round.proofs.run.Run.after_skip.Goals as goal

pub run_out-requires-clause-runs_out : goal.run_out-requires-clause-runs_out
run_out-requires-clause-runs_out c =
    let k : CanGoOnAbove c.args.config.now c.args.self.now c.args.version = c.requires.skipped in
    let none : NoEvidence c.args.config.now k.2 c.args.version = none_evident c.args.config.now c.args.self.now k.2 k.3.cast.votes.stands.knows c.args.version (subst (λ rows. NoneEvident c.args.config.now rows c.args.version) c.as_slice.ensures c.in_default.ensures) in
    (k.0, k.1, k.2, above_out c.args.config.now k.0 k.1 c.args.self.now k.2 c.args.version k.3 none)

pub returns-in_default-clause-turned : goal.returns-in_default-clause-turned
returns-in_default-clause-turned c =
    IfOk-weaker c.run_out.result _ _ (λ turn p. λ w past ms g.
    let none : NoEvidence c.args.config.now ms c.args.version = none_evident c.args.config.now c.args.self.now ms g.cast.votes.stands.knows c.args.version (subst (λ rows. NoneEvident c.args.config.now rows c.args.version) c.as_slice.ensures c.in_default.ensures) in
    p w past ms (above_out c.args.config.now w past c.args.self.now ms c.args.version g none)) c.run_out.ensures.turned

pub propose_or_step-requires-clause-acts : goal.propose_or_step-requires-clause-acts
propose_or_step-requires-clause-acts c =
    let k : CanGoOnAbove c.args.config.now c.args.self.now c.args.version = c.requires.skipped in
    let n = k.3.cast.votes in
    (k.0, k.1, k.2, above_votes c.args.config.now k.0 k.1 c.args.self.now k.2 c.args.version c.in-Vote.version k.3 c.in-Vote.ensures.writes (c.in-Vote.ensures.means k.0 k.1 k.2 n.stands (vote_passes c.args.config.now k.0 k.2 c.args.version n.stands.writes n.vote) (cast_onward c.args.config.now k.0 k.1 c.args.self.now k.2 c.args.version k.3.cast)))

pub returns-in-Vote-clause-turned : goal.returns-in-Vote-clause-turned
returns-in-Vote-clause-turned c =
    IfOk-weaker c.propose_or_step.result _ _ (λ turn p. λ w past ms g.
    let n = g.cast.votes in
    p w past ms (above_votes c.args.config.now w past c.args.self.now ms c.args.version c.in-Vote.version g c.in-Vote.ensures.writes (c.in-Vote.ensures.means w past ms n.stands (vote_passes c.args.config.now w ms c.args.version n.stands.writes n.vote) (cast_onward c.args.config.now w past c.args.self.now ms c.args.version g.cast)))) c.propose_or_step.ensures.turned

pub finish-requires-clause-finishes : goal.finish-requires-clause-finishes
finish-requires-clause-finishes c =
    let k : CanGoOnAbove c.args.config.now c.args.self.now c.args.version = c.requires.skipped in
    let n = k.3.cast.votes in
    (k.0, k.1, k.2, above_finishes c.args.config.now k.0 k.1 c.args.self.now k.2 c.args.version c.in-Chosen.version k.3 (c.in-Chosen.ensures.means k.0 k.1 k.2 n.stands (vote_passes c.args.config.now k.0 k.2 c.args.version n.stands.writes n.vote) (cast_onward c.args.config.now k.0 k.1 c.args.self.now k.2 c.args.version k.3.cast)))

pub returns-in-Chosen-clause-turned : goal.returns-in-Chosen-clause-turned
returns-in-Chosen-clause-turned c =
    IfOk-weaker c.finish.result _ _ (λ turn p. λ w past ms g.
    let n = g.cast.votes in
    ([], inl refl, p w past ms (above_finishes c.args.config.now w past c.args.self.now ms c.args.version c.in-Chosen.version g (c.in-Chosen.ensures.means w past ms n.stands (vote_passes c.args.config.now w ms c.args.version n.stands.writes n.vote) (cast_onward c.args.config.now w past c.args.self.now ms c.args.version g.cast))))) c.finish.ensures.turned

pub returns-in_default-clause-from : goal.returns-in_default-clause-from
returns-in_default-clause-from c =
    let k : CanGoOnAbove c.args.config.now c.args.self.now c.args.version = c.requires.skipped in
    IfOk-weaker c.run_out.result _ _ (λ turn p. λ goes. out_from c.args.self.now.stage _ c.args.version k.3.cast.stage_is p) c.run_out.ensures.fast

pub returns-in-Vote-clause-from : goal.returns-in-Vote-clause-from
returns-in-Vote-clause-from c = IfOk-weaker c.propose_or_step.result _ _ (λ turn p. λ goes. vote_from _ c.args.version c.in-Vote.version (omega (arith, c.in-Vote.ensures.writes)) p) c.propose_or_step.ensures.fast

pub returns-in-Chosen-clause-from : goal.returns-in-Chosen-clause-from
returns-in-Chosen-clause-from c = IfOk-weaker c.finish.result _ _ (λ turn same. λ goes. absurd (placed_not turn.outcome c.in-Chosen.version same goes)) c.finish.ensures.outcome
