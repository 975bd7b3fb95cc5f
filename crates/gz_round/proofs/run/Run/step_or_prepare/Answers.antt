use Rattle.std.proofs.Common.{◌∙◌, sym, subst}
use Rattle.std.proofs.lemmas.Result.{IfOk-weaker}
use Rattle.gz_round.specs.Acting.{CanCarry, Prepares}
use Rattle.gz_round.proofs.Prepares.{overtaken_prepares}
use Rattle.gz_round.proofs.run.Run.step_or_prepare.Goals as goal

pub prepare-requires-clause-prepares : goal.prepare-requires-clause-prepares
prepare-requires-clause-prepares c =
    let k : CanCarry c.args.config.now c.args.self.now = c.requires.carries in
    (k.0, k.1, k.2, subst (Prepares c.args.config.now k.0 k.1 c.args.self.now k.2) (sym c.working-version.ensures) (overtaken_prepares c.args.config.now k.0 k.1 c.args.self.now k.2 k.3 (cc)))

pub returns-then-is_overtaken-clause-turned : goal.returns-then-is_overtaken-clause-turned
returns-then-is_overtaken-clause-turned c =
    IfOk-weaker c.prepare.result _ _ (λ turn h. λ w past ms p.
    h w past ms (subst (Prepares c.args.config.now w past c.args.self.now ms) (sym c.working-version.ensures) (overtaken_prepares c.args.config.now w past c.args.self.now ms p (cc)))) c.prepare.ensures.turned

pub prepare-requires-clause-config : goal.prepare-requires-clause-config
prepare-requires-clause-config c = c.requires.config

pub prepare-requires-clause-first : goal.prepare-requires-clause-first
prepare-requires-clause-first c = c.requires.first

pub make_step-requires-clause-config : goal.make_step-requires-clause-config
make_step-requires-clause-config c = c.requires.config

pub make_step-requires-clause-first : goal.make_step-requires-clause-first
make_step-requires-clause-first c = c.requires.first

pub make_step-requires-clause-steps : goal.make_step-requires-clause-steps
make_step-requires-clause-steps c =
    let k : CanCarry c.args.config.now c.args.self.now = c.requires.carries in
    (k.0, k.1, k.2, record { carries = k.3; ahead = sym c.is_overtaken.ensures ∙ c.if-is_overtaken.false })

pub returns-clause-turned : goal.returns-clause-turned
returns-clause-turned c = IfOk-weaker c.make_step.result _ _ (λ turn h. λ w past ms p. h w past ms (record { carries = p; ahead = sym c.is_overtaken.ensures ∙ c.if-is_overtaken.false })) c.make_step.ensures.turned

pub prepare-requires-clause-round : goal.prepare-requires-clause-round
prepare-requires-clause-round c = c.requires.round

pub make_step-requires-clause-round : goal.make_step-requires-clause-round
make_step-requires-clause-round c = c.requires.round
