use Rattle.std.proofs.Common.{sym, subst, arith}
use Rattle.gz_round.specs.Causes.{EndsBy}
use Rattle.gz_round.proofs.Known.{outs_counted}
use Rattle.gz_round.proofs.Endings.{contended_cause, cut_off_cause}
use Rattle.gz_round.proofs.run.Run.stop.Goals as goal

pub returns-then-self-config : goal.returns-then-self-config
returns-then-self-config c = λ w past ms h. subst (EndsBy c.args.config.now w ms) (sym c.contended.ensures) (contended_cause c.args.config.now w past c.args.self.now ms h c.if-self-config.true)

pub returns-then-outs-config : goal.returns-then-outs-config
returns-then-outs-config c = λ w past ms h.
    let counted = outs_counted c.args.config.now c.args.self.now ms h.knows in
    subst (EndsBy c.args.config.now w ms) (sym c.cut_off.ensures) (cut_off_cause c.args.config.now w past c.args.self.now ms h (omega arith) (omega arith))

pub returns : goal.returns
returns c = λ w past ms h.
    let counted = outs_counted c.args.config.now c.args.self.now ms h.knows in
    let met_is = h.met_is in
    record { few = omega arith; enough = omega arith }
