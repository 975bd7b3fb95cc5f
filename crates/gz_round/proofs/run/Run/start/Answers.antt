use Rattle.std.proofs.Common.{[], sym, subst}
use Rattle.gz_round.specs.declared.run.Run.{Run}
use Rattle.gz_round.specs.Following.{Ready}
use Rattle.gz_round.proofs.Starts.{start_ready}
use Rattle.gz_round.proofs.run.Run.start.Goals as goal

pub returns-clause-ready : goal.returns-clause-ready
returns-clause-ready c = λ w past name_is key_is target_is own_is named writes round_is.
    subst (λ (run : Run). Ready c.args.config.now w past (record run { rows = c.in_ok-run.field-0; marks = c.in_ok-run-2.field-0 }) []) (sym c.idle-run.ensures)
    (start_ready c.args.config.now w past c.args.name c.args.key c.args.target c.args.own c.in_ok-run.field-0 c.in_ok-run-2.field-0 c.args.round name_is key_is target_is own_is named writes round_is c.in_ok-run.ensures.len c.in_ok-run.ensures.none c.in_ok-run-2.ensures.len c.in_ok-run-2.ensures.fresh)
