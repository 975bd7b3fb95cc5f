use Rattle.std.proofs.Common.{Option, ap, ◌∙◌}
use Rattle.std.proofs.lemmas.Result.{IfOk-weaker}
use Rattle.gz_core.specs.declared.values.Value.{Value}
use Rattle.gz_round.specs.declared.run.Stage.{Stage}
use Rattle.gz_round.proofs.run.Run.copy.Goals as goal

pub returns : goal.returns
returns c =
    IfOk-weaker c.copy_with.result _ _ (λ run e.
    e ∙ (ap (λ (own : Option Value). record c.args.self.now { own = own; stage = c.in_ok-stage.stage }) c.in_ok-own.ensures
    ∙ ap (λ (stage : Stage). record c.args.self.now { stage = stage }) c.in_ok-stage.ensures.cases)) c.copy_with.ensures
