use Rattle.std.proofs.Common.{rules, ◌≡◌, ℕ, List, Option, ap, ◌∙◌}
use Rattle.std.proofs.lemmas.List.Elements.{same_from_all_zip}
use Rattle.std.proofs.lemmas.Result.{IfOk-weaker}
use Rattle.gz_core.specs.Rows.{RowAt}
use Rattle.gz_round.proofs.run.Run.copy_with.Goals as goal

pub returns : goal.returns
returns c =
    let key_is : c.in_ok-key.key ≡ c.args.self.now.key = search (rules, same_from_all_zip) in
    let rows_are : c.in_ok-rows.rows ≡ c.args.self.now.rows = search (rules, same_from_all_zip) in
    IfOk-weaker c.copy_marks.result _ _ (λ run e.
    e ∙ (ap (λ (key : List ℕ). record c.args.self.now { key = key; own = c.args.own; rows = c.in_ok-rows.rows; stage = c.args.stage }) key_is
    ∙ ap (λ (rows : List (Option RowAt)). record c.args.self.now { own = c.args.own; rows = rows; stage = c.args.stage }) rows_are)) c.copy_marks.ensures
