use Rattle.std.proofs.Common.{rules, ◌≡◌, List, ap}
use Rattle.std.proofs.lemmas.List.Elements.{same_from_all_zip}
use Rattle.gz_round.specs.declared.run.Mark.{Mark}
use Rattle.gz_round.proofs.run.Run.copy_marks.Goals as goal

pub returns : goal.returns
returns c =
    let marks_are : c.in_ok-marks.marks ≡ c.args.self.now.marks = search (rules, same_from_all_zip) in
    ap (λ (marks : List Mark). record c.args.self.now { key = c.args.key; own = c.args.own; rows = c.args.rows; marks = marks; stage = c.args.stage }) marks_are
