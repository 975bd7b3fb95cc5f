use Rattle.std.proofs.Common.{◌≡◌}
use Rattle.std.specs.Prelude.{drop}
use Rattle.gz_pick.specs.Evidences.{is_chosen, top_ballot, votes_at}
use Rattle.gz_pick.proofs.Joins.{join}
use Rattle.gz_pick.proofs.evidences.top_chosen.Given as goal

abbrev pub invariant-loop-row : goal.invariant-loop-row
invariant-loop-row l =
    let passes = is_chosen l.config.qc l.config.qf l.rows l.v in
    top_ballot passes (votes_at l.v l.rows) ≡ join (top_ballot passes (votes_at l.v (drop l.row-index l.rows))) l.top
