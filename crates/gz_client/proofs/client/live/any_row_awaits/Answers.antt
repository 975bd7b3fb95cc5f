use Rattle.std.proofs.Common.{◌==◌, ◌∙◌, sym, ap}
use Rattle.std.specs.Prelude.{nat_lt}
use Rattle.std.specs.List.{list_any}
use Rattle.std.specs.Option.{option_copied}
use Rattle.gz_round.specs.Awaiting.{has_number}
use Rattle.gz_client.specs.Lowest.{marks_live}
use Rattle.gz_client.proofs.Counted.{any_counted}
use Rattle.gz_client.proofs.client.live.any_row_awaits.Goals as goal

pub returns-in-Some : goal.returns-in-Some
returns-in-Some c =
    c.any_mark_awaits.ensures
    ∙ (ap (list_any (has_number c.args.n)) c.as_slice.ensures
    ∙ (any_counted (has_number c.args.n) c.in-Some.run'.now.marks ∙ ap (λ o. nat_lt 0 (marks_live (λ m. m == c.args.n) (option_copied o))) (sym c.in-Some.is)))
