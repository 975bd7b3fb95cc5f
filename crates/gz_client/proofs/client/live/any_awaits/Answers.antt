use Rattle.std.proofs.Common.{◌==◌, ◌∙◌, sym, ap}
use Rattle.std.specs.Prelude.{nat_lt}
use Rattle.gz_client.specs.Lowest.{marks_live}
use Rattle.gz_client.proofs.Kept.{kept_by_blob, kept_by_row}
use Rattle.gz_client.proofs.client.live.any_awaits.Goals as goal

pub returns-then-awaits_blob : goal.returns-then-awaits_blob
returns-then-awaits_blob c = c.if-awaits_blob.true ∙ sym (kept_by_blob c.args.running.now c.args.n (sym c.awaits_blob.ensures ∙ c.if-awaits_blob.true))

pub returns-else-awaits_blob : goal.returns-else-awaits_blob
returns-else-awaits_blob c =
    c.any_row_awaits.ensures
    ∙ (ap (λ o. nat_lt 0 (marks_live (λ m. m == c.args.n) o)) c.rows.ensures
    ∙ kept_by_row c.args.running.now c.args.n (sym c.awaits_blob.ensures ∙ c.if-awaits_blob.false))
