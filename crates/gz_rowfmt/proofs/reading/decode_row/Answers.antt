use Rattle.std.proofs.Common.{ap, sym, ◌∙◌, arith}
use Rattle.std.proofs.lemmas.Result.{err_from_is_err_and}
use Rattle.gz_core.specs.Rows.{RowAt}
use Rattle.gz_rowfmt.specs.Reading.{row_in}
use Rattle.gz_rowfmt.proofs.Records.{row_takes, row_again}
use Rattle.gz_rowfmt.proofs.reading.decode_row.Goals as goal

pub returns-in_err-floor-clause-only : goal.returns-in_err-floor-clause-only
returns-in_err-floor-clause-only c =
    let p = err_from_is_err_and c.from_residual.result c.from_residual.ensures.1 in
    λ row has is. rw (p.1, p.2) (λ other. sym (row_again row has) ∙ sym (ap row_in is) ∙ c.in_err-floor.ensures other)

pub invariant_of-result : goal.invariant_of-result
invariant_of-result c =
    let row : RowAt = record { floor = c.in_ok-floor.floor; columns = c.in_ok-floor.columns.items } in
    (row_takes c.args.bytes.now row (λ i. omega (arith, c.type_inv.bytes i)) c.in_ok-floor.ensures).0.floor_fits

pub invariant_of-result-2 : goal.invariant_of-result-2
invariant_of-result-2 c =
    let row : RowAt = record { floor = c.in_ok-floor.floor; columns = c.in_ok-floor.columns.items } in
    rw c.from_vec.ensures (row_takes c.args.bytes.now row (λ i. omega (arith, c.type_inv.bytes i)) c.in_ok-floor.ensures).0.is_row

pub returns-clause-found : goal.returns-clause-found
returns-clause-found c =
    let row : RowAt = record { floor = c.in_ok-floor.floor; columns = c.in_ok-floor.columns.items } in
    rw c.from_vec.ensures (row_takes c.args.bytes.now row (λ i. omega (arith, c.type_inv.bytes i)) c.in_ok-floor.ensures)

pub returns-clause-only : goal.returns-clause-only
returns-clause-only c = λ row has is. rw c.from_vec.ensures (sym (row_again row has) ∙ sym (ap row_in is) ∙ c.in_ok-floor.ensures)
