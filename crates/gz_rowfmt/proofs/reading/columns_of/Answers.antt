use Rattle.std.proofs.Common.{ltb, arith}
use Rattle.std.proofs.lemmas.Result.{err_from_is_err_and}
use Rattle.gz_rowfmt.specs.Reading.{columns_at}
use Rattle.gz_rowfmt.proofs.Loops.{columns_go_on, columns_fail, columns_end}
use Rattle.gz_rowfmt.proofs.reading.columns_of.Goals as goal

pub returns-in_err-column-clause-gives : goal.returns-in_err-column-clause-gives
returns-in_err-column-clause-gives c =
    let p = err_from_is_err_and c.from_residual.result c.from_residual.ensures.1 in
    let total = columns_at c.args.count (ltb 0 c.args.floor) c.args.floor c.args.end c.args.bytes.now in
    rw (p.1, p.2) (λ other. columns_fail c.loop.columns.items c.args.count c.loop.counter c.loop.raised c.loop.before c.args.end c.loop.rest.now c.in_err-column.field-0.0 total c.loop-test.true (c.in_err-column.ensures.gives other) c.loop.invariant.0)

pub loop-preserved : goal.loop-preserved
loop-preserved c =
    let total = columns_at c.args.count (ltb 0 c.args.floor) c.args.floor c.args.end c.args.bytes.now in
    let goes_on = columns_go_on c.loop.columns.items c.args.count c.loop.counter c.loop.raised c.loop.before c.args.end c.loop.rest.now c.in_ok-column.column c.in_ok-column.after.now total c.loop-test.true c.in_ok-column.ensures.gives c.loop.invariant.0 in
    (rw (c.in_ok-push.ensures.items, c.number-before.ensures.same) goes_on, omega (arith, c.in_ok-column.ensures.left, c.loop.invariant.1))

pub returns-clause-gives : goal.returns-clause-gives
returns-clause-gives c =
    columns_end c.loop.columns.items c.args.count c.loop.counter c.loop.raised c.loop.before c.args.end c.loop.rest.now (columns_at c.args.count (ltb 0 c.args.floor) c.args.floor c.args.end c.args.bytes.now) c.loop-test.false c.loop.invariant.0
