use Rattle.std.proofs.Common.{◌≡◌, ◌++◌, ◌∷◌, [], refl, arith, length-append}
use Rattle.std.proofs.lemmas.Result.{err_from_is_err_and}
use Rattle.gz_core.specs.declared.fragments.FragRef.{FragRef}
use Rattle.gz_rowfmt.specs.Reading.{fragments_at}
use Rattle.gz_rowfmt.proofs.Loops.{fragments_go_on, fragments_fail, fragments_end}
use Rattle.gz_rowfmt.proofs.reading.values.fragments_of.Goals as goal

pub returns-in_err-site-clause-gives : goal.returns-in_err-site-clause-gives
returns-in_err-site-clause-gives c =
    let p = err_from_is_err_and c.from_residual.result c.from_residual.ensures.1 in
    rw (p.1, p.2) (λ other. fragments_fail c.loop.fragments.items c.args.count c.loop.counter c.loop.place c.loop.rest.now c.in_err-site.field-0.0 (fragments_at c.args.count c.args.at c.args.bytes.now) c.loop-test.true c.in_err-site.ensures.gives c.loop.invariant.0)

pub loop-preserved : goal.loop-preserved
loop-preserved c =
    let f : FragRef = record { site = c.in_ok-site.site; digest = c.in_ok-site.digest.now } in
    let items : c.push.new.self.items ≡ c.loop.fragments.items ++ f ∷ [] = rw (c.in_ok-push.ensures.items, c.fragment_from.ensures) refl in (
      rw items (fragments_go_on c.loop.fragments.items c.args.count c.loop.counter c.loop.place c.loop.rest.now f c.in_ok-site.after.now (fragments_at c.args.count c.args.at c.args.bytes.now) c.loop-test.true c.in_ok-site.ensures.gives c.loop.invariant.0),
      omega (arith, c.in_ok-site.ensures.left, c.loop.invariant.1),
      omega (arith, c.loop.invariant.2),
      rw items (omega (arith, length-append c.loop.fragments.items (f ∷ []), c.loop.invariant.3)),
    )

pub returns-clause-gives : goal.returns-clause-gives
returns-clause-gives c = fragments_end c.loop.fragments.items c.args.count c.loop.counter c.loop.place c.loop.rest.now (fragments_at c.args.count c.args.at c.args.bytes.now) c.loop-test.false c.loop.invariant.0

pub returns-clause-left : goal.returns-clause-left
returns-clause-left c = omega (arith, c.loop.invariant.1, c.loop.invariant.2)
