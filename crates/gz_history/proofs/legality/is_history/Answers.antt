use Rattle.std.proofs.Common.{length, refl}
use Rattle.std.proofs.lemmas.Option.{slice_get_read}
use Rattle.gz_history.proofs.Searching.{order_more}
use Rattle.gz_history.proofs.legality.is_history.Goals as goal
use Rattle.gz_history.proofs.legality.is_history.Goals.{then-not-ends_later-via-then-not-ends_later, then-not-ends_later-via-else-not-ends_later+then-not-all_precede}

pub loop-i-preserved : goal.loop-i-preserved
loop-i-preserved c =
    let calls = c.args.calls.now in
    let a = c.index-calls-i.result in
    order_more calls c.loop-i.i a c.loop-i.invariant (slice_get_read calls (length calls) c.loop-i.i a refl c.loop-i-test.true c.index-calls-i.is) (c.ends_later.ensures.yes c.if-not-ends_later.false) (c.all_precede.ensures.yes c.if-not-all_precede.false)

pub returns-then-not-ends_later-clause-no : goal.returns-then-not-ends_later-clause-no
returns-then-not-ends_later-clause-no c = λ f h.
    let calls = c.args.calls.now in
    let a = c.index-calls-i.result in
    let l = c.loop-i-test.true in
    elim c.then-not-ends_later.branch [
      | then-not-ends_later-via-then-not-ends_later w ↦ c.ends_later.ensures.no w.if-not-ends_later.true (h.ends c.loop-i.i a l (slice_get_read calls (length calls) c.loop-i.i a refl l c.index-calls-i.is))
      | then-not-ends_later-via-else-not-ends_later+then-not-all_precede w ↦ w.all_precede.ensures.no w.if-not-all_precede.true (λ i m. h.order i c.loop-i.i m l)
    ]
