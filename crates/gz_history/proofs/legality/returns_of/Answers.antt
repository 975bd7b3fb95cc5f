use Rattle.std.proofs.Common.{length, refl, arith}
use Rattle.std.proofs.lemmas.Option.{slice_get_read}
use Rattle.gz_history.specs.Legal.{ReturnWritten}
use Rattle.gz_history.proofs.Breaking.{returned_more, broken_at}
use Rattle.gz_history.proofs.legality.returns_of.Goals as goal

pub loop-j-preserved : goal.loop-j-preserved
loop-j-preserved c =
    let calls = c.args.calls.now in
    let a = c.index-calls-i.result in
    let b = c.index-calls-j.result in
    returned_more calls c.args.i c.loop-j.j a b c.loop-j.invariant (slice_get_read calls (length calls) c.args.i a refl c.requires c.index-calls-i.is) (slice_get_read calls (length calls) c.loop-j.j b refl c.loop-j-test.true c.index-calls-j.is) (c.is_returned.ensures.kept c.if-not-is_returned.false)

pub returns-then-not-is_returned-clause-kept : goal.returns-then-not-is_returned-clause-kept
returns-then-not-is_returned-clause-kept c = tt

pub returns-then-not-is_returned-clause-broken : goal.returns-then-not-is_returned-clause-broken
returns-then-not-is_returned-clause-broken c =
    let calls = c.args.calls.now in
    let a = c.index-calls-i.result in
    let b = c.index-calls-j.result in
    (c.loop-j.j, (c.loop-j.invariant, broken_at ReturnWritten 5 5 calls c.args.i c.loop-j.j a b (slice_get_read calls (length calls) c.args.i a refl c.requires c.index-calls-i.is) (slice_get_read calls (length calls) c.loop-j.j b refl c.loop-j-test.true c.index-calls-j.is) (c.is_returned.ensures.broken c.if-not-is_returned.true) refl))

pub returns-clause-kept : goal.returns-clause-kept
returns-clause-kept c = λ j l. c.loop-j.invariant j (omega arith)

pub returns-clause-broken : goal.returns-clause-broken
returns-clause-broken c = tt
