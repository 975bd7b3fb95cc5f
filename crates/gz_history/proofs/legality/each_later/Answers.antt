use Rattle.std.proofs.Common.{length, refl, arith}
use Rattle.std.proofs.lemmas.Option.{slice_get_read}
use Rattle.gz_history.specs.Broken.{relation_of, clause_of}
use Rattle.gz_history.proofs.Breaking.{kept_more, broken_at}
use Rattle.gz_history.proofs.legality.each_later.Goals as goal

pub loop-j-init : goal.loop-j-init
loop-j-init c = λ j l m. absurd (omega arith)

pub loop-j-preserved : goal.loop-j-preserved
loop-j-preserved c =
    let calls = c.args.calls.now in
    let a = c.index-calls-i.result in
    let b = c.index-calls-j.result in
    kept_more (relation_of c.args.rule) calls c.args.i c.loop-j.j a b c.loop-j.invariant (slice_get_read calls (length calls) c.args.i a refl c.requires c.index-calls-i.is) (slice_get_read calls (length calls) c.loop-j.j b refl c.loop-j-test.true c.index-calls-j.is) (c.is_kept.ensures.kept c.if-not-is_kept.false)

pub returns-then-not-is_kept-clause-kept : goal.returns-then-not-is_kept-clause-kept
returns-then-not-is_kept-clause-kept c = tt

pub returns-then-not-is_kept-clause-broken : goal.returns-then-not-is_kept-clause-broken
returns-then-not-is_kept-clause-broken c =
    let calls = c.args.calls.now in
    let a = c.index-calls-i.result in
    let b = c.index-calls-j.result in
    (c.loop-j.j, (omega arith, (c.loop-j.invariant, broken_at (relation_of c.args.rule) (clause_of c.args.rule) c.clause.result calls c.args.i c.loop-j.j a b (slice_get_read calls (length calls) c.args.i a refl c.requires c.index-calls-i.is) (slice_get_read calls (length calls) c.loop-j.j b refl c.loop-j-test.true c.index-calls-j.is) (c.is_kept.ensures.broken c.if-not-is_kept.true) c.clause.ensures)))

pub returns-clause-kept : goal.returns-clause-kept
returns-clause-kept c = λ j l m. c.loop-j.invariant j l (omega arith)

pub returns-clause-broken : goal.returns-clause-broken
returns-clause-broken c = tt
