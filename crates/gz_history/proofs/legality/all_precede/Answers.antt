use Rattle.std.proofs.Common.{length, refl, arith}
use Rattle.std.proofs.lemmas.Option.{slice_get_read}
use Rattle.gz_history.proofs.Breaking.{precede_more}
use Rattle.gz_history.proofs.legality.all_precede.Goals as goal

pub loop-i-preserved : goal.loop-i-preserved
loop-i-preserved c =
    let calls = c.args.calls.now in
    let a = c.index-calls-i.result in
    let b = c.index-calls-j.result in
    precede_more calls c.args.j c.loop-i.i a b c.loop-i.invariant (slice_get_read calls (length calls) c.loop-i.i a refl (omega arith) c.index-calls-i.is) (slice_get_read calls (length calls) c.args.j b refl c.requires c.index-calls-j.is) (c.precedes.ensures.yes c.if-not-precedes.false)
