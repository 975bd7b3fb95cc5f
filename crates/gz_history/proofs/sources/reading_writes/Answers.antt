use Rattle.std.proofs.Common.{length, refl}
use Rattle.std.proofs.lemmas.Option.{slice_get_read}
use Rattle.gz_history.proofs.Searching.{each_more}
use Rattle.gz_history.specs.Legal.{ReadsAWrite}
use Rattle.gz_history.proofs.sources.reading_writes.Goals as goal

pub loop-i-preserved : goal.loop-i-preserved
loop-i-preserved c =
    let calls = c.args.calls.now in
    let a = c.index-calls-i.result in
    each_more {P = ReadsAWrite calls} calls c.loop-i.i a c.loop-i.invariant (slice_get_read calls (length calls) c.loop-i.i a refl c.loop-i-test.true c.index-calls-i.is) (c.reads_a_write.ensures c.if-not-reads_a_write.false)
