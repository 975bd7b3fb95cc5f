use Rattle.std.proofs.Common.{length, refl, arith}
use Rattle.std.proofs.lemmas.Option.{slice_get_read}
use Rattle.gz_history.proofs.Searching.{each_more}
use Rattle.gz_history.specs.Legal.{ReadsAWrite}
use Rattle.gz_history.proofs.legality.each_source.Goals as goal

pub loop-i-preserved : goal.loop-i-preserved
loop-i-preserved c =
    let calls = c.args.calls.now in
    let a = c.index-calls-i.result in
    each_more {P = ReadsAWrite calls} calls c.loop-i.i a c.loop-i.invariant (slice_get_read calls (length calls) c.loop-i.i a refl c.loop-i-test.true c.index-calls-i.is) c.in_default.ensures

pub returns-in-Some-clause-broken : goal.returns-in-Some-clause-broken
returns-in-Some-clause-broken c =
    let calls = c.args.calls.now in
    let a = c.index-calls-i.result in
    record {
      i = c.loop-i.i;
      a = a;
      x = c.in-Some.x;
      reader = slice_get_read calls (length calls) c.loop-i.i a refl c.loop-i-test.true c.index-calls-i.is;
      missing = c.in-Some.ensures;
      before = c.loop-i.invariant;
      told = refl;
    }

pub returns-clause-kept : goal.returns-clause-kept
returns-clause-kept c = λ i a l p. c.loop-i.invariant i a (omega arith) p
