use Rattle.std.proofs.Common.{length, arith, ℕ}
use Rattle.gz_history.specs.Broken.{ReturnedUpTo}
use Rattle.gz_history.proofs.Searching.{below_next}
use Rattle.gz_history.proofs.legality.each_return.Goals as goal

pub loop-i-preserved : goal.loop-i-preserved
loop-i-preserved c =
    let calls = c.args.calls.now in
    below_next {P = λ (k : ℕ). ReturnedUpTo calls k (length calls)} c.loop-i.i c.loop-i.invariant c.in_ok-returns_of.ensures.kept

pub returns-clause-kept : goal.returns-clause-kept
returns-clause-kept c = λ i l. c.loop-i.invariant i (omega arith)

pub returns-clause-broken : goal.returns-clause-broken
returns-clause-broken c = tt
