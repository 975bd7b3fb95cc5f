use Rattle.std.proofs.Common.{ℕ, ◌≡◌, ◌+◌, ◌-◌, ◌<◌, length, get_or, refl, subst, arith}
use Rattle.std.specs.BTreeMap as tree
use Rattle.std.specs.Ordering.{nat_cmp}
use Rattle.std.proofs.lemmas.Option.{slice_get_read, slice_get-get_or}
use Rattle.gz_history.specs.Index.{AreTaken}
use Rattle.gz_history.proofs.Bounding.{taken_more}
use Rattle.gz_history.proofs.order.taken_after.Goals as goal

pub loop-step-preserved : goal.loop-step-preserved
loop-step-preserved c = λ given.
    let calls = c.args.calls.now in
    let groups = c.args.groups.now in
    let place = c.args.from - 1 - c.loop-step.step in
    let step = c.loop-step-test.true in
    let from = c.requires.from in
    let len = c.requires.len in
    let old = tree.get nat_cmp c.loop-step.least in
    let new = tree.get nat_cmp c.take.new.least in
    let up : c.args.from - c.loop-step.step ≡ place + 1 = omega arith in
    let down : place ≡ c.args.from - (c.loop-step.step + 1) = omega arith in
    let within : place < length calls = omega arith in
    let a = c.index-calls-place-in-loop-step.result in
    let at = slice_get_read calls (length calls) place a refl within c.index-calls-place-in-loop-step.is in
    let group = slice_get-get_or groups place 0 (omega arith) in
    let before : AreTaken calls groups (place + 1) old = subst (λ (n : ℕ). AreTaken calls groups n old) up (c.loop-step.invariant given) in
    subst (λ (n : ℕ). AreTaken calls groups n new) down (taken_more calls groups place old new a (get_or groups place 0) at group c.in_ok-take.ensures.keeps c.in_ok-take.ensures.takes before)
