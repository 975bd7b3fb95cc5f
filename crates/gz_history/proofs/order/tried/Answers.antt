use Rattle.std.proofs.Common.{length, get_or, refl, arith}
use Rattle.std.specs.BTreeMap as tree
use Rattle.std.specs.Ordering.{nat_cmp}
use Rattle.std.proofs.lemmas.Option.{slice_get_read, slice_get-get_or}
use Rattle.gz_history.proofs.Bounding.{keeps_order}
use Rattle.gz_history.proofs.order.tried.Goals as goal

pub returns-in_ok-next-in-Some-clause-kept : goal.returns-in_ok-next-in-Some-clause-kept
returns-in_ok-next-in-Some-clause-kept c = λ given below.
    let calls = c.args.calls.now in
    let groups = c.args.groups.now in
    let place = c.args.place in
    let next = c.in_ok-next-in-Some.ensures in
    let within = c.requires.place in
    let len = c.requires.len in
    let most = c.requires.from in
    let lower = next.from in
    let a = c.index-calls-place.result in
    keeps_order calls groups place c.in_ok-next-in-Some.next c.in-Some.end (get_or groups place 0) a (tree.get nat_cmp c.taken_after.new.least) c.requires.history len c.requires.groups
    (slice_get_read calls (length calls) place a refl within c.index-calls-place.is) (slice_get-get_or groups place 0 (omega arith)) c.in-Some.is (omega arith) next.before (next.taken given) (c.is_below_least.ensures below)
