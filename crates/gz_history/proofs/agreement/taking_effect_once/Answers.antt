use Rattle.std.proofs.Common.{◌≡◌, length, get_or, refl, ap, ◌∙◌, slice_get, arith}
use Rattle.std.specs.Prelude.{Some, true, false}
use Rattle.std.specs.BTreeMap as tree
use Rattle.std.proofs.lemmas.Option.{slice_get_read, slice_get-get_or}
use Rattle.gz_history.specs.Index.{name_cmp, versioned_of}
use Rattle.gz_history.proofs.FirstEntries.{taken_once, versioned_repeat, marks_by, marked_at}
use Rattle.gz_history.proofs.agreement.taking_effect_once.Goals as goal

pub loop-place-preserved-then-repeats-place : goal.loop-place-preserved-then-repeats-place
loop-place-preserved-then-repeats-place c =
    let repeats = c.args.repeats.now in
    let place = c.loop-place.place in
    let within = c.loop-place-test.true in
    let len = c.requires.repeats_len in
    let is : slice_get repeats place ≡ Some true = slice_get-get_or repeats place false (omega arith) ∙ ap Some c.if-repeats-place.true in
    versioned_repeat c.args.calls.now c.args.groups.now place c.loop-place.start (tree.get name_cmp c.loop-place.heads) (c.requires.repeats place is) c.loop-place.invariant

pub loop-place-preserved : goal.loop-place-preserved
loop-place-preserved c =
    let calls = c.args.calls.now in
    let groups = c.args.groups.now in
    let place = c.loop-place.place in
    let within = c.loop-place-test.true in
    let len = c.requires.len in
    let a = c.index-calls-place.result in
    let at = slice_get_read calls (length calls) place a refl within c.index-calls-place.is in
    let group = slice_get-get_or groups place 0 (omega arith) in
    c.in_ok-start.ensures (marks_by versioned_of calls groups) (marked_at versioned_of calls groups place a (get_or groups place 0) at group) c.loop-place.invariant

pub returns : goal.returns
returns c = taken_once c.args.calls.now c.args.groups.now c.requires.len c.requires.groups c.loop-place.place c.loop-place.start (tree.get name_cmp c.loop-place.heads) (omega arith) c.loop-place.invariant
