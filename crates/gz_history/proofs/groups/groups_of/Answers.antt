use Rattle.std.proofs.Common.{ℕ, ◌≡◌, List, ◌∷◌, [], length, length-append, Some, slice_get, refl, sym, ap, subst, ◌∙◌, arith}
use Rattle.std.specs.BTreeMap as tree
use Rattle.std.specs.Ordering.{nat_cmp}
use Rattle.std.specs.Cmp.Lexicographic.{slice_cmp}
use Rattle.std.proofs.lemmas.Option.{slice_get_read}
use Rattle.gz_core.specs.Calls.{key_of}
use Rattle.gz_history.specs.Index.{IsBrought}
use Rattle.gz_history.specs.declared.record.CallRec.{CallRec}
use Rattle.gz_history.proofs.Grouping.{Grouped, grouped_more}
use Rattle.gz_history.proofs.groups.groups_of.Goals as goal

pub loop-i-preserved : goal.loop-i-preserved
loop-i-preserved c =
    let calls = c.args.calls.now in
    let groups = c.loop-i.groups.items in
    let a = c.index-calls-i.result in
    let i = c.loop-i.i in
    let old = tree.get (slice_cmp nat_cmp) c.loop-i.heads in
    let new = tree.get (slice_cmp nat_cmp) c.group_of.new.heads in
    let key : c.key.result.now ≡ key_of a.call = c.key.ensures ∙ ap (λ (x : CallRec). key_of x.call) (sym c.index-calls-i.is) in
    let brought : IsBrought old new (key_of a.call) i c.in_ok-group.group = subst (λ (k : List ℕ). IsBrought old new k i c.in_ok-group.group) key c.in_ok-group.ensures in
    let here : slice_get calls (length groups) ≡ Some a = ap (slice_get calls) c.loop-i.invariant.len ∙ slice_get_read calls (length calls) i a refl c.loop-i-test.true c.index-calls-i.is in
    let pushed = c.in_ok-push.ensures.items in
    let len = c.loop-i.invariant.len in
    let one = length-append groups (c.in_ok-group.group ∷ []) in
    record {
      len = ap (λ (xs : List ℕ). length xs) pushed ∙ omega (arith, one, len);
      each = subst (λ (xs : List ℕ). Grouped calls xs new) (sym pushed) (grouped_more calls groups old new a i c.in_ok-group.group here brought c.loop-i.invariant.each);
    }

pub returns-clause-same : goal.returns-clause-same
returns-clause-same c = record { group_of = tree.get (slice_cmp nat_cmp) c.loop-i.heads; each = c.loop-i.invariant.each }
