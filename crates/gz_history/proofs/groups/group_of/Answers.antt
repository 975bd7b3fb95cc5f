use Rattle.std.proofs.Common.{ℕ, ◌≡◌, List, subst, rules}
use Rattle.std.specs.Prelude.{IfOk}
use Rattle.std.specs.BTreeMap as tree
use Rattle.std.specs.Ordering.{nat_cmp}
use Rattle.std.specs.Cmp.Lexicographic.{slice_cmp}
use Rattle.std.proofs.lemmas.List.Elements.{same_from_all_zip}
use Rattle.gz_history.specs.Index.{IsBrought}
use Rattle.gz_history.proofs.groups.group_of.Goals as goal

pub returns : goal.returns
returns c =
    let same : c.in_ok-copy.copy ≡ c.args.key.now = search (rules, same_from_all_zip) in
    subst (λ (key : List ℕ). IfOk c.brought.result (λ group. IsBrought (tree.get (slice_cmp nat_cmp) c.args.heads.now) (tree.get (slice_cmp nat_cmp) c.brought.new.entries) key c.args.new group)) same c.brought.ensures
