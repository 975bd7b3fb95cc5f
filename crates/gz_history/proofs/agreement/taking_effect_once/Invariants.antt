use Rattle.std.specs.BTreeMap as tree
use Rattle.gz_history.specs.Index.{AreHeads, name_cmp, versioned_of}
use Rattle.gz_history.proofs.FirstEntries.{marks_by}
use Rattle.gz_history.proofs.agreement.taking_effect_once.Given as goal

abbrev pub invariant-loop-place : goal.invariant-loop-place
invariant-loop-place l = AreHeads (marks_by versioned_of l.calls l.groups) l.place l.start (tree.get name_cmp l.heads)
