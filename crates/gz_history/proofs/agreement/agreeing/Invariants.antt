use Rattle.std.specs.BTreeMap as tree
use Rattle.gz_history.specs.Index.{AreHeads, version_cmp, named_of}
use Rattle.gz_history.proofs.FirstEntries.{marks_by}
use Rattle.gz_history.proofs.agreement.agreeing.Given as goal

abbrev pub invariant-loop-place : goal.invariant-loop-place
invariant-loop-place l = AreHeads (marks_by named_of l.calls l.groups) l.place l.start (tree.get version_cmp l.heads)
