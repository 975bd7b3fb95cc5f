use Rattle.std.proofs.Common.{take}
use Rattle.gz_data.specs.Requests.{gets_from, AreAdded}
use Rattle.gz_data.proofs.requests.fetch.Given as goal

abbrev pub invariant-loop-fragment : goal.invariant-loop-fragment
invariant-loop-fragment l = AreAdded l.first l.initial.send l.send l.awaited (gets_from l.name l.key 0 (take l.fragment-index l.fragments))
