use Rattle.gz_data.specs.Requests.{puts_from, AreAdded}
use Rattle.gz_data.proofs.requests.store.Given as goal

abbrev pub invariant-loop-record : goal.invariant-loop-record
invariant-loop-record l = AreAdded l.first l.initial.send l.send l.awaited (puts_from l.name l.key 0 l.yielded)
