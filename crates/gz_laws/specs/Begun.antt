-- The writes that a call began, each with the rows that it had heard when it sent it.
use Rattle.std.specs.Prelude.{ℕ, ◌≡◌, if◌then◌else◌, List, [], ◌∷◌}
use Rattle.gz_core.specs.Names.{Name, same_name}
use Rattle.gz_core.specs.Calls.{key_of}
use Rattle.gz_core.specs.Slots.{Act, act_of}
use Rattle.gz_core.specs.declared.requests.Op.{Op}
use Rattle.gz_core.specs.declared.requests.Op.TheVariants.{WriteRow}
use Rattle.gz_core.specs.History.{Action, Sent, Handed, GaveUp, Rested, GaveIn, Trace}
use Rattle.gz_ledger.specs.Histories.{RowSeen}
use Rattle.gz_ledger.specs.Transitions.{Transition, Reads, Begins, Written, Failed, Elsewhere}
use Rattle.gz_laws.specs.Heard.{heard_of}

-- those of the call of this name among the transitions of an object, the newest first
abbrev pub begins_of : Name → List Transition → List (List RowSeen × Act)
begins_of name [] = []
begins_of name (Reads s ∷ ds) = begins_of name ds
begins_of name (Begins heard a ∷ ds) = if same_name a.write.call name then (heard, a.write.act) ∷ begins_of name ds else begins_of name ds
begins_of name (Written a e ∷ ds) = begins_of name ds
begins_of name (Failed a e ∷ ds) = begins_of name ds
begins_of name (Elsewhere s e ∷ ds) = begins_of name ds

-- with one more request
abbrev pub step_sent : Op → List RowSeen → List (List RowSeen × Act) → List (List RowSeen × Act)
step_sent (WriteRow key expect step row) heard rest = (heard, act_of step) ∷ rest
step_sent op heard rest = rest

-- those that a call's trace sends, the newest first
abbrev pub sends_of : List Action → List (List RowSeen × Act)
sends_of [] = []
sends_of (Sent a ∷ ms) = step_sent a.op (heard_of ms) (sends_of ms)
sends_of (Handed a reply ∷ ms) = sends_of ms
sends_of (GaveUp a ∷ ms) = sends_of ms
sends_of (Rested ∷ ms) = sends_of ms
sends_of (GaveIn ∷ ms) = sends_of ms

-- the transitions of the object have what the trace of its call sends
abbrev pub IsBegunIn : List ℕ → List Transition → Trace → Type 0
IsBegunIn key ds t = key_of t.caller.call ≡ key → begins_of t.caller.name ds ≡ sends_of t.actions
