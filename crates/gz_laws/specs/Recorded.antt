-- Each trace of a session has its call in the history.
use Rattle.std.specs.Prelude.{ℕ, ◌≡◌, List, [], ◌∷◌, Some, slice_get}
use Rattle.gz_core.specs.Names.{Name}
use Rattle.gz_core.specs.History.{Trace}
use Rattle.gz_history.specs.declared.record.CallRec.{CallRec}
use Rattle.gz_world.specs.States.{State}

-- a call of this name is in the history
abbrev pub IsNamedIn : List CallRec → Name → Type 0
IsNamedIn calls name = (i : ℕ) × (call : CallRec) × (slice_get calls i ≡ Some call) × (call.name ≡ name)

abbrev pub TracesRecorded : List CallRec → List Trace → Type 0
TracesRecorded calls [] = Unit {0}
TracesRecorded calls (t ∷ ts) = IsNamedIn calls t.caller.name × TracesRecorded calls ts

abbrev pub AreRecorded : State → Type 0
AreRecorded s = (session : ℕ) → TracesRecorded s.calls (s.traces session)
