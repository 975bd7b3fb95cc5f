-- The calls of the history are those of the sessions' traces, and each trace keeps the rules.
use Rattle.std.specs.Prelude.{ℕ, ◌≡◌, ◌⊎◌, List, [], ◌∷◌, Some, slice_get}
use Rattle.gz_config.specs.declared.Config.{Config}
use Rattle.gz_core.specs.History.{Trace}
use Rattle.gz_client.specs.Traces.{KeepsRules, AllKeepRules}
use Rattle.gz_history.specs.declared.record.CallRec.{CallRec}
use Rattle.gz_world.specs.States.{State}
use Rattle.gz_round.specs.Starting.{IsWithin}

-- a trace is that of a call within the bounds of an object: its caller and its answer are the call's, each action was
-- allowed when it came, and the answer has its cause in what the call was handed
pub record IsTraceOf (c : Config) (call : CallRec) (past : List Trace) (t : Trace) : Type 0 where
  pub name_is : t.caller.name ≡ call.name
  pub call_is : t.caller.call ≡ call.call
  pub answer : t.answer ≡ call.answer
  pub within : IsWithin call.call
  pub told : KeepsRules c past t

-- the trace of a call is among these
abbrev pub IsAmong : Config → CallRec → List Trace → Type 0
IsAmong c call [] = ⊥
IsAmong c call (t ∷ ts) = IsTraceOf c call ts t ⊎ IsAmong c call ts

pub record AreCallsListed (s : State) : Type 0 where
  pub told : (session : ℕ) → AllKeepRules s.cfg session (s.traces session)
  pub traces : (i : ℕ) (call : CallRec) → slice_get s.calls i ≡ Some call → IsAmong s.cfg call (s.traces call.name.session)
  pub apart : (i j : ℕ) (a b : CallRec) → slice_get s.calls i ≡ Some a → slice_get s.calls j ≡ Some b → a.name ≡ b.name → i ≡ j
