-- What a call read is what the put that it names was given.
use Rattle.std.specs.Prelude.{ℕ, ◌≡◌, List, Some, slice_get}
use Rattle.gz_core.specs.Calls.{key_of}
use Rattle.gz_core.specs.Names.{Name}
use Rattle.gz_core.specs.declared.calls.Answer.TheVariants.{Bytes}
use Rattle.gz_core.specs.declared.calls.Call.TheVariants.{Put}
use Rattle.gz_core.specs.History.{Trace}
use Rattle.gz_history.specs.declared.record.CallRec.{CallRec}
use Rattle.gz_laws.specs.Each.{EachTrace}
use Rattle.gz_world.specs.States.{State}

-- the call of this name in the history is a put of these bytes to the object
pub record IsPutGiven (calls : List CallRec) (key : List ℕ) (name : Name) (bytes : List ℕ) : Type 0 where
  pub place : ℕ
  pub call : CallRec
  pub there : slice_get calls place ≡ Some call
  pub name_is : call.name ≡ name
  pub put : call.call ≡ Put key bytes

-- the bytes that a call answered are those that the put which it names was given, of the same object
abbrev pub GivesBack : List CallRec → Trace → Type 0
GivesBack calls t = (v : ℕ) (name : Name) (bytes : List ℕ) → t.answer ≡ Some (Bytes v name bytes) → IsPutGiven calls (key_of t.caller.call) name bytes

abbrev pub AreGivenBack : State → Type 0
AreGivenBack s = (session : ℕ) → EachTrace (GivesBack s.calls) (s.traces session)
