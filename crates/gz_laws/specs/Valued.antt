-- Every value in a row, wherever the row stands, is one that a call of the history writes to the row's object: what a put
-- makes of the bytes that it was given, or the tombstone of a delete.
use Rattle.std.specs.Prelude.{ℕ, ◌≡◌, List, Option, Some, None, slice_get}
use Rattle.gz_config.specs.declared.Config.{Config}
use Rattle.gz_data.specs.Own.{IsOwn}
use Rattle.gz_core.specs.Calls.{key_of}
use Rattle.gz_laws.specs.Runs.{key_asked}
use Rattle.gz_core.specs.Rows.{RowAt}
use Rattle.gz_core.specs.declared.values.Value.{Value}
use Rattle.gz_core.specs.declared.requests.Op.{Op}
use Rattle.gz_core.specs.declared.requests.Op.TheVariants.{WriteRow}
use Rattle.gz_core.specs.declared.requests.Reply.{Reply}
use Rattle.gz_core.specs.declared.requests.Reply.TheVariants.{Row}
use Rattle.gz_round.specs.Shown.{row_value}
use Rattle.gz_site.specs.Told.{Told}
use Rattle.gz_history.specs.declared.record.CallRec.{CallRec}
use Rattle.gz_world.specs.States.{RequestAt, State, numbered}

-- this is the own value of a call of the history
abbrev pub IsGiven : Config → List CallRec → Value → Type 0
IsGiven c calls x = (i : ℕ) × (call : CallRec) × (slice_get calls i ≡ Some call) × IsOwn c call.name call.call (Some x)

-- and the call is one of this object
abbrev pub IsGivenTo : Config → List CallRec → List ℕ → Value → Type 0
IsGivenTo c calls key x = (given : IsGiven c calls x) × (key_of given.1.call ≡ key)

-- so was each value of a row of the object
abbrev pub AreGiven : Config → List CallRec → List ℕ → RowAt → Type 0
AreGiven c calls key row = (v : ℕ) (x : Value) → row_value row v ≡ Some x → IsGivenTo c calls key x

abbrev pub IsGivenKept : Config → List CallRec → List ℕ → Option (ℕ × RowAt) → Type 0
IsGivenKept c calls key None = Unit {0}
IsGivenKept c calls key (Some kept) = AreGiven c calls key kept.1

abbrev pub IsGivenOp : Config → List CallRec → Op → Type 0
IsGivenOp c calls (WriteRow key expect step row) = AreGiven c calls key row
IsGivenOp c calls op = Unit {0}

abbrev pub IsGivenReply : Config → List CallRec → List ℕ → Reply → Type 0
IsGivenReply c calls key (Row etag row) = AreGiven c calls key row
IsGivenReply c calls key reply = Unit {0}

-- of the rows that sites keep, that requests write, and that replies show
pub record AreValuedBy (c : Config) (s : State) : Type 0 where
  pub sites : (i : ℕ) (told : Told) (key : List ℕ) → s.sites i ≡ Some told → IsGivenKept c s.calls key (told.rows key)
  pub requests : (n : ℕ) (r : RequestAt) → numbered s.net n ≡ Some r → IsGivenOp c s.calls r.op
  pub replies : (n i tick : ℕ) (r : RequestAt) (reply : Reply) → numbered s.net n ≡ Some r → slice_get r.replies i ≡ Some (tick, reply) → IsGivenReply c s.calls (key_asked r.op) reply

abbrev pub AreValued : State → Type 0
AreValued s = AreValuedBy s.cfg s
