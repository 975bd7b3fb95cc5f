-- The calls that a log can tell: those of a history, within the bounds of a run, each with an answer of its kind where it ended.
use Rattle.std.specs.Prelude.{ℕ, ◌≡◌, ◌^◌, ◌<◌, ◌≤◌, true, List, length, Option, Some, None, All}
use Rattle.hex.specs.Hex.{IsBytes}
use Rattle.gz_core.specs.Names.{Name}
use Rattle.gz_core.specs.Keys.{IsKey}
use Rattle.gz_core.specs.Calls.{key_of}
use Rattle.gz_core.specs.declared.calls.Call.{Call}
use Rattle.gz_core.specs.declared.calls.Call.TheVariants as calls
use Rattle.gz_core.specs.declared.calls.Answer.{Answer}
use Rattle.gz_core.specs.declared.calls.Answer.TheVariants as answers
use Rattle.gz_core.specs.declared.calls.UnsureWhy.{UnsureWhy}
use Rattle.gz_core.specs.declared.calls.UnsureWhy.TheVariants as unsures
use Rattle.gz_core.specs.declared.calls.HeldWhy.{HeldWhy}
use Rattle.gz_core.specs.declared.calls.HeldWhy.TheVariants.{NoOlder, NotWhole}
use Rattle.gz_core.specs.declared.fates.Fate.{Fate}
use Rattle.gz_history.specs.Broken.{IsHistory}
use Rattle.gz_history.specs.declared.record.CallRec.{CallRec}
use Rattle.gz_logs.specs.declared.kinds.Kind.{Kind}
use Rattle.gz_logs.specs.declared.kinds.Told.{Told}
use Rattle.gz_logs.specs.declared.kinds.Told.TheVariants as told
use Rattle.gz_logs.specs.Kinds.{kind_of, may_answer}

-- a count of 32 bits
abbrev pub IsCount : ℕ → Type 0
IsCount n = n < 2 ^ 32

-- a version: a number of 63 bits, from 1 on
pub record IsVersion (version : ℕ) : Type 0 where
  pub begun : 1 ≤ version
  pub bounded : version < 2 ^ 63

-- the session of a name and its number in it: from 1 on, of 32 bits
pub record IsName (name : Name) : Type 0 where
  pub session : 1 ≤ name.session
  pub session_bounded : name.session < 2 ^ 32
  pub seq : 1 ≤ name.seq
  pub seq_bounded : name.seq < 2 ^ 32

-- an object: at most 1,048,576 bytes
pub record IsObject (bytes : List ℕ) : Type 0 where
  pub bounded : length bytes ≤ 1048576
  pub bytes_are : IsBytes bytes

-- the fates of 1 to 16 fragments
pub record AreFates (fates : List Fate) : Type 0 where
  pub some : 1 ≤ length fates
  pub bounded : length fates ≤ 16

-- what a call was given beside its key
abbrev pub IsArgument : Call → Type 0
IsArgument (calls.Put key bytes) = IsObject bytes
IsArgument (calls.Delete key) = Unit {0}
IsArgument (calls.Get key) = Unit {0}
IsArgument (calls.GetAt key version) = IsVersion version
IsArgument (calls.Collect key keep) = (1 ≤ keep) × (keep ≤ 1000)

-- the kind of an answer
abbrev pub told_of : Answer → Told
told_of (answers.Ok version) = told.Ok
told_of (answers.Thin version stored) = told.Thin
told_of (answers.Short stored) = told.Short
told_of (answers.Bytes version name bytes) = told.Bytes
told_of (answers.Incomplete version name fates) = told.Incomplete
told_of (answers.Gone version name) = told.Gone
told_of answers.Absent = told.Absent
told_of (answers.Unborn latest) = told.Unborn
told_of (answers.Collected floor) = told.Collected
told_of (answers.Swept floor dropped) = told.Swept
told_of (answers.Held why) = told.Held
told_of (answers.NoQuorum phase heard) = told.NoQuorum
told_of (answers.Contended met) = told.Contended
told_of (answers.Unsure why) = told.Unsure

-- why a write ended without knowing, and why nothing was collected, within bounds
abbrev pub IsUnsure : UnsureWhy → Type 0
IsUnsure (unsures.NoQuorum phase heard) = IsCount heard
IsUnsure (unsures.Contended met) = IsCount met
IsUnsure (unsures.Trimmed floor) = IsVersion floor

abbrev pub IsHeld : HeldWhy → Type 0
IsHeld NoOlder = Unit {0}
IsHeld (NotWhole fates) = AreFates fates

-- an answer within bounds
abbrev pub IsAnswer : Answer → Type 0
IsAnswer (answers.Ok version) = IsVersion version
IsAnswer (answers.Thin version stored) = IsVersion version × IsCount stored
IsAnswer (answers.Short stored) = IsCount stored
IsAnswer (answers.Bytes version name bytes) = IsVersion version × IsName name × IsObject bytes
IsAnswer (answers.Incomplete version name fates) = IsVersion version × IsName name × AreFates fates
IsAnswer (answers.Gone version name) = IsVersion version × IsName name
IsAnswer answers.Absent = Unit {0}
IsAnswer (answers.Unborn latest) = latest < 2 ^ 63
IsAnswer (answers.Collected floor) = IsVersion floor
IsAnswer (answers.Swept floor dropped) = IsVersion floor × IsCount dropped
IsAnswer (answers.Held why) = IsHeld why
IsAnswer (answers.NoQuorum phase heard) = IsCount heard
IsAnswer (answers.Contended met) = IsCount met
IsAnswer (answers.Unsure why) = IsUnsure why

-- an answer that a call of the kind may have
pub record IsAnswerOf (kind : Kind) (answer : Answer) : Type 0 where
  pub kind_is : may_answer kind (told_of answer) ≡ true
  pub bounded : IsAnswer answer

-- a call has an answer exactly where it ended, at one of the most events
abbrev pub IsEnded : Kind → Option ℕ → Option Answer → Type 0
IsEnded kind None None = Unit {0}
IsEnded kind None (Some answer) = ⊥
IsEnded kind (Some end) None = ⊥
IsEnded kind (Some end) (Some answer) = (end ≤ 4000000) × IsAnswerOf kind answer

-- a call within bounds
pub record IsCall (c : CallRec) : Type 0 where
  pub name : IsName c.name
  pub key : IsKey (key_of c.call)
  pub argument : IsArgument c.call
  pub begin : c.begin ≤ 4000000
  pub ended : IsEnded (kind_of c.call) c.end c.answer

-- calls that a log can tell, of so many events, so many of them skipped
pub record FitsLog (calls : List CallRec) (events skipped : ℕ) : Type 0 where
  pub history : IsHistory calls
  pub each : All IsCall calls
  pub counted : IsCount (length calls)
  pub events_counted : IsCount events
  pub skipped_counted : IsCount skipped
