-- When a history is legal: its answers are those of one linearizable, versioned object for each key.
-- (Herlihy and Wing 1990, "Linearizability".) The names of the calls differ, their beginnings rise strictly,
-- each end is above its beginning, and a call has an answer exactly where it has an end: of such a history
-- the clauses speak.
use Rattle.std.specs.Prelude.{ℕ, ◌≡◌, ◌<◌, ◌≤◌, List, Option, Some, None, Contains}
use Rattle.gz_core.specs.Names.{Name}
use Rattle.gz_core.specs.Calls.{key_of}
use Rattle.gz_history.specs.Answers.{shows, stands, names, read_from, bytes_read, bytes_written, IsWrite, Writes, MayTakeEffect, AnswersAsked}
use Rattle.gz_history.specs.declared.record.CallRec.{CallRec}

-- a tick stands before another
abbrev pub IsBefore : Option ℕ → ℕ → Type 0
IsBefore None tick = ⊥
IsBefore (Some end) tick = end < tick

-- a tick stands before the end of a call, which may have none yet
abbrev pub IsBeforeEnd : ℕ → Option ℕ → Type 0
IsBeforeEnd tick None = Unit {0}
IsBeforeEnd tick (Some end) = tick < end

-- a relation of each two calls of one object
abbrev pub EachTwo : (CallRec → CallRec → Type 0) → List CallRec → Type 0
EachTwo R calls = (a b : CallRec) → Contains calls a → Contains calls b → key_of a.call ≡ key_of b.call → R a b

-- agreement: two answers that name one version name one call
abbrev pub Agree : CallRec → CallRec → Type 0
Agree a b = (v : ℕ) (x y : Name) → shows a.answer ≡ Some v → shows b.answer ≡ Some v → names a.name a.answer ≡ Some x → names b.name b.answer ≡ Some y → x ≡ y

-- effect at most once: two answers that name one call name one version
abbrev pub TakeEffectOnce : CallRec → CallRec → Type 0
TakeEffectOnce a b = (x : Name) (v w : ℕ) → names a.name a.answer ≡ Some x → names b.name b.answer ≡ Some x → shows a.answer ≡ Some v → shows b.answer ≡ Some w → v ≡ w

-- real-time order: a call that began after another had ended stands at no older version, a write at a newer one
abbrev pub KeepOrder : CallRec → CallRec → Type 0
KeepOrder a b = (v w : ℕ) → IsBefore a.end b.begin → shows a.answer ≡ Some v → stands b.call b.answer ≡ Some w → (v ≤ w) × (IsWrite b.call → v < w)

-- the call that a read names: it writes what was read, a put for bytes and a delete where the version is a tombstone, to the same object;
-- it began before the read ended, and may have taken effect
pub record IsSource (a : CallRec) (x : Name) (b : CallRec) : Type 0 where
  pub name : b.name ≡ x
  pub key : key_of b.call ≡ key_of a.call
  pub write : Writes a.answer b.call
  pub began : IsBeforeEnd b.begin a.end
  pub effect : MayTakeEffect b.answer

-- reads from writes: what a read names is in the history
abbrev pub ReadsAWrite : List CallRec → CallRec → Type 0
ReadsAWrite calls a = (x : Name) → read_from a.answer ≡ Some x → (b : CallRec) × (Contains calls b × IsSource a x b)

-- values: a read returns the bytes of the put that it names
abbrev pub ReturnWritten : CallRec → CallRec → Type 0
ReturnWritten a b = (bytes : List ℕ) → read_from a.answer ≡ Some b.name → bytes_read a.answer ≡ Some bytes → bytes_written b.call ≡ Some bytes

-- versions asked for: a read of a version by its number answers about that version
abbrev pub KeepsAsked : CallRec → Type 0
KeepsAsked a = AnswersAsked a.call a.answer

-- a legal history
pub record IsLegal (calls : List CallRec) : Type 0 where
  pub agreement : EachTwo Agree calls
  pub once : EachTwo TakeEffectOnce calls
  pub order : EachTwo KeepOrder calls
  pub sources : (a : CallRec) → Contains calls a → ReadsAWrite calls a
  pub values : EachTwo ReturnWritten calls
  pub asked : (a : CallRec) → Contains calls a → KeepsAsked a
