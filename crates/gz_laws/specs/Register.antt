-- A versioned register on one thread: a list of what was written, of which a write adds an item at the end.
-- (Herlihy and Wing 1990, "Linearizability".)
use Rattle.std.specs.Prelude.{ℕ, zero, suc, ◌≡◌, ◌<◌, ◌≤◌, ◌+◌, List, [], ◌∷◌, ◌++◌, length, Option, Some, None, slice_get}
use Rattle.gz_core.specs.Names.{Name}
use Rattle.gz_core.specs.declared.calls.Call.{Call}
use Rattle.gz_core.specs.declared.calls.Call.TheVariants.{Put, Delete, Get, GetAt, Collect}
use Rattle.gz_core.specs.declared.calls.Answer.{Answer}
use Rattle.gz_core.specs.declared.calls.Answer.TheVariants.{Ok as Placed, Thin, Bytes, Incomplete, Gone, Absent, Unborn, Collected, Swept, Unsure}
use Rattle.gz_history.specs.declared.record.CallRec.{CallRec}

-- what a put or delete of this name wrote: bytes, or none where it deleted
pub record Item : Type 0 where
  pub name : Name
  pub bytes : Option (List ℕ)

-- the item of a version; versions count from 1
abbrev pub item_at : List Item → ℕ → Option Item
item_at reg zero = None
item_at reg (suc i) = slice_get reg i

-- the register after a call: a put and a delete add an item
abbrev pub added : List Item → Name → Call → List Item
added reg name (Put key bytes) = reg ++ record { name = name; bytes = Some bytes } ∷ []
added reg name (Delete key) = reg ++ record { name = name; bytes = None } ∷ []
added reg name (Get key) = reg
added reg name (GetAt key version) = reg
added reg name (Collect key keep) = reg

-- the version has an item of this name: the one whose bytes an answer gives, one with some bytes, or a deletion
abbrev pub HasBytes : List Item → ℕ → Name → List ℕ → Type 0
HasBytes reg v x bytes = let item : Item = record { name = x; bytes = Some bytes } in item_at reg v ≡ Some item

abbrev pub HasDeletion : List Item → ℕ → Name → Type 0
HasDeletion reg v x = let item : Item = record { name = x; bytes = None } in item_at reg v ≡ Some item

-- an answer gives the item of this version: it names the item and its version, and gives its bytes, or tells that they are incomplete,
-- or that the object is gone
abbrev pub Gives : List Item → ℕ → Answer → Type 0
Gives reg v (Bytes u x bytes) = (u ≡ v) × HasBytes reg v x bytes
Gives reg v (Incomplete u x fates) = (u ≡ v) × (bytes : List ℕ) × HasBytes reg v x bytes
Gives reg v (Gone u x) = (u ≡ v) × HasDeletion reg v x
Gives reg v answer = ⊥

-- a write answers with the version that its item gets; it may have no answer, or be unsure
abbrev pub PlacesAt : ℕ → Option Answer → Type 0
PlacesAt v None = Unit {0}
PlacesAt v (Some (Placed u)) = u ≡ v
PlacesAt v (Some (Thin u stored)) = u ≡ v
PlacesAt v (Some (Unsure why)) = Unit {0}
PlacesAt v (Some answer) = ⊥

-- a read answers with the last item, or that there is none
abbrev pub GivesLast : List Item → Option Answer → Type 0
GivesLast reg None = ⊥
GivesLast reg (Some Absent) = length reg ≡ 0
GivesLast reg (Some answer) = Gives reg (length reg) answer

-- a read of a version by its number answers with its item, or that it has not begun, or that it was collected, which the last never is
abbrev pub GivesVersion : List Item → ℕ → Option Answer → Type 0
GivesVersion reg v None = ⊥
GivesVersion reg v (Some (Unborn latest)) = (latest ≡ length reg) × (latest < v)
GivesVersion reg v (Some (Collected floor)) = (v ≤ floor) × (floor < length reg)
GivesVersion reg v (Some answer) = Gives reg v answer

-- a collection leaves the last item
abbrev pub Sweeps : List Item → Option Answer → Type 0
Sweeps reg None = ⊥
Sweeps reg (Some (Swept floor dropped)) = floor < length reg
Sweeps reg (Some answer) = ⊥

-- the register answers a call so
abbrev pub AnswersAs : List Item → Call → Option Answer → Type 0
AnswersAs reg (Put key bytes) answer = PlacesAt (length reg + 1) answer
AnswersAs reg (Delete key) answer = PlacesAt (length reg + 1) answer
AnswersAs reg (Get key) answer = GivesLast reg answer
AnswersAs reg (GetAt key version) answer = GivesVersion reg version answer
AnswersAs reg (Collect key keep) answer = Sweeps reg answer

-- from this register on, one call after another gets its answer
abbrev pub RunsFrom : List Item → List CallRec → Type 0
RunsFrom reg [] = Unit {0}
RunsFrom reg (a ∷ calls) = AnswersAs reg a.call a.answer × RunsFrom (added reg a.name a.call) calls
