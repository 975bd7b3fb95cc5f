-- Where a history first breaks a rule of legal ones.
use Rattle.std.specs.Prelude.{ℕ, ◌≡◌, ◌<◌, ◌⊎◌, List, Some, length, slice_get, Contains}
use Rattle.gz_core.specs.Names.{Name}
use Rattle.gz_core.specs.Calls.{key_of}
use Rattle.gz_history.specs.Answers.{shows, names, read_from}
use Rattle.gz_history.specs.Legal.{Agree, TakeEffectOnce, KeepOrder, IsSource, ReadsAWrite, ReturnWritten, KeepsAsked}
use Rattle.gz_history.specs.declared.record.CallRec.{CallRec}
use Rattle.gz_history.specs.declared.legality.Broken.{Broken}
use Rattle.gz_history.specs.declared.legality.Rule.{Rule}
use Rattle.gz_history.specs.declared.legality.Rule.TheVariants.{Agreement, Once, Order}

-- a call began before another one, which has another name
pub record Precedes (a b : CallRec) : Type 0 where
  pub began : a.begin < b.begin
  pub name : a.name ≡ b.name → ⊥

-- a call ended after it began, if it did
abbrev pub EndsLater : CallRec → Type 0
EndsLater a = (end : ℕ) → a.end ≡ Some end → a.begin < end

abbrev pub PrecedesAt : List CallRec → ℕ → ℕ → Type 0
PrecedesAt calls i j = (a b : CallRec) → slice_get calls i ≡ Some a → slice_get calls j ≡ Some b → Precedes a b

-- the first calls are in the order in which they began
pub record AreInOrder (calls : List CallRec) (end : ℕ) : Type 0 where
  pub order : (i j : ℕ) → i < j → j < end → PrecedesAt calls i j
  pub ends : (i : ℕ) (a : CallRec) → i < end → slice_get calls i ≡ Some a → EndsLater a

-- the calls of a run: they stand in the order in which they began, their names differ, and each end is above its beginning
abbrev pub IsHistory : List CallRec → Type 0
IsHistory calls = AreInOrder calls (length calls)

-- each of the first calls precedes the one at a place
abbrev pub AllPrecede : List CallRec → ℕ → ℕ → Type 0
AllPrecede calls j end = (i : ℕ) → i < end → PrecedesAt calls i j

-- two calls that name writes name one
abbrev pub NameOneWrite : CallRec → CallRec → Type 0
NameOneWrite a b = (x y : Name) → names a.name a.answer ≡ Some x → names b.name b.answer ≡ Some y → x ≡ y

-- two calls that show versions show one
abbrev pub ShowOneVersion : CallRec → CallRec → Type 0
ShowOneVersion a b = (v w : ℕ) → shows a.answer ≡ Some v → shows b.answer ≡ Some w → v ≡ w

-- a rule of each two calls, and its number
abbrev pub relation_of : Rule → CallRec → CallRec → Type 0
relation_of Agreement a b = Agree a b
relation_of Once a b = TakeEffectOnce a b
relation_of Order a b = KeepOrder a b

abbrev pub clause_of : Rule → ℕ
clause_of Agreement = 1
clause_of Once = 2
clause_of Order = 3

-- two calls keep a relation, where they are of one object
abbrev pub OfOneObject : (CallRec → CallRec → Type 0) → CallRec → CallRec → Type 0
OfOneObject R a b = key_of a.call ≡ key_of b.call → R a b

-- two calls of one object break it
pub record Broke (R : CallRec → CallRec → Type 0) (a b : CallRec) : Type 0 where
  pub key : key_of a.call ≡ key_of b.call
  pub breaks : R a b → ⊥

-- the calls at two places keep the relation
abbrev pub KeptAt : (CallRec → CallRec → Type 0) → List CallRec → ℕ → ℕ → Type 0
KeptAt R calls i j = (a b : CallRec) → slice_get calls i ≡ Some a → slice_get calls j ≡ Some b → OfOneObject R a b

-- the call at a place keeps it with each later call below an end
abbrev pub KeptWith : (CallRec → CallRec → Type 0) → List CallRec → ℕ → ℕ → Type 0
KeptWith R calls i end = (j : ℕ) → i < j → j < end → KeptAt R calls i j

-- each call below an end keeps it with all later ones
abbrev pub KeptBefore : (CallRec → CallRec → Type 0) → List CallRec → ℕ → Type 0
KeptBefore R calls end = (i : ℕ) → i < end → KeptWith R calls i (length calls)

-- the calls at two places break the relation, and this is the answer
pub record AreBroken (R : CallRec → CallRec → Type 0) (clause : ℕ) (calls : List CallRec) (i j : ℕ) (broken : Broken) : Type 0 where
  pub a : CallRec
  pub b : CallRec
  pub first_is : slice_get calls i ≡ Some a
  pub second_is : slice_get calls j ≡ Some b
  pub broke : Broke R a b
  pub told : broken ≡ record { clause = clause; a = a.name; b = b.name }

-- a later call is the first that breaks the relation with the call at a place
abbrev pub BreaksWith : (CallRec → CallRec → Type 0) → ℕ → List CallRec → ℕ → Broken → Type 0
BreaksWith R clause calls i broken = (j : ℕ) × ((i < j) × (KeptWith R calls i j × AreBroken R clause calls i j broken))

-- the first call that breaks it with a later one, and the first such one
abbrev pub BreaksFirst : (CallRec → CallRec → Type 0) → ℕ → List CallRec → Broken → Type 0
BreaksFirst R clause calls broken = (i : ℕ) × (KeptBefore R calls i × BreaksWith R clause calls i broken)

-- what each of the first calls reads is in the history
abbrev pub HaveSources : List CallRec → ℕ → Type 0
HaveSources calls end = (i : ℕ) (a : CallRec) → i < end → slice_get calls i ≡ Some a → ReadsAWrite calls a

-- a call reads what is not in the history
pub record IsMissing (calls : List CallRec) (a : CallRec) (x : Name) : Type 0 where
  pub reads : read_from a.answer ≡ Some x
  pub none : (b : CallRec) → Contains calls b → IsSource a x b → ⊥

-- the first read of what is not in the history
pub record LacksSource (calls : List CallRec) (broken : Broken) : Type 0 where
  pub i : ℕ
  pub a : CallRec
  pub x : Name
  pub reader : slice_get calls i ≡ Some a
  pub missing : IsMissing calls a x
  pub before : HaveSources calls i
  pub told : broken ≡ record { clause = 4; a = a.name; b = x }

-- the call at a place returns what was written by each of the first calls that it names
abbrev pub ReturnedUpTo : List CallRec → ℕ → ℕ → Type 0
ReturnedUpTo calls i end = (j : ℕ) → j < end → KeptAt ReturnWritten calls i j

abbrev pub ReturnedBefore : List CallRec → ℕ → Type 0
ReturnedBefore calls end = (i : ℕ) → i < end → ReturnedUpTo calls i (length calls)

-- the first call of which the call at a place returns other bytes than were written
abbrev pub ReturnsOther : List CallRec → ℕ → Broken → Type 0
ReturnsOther calls i broken = (j : ℕ) × (ReturnedUpTo calls i j × AreBroken ReturnWritten 5 calls i j broken)

abbrev pub ReturnsOtherFirst : List CallRec → Broken → Type 0
ReturnsOtherFirst calls broken = (i : ℕ) × (ReturnedBefore calls i × ReturnsOther calls i broken)

-- each of the first calls is answered about the version that it asked for
abbrev pub KeptAsked : List CallRec → ℕ → Type 0
KeptAsked calls end = (i : ℕ) (a : CallRec) → i < end → slice_get calls i ≡ Some a → KeepsAsked a

-- the first call that is answered about another version than it asked for
pub record StraysFirst (calls : List CallRec) (broken : Broken) : Type 0 where
  pub i : ℕ
  pub a : CallRec
  pub reader : slice_get calls i ≡ Some a
  pub strays : KeepsAsked a → ⊥
  pub before : KeptAsked calls i
  pub told : broken ≡ record { clause = 6; a = a.name; b = a.name }

-- a rule that all calls keep
abbrev pub IsRuleKept : Rule → List CallRec → Type 0
IsRuleKept rule calls = KeptBefore (relation_of rule) calls (length calls)

-- the first rule that is broken, and where it first is
abbrev pub IsFirstBroken : List CallRec → Broken → Type 0
IsFirstBroken calls broken =
    BreaksFirst Agree 1 calls broken
    ⊎ (IsRuleKept Agreement calls × BreaksFirst TakeEffectOnce 2 calls broken)
    ⊎ (IsRuleKept Agreement calls × IsRuleKept Once calls × BreaksFirst KeepOrder 3 calls broken)
    ⊎ (IsRuleKept Agreement calls × IsRuleKept Once calls × IsRuleKept Order calls × LacksSource calls broken)
    ⊎ (IsRuleKept Agreement calls × IsRuleKept Once calls × IsRuleKept Order calls × HaveSources calls (length calls) × ReturnsOtherFirst calls broken)
    ⊎ (IsRuleKept Agreement calls × IsRuleKept Once calls × IsRuleKept Order calls × HaveSources calls (length calls) × ReturnedBefore calls (length calls) × StraysFirst calls broken)
