-- What an index over the calls of a history holds.
use Rattle.std.specs.Prelude.{ℕ, ◌≡◌, ◌+◌, ◌<◌, ◌≤◌, ◌⊎◌, Bool, true, List, length, Option, Some, option_map, slice_get}
use Rattle.std.specs.Ordering.{nat_cmp, ordering_then}
use Rattle.std.specs.declared.cmp.Ordering.{Ordering}
use Rattle.gz_core.specs.Calls.{key_of}
use Rattle.gz_core.specs.Names.{Name}
use Rattle.gz_core.specs.declared.calls.Call.{Call}
use Rattle.gz_core.specs.declared.calls.Call.TheVariants.{Put, Delete, Get, GetAt, Collect}
use Rattle.gz_history.specs.Answers.{shows, stands}
use Rattle.gz_history.specs.Broken.{KeptWith, KeptBefore, HaveSources, ReturnedBefore}
use Rattle.gz_history.specs.Legal.{Agree, TakeEffectOnce, KeepOrder}
use Rattle.gz_history.specs.Serial.{naming}
use Rattle.gz_history.specs.declared.legality.Starts.{Starts}
use Rattle.gz_history.specs.declared.record.CallRec.{CallRec}

-- the value of a tag in a map after an entry was brought under it: the one that it had, or the new one
pub record IsBrought {K X : Type 0} (old new : K → Option X) (tag : K) (entry first : X) : Type 0 where
  pub found : new tag ≡ Some first
  pub grows : (t : K) (x : X) → old t ≡ Some x → new t ≡ Some x
  pub came : (t : K) (x : X) → new t ≡ Some x → (old t ≡ Some x) ⊎ (x ≡ entry)

-- the groups of calls: those of one object are of one group
pub record AreGroups (calls : List CallRec) (groups : List ℕ) : Type 0 where
  pub group_of : List ℕ → Option ℕ
  pub each : (i : ℕ) (a : CallRec) (g : ℕ) → slice_get calls i ≡ Some a → slice_get groups i ≡ Some g → group_of (key_of a.call) ≡ Some g

-- an earlier call of the group gives the same name to the same version
pub record IsRepeat (calls : List CallRec) (groups : List ℕ) (place : ℕ) : Type 0 where
  pub earlier : ℕ
  pub a : CallRec
  pub b : CallRec
  pub group : ℕ
  pub before : earlier < place
  pub first_is : slice_get calls earlier ≡ Some a
  pub second_is : slice_get calls place ≡ Some b
  pub first_group : slice_get groups earlier ≡ Some group
  pub second_group : slice_get groups place ≡ Some group
  pub same : naming a ≡ naming b

abbrev pub AreRepeats : List CallRec → List ℕ → List Bool → Type 0
AreRepeats calls groups repeats = (place : ℕ) → slice_get repeats place ≡ Some true → IsRepeat calls groups place

-- tags: a version of a group, and a name in a group
abbrev pub version_cmp : ℕ × ℕ → ℕ × ℕ → Ordering
version_cmp x y = ordering_then (nat_cmp x.0 y.0) (nat_cmp x.1 y.1)

abbrev pub name_cmp : ℕ × Name → ℕ × Name → Ordering
name_cmp x y = ordering_then (nat_cmp x.0 y.0) (ordering_then (nat_cmp x.1.session y.1.session) (nat_cmp x.1.seq y.1.seq))

-- the tag of a call of a group, and what the call says of it: the name of a version, and the version of a name
abbrev pub named_of : ℕ → CallRec → Option ((ℕ × ℕ) × Name)
named_of group a = option_map (λ given. ((group, given.0), given.1)) (naming a)

abbrev pub versioned_of : ℕ → CallRec → Option ((ℕ × Name) × ℕ)
versioned_of group a = option_map (λ given. ((group, given.1), given.0)) (naming a)

-- the first entry of a tag, before the entry at this place or that one: what it says is said at the place too, or it lies
-- at the start or above
pub record IsHeadOf {V : Type 0} (start place : ℕ) (said : V) (head : ℕ × V) : Type 0 where
  pub before : head.0 ≤ place
  pub same : (head.1 ≡ said) ⊎ (start ≤ head.0)

-- the first entries of the tags of the first n places
pub record AreHeads {T V : Type 0} (marks : ℕ → Option (T × V)) (n start : ℕ) (heads : T → Option (ℕ × V)) : Type 0 where
  pub below : (t : T) (head : ℕ × V) → heads t ≡ Some head → head.0 < n
  pub each : (place : ℕ) (t : T) (said : V) → place < n → marks place ≡ Some (t, said) → (head : ℕ × V) × ((heads t ≡ Some head) × IsHeadOf start place said head)

-- a call that stands at a version allows what began and ended before it to show versions below this bound: the version
-- itself for a write, and the next one for a read
abbrev pub bound_at : Call → ℕ → ℕ
bound_at (Put key bytes) version = version
bound_at (Delete key) version = version
bound_at (Get key) version = version + 1
bound_at (GetAt key asked) version = version + 1
bound_at (Collect key keep) version = version + 1

abbrev pub bound_of : CallRec → Option ℕ
bound_of b = option_map (bound_at b.call) (stands b.call b.answer)

-- a least bound of a group, with one more bound
pub record IsLowered (old new : ℕ → Option ℕ) (group bound : ℕ) : Type 0 where
  pub keeps : (g least : ℕ) → old g ≡ Some least → (l : ℕ) × ((new g ≡ Some l) × (l ≤ least))
  pub takes : (l : ℕ) × ((new group ≡ Some l) × (l ≤ bound))

-- the bounds of the calls from a place on are at least the least ones of their groups
abbrev pub AreTaken : List CallRec → List ℕ → ℕ → (ℕ → Option ℕ) → Type 0
AreTaken calls groups from least =
    (j : ℕ) (b : CallRec) (g bound : ℕ) → from ≤ j → slice_get calls j ≡ Some b → slice_get groups j ≡ Some g → bound_of b ≡ Some bound → (l : ℕ) × ((least g ≡ Some l) × (l ≤ bound))

-- the call just below a place did not begin after a tick
abbrev pub IsNotAfter : List CallRec → ℕ → ℕ → Type 0
IsNotAfter calls from tick = (j : ℕ) (b : CallRec) → j + 1 ≡ from → slice_get calls j ≡ Some b → b.begin ≤ tick

-- a call shows no version at the least bound of a group, or above
abbrev pub IsBelowLeast : (ℕ → Option ℕ) → ℕ → CallRec → Type 0
IsBelowLeast least group a = (version l : ℕ) → shows a.answer ≡ Some version → least group ≡ Some l → version < l

-- the calls that are marked keep the order with all later ones
abbrev pub AreInOrderWhere : List CallRec → List Bool → Type 0
AreInOrderWhere calls kept = (i : ℕ) → slice_get kept i ≡ Some true → KeptWith KeepOrder calls i (length calls)

-- for each rule a number of first calls that keep it
pub record AreKept (calls : List CallRec) (starts : Starts) : Type 0 where
  pub agreement : KeptBefore Agree calls starts.agreement
  pub once : KeptBefore TakeEffectOnce calls starts.once
  pub order : KeptBefore KeepOrder calls starts.order
  pub sources : HaveSources calls starts.sources
  pub values : ReturnedBefore calls starts.values
