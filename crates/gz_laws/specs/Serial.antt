-- The one order of the calls of an object: by the versions that are chosen, each with the call whose value is chosen there, and after it the
-- reads of the version, by their ends.
use Rattle.std.specs.Prelude.{ℕ, zero, suc, ◌≡◌, ◌≤◌, ◌==◌, ◌⊎◌, Bool, true, false, ◌&&◌, nat_lt, max, List, [], ◌∷◌, ◌++◌, length, Option, Some, None, if◌then◌else◌, is_some, option_map, slice_get}
use Rattle.std.specs.List.{filter}
use Rattle.gz_core.specs.Calls.{key_of}
use Rattle.gz_core.specs.Names.{Name, same_name}
use Rattle.gz_core.specs.declared.calls.Call.{Call}
use Rattle.gz_core.specs.declared.calls.Call.TheVariants.{Put, Delete, Get, GetAt, Collect}
use Rattle.gz_config.specs.declared.Config.{Config}
use Rattle.gz_history.specs.Answers.{shows, stands, MayTakeEffect}
use Rattle.gz_history.specs.Legal.{IsBefore}
use Rattle.gz_history.specs.Serial.{is_about}
use Rattle.gz_history.specs.declared.record.CallRec.{CallRec}
use Rattle.gz_model.specs.Casts.{is_at, has_enough, IsChosen}
use Rattle.gz_model.specs.declared.casts.Cast.{Cast}
use Rattle.gz_ledger.specs.Histories.{IsIn}
use Rattle.gz_laws.specs.Register.{RunsFrom}
use Rattle.gz_world.specs.States.{State}

-- ---- the versions

-- the name whose value the votes choose at a version of the object
abbrev pub chosen_among : Config → List Cast → List ℕ → ℕ → List Cast → Option Name
chosen_among c casts key v [] = None
chosen_among c casts key v (k ∷ ks) = if is_at k key v && has_enough c casts key v k.ballot k.name then Some k.name else chosen_among c casts key v ks

abbrev pub chosen_at : State → List ℕ → ℕ → Option Name
chosen_at s key v = chosen_among s.cfg s.casts key v s.casts

-- the greatest version at which any vote was cast
abbrev pub top_version : List Cast → ℕ
top_version [] = 0
top_version (k ∷ ks) = max k.version (top_version ks)

-- the greatest version up to this one at which a value is chosen, 0 where there is none
abbrev pub top_chosen : State → List ℕ → ℕ → ℕ
top_chosen s key zero = 0
top_chosen s key (suc v) = if is_some (chosen_at s key (suc v)) then suc v else top_chosen s key v

abbrev pub top_of : State → List ℕ → ℕ
top_of s key = top_chosen s key (top_version s.casts)

-- ---- the places of reads

abbrev pub ends_before : ℕ → Option ℕ → Bool
ends_before tick None = false
ends_before tick (Some end) = nat_lt end tick

abbrev pub or_greater : Option ℕ → ℕ → ℕ
or_greater None n = n
or_greater (Some v) n = max v n

-- the greatest version that answers show of the calls of the object that ended before a tick, 0 where they show none
abbrev pub shown_before : List ℕ → List CallRec → ℕ → ℕ
shown_before key [] tick = 0
shown_before key (a ∷ calls) tick = if is_about key a && ends_before tick a.end then or_greater (shows a.answer) (shown_before key calls tick) else shown_before key calls tick

-- a read that shows the latest version of some moment has its place there; another one after all that was shown before it began
abbrev pub placed_at : Option ℕ → ℕ → ℕ → ℕ
placed_at None shown before = max shown before
placed_at (Some latest) shown before = latest

-- the version after which a read has its place: only one that shows a version has any
abbrev pub place_of : List ℕ → List CallRec → CallRec → Option ℕ
place_of key calls a = option_map (λ shown. placed_at (stands a.call a.answer) shown (shown_before key calls a.begin)) (shows a.answer)

abbrev pub is_read : Call → Bool
is_read (Put key bytes) = false
is_read (Delete key) = false
is_read (Get key) = true
is_read (GetAt key version) = true
is_read (Collect key keep) = true

abbrev pub is_number : ℕ → Option ℕ → Bool
is_number n None = false
is_number n (Some k) = k == n

-- ---- the order

-- f 0, f 1, .. up to f n, one after the other
abbrev pub blocks : {A : Type 0} → (ℕ → List A) → ℕ → List A
blocks f zero = f zero
blocks f (suc n) = blocks f n ++ f (suc n)

-- whether a call is a read of the object with this place that ended at this tick
abbrev pub is_read_at : List ℕ → List CallRec → ℕ → ℕ → CallRec → Bool
is_read_at key calls v tick a = is_about key a && is_read a.call && is_number v (place_of key calls a) && is_number tick a.end

abbrev pub reads_at : State → List ℕ → ℕ → List CallRec
reads_at s key v = blocks (λ tick. filter (is_read_at key s.calls v tick) s.calls) (length s.journal)

abbrev pub named : List CallRec → Option Name → List CallRec
named calls None = []
named calls (Some x) = filter (λ (a : CallRec). same_name a.name x) calls

-- the call whose value is chosen at a version; versions count from 1
abbrev pub write_at : State → List ℕ → ℕ → List CallRec
write_at s key zero = []
write_at s key (suc v) = named s.calls (chosen_at s key (suc v))

abbrev pub order_of : State → List ℕ → List CallRec
order_of s key = blocks (λ v. write_at s key v ++ reads_at s key v) (top_of s key)

-- ---- the law

-- a call of the object
abbrev pub IsOf : List ℕ → State → CallRec → Type 0
IsOf key s a = (i : ℕ) × (slice_get s.calls i ≡ Some a) × (key_of a.call ≡ key)

abbrev pub StandsBefore : List CallRec → CallRec → CallRec → Type 0
StandsBefore [] a b = ⊥
StandsBefore (x ∷ xs) a b = ((x ≡ a) × IsIn b xs) ⊎ StandsBefore xs a b

-- the calls of an object are those of one register, in this order
pub record IsOneRegister (key : List ℕ) (s : State) : Type 0 where
  -- the register gives each of them its answer, if it has one
  pub run : RunsFrom [] (order_of s key)
  -- the versions at which a value is chosen count 1, 2, 3, ..
  pub gapless : (u v : ℕ) (x : Name) → IsChosen s.cfg s.casts key v x → (1 ≤ v) × (1 ≤ u → u ≤ v → (y : Name) × IsChosen s.cfg s.casts key u y)
  -- each stands in it once, is of the object, and wasn't answered that it took no effect
  pub once : (a b : CallRec) → StandsBefore (order_of s key) a b → a.name ≡ b.name → ⊥
  pub calls : (a : CallRec) → IsIn a (order_of s key) → IsOf key s a × MayTakeEffect a.answer
  -- whose value is chosen, or whose answer shows a version, stands in it
  pub chosen : (v : ℕ) (x : Name) → IsChosen s.cfg s.casts key v x → (a : CallRec) × IsIn a (order_of s key) × (a.name ≡ x)
  pub listed : (a : CallRec) (v : ℕ) → IsOf key s a → shows a.answer ≡ Some v → IsIn a (order_of s key)
  -- a call whose answer shows a version stands before each that began after its end, whatever that one's answer is
  pub before : (a b : CallRec) (v : ℕ) → IsOf key s a → shows a.answer ≡ Some v → IsIn b (order_of s key) → IsBefore a.end b.begin → StandsBefore (order_of s key) a b
