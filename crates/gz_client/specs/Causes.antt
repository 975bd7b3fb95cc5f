-- When each answer of a call comes, by what the call has sent and heard.
use Rattle.std.specs.Prelude.{ℕ, true, false, ◌≡◌, ◌≤◌, ◌<◌, ◌+◌, List, []}
use Rattle.gz_config.specs.declared.Config.{Config}
use Rattle.gz_config.specs.declared.Order.TheVariants.{BlobsFirst}
use Rattle.gz_core.specs.Awaiting.{awaiting, without_rows}
use Rattle.gz_core.specs.Calls.{key_of}
use Rattle.gz_core.specs.History.{Action, Caller}
use Rattle.gz_core.specs.Names.{Name}
use Rattle.gz_core.specs.Puts.{PutData}
use Rattle.gz_core.specs.declared.fates.Fate.{Fate}
use Rattle.gz_core.specs.declared.values.Value.TheVariants.{Tomb, Put as PutOf}
use Rattle.gz_core.specs.declared.calls.Answer.{Answer}
use Rattle.gz_core.specs.declared.calls.Answer.TheVariants.{Ok, Thin, Short, Bytes, Incomplete, Gone, Absent, Unborn, Collected, Swept, Held, NoQuorum, Contended, Unsure}
use Rattle.gz_data.specs.Blobs.{stored, lost, wholes}
use Rattle.gz_data.specs.Gathered.{IsLacking}
use Rattle.gz_data.specs.Whole.{IsRebuilt}
use Rattle.gz_round.specs.Causes.{EndsBy, IsChosenOwn, IsLearnt, IsAbsent, IsUnborn, IsCollected}
use Rattle.gz_round.specs.Counting.{IsGoing, IsNoticed}
use Rattle.gz_client.specs.Blobs.{is_put, has_asked, has_fetched}

-- so many of a put's fragments are lost that never enough will be stored
abbrev pub HasLostTooMany : Config → List Action → Type 0
HasLostTooMany c ms = c.m + 1 ≤ lost ms + c.f

-- neither are enough fragments stored, nor too many lost
pub record IsUnsettled (c : Config) (ms : List Action) : Type 0 where
  pub few : stored ms < c.k + c.f
  pub lost : lost ms + c.f ≤ c.m

-- a put that stores its fragments first can't: it asked no site for its row yet, and lost too many fragments
pub record CannotStore (c : Config) (w : Caller) (ms : List Action) : Type 0 where
  pub put : is_put w.call ≡ true
  pub order : c.order ≡ BlobsFirst
  pub unasked : has_asked ms ≡ false
  pub lost : HasLostTooMany c ms

-- a call goes on while its counts of rows and of fragments let it
pub record IsOpen (c : Config) (w : Caller) (ms : List Action) : Type 0 where
  pub going : IsGoing c ms
  pub can : CannotStore c w ms → ⊥

-- the call's own value is chosen at the version, and each site that can take it has notice
pub record IsPlaced (c : Config) (w : Caller) (ms : List Action) (v : ℕ) : Type 0 where
  pub chosen : IsChosenOwn c w ms v
  pub noticed : IsNoticed c w ms v

-- a put stored so many of its fragments as make its object, and as many more as it spares
abbrev pub HasStored : Config → Caller → List Action → Type 0
HasStored c w ms = is_put w.call ≡ true → c.k + c.f ≤ stored ms

-- a put stored fewer, and lost too many
pub record IsThin (c : Config) (w : Caller) (ms : List Action) (told : ℕ) : Type 0 where
  pub put : is_put w.call ≡ true
  pub lost : HasLostTooMany c ms
  pub told_is : told ≡ stored ms
  pub few : told < c.k + c.f

-- a call that reads learnt what the put of this name wrote, whose fragments say this
abbrev pub IsRead : Config → Caller → List Action → ℕ → Name → (PutData → Type 0) → Type 0
IsRead c w ms v name told = (x : PutData) × (x.name ≡ name) × IsLearnt c w ms v (PutOf x) × told x

-- the bytes are rebuilt from the pieces that came whole, as many as make the object
abbrev pub GivesBytes : Caller → List Action → List ℕ → PutData → Type 0
GivesBytes w ms bytes x = IsRebuilt x.k x.m x.length (wholes (key_of w.call) x ms) bytes

-- each fragment was asked for, no request for a blob is awaited, and fewer came whole than make the object
abbrev pub GivesFates : Caller → List Action → List Fate → PutData → Type 0
GivesFates w ms fates x = IsLacking (key_of w.call) x ms fates × (without_rows (awaiting ms) ≡ [])

-- a call that asked for no fragment ends by its rows
abbrev pub IsUnfetched : List Action → Type 0
IsUnfetched ms = has_fetched ms ≡ false

-- when each answer comes. No call of this store collects versions yet.
abbrev pub HasCause : Config → Caller → List Action → Answer → Type 0
HasCause c w ms (Ok v) = IsOpen c w ms × IsPlaced c w ms v × HasStored c w ms
HasCause c w ms (Thin v told) = IsOpen c w ms × IsPlaced c w ms v × IsThin c w ms told
HasCause c w ms (Short told) = IsGoing c ms × CannotStore c w ms × (told ≡ stored ms)
HasCause c w ms (Bytes v name bytes) = IsOpen c w ms × IsRead c w ms v name (GivesBytes w ms bytes)
HasCause c w ms (Incomplete v name fates) = IsOpen c w ms × IsRead c w ms v name (GivesFates w ms fates)
HasCause c w ms (Gone v name) = IsOpen c w ms × IsLearnt c w ms v (Tomb name) × IsUnfetched ms
HasCause c w ms Absent = IsOpen c w ms × IsAbsent c w ms × IsUnfetched ms
HasCause c w ms (Unborn latest) = IsOpen c w ms × IsUnborn c w ms latest × IsUnfetched ms
HasCause c w ms (Collected floor) = IsOpen c w ms × IsCollected c w ms floor × IsUnfetched ms
HasCause c w ms (Swept floor dropped) = ⊥
HasCause c w ms (Held why) = ⊥
HasCause c w ms (NoQuorum phase heard) = (CannotStore c w ms → ⊥) × EndsBy c w ms (NoQuorum phase heard) × IsUnfetched ms
HasCause c w ms (Contended m) = (CannotStore c w ms → ⊥) × EndsBy c w ms (Contended m) × IsUnfetched ms
HasCause c w ms (Unsure why) = (CannotStore c w ms → ⊥) × EndsBy c w ms (Unsure why) × IsUnfetched ms
