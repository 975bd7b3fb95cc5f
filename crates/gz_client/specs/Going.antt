-- How a call that runs goes on: it stores its fragments first, works on rows, waits for its fragments, or gathers those of the
-- value that it learnt.
use Rattle.std.specs.Prelude.{ℕ, true, false, ◌≡◌, ◌≢◌, ◌<◌, ◌+◌, ◌⊎◌, List, [], length}
use Rattle.std.specs.List.{Contains}
use Rattle.gz_config.specs.declared.Config.{Config}
use Rattle.gz_config.specs.declared.Order.TheVariants.{BlobsFirst}
use Rattle.gz_core.specs.Awaiting.{awaiting, without_rows}
use Rattle.gz_core.specs.Calls.{key_of}
use Rattle.gz_core.specs.History.{Asked, Action, Caller, Trace}
use Rattle.gz_core.specs.Puts.{PutData}
use Rattle.gz_core.specs.declared.values.Value.TheVariants.{Put as PutOf}
use Rattle.gz_data.specs.Blobs.{blob_now, blob_at, wholes}
use Rattle.gz_round.specs.declared.run.Run.{Run}
use Rattle.gz_round.specs.Causes.{IsLearnt}
use Rattle.gz_round.specs.Phases.{HasPhases}
use Rattle.gz_round.specs.Standing.{Runs, IsWaiting}
use Rattle.gz_client.specs.Blobs.{is_put, has_asked, has_fetched, HasStoredFirst}
use Rattle.gz_client.specs.Causes.{IsOpen, IsPlaced, IsUnsettled}
use Rattle.gz_client.specs.Running.{IsResting}

-- a put stores its fragments first: it asked no site for its row yet, and its counters don't say yet how it goes on
pub record StoresFragments (c : Config) (w : Caller) (ms : List Action) : Type 0 where
  pub put : is_put w.call ≡ true
  pub order : c.order ≡ BlobsFirst
  pub unasked : has_asked ms ≡ false
  pub unsettled : IsUnsettled c ms

-- a call works on rows, in a phase that goes on, and to which each event of its rows led by the rules of how phases follow each
-- other; a put that stores its fragments first has stored them
pub record WorksOnRows (c : Config) (w : Caller) (past : List Trace) (ms : List Action) : Type 0 where
  pub run : Run
  pub runs : Runs c w past run ms
  pub phases : HasPhases c w past run.stage ms
  pub unfetched : has_fetched ms ≡ false
  pub first : HasStoredFirst c w ms

-- a put is chosen, its counters don't say yet how it ends, and it awaits no row
pub record WaitsForFragments (c : Config) (w : Caller) (ms : List Action) : Type 0 where
  pub version : ℕ
  pub rests : IsResting ms
  pub placed : IsPlaced c w ms version
  pub put : is_put w.call ≡ true
  pub unsettled : IsUnsettled c ms

-- a call gathers the fragments of the value that it learnt: each was asked for, one is awaited, and fewer came whole than make
-- the object. It awaits no row.
pub record GathersFragments (c : Config) (w : Caller) (ms : List Action) : Type 0 where
  pub version : ℕ
  pub value : PutData
  pub rests : IsResting ms
  pub learnt : IsLearnt c w ms version (PutOf value)
  pub asked : (i : ℕ) → i < value.k + value.m → (blob_now ms (blob_at (key_of w.call) value i)).asked ≡ true
  pub few : length (wholes (key_of w.call) value ms) < value.k
  pub waits : without_rows (awaiting ms) ≢ []

abbrev pub HasWork : Config → Caller → List Trace → List Action → Type 0
HasWork c w past ms = StoresFragments c w ms ⊎ (WorksOnRows c w past ms ⊎ (WaitsForFragments c w ms ⊎ GathersFragments c w ms))

-- a call awaits some request
abbrev pub AwaitsSome : Config → List Action → Type 0
AwaitsSome c ms = IsWaiting c ms ⊎ ((a : Asked) × Contains (without_rows (awaiting ms)) a)

-- a call that runs could go on by its counts, has work, and awaits a request
pub record GoesOn (c : Config) (w : Caller) (past : List Trace) (ms : List Action) : Type 0 where
  pub open_still : IsOpen c w ms
  pub awaits : AwaitsSome c ms
  pub work : HasWork c w past ms
