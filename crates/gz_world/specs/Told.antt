-- What applying an event promises: one step of the state, whatever the sites tell.
use Rattle.std.specs.Prelude.{ℕ, ◌≡◌, ◌+◌, List, length, Option}
use Rattle.gz_core.specs.History.{Trace}
use Rattle.gz_site.specs.Told.{Told}
use Rattle.gz_world.specs.States.{State}
use Rattle.gz_world.specs.Bridge.{state_of}
use Rattle.gz_world.specs.Fits.{FitsBy, Fits}
use Rattle.gz_world.specs.Reached.{IsReached}
use Rattle.gz_world.specs.Steps.{HasEffect, Records, SameState}
use Rattle.gz_world.specs.declared.events.Applied.{Applied}
use Rattle.gz_world.specs.declared.events.Effect.{Effect}
use Rattle.gz_world.specs.declared.events.Entry.{Entry}
use Rattle.gz_world.specs.declared.events.Event.{Event}
use Rattle.gz_world.specs.declared.world.World.{World}

-- an event was done or skipped, and is not yet in the journal
abbrev pub ActsBy : {S : Type 0} → (S → Option Told) → World S → Event → World S → Effect → Type 0
ActsBy told old event new effect = (traces : ℕ → List Trace) → Fits traces old →
    (after : ℕ → List Trace) × (FitsBy (length old.journal.items + 1) after new × HasEffect (state_of told traces old) event effect (state_of told after new))

-- nothing was done
abbrev pub StaysBy : {S : Type 0} → (S → Option Told) → World S → World S → Type 0
StaysBy told old new = (traces : ℕ → List Trace) → Fits traces old → Fits traces new × SameState (state_of told traces old) (state_of told traces new)

-- the event of this effect is in the journal
abbrev pub RecordedBy : {S : Type 0} → (S → Option Told) → World S → Event → Effect → World S → Entry → Type 0
RecordedBy told old event effect new entry = (traces : ℕ → List Trace) → FitsBy (length old.journal.items + 1) traces old →
    Fits traces new × Records (state_of told traces old) event effect entry (state_of told traces new)

-- what is reported of an event: its tick, its entry, and the answer of its effect
pub record IsReported (tick : ℕ) (entry : Entry) (effect : Effect) (applied : Applied) : Type 0 where
  pub tick_is : applied.tick ≡ tick
  pub outcome_is : applied.outcome ≡ entry.outcome
  pub session_is : applied.session ≡ entry.session
  pub call_is : applied.call ≡ entry.call
  pub live_is : applied.live ≡ entry.live
  pub sent_is : applied.sent ≡ entry.sent
  pub answer_is : applied.answer ≡ effect.answer

-- one step, of which this is reported
pub record ReportsStep (old : State) (event : Event) (new : State) (applied : Applied) : Type 0 where
  pub effect : Effect
  pub mid : State
  pub entry : Entry
  pub acts : HasEffect old event effect mid
  pub records : Records mid event effect entry new
  pub told : IsReported (length new.journal) entry effect applied

abbrev pub StepsBy : {S : Type 0} → (S → Option Told) → World S → Event → World S → Applied → Type 0
StepsBy told old event new applied = (traces : ℕ → List Trace) → Fits traces old →
    (after : ℕ → List Trace) × (Fits after new × ReportsStep (state_of told traces old) event (state_of told after new) applied)

-- the world fits, and its state is reached from sites that held nothing
abbrev pub IsReachedBy : {S : Type 0} → (S → Option Told) → World S → Type 0
IsReachedBy told w = (traces : ℕ → List Trace) × (Fits traces w × IsReached (state_of told traces w))
