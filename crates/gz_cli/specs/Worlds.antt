-- The world that a run of a schedule opens, plays and leaves.
use Rattle.std.specs.Prelude.{ℕ, ◌≡◌, ◌≤◌, ◌<◌, ◌⊎◌, Bool, true, false, List, length, count_by, Option, Some, IsSome}
use Rattle.gz_config.specs.declared.Config.{Config}
use Rattle.gz_core.specs.History.{Trace}
use Rattle.gz_site.specs.Told.{Told}
use Rattle.gz_site.specs.Many.{told_at}
use Rattle.gz_history.specs.Log.{log_of}
use Rattle.gz_script.specs.Plays.{Plays, PlaysInPart}
use Rattle.gz_lines.specs.declared.line.Line.{Line}
use Rattle.gz_laws.specs.Agreed.{AreAgreed}
use Rattle.gz_laws.specs.Given.{AreGivenBack}
use Rattle.gz_laws.specs.Pieces.{AreByPieces}
use Rattle.gz_laws.specs.Serial.{IsOneRegister}
use Rattle.gz_world.specs.Bridge.{state_of}
use Rattle.gz_world.specs.Counting.{IsFull}
use Rattle.gz_world.specs.Fits.{Fits}
use Rattle.gz_world.specs.Opening.{AreEmpty}
use Rattle.gz_world.specs.Reached.{IsOpening, IsReached}
use Rattle.gz_world.specs.States.{State}
use Rattle.gz_world.specs.declared.events.ApplyError.{ApplyError}
use Rattle.gz_world.specs.declared.events.Entry.{Entry}
use Rattle.gz_world.specs.declared.events.Outcome.{Outcome}
use Rattle.gz_world.specs.declared.events.Outcome.TheVariants as outcomes
use Rattle.gz_world.specs.declared.world.World.{World}

-- there are at least sixteen sites, and each that tells its state holds nothing
pub record AreFresh {S : Type 0} (told : S → Option Told) (sites : List S) : Type 0 where
  pub enough : 16 ≤ length sites
  pub empty : AreEmpty told sites

-- each site that the configuration uses tells its state
abbrev pub AllTellAt : {S : Type 0} → (S → Option Told) → List S → Config → Type 0
AllTellAt told sites cfg = (i : ℕ) → i < cfg.n → IsSome (told_at told sites i)

-- whether the event of an entry was skipped
abbrev pub was_skipped : Outcome → Bool
was_skipped outcomes.Done = false
was_skipped (outcomes.Skipped why) = true

abbrev pub is_skipped : Entry → Bool
is_skipped entry = was_skipped entry.outcome

-- the log of a world: its calls, and how many events there were and how many of them were skipped
abbrev pub log_of_world : {S : Type 0} → World S → List ℕ
log_of_world w = log_of w.calls.items (length w.journal.items) (count_by is_skipped w.journal.items)

-- the lines were played, to their end or in part
abbrev pub PlaysSome : List Line → State → State → Type 0
PlaysSome lines old new = Plays lines old new ⊎ ((error : ApplyError) × PlaysInPart error lines old new)

-- the world was opened over these sites under this configuration, nothing had happened in it, and it was changed so
pub record IsPlayed {S : Type 0} (cfg : Config) (told : S → Option Told) (sites : List S) (Change : State → State → Type 0) (w : World S) : Type 0 where
  pub start : State
  pub opening : IsOpening start
  pub config : start.cfg ≡ cfg
  pub sites_are : start.sites ≡ told_at told sites
  pub traces : ℕ → List Trace
  pub fits : Fits traces w
  pub changes : Change start (state_of told traces w)

-- such a world is left, and this holds of it
pub record Leaves {S : Type 0} (cfg : Config) (told : S → Option Told) (sites : List S) (Change : State → State → Type 0) (left : Option (World S)) (Holds : World S → Type 0) : Type 0 where
  pub world : World S
  pub is_left : left ≡ Some world
  pub played : IsPlayed cfg told sites Change world
  pub holds : Holds world

-- the world takes no more events, and these are the events of its journal and the bytes that it holds
pub record IsFilled {S : Type 0} (events held : ℕ) (w : World S) : Type 0 where
  pub full : IsFull w
  pub events_are : events ≡ length w.journal.items
  pub held_is : held ≡ w.held

-- by traces that the sessions' clients stand for and that the events of the run told: there is agreement on each object, a get's bytes
-- are those that its version's put was given, a get that learnt a put's value answers by the pieces of that value, and the calls of each
-- object are those of one register
pub record AgreesBy {S : Type 0} (told : S → Option Told) (w : World S) : Type 0 where
  pub traces : ℕ → List Trace
  pub fits : Fits traces w
  pub reached : IsReached (state_of told traces w)
  pub agreed : (key : List ℕ) → AreAgreed key (state_of told traces w)
  pub given : AreGivenBack (state_of told traces w)
  pub pieces : AreByPieces (state_of told traces w)
  pub register : (key : List ℕ) → IsOneRegister key (state_of told traces w)
