-- What the program keeps of a world: its parts fit each other, and each client stands for the traces of its session.
use Rattle.std.specs.Prelude.{ℕ, ◌≡◌, ◌≤◌, ◌<◌, ◌+◌, ◌*◌, ◌-◌, ◌^◌, min, List, [], ◌∷◌, length, map, Option, Some, None, slice_get}
use Rattle.gz_core.specs.Configurations.{IsConfig}
use Rattle.gz_config.specs.declared.Config.{Config}
use Rattle.gz_core.specs.History.{Trace}
use Rattle.gz_round.specs.Starting.{IsWithin}
use Rattle.gz_client.specs.Traces.{Holds}
use Rattle.gz_history.specs.declared.record.CallRec.{CallRec}
use Rattle.gz_world.specs.States.{RequestAt, request_of}
use Rattle.gz_world.specs.declared.events.Event.{Event}
use Rattle.gz_world.specs.declared.events.Event.TheVariants as events
use Rattle.gz_world.specs.declared.world.Member.{Member}
use Rattle.gz_world.specs.declared.world.World.{World}

-- the place of the last call of a session, if it has one
abbrev pub IsLast : List CallRec → Option ℕ → List Trace → Type 0
IsLast calls None ts = ts ≡ []
IsLast calls (Some i) ts = (c : CallRec) × ((t : Trace) × ((earlier : List Trace) × ((slice_get calls i ≡ Some c) × ((ts ≡ t ∷ earlier) × (c.name ≡ t.caller.name)))))

-- a client stands for the traces of its session, and its requests have numbers below the next one
pub record StandsFor (cfg : Config) (first : ℕ) (calls : List CallRec) (session : ℕ) (m : Member) (ts : List Trace) : Type 0 where
  pub next : ℕ
  pub below : next ≤ first
  pub holds : Holds m.client next ts
  pub config_is : m.client.config ≡ cfg
  pub session_is : m.client.session ≡ session
  pub last_is : IsLast calls m.last ts

-- a request is of a session that was opened, and goes to a site of the configuration
pub record IsAddressed (n sessions : ℕ) (r : RequestAt) : Type 0 where
  pub opened : 1 ≤ r.name.session
  pub session : r.name.session ≤ sessions
  pub site : r.site < n

-- the parts of a world fit each other after so many events, and its clients stand for these traces
pub record FitsBy {S : Type 0} (events : ℕ) (traces : ℕ → List Trace) (w : World S) : Type 0 where
  pub config : IsConfig w.cfg
  pub sites : w.cfg.n ≤ length w.sites.items
  pub requests : (i : ℕ) (r : RequestAt) → slice_get (map request_of w.net.items) i ≡ Some r → IsAddressed w.cfg.n (length w.clients.items) r
  pub clients : (i : ℕ) (m : Member) → slice_get w.clients.items i ≡ Some m → StandsFor w.cfg (length (map request_of w.net.items) + 1) w.calls.items (i + 1) m (traces (i + 1))
  pub unopened : (session : ℕ) → length w.clients.items < session → traces session ≡ []
  pub zeroth : traces 0 ≡ []
  pub few : (session : ℕ) → length (traces session) ≤ events
  pub weighs : min (64 * length (map request_of w.net.items)) (2 ^ 64 - 1) ≤ w.held
  pub opened : length w.clients.items ≤ events
  pub bounded : events ≤ 4000000

-- the same, after the events of the journal
abbrev pub Fits : {S : Type 0} → (ℕ → List Trace) → World S → Type 0
Fits traces w = FitsBy (length w.journal.items) traces w

-- the world fits some traces of its sessions
abbrev pub IsFitting : {S : Type 0} → World S → Type 0
IsFitting w = (traces : ℕ → List Trace) × Fits traces w

-- a call that an event begins is within the bounds of an object
abbrev pub IsBounded : Event → Type 0
IsBounded events.OpenSession = Unit {0}
IsBounded (events.Begin session call) = IsWithin call
IsBounded (events.Deliver n) = Unit {0}
IsBounded (events.Reply n which) = Unit {0}
IsBounded (events.GiveUp n) = Unit {0}
IsBounded (events.Crash session) = Unit {0}
