-- What the lines of a schedule do to the world: the events of each are read off the world in which the line is reached.
use Rattle.std.specs.Prelude.{ℕ, ◌≡◌, ◌+◌, ◌≤◌, ◌<◌, ◌==◌, ◌⊎◌, Bool, false, zero, suc, not, nat_lt, if◌then◌else◌, List, [], ◌∷◌, length, map, filter, take, Option, Some, None, slice_get}
use Rattle.std.specs.List.{list_any}
use Rattle.gz_core.specs.History.{Trace}
use Rattle.gz_client.specs.Lowest.{IsLowestLive}
use Rattle.gz_site.specs.Told.{Told}
use Rattle.gz_world.specs.Bridge.{state_of}
use Rattle.gz_world.specs.Fits.{Fits}
use Rattle.gz_world.specs.States.{State, RequestAt, numbered}
use Rattle.gz_world.specs.Steps.{WorldStep}
use Rattle.gz_world.specs.declared.events.ApplyError.{ApplyError}
use Rattle.gz_world.specs.declared.events.ApplyError.TheVariants.{Full, NoMemory}
use Rattle.gz_world.specs.declared.events.Event.{Event}
use Rattle.gz_world.specs.declared.events.Event.TheVariants as events
use Rattle.gz_world.specs.declared.world.World.{World}
use Rattle.gz_lines.specs.declared.line.Line.{Line}
use Rattle.gz_lines.specs.declared.line.Line.TheVariants.{OpenSession, Begin, Deliver, Reply, GiveUp, Crash, Take, Settle, Drain}

-- the world takes no more events: 4,000,000 are in its journal, or it holds 1,073,741,824 bytes
abbrev pub TakesNone : State → Type 0
TakesNone s = (4000000 ≤ length s.journal) ⊎ (1073741824 ≤ s.held)

-- one event happens, in a world that takes it
pub record Happens (event : Event) (old new : State) : Type 0 where
  pub taken : TakesNone old → ⊥
  pub step : WorldStep old event new

-- events happen one after another
abbrev pub Happen : List Event → State → State → Type 0
Happen [] old new = old ≡ new
Happen (event ∷ more) old new = (mid : State) × (Happens event old mid × Happen more mid new)

-- why events were broken off before this one: the world was full and refused it, or memory ran out, maybe before there was a next one
abbrev pub BrokeOff : ApplyError → Option Event → State → Type 0
BrokeOff Full None s = ⊥
BrokeOff Full (Some event) s = TakesNone s
BrokeOff NoMemory next s = Unit {0}

-- events were broken off at this one: nothing happened
abbrev pub StopsAt : ApplyError → Event → State → State → Type 0
StopsAt error event old new = (old ≡ new) × BrokeOff error (Some event) new

-- the first few of the events happen, and then they were broken off
abbrev pub HappenInPart : ApplyError → List Event → State → State → Type 0
HappenInPart error all old new = (i : ℕ) × (Happen (take i all) old new × BrokeOff error (slice_get all i) new)

-- whether there is a reply of a request
abbrev pub has_reply : Option RequestAt → Bool
has_reply None = false
has_reply (Some r) = nat_lt 0 (length r.replies)

-- a request is taken: delivered, unless it has a reply, and its first reply is handed to its client
abbrev pub taken : ℕ → State → List Event
taken n s = if has_reply (numbered s.net n) then events.Reply n 1 ∷ [] else events.Deliver n ∷ events.Reply n 1 ∷ []

-- whether a request goes to one of these sites
abbrev pub is_left_out : List ℕ → Option RequestAt → Bool
is_left_out without None = false
is_left_out without (Some r) = list_any (λ site. site == r.site) without

-- what is done with the lowest live request of a session that settles: it is given up where its site is left out, and else taken
abbrev pub settled : List ℕ → ℕ → State → List Event
settled without n s = if is_left_out without (numbered s.net n) then events.GiveUp n ∷ [] else taken n s

-- so many times, the lowest live request of a session is settled
abbrev pub SettlesTimes : ℕ → List ℕ → ℕ → State → State → Type 0
SettlesTimes session without zero old new = old ≡ new
SettlesTimes session without (suc k) old new = (mid : State) × (SettlesTimes session without k old mid
    × ((n : ℕ) × (IsLowestLive mid.cfg (mid.traces session) (Some n) × Happen (settled without n mid) mid new)))

-- at most 65,536 times, while the session has a live request
abbrev pub Settles : ℕ → List ℕ → State → State → Type 0
Settles session without old new = (k : ℕ) × ((k ≤ 65536) × (SettlesTimes session without k old new × (IsLowestLive new.cfg (new.traces session) None ⊎ (k ≡ 65536))))

-- the same, broken off in the course of a time
abbrev pub SettlesInPart : ApplyError → ℕ → List ℕ → State → State → Type 0
SettlesInPart error session without old new = (k : ℕ) × ((k < 65536) × ((mid : State) × (SettlesTimes session without k old mid
    × ((n : ℕ) × (IsLowestLive mid.cfg (mid.traces session) (Some n) × HappenInPart error (settled without n mid) mid new)))))

-- the numbers of a session's requests, where the first request has this number
abbrev pub numbers_sent : ℕ → ℕ → List RequestAt → List ℕ
numbers_sent first session [] = []
numbers_sent first session (r ∷ rs) = if r.name.session == session then first ∷ numbers_sent (first + 1) session rs else numbers_sent (first + 1) session rs

abbrev pub sent_by : ℕ → List RequestAt → List ℕ
sent_by session net = numbers_sent 1 session net

-- those of some requests that have no reply yet
abbrev pub unanswered : List RequestAt → List ℕ → List ℕ
unanswered net ns = filter (λ n. not (has_reply (numbered net n))) ns

-- the requests of a session that have no reply yet
abbrev pub waiting : ℕ → List RequestAt → List ℕ
waiting session net = unanswered net (sent_by session net)

-- the requests of a session that have no reply are delivered, in ascending order
abbrev pub drained : ℕ → State → List Event
drained session s = map (λ n. events.Deliver n) (waiting session s.net)

-- one line, by what its events do, which are read off the world in which it is reached, and by what a line that settles does
abbrev pub LineDoes : (List Event → State → State → Type 0) → (ℕ → List ℕ → State → State → Type 0) → Line → State → State → Type 0
LineDoes Events Settling OpenSession old new = Events (events.OpenSession ∷ []) old new
LineDoes Events Settling (Begin session call) old new = Events (events.Begin session call ∷ []) old new
LineDoes Events Settling (Deliver n) old new = Events (events.Deliver n ∷ []) old new
LineDoes Events Settling (Reply n which) old new = Events (events.Reply n which ∷ []) old new
LineDoes Events Settling (GiveUp n) old new = Events (events.GiveUp n ∷ []) old new
LineDoes Events Settling (Crash session) old new = Events (events.Crash session ∷ []) old new
LineDoes Events Settling (Take n) old new = Events (taken n old) old new
LineDoes Events Settling (Settle session without) old new = Settling session without old new
LineDoes Events Settling (Drain session) old new = Events (drained session old) old new

-- one line is played
abbrev pub PlaysLine : Line → State → State → Type 0
PlaysLine line old new = LineDoes Happen Settles line old new

-- one line, broken off in the course of its events
abbrev pub PlaysLineInPart : ApplyError → Line → State → State → Type 0
PlaysLineInPart error line old new = LineDoes (HappenInPart error) (SettlesInPart error) line old new

-- the lines, one after another
abbrev pub Plays : List Line → State → State → Type 0
Plays [] old new = old ≡ new
Plays (line ∷ lines) old new = (mid : State) × (PlaysLine line old mid × Plays lines mid new)

-- the lines above some line, and that line in part
abbrev pub PlaysInPart : ApplyError → List Line → State → State → Type 0
PlaysInPart error lines old new =
    (i : ℕ) × ((line : Line) × ((slice_get lines i ≡ Some line) × ((mid : State) × (Plays (take i lines) old mid × PlaysLineInPart error line mid new))))

-- a world of the program, whatever the traces of its sessions are, becomes another one by such a change of its state
abbrev pub ChangesBy : {S : Type 0} → (S → Option Told) → (State → State → Type 0) → World S → World S → Type 0
ChangesBy told Change old new = (traces : ℕ → List Trace) → Fits traces old → (after : ℕ → List Trace) × (Fits after new × Change (state_of told traces old) (state_of told after new))
