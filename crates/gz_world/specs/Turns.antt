-- A client's turn, as the program makes it: over the world's own lists.
use Rattle.std.specs.Prelude.{ℕ, ◌≡◌, ◌≤◌, ◌<◌, ◌+◌, ◌-◌, ◌^◌, List, [], ◌∷◌, ◌++◌, length, map, Some, slice_get, slice_set}
use Rattle.gz_core.specs.Names.{Name}
use Rattle.gz_core.specs.declared.calls.Call.{Call}
use Rattle.gz_core.specs.declared.requests.Reply.{Reply}
use Rattle.gz_core.specs.declared.requests.Turn.{Turn}
use Rattle.gz_core.specs.History.{Asked, Action, GaveUp, Trace}
use Rattle.gz_client.specs.declared.client.Client.{Client}
use Rattle.gz_client.specs.Changes.{changed, CanChange}
use Rattle.gz_client.specs.declared.running.Change.{Change}
use Rattle.gz_client.specs.Traces.{IsSameClient, Begins, Extends, CanLearn}
use Rattle.gz_history.specs.declared.record.CallRec.{CallRec}
use Rattle.gz_world.specs.States.{RequestAt, request_of, numbered, with_handed, with_given_up, sent_requests, end_at}
use Rattle.gz_world.specs.Steps.{sent_pair, answered, hears}
use Rattle.gz_world.specs.Weights.{capped, call_bytes, outs_weight}
use Rattle.gz_world.specs.Fits.{Fits}
use Rattle.gz_world.specs.declared.events.Effect.{Effect}
use Rattle.gz_world.specs.declared.events.Outcome.TheVariants as outcomes
use Rattle.gz_world.specs.declared.requests.Request.{Request}
use Rattle.gz_world.specs.declared.world.Member.{Member}
use Rattle.gz_world.specs.declared.world.World.{World}
use Rattle.gz_round.specs.Starting.{IsWithin}

-- the world takes more events
pub record IsSmall {S : Type 0} (w : World S) : Type 0 where
  pub events : length w.journal.items < 4000000
  pub held : w.held < 1073741824
  pub requests : length (map request_of w.net.items) < 2 ^ 24
  pub sessions : length w.clients.items < 2 ^ 24

-- what a client's turn leaves alone
pub record IsUntouched {S : Type 0} (old new : World S) : Type 0 where
  pub cfg : new.cfg ≡ old.cfg
  pub sites : new.sites ≡ old.sites
  pub journal : new.journal ≡ old.journal
  pub casts : new.casts ≡ old.casts

-- nothing has changed but the room that lists have
pub record IsSameWorld {S : Type 0} (old new : World S) : Type 0 where
  pub rest : IsUntouched old new
  pub clients : new.clients.items ≡ old.clients.items
  pub calls : new.calls.items ≡ old.calls.items
  pub net : map request_of new.net.items ≡ map request_of old.net.items
  pub held : new.held ≡ old.held

-- a number, counted from 1, of a list of this length
pub record IsNumber (n len : ℕ) : Type 0 where
  pub positive : 1 ≤ n
  pub within : n ≤ len

-- a session has begun a call, and its record is there
pub record HasCall (calls : List CallRec) (m : Member) : Type 0 where
  pub last : ℕ
  pub is : m.last ≡ Some last
  pub within : last < length calls

-- the client of a session may learn of a request
abbrev pub CanLearnIn : List Member → ℕ → ℕ → ℕ → Type 0
CanLearnIn members session n first = (m : Member) → slice_get members (session - 1) ≡ Some m → CanLearn m.client n first

-- the client of a session may change so
abbrev pub CanChangeIn : List Member → ℕ → Change → Type 0
CanChangeIn members session change = (m : Member) → slice_get members (session - 1) ≡ Some m → CanChange m.client change

-- how a client changes at a request, and its turn
pub record MovesBy (client : Client) (n first : ℕ) (action : Asked → Action) (change : Change) (turn : Turn) : Type 0 where
  pub extends : Extends client (changed client change) n first action turn
  pub same : IsSameClient client (changed client change)
  pub can : CanChange client change

-- the same of the client of a session, of which the action depends on the number of sites
abbrev pub MovesIn : List Member → ℕ → ℕ → ℕ → (ℕ → Asked → Action) → Change → Turn → Type 0
MovesIn members session n first action change turn = (m : Member) × ((slice_get members (session - 1) ≡ Some m) × MovesBy m.client n first (action m.client.config.n) change turn)

-- the client of a request may learn of it
pub record CanBeNotified {S : Type 0} (w : World S) (n : ℕ) (r : Request) : Type 0 where
  pub opened : r.name.session ≤ length w.clients.items
  pub tells : CanLearnIn w.clients.items r.name.session n (length (map request_of w.net.items) + 1)
  pub running : (m : Member) → slice_get w.clients.items (r.name.session - 1) ≡ Some m → HasCall w.calls.items m

-- the effect of a turn
abbrev pub effect_of : ℕ → ℕ → Turn → Effect
effect_of first session turn = record { outcome = outcomes.Done; session = Some session; sent = sent_pair first turn.send; answer = turn.answer }

-- a call begins, with this client after it and this turn
pub record BeganBy {S : Type 0} (old new : World S) (session : ℕ) (call : Call) (m : Member) (client : Client) (turn : Turn) (name : Name) (effect : Effect) : Type 0 where
  pub opened : 1 ≤ session
  pub within : IsWithin call
  pub member : slice_get old.clients.items (session - 1) ≡ Some m
  pub holds : Begins m.client client (length (map request_of old.net.items) + 1) call turn
  pub same : IsSameClient m.client client
  pub name_is : (traces : ℕ → List Trace) → Fits traces old → name ≡ record { session = session; seq = length (traces session) + 1 }
  pub clients : new.clients.items ≡ slice_set old.clients.items (session - 1) (record { client = client; crashed = m.crashed; last = Some (length old.calls.items) })
  pub calls : new.calls.items ≡ old.calls.items ++ record { name = name; call = call; begin = length old.journal.items + 1; end = end_at (length old.journal.items + 1) turn.answer; answer = turn.answer } ∷ []
  pub net : map request_of new.net.items ≡ map request_of old.net.items ++ sent_requests name (length old.journal.items + 1) turn.send
  pub held : new.held ≡ capped (old.held + call_bytes call + outs_weight turn.send)
  pub rest : IsUntouched old new
  pub effect_is : effect ≡ effect_of (length (map request_of old.net.items) + 1) session turn

abbrev pub Began : {S : Type 0} → World S → World S → ℕ → Call → Effect → Type 0
Began old new session call effect = (m : Member) × ((client : Client) × ((turn : Turn) × ((name : Name) × BeganBy old new session call m client turn name effect)))

-- a client learns of a request, with this client after it and this turn
pub record ToldBy {S : Type 0} (old new : World S) (n : ℕ) (r marked : RequestAt) (action : Asked → Action) (m : Member) (last : ℕ) (c : CallRec) (client : Client) (turn : Turn) (effect : Effect) : Type 0 where
  pub request : numbered (map request_of old.net.items) n ≡ Some r
  pub member : slice_get old.clients.items (r.name.session - 1) ≡ Some m
  pub last_is : m.last ≡ Some last
  pub record_is : slice_get old.calls.items last ≡ Some c
  pub extends : Extends m.client client n (length (map request_of old.net.items) + 1) action turn
  pub same : IsSameClient m.client client
  pub clients : new.clients.items ≡ slice_set old.clients.items (r.name.session - 1) (record { client = client; crashed = m.crashed; last = Some last })
  pub calls : new.calls.items ≡ slice_set old.calls.items last (answered (length old.journal.items + 1) turn.answer c)
  pub net : map request_of new.net.items ≡ slice_set (map request_of old.net.items) (n - 1) marked ++ sent_requests c.name (length old.journal.items + 1) turn.send
  pub held : new.held ≡ capped (old.held + outs_weight turn.send)
  pub rest : IsUntouched old new
  pub effect_is : effect ≡ effect_of (length (map request_of old.net.items) + 1) r.name.session turn

-- a reply was handed to its client
abbrev pub WasHanded : {S : Type 0} → World S → World S → ℕ → ℕ → Effect → Type 0
WasHanded old new n which effect =
    (r : RequestAt) × ((reply : ℕ × Reply) × ((m : Member) × ((last : ℕ) × ((c : CallRec) × ((client : Client) × ((turn : Turn) × ((numbered r.replies which ≡ Some reply)
    × ToldBy old new n r (with_handed (length old.journal.items + 1) which r) (hears m.client.config.n reply.1) m last c client turn effect)))))))

-- a client learnt that a request won't be answered
abbrev pub WasGivenUp : {S : Type 0} → World S → World S → ℕ → Effect → Type 0
WasGivenUp old new n effect =
    (r : RequestAt) × ((m : Member) × ((last : ℕ) × ((c : CallRec) × ((client : Client) × ((turn : Turn)
    × ToldBy old new n r (with_given_up (length old.journal.items + 1) r) (λ a. GaveUp a) m last c client turn effect)))))

-- the running call of a session goes on, after its client's turn
pub record WentOn {S : Type 0} (old new : World S) (session tick : ℕ) (m : Member) (last : ℕ) (c : CallRec) (client : Client) (turn : Turn) : Type 0 where
  pub clients : new.clients.items ≡ slice_set old.clients.items (session - 1) (record { client = client; crashed = m.crashed; last = Some last })
  pub calls : new.calls.items ≡ slice_set old.calls.items last (answered tick turn.answer c)
  pub net : map request_of new.net.items ≡ map request_of old.net.items ++ sent_requests c.name (length old.journal.items + 1) turn.send
  pub held : new.held ≡ capped (old.held + outs_weight turn.send)
  pub rest : IsUntouched old new

-- a call begins, after its client's first turn
pub record Started {S : Type 0} (old new : World S) (session : ℕ) (name : Name) (tick : ℕ) (call : Call) (m : Member) (client : Client) (turn : Turn) : Type 0 where
  pub clients : new.clients.items ≡ slice_set old.clients.items (session - 1) (record { client = client; crashed = m.crashed; last = Some (length old.calls.items) })
  pub calls : new.calls.items ≡ old.calls.items ++ record { name = name; call = call; begin = tick; end = end_at tick turn.answer; answer = turn.answer } ∷ []
  pub net : map request_of new.net.items ≡ map request_of old.net.items ++ sent_requests name (length old.journal.items + 1) turn.send
  pub held : new.held ≡ capped (old.held + call_bytes call + outs_weight turn.send)
  pub rest : IsUntouched old new
