-- The other events, as the program makes them: over the world's own lists.
use Rattle.std.specs.Prelude.{ℕ, ◌≡◌, ◌≢◌, ◌≤◌, ◌<◌, ◌+◌, ◌-◌, Bool, vec_len, vec_capacity, ◌++◌, ◌∷◌, [], true, false, List, length, map, Option, Some, None, Vec, slice_get, slice_set}
use Rattle.std.specs.declared.alloc.Global.{Global}
use Rattle.gz_core.specs.declared.requests.Reply.{Reply}
use Rattle.gz_core.specs.declared.requests.Reply.TheVariants as replies
use Rattle.gz_client.specs.declared.client.Client.{Client}
use Rattle.gz_client.specs.Traces.{Holds}
use Rattle.gz_site.specs.Told.{Told}
use Rattle.gz_core.specs.Causes.{Rose}
use Rattle.gz_site.specs.Many.{told_at, faults_at, TellsAt, OthersStay}
use Rattle.gz_site.specs.declared.sites.RowRead.{RowRead}
use Rattle.gz_site.specs.declared.sites.RowRead.TheVariants as reads
use Rattle.gz_site.specs.declared.sites.RowWrite.{RowWrite}
use Rattle.gz_site.specs.declared.sites.RowWrite.TheVariants as writes
use Rattle.gz_model.specs.declared.casts.Cast.{Cast}
use Rattle.gz_world.specs.Audit.{with_casts}
use Rattle.gz_world.specs.declared.requests.Request.{Request}
use Rattle.gz_world.specs.States.{RequestAt, request_of, numbered, with_reply}
use Rattle.gz_world.specs.Steps.{Answers, IsReplyTo, casts_in, quiet}
use Rattle.gz_world.specs.Weights.{capped, reply_weight}
use Rattle.gz_world.specs.declared.events.Effect.{Effect}
use Rattle.gz_world.specs.declared.events.Event.{Event}
use Rattle.gz_world.specs.declared.events.Event.TheVariants as events
use Rattle.gz_world.specs.declared.events.Outcome.{Outcome}
use Rattle.gz_world.specs.declared.events.Outcome.TheVariants as outcomes
use Rattle.gz_world.specs.declared.world.Member.{Member}
use Rattle.gz_world.specs.declared.world.World.{World}

-- the reply to a read, to a write, and to a read of a blob
abbrev pub read_reply : RowRead → Reply
read_reply (reads.Row etag row) = replies.Row etag row
read_reply reads.NoRow = replies.NoRow

abbrev pub write_reply : RowWrite → Reply
write_reply (writes.Written etag) = replies.Written etag
write_reply writes.Changed = replies.Changed

abbrev pub blob_reply : Option (Vec ℕ Global) → Reply
blob_reply (Some bytes) = replies.Blob bytes.items
blob_reply None = replies.NoBlob

-- of a write, the votes are kept where it was done
abbrev pub casts_written : RowWrite → List Cast → List Cast
casts_written (writes.Written etag) casts = casts
casts_written writes.Changed casts = []

-- there is room for one more reply of a request
abbrev pub HasRoomAt : List Request → ℕ → Type 0
HasRoomAt net at = (r : Request) → slice_get net at ≡ Some r → vec_len r.replies < vec_capacity r.replies

-- a reply reports a fault only where the site at this place counted one
abbrev pub IsCounted : {S : Type 0} → (S → ℕ) → List S → ℕ → List S → Reply → Type 0
IsCounted faults olds at news reply = reply ≡ replies.Failed → Rose (faults_at faults olds at) (faults_at faults news at)

-- where the last reply of a request that was delivered reports a fault, its site counted one
abbrev pub IsCountedFor : {S : Type 0} → (S → ℕ) → World S → ℕ → World S → Type 0
IsCountedFor faults old n new =
    (r : RequestAt) (tick : ℕ) → numbered (map request_of new.net.items) n ≡ Some r → numbered r.replies (length r.replies) ≡ Some (tick, replies.Failed)
    → Rose (faults_at faults old.sites.items r.site) (faults_at faults new.sites.items r.site)

-- an event that reaches no site: one that is skipped, or that is no delivery
abbrev pub LeavesSites : Event → Outcome → Type 0
LeavesSites events.OpenSession outcome = Unit {0}
LeavesSites (events.Begin session call) outcome = Unit {0}
LeavesSites (events.Deliver n) outcomes.Done = ⊥
LeavesSites (events.Deliver n) (outcomes.Skipped why) = Unit {0}
LeavesSites (events.Reply n which) outcome = Unit {0}
LeavesSites (events.GiveUp n) outcome = Unit {0}
LeavesSites (events.Crash session) outcome = Unit {0}

-- a delivery touches the site of its request alone
abbrev pub LeavesOthers : {S : Type 0} → World S → ℕ → World S → Type 0
LeavesOthers old n new = (r : RequestAt) → numbered (map request_of old.net.items) n ≡ Some r → OthersStay old.sites.items r.site new.sites.items

-- the same of an event, where it is a delivery
abbrev pub LeavesOthersAt : {S : Type 0} → World S → Event → World S → Type 0
LeavesOthersAt old event new = (n : ℕ) → event ≡ events.Deliver n → LeavesOthers old n new

-- the request with this number is another session's
abbrev pub IsOfAnother : {S : Type 0} → World S → ℕ → ℕ → Type 0
IsOfAnother old n session = (r : RequestAt) → numbered (map request_of old.net.items) n ≡ Some r → r.name.session ≢ session

-- an event that is none of a session's: it opens or names another one, or is about another one's request, or it is a delivery
abbrev pub IsNoneOf : {S : Type 0} → World S → Event → ℕ → Type 0
IsNoneOf old events.OpenSession session = session ≤ length old.clients.items
IsNoneOf old (events.Begin named call) session = named ≢ session
IsNoneOf old (events.Deliver n) session = Unit {0}
IsNoneOf old (events.Reply n which) session = IsOfAnother old n session
IsNoneOf old (events.GiveUp n) session = IsOfAnother old n session
IsNoneOf old (events.Crash named) session = named ≢ session

-- an event leaves a session idle that is none of the session's, or is skipped
abbrev pub IsIdleAt : {S : Type 0} → World S → Event → Outcome → ℕ → Type 0
IsIdleAt old event outcomes.Done session = IsNoneOf old event session
IsIdleAt old event (outcomes.Skipped why) session = Unit {0}

-- the clients of sessions that an event leaves idle are as they were
abbrev pub LeavesClients : {S : Type 0} → World S → Event → Outcome → World S → Type 0
LeavesClients old event outcome new = (session : ℕ) → IsIdleAt old event outcome session → numbered new.clients.items session ≡ numbered old.clients.items session

abbrev pub is_delivery : Event → Bool
is_delivery events.OpenSession = false
is_delivery (events.Begin session call) = false
is_delivery (events.Deliver n) = true
is_delivery (events.Reply n which) = false
is_delivery (events.GiveUp n) = false
is_delivery (events.Crash session) = false

-- the clients are as they were, and so are the sites where the event is no delivery
pub record LeavesAll {S : Type 0} (old : World S) (event : Event) (new : World S) : Type 0 where
  pub clients : new.clients.items ≡ old.clients.items
  pub sites : is_delivery event ≡ false → new.sites ≡ old.sites

-- no site's state has changed
abbrev pub AreTheSame : {S : Type 0} → (S → Option Told) → List S → List S → Type 0
AreTheSame told old new = (i : ℕ) → told_at told new i ≡ told_at told old i

-- what sites do leaves the sessions alone
pub record SessionsUntouched {S : Type 0} (old new : World S) : Type 0 where
  pub cfg : new.cfg ≡ old.cfg
  pub journal : new.journal ≡ old.journal
  pub clients : new.clients ≡ old.clients
  pub calls : new.calls ≡ old.calls

-- nothing was done, but a site may have been read and lists may have more room
pub record IsSameTold {S : Type 0} (told : S → Option Told) (old new : World S) : Type 0 where
  pub cfg : new.cfg ≡ old.cfg
  pub journal : new.journal ≡ old.journal
  pub clients : new.clients.items ≡ old.clients.items
  pub calls : new.calls.items ≡ old.calls.items
  pub len : length new.sites.items ≡ length old.sites.items
  pub told_is : AreTheSame told old.sites.items new.sites.items
  pub casts : new.casts.list.items ≡ old.casts.list.items
  pub net : map request_of new.net.items ≡ map request_of old.net.items
  pub held : new.held ≡ old.held

-- a request was performed, and the reply is kept
pub record DeliveredBy {S : Type 0} (told : S → Option Told) (old new : World S) (n : ℕ) (r : RequestAt) (reply : Reply) (effect : Effect) : Type 0 where
  pub request : numbered (map request_of old.net.items) n ≡ Some r
  pub len : length new.sites.items ≡ length old.sites.items
  pub kind : IsReplyTo r.op reply
  pub site : TellsAt told old.sites.items r.site new.sites.items (λ before after. Answers before r.op reply after)
  pub others : OthersStay old.sites.items r.site new.sites.items
  pub casts : new.casts.list.items ≡ with_casts old.casts.list.items (casts_in r.site r.op reply)
  pub net : map request_of new.net.items ≡ slice_set (map request_of old.net.items) (n - 1) (with_reply (length old.journal.items + 1) reply r)
  pub held : new.held ≡ capped (old.held + reply_weight reply)
  pub rest : SessionsUntouched old new
  pub effect_is : effect ≡ quiet outcomes.Done (Some r.name.session)

abbrev pub WasDelivered : {S : Type 0} → (S → Option Told) → World S → World S → ℕ → Effect → Type 0
WasDelivered told old new n effect = (r : RequestAt) × ((reply : Reply) × DeliveredBy told old new n r reply effect)

-- what a change of the list of sessions leaves alone
pub record ListsUntouched {S : Type 0} (old new : World S) : Type 0 where
  pub cfg : new.cfg ≡ old.cfg
  pub sites : new.sites ≡ old.sites
  pub journal : new.journal ≡ old.journal
  pub casts : new.casts ≡ old.casts
  pub calls : new.calls ≡ old.calls
  pub net : new.net ≡ old.net
  pub held : new.held ≡ old.held

-- a session was opened
pub record OpenedBy {S : Type 0} (old new : World S) (client : Client) (effect : Effect) : Type 0 where
  pub holds : (next : ℕ) → Holds client next []
  pub config : client.config ≡ old.cfg
  pub session : client.session ≡ length old.clients.items + 1
  pub clients : new.clients.items ≡ old.clients.items ++ record { client = client; crashed = false; last = None } ∷ []
  pub rest : ListsUntouched old new
  pub effect_is : effect ≡ quiet outcomes.Done (Some (length old.clients.items + 1))

abbrev pub WasOpened : {S : Type 0} → World S → World S → Effect → Type 0
WasOpened old new effect = (client : Client) × OpenedBy old new client effect

-- a session crashed
pub record CrashedBy {S : Type 0} (old new : World S) (session : ℕ) (m : Member) (effect : Effect) : Type 0 where
  pub opened : 1 ≤ session
  pub member : slice_get old.clients.items (session - 1) ≡ Some m
  pub clients : new.clients.items ≡ slice_set old.clients.items (session - 1) (record { client = m.client; crashed = true; last = m.last })
  pub rest : ListsUntouched old new
  pub effect_is : effect ≡ quiet outcomes.Done (Some session)

abbrev pub WasCrashed : {S : Type 0} → World S → World S → ℕ → Effect → Type 0
WasCrashed old new session effect = (m : Member) × CrashedBy old new session m effect
