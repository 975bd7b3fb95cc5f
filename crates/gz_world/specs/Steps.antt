-- What one event does to the world.
use Rattle.std.specs.Prelude.{ℕ, ◌≡◌, ◌≢◌, ◌+◌, ◌-◌, ◌==◌, true, false, ◌^◌, min, if◌then◌else◌, List, [], ◌∷◌, ◌++◌, length, Option, Some, None, Ok, Err, MatchOption, slice_get, slice_set, option_map, option_and_then}
use Rattle.gz_core.specs.Names.{Name}
use Rattle.gz_core.specs.declared.calls.Answer.{Answer}
use Rattle.gz_core.specs.declared.calls.Call.{Call}
use Rattle.gz_core.specs.declared.requests.Op.{Op}
use Rattle.gz_core.specs.declared.requests.Op.TheVariants as ops
use Rattle.gz_core.specs.declared.requests.Out.{Out}
use Rattle.gz_core.specs.declared.requests.Reply.{Reply}
use Rattle.gz_core.specs.declared.requests.Reply.TheVariants as replies
use Rattle.gz_core.specs.declared.requests.Turn.{Turn}
use Rattle.gz_core.specs.declared.values.Value.{Value}
use Rattle.gz_core.specs.History.{Asked, Action, Handed, GaveUp, Trace, begun, turned}
use Rattle.gz_round.specs.Sites.{as_heard, written_by}
use Rattle.gz_round.specs.Starting.{IsWithin}
use Rattle.gz_client.specs.Lowest.{IsLowestLive}
use Rattle.gz_client.specs.Openings.{IsOpening}
use Rattle.gz_client.specs.Sends.{IsTurn}
use Rattle.gz_client.specs.Traces.{AllKeepRules, IsAwaited, IsClosed}
use Rattle.gz_site.specs.Told.{Told, Tells}
use Rattle.gz_site.specs.Steps.{ReadRowStep, WriteRowStep, PutBlobStep, DropBlobStep}
use Rattle.gz_site.specs.declared.sites.RowRead.TheVariants as reads
use Rattle.gz_site.specs.declared.sites.RowWrite.TheVariants as writes
use Rattle.gz_site.specs.declared.sites.SiteFault.TheVariants as faults
use Rattle.gz_history.specs.declared.record.CallRec.{CallRec}
use Rattle.gz_world.specs.Audit.{casts_of, with_casts}
use Rattle.gz_world.specs.Weights.{capped, call_bytes, outs_weight, reply_weight}
use Rattle.gz_world.specs.States.{RequestAt, State, tick_of, next_of, numbered, with_traces, with_reply, with_handed, with_given_up, sent_requests, end_at}
use Rattle.gz_world.specs.Refusals.{refusal_of, is_open}
use Rattle.gz_model.specs.declared.casts.Cast.{Cast}
use Rattle.gz_world.specs.declared.events.Effect.{Effect}
use Rattle.gz_world.specs.declared.events.Entry.{Entry}
use Rattle.gz_world.specs.declared.events.Event.{Event}
use Rattle.gz_world.specs.declared.events.Event.TheVariants as events
use Rattle.gz_world.specs.declared.events.Outcome.{Outcome}
use Rattle.gz_world.specs.declared.events.Outcome.TheVariants as outcomes
use Rattle.gz_world.specs.declared.events.Skip.{Skip}

-- no site did anything
pub record SitesStay (old new : State) : Type 0 where
  pub sites : (i : ℕ) → new.sites i ≡ old.sites i
  pub casts : new.casts ≡ old.casts

-- no session did anything
pub record SessionsStay (old new : State) : Type 0 where
  pub sessions : new.sessions ≡ old.sessions
  pub crashed : (session : ℕ) → new.crashed session ≡ old.crashed session
  pub traces : (session : ℕ) → new.traces session ≡ old.traces session
  pub calls : new.calls ≡ old.calls

-- the configuration never changes, and the journal grows only once the event is over
pub record FrameStays (old new : State) : Type 0 where
  pub cfg : new.cfg ≡ old.cfg
  pub journal : new.journal ≡ old.journal

-- nothing changed at all
pub record SameState (old new : State) : Type 0 where
  pub sites : SitesStay old new
  pub sessions : SessionsStay old new
  pub frame : FrameStays old new
  pub net : new.net ≡ old.net
  pub held : new.held ≡ old.held

-- the session that an event names, or whose request it names, where there is one
abbrev pub open_session : ℕ → ℕ → Option ℕ
open_session sessions session = if is_open sessions session then Some session else None

abbrev pub session_of_request : Option RequestAt → Option ℕ
session_of_request request = option_map (λ (r : RequestAt). r.name.session) request

abbrev pub session_of : State → Event → Option ℕ
session_of s events.OpenSession = Some (s.sessions + 1)
session_of s (events.Begin session call) = open_session s.sessions session
session_of s (events.Deliver n) = session_of_request (numbered s.net n)
session_of s (events.Reply n which) = session_of_request (numbered s.net n)
session_of s (events.GiveUp n) = session_of_request (numbered s.net n)
session_of s (events.Crash session) = open_session s.sessions session

-- an event that sends nothing and ends no call
abbrev pub quiet : Outcome → Option ℕ → Effect
quiet outcome session = record { outcome = outcome; session = session; sent = (0, 0); answer = None }

-- the first request that was sent and how many were, a count that stands still at the last value of its type
abbrev pub sent_pair : ℕ → List Out → ℕ × ℕ
sent_pair first [] = (0, 0)
sent_pair first (out ∷ outs) = (first, min (length outs + 1) (2 ^ 32 - 1))

-- a client's turn
abbrev pub turn_effect : State → ℕ → Turn → Effect
turn_effect s session turn = record { outcome = outcomes.Done; session = Some session; sent = sent_pair (next_of s) turn.send; answer = turn.answer }

-- a new session opens, with the next number
pub record OpensSession (old : State) (effect : Effect) (new : State) : Type 0 where
  pub sessions : new.sessions ≡ old.sessions + 1
  pub crashed : (session : ℕ) → new.crashed session ≡ old.crashed session
  pub traces : (session : ℕ) → new.traces session ≡ old.traces session
  pub calls : new.calls ≡ old.calls
  pub sites : SitesStay old new
  pub frame : FrameStays old new
  pub net : new.net ≡ old.net
  pub held : new.held ≡ old.held
  pub effect_is : effect ≡ quiet outcomes.Done (Some (old.sessions + 1))

-- a session crashes
pub record Crashes (old : State) (session : ℕ) (effect : Effect) (new : State) : Type 0 where
  pub sessions : new.sessions ≡ old.sessions
  pub crashed : (n : ℕ) → new.crashed n ≡ (if n == session then true else old.crashed n)
  pub traces : (n : ℕ) → new.traces n ≡ old.traces n
  pub calls : new.calls ≡ old.calls
  pub sites : SitesStay old new
  pub frame : FrameStays old new
  pub net : new.net ≡ old.net
  pub held : new.held ≡ old.held
  pub effect_is : effect ≡ quiet outcomes.Done (Some session)

-- the traces of a session change, by the rules of what a call may send and when its answers come
pub record SessionMoves (old : State) (session : ℕ) (ts : List Trace) (new : State) : Type 0 where
  pub sessions : new.sessions ≡ old.sessions
  pub crashed : (n : ℕ) → new.crashed n ≡ old.crashed n
  pub traces : (n : ℕ) → new.traces n ≡ with_traces old.traces session ts n
  pub told : AllKeepRules old.cfg session ts

-- a session begins a call, which is within the bounds of an object
pub record BeginsBy (old : State) (session : ℕ) (call : Call) (own : Option Value) (turn : Turn) (effect : Effect) (new : State) : Type 0 where
  pub within : IsWithin call
  pub opens : IsOpening old.cfg (begun session call own (next_of old) turn (old.traces session)).caller turn.send
  pub moves : SessionMoves old session (begun session call own (next_of old) turn (old.traces session) ∷ old.traces session) new
  pub calls : new.calls ≡ old.calls ++ record {
    name = record { session = session; seq = length (old.traces session) + 1 };
    call = call;
    begin = tick_of old;
    end = end_at (tick_of old) turn.answer;
    answer = turn.answer;
  } ∷ []
  pub net : new.net ≡ old.net ++ sent_requests (record { session = session; seq = length (old.traces session) + 1 }) (tick_of old) turn.send
  pub held : new.held ≡ capped (old.held + call_bytes call + outs_weight turn.send)
  pub sites : SitesStay old new
  pub frame : FrameStays old new
  pub effect_is : effect ≡ turn_effect old session turn

abbrev pub BeginsCall : State → ℕ → Call → Effect → State → Type 0
BeginsCall old session call effect new = (own : Option Value) × ((turn : Turn) × BeginsBy old session call own turn effect new)

-- the record of a call, once it has an answer
abbrev pub answered : ℕ → Option Answer → CallRec → CallRec
answered tick None c = c
answered tick (Some answer) c = record { name = c.name; call = c.call; begin = c.begin; end = Some tick; answer = Some answer }

-- the record of the call of this name gets its answer, if one came
abbrev pub CallEnds : List CallRec → Name → ℕ → Option Answer → List CallRec → Type 0
CallEnds old name tick answer new = (i : ℕ) × ((c : CallRec) × ((slice_get old i ≡ Some c) × ((c.name ≡ name) × (new ≡ slice_set old i (answered tick answer c)))))

-- how a running call goes on: its newest trace gets an action of a request, what it sends at it, and perhaps its answer
pub record TurnBy : Type 0 where
  pub trace : Trace
  pub earlier : List Trace
  pub asked : Asked
  pub turn : Turn
  pub closing : List Action

-- the running call of a session learns of a request of its own, and sends what it may at that
pub record TakesTurn (old : State) (n : ℕ) (r : RequestAt) (action : Asked → Action) (by : TurnBy) (marked : RequestAt) (effect : Effect) (new : State) : Type 0 where
  pub request : numbered old.net n ≡ Some r
  pub traces : old.traces r.name.session ≡ by.trace ∷ by.earlier
  pub awaited : IsAwaited old.cfg by.trace by.asked n
  pub closing : IsClosed by.closing
  pub sends : IsTurn old.cfg (action by.asked ∷ by.trace.actions) (next_of old) by.turn by.closing
  pub moves : SessionMoves old r.name.session (turned (next_of old) by.turn (action by.asked) by.closing by.trace ∷ by.earlier) new
  pub calls : CallEnds old.calls by.trace.caller.name (tick_of old) by.turn.answer new.calls
  pub net : new.net ≡ slice_set old.net (n - 1) marked ++ sent_requests by.trace.caller.name (tick_of old) by.turn.send
  pub held : new.held ≡ capped (old.held + outs_weight by.turn.send)
  pub sites : SitesStay old new
  pub frame : FrameStays old new
  pub effect_is : effect ≡ turn_effect old r.name.session by.turn

-- a call over n sites hears a reply of its request
abbrev pub hears : ℕ → Reply → Asked → Action
hears n reply a = Handed a (as_heard n (written_by a.op) reply)

-- a reply of a request is handed to its client
abbrev pub Hands : State → ℕ → ℕ → Effect → State → Type 0
Hands old n which effect new =
    (r : RequestAt) × ((reply : ℕ × Reply) × ((by : TurnBy) × ((numbered r.replies which ≡ Some reply)
    × TakesTurn old n r (hears old.cfg.n reply.1) by (with_handed (tick_of old) which r) effect new)))

-- a client learns that a request won't be answered
abbrev pub GivesUp : State → ℕ → Effect → State → Type 0
GivesUp old n effect new = (r : RequestAt) × ((by : TurnBy) × TakesTurn old n r (λ a. GaveUp a) by (with_given_up (tick_of old) r) effect new)

-- a site answers an operation, by the rules of a site
abbrev pub Answers : Told → Op → Reply → Told → Type 0
Answers old (ops.ReadRow key) (replies.Row etag row) new = ReadRowStep old key (Ok (reads.Row etag row)) new
Answers old (ops.ReadRow key) replies.NoRow new = ReadRowStep old key (Ok reads.NoRow) new
Answers old (ops.ReadRow key) replies.Failed new = ReadRowStep old key (Err faults.Failed) new
Answers old (ops.WriteRow key expect step row) (replies.Written etag) new = WriteRowStep old key expect row (Ok (writes.Written etag)) new
Answers old (ops.WriteRow key expect step row) replies.Changed new = WriteRowStep old key expect row (Ok writes.Changed) new
Answers old (ops.WriteRow key expect step row) replies.Failed new = WriteRowStep old key expect row (Err faults.Failed) new
Answers old (ops.PutBlob blob bytes) replies.Stored new = PutBlobStep old blob bytes (Ok tt) new
Answers old (ops.PutBlob blob bytes) replies.Failed new = PutBlobStep old blob bytes (Err faults.Failed) new
Answers old (ops.GetBlob blob) (replies.Blob bytes) new = (old.blobs blob ≡ Some bytes) × (new ≡ old)
Answers old (ops.GetBlob blob) replies.NoBlob new = (old.blobs blob ≡ None) × (new ≡ old)
Answers old (ops.GetBlob blob) replies.Failed new = new ≡ old
Answers old (ops.DropBlob blob) replies.Dropped new = DropBlobStep old blob (Ok true) new
Answers old (ops.DropBlob blob) replies.NoBlob new = DropBlobStep old blob (Ok false) new
Answers old (ops.DropBlob blob) replies.Failed new = DropBlobStep old blob (Err faults.Failed) new
Answers old op reply new = ⊥

-- a reply is one of those that the operation may have
abbrev pub IsReplyTo : Op → Reply → Type 0
IsReplyTo (ops.ReadRow key) (replies.Row etag row) = Unit {0}
IsReplyTo (ops.ReadRow key) replies.NoRow = Unit {0}
IsReplyTo (ops.WriteRow key expect step row) (replies.Written etag) = Unit {0}
IsReplyTo (ops.WriteRow key expect step row) replies.Changed = Unit {0}
IsReplyTo (ops.PutBlob blob bytes) replies.Stored = Unit {0}
IsReplyTo (ops.GetBlob blob) (replies.Blob bytes) = Unit {0}
IsReplyTo (ops.GetBlob blob) replies.NoBlob = Unit {0}
IsReplyTo (ops.DropBlob blob) replies.Dropped = Unit {0}
IsReplyTo (ops.DropBlob blob) replies.NoBlob = Unit {0}
IsReplyTo op replies.Failed = Unit {0}
IsReplyTo op reply = ⊥

-- the votes that a reply shows: those of the row that was read, or written
abbrev pub casts_in : ℕ → Op → Reply → List Cast
casts_in site (ops.ReadRow key) (replies.Row etag row) = casts_of site key row
casts_in site (ops.WriteRow key expect step row) (replies.Written etag) = casts_of site key row
casts_in site op reply = []

-- a request is performed at its site, and the reply is kept
pub record DeliversBy (old : State) (n : ℕ) (r : RequestAt) (reply : Reply) (effect : Effect) (new : State) : Type 0 where
  pub request : numbered old.net n ≡ Some r
  pub kind : IsReplyTo r.op reply
  pub site : Tells (old.sites r.site) (new.sites r.site) (λ before after. Answers before r.op reply after)
  pub others : (i : ℕ) → i ≢ r.site → new.sites i ≡ old.sites i
  pub net : new.net ≡ slice_set old.net (n - 1) (with_reply (tick_of old) reply r)
  pub casts : new.casts ≡ with_casts old.casts (casts_in r.site r.op reply)
  pub held : new.held ≡ capped (old.held + reply_weight reply)
  pub sessions : SessionsStay old new
  pub frame : FrameStays old new
  pub effect_is : effect ≡ quiet outcomes.Done (Some r.name.session)

abbrev pub Delivers : State → ℕ → Effect → State → Type 0
Delivers old n effect new = (r : RequestAt) × ((reply : Reply) × DeliversBy old n r reply effect new)

-- an event that isn't skipped
abbrev pub Does : State → Event → Effect → State → Type 0
Does old events.OpenSession effect new = OpensSession old effect new
Does old (events.Begin session call) effect new = BeginsCall old session call effect new
Does old (events.Deliver n) effect new = Delivers old n effect new
Does old (events.Reply n which) effect new = Hands old n which effect new
Does old (events.GiveUp n) effect new = GivesUp old n effect new
Does old (events.Crash session) effect new = Crashes old session effect new

-- an event that is skipped changes nothing
pub record Skips (old : State) (event : Event) (why : Skip) (effect : Effect) (new : State) : Type 0 where
  pub same : SameState old new
  pub effect_is : effect ≡ quiet (outcomes.Skipped why) (session_of old event)

-- what an event does, but for its entry in the journal
abbrev pub HasEffect : State → Event → Effect → State → Type 0
HasEffect old event effect new = MatchOption (refusal_of old event) (Does old event effect new) (λ why. Skips old event why effect new)

-- the last call of a session
abbrev pub last_name : List Trace → Option Name
last_name [] = None
last_name (t ∷ ts) = Some t.caller.name

-- the name of the call at a place
abbrev pub name_at : List CallRec → Option ℕ → Option Name
name_at calls None = None
name_at calls (Some i) = option_map (λ (c : CallRec). c.name) (slice_get calls i)

-- the last call of the session of an event, if it has one
abbrev pub last_call : State → Option ℕ → Option Name
last_call s session = option_and_then (λ n. last_name (s.traces n)) session

abbrev pub IsLowestOf : State → Option ℕ → Option ℕ → Type 0
IsLowestOf s None number = number ≡ None
IsLowestOf s (Some session) number = IsLowestLive s.cfg (s.traces session) number

-- the entry of an event: the event, its effect, and the session's last call and lowest live request after it
pub record IsEntryOf (s : State) (event : Event) (effect : Effect) (entry : Entry) : Type 0 where
  pub event_is : entry.event ≡ event
  pub outcome_is : entry.outcome ≡ effect.outcome
  pub session_is : entry.session ≡ effect.session
  pub call_is : entry.call ≡ last_call s effect.session
  pub live_is : IsLowestOf s effect.session entry.live
  pub sent_is : entry.sent ≡ effect.sent

-- the journal grows by the event's entry, and all else stays
pub record Records (mid : State) (event : Event) (effect : Effect) (entry : Entry) (new : State) : Type 0 where
  pub entry_is : IsEntryOf mid event effect entry
  pub journal : new.journal ≡ mid.journal ++ entry ∷ []
  pub cfg : new.cfg ≡ mid.cfg
  pub sites : SitesStay mid new
  pub sessions : SessionsStay mid new
  pub net : new.net ≡ mid.net
  pub held : new.held ≡ mid.held

-- one event: what it does, and then its entry in the journal
abbrev pub WorldStep : State → Event → State → Type 0
WorldStep old event new = (effect : Effect) × ((mid : State) × ((entry : Entry) × (HasEffect old event effect mid × Records mid event effect entry new)))
