-- A client stands for the traces of its session: what it may learn, and what it has done.
use Rattle.std.specs.Prelude.{ℕ, Bool, true, ◌≡◌, ◌≤◌, ◌<◌, ◌+◌, ◌^◌, ◌⊎◌, nat_lt, List, [], ◌∷◌, length, Option, Some, None}
use Rattle.std.specs.List.{All, Contains, count_by}
use Rattle.gz_config.specs.declared.Config.{Config}
use Rattle.gz_core.specs.Awaiting.{awaiting, without_rows, AreInTurn}
use Rattle.gz_core.specs.Configurations.{IsConfig}
use Rattle.gz_core.specs.History.{Asked, Action, Handed, GaveUp, Rested, Trace, IsClosing, begun, turned}
use Rattle.gz_core.specs.declared.requests.Turn.{Turn}
use Rattle.gz_core.specs.declared.requests.Reply.{Reply}
use Rattle.gz_core.specs.declared.calls.Answer.{Answer}
use Rattle.gz_core.specs.declared.calls.Call.{Call}
use Rattle.gz_core.specs.declared.values.Value.{Value}
use Rattle.gz_data.specs.Blobs.{AreAskedOnce}
use Rattle.gz_data.specs.Own.{IsOwn}
use Rattle.gz_round.specs.Sites.{site_now, as_heard, written_by}
use Rattle.gz_round.specs.Rounds.{top_rounds}
use Rattle.gz_round.specs.Sending.{AreAllowed}
use Rattle.gz_round.specs.Numbering.{live_where}
use Rattle.gz_client.specs.Blobs.{AreBlobsAllowed, AreStoredFirst}
use Rattle.gz_client.specs.Causes.{HasCause}
use Rattle.gz_client.specs.Going.{GoesOn}
use Rattle.gz_client.specs.Openings.{IsOpening}
use Rattle.gz_client.specs.Running.{StandsFor}
use Rattle.gz_client.specs.Sends.{IsTurn}
use Rattle.gz_client.specs.declared.client.Client.{Client}
use Rattle.gz_client.specs.declared.running.Running.{Running}

-- a request is awaited: from the site of the row that it is about, or about a blob
abbrev pub Awaits : Config → List Action → Asked → Type 0
Awaits c ms a = ((a.site < c.n) × ((site_now ms a.site).awaits ≡ Some a)) ⊎ Contains (without_rows (awaiting ms)) a

-- the call runs, and awaits this request, which is the n-th
pub record IsAwaited (c : Config) (t : Trace) (a : Asked) (n : ℕ) : Type 0 where
  pub running : t.answer ≡ None
  pub awaits : Awaits c t.actions a
  pub number_is : a.number ≡ n

-- a call that runs goes on; an answer came by its cause
abbrev pub IsAnswered : Config → List Trace → Trace → Option Answer → Type 0
IsAnswered c past t None = GoesOn c t.caller past t.actions
IsAnswered c past t (Some answer) = HasCause c t.caller t.actions answer

-- the call writes its own value; each action of it was allowed when it came, each blob was asked for once, what was answered
-- or given up was awaited, a put stored its fragments before its row requests where it stores them first, and its answer has its cause
pub record KeepsRules (c : Config) (past : List Trace) (t : Trace) : Type 0 where
  pub own : IsOwn c t.caller.name t.caller.call t.caller.own
  pub allowed : AreAllowed c t.caller past t.actions
  pub blobs : AreBlobsAllowed c t.caller t.actions
  pub once : AreAskedOnce t.actions
  pub in_turn : AreInTurn t.actions
  pub first : AreStoredFirst c t.caller t.actions
  pub answered : IsAnswered c past t t.answer

-- the traces of a session, newest first: each keeps the rules, and the names count up
abbrev pub AllKeepRules : Config → ℕ → List Trace → Type 0
AllKeepRules c session [] = Unit {0}
AllKeepRules c session (t ∷ ts) = KeepsRules c ts t × (t.caller.name ≡ record { session = session; seq = length ts + 1 }) × AllKeepRules c session ts

-- every call has its answer
abbrev pub AreOver : List Trace → Type 0
AreOver [] = Unit {0}
AreOver (t ∷ ts) = ((answer : Answer) × (t.answer ≡ Some answer)) × AreOver ts

-- the requests that are awaited have numbers below the next one
abbrev pub AreBelow : ℕ → List Action → Type 0
AreBelow next ms = All (λ (a : Asked). a.number < next) (awaiting ms)

-- the running call, if there is one, is the newest
abbrev pub HoldsRun : Config → ℕ → Option Running → List Trace → Type 0
HoldsRun c next None ts = AreOver ts
HoldsRun c next (Some running) [] = ⊥
HoldsRun c next (Some running) (t ∷ ts) = (t.answer ≡ None) × StandsFor c t.caller ts running t.actions × AreBelow next t.actions × AreOver ts

-- the client stands for these traces of its session, whose requests have numbers below the next one; the rounds that it
-- used rose by at most one with each of them
pub record Holds (client : Client) (next : ℕ) (ts : List Trace) : Type 0 where
  pub sizes : IsConfig client.config
  pub calls_are : client.calls ≡ length ts
  pub round_is : client.round ≡ top_rounds ts
  pub round_low : client.round < 2 ^ 31 + next
  pub told : AllKeepRules client.config client.session ts
  pub run_is : HoldsRun client.config next client.running ts

-- a call runs
abbrev pub IsRunning : List Trace → Type 0
IsRunning [] = ⊥
IsRunning (t ∷ ts) = t.answer ≡ None

-- how many requests are awaited under numbers that pass a test: about rows, and about blobs
abbrev pub live_among : Config → (ℕ → Bool) → List Action → ℕ
live_among c p ms = live_where c p ms + count_by (λ (a : Asked). p a.number) (without_rows (awaiting ms))

-- how many of a call's awaited requests have a number that passes a test; a call that was answered awaits nothing
abbrev pub live_in : Config → (ℕ → Bool) → Trace → Option Answer → ℕ
live_in c p t None = live_among c p t.actions
live_in c p t (Some answer) = 0

-- how many requests the running call awaits under such numbers, if one runs
abbrev pub live : Config → (ℕ → Bool) → List Trace → ℕ
live c p [] = 0
live c p (t ∷ ts) = live_in c p t t.answer

-- how many requests the running call awaits, if one runs
abbrev pub live_count : Config → List Trace → ℕ
live_count c ts = live c (λ m. true) ts

-- the running call awaits a request under this number
abbrev pub IsLive : Config → List Trace → ℕ → Type 0
IsLive c [] n = ⊥
IsLive c (t ∷ ts) n = (a : Asked) × IsAwaited c t a n

-- the i-th lowest number of those that are awaited, none where there are no more
abbrev pub IsLiveAtAmong : Config → List Action → ℕ → Option ℕ → Type 0
IsLiveAtAmong c ms i None = live_among c (λ m. true) ms ≤ i
IsLiveAtAmong c ms i (Some n) = ((a : Asked) × Awaits c ms a × (a.number ≡ n)) × (live_among c (λ m. nat_lt m n) ms ≡ i)

abbrev pub IsLiveAtWhile : Config → Trace → ℕ → Option ℕ → Option Answer → Type 0
IsLiveAtWhile c t i n None = IsLiveAtAmong c t.actions i n
IsLiveAtWhile c t i n (Some answer) = n ≡ None

-- the i-th lowest number of the requests that are awaited, none where there are no more
abbrev pub IsLiveAtIn : Config → List Trace → ℕ → Option ℕ → Type 0
IsLiveAtIn c [] i n = n ≡ None
IsLiveAtIn c (t ∷ ts) i n = IsLiveAtWhile c t i n t.answer

-- the client may learn of this request, and the next ones go out from `first` on
abbrev pub CanLearn : Client → ℕ → ℕ → Type 0
CanLearn client n first = (next : ℕ) × (t : Trace) × (ts : List Trace) × (a : Asked) × Holds client next (t ∷ ts) × IsAwaited client.config t a n × (next ≤ first)

-- no call runs, and so few came before that the next one has a name
pub record CanBegin (client : Client) : Type 0 where
  pub idle : client.running ≡ None
  pub few : client.calls < 2 ^ 29
  pub sizes : IsConfig client.config

-- the client of the same session, under the same configuration
pub record IsSameClient (old new : Client) : Type 0 where
  pub config_is : new.config ≡ old.config
  pub session_is : new.session ≡ old.session

-- how an event closes: by nothing more, by every site going out, or by the row requests resting
abbrev pub IsClosed : List Action → Type 0
IsClosed ms = IsClosing ms ⊎ (ms ≡ Rested ∷ [])

-- the client stands for one more trace, of a call that writes this value, if it writes one, and begins by what such a call sends
abbrev pub IsBegun : Client → Client → ℕ → Call → Option Value → Turn → List Trace → Type 0
IsBegun old new first call own turn ts =
    Holds new (first + length turn.send) (begun old.session call own first turn ts ∷ ts) × IsOpening old.config (begun old.session call own first turn ts).caller turn.send

abbrev pub BeginsAs : Client → Client → ℕ → Call → Option Value → Turn → Type 0
BeginsAs old new first call own turn = (next : ℕ) (ts : List Trace) → Holds old next ts → next ≤ first → IsBegun old new first call own turn ts

abbrev pub Begins : Client → Client → ℕ → Call → Turn → Type 0
Begins old new first call turn = (next : ℕ) (ts : List Trace) → Holds old next ts → next ≤ first → (own : Option Value) × IsBegun old new first call own turn ts

-- the client stands for the same traces, with one more action of the running call, at which it sent what it may
abbrev pub Extends : Client → Client → ℕ → ℕ → (Asked → Action) → Turn → Type 0
Extends old new n first action turn =
    (next : ℕ) (t : Trace) (ts : List Trace) (a : Asked) → Holds old next (t ∷ ts) → IsAwaited old.config t a n → next ≤ first →
    (closing : List Action) × IsClosed closing × Holds new (first + length turn.send) (turned first turn (action a) closing t ∷ ts)
    × IsTurn old.config (action a ∷ t.actions) first turn closing

-- what a call over n sites is told of a request: a reply, as it hears it, or none where it is given up
abbrev pub told_of : ℕ → Option Reply → Asked → Action
told_of n None a = GaveUp a
told_of n (Some reply) a = Handed a (as_heard n (written_by a.op) reply)
