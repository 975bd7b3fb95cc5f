-- How a running call goes on once what came was noted.
use Rattle.std.specs.Prelude.{ℕ, true, ◌≡◌, ◌<◌, List, [], ◌++◌, length, position, slice_get, Option, Some, None, ◌⊎◌}
use Rattle.gz_config.specs.declared.Config.{Config}
use Rattle.gz_config.specs.declared.Order.TheVariants.{BlobsFirst}
use Rattle.gz_core.specs.Awaiting.{AreInTurn}
use Rattle.gz_core.specs.Configurations.{IsConfig}
use Rattle.gz_core.specs.History.{Action, Caller, Trace, IsClosing, sent_from}
use Rattle.gz_core.specs.declared.calls.Answer.{Answer}
use Rattle.gz_core.specs.declared.requests.Out.{Out}
use Rattle.gz_core.specs.declared.requests.Turn.{Turn}
use Rattle.gz_core.specs.declared.values.Value.{Value}
use Rattle.gz_core.specs.declared.values.Value.TheVariants.{Tomb, Put as PutOf}
use Rattle.gz_core.specs.Puts.{PutData, IsPutData}
use Rattle.gz_core.specs.declared.calls.Answer.TheVariants.{Ok, Gone}
use Rattle.gz_core.specs.declared.requests.Reply.{Reply}
use Rattle.gz_data.specs.Blobs.{Outcome, Answered, Abandoned, AreAskedOnce}
use Rattle.gz_data.specs.Gathered.{GatheredAt, IsGathered, IsWaitedFor, AreAsked, Gathers}
use Rattle.gz_data.specs.Hearing.{HearsOf}
use Rattle.gz_data.specs.Own.{IsOwn}
use Rattle.gz_data.specs.Requests.{gets_from, is_numbered, AreAdded}
use Rattle.gz_data.specs.declared.gathering.Heard.{Heard}
use Rattle.gz_data.specs.declared.gathering.Heard.TheVariants.{Goes, Ends}
use Rattle.gz_data.specs.declared.requests.AwaitedBlob.{AwaitedBlob}
use Rattle.gz_data.specs.declared.storing.Storing.{Storing as Counts}
use Rattle.gz_round.specs.declared.outcome.Outcome.{Outcome as RowOutcome}
use Rattle.gz_round.specs.declared.outcome.Outcome.TheVariants.{Goes as RowsGo}
use Rattle.gz_round.specs.declared.run.Run.{Run}
use Rattle.gz_round.specs.declared.run.Stage.TheVariants.{Look}
use Rattle.gz_round.specs.Counting.{IsGoing}
use Rattle.gz_round.specs.Following.{Ready, Turned}
use Rattle.gz_round.specs.Phases.{HasPhases}
use Rattle.gz_round.specs.Rounds.{rounds_used}
use Rattle.gz_round.specs.Sending.{AreAllowed}
use Rattle.gz_round.specs.Sites.{AreBlobs}
use Rattle.gz_client.specs.Blobs.{is_put, has_asked, AreBlobsAllowed, AreStoredFirst, HasStoredFirst}
use Rattle.gz_client.specs.Causes.{HasCause, IsPlaced}
use Rattle.gz_client.specs.Running.{StandsFor, PutsStand, HasRows, SettlesBy}
use Rattle.gz_client.specs.Sends.{IsOfRow, IsTurn}
use Rattle.gz_client.specs.Traces.{IsClosed, AreBelow}
use Rattle.gz_client.specs.declared.client.Client.{Client}
use Rattle.gz_client.specs.declared.running.Puts.{Puts}
use Rattle.gz_client.specs.declared.running.Running.{Running}
use Rattle.gz_client.specs.declared.running.Running.TheVariants.{Storing, Asking, Placed, Gathering}
use Rattle.gz_client.specs.declared.running.Change.{Change}
use Rattle.gz_client.specs.declared.running.Change.TheVariants.{Runs, Keeps}

-- the rules of what a call asks about blobs, and of what is answered
pub record KeepsBlobRules (c : Config) (w : Caller) (ms : List Action) : Type 0 where
  pub blobs : AreBlobsAllowed c w ms
  pub once : AreAskedOnce ms
  pub in_turn : AreInTurn ms
  pub first : AreStoredFirst c w ms

-- what is kept stands for what has happened, or the call was answered by a cause
abbrev pub StandsOrEnds : Config → Caller → List Trace → Option Running → List Action → Option Answer → Type 0
StandsOrEnds c w past (Some running) ms None = StandsFor c w past running ms
StandsOrEnds c w past None ms (Some answer) = AreAllowed c w past ms × HasCause c w ms answer
StandsOrEnds c w past (Some running) ms (Some answer) = ⊥
StandsOrEnds c w past None ms None = ⊥

-- a client turned, after these actions of its running call, with which the event closes
pub record HasTurnedBy (old new : Client) (w : Caller) (past : List Trace) (ms : List Action) (answer : Option Answer) : Type 0 where
  pub config_is : new.config ≡ old.config
  pub session_is : new.session ≡ old.session
  pub calls_are : new.calls ≡ old.calls
  pub round_is : new.round ≡ rounds_used past ms
  pub rules : KeepsBlobRules old.config w ms
  pub stands : StandsOrEnds old.config w past new.running ms answer

-- a client turns with what it sends, after these actions of its running call, which keep the rules
abbrev pub TurnsBy : Client → Client → ℕ → Turn → Caller → List Trace → List Action → Type 0
TurnsBy old new first turn w past ms =
    KeepsBlobRules old.config w ms → AreBelow first ms
    → (closing : List Action) × IsClosed closing × HasTurnedBy old new w past (closing ++ sent_from first turn.send ms) turn.answer × IsTurn old.config ms first turn closing

-- a put that stores its fragments first, whose counters changed
pub record HasCountedFirst (c : Config) (w : Caller) (past : List Trace) (run : Run) (puts : Puts) (ms : List Action) : Type 0 where
  pub ready : Ready c w past run ms
  pub look : run.stage ≡ Look
  pub going : IsGoing c ms
  pub put : is_put w.call ≡ true
  pub order : c.order ≡ BlobsFirst
  pub only : AreBlobs ms
  pub fragments : PutsStand c w puts ms

-- a put that is chosen, whose counters changed at an event of no row request
pub record HasCountedLast (c : Config) (w : Caller) (past : List Trace) (version : ℕ) (puts : Puts) (ms : List Action) : Type 0 where
  pub told : IsOfRow ms → ⊥
  pub rows : HasRows c w past ms
  pub placed : IsPlaced c w ms version
  pub put : is_put w.call ≡ true
  pub fragments : PutsStand c w puts ms

-- what its rows come to, after these requests were sent
pub record HasFollowed (c : Config) (w : Caller) (past : List Trace) (run : Run) (puts : Puts) (closing ms : List Action) (outcome : RowOutcome) : Type 0 where
  pub sizes : IsConfig c
  pub own : IsOwn c w.name w.call w.own
  pub closing_is : IsClosing closing
  pub asked : has_asked (closing ++ ms) ≡ true
  pub turned : Turned c w past run (closing ++ ms) outcome
  pub phases : outcome ≡ RowsGo → HasPhases c w past run.stage (closing ++ ms)
  pub fragments : PutsStand c w puts (closing ++ ms)
  pub first : HasStoredFirst c w (closing ++ ms)
  pub rules : KeepsBlobRules c w (closing ++ ms)

-- a client turns once its rows came to something, with which the event may have closed
abbrev pub FollowsBy : Client → Client → ℕ → Turn → Caller → List Trace → List Action → List Action → Type 0
FollowsBy old new first turn w past closed ms =
    (closing : List Action) × IsClosed closing × HasTurnedBy old new w past (closing ++ sent_from first turn.send ms) turn.answer × IsTurn old.config ms first turn closing

abbrev pub IsPutValue : Option Value → Type 0
IsPutValue own = (x : PutData) × (own ≡ Some (PutOf x))

-- a call that stores fragments ends as its counters say, and another one is done
abbrev pub PlacedAnswer : Config → Option Value → ℕ → Counts → Answer → Type 0
PlacedAnswer c own version counts answer = (IsPutValue own × SettlesBy c version counts (Some answer)) ⊎ ((IsPutValue own → ⊥) × (answer ≡ Ok version))

-- a call whose own value is chosen goes on, and waits for its fragments, or ends
abbrev pub PlacesBy : Client → Run → Puts → ℕ → List Out → Change → Turn → Type 0
PlacesBy client run puts version send (Runs calls round (Some running)) turn =
    (calls ≡ client.calls) × (round ≡ run.round) × (turn ≡ record { send = send; answer = None }) × (running ≡ Placed version puts) × IsPutValue run.own × SettlesBy client.config version puts.counts None
PlacesBy client run puts version send (Runs calls round None) turn =
    (calls ≡ client.calls) × (round ≡ run.round) × ((answer : Answer) × (turn ≡ record { send = send; answer = Some answer }) × PlacedAnswer client.config run.own version puts.counts answer)
PlacesBy client run puts version send change turn = ⊥

-- a call that heard of a fragment goes on, and keeps what came, or ends
abbrev pub GoesOrEnds : Client → ℕ → Heard → Change → Turn → Type 0
GoesOrEnds client n (Goes came) change turn = (change ≡ Keeps n came) × (turn ≡ record { send = []; answer = None })
GoesOrEnds client n (Ends answer) change turn = (change ≡ Runs client.calls client.round None) × (turn ≡ record { send = []; answer = Some answer })

-- a call gathers this value, of which nothing came yet, and awaits its requests, which an event sends under the numbers from
-- `first` on after others
abbrev pub GathersFrom : List ℕ → ℕ → PutData → ℕ → List Out → List Out → Running → Type 0
GathersFrom key version put first start send (Gathering k g awaited) =
    (k ≡ key) × (g.version ≡ version) × (g.value ≡ put) × IsPutData put × IsGathered g × ((ms : List Action) → AreAsked key put ms → Gathers key ms g)
    × AreAdded first start send awaited (gets_from put.name key 0 put.fragments)
GathersFrom key version put first start send running = ⊥

-- a call that reads, and learnt a value, ends where it is a delete's, or gathers its fragments
abbrev pub ReadsBy : Client → Run → ℕ → Value → ℕ → List Out → Change → Turn → Type 0
ReadsBy client run version (Tomb name) first send change turn =
    (change ≡ Runs client.calls run.round None) × (turn ≡ record { send = send; answer = Some (Gone version name) })
ReadsBy client run version (PutOf put) first send change turn =
    (running : Running) × (change ≡ Runs client.calls run.round (Some running)) × (turn.answer ≡ None) × GathersFrom run.key version put first send turn.send running

-- what came of a request for a fragment
abbrev pub outcome_of : Option Reply → Outcome
outcome_of None = Abandoned
outcome_of (Some reply) = Answered reply

-- a call that gathers may hear of request n: it awaits it, and waits for its fragment
abbrev pub CanHear : Running → ℕ → Type 0
CanHear (Storing run puts) n = Unit {0}
CanHear (Asking run puts) n = Unit {0}
CanHear (Placed version puts) n = Unit {0}
CanHear (Gathering key g awaited) n =
    (at : ℕ) × (blob : AwaitedBlob) × (position (is_numbered n) awaited ≡ Some at) × (slice_get awaited at ≡ Some blob) × IsWaitedFor g blob.index × (length g.pieces < g.value.k)

-- what it makes of what came
abbrev pub HearsAt : List ℕ → GatheredAt → List AwaitedBlob → ℕ → Outcome → Option Heard → Type 0
HearsAt key g awaited n outcome None = ⊥
HearsAt key g awaited n outcome (Some heard) = (at : ℕ) (blob : AwaitedBlob) → position (is_numbered n) awaited ≡ Some at → slice_get awaited at ≡ Some blob → HearsOf g key blob.index outcome heard

abbrev pub HearsBy : Running → ℕ → Outcome → Option Heard → Type 0
HearsBy (Storing run puts) n outcome heard = heard ≡ None
HearsBy (Asking run puts) n outcome heard = heard ≡ None
HearsBy (Placed version puts) n outcome heard = heard ≡ None
HearsBy (Gathering key g awaited) n outcome heard = HearsAt key g awaited n outcome heard

-- the same of whatever runs
abbrev pub CanHearIf : Option Running → ℕ → Type 0
CanHearIf None n = Unit {0}
CanHearIf (Some running) n = CanHear running n

abbrev pub HearsIf : Option Running → ℕ → Outcome → Option Heard → Type 0
HearsIf None n outcome heard = heard ≡ None
HearsIf (Some running) n outcome heard = HearsBy running n outcome heard

-- no call runs that gathers
abbrev pub GathersNot : Option Running → Type 0
GathersNot None = Unit {0}
GathersNot (Some (Storing run puts)) = Unit {0}
GathersNot (Some (Asking run puts)) = Unit {0}
GathersNot (Some (Placed version puts)) = Unit {0}
GathersNot (Some (Gathering key g awaited)) = ⊥
