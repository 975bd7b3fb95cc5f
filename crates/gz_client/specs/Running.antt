-- What a running call keeps stands for what has happened to it.
use Rattle.std.specs.Prelude.{ℕ, Bool, true, ◌≡◌, ◌≤◌, ◌<◌, ◌+◌, ◌||◌, List, [], ◌∷◌, length, Option, Some, None}
use Rattle.std.specs.List.{Contains}
use Rattle.gz_config.specs.declared.Config.{Config}
use Rattle.gz_config.specs.declared.Order.{Order}
use Rattle.gz_config.specs.declared.Order.TheVariants.{Parallel, BlobsFirst}
use Rattle.gz_core.specs.Awaiting.{awaiting, without_rows}
use Rattle.gz_core.specs.Calls.{key_of}
use Rattle.gz_core.specs.History.{Asked, Action, Sent, Handed, GaveUp, Rested, GaveIn, Caller, Trace, is_row_request, sent_from}
use Rattle.gz_core.specs.declared.calls.Answer.{Answer}
use Rattle.gz_core.specs.declared.calls.Answer.TheVariants.{Ok, Thin}
use Rattle.gz_core.specs.declared.values.Value.TheVariants.{Put as PutOf}
use Rattle.gz_core.specs.declared.requests.Op.{Op}
use Rattle.gz_core.specs.declared.requests.Out.{Out}
use Rattle.gz_core.specs.declared.requests.Op.TheVariants.{GetBlob}
use Rattle.gz_data.specs.Blobs.{is_put_blob, puts_sent, blob_at}
use Rattle.gz_data.specs.Gathered.{GatheredAt, IsGathered, Gathers, IsOver}
use Rattle.gz_data.specs.Requests.{blobs_awaited}
use Rattle.gz_data.specs.Storing.{IsCountOf}
use Rattle.gz_data.specs.declared.requests.AwaitedBlob.{AwaitedBlob}
use Rattle.gz_data.specs.declared.storing.Storing.{Storing as Counts}
use Rattle.gz_round.specs.declared.run.Run.{Run}
use Rattle.gz_round.specs.declared.run.Stage.TheVariants.{Look}
use Rattle.gz_round.specs.Causes.{IsLearnt}
use Rattle.gz_round.specs.Counting.{IsGoing}
use Rattle.gz_round.specs.Following.{Ready}
use Rattle.gz_round.specs.Phases.{HasPhases}
use Rattle.gz_round.specs.Sending.{AreAllowed}
use Rattle.gz_round.specs.Sites.{site_now, AreBlobs}
use Rattle.gz_round.specs.Standing.{Runs}
use Rattle.gz_round.specs.Starting.{reads_from}
use Rattle.gz_client.specs.Blobs.{is_put, has_asked, HasStoredFirst}
use Rattle.gz_client.specs.Causes.{IsUnsettled, IsPlaced}
use Rattle.gz_client.specs.declared.running.Puts.{Puts}
use Rattle.gz_client.specs.declared.running.Running.{Running}
use Rattle.gz_client.specs.declared.running.Running.TheVariants.{Storing, Asking, Placed, Gathering}

-- the requests for blobs that a running call keeps as awaited
abbrev pub blobs_of : Running → List AwaitedBlob
blobs_of (Storing run puts) = puts.awaited
blobs_of (Asking run puts) = puts.awaited
blobs_of (Placed version puts) = puts.awaited
blobs_of (Gathering key gathering awaited) = awaited

-- the rows of a call, while it asks for them
abbrev pub rows_of : Running → Option Run
rows_of (Asking run puts) = Some run
rows_of running = None

-- how the counters of a put whose value is chosen end it: enough are stored, or so many are lost that never enough will be, or
-- neither
abbrev pub SettlesBy : Config → ℕ → Counts → Option Answer → Type 0
SettlesBy c v counts None = (counts.stored < c.k + c.f) × (counts.lost + c.f ≤ c.m)
SettlesBy c v counts (Some (Ok u)) = (u ≡ v) × (c.k + c.f ≤ counts.stored)
SettlesBy c v counts (Some (Thin u told)) = (u ≡ v) × (told ≡ counts.stored) × (counts.stored < c.k + c.f) × (c.m + 1 ≤ counts.lost + c.f)
SettlesBy c v counts (Some answer) = ⊥

-- whether the request that an action is about passes a test
abbrev pub has_op : (Op → Bool) → Action → Bool
has_op p (Sent a) = p a.op
has_op p (Handed a reply) = p a.op
has_op p (GaveUp a) = p a.op
has_op p Rested = true
has_op p GaveIn = true

-- every one does
abbrev pub AreAbout : (Op → Bool) → List Action → Type 0
AreAbout p [] = Unit {0}
AreAbout p (m ∷ ms) = (has_op p m ≡ true) × AreAbout p ms

abbrev pub is_row_or_put : Op → Bool
is_row_or_put op = is_row_request op || is_put_blob op

-- the fragments of a call that writes: the requests that are awaited, and the counters. A put sent all its records, and a call
-- that writes nothing asked for rows alone.
pub record PutsStand (c : Config) (w : Caller) (puts : Puts) (ms : List Action) : Type 0 where
  pub awaited_is : puts.awaited ≡ blobs_awaited ms
  pub few : length puts.awaited ≤ 16
  pub counts : IsCountOf ms puts.counts
  pub about : AreAbout is_row_or_put ms
  pub all : is_put w.call ≡ true → puts_sent ms ≡ c.k + c.m
  pub none : w.own ≡ None → AreAbout is_row_request ms

-- a put stores its fragments first: it asked for nothing else yet
pub record StoresFirst (c : Config) (w : Caller) (past : List Trace) (run : Run) (puts : Puts) (ms : List Action) : Type 0 where
  pub ready : Ready c w past run ms
  pub look : run.stage ≡ Look
  pub going : IsGoing c ms
  pub put : is_put w.call ≡ true
  pub order : c.order ≡ BlobsFirst
  pub only : AreBlobs ms
  pub fragments : PutsStand c w puts ms
  pub unsettled : IsUnsettled c ms

-- a call asks sites for rows, in the phase that it came into
pub record AsksForRows (c : Config) (w : Caller) (past : List Trace) (run : Run) (puts : Puts) (ms : List Action) : Type 0 where
  pub runs : Runs c w past run ms
  pub phases : HasPhases c w past run.stage ms
  pub fragments : PutsStand c w puts ms
  pub first : HasStoredFirst c w ms

-- no request for a row is awaited any more
abbrev pub IsResting : List Action → Type 0
IsResting ms = (s : ℕ) → (site_now ms s).awaits ≡ None

-- the rows of a call are done with, and were asked for by the rules
pub record HasRows (c : Config) (w : Caller) (past : List Trace) (ms : List Action) : Type 0 where
  pub allowed : AreAllowed c w past ms
  pub going : IsGoing c ms
  pub asked : has_asked ms ≡ true
  pub rests : IsResting ms

-- a put is chosen, and waits until its counters say how it ends
pub record WaitsToStore (c : Config) (w : Caller) (past : List Trace) (version : ℕ) (puts : Puts) (ms : List Action) : Type 0 where
  pub rows : HasRows c w past ms
  pub placed : IsPlaced c w ms version
  pub put : is_put w.call ≡ true
  pub fragments : PutsStand c w puts ms
  pub unsettled : IsUnsettled c ms

-- a request reads a fragment of this value
abbrev pub ReadsOf : List ℕ → GatheredAt → Asked → Type 0
ReadsOf key g a = (i : ℕ) × (i < g.value.k + g.value.m) × (a.op ≡ GetBlob (blob_at key g.value i))

-- a call gathers the fragments of the value that it learnt, and what came doesn't end it
pub record GathersValue (c : Config) (w : Caller) (past : List Trace) (key : List ℕ) (g : GatheredAt) (awaited : List AwaitedBlob) (ms : List Action) : Type 0 where
  pub rows : HasRows c w past ms
  pub learnt : IsLearnt c w ms g.version (PutOf g.value)
  pub key_is : key ≡ key_of w.call
  pub rules : IsGathered g
  pub gathers : Gathers key ms g
  pub awaited_is : awaited ≡ blobs_awaited ms
  pub few : length awaited ≤ 16
  pub reads : (a : Asked) → Contains (without_rows (awaiting ms)) a → ReadsOf key g a
  pub lacks : IsOver g → ⊥

-- what is kept stands for what has happened
abbrev pub StandsFor : Config → Caller → List Trace → Running → List Action → Type 0
StandsFor c w past (Storing run puts) ms = StoresFirst c w past run puts ms
StandsFor c w past (Asking run puts) ms = AsksForRows c w past run puts ms
StandsFor c w past (Placed version puts) ms = WaitsToStore c w past version puts ms
StandsFor c w past (Gathering key g awaited) ms = GathersValue c w past key g awaited ms

-- what a put sends before the requests that store its fragments: its reads, or nothing where it stores its fragments first
abbrev pub ReadsFirst : Config → Run → Run → ℕ → List Out → Order → Type 0
ReadsFirst c old new first send Parallel = (w : Caller) (past : List Trace) → Ready c w past old [] → Runs c w past new (sent_from first send []) × (send ≡ reads_from (key_of w.call) 0 c.n)
ReadsFirst c old new first send BlobsFirst = (send ≡ []) × (new ≡ old)
