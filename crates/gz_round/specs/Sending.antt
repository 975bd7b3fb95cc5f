-- Which requests a call may send, by what it has sent and heard so far.
use Rattle.std.specs.Prelude.{ℕ, Bool, true, false, not, nat_le, ◌≡◌, ◌≤◌, ◌<◌, ◌+◌, ◌⊎◌, List, [], ◌∷◌, length, Option, Some, None}
use Rattle.std.specs.List.{All}
use Rattle.gz_core.specs.Names.{Name, BallotAt}
use Rattle.gz_core.specs.Values.{name_of}
use Rattle.gz_core.specs.Calls.{key_of}
use Rattle.gz_core.specs.Rows.{RowAt}
use Rattle.gz_core.specs.declared.values.Value.{Value}
use Rattle.gz_config.specs.declared.Config.{Config}
use Rattle.gz_core.specs.declared.requests.RowStep.{RowStep}
use Rattle.gz_core.specs.declared.requests.RowStep.TheVariants.{FastVote, Promise, ClassicVote, Decide, Trim}
use Rattle.gz_core.specs.declared.requests.Op.{Op}
use Rattle.gz_core.specs.declared.requests.Op.TheVariants.{ReadRow, WriteRow}
use Rattle.gz_accept.specs.declared.answers.Step.{Step}
use Rattle.gz_accept.specs.declared.answers.Step.TheVariants.{Done, Already}
use Rattle.gz_accept.specs.Steps.{fast_answer, fast_voted, promise_answer, promised, classic_answer, classic_voted, decide_answer, decided, trim_answer, trimmed_to}
use Rattle.gz_core.specs.Counts.{count_sites}
use Rattle.gz_pick.specs.Looks.{row_top}
use Rattle.gz_pick.specs.Choices.{pick_of, AreHeardSites}
use Rattle.gz_pick.specs.declared.heard.Heard.{Heard}
use Rattle.gz_pick.specs.declared.heard.Pick.TheVariants.{Free}
use Rattle.gz_round.specs.Counting.{IsGoing, IsUntold}
use Rattle.gz_round.specs.Causes.{IsChosenOwn, IsLearnt}
use Rattle.gz_round.specs.LookBack.{before_promise, IsLookedBack}
use Rattle.gz_round.specs.Rounds.{MayPromise, MayClassicVote, IsPromiseHeard, has_classic_cast, promises_known, promises_above, IsValueKnown}
use Rattle.gz_core.specs.History.{Asked, Action, Sent, Handed, GaveUp, Rested, GaveIn, Caller, Trace, is_row_request}
pub use Rattle.gz_round.specs.Evidence.{NoEvidence}
pub use Rattle.gz_round.specs.Sites.{rows_known}
use Rattle.gz_round.specs.Sites.{SiteNow, site_now, as_heard, written_by}
use Rattle.gz_round.specs.Sent.{is_notice, last_promise}
use Rattle.gz_round.specs.Shown.{heard_at, IsShown, IsCurrent, IsNext, IsClear, IsValueHeard}
use Rattle.gz_round.specs.Targets.{keep_of}

-- what a step answers on a row
abbrev pub answer_of : RowStep → RowAt → Step
answer_of (FastVote v x) row = fast_answer row v
answer_of (Promise v b) row = promise_answer row v b
answer_of (ClassicVote v b x) row = classic_answer row v b
answer_of (Decide v x) row = decide_answer row v
answer_of (Trim to x) row = trim_answer row to (name_of x)

-- the row that a step makes where it is done
abbrev pub made_by : RowStep → RowAt → RowAt
made_by (FastVote v x) row = fast_voted row v x
made_by (Promise v b) row = promised row v b
made_by (ClassicVote v b x) row = classic_voted row v b x
made_by (Decide v x) row = decided row v x
made_by (Trim to x) row = trimmed_to row to x

-- the step is done on the old row and makes the new one
abbrev pub IsMade : RowStep → RowAt → RowAt → Type 0
IsMade step old new = (answer_of step old ≡ Done) × (new ≡ made_by step old)

-- a vote in the fast ballot: nothing above the version has begun, the one before is settled, and where the call
-- voted for its value at another version, that version went to another value
pub record MayFastVote (c : Config) (w : Caller) (ms : List Action) (v : ℕ) : Type 0 where
  pub above : 1 ≤ v
  pub current : IsCurrent c ms v
  pub next : IsNext c ms v
  pub clear : IsClear c w.name ms v

-- a collection trims up to a version where a value is shown at the next one, which it knows, and at the version that is as many
-- above as it keeps
pub record MayTrim (c : Config) (w : Caller) (ms : List Action) (to : ℕ) (x : Value) : Type 0 where
  pub above : 1 ≤ to
  pub keep : ℕ
  pub collects : keep_of w.call ≡ Some keep
  pub kept : (y : Name) × IsShown c ms (to + keep) y
  pub next : IsShown c ms (to + 1) (name_of x)
  pub known : IsValueHeard ms (to + 1) x

-- the guard of each step
abbrev pub MayMake : Config → Caller → List Trace → List Action → RowStep → Type 0
MayMake c w past ms (FastVote v x) = (w.own ≡ Some x) × MayFastVote c w ms v
MayMake c w past ms (Promise v b) = MayPromise c w past ms v b
MayMake c w past ms (ClassicVote v b x) = MayClassicVote c w ms v b x
MayMake c w past ms (Decide v x) = IsShown c ms v (name_of x) × IsValueKnown w ms v x
MayMake c w past ms (Trim to x) = MayTrim c w ms to x

-- a write goes out on the last row that was heard, under its tag, where it wasn't overtaken since
pub record MayWrite (c : Config) (w : Caller) (past : List Trace) (ms : List Action) (now : SiteNow) (expect : Option ℕ) (step : RowStep) (row : RowAt) : Type 0 where
  pub before : RowAt
  pub last : now.row ≡ Some (record { etag = expect; row = before })
  pub same : now.changed ≡ false
  pub made : IsMade step before row
  pub guard : MayMake c w past ms step

-- a read goes out where no row was heard, or the last one was overtaken
abbrev pub MayRead : SiteNow → Type 0
MayRead now = (now.row ≡ None) ⊎ (now.changed ≡ true)

abbrev pub MayAsk : Config → Caller → List Trace → List Action → SiteNow → Op → Type 0
MayAsk c w past ms now (ReadRow key) = (key ≡ key_of w.call) × MayRead now
MayAsk c w past ms now (WriteRow key expect step row) = (key ≡ key_of w.call) × MayWrite c w past ms now expect step row
MayAsk c w past ms now op = ⊥

-- whether a reply of a request is awaited: of each one but a decision that the call tells
abbrev pub is_awaited : Op → Bool
is_awaited (WriteRow key expect step row) = not (is_notice step)
is_awaited op = true

-- a request goes out only to a site that isn't out, and of which no row request is awaited; one that nobody awaits only to a
-- site that got none
pub record MaySend (c : Config) (w : Caller) (past : List Trace) (ms : List Action) (a : Asked) : Type 0 where
  pub site : a.site < c.n
  pub kept : (site_now ms a.site).out ≡ false
  pub idle : (site_now ms a.site).awaits ≡ None
  pub asks : MayAsk c w past ms (site_now ms a.site) a.op
  pub awaited : a.awaited ≡ is_awaited a.op
  pub once : a.awaited ≡ false → IsUntold ms a.site

-- row requests rest once the call's own value is chosen, or the call learnt a value
abbrev pub MayRest : Config → Caller → List Action → Type 0
MayRest c w ms = ((v : ℕ) × IsChosenOwn c w ms v) ⊎ ((v : ℕ) × (x : Value) × IsLearnt c w ms v x)

-- no row that is known promises a ballot above this one
abbrev pub NoneAbove : Config → List Action → ℕ → BallotAt → Type 0
NoneAbove c ms v b = (s : ℕ) (row : RowAt) → s < c.n → rows_known ms s ≡ Some row → promises_above row v b ≡ false

-- no known row has the version collected
abbrev pub NoneGone : Config → List Action → ℕ → Type 0
NoneGone c ms v = (s : ℕ) (row : RowAt) → s < c.n → rows_known ms s ≡ Some row → row.floor < v

-- work at the version goes on: no known row shows that a value is chosen there, and none has it collected
pub record IsUndecided (c : Config) (ms : List Action) (v : ℕ) : Type 0 where
  pub evident : NoEvidence c ms v
  pub gone : NoneGone c ms v

-- nothing is awaited, every site was heard or is out, and work at the version goes on
pub record IsIdle (c : Config) (ms : List Action) (v : ℕ) : Type 0 where
  pub awaits : (s : ℕ) → s < c.n → (site_now ms s).awaits ≡ None
  pub heard : (s : ℕ) → s < c.n → (site_now ms s).out ≡ false → (row : RowAt) × (rows_known ms s ≡ Some row)
  pub undecided : IsUndecided c ms v

-- a step in the ballot that the call promised last leads no further, though it could go on: each known row has taken it
pub record IsStuck (c : Config) (ms : List Action) (v : ℕ) (b : BallotAt) (step : RowStep) : Type 0 where
  pub going : IsGoing c ms
  pub idle : IsIdle c ms v
  pub last : last_promise ms ≡ Some (v, b)
  pub taken : (s : ℕ) (row : RowAt) → s < c.n → rows_known ms s ≡ Some row → answer_of step row ≡ Already

-- fewer rows than a classic quorum that are known promise the ballot, without a vote of it
abbrev pub IsShort : Config → List Action → ℕ → BallotAt → Type 0
IsShort c ms v b = count_sites c.n (λ s. promises_known v b (rows_known ms s)) < c.qc

-- the call voted for no value in the ballot
abbrev pub IsUncast : List Action → ℕ → BallotAt → Type 0
IsUncast ms v b = (y : Name) → has_classic_cast ms v b y ≡ false

-- work at a version began at a vote or a decision there, or above: such a row was heard before the ballot was promised
abbrev pub IsBegun : Config → List Action → ℕ → BallotAt → Type 0
IsBegun c ms v b = 1 ≤ heard_at c (λ r. nat_le v (row_top r)) (before_promise v b ms)

-- a call that writes nothing has no value to vote for: the promises of a classic quorum leave it to the call, which
-- looked back at no vote, though the version had begun
pub record IsWithoutValue (c : Config) (w : Caller) (ms : List Action) (v : ℕ) (b : BallotAt) : Type 0 where
  pub going : IsGoing c ms
  pub reads : w.own ≡ None
  pub last : last_promise ms ≡ Some (v, b)
  pub uncast : IsUncast ms v b
  pub heard : List Heard
  pub sites : AreHeardSites c.n heard
  pub enough : c.qc ≤ length heard
  pub rows : All (IsPromiseHeard ms v b) heard
  pub free : pick_of c.n c.qf heard ≡ Free
  pub begun : IsBegun c ms v b
  pub back : IsLookedBack c ms v b None
  pub undecided : IsUndecided c ms v

-- a call gives in where its promise leads no further, short of a quorum of promises, and nothing was cast in the
-- ballot; where its vote in the ballot leads no further, short of a value that is chosen; or where it has no value to
-- vote for. Rows that stay as written exclude all three.
pub data MayGiveIn (c : Config) (w : Caller) (ms : List Action) : Type 0 where
  NoPromise : (v : ℕ) (b : BallotAt) → IsStuck c ms v b (Promise v b) → IsUncast ms v b → IsShort c ms v b → MayGiveIn c w ms
  NoVote : (v : ℕ) (b : BallotAt) (x : Value) → IsStuck c ms v b (ClassicVote v b x) → MayClassicVote c w ms v b x → MayGiveIn c w ms
  NoValue : (v : ℕ) (b : BallotAt) → IsWithoutValue c w ms v b → MayGiveIn c w ms

-- a row request is awaited
abbrev pub IsAwaitedOf : List Action → Asked → Type 0
IsAwaitedOf ms a = (site_now ms a.site).awaits ≡ Some a

-- a row request is one that may be sent; a reply or a give-up of one is of a request that is awaited, and a reply is one as
-- the call hears it. Requests for blobs have rules of their own.
abbrev pub IsAllowed : Config → Caller → List Trace → List Action → Action → Type 0
IsAllowed c w past ms (Sent a) = is_row_request a.op ≡ true → MaySend c w past ms a
IsAllowed c w past ms (Handed a reply) = is_row_request a.op ≡ true → IsAwaitedOf ms a × (as_heard c.n (written_by a.op) reply ≡ reply)
IsAllowed c w past ms (GaveUp a) = is_row_request a.op ≡ true → IsAwaitedOf ms a
IsAllowed c w past ms Rested = MayRest c w ms
IsAllowed c w past ms GaveIn = MayGiveIn c w ms

-- each action of a call that is about rows was allowed when it came
abbrev pub AreAllowed : Config → Caller → List Trace → List Action → Type 0
AreAllowed c w past [] = Unit {0}
AreAllowed c w past (m ∷ ms) = IsAllowed c w past ms m × AreAllowed c w past ms
