-- What a call does at an event, once what came was noted.
use Rattle.std.specs.Prelude.{ℕ, ◌≡◌, ◌≢◌, ◌≤◌, ◌<◌, ◌+◌, ◌⊎◌, nat_le, max, Bool, true, false, List, [], ◌∷◌, if◌then◌else◌, Option, Some, None, is_some}
use Rattle.gz_core.specs.Names.{BallotAt, IsClassic}
use Rattle.gz_core.specs.Rows.{RowAt}
use Rattle.gz_core.specs.declared.values.Value.{Value}
use Rattle.gz_core.specs.declared.calls.Answer.{Answer}
use Rattle.gz_core.specs.declared.calls.Answer.TheVariants.{NoQuorum, Contended, Unsure}
use Rattle.std.specs.List.{count_by, list_any}
use Rattle.gz_core.specs.declared.calls.UnsureWhy.TheVariants.{NoQuorum as UnsureNoQuorum, Contended as UnsureContended}
use Rattle.gz_config.specs.declared.Config.{Config}
use Rattle.gz_core.specs.declared.requests.RowStep.{RowStep}
use Rattle.gz_core.specs.declared.requests.RowStep.TheVariants.{Decide}
use Rattle.gz_pick.specs.Looks.{row_top}
use Rattle.gz_round.specs.declared.run.Run.{Run}
use Rattle.gz_round.specs.declared.run.Stage.{Stage}
use Rattle.gz_round.specs.declared.run.Stage.TheVariants.{Look, Fast, Prepare, Accept}
use Rattle.gz_round.specs.declared.choosing.Choice.{Choice}
use Rattle.gz_round.specs.declared.choosing.Choice.TheVariants.{Wait, Accept as AcceptNext, GiveIn}
use Rattle.gz_accept.specs.declared.answers.Step.TheVariants.{Done}
use Rattle.gz_core.specs.History.{Action, Caller, Trace}
use Rattle.gz_round.specs.Sites.{site_now}
use Rattle.gz_round.specs.Sent.{has_promised_at}
use Rattle.gz_round.specs.Shown.{heard_at, IsShown, IsGrounded}
use Rattle.gz_round.specs.Rounds.{passed_since, promises_known, promises_above, round_known}
use Rattle.gz_round.specs.Sending.{NoEvidence, NoneGone, IsUndecided, MayGiveIn, rows_known, answer_of}
use Rattle.gz_round.specs.Counting.{IsGoing, IsUnnoticed}
use Rattle.gz_round.specs.declared.outcome.Outcome.{Outcome}
use Rattle.gz_round.specs.declared.outcome.Outcome.TheVariants.{Goes, Ends}
pub use Rattle.gz_round.specs.Causes.{ComesTo}
use Rattle.gz_round.specs.Standing.{Stands, StageStands, AreVotesBelow, IsVoteNext, AreAskedAgain, MayPass}
pub use Rattle.gz_round.specs.Goals.{version_in, working_version}
use Rattle.gz_round.specs.Goals.{IsUnmet, IsAboveFloor, IsFewIn, is_overtaken, AreServed, stage_step}
use Rattle.gz_round.specs.Evidence.{IsAfterEvidence}
use Rattle.gz_round.specs.Following.{Ready}

abbrev pub notice_for : ℕ → Option Value → Option RowStep
notice_for v None = None
notice_for v (Some x) = Some (Decide v x)

-- the phase goes on: its goal isn't reached
pub record IsGoalUnmet (c : Config) (w : Caller) (past : List Trace) (run : Run) (ms : List Action) : Type 0 where
  pub ready : Ready c w past run ms
  pub going : IsGoing c ms
  pub unmet : IsUnmet c run run.stage ms

abbrev pub CanAct : Config → Run → Type 0
CanAct c run = (w : Caller) × (past : List Trace) × (ms : List Action) × IsGoalUnmet c w past run ms

-- nor is there a quorum of promises
pub record Carries (c : Config) (w : Caller) (past : List Trace) (run : Run) (ms : List Action) : Type 0 where
  pub acts : IsGoalUnmet c w past run ms
  pub few : IsFewIn c run run.stage

abbrev pub CanCarry : Config → Run → Type 0
CanCarry c run = (w : Caller) × (past : List Trace) × (ms : List Action) × Carries c w past run ms

-- a vote for a value follows, if there is one
abbrev pub choice_of : ℕ → BallotAt → Option Value → Choice
choice_of v b None = GiveIn
choice_of v b (Some x) = AcceptNext (Accept v b x)

-- a phase that works by a classic ballot
abbrev pub IsClassicIn : Stage → Type 0
IsClassicIn Look = ⊥
IsClassicIn (Fast v) = ⊥
IsClassicIn (Prepare v b found) = Unit {0}
IsClassicIn (Accept v b x) = Unit {0}

-- what the promises of the call's ballot come to
abbrev pub ChoiceMeans : Config → Caller → List Trace → Run → List Action → Choice → Type 0
ChoiceMeans c w past run ms Wait = IsFewIn c run run.stage
ChoiceMeans c w past run ms (AcceptNext stage) = IsClassicIn stage × Carries c w past (record run { stage = stage }) ms
ChoiceMeans c w past run ms GiveIn = MayGiveIn c w ms

-- fewer known rows than a quorum promise the ballot that is prepared
abbrev pub IsShortIn : Config → List (Option RowAt) → Stage → Type 0
IsShortIn c rows Look = Unit {0}
IsShortIn c rows (Fast v) = Unit {0}
IsShortIn c rows (Prepare v b found) = count_by (promises_known v b) rows < c.qc
IsShortIn c rows (Accept v b x) = Unit {0}

-- the step of the phase is made
pub record TakesStep (c : Config) (w : Caller) (past : List Trace) (run : Run) (ms : List Action) : Type 0 where
  pub carries : Carries c w past run ms
  pub ahead : is_overtaken run ≡ false

abbrev pub CanStep : Config → Run → Type 0
CanStep c run = (w : Caller) × (past : List Trace) × (ms : List Action) × TakesStep c w past run ms

-- the phase has ended without its goal: nothing is awaited, and no known row takes its step
pub record RunsOut (c : Config) (w : Caller) (past : List Trace) (run : Run) (ms : List Action) : Type 0 where
  pub stands : Stands c w past run ms
  pub stage : StageStands c w past run.stage ms
  pub going : IsGoing c ms
  pub unnoticed : IsUnnoticed ms
  pub short : IsShortIn c run.rows run.stage
  pub ahead : is_overtaken run ≡ false
  pub above : 1 ≤ working_version run
  pub none : IsUndecided c ms (working_version run)
  pub idle : (s : ℕ) → s < c.n → (site_now ms s).awaits ≡ None
  pub heard : (s : ℕ) → s < c.n → (site_now ms s).out ≡ false → (row : RowAt) × (rows_known ms s ≡ Some row)
  pub again : AreAskedAgain c ms
  pub untaken : (step : RowStep) → stage_step run ≡ Some step → (s : ℕ) (row : RowAt) → s < c.n → rows_known ms s ≡ Some row → answer_of step row ≢ Done

abbrev pub CanRunOut : Config → Run → Type 0
CanRunOut c run = (w : Caller) × (past : List Trace) × (ms : List Action) × RunsOut c w past run ms

-- a known row promises a ballot at the version, and can be asked for another promise
pub record IsAskableAt (c : Config) (ms : List Action) (v : ℕ) (s : ℕ) : Type 0 where
  pub inside : s < c.n
  pub row : RowAt
  pub known : rows_known ms s ≡ Some row
  pub ballot : BallotAt
  pub above : promises_above row v ballot ≡ true
  pub idle : (site_now ms s).awaits ≡ None
  pub same : (site_now ms s).changed ≡ false

-- all that is awaited once a ballot was prepared is its promise: nothing was, and no read was due; or else a row can promise it
abbrev pub IsPreparable : Config → List Action → ℕ → Type 0
IsPreparable c ms v = (((s : ℕ) → s < c.n → (site_now ms s).awaits ≡ None) × AreAskedAgain c ms) ⊎ ((s : ℕ) × IsAskableAt c ms v s)

-- a call prepares a ballot at a version
pub record Prepares (c : Config) (w : Caller) (past : List Trace) (run : Run) (ms : List Action) (v : ℕ) : Type 0 where
  pub stands : Stands c w past run ms
  pub going : IsGoing c ms
  pub unnoticed : IsUnnoticed ms
  pub askable : IsPreparable c ms v
  pub pass : MayPass c w ms v
  pub grounded : IsGrounded c ms v
  pub passed : (d : BallotAt) → has_promised_at ms v d ≡ true → passed_since v d ms ≡ true
  pub begun : w.own ≡ None → 1 ≤ heard_at c (λ r. nat_le v (row_top r)) ms
  pub none : IsUndecided c ms v

abbrev pub CanPrepare : Config → Run → ℕ → Type 0
CanPrepare c run v = (w : Caller) × (past : List Trace) × (ms : List Action) × Prepares c w past run ms v

-- the greatest round that known rows promise at a version
abbrev pub round_in : ℕ → List (Option RowAt) → ℕ
round_in v [] = 0
round_in v (row ∷ rows) = max (round_known v row) (round_in v rows)

-- the ballot to prepare: one round above those that the session used or known rows promise
pub record IsBallotAbove (run : Run) (v : ℕ) (b : BallotAt) : Type 0 where
  pub round : b.round ≡ max run.round (round_in v run.rows) + 1
  pub session : b.session ≡ run.name.session
  pub classic : IsClassic b

-- the call's value is chosen at the version
pub record Finishes (c : Config) (w : Caller) (past : List Trace) (run : Run) (ms : List Action) (v : ℕ) : Type 0 where
  pub stands : Stands c w past run ms
  pub going : IsGoing c ms
  pub unnoticed : IsUnnoticed ms
  pub above : 1 ≤ v
  pub shown : IsShown c ms v w.name
  pub own : (x : Value) × (w.own ≡ Some x)

abbrev pub CanFinish : Config → Run → ℕ → Type 0
CanFinish c run v = (w : Caller) × (past : List Trace) × (ms : List Action) × Finishes c w past run ms v

-- the call can go on
abbrev pub CanFollow : Config → Run → Type 0
CanFollow c run = (w : Caller) × (past : List Trace) × (ms : List Action) × Ready c w past run ms × IsGoing c ms

-- a call that writes votes next at a version
pub record VotesNext (c : Config) (w : Caller) (past : List Trace) (run : Run) (ms : List Action) (v : ℕ) : Type 0 where
  pub stands : Stands c w past run ms
  pub going : IsGoing c ms
  pub unnoticed : IsUnnoticed ms
  pub vote : IsVoteNext c w ms v

abbrev pub CanCast : Config → Run → ℕ → Type 0
CanCast c run v = (w : Caller) × (past : List Trace) × (ms : List Action) × VotesNext c w past run ms v

-- it asked each site for its vote there
pub record HasCast (c : Config) (w : Caller) (past : List Trace) (run : Run) (ms : List Action) (v : ℕ) : Type 0 where
  pub votes : VotesNext c w past run ms v
  pub stage_is : run.stage ≡ Fast v
  pub served : AreServed c w ms (stage_step run)

-- it never voted there, and no value is known to be chosen there, but at the version before, unless none has it collected
pub record BeginsFast (c : Config) (w : Caller) (past : List Trace) (run : Run) (ms : List Action) (v : ℕ) : Type 0 where
  pub votes : VotesNext c w past run ms v
  pub first : AreVotesBelow w ms v
  pub none : NoEvidence c ms v
  pub follows : NoneGone c ms v ⊎ IsAfterEvidence c ms v

abbrev pub CanBeginFast : Config → Run → ℕ → Type 0
CanBeginFast c run v = (w : Caller) × (past : List Trace) × (ms : List Action) × BeginsFast c w past run ms v

-- it votes two above the greatest floor, and never did there
pub record Skips (c : Config) (w : Caller) (past : List Trace) (run : Run) (ms : List Action) (v : ℕ) : Type 0 where
  pub votes : VotesNext c w past run ms v
  pub first : AreVotesBelow w ms v
  pub above : IsAboveFloor c ms v

abbrev pub CanSkip : Config → Run → ℕ → Type 0
CanSkip c run v = (w : Caller) × (past : List Trace) × (ms : List Action) × Skips c w past run ms v

-- it did, no site took its vote, and nothing is awaited
pub record GoesOnAbove (c : Config) (w : Caller) (past : List Trace) (run : Run) (ms : List Action) (v : ℕ) : Type 0 where
  pub cast : HasCast c w past run ms v
  pub gone : NoneGone c ms v
  pub idle : (s : ℕ) → s < c.n → (site_now ms s).awaits ≡ None

abbrev pub CanGoOnAbove : Config → Run → ℕ → Type 0
CanGoOnAbove c run v = (w : Caller) × (past : List Trace) × (ms : List Action) × GoesOnAbove c w past run ms v

-- the answer of a call that was overtaken too often
abbrev pub contended_of : Run → Answer
contended_of run = if is_some run.last_vote then Unsure (UnsureContended run.met) else Contended run.met

-- the answer of a call with too few sites left
abbrev pub cut_off_of : Run → Answer
cut_off_of run = if is_some run.last_vote then Unsure (UnsureNoQuorum run.wrote (count_by (λ row. is_some row) run.rows)) else NoQuorum run.wrote (count_by (λ row. is_some row) run.rows)

-- the answer of a call of which every site is out
abbrev pub given_in_of : Run → Answer
given_in_of run = if is_some run.last_vote then Unsure (UnsureNoQuorum run.wrote 0) else NoQuorum run.wrote 0

-- the answer of a phase that ends without its goal; a call prepares after `Look` and `Fast`
abbrev pub ended_in : Run → Stage → Option Answer
ended_in run Look = None
ended_in run (Fast v) = None
ended_in run (Prepare v b found) = Some (given_in_of run)
ended_in run (Accept v b x) = Some (given_in_of run)

abbrev pub ended_of : Run → Option Answer
ended_of run = ended_in run run.stage

-- whether a request is awaited
abbrev pub is_waiting : Run → Bool
is_waiting run = list_any (λ mark. is_some mark.awaited) run.marks

-- what is left once a ballot was prepared at every site that takes it: to wait, or to give in
abbrev pub prepared_of : Run → Outcome
prepared_of run = if is_waiting run then Goes else Ends (given_in_of run)
