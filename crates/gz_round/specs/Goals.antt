-- The goal of a phase, and the step by which it is reached: whether the goal is unmet, and whether all that can be asked for it was.
use Rattle.std.specs.Prelude.{ℕ, ◌≡◌, ◌≤◌, ◌<◌, ◌+◌, ◌⊎◌, ◌||◌, nat_lt, Bool, true, false, List, Option, Some, None}
use Rattle.std.specs.List.{count_by, list_any}
use Rattle.gz_core.specs.Names.{BallotAt}
use Rattle.gz_core.specs.Rows.{RowAt}
use Rattle.gz_core.specs.Calls.{key_of}
use Rattle.gz_core.specs.declared.values.Value.{Value}
use Rattle.gz_config.specs.declared.Config.{Config}
use Rattle.gz_core.specs.declared.requests.RowStep.{RowStep}
use Rattle.gz_core.specs.declared.requests.RowStep.TheVariants.{FastVote, Promise, ClassicVote}
use Rattle.gz_core.specs.declared.requests.Op.TheVariants.{WriteRow}
use Rattle.gz_accept.specs.declared.answers.Step.TheVariants.{Done}
use Rattle.gz_pick.specs.Looks.{highest_of}
use Rattle.gz_round.specs.declared.hearing.Seen.{Seen}
use Rattle.gz_round.specs.declared.run.Run.{Run}
use Rattle.gz_round.specs.declared.run.Stage.{Stage}
use Rattle.gz_round.specs.declared.run.Stage.TheVariants.{Look, Fast, Prepare, Accept}
use Rattle.gz_core.specs.History.{Action, Caller}
use Rattle.gz_round.specs.Evidence.{NoEvidence, IsAfterEvidence}
use Rattle.gz_round.specs.Sites.{site_now, rows_known, up_to_rows}
use Rattle.gz_round.specs.Sent.{is_notice, voted_at}
use Rattle.gz_round.specs.Shown.{IsCurrent}
use Rattle.gz_round.specs.Rounds.{promises_known, promises_above, above_known}
use Rattle.gz_round.specs.Sending.{IsUndecided, answer_of, made_by}
use Rattle.gz_round.specs.Targets.{looked_at}
use Rattle.gz_round.specs.Counting.{known_count, HasNotice}

-- the version at which the call looks
abbrev pub looked_in : Run → ℕ
looked_in run = looked_at run.target (highest_of run.rows)

-- the version at which a phase works; in `Look` it is the one at which the call looks
abbrev pub version_in : Stage → ℕ → ℕ
version_in Look looked = looked
version_in (Fast v) looked = v
version_in (Prepare v b found) looked = v
version_in (Accept v b x) looked = v

-- the version that the phase works at
abbrev pub working_version : Run → ℕ
working_version run = version_in run.stage (looked_in run)

-- the phase's goal isn't reached
abbrev pub IsUnmet : Config → Run → Stage → List Action → Type 0
IsUnmet c run Look ms = (known_count c ms < c.qc) ⊎ ((1 ≤ highest_of run.rows) × IsUndecided c ms (looked_in run))
IsUnmet c run (Fast v) ms = IsUndecided c ms v
IsUnmet c run (Prepare v b found) ms = IsUndecided c ms v
IsUnmet c run (Accept v b x) ms = IsUndecided c ms v

-- the greatest floor of the known rows lies two below the version, which follows the one that is decided there. It reached the
-- version at which the call worked: rows of a classic quorum showed nothing above it.
pub record IsAboveFloor (c : Config) (ms : List Action) (v : ℕ) : Type 0 where
  pub site : ℕ
  pub row : RowAt
  pub inside : site < c.n
  pub known : rows_known ms site ≡ Some row
  pub two : v ≡ row.floor + 2
  pub top : (s : ℕ) (other : RowAt) → s < c.n → rows_known ms s ≡ Some other → other.floor + 2 ≤ v
  pub current : IsCurrent c ms row.floor

-- a known row has the version collected
abbrev pub HasGone : Config → List Action → ℕ → Type 0
HasGone c ms v = (s : ℕ) × (row : RowAt) × (s < c.n) × (rows_known ms s ≡ Some row) × (v ≤ row.floor)

-- a call that writes has just begun to vote at the version, and hadn't when the last reply or give-up of a row request came: at
-- the second one above the greatest floor, whatever is known there, or at one that was collected, after a version of which it had
-- evidence
abbrev pub IsSkipping : Config → Caller → Stage → List Action → Type 0
IsSkipping c w Look ms = ⊥
IsSkipping c w (Fast v) ms = (voted_at w.name (up_to_rows ms) v ≡ false) × (IsAboveFloor c ms v ⊎ (HasGone c ms v × NoEvidence c ms v × IsAfterEvidence c ms v))
IsSkipping c w (Prepare v b found) ms = ⊥
IsSkipping c w (Accept v b x) ms = ⊥

-- a quorum of known rows doesn't promise the call's ballot yet
abbrev pub IsFewIn : Config → Run → Stage → Type 0
IsFewIn c run Look = Unit {0}
IsFewIn c run (Fast v) = Unit {0}
IsFewIn c run (Prepare v b found) = (run.round < b.round) ⊎ (count_by (promises_known v b) run.rows < c.qc)
IsFewIn c run (Accept v b x) = Unit {0}

-- the ballot of the phase leads no further: a known row promises one above, or the call never promised it
abbrev pub is_overtaken_in : Run → Stage → Bool
is_overtaken_in run Look = false
is_overtaken_in run (Fast v) = false
is_overtaken_in run (Prepare v b found) = nat_lt run.round b.round || list_any (above_known v b) run.rows
is_overtaken_in run (Accept v b x) = list_any (above_known v b) run.rows

abbrev pub is_overtaken : Run → Bool
is_overtaken run = is_overtaken_in run run.stage

-- a known row that promises a ballot above this one is of a site that can be asked: nothing is awaited of it, and the row
-- wasn't overtaken since
abbrev pub AreAskableAbove : Config → List Action → ℕ → BallotAt → Type 0
AreAskableAbove c ms v b = (s : ℕ) (row : RowAt) → s < c.n → rows_known ms s ≡ Some row → promises_above row v b ≡ true → ((site_now ms s).awaits ≡ None) × ((site_now ms s).changed ≡ false)

-- the call promised the phase's ballot, which leads no further only by such rows
abbrev pub IsOvertakenAskably : Config → Run → Stage → List Action → Type 0
IsOvertakenAskably c run Look ms = Unit {0}
IsOvertakenAskably c run (Fast v) ms = Unit {0}
IsOvertakenAskably c run (Prepare v b found) ms = (b.round ≤ run.round) × AreAskableAbove c ms v b
IsOvertakenAskably c run (Accept v b x) ms = AreAskableAbove c ms v b

abbrev pub vote_for : ℕ → Option Value → Option RowStep
vote_for v None = None
vote_for v (Some x) = Some (FastVote v x)

abbrev pub step_in : Stage → Option Value → Option RowStep
step_in Look own = None
step_in (Fast v) own = vote_for v own
step_in (Prepare v b found) own = Some (Promise v b)
step_in (Accept v b x) own = Some (ClassicVote v b x)

-- the step of the phase: none in `Look`, in `Fast` a vote for the call's value, then a promise and a classic vote
abbrev pub stage_step : Run → Option RowStep
stage_step run = step_in run.stage run.own

-- where a step is done, the site got a notice
abbrev pub IsSettledBy : Caller → List Action → ℕ → Seen → Option RowStep → Type 0
IsSettledBy w ms s seen None = Unit {0}
IsSettledBy w ms s seen (Some step) = answer_of step seen.row ≡ Done → (is_notice step ≡ true) × HasNotice ms s (WriteRow (key_of w.call) seen.etag step (made_by step seen.row))

-- all that may be asked of a site was asked: it is awaited, or out, or its last row stands and takes no step
abbrev pub IsServed : Caller → List Action → Option RowStep → ℕ → Type 0
IsServed w ms step s = (site_now ms s).awaits ≡ None → (site_now ms s).out ≡ false →
    (seen : Seen) × ((site_now ms s).row ≡ Some seen) × ((site_now ms s).changed ≡ false) × IsSettledBy w ms s seen step

abbrev pub AreServed : Config → Caller → List Action → Option RowStep → Type 0
AreServed c w ms step = (s : ℕ) → s < c.n → IsServed w ms step s
