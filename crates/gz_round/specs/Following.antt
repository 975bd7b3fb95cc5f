-- How a phase reaches its goal, or ends without it, by the rows that are known.
use Rattle.std.specs.Prelude.{ℕ, ◌≡◌, ◌≢◌, ◌≤◌, ◌<◌, ◌+◌, ◌⊎◌, ◌==◌, Bool, true, false, List, ◌∷◌, ◌++◌, Option, Some, None, slice_get}
use Rattle.gz_core.specs.Names.{Name}
use Rattle.gz_core.specs.Rows.{RowAt}
use Rattle.gz_core.specs.Calls.{key_of}
use Rattle.gz_core.specs.declared.values.Value.{Value}
use Rattle.gz_config.specs.declared.Config.{Config}
use Rattle.gz_core.specs.declared.requests.RowStep.{RowStep}
use Rattle.gz_core.specs.declared.requests.RowStep.TheVariants.{FastVote, Promise, ClassicVote, Decide, Trim}
use Rattle.gz_core.specs.declared.requests.Out.{Out}
use Rattle.gz_pick.specs.Looks.{row_top, row_name}
use Rattle.gz_round.specs.declared.run.Run.{Run}
use Rattle.gz_round.specs.declared.run.Stage.{Stage}
use Rattle.gz_round.specs.declared.run.Stage.TheVariants.{Look, Fast, Prepare, Accept}
use Rattle.gz_round.specs.declared.following.Next.{Next}
use Rattle.gz_round.specs.declared.following.Next.TheVariants.{Wait, Vote, Skip, Chosen, Learnt, Absent, Unborn, Collected, Trimmed}
use Rattle.gz_core.specs.History.{Asked, Action, Sent, Caller, Trace, IsClosing, sent_from}
use Rattle.gz_round.specs.Sites.{site_now}
use Rattle.gz_round.specs.Sent.{voted, IsUnpromised}
use Rattle.gz_round.specs.Shown.{heard_at, IsShown}
use Rattle.gz_round.specs.Rounds.{rounds_used}
pub use Rattle.gz_round.specs.Sending.{NoEvidence}
use Rattle.gz_round.specs.Sending.{MayMake, MayRead, AreAllowed, NoneAbove, NoneGone, IsUndecided}
use Rattle.gz_round.specs.Counting.{IsUnnoticed, known_count}
use Rattle.gz_round.specs.declared.outcome.Outcome.{Outcome}
use Rattle.gz_round.specs.declared.outcome.Outcome.TheVariants.{Goes}
use Rattle.gz_round.specs.Causes.{ComesTo, IsAbsent, IsUnborn, IsCollected, IsTrimmed, is_blank}
use Rattle.gz_round.specs.Asking.{is_notice, round_of}
use Rattle.gz_round.specs.Goals.{IsUnmet, IsAboveFloor, IsOvertakenAskably, AreServed, working_version}
use Rattle.gz_round.specs.Evidence.{IsAfterEvidence}
use Rattle.gz_round.specs.Targets.{target_of, IsAskedFor}
pub use Rattle.gz_round.specs.Standing.{MayPass, IsVoteNext, AreVotesBelow}
use Rattle.gz_round.specs.Standing.{Stands, StageStands, AreVotesUpTo, Runs, AreAskedAgain, IsPreparing, IsVoting}

-- a site whose row is known shows a row without a vote, a decision or a floor
abbrev pub is_blank_known : Option RowAt → Bool
is_blank_known None = true
is_blank_known (Some row) = is_blank row

-- it shows a row without a vote or a decision
abbrev pub is_topless : Option RowAt → Bool
is_topless None = true
is_topless (Some row) = row_top row == 0

-- what was noted is kept, and the phase stands; no notice was sent, and where the phase's ballot leads no further, that was
-- just heard
pub record Ready (c : Config) (w : Caller) (past : List Trace) (run : Run) (ms : List Action) : Type 0 where
  pub stands : Stands c w past run ms
  pub stage : StageStands c w past run.stage ms
  pub unnoticed : IsUnnoticed ms
  pub above : IsOvertakenAskably c run run.stage ms

abbrev pub IsReady : Config → Run → Type 0
IsReady c run = (w : Caller) × (past : List Trace) × (ms : List Action) × Ready c w past run ms

-- the object was never written, as the known rows of a classic quorum show, and the call hasn't voted
pub record IsUnwritten (c : Config) (w : Caller) (ms : List Action) : Type 0 where
  pub blank : c.qc ≤ heard_at c is_blank ms
  pub unvoted : voted w.name ms ≡ false
  pub unpromised : IsUnpromised ms 0
  pub none : IsUndecided c ms 1

-- the phase works at the version
abbrev pub IsStageAt : Stage → ℕ → Type 0
IsStageAt Look v = ⊥
IsStageAt (Fast u) v = u ≡ v
IsStageAt (Prepare u b found) v = u ≡ v
IsStageAt (Accept u b x) v = u ≡ v

-- a call that writes nothing knows the value of the version that it asks for, from the row of a site
pub record IsFound (c : Config) (w : Caller) (run : Run) (ms : List Action) (v : ℕ) (s : ℕ) : Type 0 where
  pub reads : w.own ≡ None
  pub asked : IsAskedFor c (target_of w.call) ms v
  pub name : Name
  pub shown : IsShown c ms v name
  pub inside : s < c.n
  pub row : RowAt
  pub known : slice_get run.rows s ≡ Some (Some row)
  pub named : row_name row v ≡ Some name

-- a call goes on to a version above the one at which its phase works, and from a look once rows of a classic quorum are known
pub record IsOnward (c : Config) (run : Run) (ms : List Action) (v : ℕ) : Type 0 where
  pub above : working_version run < v
  pub looked : run.stage ≡ Look → c.qc ≤ known_count c ms

-- what the rows that are known come to
abbrev pub NextMeans : Config → Caller → Run → List Action → Next → Type 0
NextMeans c w run ms Wait = IsUnmet c run run.stage ms
NextMeans c w run ms (Vote v) = IsVoteNext c w ms v × AreVotesBelow w ms v × NoEvidence c ms v × (NoneGone c ms v ⊎ IsAfterEvidence c ms v) × IsOnward c run ms v
NextMeans c w run ms (Skip v) = IsVoteNext c w ms v × AreVotesBelow w ms v × IsAboveFloor c ms v × (working_version run + 2 ≤ v) × (run.stage ≢ Look)
NextMeans c w run ms (Chosen v) = (1 ≤ v) × IsShown c ms v w.name × ((x : Value) × (w.own ≡ Some x))
NextMeans c w run ms (Learnt v s) = IsFound c w run ms v s
NextMeans c w run ms Absent = IsAbsent c w ms
NextMeans c w run ms (Unborn latest) = IsUnborn c w ms latest
NextMeans c w run ms (Collected floor) = IsCollected c w ms floor
NextMeans c w run ms (Trimmed floor) = IsTrimmed c w ms floor

-- a call that writes votes above a version, or its value is chosen
abbrev pub IsWriteNext : ℕ → Next → Type 0
IsWriteNext v Wait = ⊥
IsWriteNext v (Vote u) = v < u
IsWriteNext v (Skip u) = ⊥
IsWriteNext v (Chosen u) = Unit {0}
IsWriteNext v (Learnt u s) = ⊥
IsWriteNext v Absent = ⊥
IsWriteNext v (Unborn latest) = ⊥
IsWriteNext v (Collected floor) = ⊥
IsWriteNext v (Trimmed floor) = ⊥

-- a step may be made, where there is one
abbrev pub MayMakeOf : Config → Caller → List Trace → List Action → Option RowStep → Type 0
MayMakeOf c w past ms None = Unit {0}
MayMakeOf c w past ms (Some step) = MayMake c w past ms step

-- what the phase of a step keeps while the step is made at one site after another
abbrev pub HeldBy : Config → Caller → List Trace → List Action → RowStep → Type 0
HeldBy c w past ms (FastVote v x) = IsUnpromised ms v × AreVotesUpTo w ms v
HeldBy c w past ms (Promise v b) = IsPreparing c w past ms v b × NoneAbove c ms v b
HeldBy c w past ms (ClassicVote v b x) = IsVoting c w past ms v b × NoneAbove c ms v b
HeldBy c w past ms (Decide v x) = Unit {0}
HeldBy c w past ms (Trim to x) = Unit {0}

abbrev pub HeldOf : Config → Caller → List Trace → List Action → Option RowStep → Type 0
HeldOf c w past ms None = Unit {0}
HeldOf c w past ms (Some step) = HeldBy c w past ms step

-- a step may be made on the rows that are kept, and no notice was sent
pub record Asks (c : Config) (w : Caller) (past : List Trace) (run : Run) (ms : List Action) (step : Option RowStep) : Type 0 where
  pub stands : Stands c w past run ms
  pub may : MayMakeOf c w past ms step
  pub held : HeldOf c w past ms step
  pub unnoticed : IsUnnoticed ms

-- a step that is awaited, or none
abbrev pub IsPlain : Option RowStep → Type 0
IsPlain None = Unit {0}
IsPlain (Some step) = is_notice step ≡ false

-- a notice, or no step
abbrev pub IsNoticeIfAny : Option RowStep → Type 0
IsNoticeIfAny None = Unit {0}
IsNoticeIfAny (Some step) = is_notice step ≡ true

-- why a request of a site is awaited after a pass: one was awaited before it, or a read was due, or the step was made, and so
-- the round of its promise was used
abbrev pub IsAwaitedBy : Run → List Action → Option RowStep → ℕ → Type 0
IsAwaitedBy run before step s =
    ((a : Asked) × ((site_now before s).awaits ≡ Some a)) ⊎ ((((site_now before s).out ≡ false) × MayRead (site_now before s)) ⊎ (round_of step ≤ run.round))

-- each site was asked for all that it may be asked for, after these actions
pub record HasAsked (c : Config) (w : Caller) (past : List Trace) (run : Run) (before ms : List Action) (step : Option RowStep) : Type 0 where
  pub stands : Stands c w past run ms
  pub may : MayMakeOf c w past ms step
  pub held : HeldOf c w past ms step
  pub served : AreServed c w ms step
  pub unnoticed : IsPlain step → IsUnnoticed ms
  pub awaited : (s : ℕ) (a : Asked) → (site_now ms s).awaits ≡ Some a → IsAwaitedBy run before step s

abbrev pub CanAsk : Config → Run → ℕ → List Out → Option RowStep → Type 0
CanAsk c run first outs step = (w : Caller) × (past : List Trace) × (ms : List Action) × Asks c w past run (sent_from first outs ms) step

-- at most one more request was sent, to this site
abbrev pub IsOneMore : ℕ → List Action → List Action → Type 0
IsOneMore at old new = (new ≡ old) ⊎ ((a : Asked) × (new ≡ Sent a ∷ old) × (a.site ≡ at))

-- the rows of a call are done with: they came to something, each site that was due to be read is read or out, and the call's
-- key, its own value and the rounds that its session used are kept
pub record AreDone (c : Config) (w : Caller) (past : List Trace) (run : Run) (ms : List Action) (outcome : Outcome) : Type 0 where
  pub key_is : run.key ≡ key_of w.call
  pub own_is : run.own ≡ w.own
  pub allowed : AreAllowed c w past ms
  pub reads : AreAskedAgain c ms
  pub comes : ComesTo c w ms outcome
  pub round_is : run.round ≡ rounds_used past ms

-- after an event: the call runs on, or its rows are done with
abbrev pub Turned : Config → Caller → List Trace → Run → List Action → Outcome → Type 0
Turned c w past run ms Goes = Runs c w past run ms
Turned c w past run ms outcome = AreDone c w past run ms outcome

-- the same, where the event may close by every site going out
abbrev pub HasTurned : Config → Caller → List Trace → Run → List Action → Outcome → Type 0
HasTurned c w past run ms outcome = (closing : List Action) × IsClosing closing × Turned c w past run (closing ++ ms) outcome
