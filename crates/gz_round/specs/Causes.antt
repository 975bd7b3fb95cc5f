-- What a call's rows come to, by what it has sent and heard of rows.
use Rattle.std.specs.Prelude.{ℕ, Bool, true, false, ◌≡◌, ◌≤◌, ◌<◌, ◌+◌, ◌⊎◌, ◌&&◌, ◌==◌, List, Some, None}
use Rattle.gz_core.specs.Names.{Name}
use Rattle.gz_core.specs.Values.{name_of}
use Rattle.gz_core.specs.Rows.{RowAt}
use Rattle.gz_core.specs.declared.values.Value.{Value}
use Rattle.gz_core.specs.declared.calls.Answer.{Answer}
use Rattle.gz_core.specs.declared.calls.Answer.TheVariants.{Absent, Unborn, Collected, NoQuorum, Contended, Unsure}
use Rattle.gz_core.specs.declared.calls.UnsureWhy.{UnsureWhy}
use Rattle.gz_core.specs.declared.calls.UnsureWhy.TheVariants.{NoQuorum as UnsureNoQuorum, Contended as UnsureContended, Trimmed as UnsureTrimmed}
use Rattle.gz_core.specs.declared.calls.Phase.{Phase}
use Rattle.gz_config.specs.declared.Config.{Config}
use Rattle.gz_pick.specs.Looks.{row_top}
use Rattle.gz_core.specs.History.{Action, Caller}
use Rattle.gz_round.specs.Evidence.{NoEvidence}
use Rattle.gz_round.specs.Sent.{met, voted, last_vote, phase_of, IsUnpromised}
use Rattle.gz_round.specs.Shown.{heard_at, IsShown, IsCurrent, IsQuorumHeard, HasFloor}
use Rattle.gz_round.specs.Targets.{target_of, IsAskedFor}
use Rattle.gz_round.specs.declared.run.Target.TheVariants.{Latest, At}
use Rattle.gz_round.specs.declared.outcome.Outcome.{Outcome}
use Rattle.gz_round.specs.declared.outcome.Outcome.TheVariants.{Goes, Placed, Learnt, Ends}
pub use Rattle.gz_round.specs.Shown.{vote_value, column_value, row_value, IsValueHeard}
pub use Rattle.gz_round.specs.Sites.{rows_known}
use Rattle.gz_round.specs.Counting.{outs, known_count, IsGoing, IsNoticed}

-- the call writes a value, which is shown at the version
abbrev pub IsChosenOwn : Config → Caller → List Action → ℕ → Type 0
IsChosenOwn c w ms v = (x : Value) × (w.own ≡ Some x) × IsShown c ms v w.name

-- the call writes nothing; the value is shown at the version that it asks for, and the value itself was heard there
pub record IsLearnt (c : Config) (w : Caller) (ms : List Action) (v : ℕ) (x : Value) : Type 0 where
  pub reads : w.own ≡ None
  pub asked : IsAskedFor c (target_of w.call) ms v
  pub shown : IsShown c ms v (name_of x)
  pub heard : IsValueHeard ms v x

-- a row without a vote, a decision or a floor
abbrev pub is_blank : RowAt → Bool
is_blank row = (row_top row == 0) && (row.floor == 0)

-- the latest version is asked for, and the object was never written, as rows of a classic quorum show
pub record IsAbsent (c : Config) (w : Caller) (ms : List Action) : Type 0 where
  pub reads : w.own ≡ None
  pub asked : target_of w.call ≡ Latest
  pub blank : c.qc ≤ heard_at c is_blank ms

-- the version that is asked for lies above the latest one: a value is shown there, or it is none
pub record IsUnborn (c : Config) (w : Caller) (ms : List Action) (latest : ℕ) : Type 0 where
  pub reads : w.own ≡ None
  pub version : ℕ
  pub asked : target_of w.call ≡ At version
  pub above : latest < version
  pub current : IsCurrent c ms latest
  pub shown : (latest ≡ 0) ⊎ ((x : Name) × IsShown c ms latest x)

-- the version that is asked for was collected, as a row with this floor shows, and rows of a classic quorum were heard
pub record IsCollected (c : Config) (w : Caller) (ms : List Action) (floor : ℕ) : Type 0 where
  pub reads : w.own ≡ None
  pub version : ℕ
  pub asked : target_of w.call ≡ At version
  pub gone : version ≤ floor
  pub heard : HasFloor c ms floor
  pub quorum : IsQuorumHeard c ms

-- the version at which the call voted last for its value was collected, as a row with this floor shows. The call works there
-- still: no value is known to be chosen there, and it promised nothing above.
pub record IsTrimmed (c : Config) (w : Caller) (ms : List Action) (floor : ℕ) : Type 0 where
  pub version : ℕ
  pub voted : last_vote w.name ms ≡ Some version
  pub gone : version ≤ floor
  pub heard : HasFloor c ms floor
  pub none : NoEvidence c ms version
  pub later : IsUnpromised ms (version + 1)

-- too few sites are left, and the call was overtaken less often than it tries
pub record IsCutOff (c : Config) (ms : List Action) (phase : Phase) (heard : ℕ) : Type 0 where
  pub few : met ms < c.tries
  pub lost : c.n < outs c ms + c.qc
  pub phase_is : phase ≡ phase_of ms
  pub heard_is : heard ≡ known_count c ms

-- the call was overtaken as often as it tries
abbrev pub IsOvertaken : Config → List Action → ℕ → Type 0
IsOvertaken c ms m = (c.tries ≤ met ms) × (m ≡ met ms)

-- why a put or delete ended without knowing; by a floor only while it could go on
abbrev pub UnsureCause : Config → Caller → List Action → UnsureWhy → Type 0
UnsureCause c w ms (UnsureNoQuorum phase heard) = IsCutOff c ms phase heard
UnsureCause c w ms (UnsureContended m) = IsOvertaken c ms m
UnsureCause c w ms (UnsureTrimmed floor) = IsGoing c ms × IsTrimmed c w ms floor

-- when the rows of a call end it with an answer. What they show of the object ends it only while it could go on.
abbrev pub EndsBy : Config → Caller → List Action → Answer → Type 0
EndsBy c w ms Absent = IsGoing c ms × IsAbsent c w ms
EndsBy c w ms (Unborn latest) = IsGoing c ms × IsUnborn c w ms latest
EndsBy c w ms (Collected floor) = IsGoing c ms × IsCollected c w ms floor
EndsBy c w ms (NoQuorum phase heard) = (voted w.name ms ≡ false) × IsCutOff c ms phase heard
EndsBy c w ms (Contended m) = (voted w.name ms ≡ false) × IsOvertaken c ms m
EndsBy c w ms (Unsure why) = (voted w.name ms ≡ true) × UnsureCause c w ms why
EndsBy c w ms answer = ⊥

-- what the rows of a call come to once they are done with: its own value is chosen at a version, and the sites have notice; a
-- value is learnt; or an answer. The first two come only while the call could go on.
abbrev pub ComesTo : Config → Caller → List Action → Outcome → Type 0
ComesTo c w ms Goes = ⊥
ComesTo c w ms (Placed v) = IsGoing c ms × IsChosenOwn c w ms v × IsNoticed c w ms v
ComesTo c w ms (Learnt v x) = IsGoing c ms × IsLearnt c w ms v x
ComesTo c w ms (Ends answer) = EndsBy c w ms answer
