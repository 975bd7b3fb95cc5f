-- What a running call keeps stands for what has happened to it.
use Rattle.std.specs.Prelude.{ℕ, true, false, if◌then◌else◌, ◌≡◌, ◌≢◌, ◌≤◌, ◌<◌, ◌+◌, ◌⊎◌, List, length, slice_get, Option, Some, None, is_some, option_map}
use Rattle.gz_core.specs.Names.{Name, BallotAt, IsClassic}
use Rattle.gz_core.specs.Rows.{RowAt}
use Rattle.gz_core.specs.Calls.{key_of}
use Rattle.gz_core.specs.Values.{name_of}
use Rattle.gz_core.specs.declared.values.Value.{Value}
use Rattle.gz_core.specs.declared.calls.Phase.TheVariants.{Look as NotBegun}
use Rattle.gz_config.specs.declared.Config.{Config}
use Rattle.gz_round.specs.declared.run.Awaited.{Awaited}
use Rattle.gz_round.specs.declared.run.Mark.{Mark}
use Rattle.gz_round.specs.declared.run.Run.{Run}
use Rattle.gz_round.specs.declared.run.Stage.{Stage}
use Rattle.gz_round.specs.declared.run.Stage.TheVariants.{Look, Fast, Prepare, Accept}
use Rattle.gz_core.specs.History.{Asked, Action, Caller, Trace}
use Rattle.gz_round.specs.declared.hearing.Seen.{Seen}
use Rattle.gz_round.specs.Sites.{SiteNow, site_now, known, row_seen, written_by}
use Rattle.gz_round.specs.Sent.{met, voted, voted_at, last_vote, phase_of, has_promised_at, last_promise, IsUnpromised}
use Rattle.gz_round.specs.Shown.{IsClear, IsGrounded}
use Rattle.gz_round.specs.Targets.{target_of, IsAim}
use Rattle.gz_round.specs.declared.run.Target.TheVariants.{Latest}
use Rattle.gz_round.specs.LookBack.{IsLookedBack}
use Rattle.gz_round.specs.Rounds.{MayClassicVote, IsUnused, rounds_used, promises_above, passed_since}
use Rattle.gz_round.specs.Sending.{AreAllowed, MayFastVote, MayRead, IsUncast, IsBegun, rows_known}
use Rattle.gz_round.specs.Counting.{IsGoing, IsUnnoticed}
use Rattle.gz_round.specs.Goals.{IsUnmet, IsSkipping, IsFewIn, is_overtaken, AreServed, stage_step}

abbrev pub etag_seen : Option Seen → Option ℕ
etag_seen None = None
etag_seen (Some seen) = seen.etag

abbrev pub awaited_of : Asked → Awaited
awaited_of a = record { number = a.number; written = written_by a.op }

-- the last row of a site that is out
abbrev pub left_of : SiteNow → Option RowAt
left_of now = if now.out then row_seen now.row else None

-- what is kept of a site beside its row
abbrev pub mark_of : SiteNow → Mark
mark_of now = record { etag = etag_seen now.row; changed = now.changed; out = now.out; left = left_of now; awaited = option_map awaited_of now.awaits }

-- the lists say of each site what the actions say
pub record Knows (c : Config) (run : Run) (ms : List Action) : Type 0 where
  pub rows_len : length run.rows ≡ c.n
  pub marks_len : length run.marks ≡ c.n
  pub rows : (s : ℕ) → s < c.n → slice_get run.rows s ≡ Some (known (site_now ms s))
  pub marks : (s : ℕ) → s < c.n → slice_get run.marks s ≡ Some (mark_of (site_now ms s))

-- a request is awaited only from the site that it was sent to, which isn't out; and from each site that hasn't
-- answered all that is awaited of it, a request is awaited
pub record IsSound (now : SiteNow) (s : ℕ) : Type 0 where
  pub inside : (a : Asked) → now.awaits ≡ Some a → (now.out ≡ false) × (a.site ≡ s) × (a.awaited ≡ true)
  pub answered : now.unanswered ≡ is_some now.awaits

abbrev pub AreSound : List Action → Type 0
AreSound ms = (s : ℕ) → IsSound (site_now ms s) s

-- a call's own value, where it writes one, has the call's name
abbrev pub IsNamed : Name → Option Value → Type 0
IsNamed name own = (x : Value) → own ≡ Some x → name_of x ≡ name

-- a call that writes asks for no version by its number
abbrev pub WritesLatest : Caller → Type 0
WritesLatest w = (x : Value) → w.own ≡ Some x → target_of w.call ≡ Latest

-- the call keeps what has happened to it, and each action of it was allowed
pub record Stands (c : Config) (w : Caller) (past : List Trace) (run : Run) (ms : List Action) : Type 0 where
  pub name_is : run.name ≡ w.name
  pub key_is : run.key ≡ key_of w.call
  pub target_is : run.target ≡ target_of w.call
  pub own_is : run.own ≡ w.own
  pub named : IsNamed w.name w.own
  pub writes : WritesLatest w
  pub knows : Knows c run ms
  pub met_is : run.met ≡ met ms
  pub vote_is : run.last_vote ≡ last_vote w.name ms
  pub wrote_is : run.wrote ≡ phase_of ms
  pub round_is : run.round ≡ rounds_used past ms
  pub sites : AreSound ms
  pub allowed : AreAllowed c w past ms

-- where a row that is known promises a ballot above this one, such a row was heard since the last promise of it
abbrev pub ArePassed : Config → List Action → ℕ → BallotAt → Type 0
ArePassed c ms v b = (s : ℕ) (row : RowAt) → s < c.n → rows_known ms s ≡ Some row → promises_above row v b ≡ true → passed_since v b ms ≡ true

-- the call voted for its value at lower versions alone, or last at this one
abbrev pub AreVotesUpTo : Caller → List Action → ℕ → Type 0
AreVotesUpTo w ms v = (u : ℕ) → voted_at w.name ms u ≡ true → (u < v) ⊎ ((u ≡ v) × (last_vote w.name ms ≡ Some u))

-- the call voted for its value at lower versions alone
abbrev pub AreVotesBelow : Caller → List Action → ℕ → Type 0
AreVotesBelow w ms v = (u : ℕ) → voted_at w.name ms u ≡ true → u < v

-- the call may vote for its value in the fast ballot of the version, and promised nothing there or above
pub record IsVoteNext (c : Config) (w : Caller) (ms : List Action) (v : ℕ) : Type 0 where
  pub may : MayFastVote c w ms v
  pub own : (x : Value) × (w.own ≡ Some x)
  pub unpromised : IsUnpromised ms v
  pub votes : AreVotesUpTo w ms v

-- the call may work at a version; once a value is shown there that isn't its own, one that writes may pass on to the next
pub record MayPass (c : Config) (w : Caller) (ms : List Action) (v : ℕ) : Type 0 where
  pub above : 1 ≤ v
  pub aim : IsAim c (target_of w.call) ms v
  pub clear : IsClear c w.name ms v
  pub later : IsUnpromised ms (v + 1)
  pub votes : AreVotesUpTo w ms v

-- it works there by a classic ballot of its session, which was used for nothing else; any other ballot that it
-- promised there was passed since
pub record IsWorking (c : Config) (w : Caller) (past : List Trace) (ms : List Action) (v : ℕ) (b : BallotAt) : Type 0 where
  pub pass : MayPass c w ms v
  pub classic : IsClassic b
  pub session : b.session ≡ w.name.session
  pub unused : IsUnused past b
  pub grounded : IsGrounded c ms v
  pub passed : (d : BallotAt) → d ≢ b → has_promised_at ms v d ≡ true → passed_since v d ms ≡ true
  pub begun : w.own ≡ None → IsBegun c ms v b

-- it has not voted in the ballot, which it promised last, or else no session has used its round
pub record IsPreparing (c : Config) (w : Caller) (past : List Trace) (ms : List Action) (v : ℕ) (b : BallotAt) : Type 0 where
  pub works : IsWorking c w past ms v b
  pub uncast : IsUncast ms v b
  pub used : (last_promise ms ≡ Some (v, b)) ⊎ (rounds_used past ms < b.round)

-- it may vote in the ballot, which it promised last
pub record IsVoting (c : Config) (w : Caller) (past : List Trace) (ms : List Action) (v : ℕ) (b : BallotAt) : Type 0 where
  pub works : IsWorking c w past ms v b
  pub last : last_promise ms ≡ Some (v, b)

-- the phase has what its step wants, and what a call that writes nothing looked back at
abbrev pub StageStands : Config → Caller → List Trace → Stage → List Action → Type 0
StageStands c w past Look ms = (voted w.name ms ≡ false) × (phase_of ms ≡ NotBegun)
StageStands c w past (Fast v) ms = IsVoteNext c w ms v
StageStands c w past (Prepare v b found) ms = IsPreparing c w past ms v b × ArePassed c ms v b × (w.own ≡ None → last_promise ms ≡ Some (v, b) → IsLookedBack c ms v b found)
StageStands c w past (Accept v b x) ms = MayClassicVote c w ms v b x × IsVoting c w past ms v b × ArePassed c ms v b

-- each site that may be read is being read, or is out
abbrev pub AreAskedAgain : Config → List Action → Type 0
AreAskedAgain c ms = (s : ℕ) → s < c.n → MayRead (site_now ms s) → (site_now ms s).awaits ≡ None → (site_now ms s).out ≡ true

-- a request is awaited from a site
abbrev pub IsWaiting : Config → List Action → Type 0
IsWaiting c ms = (s : ℕ) × (a : Asked) × (s < c.n) × ((site_now ms s).awaits ≡ Some a)

-- between two events: the phase stands, short of its goal or just begun above a floor, and of a quorum of promises that it could vote by, and its ballot
-- leads on; each site is asked for what it may be asked, and got no notice; the call can go on, and it awaits a request
pub record Runs (c : Config) (w : Caller) (past : List Trace) (run : Run) (ms : List Action) : Type 0 where
  pub stands : Stands c w past run ms
  pub stage : StageStands c w past run.stage ms
  pub unmet : IsUnmet c run run.stage ms ⊎ IsSkipping c w run.stage ms
  pub few : IsFewIn c run run.stage
  pub ahead : is_overtaken run ≡ false
  pub again : AreAskedAgain c ms
  pub served : AreServed c w ms (stage_step run)
  pub unnoticed : IsUnnoticed ms
  pub going : IsGoing c ms
  pub waits : IsWaiting c ms

abbrev pub IsKept : Config → Run → Type 0
IsKept c run = (w : Caller) × (past : List Trace) × (ms : List Action) × Stands c w past run ms
