-- What holds of every run: agreement, and the order of what is shown.
use Rattle.std.specs.Prelude.{ℕ, ◌≡◌, ◌≤◌, ◌<◌, suc, true, false, ◌⊎◌, List, [], ◌∷◌, ◌++◌}
use Rattle.gz_core.specs.Names.{Name, BallotAt, fast, same_ballot}
use Rattle.gz_core.specs.Counts.{count_sites}
use Rattle.gz_core.specs.Configurations.{AreQuorums}
use Rattle.gz_core.specs.Slots.{VotesClassic}
use Rattle.gz_core.specs.declared.slots.Slot.TheVariants.{Gone, DecidedAs}
use Rattle.gz_config.specs.declared.Config.{Config}
use Rattle.gz_model.specs.Choosing.{IsSafe}
use Rattle.gz_ledger.specs.Acceptors.{HasValue}
use Rattle.gz_ledger.specs.Histories.{IsIn, RowSeen, Write, cast, IsChosenAt, IsShownByRows, IsCurrentByRows, VotesFor, IsProposed, IsTrimSent}
use Rattle.gz_ledger.specs.Ledgers.{Ledger, Move, Shows, Sends, Takes, after_moves, AreMoves, votes, standing_votes, backs, late_seen}

-- the sizes of the quorums are right
abbrev pub HasQuorums : Config → Type 0
HasQuorums cfg = AreQuorums cfg.n cfg.qc cfg.qf

-- agreement in one ledger
pub record IsAgreed (cfg : Config) (l : Ledger) : Type 0 where
  -- each vote of a classic ballot that was sent is safe
  pub safe : (w : Write) (v : ℕ) (b : BallotAt) (x : Name) → IsIn w l.sent → w.act ≡ VotesClassic v b x → IsSafe cfg.n cfg.qc cfg.qf (standing_votes l v) b x
  -- so is each that stands or was shown
  pub standing : (v : ℕ) (b : BallotAt) (x : Name) (s : ℕ) → same_ballot b fast ≡ false → votes l v b x s ≡ true → IsSafe cfg.n cfg.qc cfg.qf (standing_votes l v) b x
  -- each vote is for a value that its own call proposed at that version
  pub proposed : (v : ℕ) (b : BallotAt) (x : Name) (s : ℕ) → votes l v b x s ≡ true → IsProposed l.sent v x
  -- a vote that was shown at a version shows that a value is chosen at the one before
  pub chained : (v : ℕ) (b : BallotAt) (x : Name) (s : ℕ) → 1 ≤ v → cast l.seen (suc v) b x s ≡ true → (y : Name) × IsChosenAt cfg l.seen v y
  -- what is shown is chosen, and its own call proposed it at that version
  pub chosen : (v : ℕ) (x : Name) → IsShownByRows cfg l.seen v x → IsChosenAt cfg l.seen v x × IsProposed l.sent v x
  -- one value is shown at a version
  pub one : (v : ℕ) (x y : Name) → IsShownByRows cfg l.seen v x → IsShownByRows cfg l.seen v y → x ≡ y
  -- a value is shown at one version
  pub once : (u v : ℕ) (x : Name) → IsShownByRows cfg l.seen u x → IsShownByRows cfg l.seen v x → u ≡ v
  -- a vote or a decision that was shown tells that a value is chosen at each version below
  pub settled : (e : RowSeen) (v w : ℕ) → IsIn e l.seen → 1 ≤ v → v < w → HasValue (e.row w) → (y : Name) × IsChosenAt cfg l.seen v y
  -- a value that a site has at a version tells that a value is chosen at the one before
  pub founded : (v s : ℕ) → 1 ≤ v → HasValue (l.told s (suc v)) → (y : Name) × IsChosenAt cfg l.seen v y
  -- what a site has decided is chosen
  pub decided : (v s : ℕ) (x : Name) → l.told s v ≡ DecidedAs x → IsChosenAt cfg l.seen v x
  -- what a site has collected, a call sent to be collected
  pub collected : (v s : ℕ) → l.told s v ≡ Gone → IsTrimSent l.sent v
  -- what is shown is backed by the rows of a classic quorum
  pub backed : (v : ℕ) (x : Name) → IsShownByRows cfg l.seen v x → cfg.qc ≤ count_sites cfg.n (backs l v x)

-- in every run
abbrev pub Agreement : Type 0
Agreement = (cfg : Config) (ms : List Move) → HasQuorums cfg → AreMoves cfg ms → IsAgreed cfg (after_moves ms)

-- the version at which rows that a quorum showed afterwards are current is not below one at which a value was shown
abbrev pub LatestIsCurrent : Type 0
LatestIsCurrent = (cfg : Config) (late early : List Move) (u v : ℕ) (x : Name) → HasQuorums cfg → AreMoves cfg (late ++ early) → IsShownByRows cfg (after_moves early).seen u x → IsCurrentByRows cfg (late_seen late early) v → u ≤ v

-- the call's first vote for its own value at a version is sent where late rows are current there
abbrev pub IsCurrentMove : Config → Name → Move → List Move → List Move → Type 0
IsCurrentMove cfg call (Shows s) late early = Unit {0}
IsCurrentMove cfg call (Sends w) late early = w.call ≡ call → (v : ℕ) → VotesFor w.act v call → IsProposed (after_moves (late ++ early)).sent v call ⊎ IsCurrentByRows cfg (late_seen late early) v
IsCurrentMove cfg call (Takes w) late early = Unit {0}

abbrev pub AreCurrentMoves : Config → Name → List Move → List Move → Type 0
AreCurrentMoves cfg call [] early = Unit {0}
AreCurrentMoves cfg call (m ∷ late) early = AreCurrentMoves cfg call late early × IsCurrentMove cfg call m late early

-- the value of a call that began when a value was shown is shown above it
abbrev pub OwnIsAbove : Type 0
OwnIsAbove =
    (cfg : Config) (call : Name) (late early : List Move) (u v : ℕ) (x : Name) → HasQuorums cfg → AreMoves cfg (late ++ early)
    → ((w : Write) → IsIn w (after_moves early).sent → w.call ≡ call → ⊥) → AreCurrentMoves cfg call late early
    → IsShownByRows cfg (after_moves early).seen u x → IsShownByRows cfg (after_moves (late ++ early)).seen v call → u < v
