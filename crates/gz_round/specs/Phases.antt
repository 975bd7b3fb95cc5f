-- How a call goes from one phase to the next, event by event.
use Rattle.std.specs.Prelude.{ℕ, Bool, true, false, ◌≡◌, ◌≤◌, ◌<◌, ◌⊎◌, List, [], ◌∷◌}
use Rattle.gz_config.specs.declared.Config.{Config}
use Rattle.gz_core.specs.History.{Action, Caller, Trace}
use Rattle.gz_round.specs.declared.run.Run.{Run}
use Rattle.gz_round.specs.declared.run.Stage.{Stage}
use Rattle.gz_round.specs.declared.run.Stage.TheVariants.{Look, Fast, Prepare, Accept}
use Rattle.gz_round.specs.Sites.{tells_of_row}
use Rattle.gz_round.specs.Sending.{IsUndecided}
use Rattle.gz_round.specs.Counting.{known_count}
use Rattle.gz_round.specs.Standing.{Runs}
use Rattle.gz_round.specs.Following.{IsStageAt}

-- a phase that votes in the fast ballot does so at this version, or at a later one
abbrev pub IsVoteFrom : ℕ → Stage → Type 0
IsVoteFrom v stage = (u : ℕ) → stage ≡ Fast u → v ≤ u

-- a phase that votes in the fast ballot did so before, at the same version
abbrev pub IsNoNewVote : Stage → Stage → Type 0
IsNoNewVote old new = (v : ℕ) → new ≡ Fast v → old ≡ Fast v

-- at an event of its rows a call went on from a phase in another one, or in the same one. From work at a version it goes on to vote
-- in the fast ballot of a later version; it votes on at the same one only while no value is known to be chosen there, and no
-- known row has it collected. A look ends with a vote only once rows of a classic quorum are known.
pub record GoesFrom (c : Config) (old new : Stage) (ms : List Action) : Type 0 where
  pub votes : (u v : ℕ) → IsStageAt old u → new ≡ Fast v → (u < v) ⊎ ((old ≡ new) × IsUndecided c ms v)
  pub looked : (v : ℕ) → old ≡ Look → new ≡ Fast v → c.qc ≤ known_count c ms

abbrev pub IfTold : Bool → Type 0 → Type 0 → Type 0
IfTold true told other = told
IfTold false told other = other

-- as a call was told what came of a row request, it went on so from a phase that it kept by the rules
abbrev pub CameFrom : Config → Caller → List Trace → (Stage → Type 0) → Stage → Action → List Action → Type 0
CameFrom c w past earlier stage m ms = (run : Run) × Runs c w past run ms × earlier run.stage × GoesFrom c run.stage stage (m ∷ ms)

-- a call came into a phase event by event, from one in which nothing was heard yet, which can only be a look
abbrev pub HasPhases : Config → Caller → List Trace → Stage → List Action → Type 0
HasPhases c w past stage [] = Unit {0}
HasPhases c w past stage (m ∷ ms) = IfTold (tells_of_row m) (CameFrom c w past (λ st. HasPhases c w past st ms) stage m ms) (HasPhases c w past stage ms)
