-- The rows that sites showed and the writes that calls sent, the newest first.
use Rattle.std.specs.Prelude.{ℕ, ◌≡◌, ◌≤◌, Bool, false, ◌&&◌, ◌||◌, ◌==◌, ◌⊎◌, List, [], ◌∷◌, length, Some}
use Rattle.gz_core.specs.Names.{Name, BallotAt}
use Rattle.gz_core.specs.Slots.{Act, VotesFast, Promises, VotesClassic, Decides, Trims}
use Rattle.gz_core.specs.declared.slots.Slot.TheVariants.{DecidedAs, OpenAt}
use Rattle.gz_config.specs.declared.Config.{Config}
use Rattle.gz_model.specs.Choosing.{IsChosenBy}
use Rattle.gz_model.specs.Sites.{AreSites}
use Rattle.gz_ledger.specs.Acceptors.{Acceptor, slot_votes, slot_voted, IsQuiet}

-- one of the list's elements is this one
abbrev pub IsIn : {A : Type 0} → A → List A → Type 0
IsIn x [] = ⊥
IsIn x (y ∷ ys) = (x ≡ y) ⊎ IsIn x ys

-- a row that a reply showed, and its site
pub record RowSeen : Type 0 where
  pub site : ℕ
  pub row : Acceptor

-- a write that a call sent to a site: the row on which its step was made, the step, and the row that it made
pub record Write : Type 0 where
  pub call : Name
  pub site : ℕ
  pub before : Acceptor
  pub act : Act
  pub after : Acceptor

-- whether a row of this site was shown with this vote
abbrev pub cast : List RowSeen → ℕ → BallotAt → Name → ℕ → Bool
cast [] v b x s = false
cast (e ∷ es) v b x s = ((e.site == s) && slot_votes (e.row v) b x) || cast es v b x s

-- whether a row of this site was shown with a vote of this ballot
abbrev pub cast_in : List RowSeen → ℕ → BallotAt → ℕ → Bool
cast_in [] v b s = false
cast_in (e ∷ es) v b s = ((e.site == s) && slot_voted (e.row v) b) || cast_in es v b s

-- a value is chosen at a version by the votes that were shown
abbrev pub IsChosenAt : Config → List RowSeen → ℕ → Name → Type 0
IsChosenAt cfg seen v x = IsChosenBy cfg.n cfg.qc cfg.qf (cast seen v) x

-- a row was shown with a value decided at a version
pub record IsDecidedAt (seen : List RowSeen) (v : ℕ) (x : Name) : Type 0 where
  pub entry : RowSeen
  pub found : IsIn entry seen
  pub decided : entry.row v ≡ DecidedAs x

-- a value is shown at a version: a quorum's votes in one ballot, or one decision
abbrev pub IsShownByRows : Config → List RowSeen → ℕ → Name → Type 0
IsShownByRows cfg seen v x = IsChosenAt cfg seen v x ⊎ IsDecidedAt seen v x

-- a row was shown with a vote for a value at a version
pub record IsVotedAt (seen : List RowSeen) (v : ℕ) (x : Name) : Type 0 where
  pub entry : RowSeen
  pub found : IsIn entry seen
  pub promise : BallotAt
  pub ballot : BallotAt
  pub votes : entry.row v ≡ OpenAt promise (Some (ballot, x))

-- the sites of these rows
abbrev pub sites_seen : List RowSeen → List ℕ
sites_seen [] = []
sites_seen (e ∷ es) = e.site ∷ sites_seen es

-- the rows of a classic quorum have no vote and no decision above a version
pub record IsCurrentByRows (cfg : Config) (seen : List RowSeen) (v : ℕ) : Type 0 where
  pub rows : List RowSeen
  pub sites : AreSites cfg.n (sites_seen rows)
  pub enough : cfg.qc ≤ length rows
  pub found : (e : RowSeen) → IsIn e rows → IsIn e seen
  pub quiet : (e : RowSeen) → IsIn e rows → IsQuiet e.row v

-- the step votes for this value at this version
abbrev pub VotesFor : Act → ℕ → Name → Type 0
VotesFor (VotesFast u y) v x = (u ≡ v) × (y ≡ x)
VotesFor (Promises u b) v x = ⊥
VotesFor (VotesClassic u b y) v x = (u ≡ v) × (y ≡ x)
VotesFor (Decides u y) v x = ⊥
VotesFor (Trims to y) v x = ⊥

-- the call of this name sent a vote for its own value at this version
pub record IsProposed (sent : List Write) (v : ℕ) (x : Name) : Type 0 where
  pub write : Write
  pub found : IsIn write sent
  pub own : write.call ≡ x
  pub votes : VotesFor write.act v x

-- the call sent a promise of this ballot at this version
pub record IsPromised (sent : List Write) (call : Name) (v : ℕ) (b : BallotAt) : Type 0 where
  pub write : Write
  pub found : IsIn write sent
  pub same : write.call ≡ call
  pub promises : write.act ≡ Promises v b

-- a collection of the version was sent: of all versions up to it, or up to one above
pub record IsTrimSent (sent : List Write) (v : ℕ) : Type 0 where
  pub write : Write
  pub found : IsIn write sent
  pub to : ℕ
  pub value : Name
  pub trims : write.act ≡ Trims to value
  pub within : v ≤ to
