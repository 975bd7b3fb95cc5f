-- What a call may send, by the rows that were shown and the writes that were sent.
use Rattle.std.specs.Prelude.{ℕ, ◌≡◌, ◌≤◌, ◌+◌, suc, false, ◌⊎◌, List, length, Some, slice_get}
use Rattle.gz_core.specs.Names.{Name, BallotAt, fast, same_ballot}
use Rattle.gz_core.specs.Slots.{Act, VotesFast, Promises, VotesClassic, Decides, Trims, IsVoteOf}
use Rattle.gz_core.specs.declared.slots.Slot.TheVariants.{OpenAt}
use Rattle.gz_config.specs.declared.Config.{Config}
use Rattle.gz_pick.specs.declared.heard.Heard.{Heard}
use Rattle.gz_pick.specs.declared.heard.Pick.TheVariants.{Free}
use Rattle.gz_pick.specs.Choices.{AreHeardSites, pick_of}
use Rattle.gz_model.specs.Choosing.{Allows}
use Rattle.gz_ledger.specs.Acceptors.{HasValue}
use Rattle.gz_ledger.specs.Histories.{IsIn, RowSeen, Write, IsShownByRows, IsVotedAt, VotesFor, IsPromised}

-- a value other than the call's is shown at each other version at which the call sent a vote for its own
abbrev pub IsClearByRows : Config → List RowSeen → List Write → Name → ℕ → Type 0
IsClearByRows cfg seen sent call v =
    (w : Write) (u : ℕ) → IsIn w sent → w.call ≡ call → VotesFor w.act u call → (u ≡ v → ⊥) → (y : Name) × (y ≡ call → ⊥) × IsShownByRows cfg seen u y

-- the version is the first, or a value is shown at the one before
abbrev pub IsNextByRows : Config → List RowSeen → ℕ → Type 0
IsNextByRows cfg seen v = (v ≡ 1) ⊎ ((u : ℕ) × (v ≡ suc u) × (y : Name) × IsShownByRows cfg seen u y)

-- or a row was shown with a vote or a decision at the version or above
abbrev pub IsGroundedByRows : Config → List RowSeen → ℕ → Type 0
IsGroundedByRows cfg seen v = IsNextByRows cfg seen v ⊎ ((e : RowSeen) × (u : ℕ) × IsIn e seen × (v ≤ u) × HasValue (e.row u))

-- a vote in the fast ballot: for the call's own value
pub record MayVoteFast (cfg : Config) (seen : List RowSeen) (sent : List Write) (call : Name) (v : ℕ) (x : Name) : Type 0 where
  pub own : x ≡ call
  pub next : IsNextByRows cfg seen v
  pub clear : IsClearByRows cfg seen sent call v

-- a promise: whoever sent one of this ballot is this call, at this version
pub record MayPromiseByRows (cfg : Config) (seen : List RowSeen) (sent : List Write) (call : Name) (v : ℕ) (b : BallotAt) : Type 0 where
  pub positive : 1 ≤ v
  pub classic : same_ballot b fast ≡ false
  pub fresh : (w : Write) (u : ℕ) → IsIn w sent → w.act ≡ Promises u b → (w.call ≡ call) × (u ≡ v)
  pub grounded : IsGroundedByRows cfg seen v

-- a row was shown that promises the ballot and has no vote in it, and this is what it shows
pub record IsPromiseSeen (seen : List RowSeen) (v : ℕ) (b : BallotAt) (h : Heard) : Type 0 where
  pub entry : RowSeen
  pub found : IsIn entry seen
  pub site : entry.site ≡ h.site
  pub row : entry.row v ≡ OpenAt b h.vote
  pub none : IsVoteOf b h.vote → ⊥

-- a classic quorum's promises of the ballot were heard
pub record IsQuorumHeard (cfg : Config) (seen : List RowSeen) (v : ℕ) (b : BallotAt) (heard : List Heard) : Type 0 where
  pub sites : AreHeardSites cfg.n heard
  pub enough : cfg.qc ≤ length heard
  pub promises : (at : ℕ) (h : Heard) → slice_get heard at ≡ Some h → IsPromiseSeen seen v b h

-- a vote in a classic ballot: for what the choice rule allows over a classic quorum's promises, and where it allows
-- any value for the call's own or for one that was heard; the ballot carries one value
pub record MayVoteClassic (cfg : Config) (seen : List RowSeen) (sent : List Write) (call : Name) (v : ℕ) (b : BallotAt) (x : Name) : Type 0 where
  pub promised : IsPromised sent call v b
  pub heard : List Heard
  pub quorum : IsQuorumHeard cfg seen v b heard
  pub allowed : Allows cfg.n cfg.qf heard x
  pub source : pick_of cfg.n cfg.qf heard ≡ Free → ((x ≡ call) × IsClearByRows cfg seen sent call v) ⊎ IsVotedAt seen v x
  pub one : (w : Write) (y : Name) → IsIn w sent → w.call ≡ call → w.act ≡ VotesClassic v b y → y ≡ x

-- what a call may send: a decision and a collection where the value is shown
abbrev pub May : Config → List RowSeen → List Write → Name → Act → Type 0
May cfg seen sent call (VotesFast v x) = MayVoteFast cfg seen sent call v x
May cfg seen sent call (Promises v b) = MayPromiseByRows cfg seen sent call v b
May cfg seen sent call (VotesClassic v b x) = MayVoteClassic cfg seen sent call v b x
May cfg seen sent call (Decides v x) = IsShownByRows cfg seen v x
May cfg seen sent call (Trims to x) = IsShownByRows cfg seen (to + 1) x

-- guards over what a call heard imply those over all that was shown
abbrev pub MayMore : Type 0
MayMore = (cfg : Config) (heard seen : List RowSeen) (sent : List Write) (call : Name) (act : Act) → ((e : RowSeen) → IsIn e heard → IsIn e seen) → May cfg heard sent call act → May cfg seen sent call act
