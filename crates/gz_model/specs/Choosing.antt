-- Votes at one version of an object, what makes a value chosen, choosable or safe, and what a coordinator may
-- propose. (Lamport 2006, "Fast Paxos", sections 2.2 and 3.)
use Rattle.std.specs.Prelude.{ℕ, ◌≡◌, ◌<◌, ◌≤◌, ◌⊎◌, Bool, true, false, List, length, Some, slice_get}
use Rattle.gz_core.specs.Names.{Name, BallotAt, fast, is_below, same_ballot}
use Rattle.gz_core.specs.Configurations.{need, AreQuorums}
use Rattle.gz_core.specs.Counts.{count_sites}
use Rattle.gz_pick.specs.declared.heard.Heard.{Heard}
use Rattle.gz_pick.specs.declared.heard.Pick.TheVariants.{Forced, Free}
use Rattle.gz_pick.specs.Choices.{AreHeardSites, pick_of, top_of, carries}

-- whether a site voted for a value in a ballot
abbrev pub Votes : Type 0
Votes = BallotAt → Name → ℕ → Bool

-- a value is chosen where in some ballot a quorum of the ballot's kind voted for it
abbrev pub IsChosenBy : ℕ → ℕ → ℕ → Votes → Name → Type 0
IsChosenBy n qc qf vote x = (b : BallotAt) × (need qc qf b ≤ count_sites n (vote b x))

-- a value is choosable in a ballot where a quorum of the ballot's kind stands for it: voted for it, or may yet
abbrev pub IsChoosable : ℕ → ℕ → ℕ → Votes → BallotAt → Name → Type 0
IsChoosable n qc qf stand b x = need qc qf b ≤ count_sites n (stand b x)

-- a value is safe in a ballot where no other value is choosable in a lower one
abbrev pub IsSafe : ℕ → ℕ → ℕ → Votes → BallotAt → Name → Type 0
IsSafe n qc qf stand b x = (c : BallotAt) (y : Name) → is_below c b ≡ true → IsChoosable n qc qf stand c y → y ≡ x

-- no site votes for two values in one ballot
abbrev pub VotesOnce : Votes → Type 0
VotesOnce vote = (b : BallotAt) (x y : Name) (s : ℕ) → vote b x s ≡ true → vote b y s ≡ true → x ≡ y

-- a classic ballot carries one value
abbrev pub CarriesOne : Votes → Type 0
CarriesOne vote = (b : BallotAt) (x y : Name) (s t : ℕ) → same_ballot b fast ≡ false → vote b x s ≡ true → vote b y t ≡ true → x ≡ y

-- every vote of a classic ballot is for a value that is safe there
abbrev pub AreSafe : ℕ → ℕ → ℕ → Votes → Votes → Type 0
AreSafe n qc qf vote stand = (b : BallotAt) (x : Name) (s : ℕ) → same_ballot b fast ≡ false → vote b x s ≡ true → IsSafe n qc qf stand b x

-- what a site's promise of a ballot shows: its highest vote below the ballot, and that it casts none there any more
pub record ShowsBelow (vote stand : Votes) (b : BallotAt) (h : Heard) : Type 0 where
  pub was : (v : BallotAt × Name) → h.vote ≡ Some v → (vote v.0 v.1 h.site ≡ true) × (is_below v.0 b ≡ true)
  pub top : (c : BallotAt) (y : Name) → is_below c b ≡ true → vote c y h.site ≡ true → (v : BallotAt × Name) × (h.vote ≡ Some v) × (is_below v.0 c ≡ false)
  pub shut : (c : BallotAt) (y : Name) → is_below c b ≡ true → stand c y h.site ≡ true → vote c y h.site ≡ true

-- at this place a value is heard, with its ballot
pub record IsHeardAt (heard : List Heard) (at : ℕ) (b : BallotAt) (x : Name) : Type 0 where
  pub site : Heard
  pub is : slice_get heard at ≡ Some site
  pub vote : site.vote ≡ Some (b, x)

-- two votes of one classic ballot that were heard are for one value
abbrev pub HeardOne : List Heard → Type 0
HeardOne heard = (b : BallotAt) (x y : Name) (i j : ℕ) → same_ballot b fast ≡ false → IsHeardAt heard i b x → IsHeardAt heard j b y → x ≡ y

-- a vote of the highest ballot heard forces its value: in the fast ballot where a fast quorum may have chosen it
pub record IsForced (n qf : ℕ) (heard : List Heard) (x : Name) : Type 0 where
  pub ballot : BallotAt
  pub highest : top_of heard ≡ Some ballot
  pub site : Heard
  pub at : ℕ
  pub is : slice_get heard at ≡ Some site
  pub carries : carries n qf heard ballot site ≡ true
  pub vote : site.vote ≡ Some (ballot, x)

-- the rule leaves the coordinator free, or forces this value
abbrev pub Allows : ℕ → ℕ → List Heard → Name → Type 0
Allows n qf heard x = (pick_of n qf heard ≡ Free) ⊎ ((at : ℕ) × (pick_of n qf heard ≡ Forced at) × (b : BallotAt) × IsHeardAt heard at b x)

-- what is known when a coordinator has heard a classic quorum's promises of its ballot
pub record IsRecovered (n qc qf : ℕ) (vote stand : Votes) (b : BallotAt) (heard : List Heard) : Type 0 where
  pub quorums : AreQuorums n qc qf
  pub sites : AreHeardSites n heard
  pub enough : qc ≤ length heard
  pub once : VotesOnce vote
  pub one : CarriesOne vote
  pub safe : AreSafe n qc qf vote stand
  pub told : (at : ℕ) (h : Heard) → slice_get heard at ≡ Some h → ShowsBelow vote stand b h

-- two sets of sites have a common site
abbrev pub Meet : ℕ → (ℕ → Bool) → (ℕ → Bool) → Type 0
Meet n p q = (s : ℕ) × (s < n) × (p s ≡ true) × (q s ≡ true)

-- two classic quorums meet
abbrev pub ClassicQuorumsMeet : Type 0
ClassicQuorumsMeet = (n qc qf : ℕ) (p q : ℕ → Bool) → AreQuorums n qc qf → qc ≤ count_sites n p → qc ≤ count_sites n q → Meet n p q

-- a classic quorum and a fast one meet
abbrev pub ClassicAndFastMeet : Type 0
ClassicAndFastMeet = (n qc qf : ℕ) (p q : ℕ → Bool) → AreQuorums n qc qf → qc ≤ count_sites n p → qf ≤ count_sites n q → Meet n p q

-- a classic quorum and two fast ones have a common site
abbrev pub ClassicAndTwoFastMeet : Type 0
ClassicAndTwoFastMeet = (n qc qf : ℕ) (p q r : ℕ → Bool) → AreQuorums n qc qf → qc ≤ count_sites n p → qf ≤ count_sites n q → qf ≤ count_sites n r → (s : ℕ) × (s < n) × (p s ≡ true) × (q s ≡ true) × (r s ≡ true)

-- where a classic quorum was heard, at most one value is forced
abbrev pub OneIsForced : Type 0
OneIsForced = (n qc qf : ℕ) (heard : List Heard) (x y : Name) → AreQuorums n qc qf → qc ≤ length heard → HeardOne heard → IsForced n qf heard x → IsForced n qf heard y → x ≡ y

-- the rule forces a value exactly where a vote that was heard does
abbrev pub ForcesWhatIsForced : Type 0
ForcesWhatIsForced = (n qf : ℕ) (heard : List Heard) →
    ((at : ℕ) → pick_of n qf heard ≡ Forced at → (x : Name) × ((b : BallotAt) × IsHeardAt heard at b x) × IsForced n qf heard x)
    × (pick_of n qf heard ≡ Free → (x : Name) → IsForced n qf heard x → ⊥)

-- what the rule allows in a ballot is safe there
abbrev pub AllowedIsSafe : Type 0
AllowedIsSafe = (n qc qf : ℕ) (vote stand : Votes) (b : BallotAt) (heard : List Heard) (x : Name) → IsRecovered n qc qf vote stand b heard → Allows n qf heard x → IsSafe n qc qf stand b x

-- what is known of the votes of one version
pub record AreGood (n qc qf : ℕ) (vote stand : Votes) : Type 0 where
  pub quorums : AreQuorums n qc qf
  pub once : VotesOnce vote
  pub one : CarriesOne vote
  pub safe : AreSafe n qc qf vote stand
  pub voted : (b : BallotAt) (x : Name) (s : ℕ) → vote b x s ≡ true → stand b x s ≡ true

-- two chosen values are the same
abbrev pub OneIsChosen : Type 0
OneIsChosen = (n qc qf : ℕ) (vote stand : Votes) (x y : Name) → AreGood n qc qf vote stand → IsChosenBy n qc qf vote x → IsChosenBy n qc qf vote y → x ≡ y
