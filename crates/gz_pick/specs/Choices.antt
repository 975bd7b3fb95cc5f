-- The value that a coordinator of a classic ballot may propose, from the votes of a quorum's promises.
-- (Lamport 2006, "Fast Paxos", section 2.2, "the coordinator's rule".)
use Rattle.std.specs.Prelude.{ℕ, ◌+◌, ◌<◌, Bool, true, false, ◌≡◌, nat_le, ◌==◌, ◌&&◌, if◌then◌else◌, List, [], ◌∷◌, length, Option, Some, None, count_by, position}
use Rattle.gz_core.specs.Names.{Name, BallotAt, fast, same_ballot}
use Rattle.gz_pick.specs.Evidences.{is_for, is_in, higher}
use Rattle.gz_pick.specs.declared.heard.Heard.{Heard}
use Rattle.gz_pick.specs.declared.heard.Pick.{Pick}
use Rattle.gz_pick.specs.declared.heard.Pick.TheVariants.{Forced, Free}

-- the highest ballot of the votes that were heard
abbrev pub top_of : List Heard → Option BallotAt
top_of [] = None
top_of (h ∷ hs) = higher (top_of hs) h.vote

-- how many of the sites were heard with this vote
abbrev pub heard_votes : BallotAt → Name → List Heard → ℕ
heard_votes b x heard = count_by (λ h. is_for b x h.vote) heard

-- a fast vote whose name so many were heard with that the sites not heard may complete its fast quorum
abbrev pub has_threshold : ℕ → ℕ → List Heard → Option (BallotAt × Name) → Bool
has_threshold n qf heard None = false
has_threshold n qf heard (Some vote) = nat_le (length heard + qf) (n + heard_votes vote.0 vote.1 heard)

-- the vote forces its value, where b is the highest ballot: a classic one by any vote, the fast one by the threshold
abbrev pub carries : ℕ → ℕ → List Heard → BallotAt → Heard → Bool
carries n qf heard b h = is_in b h.vote && (if same_ballot b fast then has_threshold n qf heard h.vote else true)

-- the first place that forces its value
abbrev pub choice_at : Option ℕ → Pick
choice_at None = Free
choice_at (Some at) = Forced at

abbrev pub choice_in : ℕ → ℕ → List Heard → Option BallotAt → Pick
choice_in n qf heard None = Free
choice_in n qf heard (Some b) = choice_at (position (carries n qf heard b) heard)

-- what the votes that were heard force
abbrev pub pick_of : ℕ → ℕ → List Heard → Pick
pick_of n qf heard = choice_in n qf heard (top_of heard)

-- the site was heard
abbrev pub has_heard_site : ℕ → List Heard → Bool
has_heard_site s [] = false
has_heard_site s (h ∷ hs) = if h.site == s then true else has_heard_site s hs

-- the sites differ, and each is below n
abbrev pub AreHeardSites : ℕ → List Heard → Type 0
AreHeardSites n [] = Unit {0}
AreHeardSites n (h ∷ hs) = (h.site < n) × ((has_heard_site h.site hs ≡ false) × AreHeardSites n hs)
