-- When known rows show that a value is chosen at a version, and which site's row shows it first.
-- (Lamport 2006, "Fast Paxos", section 2.2: a value is chosen where a quorum of its ballot votes for it.)
use Rattle.std.specs.Prelude.{ℕ, ◌≡◌, ◌≤◌, Bool, false, ◌&&◌, nat_le, is_some, if◌then◌else◌, ◌⊎◌, List, [], ◌∷◌, Option, Some, None, slice_get, count_by, position}
use Rattle.gz_core.specs.Names.{Name, BallotAt, fast, is_below, same_ballot, same_name}
use Rattle.gz_core.specs.Counts.{count_sites}
use Rattle.gz_core.specs.Configurations.{need}
use Rattle.gz_core.specs.Rows.{RowAt}
use Rattle.gz_pick.specs.Looks.{row_vote, row_decision, row_name}

-- the vote at a version of a row that may be unknown
abbrev pub vote_of : Option RowAt → ℕ → Option (BallotAt × Name)
vote_of None v = None
vote_of (Some row) v = row_vote row v

-- the decision at a version of a row that may be unknown
abbrev pub decision_of : Option RowAt → ℕ → Option Name
decision_of None v = None
decision_of (Some row) v = row_decision row v

-- this vote is one of ballot b for x
abbrev pub is_for : BallotAt → Name → Option (BallotAt × Name) → Bool
is_for b x None = false
is_for b x (Some vote) = same_ballot vote.0 b && same_name vote.1 x

-- a name that may be absent is x
abbrev pub is_named : Name → Option Name → Bool
is_named x None = false
is_named x (Some y) = same_name y x

-- the row has a vote of ballot b for x at the version
abbrev pub votes_for : BallotAt → Name → ℕ → Option RowAt → Bool
votes_for b x v row = is_for b x (vote_of row v)

-- the row has x decided at the version
abbrev pub decides : Name → ℕ → Option RowAt → Bool
decides x v row = is_named x (decision_of row v)

-- so many of the rows have this vote
abbrev pub votes_in : BallotAt → Name → ℕ → List (Option RowAt) → ℕ
votes_in b x v rows = count_by (votes_for b x v) rows

-- a vote that as many rows have as its ballot needs
abbrev pub is_chosen : ℕ → ℕ → List (Option RowAt) → ℕ → Option (BallotAt × Name) → Bool
is_chosen qc qf rows v None = false
is_chosen qc qf rows v (Some vote) = nat_le (need qc qf vote.0) (votes_in vote.0 vote.1 v rows)

-- the row has the version decided
abbrev pub has_decided : ℕ → Option RowAt → Bool
has_decided v row = is_some (decision_of row v)

-- a vote of this ballot
abbrev pub is_in : BallotAt → Option (BallotAt × Name) → Bool
is_in b None = false
is_in b (Some vote) = same_ballot vote.0 b

-- the row's vote is one of ballot b that is chosen
abbrev pub shows_in : ℕ → ℕ → List (Option RowAt) → ℕ → BallotAt → Option RowAt → Bool
shows_in qc qf rows v b row = is_in b (vote_of row v) && is_chosen qc qf rows v (vote_of row v)

-- the higher of a ballot, where there is one, and another
abbrev pub higher_ballot : Option BallotAt → BallotAt → BallotAt
higher_ballot None b = b
higher_ballot (Some top) b = if is_below top b then b else top

-- the higher of a ballot, where there is one, and a vote's
abbrev pub higher : Option BallotAt → Option (BallotAt × Name) → Option BallotAt
higher top None = top
higher top (Some vote) = Some (higher_ballot top vote.0)

-- the highest ballot of these votes that pass a test
abbrev pub top_ballot : (Option (BallotAt × Name) → Bool) → List (Option (BallotAt × Name)) → Option BallotAt
top_ballot passes [] = None
top_ballot passes (vote ∷ votes) = if passes vote then higher (top_ballot passes votes) vote else top_ballot passes votes

-- the votes of the rows at a version
abbrev pub votes_at : ℕ → List (Option RowAt) → List (Option (BallotAt × Name))
votes_at v [] = []
votes_at v (row ∷ rows) = vote_of row v ∷ votes_at v rows

-- the first row with a chosen vote of this ballot
abbrev pub first_in : ℕ → ℕ → List (Option RowAt) → ℕ → Option BallotAt → Option ℕ
first_in qc qf rows v None = None
first_in qc qf rows v (Some b) = position (shows_in qc qf rows v b) rows

-- this one, or else the other
abbrev pub or_else : Option ℕ → Option ℕ → Option ℕ
or_else None other = other
or_else (Some site) other = Some site

-- the lowest site with the version decided; where none has, the lowest with a fast vote that is chosen; where
-- none has, the lowest with a chosen vote of the highest ballot that has one
abbrev pub evidence_of : ℕ → ℕ → List (Option RowAt) → ℕ → Option ℕ
evidence_of qc qf rows v =
    or_else (position (has_decided v) rows)
    (or_else (first_in qc qf rows v (Some fast))
    (first_in qc qf rows v (top_ballot (is_chosen qc qf rows v) (votes_at v rows))))

-- the row of a site, in a list with a place for each site
abbrev pub row_at : List (Option RowAt) → ℕ → Option RowAt
row_at rows s = row_in (slice_get rows s)
  where
    row_in : Option (Option RowAt) → Option RowAt
    row_in None = None
    row_in (Some row) = row

-- x is known to be chosen at v: some ballot has as many votes for it as it needs, or a row has it decided
abbrev pub IsEvident : ℕ → ℕ → ℕ → (ℕ → Option RowAt) → ℕ → Name → Type 0
IsEvident n qc qf rows v x =
    ((b : BallotAt) × (need qc qf b ≤ count_sites n (λ s. votes_for b x v (rows s))))
    ⊎ (1 ≤ count_sites n (λ s. decides x v (rows s)))

-- what the rows show: the site's row names a value that is known to be chosen, and without a site none is
abbrev pub IsEvidence : ℕ → ℕ → ℕ → List (Option RowAt) → ℕ → Option ℕ → Type 0
IsEvidence n qc qf rows v None = (x : Name) → IsEvident n qc qf (row_at rows) v x → ⊥
IsEvidence n qc qf rows v (Some s) =
    (row : RowAt) × (x : Name) × (row_at rows s ≡ Some row) × (row_name row v ≡ Some x) × IsEvident n qc qf (row_at rows) v x
