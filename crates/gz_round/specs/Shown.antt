-- What the rows that a call heard show: that a value is chosen at a version, and that no later one has begun.
-- (Lamport 2006, "Fast Paxos": a value is chosen by the votes of a quorum of one ballot.)
use Rattle.std.specs.Prelude.{ℕ, Bool, true, ◌≡◌, ◌≢◌, ◌≤◌, ◌+◌, ◌⊎◌, ◌==◌, nat_le, List, Option, Some, None}
use Rattle.gz_core.specs.Names.{Name, BallotAt}
use Rattle.gz_core.specs.Rows.{RowAt, column_in}
use Rattle.gz_core.specs.declared.rows.Vote.{Vote}
use Rattle.gz_core.specs.declared.rows.Column.{Column}
use Rattle.gz_core.specs.declared.rows.Column.TheVariants.{Open, Decided}
use Rattle.gz_core.specs.declared.values.Value.{Value}
use Rattle.gz_core.specs.Counts.{count_sites}
use Rattle.gz_core.specs.Configurations.{need}
use Rattle.gz_config.specs.declared.Config.{Config}
use Rattle.gz_pick.specs.Looks.{row_top}
use Rattle.gz_pick.specs.Evidences.{votes_for, decides}
use Rattle.gz_core.specs.History.{Action}
use Rattle.gz_round.specs.Sites.{some_heard, WasHeard}
use Rattle.gz_round.specs.Sent.{voted_at}

-- from how many sites a row was heard that passes a test
abbrev pub heard_at : Config → (RowAt → Bool) → List Action → ℕ
heard_at c p ms = count_sites c.n (some_heard p ms)

-- rows of a quorum have votes of one ballot for the value, or a row has the version decided as it
abbrev pub IsShown : Config → List Action → ℕ → Name → Type 0
IsShown c ms v x = ((b : BallotAt) × (need c.qc c.qf b ≤ heard_at c (λ r. votes_for b x v (Some r)) ms)) ⊎ (1 ≤ heard_at c (λ r. decides x v (Some r)) ms)

-- rows of a classic quorum have no vote and no decision above the version
abbrev pub IsCurrent : Config → List Action → ℕ → Type 0
IsCurrent c ms v = c.qc ≤ heard_at c (λ r. nat_le (row_top r) v) ms

-- rows of a classic quorum were heard
abbrev pub IsQuorumHeard : Config → List Action → Type 0
IsQuorumHeard c ms = c.qc ≤ heard_at c (λ r. true) ms

-- a row with this floor was heard
abbrev pub HasFloor : Config → List Action → ℕ → Type 0
HasFloor c ms floor = 1 ≤ heard_at c (λ r. r.floor == floor) ms

-- the version is the first, or a value is shown at the one before
abbrev pub IsNext : Config → List Action → ℕ → Type 0
IsNext c ms v = (v ≡ 1) ⊎ ((u : ℕ) × (x : Name) × (v ≡ u + 1) × IsShown c ms u x)

-- work at the version has a ground: it is the next one, or a heard row has a vote or a decision there or above
abbrev pub IsGrounded : Config → List Action → ℕ → Type 0
IsGrounded c ms v = IsNext c ms v ⊎ (1 ≤ heard_at c (λ r. nat_le v (row_top r)) ms)

-- at each other version at which the call voted for the value of this name, another one is shown
abbrev pub IsClear : Config → Name → List Action → ℕ → Type 0
IsClear c x ms v = (u : ℕ) → u ≢ v → voted_at x ms u ≡ true → (y : Name) × (y ≢ x) × IsShown c ms u y

-- the value that a vote has
abbrev pub vote_value : Option Vote → Option Value
vote_value None = None
vote_value (Some vote) = Some vote.value

-- the value that a column has, as a vote or a decision
abbrev pub column_value : Option Column → Option Value
column_value None = None
column_value (Some (Open promise vote)) = vote_value vote
column_value (Some (Decided value)) = Some value

abbrev pub row_value : RowAt → ℕ → Option Value
row_value row v = column_value (column_in row.columns v)

-- a heard row has the value at the version, as a vote or a decision
abbrev pub IsValueHeard : List Action → ℕ → Value → Type 0
IsValueHeard ms v x = (s : ℕ) × (row : RowAt) × WasHeard ms s row × (row_value row v ≡ Some x)
