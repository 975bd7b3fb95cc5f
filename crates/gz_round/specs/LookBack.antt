-- What a call that writes nothing votes for where the promises leave the value to it: it looks back at the votes that it heard.
use Rattle.std.specs.Prelude.{ℕ, zero, suc, ◌≡◌, if◌then◌else◌, List, [], ◌∷◌, Option, Some, None}
use Rattle.gz_core.specs.Names.{BallotAt}
use Rattle.gz_core.specs.Rows.{RowAt, column_in}
use Rattle.gz_core.specs.declared.rows.Column.{Column}
use Rattle.gz_core.specs.declared.rows.Column.TheVariants.{Open, Decided}
use Rattle.gz_core.specs.declared.values.Value.{Value}
use Rattle.gz_config.specs.declared.Config.{Config}
use Rattle.gz_core.specs.History.{Action}
use Rattle.gz_round.specs.Sites.{site_now, row_seen}
use Rattle.gz_round.specs.Sent.{has_promised_at}
use Rattle.gz_round.specs.Shown.{vote_value}

-- the value that a column has a vote for
abbrev pub column_cast : Option Column → Option Value
column_cast None = None
column_cast (Some (Open promise vote)) = vote_value vote
column_cast (Some (Decided value)) = None

-- the value that a row, if there is one, has a vote for at a version
abbrev pub row_cast : ℕ → Option RowAt → Option Value
row_cast v None = None
row_cast v (Some row) = column_cast (column_in row.columns v)

-- the first of two that is there
abbrev pub or_next : {A : Type 0} → Option A → Option A → Option A
or_next None next = next
or_next (Some x) next = Some x

-- what the lowest of the sites below n has that has it at all
abbrev pub lowest : {A : Type 0} → ℕ → (ℕ → Option A) → Option A
lowest zero f = None
lowest (suc n) f = or_next (lowest n f) (f n)

-- the value that the lowest site with a vote at a version votes for there, by the last row of each site, also of those that are out
abbrev pub lowest_vote : ℕ → ℕ → List Action → Option Value
lowest_vote n v ms = lowest n (λ s. row_cast v (row_seen (site_now ms s).row))

-- what had happened to a call just before it first promised a ballot at a version: all that has, where it never did
abbrev pub before_promise : ℕ → BallotAt → List Action → List Action
before_promise v b [] = []
before_promise v b (m ∷ ms) = if has_promised_at (m ∷ ms) v b then before_promise v b ms else m ∷ ms

-- a call looks back at that vote among the rows as they were then
abbrev pub IsLookedBack : Config → List Action → ℕ → BallotAt → Option Value → Type 0
IsLookedBack c ms v b found = found ≡ lowest_vote c.n v (before_promise v b ms)
