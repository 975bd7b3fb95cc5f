-- The value that is proposed in a classic ballot, by the rows that promise it.
use Rattle.std.specs.Prelude.{ℕ, ◌≡◌, ◌<◌, ◌⊎◌, ◌&&◌, not, if◌then◌else◌, List, length, take, slice_get, count_by, Option, Some, None}
use Rattle.std.specs.List.{All}
use Rattle.gz_core.specs.Names.{Name, BallotAt, same_ballot}
use Rattle.gz_core.specs.Rows.{RowAt}
use Rattle.gz_core.specs.Slots.{slots}
use Rattle.gz_core.specs.declared.slots.Slot.{Slot}
use Rattle.gz_core.specs.declared.slots.Slot.TheVariants.{Gone, DecidedAs, OpenAt}
use Rattle.gz_core.specs.declared.values.Value.{Value}
use Rattle.gz_config.specs.declared.Config.{Config}
use Rattle.gz_pick.specs.Evidences.{is_in}
use Rattle.gz_pick.specs.Choices.{pick_of, AreHeardSites}
use Rattle.gz_pick.specs.declared.heard.Heard.{Heard}
use Rattle.gz_pick.specs.declared.heard.Pick.TheVariants.{Forced, Free}
use Rattle.gz_round.specs.declared.run.Mark.{Mark}
use Rattle.gz_round.specs.declared.run.Run.{Run}
use Rattle.gz_round.specs.Rounds.{promises_known}
use Rattle.gz_round.specs.LookBack.{or_next, row_cast}
use Rattle.gz_round.specs.Causes.{row_value}

-- the vote of a slot that promises a ballot without a vote of it, none where it is not such a slot
abbrev pub promised_vote : BallotAt → Slot → Option (Option (BallotAt × Name))
promised_vote b Gone = None
promised_vote b (DecidedAs x) = None
promised_vote b (OpenAt promise vote) = if same_ballot promise b && not (is_in b vote) then Some vote else None

-- the same of a row that may be unknown
abbrev pub heard_vote : ℕ → BallotAt → Option RowAt → Option (Option (BallotAt × Name))
heard_vote v b None = None
heard_vote v b (Some row) = promised_vote b (slots row v)

-- the row of a site promises the ballot, with this vote
abbrev pub IsHeardIn : List (Option RowAt) → ℕ → BallotAt → Heard → Type 0
IsHeardIn rows v b h = (row : RowAt) × (slice_get rows h.site ≡ Some (Some row)) × (promised_vote b (slots row v) ≡ Some h.vote)

-- all rows below a place that promise the ballot
pub record AreHeardIn (c : Config) (rows : List (Option RowAt)) (v : ℕ) (b : BallotAt) (heard : List Heard) (at : ℕ) : Type 0 where
  pub sites : AreHeardSites c.n heard
  pub below : All (λ (h : Heard). h.site < at) heard
  pub rows_are : All (IsHeardIn rows v b) heard
  pub counted : length heard ≡ count_by (promises_known v b) (take at rows)

-- the value is the one that the votes force; where they force none, it is the call's own, or what it looked back at
abbrev pub IsProposal : Config → Run → ℕ → Option Value → List Heard → Option Value → Type 0
IsProposal c run v found heard o =
    ((pick_of c.n c.qf heard ≡ Free) × (o ≡ or_next run.own found))
    ⊎ ((at : ℕ) × (h : Heard) × (row : RowAt) × (pick_of c.n c.qf heard ≡ Forced at) × (slice_get heard at ≡ Some h) × (slice_get run.rows h.site ≡ Some (Some row)) × (x : Value) × (row_value row v ≡ Some x) × (o ≡ Some x))

-- a function that gives of each site the value that its last row has a vote for: of the row that is known, or the one that was left when it went out
abbrev pub AreLastVotes : Run → ℕ → (ℕ → Option Value) → Type 0
AreLastVotes run v f = (s : ℕ) (row : Option RowAt) (mark : Mark) → slice_get run.rows s ≡ Some row → slice_get run.marks s ≡ Some mark → f s ≡ row_cast v (or_next row mark.left)
