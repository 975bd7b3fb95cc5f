-- The rows that have a record.
use Rattle.std.specs.Prelude.{ℕ, ◌≡◌, ◌^◌, ◌<◌, ◌≤◌, ◌⊎◌, length as list_length, get_or, IfSome}
use Rattle.std.specs.List.{AllByRecursion}
use Rattle.gz_core.specs.Names.{BallotAt}
use Rattle.gz_core.specs.Puts.{PutData, IsPutData}
use Rattle.gz_core.specs.Rows.{RowAt, IsRow}
use Rattle.gz_core.specs.declared.fragments.FragRef.{FragRef}
use Rattle.gz_core.specs.declared.rows.Vote.{Vote}
use Rattle.gz_core.specs.declared.rows.Column.{Column}
use Rattle.gz_core.specs.declared.rows.Column.TheVariants.{Open, Decided}
use Rattle.gz_core.specs.declared.values.Value.{Value}
use Rattle.gz_core.specs.declared.values.Value.TheVariants.{Tomb, Put}
use Rattle.gz_bytes.specs.Spelling.{IsName}

-- a fragment lies at one of 16 sites, and its digest has 32 bytes
pub record IsFragRef (f : FragRef) : Type 0 where
  pub site : f.site < 16
  pub wide : list_length f.digest ≡ 32
  pub bytes : (i : ℕ) → get_or f.digest i 0 < 256

pub record IsPut (put : PutData) : Type 0 where
  pub is_name : IsName put.name
  pub is_data : IsPutData put
  pub fragments : AllByRecursion IsFragRef put.fragments

abbrev pub IsValue : Value → Type 0
IsValue (Tomb name) = IsName name
IsValue (Put put) = IsPut put

-- the fast ballot, or a classic one
pub record IsBallot (ballot : BallotAt) : Type 0 where
  pub kind : ((ballot.round ≡ 0) × (ballot.session ≡ 0)) ⊎ ((1 ≤ ballot.round) × (1 ≤ ballot.session))
  pub round_fits : ballot.round < 2 ^ 32
  pub session_fits : ballot.session < 2 ^ 32

abbrev pub FitsVote : Vote → Type 0
FitsVote vote = IsBallot vote.ballot × IsValue vote.value

abbrev pub FitsBody : Column → Type 0
FitsBody (Open promise vote) = IsBallot promise × IfSome vote FitsVote
FitsBody (Decided value) = IsValue value

-- the numbers of a column fit their fields
abbrev pub FitsColumn : ℕ × Column → Type 0
FitsColumn c = (c.0 < 2 ^ 63) × FitsBody c.1

-- the rule of rows holds, and each number fits its field
pub record HasRecord (row : RowAt) : Type 0 where
  pub is_row : IsRow row
  pub floor_fits : row.floor < 2 ^ 63
  pub count_fits : list_length row.columns < 2 ^ 32
  pub columns_fit : AllByRecursion FitsColumn row.columns
