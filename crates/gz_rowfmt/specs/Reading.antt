-- Reading a row record from left to right, with the first fault that is met and its place.
use Rattle.std.specs.Prelude.{ℕ, zero, suc, ◌≡◌, ◌≢◌, ◌+◌, ◌-◌, ◌^◌, ◌||◌, ◌&&◌, ◌==◌, Bool, false, not, List, [], ◌∷◌, length as list_length, Some, None, Result, Ok, Err, nat_lt, nat_le, if◌then◌else◌}
use Rattle.std.specs.Int.{w32, w64}
use Rattle.gz_core.specs.Names.{BallotAt, fast, is_below, same_ballot}
use Rattle.gz_core.specs.Rows.{RowAt}
use Rattle.gz_core.specs.declared.fragments.FragRef.{FragRef}
use Rattle.gz_core.specs.declared.rows.Column.{Column}
use Rattle.gz_core.specs.declared.rows.Column.TheVariants.{Open, Decided}
use Rattle.gz_core.specs.declared.values.Value.{Value}
use Rattle.gz_core.specs.declared.values.Value.TheVariants.{Tomb, Put}
use Rattle.gz_bytes.specs.declared.faults.Fault.{Fault}
use Rattle.gz_bytes.specs.declared.faults.Fault.TheVariants as faults
use Rattle.gz_bytes.specs.Steps.{◌>>=◌, told}
use Rattle.gz_bytes.specs.Fields.{bytes_at, byte_at, after_magic, number_at, name_at, length_at, data_at, parity_at}
use Rattle.gz_rowfmt.specs.declared.errors.RowError.{RowError}
use Rattle.gz_rowfmt.specs.declared.errors.RowError.TheVariants as errors
use Rattle.gz_rowfmt.specs.Spelling.{magic}

-- what a function returned, seen by view, is what reading gives, unless memory ran out
abbrev pub MayGive : {X Y : Type 0} → (X → Y) → Result X RowError → Result Y RowError → Type 0
MayGive view (Ok x) read = read ≡ Ok (view x)
MayGive view (Err e) read = e ≢ errors.NoMemory → read ≡ Err e

-- what is wrong with a field, as a fault of the record: only the fields of values break their rules so
abbrev pub fault_of : Fault → RowError
fault_of (faults.Short at) = errors.Short at
fault_of (faults.Wrong at) = errors.ValueField at

-- a field of the record
abbrev pub field : {A : Type 0} → Result A Fault → Result A RowError
field read = told fault_of read

-- ---- values

unfoldable pub site_at : ℕ → List ℕ → Result (ℕ × List ℕ) RowError
site_at at bytes = do
  site ← field (byte_at at bytes)
  if nat_le 16 site.0 then Err (errors.ValueField at) else Ok site

unfoldable pub fragment_at : ℕ → List ℕ → Result (FragRef × List ℕ) RowError
fragment_at at bytes = do
  site ← site_at at bytes
  digest ← field (bytes_at 32 (at + 1) site.1)
  Ok (record { site = site.0; digest = digest.0 }, digest.1)

unfoldable pub fragments_at : ℕ → ℕ → List ℕ → Result (List FragRef × List ℕ) RowError
fragments_at zero at bytes = Ok ([], bytes)
fragments_at (suc n) at bytes = do
  first ← fragment_at at bytes
  others ← fragments_at n (at + 33) first.1
  Ok (first.0 ∷ others.0, others.1)

unfoldable pub put_at : ℕ → List ℕ → Result (Value × List ℕ) RowError
put_at at bytes = do
  name ← field (name_at at bytes)
  len ← field (length_at (at + 8) name.1)
  k ← field (data_at (at + 12) len.1)
  m ← field (parity_at (at + 13) k.0 k.1)
  fragments ← fragments_at (k.0 + m.0) (at + 14) m.1
  Ok (Put (record { name = name.0; length = len.0; k = k.0; m = m.0; fragments = fragments.0 }), fragments.1)

unfoldable pub tomb_at : ℕ → List ℕ → Result (Value × List ℕ) RowError
tomb_at at bytes = do
  name ← field (name_at at bytes)
  Ok (Tomb name.0, name.1)

-- 0 is a tombstone, 1 a put
unfoldable pub value_at : ℕ → List ℕ → Result (Value × List ℕ) RowError
value_at at bytes = do
  kind ← field (byte_at at bytes)
  if kind.0 == 0 then tomb_at (at + 1) kind.1 else (if kind.0 == 1 then put_at (at + 1) kind.1 else Err (errors.ValueField at))

-- ---- columns

-- a version stands above the one before; where the floor was raised, the first stands right above it
unfoldable pub version_at : Bool → ℕ → ℕ → List ℕ → Result (ℕ × List ℕ) RowError
version_at raised before at bytes = do
  version ← field (number_at w64 at bytes)
  if nat_le version.0 before || nat_le (2 ^ 63) version.0 then Err (errors.Order at) else (if raised && not (version.0 == before + 1) then Err (errors.Floor at) else Ok version)

-- 0 is open without a vote, 1 open with a vote, 2 decided, as the first column must be where the floor was raised
unfoldable pub kind_at : Bool → ℕ → List ℕ → Result (ℕ × List ℕ) RowError
kind_at raised at bytes = do
  kind ← field (byte_at at bytes)
  if nat_lt 2 kind.0 then Err (errors.Kind at) else (if raised && not (kind.0 == 2) then Err (errors.Floor at) else Ok kind)

-- both numbers of a ballot are 0, or none is: one field, which is whole before its numbers are tried
unfoldable pub ballot_at : ℕ → List ℕ → Result (BallotAt × List ℕ) RowError
ballot_at at bytes = do
  round ← field (number_at w32 at bytes)
  session ← field (number_at w32 at round.1)
  if ((round.0 == 0) && not (session.0 == 0)) || (not (round.0 == 0) && (session.0 == 0)) then Err (errors.Ballot at) else Ok (record { round = round.0; session = session.0 }, session.1)

unfoldable pub open_at : ℕ → List ℕ → Result (Column × List ℕ) RowError
open_at at bytes = do
  promise ← ballot_at at bytes
  if same_ballot promise.0 fast then Err (errors.Ballot at) else Ok (Open promise.0 None, promise.1)

-- the ballot of a vote, at or below the promise
unfoldable pub vote_ballot_at : BallotAt → ℕ → List ℕ → Result (BallotAt × List ℕ) RowError
vote_ballot_at promise at bytes = do
  ballot ← ballot_at at bytes
  if is_below promise ballot.0 then Err (errors.Ballot at) else Ok ballot

unfoldable pub voted_at : ℕ → List ℕ → Result (Column × List ℕ) RowError
voted_at at bytes = do
  promise ← ballot_at at bytes
  ballot ← vote_ballot_at promise.0 (at + 8) promise.1
  value ← value_at (at + 16) ballot.1
  Ok (Open promise.0 (Some (record { ballot = ballot.0; value = value.0 })), value.1)

unfoldable pub decided_at : ℕ → List ℕ → Result (Column × List ℕ) RowError
decided_at at bytes = do
  value ← value_at at bytes
  Ok (Decided value.0, value.1)

abbrev pub body_at : ℕ → ℕ → List ℕ → Result (Column × List ℕ) RowError
body_at kind at bytes = if kind == 0 then open_at at bytes else (if kind == 1 then voted_at at bytes else decided_at at bytes)

unfoldable pub column_at : Bool → ℕ → ℕ → List ℕ → Result ((ℕ × Column) × List ℕ) RowError
column_at raised before at bytes = do
  version ← version_at raised before at bytes
  kind ← kind_at raised (at + 8) version.1
  body ← body_at kind.0 (at + 9) kind.1
  Ok ((version.0, body.0), body.1)

-- so many columns of a record that ends at a place
unfoldable pub columns_at : ℕ → Bool → ℕ → ℕ → List ℕ → Result (List (ℕ × Column) × List ℕ) RowError
columns_at zero raised before end bytes = Ok ([], bytes)
columns_at (suc n) raised before end bytes = do
  first ← column_at raised before (end - list_length bytes) bytes
  others ← columns_at n false first.0.0 end first.1
  Ok (first.0 ∷ others.0, others.1)

-- ---- rows

-- the bytes after the magic
unfoldable pub magic_at : List ℕ → Result (List ℕ) RowError
magic_at bytes = after_magic fault_of magic (errors.Magic 0) bytes

unfoldable pub floor_at : List ℕ → Result (ℕ × List ℕ) RowError
floor_at bytes = do
  floor ← field (number_at w64 4 bytes)
  if nat_le (2 ^ 63) floor.0 then Err (errors.Floor 4) else Ok floor

-- the number of columns: at least one where the floor was raised
unfoldable pub count_at : ℕ → List ℕ → Result (ℕ × List ℕ) RowError
count_at floor bytes = do
  count ← field (number_at w32 12 bytes)
  if nat_lt 0 floor && (count.0 == 0) then Err (errors.Floor 12) else Ok count

unfoldable pub row_in : List ℕ → Result RowAt RowError
row_in bytes = do
  start ← magic_at bytes
  floor ← floor_at start
  count ← count_at floor.0 floor.1
  columns ← columns_at count.0 (nat_lt 0 floor.0) floor.0 (list_length bytes) count.1
  if list_length columns.1 == 0 then Ok (record { floor = floor.0; columns = columns.0 }) else Err (errors.Trailing (list_length bytes - list_length columns.1))
