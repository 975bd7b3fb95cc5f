-- The one spelling of a row. Numbers are big-endian.
use Rattle.std.specs.Prelude.{ℕ, List, [], ◌∷◌, ◌++◌, length as list_length, codes, Option, Some, None}
use Rattle.std.specs.List.{flat_map}
use Rattle.std.specs.Int.{w32, w64, to_be_bytes}
use Rattle.gz_core.specs.Names.{BallotAt}
use Rattle.gz_core.specs.Puts.{PutData}
use Rattle.gz_core.specs.Rows.{RowAt}
use Rattle.gz_core.specs.declared.fragments.FragRef.{FragRef}
use Rattle.gz_core.specs.declared.rows.Vote.{Vote}
use Rattle.gz_core.specs.declared.rows.Column.{Column}
use Rattle.gz_core.specs.declared.rows.Column.TheVariants.{Open, Decided}
use Rattle.gz_core.specs.declared.values.Value.{Value}
use Rattle.gz_core.specs.declared.values.Value.TheVariants.{Tomb, Put}
use Rattle.gz_bytes.specs.Spelling.{name_bytes}

-- what each record begins with
abbrev pub magic : List ℕ
magic = codes "GZR1"

-- the site and the digest of a fragment
abbrev pub fragment_bytes : FragRef → List ℕ
fragment_bytes f = f.site ∷ f.digest

-- the length of a put's object, and how many of its fragments are data and how many parity
abbrev pub object_bytes : PutData → List ℕ
object_bytes put = to_be_bytes w32 put.length ++ put.k ∷ put.m ∷ []

abbrev pub put_bytes : PutData → List ℕ
put_bytes put = name_bytes put.name ++ (object_bytes put ++ flat_map fragment_bytes put.fragments)

abbrev pub value_bytes : Value → List ℕ
value_bytes (Tomb name) = 0 ∷ name_bytes name
value_bytes (Put put) = 1 ∷ put_bytes put

abbrev pub ballot_bytes : BallotAt → List ℕ
ballot_bytes ballot = to_be_bytes w32 ballot.round ++ to_be_bytes w32 ballot.session

abbrev pub vote_bytes : Vote → List ℕ
vote_bytes vote = ballot_bytes vote.ballot ++ value_bytes vote.value

-- a column after its version: which kind it is, and what it holds
abbrev pub open_bytes : BallotAt → Option Vote → List ℕ
open_bytes promise None = 0 ∷ ballot_bytes promise
open_bytes promise (Some vote) = 1 ∷ (ballot_bytes promise ++ vote_bytes vote)

abbrev pub body_bytes : Column → List ℕ
body_bytes (Open promise vote) = open_bytes promise vote
body_bytes (Decided value) = 2 ∷ value_bytes value

abbrev pub column_bytes : ℕ × Column → List ℕ
column_bytes c = to_be_bytes w64 c.0 ++ body_bytes c.1

-- how many columns there are, and the columns
abbrev pub columns_bytes : List (ℕ × Column) → List ℕ
columns_bytes columns = to_be_bytes w32 (list_length columns) ++ flat_map column_bytes columns

abbrev pub spelling : RowAt → List ℕ
spelling row = magic ++ (to_be_bytes w64 row.floor ++ columns_bytes row.columns)
