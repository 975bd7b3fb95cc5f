-- The lines of a row, and the line of a fragment.
use Rattle.std.specs.Prelude.{ℕ, List, ◌++◌, flat_map, Option, Some, None, decimal, codes}
use Rattle.hex.specs.Hex.{encode_lower}
use Rattle.gz_core.specs.Names.{BallotAt}
use Rattle.gz_core.specs.Puts.{PutData}
use Rattle.gz_core.specs.Rows.{RowAt}
use Rattle.gz_core.specs.declared.fragments.FragRef.{FragRef}
use Rattle.gz_core.specs.declared.rows.Vote.{Vote}
use Rattle.gz_core.specs.declared.rows.Column.{Column}
use Rattle.gz_core.specs.declared.rows.Column.TheVariants.{Open, Decided}
use Rattle.gz_core.specs.declared.values.Value.{Value}
use Rattle.gz_core.specs.declared.values.Value.TheVariants.{Tomb, Put}
use Rattle.gz_fragfmt.specs.Fragments.{FragmentAt}
use Rattle.gz_history.specs.Log.{name_text, bytes_text}

-- a word and a number after it
abbrev pub counted : List ℕ → ℕ → List ℕ
counted word n = word ++ decimal n

-- a ballot: its round and its session, with a point between
abbrev pub ballot_text : BallotAt → List ℕ
ballot_text ballot = decimal ballot.round ++ counted (codes ".") ballot.session

-- a fragment of a put: its site, and its digest in lower-case hexadecimal
abbrev pub fragment_ref_text : FragRef → List ℕ
fragment_ref_text f = codes " " ++ decimal f.site ++ codes ":" ++ encode_lower f.digest

-- of what a put writes the name, the object's length, and how many fragments are data and how many parity
abbrev pub object_text : PutData → List ℕ
object_text put = codes "put " ++ name_text put.name ++ counted (codes " ") put.length ++ counted (codes " ") put.k ++ counted (codes "+") put.m

-- a tombstone, or what a put writes
abbrev pub value_text : Value → List ℕ
value_text (Tomb name) = codes "tomb " ++ name_text name
value_text (Put put) = object_text put ++ flat_map fragment_ref_text put.fragments

-- a vote that stands
abbrev pub vote_text : Vote → List ℕ
vote_text vote = codes " vote " ++ ballot_text vote.ballot ++ codes " " ++ value_text vote.value

-- the ballot that is promised, and the vote that stands where there is one
abbrev pub open_text : BallotAt → Option Vote → List ℕ
open_text promise None = codes " open " ++ ballot_text promise
open_text promise (Some vote) = codes " open " ++ ballot_text promise ++ vote_text vote

-- what a column holds
abbrev pub column_text : Column → List ℕ
column_text (Open promise vote) = open_text promise vote
column_text (Decided value) = codes " decided " ++ value_text value

-- the line of a column
abbrev pub column_line : ℕ × Column → List ℕ
column_line c = decimal c.0 ++ column_text c.1 ++ codes "\n"

-- the line of the floor
abbrev pub floor_line : ℕ → List ℕ
floor_line floor = codes "floor " ++ decimal floor ++ codes "\n"

-- the lines of a row
abbrev pub row_text : RowAt → List ℕ
row_text row = floor_line row.floor ++ flat_map column_line row.columns

-- the numbers of a fragment: which one it is, of how many data and parity pieces, and of an object of how many bytes
abbrev pub shape_text : ℕ → ℕ → ℕ → ℕ → List ℕ
shape_text index k m length = counted (codes " index ") index ++ counted (codes " k ") k ++ counted (codes " m ") m ++ counted (codes " length ") length

-- the line of a fragment, with a dash for a piece of no bytes
abbrev pub fragment_text : FragmentAt → List ℕ
fragment_text f =
    codes "key " ++ f.key ++ codes " put " ++ name_text f.name ++ shape_text f.index f.k f.m f.length ++ codes " piece " ++ bytes_text f.piece ++ codes "\n"
