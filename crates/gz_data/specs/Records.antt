-- Bytes that came for a fragment: whether they are its record, and the piece that they carry.
use Rattle.std.specs.Prelude.{ℕ, ◌≡◌, ◌+◌, ◌&&◌, ◌==◌, Bool, List, [], take, drop, length, Option, Some, None, nat_eq, if◌then◌else◌}
use Rattle.std.specs.Cmp.Lexicographic.{pointwise}
use Rattle.std.specs.Int.{div_ceil}
use Rattle.sha2.specs.Sha256.{sha256}
use Rattle.gz_core.specs.Puts.{PutData}
use Rattle.gz_fragfmt.specs.Fragments.{FragmentAt, IsFragment}
use Rattle.gz_fragfmt.specs.Spelling.{header}
use Rattle.gz_data.specs.Own.{digest_at}

-- whether the bytes are the record of this fragment, whatever its piece is
abbrev pub is_record : FragmentAt → List ℕ → Bool
is_record f bytes = pointwise nat_eq (take (length (header f)) bytes) (header f) && (length bytes == length (header f) + div_ceil f.length f.k)

-- the piece that the record of this fragment carries
unfoldable pub record_piece : FragmentAt → List ℕ → Option (List ℕ)
record_piece f bytes = if is_record f bytes then Some (drop (length (header f)) bytes) else None

-- the same where the record has this digest
unfoldable pub checked_piece : FragmentAt → List ℕ → List ℕ → Option (List ℕ)
checked_piece f digest bytes = if is_record f bytes && pointwise nat_eq (sha256 bytes) digest then Some (drop (length (header f)) bytes) else None

-- the i-th fragment of a value, but for its piece
abbrev pub fragment_at : List ℕ → PutData → ℕ → FragmentAt
fragment_at key x i = record { key = key; name = x.name; index = i; k = x.k; m = x.m; length = x.length; piece = [] }

-- the piece of bytes that came for the i-th fragment of a value, where they are whole: its record, with the digest that the value names
abbrev pub whole_piece : List ℕ → PutData → ℕ → List ℕ → Option (List ℕ)
whole_piece key x i bytes = checked_piece (fragment_at key x i) (digest_at x i) bytes

-- whether two fragments have the same parts but for their pieces
abbrev pub same_header : FragmentAt → FragmentAt → Bool
same_header a b =
    pointwise nat_eq a.key b.key && (a.name.session == b.name.session) && (a.name.seq == b.name.seq)
    && (a.index == b.index) && (a.k == b.k) && (a.m == b.m) && (a.length == b.length)

-- with any piece of its width this is a fragment
abbrev pub IsFragmentByPiece : FragmentAt → Type 0
IsFragmentByPiece f = (piece : List ℕ) → length piece ≡ div_ceil f.length f.k → IsFragment (record f { piece = piece })
