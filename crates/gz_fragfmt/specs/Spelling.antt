-- The one spelling of a fragment. Numbers are big-endian.
use Rattle.std.specs.Prelude.{ℕ, List, ◌∷◌, ◌++◌, codes}
use Rattle.std.specs.Prelude.{length as list_length}
use Rattle.std.specs.Int.{w32, to_be_bytes}
use Rattle.gz_bytes.specs.Spelling.{name_bytes}
use Rattle.gz_fragfmt.specs.Fragments.{FragmentAt}

-- what each record begins with
abbrev pub magic : List ℕ
magic = codes "GZF1"

-- one byte of length, and that many bytes
abbrev pub string : List ℕ → List ℕ
string key = list_length key ∷ key

-- the index, the numbers of data and parity pieces, and the object's length
abbrev pub shape_bytes : ℕ → ℕ → ℕ → ℕ → List ℕ
shape_bytes index k m len = index ∷ k ∷ m ∷ to_be_bytes w32 len

-- all that stands before the piece
abbrev pub header : FragmentAt → List ℕ
header f = magic ++ (string f.key ++ (name_bytes f.name ++ shape_bytes f.index f.k f.m f.length))

abbrev pub spelling : FragmentAt → List ℕ
spelling f = header f ++ f.piece
