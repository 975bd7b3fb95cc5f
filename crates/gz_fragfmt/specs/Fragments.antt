-- Fragments of objects.
use Rattle.std.specs.Prelude.{ℕ, ◌≡◌, ◌+◌, ◌^◌, ◌<◌, ◌≤◌, List}
use Rattle.std.specs.Prelude.{length as list_length}
use Rattle.std.specs.Int.{div_ceil}
use Rattle.gz_core.specs.Keys.{IsKey}
use Rattle.gz_core.specs.Names.{Name}
use Rattle.gz_fragfmt.specs.declared.fragments.Shape.{Shape}
use Rattle.gz_fragfmt.specs.declared.fragments.Parts.{Parts}

-- a fragment: the key and the put, which of k + m pieces it is, of an object of how many bytes, and the piece
pub record FragmentAt : Type 0 where
  pub key : List ℕ
  pub name : Name
  pub index : ℕ
  pub k : ℕ
  pub m : ℕ
  pub length : ℕ
  pub piece : List ℕ

-- the rules on the numbers of a fragment, and the width of its piece
pub record IsFragmentPiece (index k m len : ℕ) (piece : List ℕ) : Type 0 where
  pub some : 1 ≤ k
  pub few : k + m ≤ 16
  pub within : index < k + m
  pub bounded : len ≤ 1048576
  pub width : list_length piece ≡ div_ceil len k

-- all rules of a fragment
pub record IsFragment (f : FragmentAt) : Type 0 where
  pub is_key : IsKey f.key
  pub from_one : 1 ≤ f.name.session
  pub session_fits : f.name.session < 2 ^ 32
  pub counted : 1 ≤ f.name.seq
  pub seq_fits : f.name.seq < 2 ^ 32
  pub is_piece : IsFragmentPiece f.index f.k f.m f.length f.piece

-- the fragment of these parts
abbrev pub fragment_of : List ℕ → Name → Shape → List ℕ → FragmentAt
fragment_of key name shape piece = record { key = key; name = name; index = shape.index; k = shape.k; m = shape.m; length = shape.length; piece = piece }

-- the parts of a record as a fragment
abbrev pub parts_at : Parts → FragmentAt
parts_at p = record { key = p.key.now; name = record { session = p.session; seq = p.seq }; index = p.index; k = p.k; m = p.m; length = p.length; piece = p.piece.now }
