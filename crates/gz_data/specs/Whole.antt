-- Pieces that came whole, and the object that is rebuilt from them.
use Rattle.std.specs.Prelude.{ℕ, ◌≡◌, ◌≢◌, ◌+◌, ◌<◌, ◌⊎◌, List, [], ◌∷◌, length, map, Option, Some, None, slice_index_or, Vec}
use Rattle.std.specs.declared.alloc.Global.{Global}
use Rattle.std.specs.Int.{div_ceil}
use Rattle.sha2.specs.Sha256.{sha256}
use Rattle.gz_config.specs.declared.Config.{Config}
use Rattle.gz_core.specs.Names.{Name}
use Rattle.gz_core.specs.Puts.{PutData}
use Rattle.gz_code.specs.CodeWord.{IsSplit}
use Rattle.gz_data.specs.Own.{IsRecordOfPut}
use Rattle.gz_data.specs.Records.{whole_piece}

-- a piece and the index of its fragment
abbrev pub Piece : Type 0
Piece = ℕ × List ℕ

abbrev pub no_piece : Piece
no_piece = (0, [])

-- the pieces of a list, as `join` takes them
abbrev pub pieces_of : List (ℕ × Vec ℕ Global) → List Piece
pieces_of given = map (λ (piece : ℕ × Vec ℕ Global). (piece.0, piece.1.items)) given

abbrev pub pieces_if_some : Option (ℕ × Vec ℕ Global) → List Piece
pieces_if_some None = []
pieces_if_some (Some piece) = (piece.0, piece.1.items) ∷ []

-- pieces of fragments of one value: each of one of its fragments and as wide as they are, and no two of the same
pub record ArePieces (x : PutData) (pieces : List Piece) : Type 0 where
  pub within : (j : ℕ) → j < length pieces → (slice_index_or pieces j no_piece).0 < x.k + x.m
  pub wide : (j : ℕ) → j < length pieces → length (slice_index_or pieces j no_piece).1 ≡ div_ceil x.length x.k
  pub apart : (i j : ℕ) → i < j → j < length pieces → (slice_index_or pieces i no_piece).0 ≢ (slice_index_or pieces j no_piece).0

-- a piece came whole: in the record that the put made, or in other bytes of another digest
abbrev pub CameWhole : Config → Name → List ℕ → List ℕ → PutData → Piece → Type 0
CameWhole c name key object x piece =
    (sent : List ℕ) × (bytes : List ℕ) × IsRecordOfPut c name key object piece.0 sent × ((bytes ≡ sent) ⊎ (sha256 bytes ≢ sha256 sent))
    × (whole_piece key x piece.0 bytes ≡ Some piece.1)

-- each piece is that of its index in the list
abbrev pub AreOf : List Piece → List (List ℕ) → Type 0
AreOf pieces all = (j : ℕ) → j < length pieces → (slice_index_or pieces j no_piece).1 ≡ slice_index_or all (slice_index_or pieces j no_piece).0 []

-- bytes of an object's length that are the object of which k given pieces are
pub record IsRebuilt (k m len : ℕ) (pieces : List Piece) (bytes : List ℕ) : Type 0 where
  pub whole : length pieces ≡ k
  pub long : length bytes ≡ len
  pub same : (object : List ℕ) (all : List (List ℕ)) → IsSplit k m object all → length object ≡ len → AreOf pieces all → bytes ≡ object
