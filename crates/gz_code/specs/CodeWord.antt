-- Code words of Reed and Solomon, and the pieces of an object.
use Rattle.std.specs.Prelude.{◌≡◌, ℕ, ◌+◌, ◌*◌, ◌<◌, List, [], length, slice_index, slice_index_or}
use Rattle.std.specs.Int.{div_ceil}
use Rattle.gz_code.specs.Polynomial.{value, IsPolynomial}

-- the first n bytes of a word are the values at 0, 1, .. of one polynomial of degree below k
pub record IsCodeWord (k n : ℕ) (word : ℕ → ℕ) : Type 0 where
  pub polynomial : List ℕ
  pub degree : IsPolynomial k polynomial
  pub values : (i : ℕ) → i < n → word i ≡ value polynomial i

-- the bytes of all pieces at one place, by the piece's index
abbrev pub word_at : List (List ℕ) → ℕ → ℕ → ℕ
word_at pieces place i = slice_index (slice_index_or pieces i []) place

-- how many bytes a piece has: an object of so many bytes is cut into k
abbrev pub piece_width : ℕ → ℕ → ℕ
piece_width k len = div_ceil len k

-- The k + m pieces of an object, all of one width: the first k are the object with zeros after it (`slice_index` is 0 past
-- the end), and at each place the bytes of all pieces are a code word.
pub record IsSplit (k m : ℕ) (object : List ℕ) (pieces : List (List ℕ)) : Type 0 where
  pub count : length pieces ≡ k + m
  pub widths : (i : ℕ) → i < k + m → length (slice_index_or pieces i []) ≡ piece_width k (length object)
  pub object_first : (j place : ℕ) → j < k → place < piece_width k (length object) → word_at pieces place j ≡ slice_index object (j * piece_width k (length object) + place)
  pub code_words : (place : ℕ) → place < piece_width k (length object) → IsCodeWord k (k + m) (word_at pieces place)
