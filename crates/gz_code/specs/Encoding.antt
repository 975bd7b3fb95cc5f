-- The steps of cutting an object.
use Rattle.std.specs.Prelude.{◌≡◌, ℕ, ◌+◌, ◌*◌, ◌<◌, ◌++◌, List, [], length, slice_index, slice_index_or}
use Rattle.gz_code.specs.CodeWord.{word_at}
use Rattle.gz_code.specs.Polynomial.{value, IsPolynomial}

-- the bytes with zeros after them
pub record IsPadded (bytes : List ℕ) (width : ℕ) (piece : List ℕ) : Type 0 where
  pub long : length piece ≡ width
  pub same : (place : ℕ) → place < width → slice_index piece place ≡ slice_index bytes place

-- the first n pieces of an object
pub record AreDataPieces (object : List ℕ) (width n : ℕ) (pieces : List (List ℕ)) : Type 0 where
  pub count : length pieces ≡ n
  pub widths : (j : ℕ) → j < n → length (slice_index_or pieces j []) ≡ width
  pub bytes : (j place : ℕ) → j < n → place < width → slice_index (slice_index_or pieces j []) place ≡ slice_index object (j * width + place)

-- slices of the first pieces of an object, which lie whole in it, and then those of the rest
pub record AreDataSlices (object : List ℕ) (width whole : ℕ) (rest slices : List (List ℕ)) : Type 0 where
  pub front : List (List ℕ)
  pub are_whole : AreDataPieces object width whole front
  pub joined : slices ≡ front ++ rest

-- the numbers from one on
pub record AreNumbers (from n : ℕ) (numbers : List ℕ) : Type 0 where
  pub count : length numbers ≡ n
  pub each : (i : ℕ) → i < n → slice_index numbers i ≡ from + i

-- at each place, the parity pieces have the values at length data, length data + 1, .. of each polynomial that the data pieces pass through at 0, 1, ..
pub record AreParity (firsts : List (List ℕ)) (width m : ℕ) (parity : List (List ℕ)) : Type 0 where
  pub count : length parity ≡ m
  pub widths : (t : ℕ) → t < m → length (slice_index_or parity t []) ≡ width
  pub values : (t place : ℕ) (p : List ℕ) → t < m → place < width → IsPolynomial (length firsts) p
      → ((j : ℕ) → j < length firsts → value p j ≡ word_at firsts place j) → word_at parity place t ≡ value p (length firsts + t)
