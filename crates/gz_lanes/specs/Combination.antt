-- Sums of products in the field.
use Rattle.std.specs.Prelude.{◌≡◌, ℕ, zero, suc, ◌+◌, ◌<◌, ◌≤◌, List, [], length, map, take, slice_index, slice_index_or, bit_xor}
use Rattle.std.specs.Borrow.{Bor}
use Rattle.gz_field.specs.Field.{product}
use Rattle.gz_lanes.specs.Lanes.{HasLanes}

-- the sum, over the j below n, of the products of c j and v j
unfoldable pub combination : ℕ → (ℕ → ℕ) → (ℕ → ℕ) → ℕ
combination zero c v = 0
combination (suc n) c v = bit_xor (combination n c v) (product (c n) (v n))

-- the sum of c j over the j below n
unfoldable pub sum_below : ℕ → (ℕ → ℕ) → ℕ
sum_below zero c = 0
sum_below (suc n) c = bit_xor (sum_below n c) (c n)

-- a combination with the coefficients from j on as if each v were v 0
abbrev pub combined_below : ℕ → List ℕ → (ℕ → ℕ) → ℕ
combined_below j coefficients v =
    bit_xor (combination j (slice_index coefficients) v) (product (bit_xor (sum_below (length coefficients) (slice_index coefficients)) (sum_below j (slice_index coefficients))) (v 0))

-- the bytes that each of a list of slices holds
abbrev pub contents : List (Bor (List ℕ)) → List (List ℕ)
contents sources = map (λ source. source.now) sources

-- the bytes at one place of each of a list of lists, by the list's place
abbrev pub column : List (List ℕ) → ℕ → ℕ → ℕ
column rows place j = slice_index (slice_index_or rows j []) place

-- at each place below n, the sum of the bytes that the sources hold there, each times its coefficient
abbrev pub IsCombined : List ℕ → List (List ℕ) → List ℕ → ℕ → Type 0
IsCombined coefficients sources sum n =
    (place : ℕ) → place < n → slice_index sum place ≡ combination (length coefficients) (slice_index coefficients) (column sources place)

-- at each place below n, new has the sum of what old has and of the source's byte times the coefficient
pub record HasAdded (coefficient : ℕ) (source old new : List ℕ) (n : ℕ) : Type 0 where
  pub below : (place : ℕ) → place < n → slice_index new place ≡ bit_xor (slice_index old place) (product coefficient (slice_index source place))
  pub rest : (place : ℕ) → n ≤ place → slice_index new place ≡ slice_index old place

-- the lanes of a vector are the combinations at 16 places from at on
abbrev pub IsSum : List ℕ → List (List ℕ) → ℕ → List ℕ → Type 0
IsSum coefficients sources at v = HasLanes v (λ k. combination (length coefficients) (slice_index coefficients) (column sources (at + k)))

-- the first n bytes of a block are the combinations at the places from at on
abbrev pub HasSums : List ℕ → List (List ℕ) → ℕ → ℕ → List ℕ → Type 0
HasSums coefficients sources at n block = (i : ℕ) → i < n → slice_index block i ≡ combination (length coefficients) (slice_index coefficients) (column sources (at + i))

-- a piece that holds the combinations of a row
pub record IsPiece (coefficients : List ℕ) (sources : List (List ℕ)) (width : ℕ) (piece : List ℕ) : Type 0 where
  pub wide : length piece ≡ width
  pub combined : IsCombined coefficients sources piece width

-- four pieces of n bytes each, for the rows a, b, c, d
pub record AreFour (a b c d : List ℕ) (sources : List (List ℕ)) (n : ℕ) (of_a of_b of_c of_d : List ℕ) : Type 0 where
  pub first : IsPiece a sources n of_a
  pub second : IsPiece b sources n of_b
  pub third : IsPiece c sources n of_c
  pub fourth : IsPiece d sources n of_d

-- for each of the first n rows, a piece that holds its combinations
pub record AreCombined (rows sources : List (List ℕ)) (width n : ℕ) (pieces : List (List ℕ)) : Type 0 where
  pub count : length pieces ≡ n
  pub pieces_are : (t : ℕ) → t < n → IsPiece (slice_index_or rows t []) sources width (slice_index_or pieces t [])

-- copies of the first sources, each up to the same end
pub record AreCopies (sources : List (List ℕ)) (end : ℕ) (copies : List (List ℕ)) : Type 0 where
  pub each : (j : ℕ) → j < length copies → slice_index_or copies j [] ≡ take end (slice_index_or sources j [])
