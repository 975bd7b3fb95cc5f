-- What the values of a polynomial at some points say of its value at another.
use Rattle.std.specs.Prelude.{◌≡◌, ℕ, zero, suc, ◌<◌, List, [], length, map, slice_index, slice_index_or, bit_xor, nat_eq, if◌then◌else◌, Vec}
use Rattle.std.specs.declared.alloc.Global.{Global}
use Rattle.gz_field.specs.Field.{product}
use Rattle.gz_lanes.specs.Combination.{combination, column}
use Rattle.gz_code.specs.Polynomial.{value, IsPolynomial}

-- the product of y + x l over the l below n but j
unfoldable pub apart : (ℕ → ℕ) → ℕ → ℕ → ℕ → ℕ
apart x j zero y = 1
apart x j (suc n) y = if nat_eq n j then apart x j n y else product (apart x j n y) (bit_xor y (x n))

-- at each of the first n points, the inverse of the product of its differences from the others
pub record HasInverses (points inverses : List ℕ) (n : ℕ) : Type 0 where
  pub long : length inverses ≡ 256
  pub is_element : (j : ℕ) → j < n → slice_index inverses j < 256
  pub inverse : (j : ℕ) → j < n → product (apart (slice_index points) j (length points) (slice_index points j)) (slice_index inverses j) ≡ 1

-- the coefficients that give the value at the target from those at the points, for each polynomial of degree below their number
pub record AreWeights (points weights : List ℕ) (target : ℕ) : Type 0 where
  pub long : length weights ≡ length points
  pub value_is : (p : List ℕ) → IsPolynomial (length points) p → value p target ≡ combination (length points) (slice_index weights) (λ j. value p (slice_index points j))

-- p has at each point the byte that the source has at that place
abbrev pub Passes : List ℕ → List ℕ → List (List ℕ) → ℕ → Type 0
Passes p points sources place = (j : ℕ) → j < length points → value p (slice_index points j) ≡ column sources place j

-- at each place, the value at the target of each polynomial through the sources at the points
pub record AreValues (points : List ℕ) (sources : List (List ℕ)) (width target : ℕ) (piece : List ℕ) : Type 0 where
  pub long : length piece ≡ width
  pub value_is : (place : ℕ) (p : List ℕ) → place < width → IsPolynomial (length points) p → Passes p points sources place → slice_index piece place ≡ value p target

-- the bytes that each of a list of pieces holds
abbrev pub rows : Vec (Vec ℕ Global) Global → List (List ℕ)
rows pieces = map (λ piece. piece.items) pieces.items

-- a piece for each target
pub record AreAllValues (points : List ℕ) (sources : List (List ℕ)) (width : ℕ) (targets : List ℕ) (n : ℕ) (pieces : List (List ℕ)) : Type 0 where
  pub count : length pieces ≡ n
  pub values : (t : ℕ) → t < n → AreValues points sources width (slice_index targets t) (slice_index_or pieces t [])

-- weights for each of the first n targets
pub record AreRows (points targets : List ℕ) (n : ℕ) (weights : List (List ℕ)) : Type 0 where
  pub count : length weights ≡ n
  pub each : (t : ℕ) → t < n → AreWeights points (slice_index_or weights t []) (slice_index targets t)
