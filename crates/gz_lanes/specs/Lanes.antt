-- Vectors of 16 bytes, lane by lane.
use Rattle.std.specs.Prelude.{◌≡◌, ℕ, ◌+◌, ◌*◌, ◌<◌, ◌≤◌, List, length, slice_index}
use Rattle.gz_field.specs.Field.{product}

-- v has 16 lanes, and lane k holds f k
pub record HasLanes (v : List ℕ) (f : ℕ → ℕ) : Type 0 where
  pub long : length v ≡ 16
  pub each : (k : ℕ) → k < 16 → slice_index v k ≡ f k

-- the lanes of v stand in new from at on, and all other places are as in old
pub record IsStored (v old new : List ℕ) (at : ℕ) : Type 0 where
  pub inside : (k : ℕ) → k < 16 → slice_index new (at + k) ≡ slice_index v k
  pub below : (place : ℕ) → place < at → slice_index new place ≡ slice_index old place
  pub above : (place : ℕ) → at + 16 ≤ place → slice_index new place ≡ slice_index old place

-- for each of the first n coefficients, 32 bytes: its products with 0 to 15, and then with the multiples of 16
pub record AreTables (coefficients tables : List ℕ) (n : ℕ) : Type 0 where
  pub long : length tables ≡ n * 32
  pub low : (j k : ℕ) → j < n → k < 16 → slice_index tables (j * 32 + k) ≡ product (slice_index coefficients j) k
  pub high : (j k : ℕ) → j < n → k < 16 → slice_index tables (j * 32 + 16 + k) ≡ product (slice_index coefficients j) (k * 16)
