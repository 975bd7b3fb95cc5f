-- What users of the field rely on.
use Rattle.std.specs.Prelude.{◌≡◌, ◌≢◌, ℕ, ◌<◌}
use Rattle.gz_field.specs.Field.{power_of_two}

-- The bytes are a field under these two operations: the axioms as usual, where each element is its own opposite.
pub record IsFieldOfBytes (sum product : ℕ → ℕ → ℕ) : Type 0 where
  pub sum_is_byte : (a b : ℕ) → a < 256 → b < 256 → sum a b < 256
  pub product_is_byte : (a b : ℕ) → a < 256 → b < 256 → product a b < 256
  pub sum_commutes : (a b : ℕ) → sum a b ≡ sum b a
  pub sum_associates : (a b c : ℕ) → sum (sum a b) c ≡ sum a (sum b c)
  pub sum_with_zero : (a : ℕ) → sum a 0 ≡ a
  pub opposite : (a : ℕ) → sum a a ≡ 0
  pub product_commutes : (a b : ℕ) → a < 256 → b < 256 → product a b ≡ product b a
  pub product_associates : (a b c : ℕ) → a < 256 → b < 256 → c < 256 → product (product a b) c ≡ product a (product b c)
  pub product_with_one : (a : ℕ) → a < 256 → product 1 a ≡ a
  pub distributes : (a b c : ℕ) → product a (sum b c) ≡ sum (product a b) (product a c)
  pub inverse : (a : ℕ) → a < 256 → a ≢ 0 → (b : ℕ) × (b < 256) × (product a b ≡ 1)

-- each element but 0 is a power of two below the 255th, and the 255th is 1 again
pub record AllPowersOfTwo : Type 0 where
  pub reaches : (a : ℕ) → a < 256 → a ≢ 0 → (k : ℕ) × (k < 255) × (power_of_two k ≡ a)
  pub returns : power_of_two 255 ≡ 1
