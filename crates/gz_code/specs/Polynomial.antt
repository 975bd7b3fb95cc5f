-- Polynomials over the field, each by its coefficients, that of 1 first.
use Rattle.std.specs.Prelude.{◌≡◌, ◌≢◌, ℕ, ◌<◌, List, [], ◌∷◌, length, slice_index, bit_xor}
use Rattle.gz_field.specs.Field.{product}

-- the value at x
unfoldable pub value : List ℕ → ℕ → ℕ
value [] x = 0
value (c ∷ cs) x = bit_xor c (product x (value cs x))

-- a polynomial of degree below k: k coefficients, of which the highest may be 0
pub record IsPolynomial (k : ℕ) (coefficients : List ℕ) : Type 0 where
  pub degree_below : length coefficients ≡ k
  pub are_elements : (i : ℕ) → slice_index coefficients i < 256

-- n different elements of the field
pub record ArePoints (n : ℕ) (x : ℕ → ℕ) : Type 0 where
  pub are_elements : (i : ℕ) → i < n → x i < 256
  pub differ : (i j : ℕ) → i < j → j < n → x i ≢ x j
