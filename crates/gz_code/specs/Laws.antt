-- What polynomials of degree below k owe to their k coefficients, and code words to them.
use Rattle.std.specs.Prelude.{◌≡◌, ◌≢◌, ℕ, ◌+◌, ◌<◌, ◌≤◌, List, length, slice_index}
use Rattle.gz_code.specs.CodeWord.{IsSplit}
use Rattle.gz_code.specs.Polynomial.{value, IsPolynomial, ArePoints}

-- with one coefficient that is not 0, any list of different zeros is shorter than k
abbrev pub FewerZerosThanCoefficients : Type 0
FewerZerosThanCoefficients =
    (k i : ℕ) (p zeros : List ℕ) → IsPolynomial k p → slice_index p i ≢ 0 → ArePoints (length zeros) (slice_index zeros)
    → ((j : ℕ) → j < length zeros → value p (slice_index zeros j) ≡ 0) → length zeros < k

-- equal values at k different points make equal coefficients
abbrev pub EqualAtPointsIsEqual : Type 0
EqualAtPointsIsEqual =
    (k : ℕ) (p q points : List ℕ) → IsPolynomial k p → IsPolynomial k q → ArePoints k (slice_index points)
    → ((j : ℕ) → j < k → value p (slice_index points j) ≡ value q (slice_index points j)) → p ≡ q

-- two lists of pieces of one object are the same list
abbrev pub SplitIsOne : Type 0
SplitIsOne =
    (k m : ℕ) (object : List ℕ) (first second : List (List ℕ)) → k + m ≤ 256 → IsSplit k m object first → IsSplit k m object second → first ≡ second
