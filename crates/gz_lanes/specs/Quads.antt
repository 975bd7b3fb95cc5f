-- Four rows that an additive Fourier transform gives: each four sources after one another, a quad, are summed by pairs with three
-- constants, then all quads are added, and the four sums give the four combinations.
use Rattle.std.specs.Prelude.{◌≡◌, ℕ, ◌+◌, ◌*◌, ◌/◌, ◌<◌, List, length, slice_index, nat_eq, if◌then◌else◌, bit_xor}
use Rattle.gz_field.specs.Field.{product}

-- a + x (a + b)
abbrev pub lifted : ℕ → ℕ → ℕ → ℕ
lifted x a b = bit_xor a (product x (bit_xor a b))

-- The four parts of quad q, where v has the values by source: its constants x, y, z are at 3 q. The bytes 4 q and 4 q + 1 make a pair by x,
-- and the other two one by y: the first of them lifted, and their sum. The pairs' firsts make a pair by z, and so do their sums.
abbrev pub first_part : List ℕ → ℕ → (ℕ → ℕ) → ℕ
first_part constants q v =
    lifted (slice_index constants (q * 3 + 2)) (lifted (slice_index constants (q * 3)) (v (q * 4)) (v (q * 4 + 1))) (lifted (slice_index constants (q * 3 + 1)) (v (q * 4 + 2)) (v (q * 4 + 3)))

abbrev pub second_part : List ℕ → ℕ → (ℕ → ℕ) → ℕ
second_part constants q v = lifted (slice_index constants (q * 3 + 2)) (bit_xor (v (q * 4)) (v (q * 4 + 1))) (bit_xor (v (q * 4 + 2)) (v (q * 4 + 3)))

abbrev pub third_part : List ℕ → ℕ → (ℕ → ℕ) → ℕ
third_part constants q v =
    bit_xor (lifted (slice_index constants (q * 3)) (v (q * 4)) (v (q * 4 + 1))) (lifted (slice_index constants (q * 3 + 1)) (v (q * 4 + 2)) (v (q * 4 + 3)))

abbrev pub fourth_part : ℕ → (ℕ → ℕ) → ℕ
fourth_part q v = bit_xor (bit_xor (v (q * 4)) (v (q * 4 + 1))) (bit_xor (v (q * 4 + 2)) (v (q * 4 + 3)))

-- 1 at the source j, and 0 elsewhere
abbrev pub unit : ℕ → ℕ → ℕ
unit j i = if nat_eq i j then 1 else 0

-- what each part makes of the source j
unfoldable pub in_first : List ℕ → ℕ → ℕ
in_first constants j = first_part constants (j / 4) (unit j)

unfoldable pub in_second : List ℕ → ℕ → ℕ
in_second constants j = second_part constants (j / 4) (unit j)

unfoldable pub in_third : List ℕ → ℕ → ℕ
in_third constants j = third_part constants (j / 4) (unit j)

unfoldable pub in_fourth : ℕ → ℕ
in_fourth j = fourth_part (j / 4) (unit j)

-- the coefficients of the four combinations at the source j, by those of the parts
abbrev pub second_weight : List ℕ → ℕ → ℕ
second_weight constants j = bit_xor (in_first constants j) (in_second constants j)

abbrev pub third_weight : List ℕ → ℕ → ℕ
third_weight constants j = bit_xor (bit_xor (in_first constants j) (in_third constants j)) (product 2 (bit_xor (in_second constants j) (in_fourth j)))

abbrev pub fourth_weight : List ℕ → ℕ → ℕ
fourth_weight constants j = bit_xor (third_weight constants j) (bit_xor (in_second constants j) (in_fourth j))

-- the rows a, b, c, d are those of the constants
pub record AreQuads (constants a b c d : List ℕ) : Type 0 where
  pub quads : ℕ
  pub sources : length a ≡ quads * 4
  pub triples : length constants ≡ quads * 3
  pub first : (j : ℕ) → j < length a → slice_index a j ≡ in_first constants j
  pub second : (j : ℕ) → j < length a → slice_index b j ≡ second_weight constants j
  pub third : (j : ℕ) → j < length a → slice_index c j ≡ third_weight constants j
  pub fourth : (j : ℕ) → j < length a → slice_index d j ≡ fourth_weight constants j
