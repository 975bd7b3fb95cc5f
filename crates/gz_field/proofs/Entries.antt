-- What the tables hold.
use Rattle.std.proofs.Common.{take, drop, get_or-take, get_or-drop, ◌≡◌, ℕ, suc, ◌+◌, ◌-◌, ◌*◌, ◌/◌, ◌%◌, ◌<◌, sym, ◌∙◌, ap, arith, bit_xor, T, List, get_or, length}
use Rattle.gz_field.specs.Field.{sum_of_shifts, product}
use Rattle.gz_field.specs.declared.tables.TheConstants.{INVERSES, LOW_PRODUCTS, HIGH_PRODUCTS}
use Rattle.gz_field.proofs.Algebra.{product_by_halves}
use Rattle.gz_field.proofs.Computed.{is_table, entry_of_table, equal_below}

-- the products at each place of the two tables
low_at : ℕ → ℕ
low_at i = product (i / 16) (i % 16)

high_at : ℕ → ℕ
high_at i = product (i / 16) (i % 16 * 16)

low_table : T (is_table low_at 0 LOW_PRODUCTS)
unfolding sum_of_shifts low_at
low_table = tt

high_table : T (is_table high_at 0 HIGH_PRODUCTS)
unfolding sum_of_shifts high_at
high_table = tt

at_place : (f : ℕ → ℕ) (xs : List ℕ) → T (is_table f 0 xs) → (i : ℕ) → i < length xs → get_or xs i 0 ≡ f i
at_place f xs t i l =
    let same : 0 + i ≡ i = omega arith in
    entry_of_table f 0 xs t i l ∙ ap f same

pub low_product : (a k : ℕ) → a < 256 → k < 16 → get_or LOW_PRODUCTS (a * 16 + k) 0 ≡ product a k
unfolding low_at
low_product a k A K =
    let row : (a * 16 + k) / 16 ≡ a = omega arith in
    let column : (a * 16 + k) % 16 ≡ k = omega arith in
    at_place low_at LOW_PRODUCTS low_table (a * 16 + k) (omega arith) ∙ ap (λ x. product x ((a * 16 + k) % 16)) row ∙ ap (product a) column

pub high_product : (a k : ℕ) → a < 256 → k < 16 → get_or HIGH_PRODUCTS (a * 16 + k) 0 ≡ product a (k * 16)
unfolding high_at
high_product a k A K =
    let row : (a * 16 + k) / 16 ≡ a = omega arith in
    let column : (a * 16 + k) % 16 ≡ k = omega arith in
    at_place high_at HIGH_PRODUCTS high_table (a * 16 + k) (omega arith) ∙ ap (λ x. product x ((a * 16 + k) % 16 * 16)) row ∙ ap (λ x. product a (x * 16)) column

-- the product of two bytes from the two tables
pub looked_up : (a b : ℕ) → a < 256 → b < 256 → bit_xor (get_or LOW_PRODUCTS (a * 16 + b % 16) 0) (get_or HIGH_PRODUCTS (a * 16 + b / 16) 0) ≡ product a b
looked_up a b A B =
    ap (λ x. bit_xor x (get_or HIGH_PRODUCTS (a * 16 + b / 16) 0)) (low_product a (b % 16) A (omega arith))
    ∙ ap (bit_xor (product a (b % 16))) (high_product a (b / 16) A (omega arith))
    ∙ sym (product_by_halves a b)

pub inverse_at : (a : ℕ) → 0 < a → a < 256 → product a (get_or INVERSES a 0) ≡ 1
unfolding sum_of_shifts
inverse_at a low A =
    let from : suc (a - 1) ≡ a = omega arith in
    sym (ap (λ x. product x (get_or INVERSES x 0)) from) ∙ equal_below (λ i. product (suc i) (get_or INVERSES (suc i) 0)) (λ i. 1) 255 tt (a - 1) (omega arith)

-- 16 entries of a table
entries_from : (table : List ℕ) (from to k : ℕ) → to ≡ from + 16 → k < 16 → get_or (take (to - from) (drop from table)) k 0 ≡ get_or table (from + k) 0
entries_from table from to k end l = get_or-take (to - from) (drop from table) k 0 (omega arith) ∙ get_or-drop from table k 0

pub low_row : (a row k : ℕ) → row ≡ a → a < 256 → k < 16 → get_or (take (row * 16 + 16 - row * 16) (drop (row * 16) LOW_PRODUCTS)) k 0 ≡ product a k
low_row a row k same A K = entries_from LOW_PRODUCTS (row * 16) (row * 16 + 16) k (omega arith) K ∙ ap (λ r. get_or LOW_PRODUCTS (r * 16 + k) 0) same ∙ low_product a k A K

pub high_row : (a row k : ℕ) → row ≡ a → a < 256 → k < 16 → get_or (take (row * 16 + 16 - row * 16) (drop (row * 16) HIGH_PRODUCTS)) k 0 ≡ product a (k * 16)
high_row a row k same A K = entries_from HIGH_PRODUCTS (row * 16) (row * 16 + 16) k (omega arith) K ∙ ap (λ r. get_or HIGH_PRODUCTS (r * 16 + k) 0) same ∙ high_product a k A K
