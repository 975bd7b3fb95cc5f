-- The bytes of the sources, by source and place.
use Rattle.std.proofs.Common.{◌≡◌, ℕ, ◌<◌, List, [], length, slice_index, slice_index_or, ap, subst, arith, ◌+◌, bit_xor, add-one, ◌∙◌, sym, ◌%◌, ◌/◌}
use Rattle.std.specs.Borrow.{Bor}
use Rattle.std.specs.Prelude.{All}
use Rattle.std.proofs.Math.ListN.{get_or-map}
use Rattle.std.proofs.lemmas.List.{length-map}
use Rattle.gz_field.specs.Field.{product}
use Rattle.gz_lanes.specs.Combination.{contents, column, combination}
use Rattle.gz_lanes.specs.Lanes.{HasLanes}

-- a source past the end
abbrev pub no_source : Bor (List ℕ)
no_source = record { ref_ptr = (0, 0); now = [] }

pub contents_at : (sources : List (Bor (List ℕ))) (j : ℕ) → slice_index_or (contents sources) j [] ≡ (slice_index_or sources j no_source).now
contents_at sources j = get_or-map (λ (source : Bor (List ℕ)). source.now) sources j no_source

pub length-contents : (sources : List (Bor (List ℕ))) → length (contents sources) ≡ length sources
length-contents sources = length-map {B = List ℕ} sources (λ (source : Bor (List ℕ)). source.now)

pub column_at : (sources : List (Bor (List ℕ))) (place j : ℕ) → column (contents sources) place j ≡ slice_index (slice_index_or sources j no_source).now place
column_at sources place j = ap (λ source. slice_index source place) (contents_at sources j)

pub source_holds : (P : List ℕ → Type 0) (sources : List (Bor (List ℕ))) (j : ℕ) → j < length sources → All P (contents sources) → P (slice_index_or sources j no_source).now
source_holds P sources j l all =
    let same = length-map {B = List ℕ} sources (λ (source : Bor (List ℕ)). source.now) in
    subst P (contents_at sources j) (all j [] (omega (arith, same)))

-- one more product, of the coefficient and the source at n
pub combination_more : (n : ℕ) (c : List ℕ) (sources : List (Bor (List ℕ))) (place old new : ℕ)
    → old ≡ combination n (slice_index c) (column (contents sources) place)
    → new ≡ bit_xor old (product (slice_index c n) (slice_index (slice_index_or sources n no_source).now place))
    → new ≡ combination (n + 1) (slice_index c) (column (contents sources) place)
unfolding combination
combination_more n c sources place old new before added =
    rw add-one
    (added
    ∙ ap (λ x. bit_xor x (product (slice_index c n) (slice_index (slice_index_or sources n no_source).now place))) before
    ∙ ap (λ x. bit_xor (combination n (slice_index c) (column (contents sources) place)) (product (slice_index c n) x)) (sym (column_at sources place n)))

-- what was loaded from source j
pub loaded : (sources : List (Bor (List ℕ))) (at j : ℕ) (v : List ℕ) → HasLanes v (λ k. slice_index (slice_index_or sources j no_source).now (at + k)) → HasLanes v (λ k. column (contents sources) (at + k) j)
loaded sources at j v V = record { long = V.long; each = λ k l. V.each k l ∙ sym (column_at sources (at + k) j) }

-- the halves of what was loaded from source j
pub low_of : (sources : List (Bor (List ℕ))) (at j : ℕ) (v low : List ℕ) → HasLanes v (λ k. slice_index (slice_index_or sources j no_source).now (at + k)) → HasLanes low (λ k. slice_index v k % 16)
    → HasLanes low (λ k. column (contents sources) (at + k) j % 16)
low_of sources at j v low V L = record { long = L.long; each = λ k l. L.each k l ∙ ap (λ (x : ℕ). x % 16) ((loaded sources at j v V).each k l) }

pub high_of : (sources : List (Bor (List ℕ))) (at j : ℕ) (v high : List ℕ) → HasLanes v (λ k. slice_index (slice_index_or sources j no_source).now (at + k)) → HasLanes high (λ k. slice_index v k / 16)
    → HasLanes high (λ k. column (contents sources) (at + k) j / 16)
high_of sources at j v high V H = record { long = H.long; each = λ k l. H.each k l ∙ ap (λ (x : ℕ). x / 16) ((loaded sources at j v V).each k l) }
