-- The products of 16 bytes with a coefficient, by its tables.
use Rattle.std.proofs.Common.{◌≡◌, ℕ, ◌+◌, ◌*◌, ◌/◌, ◌%◌, ◌-◌, inl, inr, ◌<◌, List, [], ◌∷◌, ◌++◌, Vec, map, length, get_or, slice_index, sym, ◌∙◌, ap, subst, arith, add-one, bit_xor}
use Rattle.std.specs.declared.alloc.Global.{Global}
use Rattle.std.proofs.lemmas.List.{map_push, get_or_default}
use Rattle.std.proofs.lemmas.Bool.{cases_lt}
use Rattle.gz_field.specs.Field.{product}
use Rattle.gz_field.proofs.Additive.{xor_both}
use Rattle.gz_field.proofs.Algebra.{product_by_halves}
use Rattle.gz_lanes.proofs.Pushes.{each_pushed, length_pushed}
use Rattle.gz_lanes.specs.Combination.{combination, column, HasSums, IsSum, IsPiece, AreCombined}
use Rattle.gz_lanes.specs.Lanes.{HasLanes, AreTables, IsStored}

-- the products of a coefficient with 16 bytes, by the tables of its products
pub products_are : (c : ℕ) (bytes low high low_table high_table of_low of_high both : List ℕ) → HasLanes low_table (product c) → HasLanes high_table (λ k. product c (k * 16))
    → HasLanes low (λ k. slice_index bytes k % 16) → HasLanes high (λ k. slice_index bytes k / 16) → ((k : ℕ) → k < 16 → slice_index high k < 16)
    → HasLanes of_low (λ k. slice_index low_table (slice_index low k)) → HasLanes of_high (λ k. slice_index high_table (slice_index high k))
    → HasLanes both (λ k. bit_xor (slice_index of_low k) (slice_index of_high k)) → HasLanes both (λ k. product c (slice_index bytes k))
products_are c bytes low high low_table high_table of_low of_high both M N L H small F G B = record {
  long = B.long;
  each = λ k l.
      let b = slice_index bytes k in
      let low_is : b % 16 < 16 = omega arith in
      let high_is : b / 16 < 16 = subst (λ x. x < 16) (H.each k l) (small k l) in
      B.each k l
      ∙ xor_both _ _ _ _
      (F.each k l ∙ ap (slice_index low_table) (L.each k l) ∙ M.each (b % 16) low_is)
      (G.each k l ∙ ap (slice_index high_table) (H.each k l) ∙ N.each (b / 16) high_is)
      ∙ sym (product_by_halves c b);
}

-- one more product at a lane
lane_more : (j : ℕ) (c v : ℕ → ℕ) (old new : ℕ) → old ≡ combination j c v → new ≡ bit_xor old (product (c j) (v j)) → new ≡ combination (j + 1) c v
unfolding combination
lane_more j c v old new before added = rw add-one (added ∙ ap (λ x. bit_xor x (product (c j) (v j))) before)

-- the sources' bytes at a lane, by its place
module _ (coefficients tables : List ℕ) (n j : ℕ) (sources : List (List ℕ)) (at : ℕ) (T : AreTables coefficients tables n) (within : j < n) where
  byte : ℕ → ℕ
  byte k = column sources (at + k) j

  of_low_is : (low table found : List ℕ) → HasLanes low (λ k. column sources (at + k) j % 16) → HasLanes table (λ k. slice_index tables (j * 32 + k)) → HasLanes found (λ k. slice_index table (slice_index low k))
      → (k : ℕ) → k < 16 → slice_index found k ≡ product (slice_index coefficients j) (column sources (at + k) j % 16)
  of_low_is low table found L M F k l =
      let p = column sources (at + k) j % 16 in
      let P : p < 16 = omega arith in
      F.each k l ∙ ap (slice_index table) (L.each k l) ∙ M.each p P ∙ T.low j p within P

  of_high_is : (high table found : List ℕ) → HasLanes high (λ k. column sources (at + k) j / 16) → ((k : ℕ) → k < 16 → slice_index high k < 16)
      → HasLanes table (λ k. slice_index tables (j * 32 + 16 + k)) → HasLanes found (λ k. slice_index table (slice_index high k))
      → (k : ℕ) → k < 16 → slice_index found k ≡ product (slice_index coefficients j) (column sources (at + k) j / 16 * 16)
  of_high_is high table found H small M F k l =
      let p = column sources (at + k) j / 16 in
      let P : p < 16 = subst (λ x. x < 16) (H.each k l) (small k l) in
      F.each k l ∙ ap (slice_index table) (H.each k l) ∙ M.each p P ∙ T.high j p within P

  pub products_added : (low high low_table high_table of_low of_high both so_far result : List ℕ)
      → HasLanes low (λ k. column sources (at + k) j % 16) → HasLanes high (λ k. column sources (at + k) j / 16) → ((k : ℕ) → k < 16 → slice_index high k < 16)
      → HasLanes low_table (λ k. slice_index tables (j * 32 + k)) → HasLanes high_table (λ k. slice_index tables (j * 32 + 16 + k))
      → HasLanes of_low (λ k. slice_index low_table (slice_index low k)) → HasLanes of_high (λ k. slice_index high_table (slice_index high k))
      → HasLanes both (λ k. bit_xor (slice_index of_low k) (slice_index of_high k)) → HasLanes so_far (λ k. combination j (slice_index coefficients) (column sources (at + k)))
      → HasLanes result (λ k. bit_xor (slice_index so_far k) (slice_index both k)) → HasLanes result (λ k. combination (j + 1) (slice_index coefficients) (column sources (at + k)))
  products_added low high low_table high_table of_low of_high both so_far result L H small M N F G B S R = record {
    long = R.long;
    each = λ k l.
        let c = slice_index coefficients j in
        let b = column sources (at + k) j in
        let whole : slice_index both k ≡ product c b =
        B.each k l
        ∙ ap (λ x. bit_xor x (slice_index of_high k)) (of_low_is low low_table of_low L M F k l)
        ∙ ap (bit_xor (product c (b % 16))) (of_high_is high high_table of_high H small N G k l)
        ∙ sym (product_by_halves c b) in
        lane_more j (slice_index coefficients) (column sources (at + k)) (slice_index so_far k) (slice_index result k) (S.each k l) (R.each k l ∙ ap (bit_xor (slice_index so_far k)) whole);
  }

-- 16 sums that are written into a block, after those before
pub stored_more : (coefficients : List ℕ) (sources : List (List ℕ)) (v old new : List ℕ) (at offset : ℕ) → IsStored v old new offset → IsSum coefficients sources (at + offset) v
    → HasSums coefficients sources at offset old → HasSums coefficients sources at (offset + 16) new
stored_more coefficients sources v old new at offset S sums before i l =
    elim (cases_lt i offset) [
      | inl early ↦ S.below i early ∙ before i early
      | inr late ↦
          let lane : i - offset < 16 = omega arith in
          let back : offset + (i - offset) ≡ i = omega arith in
          let there : at + offset + (i - offset) ≡ at + i = omega arith in
          let P : ℕ → Type 0 = λ p. slice_index new p ≡ combination (length coefficients) (slice_index coefficients) (column sources (at + i)) in
          let Q : ℕ → Type 0 = λ p. slice_index v (i - offset) ≡ combination (length coefficients) (slice_index coefficients) (column sources p) in
          subst P back (S.inside (i - offset) lane ∙ subst Q there (sums.each (i - offset) lane))
    ]

-- one more piece, of the next row
pub pieces_more : (rows sources : List (List ℕ)) (width n next : ℕ) (pieces new : List (Vec ℕ Global)) (piece : Vec ℕ Global) (row : List ℕ) → AreCombined rows sources width n (map (λ (p : Vec ℕ Global). p.items) pieces)
    → n < length rows → row ≡ get_or rows n row → IsPiece row sources width piece.items → new ≡ pieces ++ piece ∷ [] → next ≡ n + 1 → AreCombined rows sources width next (map (λ (p : Vec ℕ Global). p.items) new)
pieces_more rows sources width n next pieces new piece row A within is P pushed step =
    let bytes = map {B = List ℕ} (λ (p : Vec ℕ Global). p.items) pieces in
    let Q : List (List ℕ) → Type 0 = AreCombined rows sources width (n + 1) in
    let R : List ℕ → Type 0 = λ row. IsPiece row sources width piece.items in
    let grown = map_push {Y = List ℕ} (λ (p : Vec ℕ Global). p.items) pieces piece in
    let same : row ≡ get_or rows n [] = is ∙ get_or_default rows n row [] within in
    let N : ℕ → Type 0 = λ n. AreCombined rows sources width n (map {B = List ℕ} (λ (p : Vec ℕ Global). p.items) new) in
    subst N (sym step) (subst Q (sym grown ∙ ap (map {B = List ℕ} (λ (p : Vec ℕ Global). p.items)) (sym pushed))
    (record {
      count = length_pushed bytes piece.items n A.count;
      pieces_are = each_pushed (λ t y. IsPiece (get_or rows t []) sources width y) bytes piece.items [] n A.count A.pieces_are (subst R same P);
    }))
