-- What `join` makes of the first k given pieces.
use Rattle.std.proofs.Common.{◌≡◌, ℕ, zero, suc, ◌+◌, ◌-◌, ◌*◌, ◌/◌, ◌%◌, ◌<◌, ◌≤◌, List, [], length, get_or, take, drop, slice_index, slice_index_or, sym, ◌∙◌, ap, subst, arith, inl, inr, length-append, length-drop, get_or-take, get_or-drop, min}
use Rattle.std.specs.Prelude.{All}
use Rattle.std.proofs.Math.Nat.{mul_comm}
use Rattle.std.proofs.lemmas.Nat.{div_below, mod_below}
use Rattle.std.proofs.lemmas.Grind.{same_number_lists}
use Rattle.std.proofs.lemmas.Bool.{cases_lt}
use Rattle.std.proofs.lemmas.List.{get_or_append_left, get_or-append_right, get_or_default, length-take-le}
use Rattle.gz_code.specs.CodeWord.{word_at, piece_width, IsSplit}
use Rattle.gz_code.specs.Decoding.{Given, index_at, bytes_given, IsBeyond, IsRepeated, IsMisfit, Nowhere, AreIndices, AreSlices, AreAtHand, IsLocated, IsAssembled, IsDecoded, AreAmong}
use Rattle.gz_code.specs.Interpolation.{AreAllValues}
use Rattle.gz_code.specs.Polynomial.{value, IsPolynomial, ArePoints}
use Rattle.gz_code.proofs.Interpolation.{equal_or_not, through, through_is_polynomial, through_passes}
use Rattle.gz_code.proofs.Roots.{same_from_points}
use Rattle.gz_code.proofs.Seen.{index_below}

-- the pieces have at least the object's bytes
pub width_covers : (k len : ℕ) → 1 ≤ k → len ≤ k * piece_width k len
width_covers k len some =
    let whole : k * (len / k) + len % k ≡ len = omega arith in
    let rest = λ (r : ℕ) (small : r < k).
    elim (equal_or_not r 0) as (λ _. r ≤ k * min 1 r) [
      | inl none ↦ omega (arith, none)
      | inr some ↦ let one : min 1 r ≡ 1 = omega arith in rw one (omega arith)
    ] in
    omega (arith, whole, rest (len % k) (omega arith))

-- equal points
points_same : (n : ℕ) (x y : ℕ → ℕ) → ArePoints n x → ((i : ℕ) → i < n → y i ≡ x i) → ArePoints n y
points_same n x y P same = record {
  are_elements = λ i l. subst (λ z. z < 256) (sym (same i l)) (P.are_elements i l);
  differ = λ i j l m e. P.differ i j l m (let below : i < n = omega arith in sym (same i below) ∙ e ∙ same j m);
}

module _ (given : Given) (k : ℕ) (enough : k ≤ length given) (below : Nowhere (IsBeyond 256 given) given) (distinct : Nowhere (IsRepeated given) given) where
  -- the indices of the first k pieces are points
  pub given_points : ArePoints k (index_at given)
  given_points = record {
    are_elements = λ i l. index_below given 256 i below (omega arith);
    differ = λ i j l m e. distinct j (omega arith) (i, l, e);
  }

  pub slices_wide : (width : ℕ) (slices : List (List ℕ)) → Nowhere (IsMisfit width given) given → AreSlices given k slices → (i : ℕ) → i < k → length (slice_index_or slices i []) ≡ width
  slices_wide width slices fitting S i l =
      ap length (S.each i l)
      ∙ elim (equal_or_not (length (slice_index_or (bytes_given given) i [])) width) [
        | inl fits ↦ fits
        | inr misfit ↦ absurd (fitting i (omega arith) misfit)
      ]

  pub all_slices_wide : (width : ℕ) (slices : List (List ℕ)) → Nowhere (IsMisfit width given) given → AreSlices given k slices → All (λ s. length s ≡ width) slices
  all_slices_wide width slices fitting S i d l =
      let count = S.count in
      ap length (get_or_default slices i d [] l) ∙ slices_wide width slices fitting S i (omega arith)

  module _ (points0 points order front lost : List ℕ) (I : AreIndices given k points0) (L : IsLocated points0 points k order) (front_is : front ≡ take k points) (lost_is : lost ≡ drop k points) where
    points_enough : k ≤ length points
    points_enough = omega (arith, L.longer, I.count)

    pub front_count : length front ≡ k
    front_count = ap length front_is ∙ length-take-le k points points_enough

    pub front_each : (i : ℕ) → i < k → slice_index front i ≡ index_at given i
    front_each i l =
        let count = I.count in
        ap (λ xs. get_or xs i 0) front_is ∙ get_or-take k points i 0 l ∙ L.kept i (omega arith) ∙ I.each i l

    pub front_points : ArePoints (length front) (slice_index front)
    front_points = subst (λ n. ArePoints n (slice_index front)) (sym front_count) (points_same k (index_at given) (slice_index front) given_points front_each)

    lost_count : length lost ≡ length points - k
    lost_count = ap length lost_is ∙ length-drop k points

    module _ (width : ℕ) (sources recovered at_hand : List (List ℕ)) (S : AreSlices given k sources) (R : AreAllValues front sources width lost (length lost) recovered) (H : AreAtHand given k recovered at_hand) where
      at_hand_count : length at_hand ≡ length points
      at_hand_count =
          let enough = points_enough in
          ap length H.joined ∙ length-append H.front recovered ∙ omega (arith, H.are_given.count, R.count, lost_count)

      pub order_within : (j : ℕ) → j < k → slice_index order j < length at_hand
      order_within j l = omega (arith, L.within j l, at_hand_count)

      pub all_at_hand_wide : Nowhere (IsMisfit width given) given → All (λ s. length s ≡ width) at_hand
      all_at_hand_wide fitting i d l =
          let count = H.are_given.count in
          let recovered_count = R.count in
          let whole = ap length H.joined ∙ length-append H.front recovered in
          ap length (get_or_default at_hand i d [] l ∙ ap (λ rows. get_or rows i []) H.joined)
          ∙ elim (cases_lt i k) [
            | inl early ↦ ap length (get_or_append_left H.front recovered [] i (omega arith)) ∙ slices_wide width H.front fitting H.are_given i early
            | inr late ↦ ap length (get_or-append_right H.front recovered k i [] count late) ∙ (R.values (i - k) (omega arith)).long
          ]

      -- the byte at hand for j is the value at j of the polynomial through the given bytes
      byte_at_hand : (place j : ℕ) (p : List ℕ) → place < width → j < k → IsPolynomial k p → ((i : ℕ) → i < k → value p (index_at given i) ≡ word_at (bytes_given given) place i)
          → word_at at_hand place (slice_index order j) ≡ value p j
      byte_at_hand place j p within l D passes =
          let at = slice_index order j in
          let count = H.are_given.count in
          let points_count = I.count in
          let enough = points_enough in
          ap (λ rows. slice_index (slice_index_or rows at []) place) H.joined
          ∙ elim (cases_lt at k) [
            | inl early ↦
                ap (λ row. slice_index row place) (get_or_append_left H.front recovered [] at (omega arith) ∙ H.are_given.each at early)
                ∙ sym (passes at early)
                ∙ ap (value p) (sym (I.each at early) ∙ sym (L.kept at (omega arith)) ∙ L.is_point j l)
            | inr late ↦
                let t = at - k in
                let t_within : t < length lost = omega (arith, lost_count, L.within j l) in
                let back : k + t ≡ at = omega arith in
                let target : slice_index lost t ≡ j = ap (λ xs. get_or xs t 0) lost_is ∙ get_or-drop k points t 0 ∙ ap (slice_index points) back ∙ L.is_point j l in
                ap (λ row. slice_index row place) (get_or-append_right H.front recovered k at [] count late)
                ∙ (R.values t t_within).value_is place p within (subst (λ n. IsPolynomial n p) (sym front_count) D)
                (λ i m.
                let early : i < k = omega (arith, front_count) in
                ap (value p) (front_each i early) ∙ passes i early ∙ sym (ap (λ row. slice_index row place) (S.each i early)))
                ∙ ap (value p) target
          ]

      pub decoded_from : (len : ℕ) (object : List ℕ) → k ≤ 256 → 1 ≤ k → width ≡ piece_width k len → IsAssembled order at_hand width k len object → IsDecoded k len given object
      decoded_from len object few some width_is A =
          let covered : min (k * width) len ≡ len = omega (arith, width_covers k len some, ap (λ w. k * w) width_is) in
          let v = λ (place i : ℕ). word_at H.front place i in
          let V = λ (place i : ℕ) (l : i < k). H.are_given.are_bytes i place l in
          let D = λ (place : ℕ). through_is_polynomial k (index_at given) given_points (v place) (V place) in
          let passes = λ (place i : ℕ) (l : i < k). through_passes k (index_at given) given_points (v place) (V place) i l ∙ ap (λ row. slice_index row place) (H.are_given.each i l) in
          record {
            long = A.long ∙ covered;
            places = λ place within. record {
              polynomial = through (index_at given) (v place) k k;
              degree = D place;
              passes = passes place;
              bytes = λ j l inside.
                  let W : place < width = omega (arith, width_is, within) in
                  let Q : ℕ → Type 0 = λ w. j * w + place < len → slice_index object (j * w + place) ≡ value (through (index_at given) (v place) k k) j in
                  subst Q width_is (λ inside. A.bytes j place l W inside ∙ byte_at_hand place j _ W l (D place) (passes place)) inside;
            };
          }

-- where a byte of an object stands among pieces that hold it
record StandsIn (k width q : ℕ) : Type 0 where
  pub wide : 0 < width
  pub piece : q / width < k
  pub within : q % width < width
  pub parts : q / width * width + q % width ≡ q

stands_in : (k len width q : ℕ) → len ≤ k * width → q < len → StandsIn k width q
stands_in k len zero q covers inside = let none : k * zero ≡ 0 = omega arith in absurd (omega (arith, none))
stands_in k len (suc w) q covers inside =
    let width = suc w in
    let wide : 0 < suc w = omega arith in
    record {
      wide = wide;
      piece = div_below q (suc w) k wide (omega arith);
      within = mod_below q (suc w) wide;
      parts = omega (arith, mul_comm (q / suc w) (suc w));
    }

-- what pieces of an object give back is the object
pub gives_back : (k m len : ℕ) (given : Given) (object decoded : List ℕ) (pieces : List (List ℕ)) → k + m ≤ 256 → 1 ≤ k → k ≤ length given
    → Nowhere (IsBeyond (k + m) given) given → Nowhere (IsRepeated given) given → IsDecoded k len given decoded → IsSplit k m object pieces → length object ≡ len → AreAmong k given pieces → decoded ≡ object
gives_back k m len given object decoded pieces few some enough below distinct D S long among =
    let below_256 : Nowhere (IsBeyond 256 given) given = λ place l beyond. below place l (omega arith) in
    let P = given_points given k enough below_256 distinct in
    same_number_lists decoded object (D.long ∙ sym long) (λ q l.
    let width = piece_width k len in
    let inside : q < len = omega (arith, D.long) in
    let covers = width_covers k len some in
    let stands = stands_in k len width q covers inside in
    let j = q / width in
    let place = q % width in
    let J = stands.piece in
    let within = stands.within in
    let parts = stands.parts in
    let whole : width ≡ piece_width k (length object) = ap (piece_width k) (sym long) in
    let at = D.places place within in
    let word = S.code_words place (omega (arith, whole)) in
    let same : at.polynomial ≡ word.polynomial = same_from_points k at.polynomial word.polynomial (index_at given) at.degree word.degree P (λ i l.
    at.passes i l
    ∙ ap (λ row. slice_index row place) (among i l)
    ∙ word.values (index_at given i) (index_below given (k + m) i below (omega arith))) in
    let Q : ℕ → Type 0 = λ w. word_at pieces place j ≡ slice_index object (j * w + place) in
    let here : word_at pieces place j ≡ slice_index object (j * width + place) = subst Q (sym whole) (S.object_first j place J (omega (arith, whole))) in
    ap (slice_index decoded) (sym parts)
    ∙ at.bytes j J (omega (arith, parts))
    ∙ ap (λ p. value p j) same
    ∙ sym (word.values j (omega arith))
    ∙ here
    ∙ ap (slice_index object) parts)
