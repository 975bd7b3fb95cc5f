-- The floors of the known rows: the greatest one, and the version after it, which is decided.
use Rattle.std.proofs.Common.{◌≡◌, ◌≢◌, ℕ, zero, suc, ◌+◌, ◌<◌, ◌≤◌, max, true, false, ◌==◌, List, [], ◌∷◌, drop, Option, Some, None, is_some, refl, sym, ap, ◌∙◌, subst, inl, inr, ◌⊎◌, arith}
use Rattle.std.specs.List.{slice_get}
use Rattle.std.proofs.lemmas.Bool.{cond-true, false≢true, both_ways, cases_eq, cases_lt, eqb-true, eq-eqb}
use Rattle.std.proofs.lemmas.Option.{same_Some, none-some, slice_get_within}
use Rattle.gz_core.specs.Names.{Name}
use Rattle.gz_core.specs.Values.{name_of}
use Rattle.gz_core.specs.Rows.{RowAt, IsRow, StartsDecided, IsDecided, column_in}
use Rattle.gz_core.specs.Slots.{slot_of, slot_decision}
use Rattle.gz_core.specs.declared.rows.Column.{Column}
use Rattle.gz_core.specs.declared.rows.Column.TheVariants.{Open, Decided}
use Rattle.gz_core.proofs.SlotNames.{decision_named}
use Rattle.gz_core.proofs.Counting.{count_found}
use Rattle.gz_config.specs.declared.Config.{Config}
use Rattle.gz_pick.specs.Looks.{row_top, row_decision, highest_of}
use Rattle.gz_round.specs.declared.run.Run.{Run}
use Rattle.gz_core.specs.History.{Action}
use Rattle.gz_round.specs.Shown.{HasFloor}
use Rattle.gz_round.specs.Sending.{NoneGone, rows_known}
use Rattle.gz_round.specs.Counting.{known_count}
use Rattle.gz_round.specs.Standing.{Knows}
use Rattle.gz_round.specs.Floors.{top_floor_of, has_floor, AreRows, IsFloorAt}
use Rattle.gz_round.proofs.Heard.{heard_one}
use Rattle.gz_round.proofs.Columns.{named_top, top_highest}
use Rattle.gz_round.proofs.Known.{known_heard, listed_known}

-- the greatest floor of some rows is at or above each of theirs
pub floor_below : (rows : List (Option RowAt)) (s : ℕ) (row : RowAt) → slice_get rows s ≡ Some (Some row) → row.floor ≤ top_floor_of rows
floor_below [] s row e = absurd (cc)
floor_below (None ∷ rows) zero row e = absurd (cc)
floor_below (None ∷ rows) (suc s) row e = floor_below rows s row e
floor_below (Some other ∷ rows) zero row e =
    let same : other ≡ row = same_Some other row (same_Some (Some other) (Some row) e) in
    let floors : other.floor ≡ row.floor = ap (λ (r : RowAt). r.floor) same in
    omega arith
floor_below (Some other ∷ rows) (suc s) row e = omega (arith, floor_below rows s row e)

-- and it is reached, or none was raised
pub floor_reached : (rows : List (Option RowAt)) → (top_floor_of rows ≡ 0) ⊎ ((s : ℕ) × (row : RowAt) × (slice_get rows s ≡ Some (Some row)) × (row.floor ≡ top_floor_of rows))
floor_reached [] = inl refl
floor_reached (None ∷ rows) =
    elim (floor_reached rows) [
      | inl e ↦ inl e
      | inr w ↦ inr (suc w.0, w.1, w.2, w.3)
    ]
floor_reached (Some row ∷ rows) =
    elim (cases_lt row.floor (top_floor_of rows)) [
      | inl l ↦ elim (floor_reached rows) [
        | inl e ↦ absurd (omega arith)
        | inr w ↦ inr (suc w.0, w.1, w.2, omega (arith, w.3))
      ]
      | inr l ↦ inr (zero, row, refl, omega arith)
    ]

decided_here : (v u : ℕ) (column : Column) (cs : List (ℕ × Column)) → u ≡ v → IsDecided column → (name : Name) × (slot_decision (slot_of (column_in ((u, column) ∷ cs) v)) ≡ Some name)
decided_here v u (Open promise vote) cs e d = absurd d
decided_here v u (Decided value) cs e d = (name_of value, ap (λ o. slot_decision (slot_of o)) (cond-true (u == v) (Some (Decided value)) (column_in cs v) (eq-eqb u v e)))

decided_first : (floor : ℕ) (columns : List (ℕ × Column)) → StartsDecided floor columns → 1 ≤ floor → (name : Name) × (slot_decision (slot_of (column_in columns (floor + 1))) ≡ Some name)
decided_first floor [] e l = absurd (omega arith)
decided_first floor (c ∷ cs) (inl e) l = absurd (omega arith)
decided_first floor (c ∷ cs) (inr h) l = decided_here (floor + 1) c.0 c.1 cs h.0 h.1

-- above a floor that was raised a row has a version decided
pub floor_decided : (row : RowAt) → IsRow row → 1 ≤ row.floor → (name : Name) × (row_decision row (row.floor + 1) ≡ Some name)
floor_decided row r l = decided_first row.floor row.columns r.starts l

-- and so shows a value above it
pub floor_top : (row : RowAt) → IsRow row → 1 ≤ row.floor → row.floor < row_top row
floor_top row r l =
    let d = floor_decided row r l in
    omega (arith, named_top row.columns (row.floor + 1) d.0 (decision_named (slot_of (column_in row.columns (row.floor + 1))) d.0 d.1))

-- the rows show a value above each of their floors that was raised
pub floors_highest : (rows : List (Option RowAt)) → AreRows rows → 1 ≤ top_floor_of rows → top_floor_of rows < highest_of rows
floors_highest rows are l =
    elim (floor_reached rows) [
      | inl e ↦ absurd (omega arith)
      | inr w ↦ omega (arith, w.3, floor_top w.1 (are w.0 w.1 w.2) (omega (arith, w.3)), top_highest rows w.0 w.1 w.2)
    ]

-- a row with the floor has the version after it decided
pub floor_at : (rows : List (Option RowAt)) (floor s : ℕ) (row : Option RowAt) → slice_get rows s ≡ Some row → ((known : RowAt) → row ≡ Some known → IsRow known) → has_floor floor row ≡ true → 1 ≤ floor → IsFloorAt rows floor s
floor_at rows floor s None at keeps h l = absurd (false≢true h)
floor_at rows floor s (Some row) at keeps h l =
    let same : row.floor ≡ floor = eqb-true row.floor floor h in
    let d = floor_decided row (keeps row refl) (omega arith) in
    record { row = row; known = at; floor_is = same; name = d.0; decided = subst (λ (n : ℕ). row_decision row (n + 1) ≡ Some d.0) same d.1 }

-- one more place at which no row has the floor
pub floorless_more : (rows : List (Option RowAt)) (floor i : ℕ) (row : Option RowAt) → slice_get rows i ≡ Some row → has_floor floor row ≡ false →
    ((s : ℕ) (known : RowAt) → s < i → slice_get rows s ≡ Some (Some known) → known.floor ≢ floor) → (s : ℕ) (known : RowAt) → s < i + 1 → slice_get rows s ≡ Some (Some known) → known.floor ≢ floor
floorless_more rows floor i row at h before s known l e =
    elim (cases_eq s i) [
      | inl k ↦ λ (same : known.floor ≡ floor).
          let there : row ≡ Some known = same_Some row (Some known) (sym at ∙ subst (λ (n : ℕ). slice_get rows n ≡ Some (Some known)) k e) in
          both_ways (has_floor floor row) h (ap (has_floor floor) there ∙ eq-eqb known.floor floor same)
      | inr n ↦ before s known (omega arith) e
    ]

-- where the greatest floor was raised, some row has it
pub floor_somewhere : (rows : List (Option RowAt)) (floor : ℕ) → 1 ≤ floor → floor ≡ top_floor_of rows → ((s : ℕ) (row : RowAt) → slice_get rows s ≡ Some (Some row) → row.floor ≢ floor) → ⊥
floor_somewhere rows floor l top none =
    elim (floor_reached rows) [
      | inl e ↦ absurd (omega arith)
      | inr w ↦ none w.0 w.1 w.2 (w.3 ∙ sym top)
    ]

-- one more row, for the greatest floor
dropped : (rows : List (Option RowAt)) (i : ℕ) (row : Option RowAt) → slice_get rows i ≡ Some row → drop i rows ≡ row ∷ drop (suc i) rows
dropped [] i row e = absurd (none-some row e)
dropped (other ∷ rows) zero row e = ap (λ z. z ∷ rows) (same_Some other row e)
dropped (other ∷ rows) (suc i) row e = dropped rows i row e

pub top_floor_more : (rows : List (Option RowAt)) (i top here : ℕ) (row : Option RowAt) → slice_get rows i ≡ Some row → ((rest : List (Option RowAt)) → top_floor_of (row ∷ rest) ≡ max here (top_floor_of rest)) →
    top_floor_of rows ≡ max top (top_floor_of (drop i rows)) → top_floor_of rows ≡ max (max top here) (top_floor_of (drop (i + 1) rows))
top_floor_more rows i top here row at more h =
    let next : suc i ≡ i + 1 = omega arith in
    let step : top_floor_of (drop i rows) ≡ max here (top_floor_of (drop (suc i) rows)) = ap top_floor_of (dropped rows i row at) ∙ more (drop (suc i) rows) in
    subst (λ (k : ℕ). top_floor_of rows ≡ max (max top here) (top_floor_of (drop k rows))) next (omega (arith, h, step))

-- and for the rules that each row keeps
pub rows_more : (rows : List (Option RowAt)) (i : ℕ) (row : Option RowAt) → slice_get rows i ≡ Some row → ((known : RowAt) → row ≡ Some known → IsRow known) →
    ((s : ℕ) (known : RowAt) → s < i → slice_get rows s ≡ Some (Some known) → IsRow known) → (s : ℕ) (known : RowAt) → s < i + 1 → slice_get rows s ≡ Some (Some known) → IsRow known
rows_more rows i row at keeps before s known l e =
    elim (cases_eq s i) [
      | inl k ↦ keeps known (same_Some row (Some known) (sym at ∙ subst (λ (n : ℕ). slice_get rows n ≡ Some (Some known)) k e))
      | inr n ↦ before s known (omega arith) e
    ]

pub some_row : (o : Option RowAt) → is_some o ≡ true → (row : RowAt) × (o ≡ Some row)
some_row None h = absurd (false≢true h)
some_row (Some row) h = (row, refl)

-- a known row's floor lies at or below the greatest one
pub known_floor : (c : Config) (run : Run) (ms : List Action) → Knows c run ms → (s : ℕ) (row : RowAt) → s < c.n → rows_known ms s ≡ Some row → row.floor ≤ top_floor_of run.rows
known_floor c run ms k s row l e = floor_below run.rows s row (k.rows s l ∙ ap (λ o. Some o) e)

-- no version above the greatest floor was collected
pub none_gone : (c : Config) (run : Run) (ms : List Action) (v : ℕ) → Knows c run ms → top_floor_of run.rows < v → NoneGone c ms v
none_gone c run ms v k above s row l e = omega (arith, known_floor c run ms k s row l e)

-- a place at which a row is listed is one of a site
pub listed_inside : (c : Config) (run : Run) (ms : List Action) → Knows c run ms → (s : ℕ) (row : Option RowAt) → slice_get run.rows s ≡ Some row → s < c.n
listed_inside c run ms k s row e = omega (arith, k.rows_len, slice_get_within run.rows s row e)

-- a row with a floor that is listed was heard
pub floor_heard : (c : Config) (run : Run) (ms : List Action) (floor s : ℕ) (row : RowAt) → Knows c run ms → slice_get run.rows s ≡ Some (Some row) → row.floor ≡ floor → HasFloor c ms floor
floor_heard c run ms floor s row k at same =
    let inside : s < c.n = listed_inside c run ms k s (Some row) at in
    heard_one c (λ r. r.floor == floor) ms s row inside (known_heard ms s row (listed_known c run ms k s row inside at)) (eq-eqb row.floor floor same)

-- and so the greatest floor was, where some row is known
pub top_floor_heard : (c : Config) (run : Run) (ms : List Action) → Knows c run ms → 1 ≤ known_count c ms → HasFloor c ms (top_floor_of run.rows)
top_floor_heard c run ms k some =
    elim (floor_reached run.rows) [
      | inl none ↦ (
          let found = count_found c.n (λ s. is_some (rows_known ms s)) (omega arith) in
          let w = some_row (rows_known ms found.0) found.2 in
          let listed : slice_get run.rows found.0 ≡ Some (Some w.0) = k.rows found.0 found.1 ∙ ap (λ o. Some o) w.1 in
          floor_heard c run ms (top_floor_of run.rows) found.0 w.0 k listed (omega (arith, floor_below run.rows found.0 w.0 listed)))
      | inr w ↦ floor_heard c run ms (top_floor_of run.rows) w.0 w.1 k w.2 w.3
    ]
