-- What a row shows, against its columns: the greatest version, names, and what a run can hold.
use Rattle.std.proofs.Common.{◌≡◌, ℕ, zero, suc, ◌<◌, ◌≤◌, ◌^◌, max, Bool, true, false, cond, ◌&&◌, ◌==◌, nat_lt, List, [], ◌∷◌, length, Option, Some, None, refl, sym, ap, ◌∙◌, subst, inl, inr, ◌⊎◌, arith, leb}
use Rattle.std.specs.List.{slice_get, list_all}
use Rattle.std.specs.Prelude.{IsSome}
use Rattle.std.proofs.lemmas.Bool.{cases_Bool, cond-true, cond-false, and_parts, ltb-true, eqb-true, cases_lt}
use Rattle.std.proofs.lemmas.Option.{same_Some, none-some}
use Rattle.gz_core.specs.Names.{Name}
use Rattle.gz_core.specs.Values.{name_of}
use Rattle.gz_core.specs.Rows.{RowAt, empty_row, column_in}
use Rattle.gz_core.specs.Slots.{slots, slot_of, slot_name}
use Rattle.gz_core.specs.declared.slots.Slot.{Slot}
use Rattle.gz_core.specs.declared.slots.Slot.TheVariants.{Gone}
use Rattle.gz_core.specs.declared.values.Value.{Value}
use Rattle.gz_core.specs.declared.rows.Column.{Column}
use Rattle.gz_core.specs.declared.rows.Column.TheVariants.{Open, Decided}
use Rattle.gz_pick.specs.Looks.{row_top, top_in, row_name, shows_value, highest_of}
use Rattle.gz_round.specs.Sites.{can_stand, entry_stands, column_stands, vote_stands}
use Rattle.gz_round.specs.Rounds.{slot_round}
use Rattle.gz_round.specs.Causes.{row_value, column_value}

-- a column that names a value shows one
name_shows : (column : Column) (x : Name) → slot_name (slot_of (Some column)) ≡ Some x → shows_value column ≡ true
name_shows (Open promise None) x e = absurd (none-some x e)
name_shows (Open promise (Some vote)) x e = refl
name_shows (Decided value) x e = refl

top_step : (shown : Bool) (v rest : ℕ) → rest ≤ cond shown (max v rest) rest
top_step true v rest = omega arith
top_step false v rest = omega arith

top_here : (shown : Bool) (v rest : ℕ) → shown ≡ true → v ≤ cond shown (max v rest) rest
top_here true v rest e = omega arith
top_here false v rest e = absurd (cc)

-- a version at which the columns name a value is at most the greatest one that shows a value
pub named_top : (columns : List (ℕ × Column)) (v : ℕ) (x : Name) → slot_name (slot_of (column_in columns v)) ≡ Some x → v ≤ top_in columns
named_top [] v x e = absurd (none-some x e)
named_top (c ∷ cs) v x e =
    elim (cases_Bool (c.0 == v)) [
      | inl h ↦ (
          let found : column_in (c ∷ cs) v ≡ Some c.1 = cond-true (c.0 == v) (Some c.1) (column_in cs v) h in
          let same : c.0 ≡ v = eqb-true c.0 v h in
          let shown : shows_value c.1 ≡ true = name_shows c.1 x (sym (ap (λ column. slot_name (slot_of column)) found) ∙ e) in
          let here : c.0 ≤ top_in (c ∷ cs) = top_here (shows_value c.1) c.0 (top_in cs) shown in
          omega arith)
      | inr h ↦ (
          let found : column_in (c ∷ cs) v ≡ column_in cs v = cond-false (c.0 == v) (Some c.1) (column_in cs v) h in
          let rest : v ≤ top_in cs = named_top cs v x (sym (ap (λ column. slot_name (slot_of column)) found) ∙ e) in
          let here : top_in cs ≤ top_in (c ∷ cs) = top_step (shows_value c.1) c.0 (top_in cs) in
          omega arith)
    ]

low_step : (shown : Bool) (v rest : ℕ) → v < 2 ^ 62 → rest < 2 ^ 62 → cond shown (max v rest) rest < 2 ^ 62
low_step true v rest h k = omega arith
low_step false v rest h k = omega arith

low_columns : (n : ℕ) (columns : List (ℕ × Column)) → list_all (entry_stands n) columns ≡ true → top_in columns < 2 ^ 62
low_columns n [] h = omega arith
low_columns n (c ∷ cs) h =
    let both : (entry_stands n c ≡ true) × (list_all (entry_stands n) cs ≡ true) = and_parts (entry_stands n c) (list_all (entry_stands n) cs) h in
    let parts : (nat_lt c.0 (2 ^ 62) ≡ true) × (column_stands n c.1 ≡ true) = and_parts (nat_lt c.0 (2 ^ 62)) (column_stands n c.1) both.0 in
    let low : c.0 < 2 ^ 62 = ltb-true c.0 (2 ^ 62) parts.0 in
    low_step (shows_value c.1) c.0 (top_in cs) low (low_columns n cs both.1)

-- the columns of a row that a run can hold
stand_columns : (n : ℕ) (row : RowAt) → can_stand n row ≡ true → list_all (entry_stands n) row.columns ≡ true
stand_columns n row h =
    let outer : (nat_lt row.floor (2 ^ 62) ≡ true) × ((nat_lt (length row.columns) (2 ^ 22) && list_all (entry_stands n) row.columns) ≡ true) = and_parts (nat_lt row.floor (2 ^ 62)) (nat_lt (length row.columns) (2 ^ 22) && list_all (entry_stands n) row.columns) h in
    (and_parts (nat_lt (length row.columns) (2 ^ 22)) (list_all (entry_stands n) row.columns) outer.1).1

-- a row that a run can hold shows no version beyond those that a run reaches
pub stands_low : (n : ℕ) (row : RowAt) → can_stand n row ≡ true → row_top row < 2 ^ 62
stands_low n row h = low_columns n row.columns (stand_columns n row h)

-- nor has it a floor beyond those
pub stands_floor : (n : ℕ) (row : RowAt) → can_stand n row ≡ true → row.floor < 2 ^ 62
stands_floor n row h = ltb-true row.floor (2 ^ 62) (and_parts (nat_lt row.floor (2 ^ 62)) (nat_lt (length row.columns) (2 ^ 22) && list_all (entry_stands n) row.columns) h).0

round_column : (n : ℕ) (column : Column) → column_stands n column ≡ true → slot_round (slot_of (Some column)) < 2 ^ 31
round_column n (Open promise vote) h = ltb-true promise.round (2 ^ 31) (and_parts (nat_lt promise.round (2 ^ 31)) (vote_stands n vote) h).0
round_column n (Decided value) h = omega arith

round_columns : (n : ℕ) (columns : List (ℕ × Column)) (v : ℕ) → list_all (entry_stands n) columns ≡ true → slot_round (slot_of (column_in columns v)) < 2 ^ 31
round_columns n [] v h = omega arith
round_columns n (c ∷ cs) v h =
    let both : (entry_stands n c ≡ true) × (list_all (entry_stands n) cs ≡ true) = and_parts (entry_stands n c) (list_all (entry_stands n) cs) h in
    let parts : (nat_lt c.0 (2 ^ 62) ≡ true) × (column_stands n c.1 ≡ true) = and_parts (nat_lt c.0 (2 ^ 62)) (column_stands n c.1) both.0 in
    elim (cases_Bool (c.0 == v)) [
      | inl e ↦ subst (λ (o : Option Column). slot_round (slot_of o) < 2 ^ 31) (sym (cond-true (c.0 == v) (Some c.1) (column_in cs v) e)) (round_column n c.1 parts.1)
      | inr e ↦ subst (λ (o : Option Column). slot_round (slot_of o) < 2 ^ 31) (sym (cond-false (c.0 == v) (Some c.1) (column_in cs v) e)) (round_columns n cs v both.1)
    ]

-- and promises no round beyond those
pub stands_round : (n : ℕ) (row : RowAt) (v : ℕ) → can_stand n row ≡ true → slot_round (slots row v) < 2 ^ 31
stands_round n row v h =
    elim (cases_Bool (nat_lt 0 row.floor && leb v row.floor)) [
      | inl e ↦ subst (λ (s : Slot). slot_round s < 2 ^ 31) (sym (cond-true (nat_lt 0 row.floor && leb v row.floor) Gone (slot_of (column_in row.columns v)) e)) (let low : 0 < 2 ^ 31 = omega arith in low)
      | inr e ↦ subst (λ (s : Slot). slot_round s < 2 ^ 31) (sym (cond-false (nat_lt 0 row.floor && leb v row.floor) Gone (slot_of (column_in row.columns v)) e)) (round_columns n row.columns v (stand_columns n row h))
    ]

pub empty_stands : (n : ℕ) → can_stand n empty_row ≡ true
empty_stands n = refl

-- a row has a value at a version at which it names one
columns_valued : (column : Option Column) (x : Name) → slot_name (slot_of column) ≡ Some x → IsSome (column_value column)
columns_valued None x e = absurd (none-some x e)
columns_valued (Some (Open promise None)) x e = absurd (none-some x e)
columns_valued (Some (Open promise (Some vote))) x e = refl
columns_valued (Some (Decided value)) x e = refl

pub named_has : (row : RowAt) (v : ℕ) (x : Name) → row_name row v ≡ Some x → IsSome (row_value row v)
named_has row v x e = columns_valued (column_in row.columns v) x e

-- the value that an answer gives has the name that the row shows
put_named : (column : Column) (x : Name) (value : Value) → slot_name (slot_of (Some column)) ≡ Some x → column_value (Some column) ≡ Some value → name_of value ≡ x
put_named (Open promise None) x value e k = absurd (none-some x e)
put_named (Open promise (Some vote)) x value e k = ap name_of (sym (same_Some vote.value value k)) ∙ same_Some (name_of vote.value) x e
put_named (Decided own) x value e k = ap name_of (sym (same_Some own value k)) ∙ same_Some (name_of own) x e

columns_named : (column : Option Column) (x : Name) (value : Value) → slot_name (slot_of column) ≡ Some x → column_value column ≡ Some value → name_of value ≡ x
columns_named None x value e k = absurd (none-some x e)
columns_named (Some column) x value e k = put_named column x value e k

-- a row names the value that it has
pub value_named : (row : RowAt) (v : ℕ) (x : Name) (value : Value) → row_name row v ≡ Some x → row_value row v ≡ Some value → name_of value ≡ x
value_named row v x value e k = columns_named (column_in row.columns v) x value e k

-- the highest version of some rows is above each of them
pub top_highest : (rows : List (Option RowAt)) (s : ℕ) (row : RowAt) → slice_get rows s ≡ Some (Some row) → row_top row ≤ highest_of rows
top_highest [] s row e = absurd (cc)
top_highest (None ∷ rows) zero row e = absurd (cc)
top_highest (None ∷ rows) (suc s) row e = top_highest rows s row e
top_highest (Some other ∷ rows) zero row e =
    let same : other ≡ row = same_Some other row (same_Some (Some other) (Some row) e) in
    let tops : row_top other ≡ row_top row = ap row_top same in
    omega arith
top_highest (Some other ∷ rows) (suc s) row e = omega (arith, top_highest rows s row e)

-- and it is reached, or nothing is shown
pub highest_reached : (rows : List (Option RowAt)) → (highest_of rows ≡ 0) ⊎ ((s : ℕ) × (row : RowAt) × (slice_get rows s ≡ Some (Some row)) × (row_top row ≡ highest_of rows))
highest_reached [] = inl refl
highest_reached (None ∷ rows) =
    elim (highest_reached rows) [
      | inl e ↦ inl e
      | inr w ↦ inr (suc w.0, w.1, w.2, w.3)
    ]
highest_reached (Some row ∷ rows) =
    elim (cases_lt (row_top row) (highest_of rows)) [
      | inl l ↦ elim (highest_reached rows) [
        | inl e ↦ absurd (omega arith)
        | inr w ↦ inr (suc w.0, w.1, w.2, omega (arith, w.3))
      ]
      | inr l ↦ inr (zero, row, refl, omega arith)
    ]

-- a bound of each row is a bound of them all
pub highest_below : (rows : List (Option RowAt)) (bound : ℕ) → 0 < bound → ((s : ℕ) (row : RowAt) → slice_get rows s ≡ Some (Some row) → row_top row < bound) → highest_of rows < bound
highest_below rows bound pos h =
    elim (highest_reached rows) [
      | inl e ↦ omega arith
      | inr w ↦ omega (arith, h w.0 w.1 w.2, w.3)
    ]
