-- The rule of a row, over one column put in place and over columns that are collected.
use Rattle.std.proofs.Common.{◌≡◌, ℕ, ◌+◌, ◌<◌, ◌≤◌, true, false, List, [], ◌∷◌, refl, sym, subst, inl, inr, arith, nat_lt}
use Rattle.std.specs.Prelude.{filter, ◌==◌, Result, Ok, Err, OnOk, OnErr}
use Rattle.std.proofs.lemmas.Bool.{cases_Bool}
use Rattle.std.proofs.lemmas.Bool.Decides.{nat_tests}
use Rattle.gz_core.specs.Rows.{RowAt, IsRow, Rises, AreColumns, IsColumn, StartsDecided, column_in}
use Rattle.gz_core.specs.Slots.{slots, slot_of}
use Rattle.gz_core.specs.declared.values.Value.{Value}
use Rattle.gz_core.specs.declared.rows.Column.{Column}
use Rattle.gz_core.specs.declared.rows.Column.TheVariants.{Open, Decided}
use Rattle.gz_accept.specs.Steps.{with_column, with_column_at, trimmed_to, IsOpenSlot}
use Rattle.gz_accept.proofs.Seen.{open_above, open_there, slots_there}

-- a lower bound serves too
pub rises_from : (a b : ℕ) (cs : List (ℕ × Column)) → a ≤ b → Rises b cs → Rises a cs
rises_from a b [] low rises = tt
rises_from a b (c ∷ cs) low rises = let head = rises.0 in (omega arith, rises.1)

pub rises_with : (v bound : ℕ) (column : Column) (cs : List (ℕ × Column)) → bound < v → Rises bound cs → Rises bound (with_column v column cs)
rises_with v bound column [] above rises = (above, tt)
rises_with v bound column (c ∷ cs) above rises =
    elim (cases_Bool (nat_lt c.0 v)) [
      | inl e ↦ let below : c.0 < v = grind (arith, nat_tests) in rw e (rises.0, rises_with v c.0 column cs below rises.1)
      | inr e ↦ rw e (elim (cases_Bool (nat_lt v c.0)) [
        | inl f ↦ let below : v < c.0 = grind (arith, nat_tests) in rw f (above, (below, rises.1))
        | inr f ↦ let same : c.0 ≡ v = grind (arith, nat_tests) in rw f (above, subst (λ (u : ℕ). Rises u cs) same rises.1)
      ])
    ]

pub columns_with : (v : ℕ) (column : Column) (cs : List (ℕ × Column)) → IsColumn column → AreColumns cs → AreColumns (with_column v column cs)
columns_with v column [] rule rules = (rule, tt)
columns_with v column (c ∷ cs) rule rules =
    elim (cases_Bool (nat_lt c.0 v)) [
      | inl e ↦ rw e (rules.0, columns_with v column cs rule rules.1)
      | inr e ↦ rw e (elim (cases_Bool (nat_lt v c.0)) [ inl f ↦ rw f (rule, rules) | inr f ↦ rw f (rule, rules.1) ])
    ]

-- above a raised floor the first column is decided, so one that is open does not come before it or replace it
pub starts_with : (v floor : ℕ) (column : Column) (cs : List (ℕ × Column)) → floor < v → IsOpenSlot (slot_of (column_in cs v)) → StartsDecided floor cs → StartsDecided floor (with_column v column cs)
starts_with v floor column [] above free starts = inl starts
starts_with v floor column (c ∷ cs) above free (inl none) =
    elim (cases_Bool (nat_lt c.0 v)) [
      | inl e ↦ rw e (inl none)
      | inr e ↦ rw e (elim (cases_Bool (nat_lt v c.0)) [ inl f ↦ rw f (inl none) | inr f ↦ rw f (inl none) ])
    ]
starts_with v floor column ((u, Decided value) ∷ cs) above free (inr first) =
    elim (cases_Bool (u == v)) [
      | inl e ↦ absurd (rw e at free)
      | inr e ↦ let place = first.0 in let below : nat_lt u v ≡ true = grind (arith, nat_tests) in rw below (inr first)
    ]
starts_with v floor column ((u, Open promise vote) ∷ cs) above free (inr first) = absurd first.1

pub row_with : (row : RowAt) (v : ℕ) (column : Column) → IsRow row → 1 ≤ v → IsColumn column → IsOpenSlot (slots row v) → IsRow (with_column_at row v column)
row_with row v column rule first kept free =
    let above = open_above row v first free in
    let vacant : IsOpenSlot (slot_of (column_in row.columns v)) = subst IsOpenSlot (slots_there row v (open_there (slots row v) free)) free in
    record {
      rises = rises_with v row.floor column row.columns above rule.rises;
      columns = columns_with v column row.columns kept rule.columns;
      starts = starts_with v row.floor column row.columns above vacant rule.starts;
    }

-- the columns above a version rise from it on
pub rises_filter : (bound to : ℕ) (cs : List (ℕ × Column)) → Rises bound cs → Rises bound (filter (λ c. nat_lt to c.0) cs)
rises_filter bound to [] rises = tt
rises_filter bound to (c ∷ cs) rises =
    elim (cases_Bool (nat_lt to c.0)) [
      | inl e ↦ rw e (rises.0, rises_filter c.0 to cs rises.1)
      | inr e ↦ let head = rises.0 in rw e (rises_from bound c.0 _ (omega arith) (rises_filter c.0 to cs rises.1))
    ]

pub rises_above : (bound to : ℕ) (cs : List (ℕ × Column)) → Rises bound cs → Rises to (filter (λ c. nat_lt to c.0) cs)
rises_above bound to [] rises = tt
rises_above bound to (c ∷ cs) rises =
    elim (cases_Bool (nat_lt to c.0)) [
      | inl e ↦ let above : to < c.0 = grind (arith, nat_tests) in rw e (above, rises_filter c.0 to cs rises.1)
      | inr e ↦ rw e (rises_above c.0 to cs rises.1)
    ]

pub columns_filter : (to : ℕ) (cs : List (ℕ × Column)) → AreColumns cs → AreColumns (filter (λ c. nat_lt to c.0) cs)
columns_filter to [] rules = tt
columns_filter to (c ∷ cs) rules =
    elim (cases_Bool (nat_lt to c.0)) [
      | inl e ↦ rw e (rules.0, columns_filter to cs rules.1)
      | inr e ↦ rw e (columns_filter to cs rules.1)
    ]

-- the column above a new floor is the first that is left
pub starts_trimmed : (to : ℕ) (value : Value) (cs : List (ℕ × Column)) → StartsDecided to (filter (λ c. nat_lt to c.0) (with_column (to + 1) (Decided value) cs))
starts_trimmed to value [] = let next : nat_lt to (to + 1) ≡ true = grind (arith, nat_tests) in rw next (inr (refl, tt))
starts_trimmed to value (c ∷ cs) =
    let next : nat_lt to (to + 1) ≡ true = grind (arith, nat_tests) in
    elim (cases_Bool (nat_lt c.0 (to + 1))) [
      | inl e ↦ let gone : nat_lt to c.0 ≡ false = grind (arith, nat_tests) in rw (e, gone) (starts_trimmed to value cs)
      | inr e ↦ rw e (elim (cases_Bool (nat_lt (to + 1) c.0)) [ inl f ↦ rw (f, next) (inr (refl, tt)) | inr f ↦ rw (f, next) (inr (refl, tt)) ])
    ]

pub row_trimmed : (row : RowAt) (to : ℕ) (value : Value) → IsRow row → row.floor < to → IsRow (trimmed_to row to value)
row_trimmed row to value rule above = record {
  rises = rises_above row.floor to _ (rises_with (to + 1) row.floor (Decided value) row.columns (omega arith) rule.rises);
  columns = columns_filter to _ (columns_with (to + 1) (Decided value) row.columns tt rule.columns);
  starts = starts_trimmed to value row.columns;
}

-- a column put in place, or an unchanged row where memory ran out
pub row_put : {E : Type 0} (row : RowAt) (v : ℕ) (column : Column) (floor : ℕ) (before after : List (ℕ × Column)) (result : Result (Unit {0}) E) →
    record { floor = floor; columns = before } ≡ row → IsRow (record { floor = floor; columns = before }) → 1 ≤ v → IsColumn column → IsOpenSlot (slots row v) →
    OnOk result (after ≡ with_column v column before) → OnErr result (after ≡ before) → IsRow (record { floor = floor; columns = after })
row_put row v column floor before after (Ok done) seen rule first kept free put same =
    let old : RowAt = record { floor = floor; columns = before } in
    let vacant : IsOpenSlot (slots old v) = subst (λ (r : RowAt). IsOpenSlot (slots r v)) (sym seen) free in
    subst (λ (cs : List (ℕ × Column)). IsRow (record { floor = floor; columns = cs })) (sym put) (row_with old v column rule first kept vacant)
row_put row v column floor before after (Err failed) seen rule first kept free put same =
    subst (λ (cs : List (ℕ × Column)). IsRow (record { floor = floor; columns = cs })) (sym same) rule

-- what a collection leaves
pub row_collected : (row : RowAt) (to : ℕ) (value : Value) (floor : ℕ) (before after : List (ℕ × Column)) →
    record { floor = floor; columns = before } ≡ row → IsRow (record { floor = floor; columns = before }) → row.floor < to → after ≡ filter (λ c. nat_lt to c.0) (with_column (to + 1) (Decided value) before) → IsRow (record { floor = to; columns = after })
row_collected row to value floor before after seen rule above left =
    let old : RowAt = record { floor = floor; columns = before } in
    let over : floor < to = subst (λ (r : RowAt). r.floor < to) (sym seen) above in
    subst (λ (cs : List (ℕ × Column)). IsRow (record { floor = to; columns = cs })) (sym left) (row_trimmed old to value rule over)
