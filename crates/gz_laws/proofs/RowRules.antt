-- Rows that keep the rule of rows, seen version by version: what is collected, and what their columns show.
use Rattle.std.proofs.Common.{◌≡◌, ◌≢◌, ℕ, ◌+◌, ◌≤◌, ◌<◌, inl, inr, List, [], ◌∷◌, Some, None, true, refl, ap, sym, ◌∙◌, arith}
use Rattle.std.proofs.lemmas.Bool.{cases_Bool, cases_lt, cond-true, eq-eqb}
use Rattle.std.proofs.lemmas.Bool.Decides.{nat_tests}
use Rattle.std.specs.Prelude.{Option, ◌==◌, nat_lt, nat_le, if◌then◌else◌}
use Rattle.gz_core.specs.Names.{Name, BallotAt}
use Rattle.gz_core.specs.Rows.{RowAt, IsRow, StartsDecided, IsDecided, column_in, empty_row}
use Rattle.gz_core.specs.Slots.{is_collected, slots, slot_of}
use Rattle.gz_core.specs.Values.{name_of}
use Rattle.gz_core.specs.declared.rows.Column.{Column}
use Rattle.gz_core.specs.declared.rows.Column.TheVariants.{Open, Decided}
use Rattle.gz_core.specs.declared.slots.Slot.TheVariants.{Gone, DecidedAs}
use Rattle.gz_core.specs.declared.values.Value.{Value}
use Rattle.gz_core.proofs.Columns.{none_below}
use Rattle.gz_accept.proofs.Seen.{slots_above}
use Rattle.gz_ledger.specs.Acceptors.{slot_votes}

-- the row of an object of which nothing is held keeps it
pub blank_rule : IsRow empty_row
blank_rule = record { rises = tt; columns = tt; starts = refl }

-- a version at or below a floor that was raised is collected
pub low_gone : (row : RowAt) (v : ℕ) → 1 ≤ v → v ≤ row.floor → slots row v ≡ Gone
low_gone row v first low =
    let raised : nat_lt 0 row.floor ≡ true = grind (arith, nat_tests) in
    let within : nat_le v row.floor ≡ true = grind (arith, nat_tests) in
    rw (raised, within) refl

-- and one that isn't collected lies above the floor
pub there_above : (row : RowAt) (v : ℕ) → 1 ≤ v → slots row v ≢ Gone → row.floor < v
there_above row v first there = elim (cases_lt row.floor v) [ inl l ↦ l | inr low ↦ absurd (there (low_gone row v first low)) ]

-- the first column above a floor that was raised is decided
decided_column : (column : Column) → IsDecided column → (value : Value) × (column ≡ Decided value)
decided_column (Open promise vote) h = absurd h
decided_column (Decided value) h = (value, refl)

decided_above : (floor : ℕ) (cs : List (ℕ × Column)) → 1 ≤ floor → StartsDecided floor cs → (value : Value) × (column_in cs (floor + 1) ≡ Some (Decided value))
decided_above floor [] positive starts = absurd (omega (arith, positive, starts))
decided_above floor (c ∷ cs) positive (inl none) = absurd (omega (arith, positive, none))
decided_above floor (c ∷ cs) positive (inr first) =
    let d = decided_column c.1 first.1 in
    (d.0, cond-true (c.0 == floor + 1) (Some c.1) (column_in cs (floor + 1)) (eq-eqb c.0 (floor + 1) first.0) ∙ ap Some d.1)

-- a version that has a column lies above the floor
pub column_above : (row : RowAt) (v : ℕ) → IsRow row → column_in row.columns v ≢ None → row.floor < v
column_above row v rule there = elim (cases_lt row.floor v) [ inl l ↦ l | inr low ↦ absurd (there (none_below v row.floor row.columns low rule.rises)) ]

-- and shows its column
pub slots_found : (row : RowAt) (v : ℕ) → IsRow row → column_in row.columns v ≢ None → slots row v ≡ slot_of (column_in row.columns v)
slots_found row v rule there = slots_above row v (column_above row v rule there)

-- above a floor that was raised stands a value that is decided
pub floor_shows : (row : RowAt) → IsRow row → 1 ≤ row.floor → (x : Name) × (slots row (row.floor + 1) ≡ DecidedAs x)
floor_shows row rule raised =
    let d = decided_above row.floor row.columns raised rule.starts in
    (name_of d.0, slots_found row (row.floor + 1) rule (λ e. some_there (column_in row.columns (row.floor + 1)) d.0 d.1 e) ∙ ap slot_of d.1)
  where
    some_there : (o : Option Column) (value : Value) → o ≡ Some (Decided value) → o ≡ None → ⊥
    some_there o value e h = let bad : Some (Decided value) ≡ None = sym e ∙ h in cc

-- a version shows a vote exactly where its column has it: what is collected has neither
pub slots_cast : (row : RowAt) (v : ℕ) (b : BallotAt) (x : Name) → IsRow row → slot_votes (slots row v) b x ≡ slot_votes (slot_of (column_in row.columns v)) b x
slots_cast row v b x rule = elim (cases_Bool (is_collected row v)) [
  | inl e ↦ (let low : v ≤ row.floor = grind (arith, nat_tests) in
      ap (λ t. slot_votes (if t then Gone else slot_of (column_in row.columns v)) b x) e ∙ sym (ap (λ o. slot_votes (slot_of o) b x) (none_below v row.floor row.columns low rule.rises)))
  | inr e ↦ ap (λ t. slot_votes (if t then Gone else slot_of (column_in row.columns v)) b x) e
]
