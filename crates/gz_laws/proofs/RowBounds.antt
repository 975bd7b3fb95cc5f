-- Rows whose versions and rounds are bounded.
use Rattle.std.proofs.Common.{◌≡◌, ℕ, zero, suc, ◌+◌, ◌^◌, ◌≤◌, ◌<◌, inl, inr, List, [], ◌∷◌, Some, None, true, false, length, refl, ap, sym, ◌∙◌, subst, arith}
use Rattle.std.proofs.lemmas.Bool.{cases_Bool, cases_eq, and_from}
use Rattle.std.proofs.lemmas.Bool.Decides.{nat_tests}
use Rattle.std.specs.Prelude.{Option, ◌==◌, ◌&&◌, max, nat_lt, if◌then◌else◌, filter}
use Rattle.std.specs.List.{list_all}
use Rattle.gz_core.specs.Names.{Name, BallotAt}
use Rattle.gz_core.specs.Rows.{RowAt, Rises, StartsDecided, column_in}
use Rattle.gz_core.specs.Slots.{is_collected, slot_of, slot_vote, slot_decision}
use Rattle.gz_core.specs.declared.slots.Slot.TheVariants.{Gone}
use Rattle.gz_core.specs.declared.rows.Column.{Column}
use Rattle.gz_core.specs.declared.rows.Column.TheVariants.{Open, Decided}
use Rattle.gz_accept.specs.Steps.{with_column}
use Rattle.gz_pick.specs.Evidences.{is_for, is_named, votes_for, decides}
use Rattle.gz_pick.specs.Looks.{shows_value, top_in}
use Rattle.gz_round.specs.Rounds.{slot_round, round_known, greatest}
use Rattle.gz_round.specs.Sites.{value_stands, column_stands, entry_stands, can_stand}
use Rattle.gz_round.specs.Shown.{column_value, row_value}
use Rattle.gz_core.proofs.Columns.{none_below}
use Rattle.std.proofs.lemmas.Option.{none-some}
use Rattle.gz_core.specs.declared.values.Value.{Value}
use Rattle.gz_laws.specs.Bounded.{IsColumnWithin, AreColumnsWithin, IsRowWithin}
use Rattle.gz_laws.proofs.Growing.{first_seen}

-- wider bounds
column_wider : (r q : ℕ) (column : Column) → r ≤ q → IsColumnWithin r column → IsColumnWithin q column
column_wider r q (Open promise vote) le h = omega (arith, le, h)
column_wider r q (Decided value) le h = tt

columns_wider : (v w r q : ℕ) (cs : List (ℕ × Column)) → v ≤ w → r ≤ q → AreColumnsWithin v r cs → AreColumnsWithin w q cs
columns_wider v w r q [] a b h = tt
columns_wider v w r q (c ∷ cs) a b h = let l = h.0 in (omega (arith, a, l), (column_wider r q c.1 b h.1.0, columns_wider v w r q cs a b h.1.1))

pub row_wider : (v w r q : ℕ) (row : RowAt) → v ≤ w → r ≤ q → IsRowWithin v r row → IsRowWithin w q row
row_wider v w r q row a b h = record { rule = h.rule; columns = columns_wider v w r q row.columns a b h.columns }

-- a column that is there
pub column_there : (versions rounds : ℕ) (cs : List (ℕ × Column)) (v : ℕ) (column : Column) → AreColumnsWithin versions rounds cs → column_in cs v ≡ Some column → (v ≤ versions) × IsColumnWithin rounds column
column_there versions rounds [] v column h e = cc
column_there versions rounds (c ∷ cs) v column h e =
    elim (cases_eq c.0 v) [
      | inl same ↦ (let t : (c.0 == v) ≡ true = grind (arith, nat_tests) in
          let here : Some c.1 ≡ Some column = sym (ap (λ b. if b then Some c.1 else column_in cs v) t) ∙ e in
          let is : c.1 ≡ column = cc in
          let l = h.0 in
          (omega (arith, same, l), subst (λ (k : Column). IsColumnWithin rounds k) is h.1.0))
      | inr apart ↦ (let t : (c.0 == v) ≡ false = grind (arith, nat_tests) in
          column_there versions rounds cs v column h.1.1 (sym (ap (λ b. if b then Some c.1 else column_in cs v) t) ∙ e))
    ]

-- one column more, or another one
pub columns_with : (versions rounds v : ℕ) (column : Column) (cs : List (ℕ × Column)) → v ≤ versions → IsColumnWithin rounds column → AreColumnsWithin versions rounds cs → AreColumnsWithin versions rounds (with_column v column cs)
columns_with versions rounds v column [] le is h = (le, (is, tt))
columns_with versions rounds v column (c ∷ cs) le is h =
    elim (nat_lt c.0 v) as (λ t. AreColumnsWithin versions rounds (if t then c ∷ with_column v column cs else (if nat_lt v c.0 then (v, column) ∷ c ∷ cs else (v, column) ∷ cs))) [
      | true ↦ (h.0, (h.1.0, columns_with versions rounds v column cs le is h.1.1))
      | false ↦ elim (nat_lt v c.0) as (λ t. AreColumnsWithin versions rounds (if t then (v, column) ∷ c ∷ cs else (v, column) ∷ cs)) [ true ↦ (le, (is, h)) | false ↦ (le, (is, h.1.1)) ]
    ]

-- what is left of columns
pub columns_left : (versions rounds to : ℕ) (cs : List (ℕ × Column)) → AreColumnsWithin versions rounds cs → AreColumnsWithin versions rounds (filter (λ c. nat_lt to c.0) cs)
columns_left versions rounds to [] h = tt
columns_left versions rounds to (c ∷ cs) h =
    elim (cases_Bool (nat_lt to c.0)) [
      | inl e ↦ rw e (h.0, (h.1.0, columns_left versions rounds to cs h.1.1))
      | inr e ↦ rw e (columns_left versions rounds to cs h.1.1)
    ]

-- the greatest version with a value
pub top_within : (versions rounds : ℕ) (cs : List (ℕ × Column)) → AreColumnsWithin versions rounds cs → top_in cs ≤ versions
top_within versions rounds [] h = omega arith
top_within versions rounds (c ∷ cs) h =
    let l = h.0 in
    let r = top_within versions rounds cs h.1.1 in
    elim (shows_value c.1) as (λ t. (if t then max c.0 (top_in cs) else top_in cs) ≤ versions) [ true ↦ omega (arith, l, r) | false ↦ r ]

-- a vote or a decision that a row has
vote_there : (o : Option Column) (b : BallotAt) (x : Name) → is_for b x (slot_vote (slot_of o)) ≡ true → (column : Column) × (o ≡ Some column)
vote_there None b x h = cc
vote_there (Some column) b x h = (column, refl)

decision_there : (o : Option Column) (x : Name) → is_named x (slot_decision (slot_of o)) ≡ true → (column : Column) × (o ≡ Some column)
decision_there None x h = cc
decision_there (Some column) x h = (column, refl)

pub vote_within : (versions rounds : ℕ) (row : RowAt) (v : ℕ) (b : BallotAt) (x : Name) → IsRowWithin versions rounds row → votes_for b x v (Some row) ≡ true → v ≤ versions
vote_within versions rounds row v b x h e = let k = vote_there (column_in row.columns v) b x e in (column_there versions rounds row.columns v k.0 h.columns k.1).0

pub decision_within : (versions rounds : ℕ) (row : RowAt) (v : ℕ) (x : Name) → IsRowWithin versions rounds row → decides x v (Some row) ≡ true → v ≤ versions
decision_within versions rounds row v x h e = let k = decision_there (column_in row.columns v) x e in (column_there versions rounds row.columns v k.0 h.columns k.1).0

-- at a version above 0
pub vote_above : (versions rounds : ℕ) (row : RowAt) (v : ℕ) (b : BallotAt) (x : Name) → IsRowWithin versions rounds row → votes_for b x v (Some row) ≡ true → 1 ≤ v
vote_above versions rounds row v b x h e = let k = vote_there (column_in row.columns v) b x e in first_seen row v h.rule (λ none. let bad : None ≡ Some k.0 = sym none ∙ k.1 in cc)

pub decision_above : (versions rounds : ℕ) (row : RowAt) (v : ℕ) (x : Name) → IsRowWithin versions rounds row → decides x v (Some row) ≡ true → 1 ≤ v
decision_above versions rounds row v x h e = let k = decision_there (column_in row.columns v) x e in first_seen row v h.rule (λ none. let bad : None ≡ Some k.0 = sym none ∙ k.1 in cc)

-- the round that a row promises
slot_within : (rounds : ℕ) (o : Option Column) → ((column : Column) → o ≡ Some column → IsColumnWithin rounds column) → slot_round (slot_of o) ≤ rounds
slot_within rounds None h = omega arith
slot_within rounds (Some (Open promise vote)) h = h (Open promise vote) refl
slot_within rounds (Some (Decided value)) h = omega arith

pub round_within : (versions rounds : ℕ) (row : RowAt) (v : ℕ) → IsRowWithin versions rounds row → round_known v (Some row) ≤ rounds
round_within versions rounds row v h =
    elim (is_collected row v) as (λ t. slot_round (if t then Gone else slot_of (column_in row.columns v)) ≤ rounds) [
      | true ↦ omega arith
      | false ↦ slot_within rounds (column_in row.columns v) (λ column e. (column_there versions rounds row.columns v column h.columns e).1)
    ]

pub greatest_within : (n most : ℕ) (f : ℕ → ℕ) → ((i : ℕ) → f i ≤ most) → greatest n f ≤ most
greatest_within zero most f h = omega arith
greatest_within (suc n) most f h = let r = greatest_within n most f h in let l = h n in omega (arith, r, l)

-- versions that rise are not more than the greatest of them
rises_most : (versions rounds bound : ℕ) (cs : List (ℕ × Column)) → Rises bound cs → AreColumnsWithin versions rounds cs → bound ≤ versions → length cs + bound ≤ versions
rises_most versions rounds bound [] rises h le = omega (arith, le)
rises_most versions rounds bound (c ∷ cs) rises h le = let r = rises_most versions rounds c.0 cs rises.1 h.1.1 h.0 in let above = rises.0 in omega (arith, r, above)

-- above a floor that was raised stands a column
pub floor_within : (versions rounds floor : ℕ) (cs : List (ℕ × Column)) → StartsDecided floor cs → AreColumnsWithin versions rounds cs → floor ≤ versions
floor_within versions rounds floor [] starts h = omega (arith, starts)
floor_within versions rounds floor (c ∷ cs) (inl none) h = omega (arith, none)
floor_within versions rounds floor (c ∷ cs) (inr first) h = let next = first.0 in let low = h.0 in omega (arith, next, low)

-- whose values have their fragments at sites
abbrev pub AreStanding : ℕ → RowAt → Type 0
AreStanding n row = (v : ℕ) (x : Value) → row_value row v ≡ Some x → value_stands n x ≡ true

column_can : (n rounds : ℕ) (column : Column) → rounds < 2 ^ 31 → IsColumnWithin rounds column → ((x : Value) → column_value (Some column) ≡ Some x → value_stands n x ≡ true) → column_stands n column ≡ true
column_can n rounds (Open promise None) few h stands = let t : nat_lt promise.round (2 ^ 31) ≡ true = grind (arith, nat_tests) in and_from (nat_lt promise.round (2 ^ 31)) true t refl
column_can n rounds (Open promise (Some vote)) few h stands = let t : nat_lt promise.round (2 ^ 31) ≡ true = grind (arith, nat_tests) in and_from (nat_lt promise.round (2 ^ 31)) (value_stands n vote.value) t (stands vote.value refl)
column_can n rounds (Decided value) few h stands = stands value refl

-- the values of the first column, and of the others
head_value : (c : ℕ × Column) (cs : List (ℕ × Column)) (x : Value) → column_value (Some c.1) ≡ Some x → column_value (column_in (c ∷ cs) c.0) ≡ Some x
head_value c cs x e = let t : (c.0 == c.0) ≡ true = grind (arith, nat_tests) in ap (λ b. column_value (if b then Some c.1 else column_in cs c.0)) t ∙ e

tail_value : (c : ℕ × Column) (cs : List (ℕ × Column)) (v : ℕ) (x : Value) → Rises c.0 cs → column_value (column_in cs v) ≡ Some x → column_value (column_in (c ∷ cs) v) ≡ Some x
tail_value c cs v x rises e = elim (cases_eq c.0 v) [
  | inl same ↦ absurd (none-some x (sym (ap column_value (none_below v c.0 cs (omega (arith, same)) rises)) ∙ e))
  | inr apart ↦ (let t : (c.0 == v) ≡ false = grind (arith, nat_tests) in ap (λ b. column_value (if b then Some c.1 else column_in cs v)) t ∙ e)
]

columns_can : (n versions rounds bound : ℕ) (cs : List (ℕ × Column)) → versions < 2 ^ 22 → rounds < 2 ^ 31 → Rises bound cs → AreColumnsWithin versions rounds cs → ((v : ℕ) (x : Value) → column_value (column_in cs v) ≡ Some x → value_stands n x ≡ true) → list_all (entry_stands n) cs ≡ true
columns_can n versions rounds bound [] few low rises h stands = refl
columns_can n versions rounds bound (c ∷ cs) few low rises h stands =
    let l = h.0 in
    let below : c.0 < 2 ^ 62 = omega (arith, l, few) in
    let t : nat_lt c.0 (2 ^ 62) ≡ true = grind (arith, nat_tests) in
    and_from (entry_stands n c) (list_all (entry_stands n) cs)
    (and_from (nat_lt c.0 (2 ^ 62)) (column_stands n c.1) t (column_can n rounds c.1 low h.1.0 (λ x e. stands c.0 x (head_value c cs x e))))
    (columns_can n versions rounds c.0 cs few low rises.1 h.1.1 (λ v x e. stands v x (tail_value c cs v x rises.1 e)))

-- such a row can stand
pub row_can : (n versions rounds : ℕ) (row : RowAt) → versions < 2 ^ 22 → rounds < 2 ^ 31 → IsRowWithin versions rounds row → AreStanding n row → can_stand n row ≡ true
row_can n versions rounds row few low h stands =
    let floor = floor_within versions rounds row.floor row.columns h.rule.starts h.columns in
    let most = rises_most versions rounds row.floor row.columns h.rule.rises h.columns floor in
    let a : row.floor < 2 ^ 62 = omega (arith, floor, few) in
    let b : length row.columns < 2 ^ 22 = omega (arith, most, few) in
    let s : nat_lt row.floor (2 ^ 62) ≡ true = grind (arith, nat_tests) in
    let t : nat_lt (length row.columns) (2 ^ 22) ≡ true = grind (arith, nat_tests) in
    and_from (nat_lt row.floor (2 ^ 62)) (nat_lt (length row.columns) (2 ^ 22) && list_all (entry_stands n) row.columns) s
    (and_from (nat_lt (length row.columns) (2 ^ 22)) (list_all (entry_stands n) row.columns) t (columns_can n versions rounds row.floor row.columns few low h.rule.rises h.columns stands))
