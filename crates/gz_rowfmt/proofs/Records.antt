-- A record that is read is the row's spelling, and a row that was spelled is read again.
use Rattle.std.proofs.Common.{◌≡◌, ℕ, zero, suc, ◌-◌, ◌^◌, ◌<◌, Bool, true, false, cond, eqb, leb, ltb, List, [], ◌∷◌, ◌++◌, length, Result, Ok, Err, Vec, Global, refl, sym, ap, subst, ◌∙◌, arith, inl, inr}
use Rattle.std.specs.Prelude.{◌&&◌, IfOk, OnOk}
use Rattle.std.specs.List.{flat_map, AllByRecursion}
use Rattle.std.specs.Int.{w32, w64, to_be_bytes}
use Rattle.std.proofs.Math.Dec.{eqb-suc-zero}
use Rattle.std.proofs.lemmas.Bool.{cases_lt, leb-false, lt-leb, lt-ltb, eqb-true}
use Rattle.std.proofs.lemmas.List.{append-nil, nil_from_length}
use Rattle.gz_core.specs.Rows.{RowAt, Rises, AreColumns, StartsDecided}
use Rattle.gz_core.specs.declared.rows.Column.{Column}
use Rattle.gz_bytes.specs.Fields.{number_at}
use Rattle.gz_bytes.proofs.Steps.{bind_ok, bind_again, told_ok, told_again, ok_is, not_refused, admitted}
use Rattle.gz_bytes.proofs.Bytes.{IsBytes, Takes, magic_takes, magic_again}
use Rattle.gz_bytes.proofs.Widths.{wide32, wide64, number_takes, number_again}
use Rattle.gz_rowfmt.specs.declared.errors.RowError.{RowError}
use Rattle.gz_rowfmt.specs.declared.errors.RowError.TheVariants as errors
use Rattle.gz_rowfmt.specs.Records.{FitsColumn, HasRecord}
use Rattle.gz_rowfmt.specs.Spelling.{magic, column_bytes, columns_bytes, spelling}
use Rattle.gz_rowfmt.specs.Reading.{fault_of, magic_at, floor_at, count_at, columns_at, row_in}
use Rattle.gz_rowfmt.proofs.Columns.{AreAfter, columns_take, columns_again}

-- ---- columns of a row

rises : (raised : Bool) (before : ℕ) (cs : List (ℕ × Column)) → AreAfter raised before cs → Rises before cs
rises raised before [] all = tt
rises raised before (c ∷ cs) all = (all.0.next.above, rises false c.0 cs all.1)

keep_rules : (raised : Bool) (before : ℕ) (cs : List (ℕ × Column)) → AreAfter raised before cs → AreColumns cs
keep_rules raised before [] all = tt
keep_rules raised before (c ∷ cs) all = (all.0.is_column, keep_rules false c.0 cs all.1)

fit : (raised : Bool) (before : ℕ) (cs : List (ℕ × Column)) → AreAfter raised before cs → AllByRecursion FitsColumn cs
fit raised before [] all = tt
fit raised before (c ∷ cs) all = ((all.0.next.fits, all.0.fits), fit false c.0 cs all.1)

starts : (floor : ℕ) (cs : List (ℕ × Column)) → (ltb 0 floor && eqb (length cs) 0 ≡ false) → AreAfter (ltb 0 floor) floor cs → StartsDecided floor cs
starts floor [] some all =
    elim (cases_lt 0 floor) [
      | inl lt ↦ let never = rw (lt-ltb 0 floor lt) at some in absurd cc
      | inr le ↦ omega (arith, le)
    ]
starts floor (c ∷ cs) some all =
    elim (cases_lt 0 floor) [
      | inl lt ↦ let raised = lt-ltb 0 floor lt in inr (all.0.next.next raised, all.0.decided raised)
      | inr le ↦ inl (omega (arith, le))
    ]

go_after : (before : ℕ) (cs : List (ℕ × Column)) → Rises before cs → AreColumns cs → AllByRecursion FitsColumn cs → AreAfter false before cs
go_after before [] above rule all = tt
go_after before (c ∷ cs) above rule all =
    (record { next = record { above = above.0; fits = all.0.0; next = λ h. absurd cc }; fits = all.0.1; is_column = rule.0; decided = λ h. absurd cc }, go_after c.0 cs above.1 rule.1 all.1)

stand_after : (floor : ℕ) (cs : List (ℕ × Column)) → Rises floor cs → AreColumns cs → StartsDecided floor cs → AllByRecursion FitsColumn cs → AreAfter (ltb 0 floor) floor cs
stand_after zero cs above rule start all = go_after zero cs above rule all
stand_after (suc floor) [] above rule start all = tt
stand_after (suc floor) (c ∷ cs) above rule (inl none) all = absurd cc
stand_after (suc floor) (c ∷ cs) above rule (inr first) all =
    (record { next = record { above = above.0; fits = all.0.0; next = λ h. first.0 }; fits = all.0.1; is_column = rule.0; decided = λ h. first.1 }, go_after c.0 cs above.1 rule.1 all.1)

-- ---- the head of a record

floor_takes : (bytes : List ℕ) (x : ℕ × List ℕ) → IsBytes bytes → floor_at bytes ≡ Ok x → Takes bytes (to_be_bytes w64 x.0) x.1 × (x.0 < 2 ^ 63)
unfolding floor_at
floor_takes bytes x fits e =
    let floor = told_ok fault_of (number_at w64 4 bytes) _ x e in
    let took = number_takes w64 (2 ^ 64) wide64 4 bytes floor.0 fits floor.1 in
    let good = not_refused (leb (2 ^ 63) floor.0.0) (errors.Floor 4) (Ok floor.0) x floor.2 in
    subst (λ (y : ℕ × List ℕ). Takes bytes (to_be_bytes w64 y.0) y.1 × (y.0 < 2 ^ 63)) (ok_is {E = RowError} floor.0 x good.1) (took.0, leb-false _ _ good.0)

floor_again : (floor : ℕ) (rest : List ℕ) → floor < 2 ^ 63 → floor_at (to_be_bytes w64 floor ++ rest) ≡ Ok (floor, rest)
unfolding floor_at
floor_again floor rest h =
    told_again fault_of (number_at w64 4 (to_be_bytes w64 floor ++ rest)) (floor, rest) (λ x. cond (leb (2 ^ 63) x.0) (Err (errors.Floor 4)) (Ok x)) (Ok (floor, rest))
    (number_again w64 (2 ^ 64) wide64 4 floor rest (omega (arith, h))) (rw (lt-leb (2 ^ 63) floor h) refl)

count_takes : (floor : ℕ) (bytes : List ℕ) (x : ℕ × List ℕ) → IsBytes bytes → count_at floor bytes ≡ Ok x → Takes bytes (to_be_bytes w32 x.0) x.1 × (x.0 < 2 ^ 32) × (ltb 0 floor && eqb x.0 0 ≡ false)
unfolding count_at
count_takes floor bytes x fits e =
    let count = told_ok fault_of (number_at w32 12 bytes) _ x e in
    let took = number_takes w32 (2 ^ 32) wide32 12 bytes count.0 fits count.1 in
    let good = not_refused (ltb 0 floor && eqb count.0.0 0) (errors.Floor 12) (Ok count.0) x count.2 in
    subst (λ (y : ℕ × List ℕ). Takes bytes (to_be_bytes w32 y.0) y.1 × (y.0 < 2 ^ 32) × (ltb 0 floor && eqb y.0 0 ≡ false)) (ok_is {E = RowError} count.0 x good.1) (took.0, took.1, good.0)

not_both : (p : Bool) → p && false ≡ false
not_both true = refl
not_both false = refl

some_columns : (floor : ℕ) (cs : List (ℕ × Column)) → StartsDecided floor cs → ltb 0 floor && eqb (length cs) 0 ≡ false
some_columns zero cs start = refl
some_columns (suc floor) [] start = absurd cc
some_columns (suc floor) (c ∷ cs) start = ap (λ (none : Bool). ltb 0 (suc floor) && none) (eqb-suc-zero (length cs)) ∙ not_both (ltb 0 (suc floor))

count_again : (floor : ℕ) (cs : List (ℕ × Column)) (rest : List ℕ) → length cs < 2 ^ 32 → StartsDecided floor cs → count_at floor (to_be_bytes w32 (length cs) ++ rest) ≡ Ok (length cs, rest)
unfolding count_at
count_again floor cs rest h start =
    told_again fault_of (number_at w32 12 (to_be_bytes w32 (length cs) ++ rest)) (length cs, rest) (λ x. cond (ltb 0 floor && eqb x.0 0) (Err (errors.Floor 12)) (Ok x)) (Ok (length cs, rest))
    (number_again w32 (2 ^ 32) wide32 12 (length cs) rest h) (rw (some_columns floor cs start) refl)

-- ---- rows

pub row_takes : (bytes : List ℕ) (row : RowAt) → IsBytes bytes → row_in bytes ≡ Ok row → HasRecord row × (bytes ≡ spelling row)
unfolding row_in magic_at
row_takes bytes row fits e =
    let start = bind_ok (magic_at bytes) _ row e in
    let floor = bind_ok (floor_at start.0) _ row start.2 in
    let count = bind_ok (count_at floor.0.0 floor.0.1) _ row floor.2 in
    let columns = bind_ok (columns_at count.0.0 (ltb 0 floor.0.0) floor.0.0 (length bytes) count.0.1) _ row count.2 in
    let made : RowAt = record { floor = floor.0.0; columns = columns.0.0 } in
    let ends = admitted (eqb (length columns.0.1) 0) (errors.Trailing (length bytes - length columns.0.1)) made row columns.2 in
    let t0 = magic_takes fault_of magic (errors.Magic 0) bytes start.0 fits start.1 in
    let t1 = floor_takes start.0 floor.0 t0.rest_fits floor.1 in
    let t2 = count_takes floor.0.0 floor.0.1 count.0 t1.0.rest_fits count.1 in
    let t3 = columns_take count.0.0 (ltb 0 floor.0.0) floor.0.0 (length bytes) count.0.1 columns.0 t2.0.rest_fits columns.1 in
    let held = flat_map column_bytes columns.0.0 in
    let nothing : columns.0.1 ≡ [] = nil_from_length columns.0.1 (eqb-true _ _ ends.0) in
    let last : count.0.1 ≡ held = t3.0.parts ∙ ap (λ (t : List ℕ). held ++ t) nothing ∙ append-nil held in
    let from_count : floor.0.1 ≡ columns_bytes columns.0.0 = t2.0.parts ∙ ap (λ (t : List ℕ). to_be_bytes w32 count.0.0 ++ t) last ∙ ap (λ (n : ℕ). to_be_bytes w32 n ++ held) (sym t3.1) in
    let from_floor : start.0 ≡ to_be_bytes w64 floor.0.0 ++ columns_bytes columns.0.0 = t1.0.parts ∙ ap (λ (t : List ℕ). to_be_bytes w64 floor.0.0 ++ t) from_count in
    let whole : bytes ≡ spelling made = t0.parts ∙ ap (λ (t : List ℕ). magic ++ t) from_floor in
    let some : ltb 0 floor.0.0 && eqb (length columns.0.0) 0 ≡ false = subst (λ (n : ℕ). ltb 0 floor.0.0 && eqb n 0 ≡ false) (sym t3.1) t2.2 in
    let raised = ltb 0 floor.0.0 in
    subst (λ (r : RowAt). HasRecord r × (bytes ≡ spelling r)) ends.1 (
      record {
        is_row = record { rises = rises raised floor.0.0 columns.0.0 t3.2; columns = keep_rules raised floor.0.0 columns.0.0 t3.2; starts = starts floor.0.0 columns.0.0 some t3.2 };
        floor_fits = t1.1;
        count_fits = omega (arith, t3.1, t2.1);
        columns_fit = fit raised floor.0.0 columns.0.0 t3.2;
      },
      whole,
    )

pub row_again : (row : RowAt) → HasRecord row → row_in (spelling row) ≡ Ok row
unfolding row_in magic_at
row_again row has =
    let held = flat_map column_bytes row.columns in
    let all = stand_after row.floor row.columns has.is_row.rises has.is_row.columns has.is_row.starts has.columns_fit in
    let size = length (spelling row) in
    bind_again (magic_at (spelling row)) (to_be_bytes w64 row.floor ++ columns_bytes row.columns) _ (Ok row) (magic_again fault_of magic (errors.Magic 0) (to_be_bytes w64 row.floor ++ columns_bytes row.columns))
    (bind_again (floor_at (to_be_bytes w64 row.floor ++ columns_bytes row.columns)) (row.floor, columns_bytes row.columns) _ (Ok row) (floor_again row.floor (columns_bytes row.columns) has.floor_fits)
    (bind_again (count_at row.floor (columns_bytes row.columns)) (length row.columns, held) _ (Ok row) (count_again row.floor row.columns held has.count_fits has.is_row.starts)
    (bind_again (columns_at (length row.columns) (ltb 0 row.floor) row.floor size held) (row.columns, []) _ (Ok row)
    (ap (columns_at (length row.columns) (ltb 0 row.floor) row.floor size) (sym (append-nil held)) ∙ columns_again row.columns (ltb 0 row.floor) row.floor size [] all) refl)))

-- ---- what a function answers

pub is_read : {E : Type 0} (row : RowAt) (r : Result (Vec ℕ Global) E) → IfOk r (λ bytes. bytes.items ≡ spelling row) → OnOk r (HasRecord row) → IfOk r (λ bytes. row_in bytes.items ≡ Ok row)
is_read row (Ok bytes) spelled has = ap row_in spelled ∙ row_again row has
is_read row (Err e) spelled has = tt

pub spelled_apart : (a b : RowAt) → HasRecord a → HasRecord b → spelling a ≡ spelling b → a ≡ b
spelled_apart a b is_a is_b same = ok_is {E = RowError} a b (sym (row_again a is_a) ∙ ap row_in same ∙ row_again b is_b)
