-- Fragments and columns are read one after another, as a loop reads them.
use Rattle.std.proofs.Common.{◌≡◌, ℕ, zero, suc, ◌-◌, ◌+◌, ◌≤◌, ◌<◌, Bool, false, List, [], ◌∷◌, ◌++◌, length, take, Some, Result, Ok, Err, refl, sym, ap, subst, ◌∙◌, append_assoc, add-one, arith}
use Rattle.std.specs.Prelude.{slice_get}
use Rattle.std.specs.List.{AllByRecursion, flat_map}
use Rattle.std.proofs.lemmas.List.{append-nil}
use Rattle.std.proofs.lemmas.List.Concat.{flat_map-append, flat_map-cons}
use Rattle.gz_core.specs.declared.fragments.FragRef.{FragRef}
use Rattle.gz_core.specs.declared.rows.Column.{Column}
use Rattle.gz_bytes.specs.Steps.{◌>>=◌}
use Rattle.gz_rowfmt.specs.declared.errors.RowError.{RowError}
use Rattle.gz_rowfmt.specs.Reading.{fragment_at, fragments_at, column_at, columns_at}

-- what was read before, and what is still read
abbrev pub with_front : {A : Type 0} → List A → Result (List A × List ℕ) RowError → Result (List A × List ℕ) RowError
with_front front read = read >>= λ x. Ok (front ++ x.0, x.1)

with_one : {A : Type 0} (front : List A) (x : A) (read : Result (List A × List ℕ) RowError) → with_front front (read >>= λ others. Ok (x ∷ others.0, others.1)) ≡ with_front (front ++ x ∷ []) read
with_one {A} front x (Ok others) = ap (λ (xs : List A). Ok (xs, others.1)) (simp append_assoc)
with_one front x (Err e) = refl

with_none : {A : Type 0} (front : List A) (bytes : List ℕ) (total : Result (List A × List ℕ) RowError) → with_front front (Ok ([], bytes)) ≡ total → total ≡ Ok (front, bytes)
with_none {A} front bytes total e = sym e ∙ ap (λ (xs : List A). Ok (xs, bytes)) (append-nil front)

-- ---- fragments

pub fragments_go_on : (front : List FragRef) (count i at : ℕ) (bytes : List ℕ) (f : FragRef) (after : List ℕ) (total : Result (List FragRef × List ℕ) RowError)
    → i < count → fragment_at at bytes ≡ Ok (f, after) → with_front front (fragments_at (count - i) at bytes) ≡ total
    → with_front (front ++ f ∷ []) (fragments_at (count - (i + 1)) (at + 33) after) ≡ total
unfolding fragments_at
fragments_go_on front count i at bytes f after total lt h so_far =
    let k : count - i ≡ suc (count - (i + 1)) = omega (arith, lt) in
    let one : with_front front (fragments_at (count - i) at bytes) ≡ with_front (front ++ f ∷ []) (fragments_at (count - (i + 1)) (at + 33) after) = rw (k, h) (with_one front f (fragments_at (count - (i + 1)) (at + 33) after)) in
    sym one ∙ so_far

pub fragments_fail : (front : List FragRef) (count i at : ℕ) (bytes : List ℕ) (e : RowError) (total : Result (List FragRef × List ℕ) RowError)
    → i < count → fragment_at at bytes ≡ Err e → with_front front (fragments_at (count - i) at bytes) ≡ total → total ≡ Err e
unfolding fragments_at
fragments_fail front count i at bytes e total lt h so_far =
    let k : count - i ≡ suc (count - (i + 1)) = omega (arith, lt) in
    let one : with_front front (fragments_at (count - i) at bytes) ≡ Err e = rw (k, h) refl in
    sym so_far ∙ one

pub fragments_end : (front : List FragRef) (count i at : ℕ) (bytes : List ℕ) (total : Result (List FragRef × List ℕ) RowError)
    → count ≤ i → with_front front (fragments_at (count - i) at bytes) ≡ total → total ≡ Ok (front, bytes)
unfolding fragments_at
fragments_end front count i at bytes total le so_far =
    let k : count - i ≡ 0 = omega (arith, le) in
    let one : with_front front (fragments_at (count - i) at bytes) ≡ with_front front (Ok ([], bytes)) = rw k refl in
    with_none front bytes total (sym one ∙ so_far)

-- ---- columns

pub columns_go_on : (front : List (ℕ × Column)) (count i : ℕ) (raised : Bool) (before end : ℕ) (bytes : List ℕ) (c : ℕ × Column) (after : List ℕ) (total : Result (List (ℕ × Column) × List ℕ) RowError)
    → i < count → column_at raised before (end - length bytes) bytes ≡ Ok (c, after) → with_front front (columns_at (count - i) raised before end bytes) ≡ total
    → with_front (front ++ c ∷ []) (columns_at (count - (i + 1)) false c.0 end after) ≡ total
unfolding columns_at
columns_go_on front count i raised before end bytes c after total lt h so_far =
    let k : count - i ≡ suc (count - (i + 1)) = omega (arith, lt) in
    let one : with_front front (columns_at (count - i) raised before end bytes) ≡ with_front (front ++ c ∷ []) (columns_at (count - (i + 1)) false c.0 end after) = rw (k, h) (with_one front c (columns_at (count - (i + 1)) false c.0 end after)) in
    sym one ∙ so_far

pub columns_fail : (front : List (ℕ × Column)) (count i : ℕ) (raised : Bool) (before end : ℕ) (bytes : List ℕ) (e : RowError) (total : Result (List (ℕ × Column) × List ℕ) RowError)
    → i < count → column_at raised before (end - length bytes) bytes ≡ Err e → with_front front (columns_at (count - i) raised before end bytes) ≡ total → total ≡ Err e
unfolding columns_at
columns_fail front count i raised before end bytes e total lt h so_far =
    let k : count - i ≡ suc (count - (i + 1)) = omega (arith, lt) in
    let one : with_front front (columns_at (count - i) raised before end bytes) ≡ Err e = rw (k, h) refl in
    sym so_far ∙ one

pub columns_end : (front : List (ℕ × Column)) (count i : ℕ) (raised : Bool) (before end : ℕ) (bytes : List ℕ) (total : Result (List (ℕ × Column) × List ℕ) RowError)
    → count ≤ i → with_front front (columns_at (count - i) raised before end bytes) ≡ total → total ≡ Ok (front, bytes)
unfolding columns_at
columns_end front count i raised before end bytes total le so_far =
    let k : count - i ≡ 0 = omega (arith, le) in
    let one : with_front front (columns_at (count - i) raised before end bytes) ≡ with_front front (Ok ([], bytes)) = rw k refl in
    with_none front bytes total (sym one ∙ so_far)

-- ---- what holds of each element, one after another

some_is : {A : Type 0} (x y : A) → Some x ≡ Some y → x ≡ y
some_is x y e = cc

all_after : {A : Type 0} (P : A → Type 0) (xs : List A) (i : ℕ) (x : A) → slice_get xs i ≡ Some x → AllByRecursion P (take i xs) → P x → AllByRecursion P (take (suc i) xs)
all_after P [] i x e all h = absurd cc
all_after P (y ∷ ys) zero x e all h = (subst P (sym (some_is y x e)) h, tt)
all_after P (y ∷ ys) (suc i) x e all h = (all.0, all_after P ys i x e all.1 h)

pub all_next : {A : Type 0} (P : A → Type 0) (xs : List A) (i : ℕ) (x : A) → slice_get xs i ≡ Some x → AllByRecursion P (take i xs) → P x → AllByRecursion P (take (i + 1) xs)
all_next P xs i x e all h = rw add-one (all_after P xs i x e all h)

-- ---- what is written of each element, one after another

take_with : {A : Type 0} (xs : List A) (i : ℕ) (x : A) → slice_get xs i ≡ Some x → take (suc i) xs ≡ take i xs ++ x ∷ []
take_with [] i x e = absurd cc
take_with {A} (y ∷ ys) zero x e = ap (λ (z : A). z ∷ []) (some_is y x e)
take_with {A} (y ∷ ys) (suc i) x e = ap (λ (zs : List A). y ∷ zs) (take_with ys i x e)

pub spelled_next : {A : Type 0} (f : A → List ℕ) (xs : List A) (i : ℕ) (x : A) (start old new : List ℕ) → slice_get xs i ≡ Some x → old ≡ start ++ flat_map f (take i xs) → new ≡ old ++ f x → new ≡ start ++ flat_map f (take (i + 1) xs)
spelled_next {A} f xs i x start old new e before written =
    let last : flat_map f (take (i + 1) xs) ≡ flat_map f (take i xs) ++ f x =
    rw add-one (ap (flat_map f) (take_with xs i x e) ∙ flat_map-append f (take i xs) (x ∷ []) ∙ ap (λ (t : List ℕ). flat_map f (take i xs) ++ t) (flat_map-cons f x [] ∙ append-nil (f x))) in
    written ∙ ap (λ (t : List ℕ). t ++ f x) before ∙ append_assoc start (flat_map f (take i xs)) (f x) ∙ ap (λ (t : List ℕ). start ++ t) (sym last)
