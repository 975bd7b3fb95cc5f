-- The requests that a running call keeps as awaited, in the order of their numbers.
use Rattle.std.proofs.Common.{◌≡◌, ◌==◌, ℕ, zero, suc, ◌+◌, ◌<◌, ◌≤◌, Bool, true, false, cond, List, [], ◌∷◌, ◌++◌, map, length, Option, Some, None, refl, sym, ap, ◌∙◌, subst, inl, inr, ◌⊎◌, arith}
use Rattle.std.specs.Prelude.{nat_lt, slice_get}
use Rattle.std.specs.List.{Contains, count_by, list_any}
use Rattle.std.proofs.lemmas.Bool.{cases_eq, cases_lt, false≢true, eq-eqb, eqb-true, lt-ltb, le-ltb, ltb-true, ltb-false}
use Rattle.std.proofs.lemmas.Bool.Decides.{nat_tests}
use Rattle.std.proofs.lemmas.Option.{same_Some, none-some}
use Rattle.std.proofs.lemmas.List.Elements.{All-contains}
use Rattle.gz_data.specs.Requests.{is_numbered as is_blob_numbered}
use Rattle.gz_data.specs.declared.requests.AwaitedBlob.{AwaitedBlob}
use Rattle.gz_round.specs.declared.run.Awaited.{Awaited}
use Rattle.gz_round.specs.declared.run.Mark.{Mark}
use Rattle.gz_round.specs.declared.run.Run.{Run}
use Rattle.gz_round.specs.Awaiting.{is_numbered, awaited_number, number_of, IsLeastFrom}
use Rattle.gz_client.specs.Lowest.{marks_live, kept_live, IsKept, IsKeptAt, IsLeastBlobFrom, IsLeastLiveFrom, AreRising, AreApart, lower_number}
use Rattle.gz_client.specs.Running.{blobs_of, rows_of}
use Rattle.gz_client.specs.declared.running.Running.{Running}
use Rattle.gz_client.proofs.Counted.{contains_got, got_contains, any_counted, some_counted, counted_some, count_cons, count_agree, count_split, count_append, count_map, count_none}

-- ---- the least of two kinds of numbers

-- the least number of a kind from `low` on
abbrev pub IsLeastOf : (ℕ → Type 0) → ℕ → Option ℕ → Type 0
IsLeastOf P low None = (n : ℕ) → P n → n < low
IsLeastOf P low (Some n) = P n × (low ≤ n) × ((m : ℕ) → P m → low ≤ m → n ≤ m)

-- the numbers of one kind are those of two others
record AreBoth (P Q R : ℕ → Type 0) : Type 0 where
  split : (n : ℕ) → R n → P n ⊎ Q n
  first : (n : ℕ) → P n → R n
  second : (n : ℕ) → Q n → R n

least_both : (P Q R : ℕ → Type 0) (low : ℕ) (a b : Option ℕ) → AreBoth P Q R → IsLeastOf P low a → IsLeastOf Q low b → IsLeastOf R low (lower_number a b)
least_both P Q R low None None k h i = λ (n : ℕ) (r : R n). elim (k.split n r) [ inl p ↦ h n p | inr q ↦ i n q ]
least_both P Q R low None (Some n) k h i = (
  k.second n i.0,
  i.1,
  λ (m : ℕ) (r : R m) (l : low ≤ m). elim (k.split m r) [ inl p ↦ absurd (omega (arith, h m p, l)) | inr q ↦ i.2 m q l ],
)
least_both P Q R low (Some n) None k h i = (
  k.first n h.0,
  h.1,
  λ (m : ℕ) (r : R m) (l : low ≤ m). elim (k.split m r) [ inl p ↦ h.2 m p l | inr q ↦ absurd (omega (arith, i m q, l)) ],
)
least_both P Q R low (Some n) (Some o) k h i = (
  elim (cases_lt n o) [
    | inl l ↦ subst R (omega arith) (k.first n h.0)
    | inr l ↦ subst R (omega arith) (k.second o i.0)
  ],
  omega (arith, h.1, i.1),
  λ (m : ℕ) (r : R m) (l : low ≤ m). elim (k.split m r) [ inl p ↦ omega (arith, h.2 m p l) | inr q ↦ omega (arith, i.2 m q l) ],
)

-- ---- of rows

number_passes : (p : ℕ → Bool) (o : Option Awaited) (n : ℕ) → awaited_number o ≡ Some n → is_numbered p o ≡ p n
number_passes p None n e = absurd (none-some n e)
number_passes p (Some awaited) n e = ap p (same_Some awaited.number n e)

passes_number : (n : ℕ) (o : Option Awaited) → is_numbered (λ m. m == n) o ≡ true → awaited_number o ≡ Some n
passes_number n None e = absurd (false≢true e)
passes_number n (Some awaited) e = ap (λ k. Some k) (eqb-true awaited.number n e)

-- a number that a mark has is kept
mark_kept : (marks : List Mark) (s n : ℕ) (mark : Mark) → slice_get marks s ≡ Some mark → number_of mark ≡ Some n → 1 ≤ count_by (λ (k : Mark). is_numbered (λ m. m == n) k.awaited) marks
mark_kept marks s n mark g e =
    some_counted (λ (k : Mark). is_numbered (λ m. m == n) k.awaited) marks mark (got_contains marks s mark g) (number_passes (λ m. m == n) mark.awaited n e ∙ eq-eqb n n refl)

-- and the other way round
kept_mark : (marks : List Mark) (n : ℕ) → 1 ≤ count_by (λ (k : Mark). is_numbered (λ m. m == n) k.awaited) marks → (s : ℕ) × (mark : Mark) × (s < length marks) × (slice_get marks s ≡ Some mark) × (number_of mark ≡ Some n)
kept_mark marks n l =
    let found = counted_some (λ (k : Mark). is_numbered (λ m. m == n) k.awaited) marks l in
    (found.1.0, found.0, found.1.1, contains_got marks found.0 found.1, passes_number n found.0.awaited found.2)

abbrev pub IsMarked : Option Run → ℕ → Type 0
IsMarked rows n = 1 ≤ marks_live (λ m. m == n) rows

least_marked : (run : Run) (low : ℕ) (o : Option ℕ) → IsLeastFrom run.marks low o → IsLeastOf (IsMarked (Some run)) low o
least_marked run low None h = λ (n : ℕ) (l : IsMarked (Some run) n). let m = kept_mark run.marks n l in h m.0 m.1 n m.2 m.3 m.4
least_marked run low (Some n) h = (
  mark_kept run.marks h.0.0 n h.0.1 h.0.2 h.0.3,
  h.0.4,
  λ (m : ℕ) (l : IsMarked (Some run) m) (from : low ≤ m). let k = kept_mark run.marks m l in h.1 k.0 k.1 m k.2 k.3 k.4 from,
)

-- ---- of blobs

abbrev pub IsKeptBlob : List AwaitedBlob → ℕ → Type 0
IsKeptBlob blobs n = 1 ≤ count_by (λ (blob : AwaitedBlob). blob.number == n) blobs

blob_kept : (blobs : List AwaitedBlob) (n : ℕ) (blob : AwaitedBlob) → Contains blobs blob → blob.number ≡ n → IsKeptBlob blobs n
blob_kept blobs n blob i e = some_counted (λ (b : AwaitedBlob). b.number == n) blobs blob i (eq-eqb blob.number n e)

kept_blob : (blobs : List AwaitedBlob) (n : ℕ) → IsKeptBlob blobs n → (blob : AwaitedBlob) × Contains blobs blob × (blob.number ≡ n)
kept_blob blobs n l = let found = counted_some (λ (b : AwaitedBlob). b.number == n) blobs l in (found.0, found.1, eqb-true found.0.number n found.2)

least_blob : (blobs : List AwaitedBlob) (low : ℕ) (o : Option ℕ) → IsLeastBlobFrom blobs low o → IsLeastOf (IsKeptBlob blobs) low o
least_blob blobs low None h = λ (n : ℕ) (l : IsKeptBlob blobs n). let b = kept_blob blobs n l in subst (λ k. k < low) b.2 (h b.0 b.1)
least_blob blobs low (Some n) h = (
  blob_kept blobs n h.0.0 h.0.1 h.0.2,
  h.0.3,
  λ (m : ℕ) (l : IsKeptBlob blobs m) (from : low ≤ m). let b = kept_blob blobs m l in subst (λ k. n ≤ k) b.2 (h.1 b.0 b.1 (subst (λ k. low ≤ k) (sym b.2) from)),
)

-- the first of them that is from `low` on, as the numbers rise
rising_at : (blobs : List AwaitedBlob) (i j : ℕ) (a b : AwaitedBlob) → AreRising blobs → i < j → slice_get blobs i ≡ Some a → slice_get blobs j ≡ Some b → a.number < b.number
rising_at [] i j a b h l e f = absurd (none-some a e)
rising_at (x ∷ xs) zero zero a b h l e f = absurd (omega arith)
rising_at (x ∷ xs) zero (suc j) a b h l e f =
    subst (λ (k : AwaitedBlob). k.number < b.number) (same_Some x a e) (All-contains (λ (k : AwaitedBlob). x.number < k.number) xs b h.0 (got_contains xs j b f))
rising_at (x ∷ xs) (suc i) zero a b h l e f = absurd (omega arith)
rising_at (x ∷ xs) (suc i) (suc j) a b h l e f = rising_at xs i j a b h.1 (omega arith) e f

-- each of the first ones has a number below `low`
abbrev pub AreLower : List AwaitedBlob → ℕ → ℕ → Type 0
AreLower blobs low i = (j : ℕ) (b : AwaitedBlob) → j < i → slice_get blobs j ≡ Some b → b.number < low

pub lower_more : (blobs : List AwaitedBlob) (low i : ℕ) (blob : AwaitedBlob) → slice_get blobs i ≡ Some blob → blob.number < low → AreLower blobs low i → AreLower blobs low (i + 1)
lower_more blobs low i blob e l h j b inside f =
    elim (cases_lt j i) [
      | inl before ↦ h j b before f
      | inr here ↦ (let same : j ≡ i = omega arith in subst (λ (k : AwaitedBlob). k.number < low) (same_Some blob b (sym e ∙ (ap (slice_get blobs) (sym same) ∙ f))) l)
    ]

pub all_lower : (blobs : List AwaitedBlob) (low i : ℕ) → length blobs ≤ i → AreLower blobs low i → IsLeastBlobFrom blobs low None
all_lower blobs low i past h = λ (b : AwaitedBlob) (c : Contains blobs b). h c.0 b (omega (arith, c.1)) (contains_got blobs b c)

pub first_least : (blobs : List AwaitedBlob) (low i : ℕ) (blob : AwaitedBlob) → AreRising blobs → slice_get blobs i ≡ Some blob → low ≤ blob.number → AreLower blobs low i → IsLeastBlobFrom blobs low (Some blob.number)
first_least blobs low i blob rising e from h = (
  (blob, got_contains blobs i blob e, refl, from),
  λ (b : AwaitedBlob) (c : Contains blobs b) (l : low ≤ b.number).
      let f = contains_got blobs b c in
      elim (cases_lt c.0 i) [
        | inl before ↦ absurd (omega (arith, h c.0 b before f, l))
        | inr later ↦ elim (cases_eq c.0 i) [
          | inl same ↦ (let equal : blob ≡ b = same_Some blob b (sym e ∙ (ap (slice_get blobs) (sym same) ∙ f)) in subst (λ (k : AwaitedBlob). blob.number ≤ k.number) equal (omega arith))
          | inr other ↦ omega (arith, rising_at blobs i c.0 blob b rising (omega arith) e f)
        ]
      ],
)

-- ---- of both

both_kinds : (rows : Option Run) (blobs : List AwaitedBlob) → AreBoth (IsMarked rows) (IsKeptBlob blobs) (λ n. 1 ≤ marks_live (λ m. m == n) rows + count_by (λ (blob : AwaitedBlob). blob.number == n) blobs)
both_kinds rows blobs = record {
  split = λ n l. elim (cases_lt 0 (marks_live (λ m. m == n) rows)) [ inl some ↦ inl some | inr none ↦ inr (omega arith) ];
  first = λ n l. omega arith;
  second = λ n l. omega arith;
}

least_kept : (running : Running) (low : ℕ) (o : Option ℕ) → IsLeastOf (IsKept running) low o → IsLeastLiveFrom running low o
least_kept running low None h = h
least_kept running low (Some n) h = h

pub least_of_blobs : (running : Running) (low : ℕ) (o : Option ℕ) → rows_of running ≡ None → IsLeastBlobFrom (blobs_of running) low o → IsLeastLiveFrom running low o
least_of_blobs running low o e h =
    least_kept running low o (least_both (IsMarked (rows_of running)) (IsKeptBlob (blobs_of running)) (IsKept running) low None o (both_kinds (rows_of running) (blobs_of running))
    (λ (n : ℕ) (l : IsMarked (rows_of running) n). absurd (let none : marks_live (λ m. m == n) (rows_of running) ≡ 0 = ap (marks_live (λ m. m == n)) e in omega arith)) (least_blob (blobs_of running) low o h))

pub least_of_both : (running : Running) (run : Run) (low : ℕ) (a b : Option ℕ) → rows_of running ≡ Some run → IsLeastFrom run.marks low a → IsLeastBlobFrom (blobs_of running) low b → IsLeastLiveFrom running low (lower_number a b)
least_of_both running run low a b e h i =
    least_kept running low (lower_number a b) (least_both (IsMarked (rows_of running)) (IsKeptBlob (blobs_of running)) (IsKept running) low a b (both_kinds (rows_of running) (blobs_of running))
    (subst (λ (o : Option Run). IsLeastOf (IsMarked o) low a) (sym e) (least_marked run low a h)) (least_blob (blobs_of running) low b i))

-- ---- all numbers that are kept, in a list

number_cons : Option ℕ → List ℕ → List ℕ
number_cons None ns = ns
number_cons (Some n) ns = n ∷ ns

mark_numbers : List Mark → List ℕ
mark_numbers [] = []
mark_numbers (mark ∷ marks) = number_cons (number_of mark) (mark_numbers marks)

row_numbers : Option Run → List ℕ
row_numbers None = []
row_numbers (Some run) = mark_numbers run.marks

kept_numbers : Running → List ℕ
kept_numbers running = row_numbers (rows_of running) ++ map (λ (blob : AwaitedBlob). blob.number) (blobs_of running)

number_counts : (p : ℕ → Bool) (o : Option Awaited) (ns : List ℕ) → cond (is_numbered p o) 1 0 + count_by p ns ≡ count_by p (number_cons (awaited_number o) ns)
unfolding number_cons
number_counts p None ns = omega arith
number_counts p (Some awaited) ns = sym (count_cons p awaited.number ns)

marks_counted : (p : ℕ → Bool) (marks : List Mark) → count_by (λ (mark : Mark). is_numbered p mark.awaited) marks ≡ count_by p (mark_numbers marks)
unfolding mark_numbers
marks_counted p [] = refl
marks_counted p (mark ∷ marks) =
    omega (arith, count_cons (λ (k : Mark). is_numbered p k.awaited) mark marks, marks_counted p marks, number_counts p mark.awaited (mark_numbers marks))

rows_counted : (p : ℕ → Bool) (rows : Option Run) → marks_live p rows ≡ count_by p (row_numbers rows)
unfolding row_numbers
rows_counted p None = refl
rows_counted p (Some run) = marks_counted p run.marks

kept_counted : (p : ℕ → Bool) (running : Running) → kept_live p running ≡ count_by p (kept_numbers running)
unfolding kept_numbers
kept_counted p running =
    let blobs : List ℕ = map (λ (blob : AwaitedBlob). blob.number) (blobs_of running) in
    omega (arith, rows_counted p (rows_of running), count_map (λ (blob : AwaitedBlob). blob.number) p (blobs_of running), count_append p (row_numbers (rows_of running)) blobs)

kept_agree : (running : Running) (p q : ℕ → Bool) → ((n : ℕ) → IsKept running n → p n ≡ q n) → kept_live p running ≡ kept_live q running
kept_agree running p q h =
    kept_counted p running
    ∙ (count_agree p q (kept_numbers running) (λ n i. h n (omega (arith, kept_counted (λ m. m == n) running, some_counted (λ m. m == n) (kept_numbers running) n i (eq-eqb n n refl))))
    ∙ sym (kept_counted q running))

next_test : (m n : ℕ) → cond (nat_lt m (n + 1)) 1 0 ≡ cond (nat_lt m n) 1 0 + cond (m == n) 1 0
next_test m n = grind (arith, nat_tests)

kept_next : (running : Running) (n : ℕ) → kept_live (λ m. nat_lt m (n + 1)) running ≡ kept_live (λ m. nat_lt m n) running + kept_live (λ m. m == n) running
kept_next running n =
    omega (
      arith,
      kept_counted (λ m. nat_lt m (n + 1)) running,
      kept_counted (λ m. nat_lt m n) running,
      kept_counted (λ m. m == n) running,
      count_split (λ m. nat_lt m n) (λ m. m == n) (λ m. nat_lt m (n + 1)) (kept_numbers running) (λ m. next_test m n),
    )

-- ---- one number after the other

-- so many numbers are below this one
abbrev pub AreBefore : Running → ℕ → ℕ → Type 0
AreBefore running low i = kept_live (λ m. nat_lt m low) running ≡ i

pub none_before : (running : Running) → AreBefore running 0 0
none_before running = kept_agree running (λ m. nat_lt m 0) (λ m. false) (λ n k. le-ltb n 0 (omega arith)) ∙ (kept_counted (λ m. false) running ∙ count_none (kept_numbers running))

pub kept_past : (running : Running) (low place i : ℕ) → AreBefore running low place → place ≤ i → IsLeastLiveFrom running low None → IsKeptAt running i None
kept_past running low place i before l h = omega (arith, kept_agree running (λ m. true) (λ m. nat_lt m low) (λ n k. sym (lt-ltb n low (h n k))), before, l)

least_before : (running : Running) (low n : ℕ) → IsLeastLiveFrom running low (Some n) → kept_live (λ m. nat_lt m n) running ≡ kept_live (λ m. nat_lt m low) running
least_before running low n h = kept_agree running (λ m. nat_lt m n) (λ m. nat_lt m low) (λ m k.
    elim (cases_lt m low) [
      | inl below ↦ lt-ltb m n (omega (arith, h.1)) ∙ sym (lt-ltb m low below)
      | inr above ↦ le-ltb m n (h.2 m k above) ∙ sym (le-ltb m low above)
    ])

pub kept_here : (running : Running) (low i : ℕ) (o : Option ℕ) → AreBefore running low i → IsLeastLiveFrom running low o → IsKeptAt running i o
kept_here running low i None before h = kept_past running low i i before (omega arith) h
kept_here running low i (Some n) before h = (h.0, least_before running low n h ∙ before)

pub one_more_before : (running : Running) (low i n : ℕ) → AreApart running → AreBefore running low i → IsLeastLiveFrom running low (Some n) → AreBefore running (n + 1) (i + 1)
one_more_before running low i n apart before h = omega (arith, kept_next running n, least_before running low n h, before, apart.one n, h.0)

-- ---- whether a number is kept

-- by a request for a blob
pub kept_by_blob : (running : Running) (n : ℕ) → list_any (is_blob_numbered n) (blobs_of running) ≡ true → nat_lt 0 (kept_live (λ m. m == n) running) ≡ true
kept_by_blob running n e =
    lt-ltb 0 (kept_live (λ m. m == n) running)
    (omega (arith, ltb-true 0 (count_by (is_blob_numbered n) (blobs_of running)) (sym (any_counted (is_blob_numbered n) (blobs_of running)) ∙ e)))

-- or else by one for a row
pub kept_by_row : (running : Running) (n : ℕ) → list_any (is_blob_numbered n) (blobs_of running) ≡ false → nat_lt 0 (marks_live (λ m. m == n) (rows_of running)) ≡ nat_lt 0 (kept_live (λ m. m == n) running)
kept_by_row running n e =
    ap (nat_lt 0) (omega (arith, ltb-false 0 (count_by (is_blob_numbered n) (blobs_of running)) (sym (any_counted (is_blob_numbered n) (blobs_of running)) ∙ e)))
