-- The awaited numbers in their order.
use Rattle.std.proofs.Common.{◌≡◌, ◌==◌, ℕ, zero, suc, ◌+◌, ◌<◌, ◌≤◌, min, nat_lt, Bool, true, false, ◌&&◌, ◌||◌, List, Option, Some, None, option_map, refl, sym, ap, ◌∙◌, subst, inl, inr, ◌⊎◌, arith}
use Rattle.std.specs.List.{slice_get}
use Rattle.std.proofs.lemmas.Bool.{cases_Bool, cases_eq, cases_lt, cond-true, cond-false, eqb-true, ltb-true, ltb-false, lt-ltb, le-ltb, or_cases, and_from, and_parts, false≢true}
use Rattle.std.proofs.lemmas.Option.{same_Some, none-some, slice_get_within}
use Rattle.gz_core.specs.Counts.{count_sites}
use Rattle.gz_config.specs.declared.Config.{Config}
use Rattle.gz_core.proofs.Counting.{count_within, count_added, count_new}
use Rattle.gz_round.specs.declared.run.Mark.{Mark}
use Rattle.gz_round.specs.declared.run.Run.{Run}
use Rattle.gz_core.specs.History.{Asked, Action}
use Rattle.gz_round.specs.Sites.{site_now}
use Rattle.gz_round.specs.Standing.{Knows, AreSound, mark_of, awaited_of}
use Rattle.gz_round.specs.Numbering.{AreNumbered, awaits_number, live_where, IsLiveAt}
use Rattle.gz_round.specs.Awaiting.{awaited_number, number_of, lower_than, lower_of, IsLeastBelow, IsLeastFrom}
use Rattle.gz_round.proofs.Lists.{count_same}

last_or_less : (s bound : ℕ) → s < bound + 1 → (s ≡ bound) ⊎ (s < bound)
last_or_less s bound l = elim (cases_eq s bound) [ inl e ↦ inl e | inr n ↦ inr (omega arith) ]

-- one more site that has no number from `low` on
least_same : (marks : List Mark) (low bound : ℕ) (best : Option ℕ) (mark : Mark) → slice_get marks bound ≡ Some mark → ((m : ℕ) → number_of mark ≡ Some m → m < low) → IsLeastBelow marks low bound best → IsLeastBelow marks low (bound + 1) best
least_same marks low bound None mark e none h = λ (s : ℕ) (other : Mark) (m : ℕ) (l : s < bound + 1) (g : slice_get marks s ≡ Some other) (k : number_of other ≡ Some m).
    elim (last_or_less s bound l) [
      | inl same ↦ none m (ap number_of (same_Some mark other (sym e ∙ (ap (slice_get marks) (sym same) ∙ g))) ∙ k)
      | inr less ↦ h s other m less g k
    ]
least_same marks low bound (Some n) mark e none h = (
  h.0,
  λ (s : ℕ) (other : Mark) (m : ℕ) (l : s < bound + 1) (g : slice_get marks s ≡ Some other) (k : number_of other ≡ Some m) (from : low ≤ m).
      elim (last_or_less s bound l) [
        | inl same ↦ absurd (omega (arith, none m (ap number_of (same_Some mark other (sym e ∙ (ap (slice_get marks) (sym same) ∙ g))) ∙ k)))
        | inr less ↦ h.1 s other m less g k from
      ],
)

least_place : (marks : List Mark) (low n number : ℕ) → (s : ℕ) × (mark : Mark) × (slice_get marks s ≡ Some mark) × (number_of mark ≡ Some n) × (low ≤ n) → (s : ℕ) × (mark : Mark) × (slice_get marks s ≡ Some mark) × (number_of mark ≡ Some number) × (low ≤ number) → (number < n) ⊎ (n ≤ number) →
    (s : ℕ) × (mark : Mark) × (slice_get marks s ≡ Some mark) × (number_of mark ≡ Some (min number n)) × (low ≤ min number n)
least_place marks low n number old new (inl l) = let least : number ≡ min number n = omega arith in (new.0, new.1, new.2, new.3 ∙ ap (λ k. Some k) least, subst (λ (k : ℕ). low ≤ k) least new.4)
least_place marks low n number old new (inr l) = let least : n ≡ min number n = omega arith in (old.0, old.1, old.2, old.3 ∙ ap (λ k. Some k) least, subst (λ (k : ℕ). low ≤ k) least old.4)

-- one more site that has one
least_new : (marks : List Mark) (low bound : ℕ) (best : Option ℕ) (mark : Mark) (number : ℕ) → slice_get marks bound ≡ Some mark → number_of mark ≡ Some number → low ≤ number → IsLeastBelow marks low bound best → IsLeastBelow marks low (bound + 1) (Some (lower_than best number))
least_new marks low bound None mark number e is from h = (
  (bound, mark, e, is, from),
  λ (s : ℕ) (other : Mark) (m : ℕ) (l : s < bound + 1) (g : slice_get marks s ≡ Some other) (k : number_of other ≡ Some m) (low_m : low ≤ m).
      elim (last_or_less s bound l) [
        | inl same ↦ (let equal : number ≡ m = same_Some number m (sym is ∙ (ap number_of (same_Some mark other (sym e ∙ (ap (slice_get marks) (sym same) ∙ g))) ∙ k)) in omega arith)
        | inr less ↦ absurd (omega (arith, h s other m less g k))
      ],
)
least_new marks low bound (Some n) mark number e is from h = (
  least_place marks low n number h.0 (bound, mark, e, is, from) (cases_lt number n),
  λ (s : ℕ) (other : Mark) (m : ℕ) (l : s < bound + 1) (g : slice_get marks s ≡ Some other) (k : number_of other ≡ Some m) (low_m : low ≤ m).
      elim (last_or_less s bound l) [
        | inl same ↦ (let equal : number ≡ m = same_Some number m (sym is ∙ (ap number_of (same_Some mark other (sym e ∙ (ap (slice_get marks) (sym same) ∙ g))) ∙ k)) in omega arith)
        | inr less ↦ omega (arith, h.1 s other m less g k low_m)
      ],
)

pub least_lower : (marks : List Mark) (low bound : ℕ) (best : Option ℕ) (mark : Mark) (o : Option ℕ) → slice_get marks bound ≡ Some mark → number_of mark ≡ o → IsLeastBelow marks low bound best → IsLeastBelow marks low (bound + 1) (lower_of best low o)
least_lower marks low bound best mark None e is h = least_same marks low bound best mark e (λ (m : ℕ) (k : number_of mark ≡ Some m). absurd (none-some m (sym is ∙ k))) h
least_lower marks low bound best mark (Some number) e is h =
    elim (cases_Bool (nat_lt number low)) [
      | inl t ↦ subst (IsLeastBelow marks low (bound + 1)) (sym (cond-true (nat_lt number low) best (Some (lower_than best number)) t)) (least_same marks low bound best mark e (λ (m : ℕ) (k : number_of mark ≡ Some m). let equal : number ≡ m = same_Some number m (sym is ∙ k) in omega (arith, ltb-true number low t)) h)
      | inr t ↦ subst (IsLeastBelow marks low (bound + 1)) (sym (cond-false (nat_lt number low) best (Some (lower_than best number)) t)) (least_new marks low bound best mark number e is (ltb-false number low t) h)
    ]

number_awaits : (o : Option Asked) (n : ℕ) → awaited_number (option_map awaited_of o) ≡ Some n → (a : Asked) × (o ≡ Some a) × (a.number ≡ n)
number_awaits None n e = absurd (none-some n e)
number_awaits (Some a) n e = (a, refl, same_Some a.number n e)

-- a number that stands in the list is awaited from the site
pub mark_awaits : (c : Config) (run : Run) (ms : List Action) (s n : ℕ) (mark : Mark) → Knows c run ms → slice_get run.marks s ≡ Some mark → number_of mark ≡ Some n → (a : Asked) × (s < c.n) × ((site_now ms s).awaits ≡ Some a) × (a.number ≡ n)
mark_awaits c run ms s n mark k g e =
    let len = k.marks_len in
    let inside : s < c.n = omega (arith, slice_get_within run.marks s mark g) in
    let same : mark ≡ mark_of (site_now ms s) = same_Some mark (mark_of (site_now ms s)) (sym g ∙ k.marks s inside) in
    let w = number_awaits (site_now ms s).awaits n (sym (ap number_of same) ∙ e) in
    (w.0, inside, w.1, w.2)

-- and the other way round
pub awaits_mark : (c : Config) (run : Run) (ms : List Action) (s : ℕ) (a : Asked) → Knows c run ms → s < c.n → (site_now ms s).awaits ≡ Some a → (slice_get run.marks s ≡ Some (mark_of (site_now ms s))) × (number_of (mark_of (site_now ms s)) ≡ Some a.number)
awaits_mark c run ms s a k l e = (k.marks s l, ap (λ (o : Option Asked). awaited_number (option_map awaited_of o)) e)

tests_agree : (p q : ℕ → Bool) (o : Option Asked) → ((a : Asked) → o ≡ Some a → p a.number ≡ q a.number) → awaits_number p o ≡ awaits_number q o
tests_agree p q None h = refl
tests_agree p q (Some a) h = h a refl

test_passes : (p : ℕ → Bool) (o : Option Asked) → awaits_number p o ≡ true → (a : Asked) × (o ≡ Some a) × (p a.number ≡ true)
test_passes p None h = absurd (false≢true h)
test_passes p (Some a) h = (a, refl, h)

passes_test : (p : ℕ → Bool) (o : Option Asked) (a : Asked) → o ≡ Some a → p a.number ≡ true → awaits_number p o ≡ true
passes_test p o a e h = ap (awaits_number p) e ∙ h

fails_test : (p : ℕ → Bool) (o : Option Asked) (a : Asked) → o ≡ Some a → p a.number ≡ false → awaits_number p o ≡ false
fails_test p o a e h = ap (awaits_number p) e ∙ h

-- where no number stands from `low` on, all are below
pub all_below : (c : Config) (run : Run) (ms : List Action) (low : ℕ) → Knows c run ms → IsLeastFrom run.marks low None → live_where c (λ m. true) ms ≡ live_where c (λ m. nat_lt m low) ms
all_below c run ms low k h = count_same c.n (λ s. awaits_number (λ m. true) (site_now ms s).awaits) (λ s. awaits_number (λ m. nat_lt m low) (site_now ms s).awaits) (λ (s : ℕ) (l : s < c.n). tests_agree (λ m. true) (λ m. nat_lt m low) (site_now ms s).awaits (λ (a : Asked) (e : (site_now ms s).awaits ≡ Some a).
    let w = awaits_mark c run ms s a k l e in sym (lt-ltb a.number low (h s (mark_of (site_now ms s)) a.number (slice_get_within run.marks s (mark_of (site_now ms s)) w.0) w.0 w.1))))

-- none stands between `low` and the least from there on
pub none_between : (c : Config) (run : Run) (ms : List Action) (low n : ℕ) → Knows c run ms → IsLeastFrom run.marks low (Some n) → live_where c (λ m. nat_lt m n) ms ≡ live_where c (λ m. nat_lt m low) ms
none_between c run ms low n k h = count_same c.n (λ s. awaits_number (λ m. nat_lt m n) (site_now ms s).awaits) (λ s. awaits_number (λ m. nat_lt m low) (site_now ms s).awaits) (λ (s : ℕ) (l : s < c.n). tests_agree (λ m. nat_lt m n) (λ m. nat_lt m low) (site_now ms s).awaits (λ (a : Asked) (e : (site_now ms s).awaits ≡ Some a).
    let w = awaits_mark c run ms s a k l e in
    let from : low ≤ n = h.0.4 in
    elim (cases_lt a.number low) [
      | inl below ↦ lt-ltb a.number n (omega arith) ∙ sym (lt-ltb a.number low below)
      | inr above ↦ (let least : n ≤ a.number = h.1 s (mark_of (site_now ms s)) a.number (slice_get_within run.marks s (mark_of (site_now ms s)) w.0) w.0 w.1 above in le-ltb a.number n least ∙ sym (le-ltb a.number low above))
    ]))

-- at most one more site is below the number after one
count_newer : (c : Config) (ms : List Action) (n s : ℕ) (a : Asked) (next : ℕ) → AreNumbered c ms next → s < c.n → (site_now ms s).awaits ≡ Some a → a.number ≡ n → live_where c (λ m. nat_lt m (n + 1)) ms ≤ suc (live_where c (λ m. nat_lt m n) ms)
count_newer c ms n s a next numbered inside e is =
    let limited : count_sites c.n (λ u. awaits_number (λ m. nat_lt m (n + 1)) (site_now ms u).awaits) ≤ count_sites c.n (λ u. nat_lt u c.n && awaits_number (λ m. nat_lt m (n + 1)) (site_now ms u).awaits) = count_within c.n (λ u. awaits_number (λ m. nat_lt m (n + 1)) (site_now ms u).awaits) (λ u. nat_lt u c.n && awaits_number (λ m. nat_lt m (n + 1)) (site_now ms u).awaits) (λ (u : ℕ) (l : u < c.n) (t : awaits_number (λ m. nat_lt m (n + 1)) (site_now ms u).awaits ≡ true). and_from (nat_lt u c.n) (awaits_number (λ m. nat_lt m (n + 1)) (site_now ms u).awaits) (lt-ltb u c.n l) t) in
    let newer : count_sites c.n (λ u. nat_lt u c.n && awaits_number (λ m. nat_lt m (n + 1)) (site_now ms u).awaits) ≤ suc (live_where c (λ m. nat_lt m n) ms) = count_new c.n s (λ u. awaits_number (λ m. nat_lt m n) (site_now ms u).awaits) (λ u. nat_lt u c.n && awaits_number (λ m. nat_lt m (n + 1)) (site_now ms u).awaits) (λ (u : ℕ) (t : (nat_lt u c.n && awaits_number (λ m. nat_lt m (n + 1)) (site_now ms u).awaits) ≡ true).
    let both : (nat_lt u c.n ≡ true) × (awaits_number (λ m. nat_lt m (n + 1)) (site_now ms u).awaits ≡ true) = and_parts (nat_lt u c.n) (awaits_number (λ m. nat_lt m (n + 1)) (site_now ms u).awaits) t in
    let b = test_passes (λ m. nat_lt m (n + 1)) (site_now ms u).awaits both.1 in
    elim (cases_lt b.0.number n) [
      | inl l ↦ inl (passes_test (λ m. nat_lt m n) (site_now ms u).awaits b.0 b.1 (lt-ltb b.0.number n l))
      | inr l ↦ (let equal : b.0.number ≡ a.number = omega (arith, ltb-true b.0.number (n + 1) b.2) in inr (numbered.apart u s b.0 a (ltb-true u c.n both.0) inside b.1 e equal))
    ]) in
    omega arith

-- one more is below the number after the least
pub one_more : (c : Config) (run : Run) (ms : List Action) (low n next : ℕ) → Knows c run ms → AreNumbered c ms next → IsLeastFrom run.marks low (Some n) → live_where c (λ m. nat_lt m (n + 1)) ms ≡ live_where c (λ m. nat_lt m low) ms + 1
one_more c run ms low n next k numbered h =
    let w = mark_awaits c run ms h.0.0 n h.0.1 k h.0.2 h.0.3 in
    let same : live_where c (λ m. nat_lt m n) ms ≡ live_where c (λ m. nat_lt m low) ms = none_between c run ms low n k h in
    let outside : awaits_number (λ m. nat_lt m n) (site_now ms h.0.0).awaits ≡ false = fails_test (λ m. nat_lt m n) (site_now ms h.0.0).awaits w.0 w.2 (le-ltb w.0.number n (omega (arith, w.3))) in
    let more : suc (live_where c (λ m. nat_lt m n) ms) ≤ count_sites c.n (λ s. (h.0.0 == s) || awaits_number (λ m. nat_lt m n) (site_now ms s).awaits) = count_added c.n h.0.0 (λ s. awaits_number (λ m. nat_lt m n) (site_now ms s).awaits) w.1 outside in
    let within : count_sites c.n (λ s. (h.0.0 == s) || awaits_number (λ m. nat_lt m n) (site_now ms s).awaits) ≤ live_where c (λ m. nat_lt m (n + 1)) ms = count_within c.n (λ s. (h.0.0 == s) || awaits_number (λ m. nat_lt m n) (site_now ms s).awaits) (λ s. awaits_number (λ m. nat_lt m (n + 1)) (site_now ms s).awaits) (λ (s : ℕ) (l : s < c.n) (t : ((h.0.0 == s) || awaits_number (λ m. nat_lt m n) (site_now ms s).awaits) ≡ true).
    elim (or_cases (h.0.0 == s) (awaits_number (λ m. nat_lt m n) (site_now ms s).awaits) t) [
      | inl e ↦ subst (λ (z : ℕ). awaits_number (λ m. nat_lt m (n + 1)) (site_now ms z).awaits ≡ true) (eqb-true h.0.0 s e) (passes_test (λ m. nat_lt m (n + 1)) (site_now ms h.0.0).awaits w.0 w.2 (lt-ltb w.0.number (n + 1) (omega (arith, w.3))))
      | inr e ↦ (let b = test_passes (λ m. nat_lt m n) (site_now ms s).awaits e in passes_test (λ m. nat_lt m (n + 1)) (site_now ms s).awaits b.0 b.1 (lt-ltb b.0.number (n + 1) (omega (arith, ltb-true b.0.number n b.2))))
    ]) in
    let most : live_where c (λ m. nat_lt m (n + 1)) ms ≤ suc (live_where c (λ m. nat_lt m n) ms) = count_newer c ms n h.0.0 w.0 next numbered w.1 w.2 w.3 in
    omega arith

count_false : (n : ℕ) → count_sites n (λ s. false) ≡ 0
count_false zero = refl
count_false (suc n) = count_false n

none_low : (o : Option Asked) → awaits_number (λ m. nat_lt m 0) o ≡ false
none_low None = refl
none_low (Some a) = le-ltb a.number 0 (omega arith)

-- no number is below 0
pub live_none : (c : Config) (ms : List Action) → live_where c (λ m. nat_lt m 0) ms ≡ 0
live_none c ms = count_same c.n (λ s. awaits_number (λ m. nat_lt m 0) (site_now ms s).awaits) (λ s. false) (λ (s : ℕ) (l : s < c.n). none_low (site_now ms s).awaits) ∙ count_false c.n

-- the least number from one on, below which i numbers stand, is the i-th
pub live_from : (c : Config) (run : Run) (ms : List Action) (low i : ℕ) (o : Option ℕ) → Knows c run ms → AreSound ms → IsLeastFrom run.marks low o → live_where c (λ m. nat_lt m low) ms ≡ i → IsLiveAt c ms i o
live_from c run ms low i None k sound h e = let below = all_below c run ms low k h in omega arith
live_from c run ms low i (Some n) k sound h e =
    let w = mark_awaits c run ms h.0.0 n h.0.1 k h.0.2 h.0.3 in
    let here : w.0.site ≡ h.0.0 = ((sound h.0.0).inside w.0 w.2).1 in
    ((w.0, subst (λ (s : ℕ). s < c.n) (sym here) w.1, subst (λ (s : ℕ). (site_now ms s).awaits ≡ Some w.0) (sym here) w.2, w.3), none_between c run ms low n k h ∙ e)
