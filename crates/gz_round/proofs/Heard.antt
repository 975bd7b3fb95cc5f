-- What was heard stays heard, and what is shown stays shown.
use Rattle.std.proofs.Common.{◌≡◌, ℕ, ◌<◌, ◌≤◌, Bool, true, ◌&&◌, List, [], ◌∷◌, Option, Some, None, refl, sym, subst, inl, inr, arith, leb}
use Rattle.std.proofs.lemmas.Bool.{and_parts, and_from, or_cases, or_left, or_right}
use Rattle.gz_core.specs.Names.{Name}
use Rattle.gz_core.specs.Rows.{RowAt}
use Rattle.gz_core.specs.Counts.{count_sites}
use Rattle.gz_config.specs.declared.Config.{Config}
use Rattle.gz_core.proofs.Counting.{count_weaker, count_within}
use Rattle.gz_pick.proofs.Counts.{count_one}
use Rattle.gz_pick.specs.Looks.{row_top}
use Rattle.gz_pick.specs.Evidences.{votes_for, decides}
use Rattle.gz_round.specs.declared.hearing.Seen.{Seen}
use Rattle.gz_core.specs.History.{Action}
use Rattle.gz_round.specs.Sites.{heard_in, concerns, passes, some_heard, WasHeard}
use Rattle.gz_round.specs.Shown.{heard_at, IsShown, IsCurrent, IsQuorumHeard, IsNext}

-- a row that was heard stays heard
pub heard_more : (p : RowAt → Bool) (m : Action) (ms : List Action) (s : ℕ) → some_heard p ms s ≡ true → some_heard p (m ∷ ms) s ≡ true
heard_more p m ms s h = or_right (passes p (heard_in m) && concerns m s) (some_heard p ms s) h

pub heard_at_more : (c : Config) (p : RowAt → Bool) (m : Action) (ms : List Action) → heard_at c p ms ≤ heard_at c p (m ∷ ms)
heard_at_more c p m ms = count_weaker c.n (some_heard p ms) (some_heard p (m ∷ ms)) (λ (s : ℕ) (h : some_heard p ms s ≡ true). heard_more p m ms s h)

-- what is shown stays shown
pub shown_more : (c : Config) (m : Action) (ms : List Action) (v : ℕ) (x : Name) → IsShown c ms v x → IsShown c (m ∷ ms) v x
shown_more c m ms v x h =
    elim h [
      | inl k ↦ inl (k.0, omega (arith, k.1, heard_at_more c (λ r. votes_for k.0 x v (Some r)) m ms))
      | inr k ↦ inr (omega (arith, k, heard_at_more c (λ r. decides x v (Some r)) m ms))
    ]

pub current_more : (c : Config) (m : Action) (ms : List Action) (v : ℕ) → IsCurrent c ms v → IsCurrent c (m ∷ ms) v
current_more c m ms v h = omega (arith, h, heard_at_more c (λ r. leb (row_top r) v) m ms)

pub quorum_more : (c : Config) (m : Action) (ms : List Action) → IsQuorumHeard c ms → IsQuorumHeard c (m ∷ ms)
quorum_more c m ms h = omega (arith, h, heard_at_more c (λ r. true) m ms)

pub next_more : (c : Config) (m : Action) (ms : List Action) (v : ℕ) → IsNext c ms v → IsNext c (m ∷ ms) v
next_more c m ms v h =
    elim h [
      | inl e ↦ inl e
      | inr k ↦ inr (k.0, k.1, k.2, shown_more c m ms k.0 k.1 k.3)
    ]

heard_here : (p : RowAt → Bool) (m : Action) (ms : List Action) (s : ℕ) (seen : Option Seen) → heard_in m ≡ seen → passes p seen ≡ true → concerns m s ≡ true → (row : RowAt) × (p row ≡ true) × WasHeard (m ∷ ms) s row
heard_here p m ms s None e h k = absurd (cc)
heard_here p m ms s (Some seen) e h k = (seen.row, h, inl (seen, k, e, refl))

-- a heard row passes the test, and here it is
pub heard_means : (p : RowAt → Bool) (ms : List Action) (s : ℕ) → some_heard p ms s ≡ true → (row : RowAt) × (p row ≡ true) × WasHeard ms s row
heard_means p [] s h = absurd (cc)
heard_means p (m ∷ ms) s h =
    elim (or_cases (passes p (heard_in m) && concerns m s) (some_heard p ms s) h) [
      | inl e ↦ (let both : (passes p (heard_in m) ≡ true) × (concerns m s ≡ true) = and_parts (passes p (heard_in m)) (concerns m s) e in heard_here p m ms s (heard_in m) refl both.0 both.1)
      | inr e ↦ (let w = heard_means p ms s e in (w.0, w.1, inr w.2))
    ]

-- a row that was heard passes each test that it passes
pub heard_passes : (p : RowAt → Bool) (ms : List Action) (s : ℕ) (row : RowAt) → WasHeard ms s row → p row ≡ true → some_heard p ms s ≡ true
heard_passes p [] s row w h = absurd w
heard_passes p (m ∷ ms) s row (inl k) h =
    let seen : Seen = k.0 in
    let e : heard_in m ≡ Some seen = k.2 in
    let same : seen.row ≡ row = k.3 in
    let test : passes p (heard_in m) ≡ true = subst (λ o. passes p o ≡ true) (sym e) (subst (λ r. p r ≡ true) (sym same) h) in
    or_left (passes p (heard_in m) && concerns m s) (some_heard p ms s) (and_from (passes p (heard_in m)) (concerns m s) test k.1)
heard_passes p (m ∷ ms) s row (inr k) h = or_right (passes p (heard_in m) && concerns m s) (some_heard p ms s) (heard_passes p ms s row k h)

-- rows of a quorum that show something were heard
pub current_quorum : (c : Config) (ms : List Action) (v : ℕ) → IsCurrent c ms v → IsQuorumHeard c ms
current_quorum c ms v h =
    let weaker : heard_at c (λ r. leb (row_top r) v) ms ≤ heard_at c (λ r. true) ms = count_weaker c.n (some_heard (λ r. leb (row_top r) v) ms) (some_heard (λ r. true) ms) (λ (s : ℕ) (k : some_heard (λ r. leb (row_top r) v) ms s ≡ true).
    let w = heard_means (λ r. leb (row_top r) v) ms s k in
    heard_passes (λ r. true) ms s w.0 w.2 refl) in
    omega (arith, h)

-- where one row that passes was heard, at least one is counted
pub heard_one : (c : Config) (p : RowAt → Bool) (ms : List Action) (s : ℕ) (row : RowAt) → s < c.n → WasHeard ms s row → p row ≡ true → 1 ≤ heard_at c p ms
heard_one c p ms s row l w h = count_one c.n (some_heard p ms) s l (heard_passes p ms s row w h)

-- what is counted of the heard rows is counted of whatever the heard rows show
pub heard_counted : (c : Config) (p : RowAt → Bool) (q : ℕ → Bool) (ms : List Action) → ((s : ℕ) (row : RowAt) → s < c.n → WasHeard ms s row → p row ≡ true → q s ≡ true) → heard_at c p ms ≤ count_sites c.n q
heard_counted c p q ms h = count_within c.n (some_heard p ms) q (λ (s : ℕ) (l : s < c.n) (k : some_heard p ms s ≡ true). let w = heard_means p ms s k in h s w.0 l w.2 w.1)

-- rows that are counted were heard
pub counted_heard : (c : Config) (p : RowAt → Bool) (q : ℕ → Bool) (ms : List Action) → ((s : ℕ) → s < c.n → q s ≡ true → (row : RowAt) × WasHeard ms s row × (p row ≡ true)) → count_sites c.n q ≤ heard_at c p ms
counted_heard c p q ms h = count_within c.n q (some_heard p ms) (λ (s : ℕ) (l : s < c.n) (k : q s ≡ true). let w = h s l k in heard_passes p ms s w.0 w.1 w.2)
