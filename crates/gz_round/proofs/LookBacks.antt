-- What a call looked back at: the vote of the lowest site that has one.
use Rattle.std.proofs.Common.{◌≡◌, ℕ, zero, suc, ◌+◌, ◌<◌, ◌≤◌, Bool, true, false, ◌&&◌, ◌==◌, List, [], ◌∷◌, length, Option, Some, None, refl, sym, ap, ◌∙◌, subst, inl, inr, ◌⊎◌, arith, leb}
use Rattle.std.specs.List.{slice_get}
use Rattle.std.proofs.lemmas.Bool.{cases_Bool, cases_lt, cond-true, cond-false, or_left, or_right, or_parts, and_from, eq-eqb}
use Rattle.std.proofs.lemmas.Option.{same_Some, none-some, slice_get_within}
use Rattle.gz_core.specs.Names.{BallotAt, same_ballot}
use Rattle.gz_core.specs.Values.{name_of}
use Rattle.gz_core.specs.Rows.{RowAt, column_in}
use Rattle.gz_core.specs.declared.values.Value.{Value}
use Rattle.gz_core.specs.declared.rows.Column.{Column}
use Rattle.gz_core.specs.declared.rows.Column.TheVariants.{Open, Decided}
use Rattle.gz_config.specs.declared.Config.{Config}
use Rattle.gz_core.proofs.Ballots.{same_refl}
use Rattle.gz_core.specs.Slots.{slot_of, slot_vote}
use Rattle.gz_pick.specs.Looks.{row_top, row_vote}
use Rattle.gz_round.specs.declared.hearing.Seen.{Seen}
use Rattle.gz_round.specs.declared.run.Mark.{Mark}
use Rattle.gz_round.specs.declared.run.Run.{Run}
use Rattle.gz_core.specs.declared.requests.Out.{Out}
use Rattle.gz_core.specs.History.{Asked, Action, Sent, IsEarlier, asked_of, sent_from}
use Rattle.gz_round.specs.Sites.{SiteNow, site_now, known, row_seen, WasHeard}
use Rattle.gz_round.specs.Sent.{promise_by, of_sent, passes_sent, or_earlier, has_promised_at, last_promise}
use Rattle.gz_round.specs.Shown.{heard_at, row_value, column_value}
use Rattle.gz_round.specs.LookBack.{column_cast, row_cast, or_next, lowest, lowest_vote, before_promise, IsLookedBack}
use Rattle.gz_round.specs.Sending.{IsBegun}
use Rattle.gz_round.specs.Choosing.{AreLastVotes}
use Rattle.gz_round.specs.Standing.{Knows, left_of, mark_of}
use Rattle.gz_round.proofs.Lists.{place_of}
use Rattle.gz_round.proofs.Known.{last_heard, row_after_sent}
use Rattle.gz_round.proofs.Heard.{heard_at_more}

-- an action is not later than itself
pub earlier_refl : (ms : List Action) → IsEarlier ms ms
earlier_refl [] = refl
earlier_refl (m ∷ ms) = inl refl

-- what was heard earlier was heard
heard_later : (start ms : List Action) (s : ℕ) (row : RowAt) → IsEarlier start ms → WasHeard start s row → WasHeard ms s row
heard_later start [] s row e w = subst (λ z. WasHeard z s row) e w
heard_later start (m ∷ ms) s row (inl e) w = subst (λ z. WasHeard z s row) e w
heard_later start (m ∷ ms) s row (inr k) w = inr (heard_later start ms s row k w)

-- a ballot that was promised stays so
pub promised_more : (m : Action) (ms : List Action) (v : ℕ) (b : BallotAt) → has_promised_at ms v b ≡ true → has_promised_at (m ∷ ms) v b ≡ true
promised_more m ms v b e = or_right (passes_sent (λ p. (p.0 == v) && same_ballot p.1 b) (of_sent promise_by m)) (has_promised_at ms v b) e

last_promised_now : (m : Action) (ms : List Action) (v : ℕ) (b : BallotAt) (o : Option (ℕ × BallotAt)) → of_sent promise_by m ≡ o → (last_promise ms ≡ Some (v, b) → has_promised_at ms v b ≡ true) → or_earlier o (last_promise ms) ≡ Some (v, b) → has_promised_at (m ∷ ms) v b ≡ true
last_promised_now m ms v b None is before e = promised_more m ms v b (before e)
last_promised_now m ms v b (Some p) is before e =
    let same : p ≡ (v, b) = same_Some p (v, b) e in
    or_left (passes_sent (λ p. (p.0 == v) && same_ballot p.1 b) (of_sent promise_by m)) (has_promised_at ms v b)
    (subst (λ (o : Option (ℕ × BallotAt)). passes_sent (λ p. (p.0 == v) && same_ballot p.1 b) o ≡ true) (sym (is ∙ ap (λ z. Some z) same)) (and_from (v == v) (same_ballot b b) (eq-eqb v v refl) (same_refl b)))

-- the ballot that was promised last was promised
pub last_promised_at : (ms : List Action) (v : ℕ) (b : BallotAt) → last_promise ms ≡ Some (v, b) → has_promised_at ms v b ≡ true
last_promised_at [] v b e = absurd (none-some (v, b) e)
last_promised_at (m ∷ ms) v b e = last_promised_now m ms v b (of_sent promise_by m) refl (last_promised_at ms v b) e

-- before a promise that wasn't sent comes all that has happened
pub before_none : (v : ℕ) (b : BallotAt) (ms : List Action) → has_promised_at ms v b ≡ false → before_promise v b ms ≡ ms
before_none v b [] e = refl
before_none v b (m ∷ ms) e = cond-false (has_promised_at (m ∷ ms) v b) (before_promise v b ms) (m ∷ ms) e

-- before one that was sent, the same whatever happens later
pub before_more : (v : ℕ) (b : BallotAt) (m : Action) (ms : List Action) → has_promised_at ms v b ≡ true → before_promise v b (m ∷ ms) ≡ before_promise v b ms
before_more v b m ms e = cond-true (has_promised_at (m ∷ ms) v b) (before_promise v b ms) (m ∷ ms) (promised_more m ms v b e)

-- it came before now
before_earlier : (v : ℕ) (b : BallotAt) (ms : List Action) → IsEarlier (before_promise v b ms) ms
before_earlier v b [] = refl
before_earlier v b (m ∷ ms) =
    elim (cases_Bool (has_promised_at (m ∷ ms) v b)) [
      | inl e ↦ inr (subst (λ z. IsEarlier z ms) (sym (cond-true (has_promised_at (m ∷ ms) v b) (before_promise v b ms) (m ∷ ms) e)) (before_earlier v b ms))
      | inr e ↦ inl (cond-false (has_promised_at (m ∷ ms) v b) (before_promise v b ms) (m ∷ ms) e)
    ]

-- what a call looked back at, once it promised the ballot, it has looked back at from then on
pub back_more : (c : Config) (m : Action) (ms : List Action) (v : ℕ) (b : BallotAt) (found : Option Value) → has_promised_at ms v b ≡ true → IsLookedBack c ms v b found → IsLookedBack c (m ∷ ms) v b found
back_more c m ms v b found e h = h ∙ ap (lowest_vote c.n v) (sym (before_more v b m ms e))

pub back_later : (c : Config) (ms ns : List Action) (v : ℕ) (b : BallotAt) (found : Option Value) → IsEarlier ms ns → has_promised_at ms v b ≡ true → IsLookedBack c ms v b found → (has_promised_at ns v b ≡ true) × IsLookedBack c ns v b found
back_later c ms [] v b found e k h = (subst (λ z. has_promised_at z v b ≡ true) e k, subst (λ z. IsLookedBack c z v b found) e h)
back_later c ms (m ∷ ns) v b found (inl e) k h = (subst (λ z. has_promised_at z v b ≡ true) e k, subst (λ z. IsLookedBack c z v b found) e h)
back_later c ms (m ∷ ns) v b found (inr e) k h =
    let w = back_later c ms ns v b found e k h in
    (promised_more m ns v b w.0, back_more c m ns v b found w.0 w.1)

-- sites that have the same have the same lowest one
lowest_same : {A : Type 0} (n : ℕ) (f g : ℕ → Option A) → ((s : ℕ) → f s ≡ g s) → lowest n f ≡ lowest n g
lowest_same zero f g h = refl
lowest_same (suc n) f g h = ap (λ o. or_next o (f n)) (lowest_same n f g h) ∙ ap (or_next (lowest n g)) (h n)

-- rows that stay leave the vote that is looked back at
pub lowest_vote_same : (n v : ℕ) (ms ns : List Action) → ((s : ℕ) → (site_now ns s).row ≡ (site_now ms s).row) → lowest_vote n v ns ≡ lowest_vote n v ms
lowest_vote_same n v ms ns same = lowest_same n (λ s. row_cast v (row_seen (site_now ns s).row)) (λ s. row_cast v (row_seen (site_now ms s).row)) (λ (s : ℕ). ap (λ o. row_cast v (row_seen o)) (same s))

-- the vote that is looked back at stays the same while requests are sent
back_sent : (c : Config) (a : Asked) (ms : List Action) (v : ℕ) (b : BallotAt) → lowest_vote c.n v (before_promise v b (Sent a ∷ ms)) ≡ lowest_vote c.n v (before_promise v b ms)
back_sent c a ms v b =
    elim (cases_Bool (has_promised_at (Sent a ∷ ms) v b)) [
      | inl e ↦ ap (lowest_vote c.n v) (cond-true (has_promised_at (Sent a ∷ ms) v b) (before_promise v b ms) (Sent a ∷ ms) e)
      | inr e ↦ (
          let none : has_promised_at ms v b ≡ false = (or_parts (passes_sent (λ p. (p.0 == v) && same_ballot p.1 b) (of_sent promise_by (Sent a))) (has_promised_at ms v b) e).1 in
          ap (lowest_vote c.n v) (before_none v b (Sent a ∷ ms) e)
          ∙ (lowest_vote_same c.n v ms (Sent a ∷ ms) (λ (s : ℕ). sym (row_after_sent a ms s)) ∙ ap (lowest_vote c.n v) (sym (before_none v b ms none))))
    ]

pub back_sent_from : (c : Config) (first : ℕ) (sent : List Out) (ms : List Action) (v : ℕ) (b : BallotAt) → lowest_vote c.n v (before_promise v b (sent_from first sent ms)) ≡ lowest_vote c.n v (before_promise v b ms)
back_sent_from c first [] ms v b = refl
back_sent_from c first (o ∷ os) ms v b = back_sent_from c (first + 1) os (Sent (asked_of first o) ∷ ms) v b ∙ back_sent c (asked_of first o) ms v b

-- rows that were heard earlier were heard
heard_earlier : (c : Config) (p : RowAt → Bool) (start ms : List Action) → IsEarlier start ms → heard_at c p start ≤ heard_at c p ms
heard_earlier c p start [] e = let same = ap (heard_at c p) e in omega arith
heard_earlier c p start (m ∷ ms) (inl e) = let same = ap (heard_at c p) e in omega arith
heard_earlier c p start (m ∷ ms) (inr k) = omega (arith, heard_earlier c p start ms k, heard_at_more c p m ms)

-- a version that had begun before a ballot was promised goes on to have
pub begun_more : (c : Config) (m : Action) (ms : List Action) (v : ℕ) (b : BallotAt) → IsBegun c ms v b → IsBegun c (m ∷ ms) v b
begun_more c m ms v b h =
    elim (cases_Bool (has_promised_at (m ∷ ms) v b)) [
      | inl e ↦ subst (λ z. 1 ≤ heard_at c (λ r. leb v (row_top r)) z) (sym (cond-true (has_promised_at (m ∷ ms) v b) (before_promise v b ms) (m ∷ ms) e)) h
      | inr e ↦ subst (λ z. 1 ≤ heard_at c (λ r. leb v (row_top r)) z) (sym (before_none v b (m ∷ ms) e))
          (omega (arith, h, heard_earlier c (λ r. leb v (row_top r)) (before_promise v b ms) ms (before_earlier v b ms), heard_at_more c (λ r. leb v (row_top r)) m ms))
    ]

pub begun_heard : (c : Config) (ms : List Action) (v : ℕ) (b : BallotAt) → IsBegun c ms v b → 1 ≤ heard_at c (λ r. leb v (row_top r)) ms
begun_heard c ms v b h = omega (arith, h, heard_earlier c (λ r. leb v (row_top r)) (before_promise v b ms) ms (before_earlier v b ms))

pub begun_new : (c : Config) (ms : List Action) (v : ℕ) (b : BallotAt) → has_promised_at ms v b ≡ false → 1 ≤ heard_at c (λ r. leb v (row_top r)) ms → IsBegun c ms v b
begun_new c ms v b e h = subst (λ z. 1 ≤ heard_at c (λ r. leb v (row_top r)) z) (sym (before_none v b ms e)) h

next_cases : {A : Type 0} (a b : Option A) (x : A) → or_next a b ≡ Some x → (a ≡ Some x) ⊎ (b ≡ Some x)
next_cases None b x e = inr e
next_cases (Some y) b x e = inl e

-- what the lowest site has is had by a site
lowest_found : {A : Type 0} (n : ℕ) (f : ℕ → Option A) (x : A) → lowest n f ≡ Some x → (s : ℕ) × (s < n) × (f s ≡ Some x)
lowest_found zero f x e = absurd (none-some x e)
lowest_found {A = A} (suc n) f x e =
    elim (next_cases (lowest n f) (f n) x e) [
      | inl low ↦ (let w : (s : ℕ) × (s < n) × (f s ≡ Some x) = lowest_found n f x low in (w.0, omega (arith, w.1), w.2))
      | inr here ↦ (n, omega arith, here)
    ]

-- one more site
pub lowest_skip : {A : Type 0} (n : ℕ) (f : ℕ → Option A) → lowest n f ≡ None → f n ≡ None → lowest (n + 1) f ≡ None
lowest_skip n f low here =
    let more : suc n ≡ n + 1 = omega arith in
    subst (λ (k : ℕ). lowest k f ≡ None) more (ap (λ o. or_next o (f n)) low ∙ here)

lowest_above : {A : Type 0} (n k : ℕ) (f : ℕ → Option A) (x : A) → k ≤ n → lowest k f ≡ Some x → lowest n f ≡ Some x
lowest_above zero k f x l e = let none : k ≡ zero = omega arith in subst (λ (z : ℕ). lowest z f ≡ Some x) none e
lowest_above (suc n) k f x l e =
    elim (cases_lt n k) [
      | inl far ↦ (let all : k ≡ suc n = omega arith in subst (λ (z : ℕ). lowest z f ≡ Some x) all e)
      | inr near ↦ ap (λ o. or_next o (f n)) (lowest_above n k f x near e)
    ]

pub lowest_here : {A : Type 0} (n at : ℕ) (f : ℕ → Option A) (x : A) → at < n → lowest at f ≡ None → f at ≡ Some x → lowest n f ≡ Some x
lowest_here n at f x l low here = lowest_above n (suc at) f x (omega arith) (ap (λ o. or_next o (f at)) low ∙ here)

last_none : (o : Option RowAt) → or_next o None ≡ o
last_none None = refl
last_none (Some row) = refl

-- the last row of a site is the one that is known, or the one that was left
last_row : (now : SiteNow) → or_next (known now) (left_of now) ≡ row_seen now.row
last_row now =
    elim (cases_Bool now.out) [
      | inl e ↦ ap (λ o. or_next o (left_of now)) (cond-true now.out None (row_seen now.row) e) ∙ cond-true now.out (row_seen now.row) None e
      | inr e ↦ ap (λ o. or_next o (left_of now)) (cond-false now.out None (row_seen now.row) e) ∙ (ap (or_next (row_seen now.row)) (cond-false now.out (row_seen now.row) None e) ∙ last_none (row_seen now.row))
    ]

-- the lists have the votes of the last rows
pub told_votes : (c : Config) (run : Run) (ms : List Action) (v : ℕ) → Knows c run ms → AreLastVotes run v (λ s. row_cast v (row_seen (site_now ms s).row))
told_votes c run ms v k s row mark at_row at_mark =
    let inside : s < c.n = let len = k.rows_len in omega (arith, slice_get_within run.rows s row at_row) in
    let row_is : row ≡ known (site_now ms s) = same_Some row (known (site_now ms s)) (sym at_row ∙ k.rows s inside) in
    let mark_is : mark ≡ mark_of (site_now ms s) = same_Some mark (mark_of (site_now ms s)) (sym at_mark ∙ k.marks s inside) in
    ap (row_cast v) (sym (last_row (site_now ms s)) ∙ (ap (λ o. or_next o (left_of (site_now ms s))) (sym row_is) ∙ ap (λ (m : Mark). or_next row m.left) (sym mark_is)))

-- the vote of the last row of a site
pub last_told : (run : Run) (v at : ℕ) (f : ℕ → Option Value) (o : Option Value) → AreLastVotes run v f → at < length run.rows → at < length run.marks →
    ((row : Option RowAt) (mark : Mark) → slice_get run.rows at ≡ Some row → slice_get run.marks at ≡ Some mark → o ≡ row_cast v (or_next row mark.left)) → f at ≡ o
last_told run v at f o votes in_rows in_marks told =
    let row = place_of run.rows at in_rows in
    let mark = place_of run.marks at in_marks in
    votes at row.0 mark.0 row.1 mark.1 ∙ sym (told row.0 mark.0 row.1 mark.1)

cast_seen : (v : ℕ) (o : Option Seen) (x : Value) → row_cast v (row_seen o) ≡ Some x → (seen : Seen) × (o ≡ Some seen) × (column_cast (column_in seen.row.columns v) ≡ Some x)
cast_seen v None x e = absurd (none-some x e)
cast_seen v (Some seen) x e = (seen, refl, e)

cast_names : (o : Option Column) (x : Value) → column_cast o ≡ Some x → (d : BallotAt) × (slot_vote (slot_of o) ≡ Some (d, name_of x)) × (column_value o ≡ Some x)
cast_names None x e = absurd (none-some x e)
cast_names (Some (Open promise None)) x e = absurd (none-some x e)
cast_names (Some (Open promise (Some held))) x e = (held.ballot, ap (λ (z : Value). Some (held.ballot, name_of z)) (same_Some held.value x e), e)
cast_names (Some (Decided value)) x e = absurd (none-some x e)

-- the value that a call looked back at was heard as a vote
pub back_heard : (c : Config) (ms : List Action) (v : ℕ) (b : BallotAt) (x : Value) → IsLookedBack c ms v b (Some x) → (s : ℕ) × (row : RowAt) × (d : BallotAt) × WasHeard ms s row × (row_vote row v ≡ Some (d, name_of x)) × (row_value row v ≡ Some x)
back_heard c ms v b x h =
    let start : List Action = before_promise v b ms in
    let low = lowest_found c.n (λ s. row_cast v (row_seen (site_now start s).row)) x (sym h) in
    let last = cast_seen v (site_now start low.0).row x low.2 in
    let names = cast_names (column_in last.0.row.columns v) x last.2 in
    (low.0, last.0.row, names.0, heard_later start ms low.0 last.0.row (before_earlier v b ms) (last_heard start low.0 last.0 last.1), names.1, names.2)
