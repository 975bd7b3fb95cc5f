-- Each step keeps versions and rounds within their bounds.
use Rattle.std.proofs.Common.{◌≡◌, ℕ, ◌+◌, ◌≤◌, ◌⊎◌, inl, inr, List, [], ◌∷◌, Some, None, Bool, true, false, refl, ap, sym, subst, arith}
use Rattle.std.proofs.lemmas.Bool.{and_parts, or_cases, eqb-true}
use Rattle.std.specs.Prelude.{Option, ◌==◌, ◌&&◌, ◌||◌, nat_le, if◌then◌else◌}
use Rattle.gz_config.specs.declared.Config.{Config}
use Rattle.gz_core.specs.Configurations.{IsConfig}
use Rattle.gz_core.specs.Names.{Name, BallotAt, same_ballot}
use Rattle.gz_core.specs.Rows.{RowAt, empty_row}
use Rattle.gz_core.specs.declared.requests.Op.{Op}
use Rattle.gz_core.specs.declared.requests.Op.TheVariants.{WriteRow}
use Rattle.gz_core.specs.declared.requests.Reply.{Reply}
use Rattle.gz_core.specs.declared.requests.Reply.TheVariants.{Row, NoRow, Written}
use Rattle.gz_core.proofs.Ballots.{same_means}
use Rattle.gz_core.proofs.Counting.{count_found}
use Rattle.gz_pick.specs.Evidences.{votes_for, decides}
use Rattle.gz_pick.specs.Looks.{row_top}
use Rattle.gz_round.specs.declared.hearing.Seen.{Seen}
use Rattle.gz_core.specs.History.{Action, Sent, Handed, GaveUp, Rested, GaveIn}
use Rattle.gz_round.specs.Rounds.{round_known}
use Rattle.gz_round.specs.Sending.{rows_known}
use Rattle.gz_round.specs.Sent.{of_sent, passes_sent, promise_by, has_promised_at, round_after, top_round}
use Rattle.gz_round.specs.Shown.{heard_at, IsShown, IsNext, IsGrounded, HasFloor}
use Rattle.gz_round.specs.Sites.{SiteNow, site_now, known, row_seen, seen_in, heard_in, written_by, passes, concerns, some_heard, WasHeard}
use Rattle.gz_round.proofs.Known.{last_heard}
use Rattle.gz_world.specs.States.{State}
use Rattle.gz_laws.specs.Bounded.{IsRowWithin}
use Rattle.gz_laws.specs.Carried.{ActionsCarried}
use Rattle.gz_laws.specs.Rows.{IfWritten, IfShown, EachRow}
use Rattle.gz_laws.proofs.Beginning.{some_needed}
use Rattle.gz_laws.proofs.Hearing.{le_means}
use Rattle.gz_laws.proofs.RowBounds.{floor_within, top_within, vote_within, vote_above, decision_within, decision_above, round_within}
use Rattle.gz_laws.proofs.RowRules.{blank_rule}
use Rattle.gz_laws.proofs.AsHeard.{of_reply, heard_case}

-- the rows that a call heard
abbrev IsSeenWithin : ℕ → ℕ → Option Seen → Type 0
IsSeenWithin versions rounds None = Unit {0}
IsSeenWithin versions rounds (Some seen) = IsRowWithin versions rounds seen.row

abbrev pub AreHeardWithin : ℕ → ℕ → List Action → Type 0
AreHeardWithin versions rounds [] = Unit {0}
AreHeardWithin versions rounds (Sent a ∷ ms) = AreHeardWithin versions rounds ms
AreHeardWithin versions rounds (Handed a reply ∷ ms) = IsSeenWithin versions rounds (heard_in (Handed a reply)) × AreHeardWithin versions rounds ms
AreHeardWithin versions rounds (GaveUp a ∷ ms) = AreHeardWithin versions rounds ms
AreHeardWithin versions rounds (Rested ∷ ms) = AreHeardWithin versions rounds ms
AreHeardWithin versions rounds (GaveIn ∷ ms) = AreHeardWithin versions rounds ms

-- they are those of replies
blank_within : (versions rounds : ℕ) → IsRowWithin versions rounds empty_row
blank_within versions rounds = record { rule = blank_rule; columns = tt }

seen_within : (versions rounds : ℕ) (op : Op) (reply : Reply) → IfWritten (IsRowWithin versions rounds) op → IfShown (IsRowWithin versions rounds) reply → IsSeenWithin versions rounds (seen_in (written_by op) reply)
seen_within versions rounds op (Row etag row) w h = h
seen_within versions rounds op NoRow w h = blank_within versions rounds
seen_within versions rounds (WriteRow key expect step row) (Written etag) w h = w
seen_within versions rounds op reply w h = tt

pub heard_within : (versions rounds : ℕ) (s : State) (name : Name) (ms : List Action) → EachRow (IsRowWithin versions rounds) s → ActionsCarried s.cfg.n s.net name ms → AreHeardWithin versions rounds ms
heard_within versions rounds s name [] all h = tt
heard_within versions rounds s name (Sent a ∷ ms) all h = heard_within versions rounds s name ms all h.1
heard_within versions rounds s name (Handed a reply ∷ ms) all h =
    let r = h.0.0 in
    let req = h.0.1.0 in
    let has = h.0.1.1 in
    let shown = seen_within versions rounds r.op has.made (all.requests a.number r req.there) (all.replies a.number has.place has.tick r has.made req.there has.there) in (
      heard_case (IsSeenWithin versions rounds) a reply (λ row. subst (λ (op : Op). IsSeenWithin versions rounds (seen_in (written_by op) reply)) req.op_is (of_reply (IsSeenWithin versions rounds) s.cfg.n r reply has tt shown)) tt,
      heard_within versions rounds s name ms all h.1,
    )
heard_within versions rounds s name (GaveUp a ∷ ms) all h = heard_within versions rounds s name ms all h.1
heard_within versions rounds s name (Rested ∷ ms) all h = heard_within versions rounds s name ms all h.1
heard_within versions rounds s name (GaveIn ∷ ms) all h = heard_within versions rounds s name ms all h.1

is_within : (versions rounds : ℕ) (o : Option Seen) (seen : Seen) → o ≡ Some seen → IsSeenWithin versions rounds o → IsRowWithin versions rounds seen.row
is_within versions rounds o seen e h = subst (IsSeenWithin versions rounds) e h

was_within : (versions rounds : ℕ) (ms : List Action) (s : ℕ) (row : RowAt) → AreHeardWithin versions rounds ms → WasHeard ms s row → IsRowWithin versions rounds row
was_within versions rounds [] s row h w = absurd w
was_within versions rounds (Sent a ∷ ms) s row h (inl w) = let bad = w.2 in cc
was_within versions rounds (Sent a ∷ ms) s row h (inr w) = was_within versions rounds ms s row h w
was_within versions rounds (Handed a reply ∷ ms) s row h (inl w) = subst (IsRowWithin versions rounds) w.3 (is_within versions rounds (heard_in (Handed a reply)) w.0 w.2 h.0)
was_within versions rounds (Handed a reply ∷ ms) s row h (inr w) = was_within versions rounds ms s row h.1 w
was_within versions rounds (GaveUp a ∷ ms) s row h (inl w) = let bad = w.2 in cc
was_within versions rounds (GaveUp a ∷ ms) s row h (inr w) = was_within versions rounds ms s row h w
was_within versions rounds (Rested ∷ ms) s row h (inl w) = let bad = w.2 in cc
was_within versions rounds (Rested ∷ ms) s row h (inr w) = was_within versions rounds ms s row h w
was_within versions rounds (GaveIn ∷ ms) s row h (inl w) = let bad = w.2 in cc
was_within versions rounds (GaveIn ∷ ms) s row h (inr w) = was_within versions rounds ms s row h w

pub last_within : (versions rounds : ℕ) (ms : List Action) (s : ℕ) (seen : Seen) → AreHeardWithin versions rounds ms → (site_now ms s).row ≡ Some seen → IsRowWithin versions rounds seen.row
last_within versions rounds ms s seen h e = was_within versions rounds ms s seen.row h (last_heard ms s seen e)

-- a row that was heard and passes a test
found_in : (versions rounds : ℕ) (p : RowAt → Bool) (o : Option Seen) (b rest : Bool) → IsSeenWithin versions rounds o → ((passes p o && b) || rest) ≡ true → ((row : RowAt) × ((p row ≡ true) × IsRowWithin versions rounds row)) ⊎ (rest ≡ true)
found_in versions rounds p None b rest h e = inr e
found_in versions rounds p (Some seen) b rest h e = elim (or_cases (p seen.row && b) rest e) [ inl t ↦ inl (seen.row, ((and_parts (p seen.row) b t).0, h)) | inr t ↦ inr t ]

some_within : (versions rounds : ℕ) (p : RowAt → Bool) (ms : List Action) (s : ℕ) → AreHeardWithin versions rounds ms → some_heard p ms s ≡ true → (row : RowAt) × ((p row ≡ true) × IsRowWithin versions rounds row)
some_within versions rounds p [] s h e = cc
some_within versions rounds p (Sent a ∷ ms) s h e = some_within versions rounds p ms s h e
some_within versions rounds p (Handed a reply ∷ ms) s h e =
    elim (found_in versions rounds p (heard_in (Handed a reply)) (concerns (Handed a reply) s) (some_heard p ms s) h.0 e) [ inl k ↦ k | inr k ↦ some_within versions rounds p ms s h.1 k ]
some_within versions rounds p (GaveUp a ∷ ms) s h e = some_within versions rounds p ms s h e
some_within versions rounds p (Rested ∷ ms) s h e = some_within versions rounds p ms s h e
some_within versions rounds p (GaveIn ∷ ms) s h e = some_within versions rounds p ms s h e

at_within : (versions rounds : ℕ) (c : Config) (p : RowAt → Bool) (ms : List Action) → AreHeardWithin versions rounds ms → 1 ≤ heard_at c p ms → (row : RowAt) × ((p row ≡ true) × IsRowWithin versions rounds row)
at_within versions rounds c p ms h e = let f = count_found c.n (some_heard p ms) e in some_within versions rounds p ms f.0 h f.2

-- the version of a value that is shown, and one at which a call may work
pub record IsVersionWithin (versions v : ℕ) : Type 0 where
  pub above : 1 ≤ v
  pub below : v ≤ versions

pub shown_within : (versions rounds : ℕ) (c : Config) (ms : List Action) (v : ℕ) (x : Name) → IsConfig c → AreHeardWithin versions rounds ms → IsShown c ms v x → IsVersionWithin versions v
shown_within versions rounds c ms v x sizes h (inl k) =
    let some = some_needed c k.0 sizes in
    let enough = k.1 in
    let r = at_within versions rounds c (λ q. votes_for k.0 x v (Some q)) ms h (omega (arith, some, enough)) in
    record { above = vote_above versions rounds r.0 v k.0 x r.1.1 r.1.0; below = vote_within versions rounds r.0 v k.0 x r.1.1 r.1.0 }
shown_within versions rounds c ms v x sizes h (inr k) =
    let r = at_within versions rounds c (λ q. decides x v (Some q)) ms h k in
    record { above = decision_above versions rounds r.0 v x r.1.1 r.1.0; below = decision_within versions rounds r.0 v x r.1.1 r.1.0 }

-- a floor that was heard
pub floor_low : (versions rounds : ℕ) (c : Config) (ms : List Action) (floor : ℕ) → AreHeardWithin versions rounds ms → HasFloor c ms floor → floor ≤ versions
floor_low versions rounds c ms floor h has =
    let r = at_within versions rounds c (λ row. row.floor == floor) ms h has in
    let same = eqb-true r.0.floor floor r.1.0 in
    let low = floor_within versions rounds r.0.floor r.0.columns r.1.1.rule.starts r.1.1.columns in
    omega (arith, same, low)

pub next_within : (versions rounds : ℕ) (c : Config) (ms : List Action) (v : ℕ) → IsConfig c → AreHeardWithin versions rounds ms → IsNext c ms v → v ≤ versions + 1
next_within versions rounds c ms v sizes h (inl e) = omega (arith, e)
next_within versions rounds c ms v sizes h (inr k) = let e = k.2 in let l = (shown_within versions rounds c ms k.0 k.1 sizes h k.3).below in omega (arith, e, l)

pub grounded_within : (versions rounds : ℕ) (c : Config) (ms : List Action) (v : ℕ) → IsConfig c → AreHeardWithin versions rounds ms → IsGrounded c ms v → v ≤ versions + 1
grounded_within versions rounds c ms v sizes h (inl k) = next_within versions rounds c ms v sizes h k
grounded_within versions rounds c ms v sizes h (inr k) =
    let r = at_within versions rounds c (λ q. nat_le v (row_top q)) ms h k in
    let le = le_means v (row_top r.0) r.1.0 in
    let top = top_within versions rounds r.0.columns r.1.1.columns in
    omega (arith, le, top)

-- the rounds of known rows
pub known_within : (versions rounds v : ℕ) (ms : List Action) (s : ℕ) → AreHeardWithin versions rounds ms → round_known v (rows_known ms s) ≤ rounds
known_within versions rounds v ms s h = by_row (site_now ms s) refl
  where
    seen_at : (o : Option Seen) → o ≡ (site_now ms s).row → round_known v (row_seen o) ≤ rounds
    seen_at None e = omega arith
    seen_at (Some seen) e = round_within versions rounds seen.row v (last_within versions rounds ms s seen h (sym e))

    by_row : (now : SiteNow) → now ≡ site_now ms s → round_known v (known now) ≤ rounds
    by_row now e = elim now.out as (λ b. round_known v (if b then None else row_seen now.row) ≤ rounds) [ true ↦ omega arith | false ↦ seen_at now.row (ap (λ (k : SiteNow). k.row) e) ]

-- a ballot that was promised
promise_low : (o : Option (ℕ × BallotAt)) (v : ℕ) (b : BallotAt) (round : ℕ) → passes_sent (λ p. (p.0 == v) && same_ballot p.1 b) o ≡ true → b.round ≤ round_after o round
promise_low None v b round h = cc
promise_low (Some p) v b round h = let k = and_parts (p.0 == v) (same_ballot p.1 b) h in let e : p.1.round ≡ b.round = ap (λ (q : BallotAt). q.round) (same_means p.1 b k.1) in omega (arith, e)

round_keeps : (o : Option (ℕ × BallotAt)) (round : ℕ) → round ≤ round_after o round
round_keeps None round = omega arith
round_keeps (Some p) round = omega arith

pub promised_low : (ms : List Action) (v : ℕ) (b : BallotAt) → has_promised_at ms v b ≡ true → b.round ≤ top_round ms
promised_low [] v b h = cc
promised_low (m ∷ ms) v b h = elim (or_cases (passes_sent (λ p. (p.0 == v) && same_ballot p.1 b) (of_sent promise_by m)) (has_promised_at ms v b) h) [
  | inl e ↦ promise_low (of_sent promise_by m) v b (top_round ms) e
  | inr e ↦ (let r = promised_low ms v b e in let k = round_keeps (of_sent promise_by m) (top_round ms) in omega (arith, r, k))
]
