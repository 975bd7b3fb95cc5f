-- What a call sends at one event stays within the bounds of the next one.
use Rattle.std.proofs.Common.{◌≡◌, ℕ, zero, suc, ◌+◌, ◌≤◌, ◌<◌, inl, inr, List, [], ◌∷◌, Some, None, Bool, true, false, length, refl, ap, sym, ◌∙◌, subst, arith}
use Rattle.std.proofs.lemmas.Bool.{cases_Bool, and_parts, or_cases, eqb-true}
use Rattle.std.specs.Prelude.{◌==◌, ◌&&◌, ◌||◌, not, if◌then◌else◌, is_some, slice_get}
use Rattle.gz_config.specs.declared.Config.{Config}
use Rattle.gz_core.specs.Configurations.{IsConfig}
use Rattle.gz_core.specs.Counts.{count_sites}
use Rattle.gz_core.specs.Names.{BallotAt, fast, same_ballot}
use Rattle.gz_core.specs.Values.{name_of}
use Rattle.gz_core.specs.Rows.{RowAt, column_in}
use Rattle.gz_core.specs.declared.rows.Column.{Column}
use Rattle.gz_core.specs.declared.rows.Column.TheVariants.{Open, Decided}
use Rattle.gz_core.specs.declared.rows.Vote.{Vote}
use Rattle.gz_accept.specs.Steps.{vote_in, with_column}
use Rattle.gz_core.specs.declared.requests.RowStep.{RowStep}
use Rattle.gz_core.specs.declared.requests.RowStep.TheVariants.{FastVote, Promise, ClassicVote, Decide, Trim}
use Rattle.gz_core.specs.declared.requests.Op.{Op}
use Rattle.gz_core.specs.declared.requests.Op.TheVariants.{WriteRow, ReadRow}
use Rattle.gz_core.specs.declared.requests.Out.{Out}
use Rattle.gz_core.proofs.Counting.{count_added, count_weaker}
use Rattle.gz_core.specs.History.{Asked, Action, Sent, Caller, Trace, asked_of, sent_from, is_row_request}
use Rattle.gz_round.specs.Rounds.{top_rounds, round_known, MayPromise}
use Rattle.gz_round.specs.Sending.{AreAllowed, IsAllowed, MaySend, MayAsk, MayMake, IsMade, made_by, is_awaited, rows_known}
use Rattle.gz_round.specs.Sent.{of_step, passes_sent, promise_by, has_promised_at, round_after, top_round, is_notice}
use Rattle.gz_round.specs.Sites.{SiteNow, site_now, after_sent, is_to}
use Rattle.gz_round.proofs.LookBacks.{last_promised_at}
use Rattle.gz_laws.specs.Bounded.{IsColumnWithin, AreColumnsWithin, IsRowWithin}
use Rattle.gz_laws.specs.Rows.{IfWritten}
use Rattle.gz_laws.proofs.Growing.{allowed_base, row_made}
use Rattle.gz_round.proofs.Actions.{is_to_same}
use Rattle.gz_laws.proofs.RowBounds.{row_wider, columns_with, columns_left, greatest_within}
use Rattle.gz_laws.proofs.Bounding.{AreHeardWithin, last_within, shown_within, next_within, grounded_within, known_within, promised_low}

-- what a call knows and has promised: the rows that it heard are within these bounds, its session's rounds within `used`
pub record IsCallWithin (versions rounds used : ℕ) (c : Config) (past : List Trace) (ms : List Action) : Type 0 where
  pub sizes : IsConfig c
  pub heard : AreHeardWithin versions rounds ms
  pub above : rounds ≤ used
  pub earlier : top_rounds past ≤ used
  pub now : top_round ms ≤ used
  pub low : (v : ℕ) (b : BallotAt) → has_promised_at ms v b ≡ true → v ≤ versions + 1

-- a promise is of the next round at most
promise_next : (versions rounds used : ℕ) (c : Config) (w : Caller) (past : List Trace) (ms : List Action) (v : ℕ) (b : BallotAt) → IsCallWithin versions rounds used c past ms → MayPromise c w past ms v b → b.round ≤ used + 1
promise_next versions rounds used c w past ms v b k may = elim may.round [
  | inl e ↦ (let g = greatest_within c.n rounds (λ s. round_known v (rows_known ms s)) (λ s. known_within versions rounds v ms s k.heard) in
      let a = k.above in
      let p = k.earlier in
      let n = k.now in
      omega (arith, e, g, a, p, n))
  | inr e ↦ (let l = promised_low ms v b (last_promised_at ms v b e) in let n = k.now in omega (arith, l, n))
]

-- a row with another column at a version
column_made : (versions rounds next v : ℕ) (column : Column) (before : RowAt) → IsRowWithin versions rounds before → rounds ≤ next → v ≤ versions + 1 → IsColumnWithin next column → AreColumnsWithin (versions + 1) next (with_column v column before.columns)
column_made versions rounds next v column before h wide le is = columns_with (versions + 1) next v column before.columns le is (row_wider versions (versions + 1) rounds next before (omega arith) wide h).columns

-- the row that a step makes
made_columns : (versions rounds used next : ℕ) (c : Config) (w : Caller) (past : List Trace) (ms : List Action) (step : RowStep) (before : RowAt) → IsCallWithin versions rounds used c past ms → used ≤ next → (is_notice step ≡ false → used + 1 ≤ next)
    → MayMake c w past ms step → IsRowWithin versions rounds before → AreColumnsWithin (versions + 1) next (made_by step before).columns
made_columns versions rounds used next c w past ms (FastVote v x) before k le more may h =
    let a = k.above in
    let vote : Vote = record { ballot = fast; value = x } in
    column_made versions rounds next v (Open fast (Some vote)) before h (omega (arith, a, le)) (next_within versions rounds c ms v k.sizes k.heard may.1.next) (omega arith)
made_columns versions rounds used next c w past ms (Promise v b) before k le more may h =
    let a = k.above in
    let round = promise_next versions rounds used c w past ms v b k may in
    let up = more refl in
    column_made versions rounds next v (Open b (vote_in (column_in before.columns v))) before h (omega (arith, a, le)) (grounded_within versions rounds c ms v k.sizes k.heard may.grounded) (omega (arith, round, up))
made_columns versions rounds used next c w past ms (ClassicVote v b x) before k le more may h =
    let a = k.above in
    let vote : Vote = record { ballot = b; value = x } in
    let round = promised_low ms v b may.promised in
    let now = k.now in
    column_made versions rounds next v (Open b (Some vote)) before h (omega (arith, a, le)) (k.low v b may.promised) (omega (arith, round, now, le))
made_columns versions rounds used next c w past ms (Decide v x) before k le more may h =
    let a = k.above in
    let version = (shown_within versions rounds c ms v (name_of x) k.sizes k.heard may.0).below in
    column_made versions rounds next v (Decided x) before h (omega (arith, a, le)) (omega (arith, version)) tt
made_columns versions rounds used next c w past ms (Trim to x) before k le more may h =
    let a = k.above in
    let version = (shown_within versions rounds c ms (to + 1) (name_of x) k.sizes k.heard may.next).below in
    columns_left (versions + 1) next to (with_column (to + 1) (Decided x) before.columns) (column_made versions rounds next (to + 1) (Decided x) before h (omega (arith, a, le)) (omega (arith, version)) tt)

made_within : (versions rounds used next : ℕ) (c : Config) (w : Caller) (past : List Trace) (ms : List Action) (step : RowStep) (before row : RowAt) → IsCallWithin versions rounds used c past ms → used ≤ next → (is_notice step ≡ false → used + 1 ≤ next)
    → MayMake c w past ms step → IsMade step before row → IsRowWithin versions rounds before → IsRowWithin (versions + 1) next row
made_within versions rounds used next c w past ms step before row k le more may m h = record {
  rule = row_made c w past ms step before row (λ v x shown. (shown_within versions rounds c ms v x k.sizes k.heard shown).above) may m h.rule;
  columns = subst (λ (r : RowAt). AreColumnsWithin (versions + 1) next r.columns) (sym m.1) (made_columns versions rounds used next c w past ms step before k le more may h);
}

-- the row that a request writes
asks_within : (versions rounds used next : ℕ) (c : Config) (w : Caller) (past : List Trace) (ms : List Action) (s : ℕ) (op : Op) → IsCallWithin versions rounds used c past ms → used ≤ next → (is_awaited op ≡ true → used + 1 ≤ next) → MayAsk c w past ms (site_now ms s) op → IfWritten (IsRowWithin (versions + 1) next) op
asks_within versions rounds used next c w past ms s (WriteRow key expect step row) k le more may =
    let m = may.1 in
    made_within versions rounds used next c w past ms step m.before row k le (λ e. more (ap not e)) m.guard m.made (last_within versions rounds ms s (record { etag = expect; row = m.before }) k.heard m.last)
asks_within versions rounds used next c w past ms s op k le more may = tt

-- the rounds of the session's ballots, and the versions, once it is sent
step_round : (versions rounds used next : ℕ) (c : Config) (w : Caller) (past : List Trace) (ms : List Action) (step : RowStep) → IsCallWithin versions rounds used c past ms → used ≤ next → (is_notice step ≡ false → used + 1 ≤ next) → MayMake c w past ms step → round_after (promise_by step) (top_round ms) ≤ next
step_round versions rounds used next c w past ms (FastVote v x) k le more may = let n = k.now in omega (arith, n, le)
step_round versions rounds used next c w past ms (Promise v b) k le more may = let n = k.now in let r = promise_next versions rounds used c w past ms v b k may in let up = more refl in omega (arith, n, r, up, le)
step_round versions rounds used next c w past ms (ClassicVote v b x) k le more may = let n = k.now in omega (arith, n, le)
step_round versions rounds used next c w past ms (Decide v x) k le more may = let n = k.now in omega (arith, n, le)
step_round versions rounds used next c w past ms (Trim to x) k le more may = let n = k.now in omega (arith, n, le)

asks_round : (versions rounds used next : ℕ) (c : Config) (w : Caller) (past : List Trace) (ms : List Action) (now : SiteNow) (op : Op) → IsCallWithin versions rounds used c past ms → used ≤ next → (is_awaited op ≡ true → used + 1 ≤ next) → MayAsk c w past ms now op → round_after (of_step promise_by op) (top_round ms) ≤ next
asks_round versions rounds used next c w past ms now (WriteRow key expect step row) k le more may = step_round versions rounds used next c w past ms step k le (λ e. more (ap not e)) may.1.guard
asks_round versions rounds used next c w past ms now op k le more may = let n = k.now in omega (arith, n, le)

step_version : (versions rounds used : ℕ) (c : Config) (w : Caller) (past : List Trace) (ms : List Action) (step : RowStep) (u : ℕ) (d : BallotAt) → IsCallWithin versions rounds used c past ms → MayMake c w past ms step → passes_sent (λ p. (p.0 == u) && same_ballot p.1 d) (promise_by step) ≡ true → u ≤ versions + 1
step_version versions rounds used c w past ms (FastVote v x) u d k may h = cc
step_version versions rounds used c w past ms (Promise v b) u d k may h =
    let same : v ≡ u = eqb-true v u (and_parts (v == u) (same_ballot b d) h).0 in
    let l = grounded_within versions rounds c ms v k.sizes k.heard may.grounded in
    omega (arith, same, l)
step_version versions rounds used c w past ms (ClassicVote v b x) u d k may h = cc
step_version versions rounds used c w past ms (Decide v x) u d k may h = cc
step_version versions rounds used c w past ms (Trim to x) u d k may h = cc

asks_version : (versions rounds used : ℕ) (c : Config) (w : Caller) (past : List Trace) (ms : List Action) (now : SiteNow) (op : Op) (u : ℕ) (d : BallotAt) → IsCallWithin versions rounds used c past ms → MayAsk c w past ms now op → passes_sent (λ p. (p.0 == u) && same_ballot p.1 d) (of_step promise_by op) ≡ true → u ≤ versions + 1
asks_version versions rounds used c w past ms now (WriteRow key expect step row) u d k may h = step_version versions rounds used c w past ms step u d k may.1.guard h
asks_version versions rounds used c w past ms now op u d k may h = cc

-- a measure that grows with each request for a row that is awaited, and falls with none
abbrev pub cost_of : Bool → ℕ
cost_of b = if b then 1 else 0

pub record Measures (c : Config) (measure : List Action → ℕ) : Type 0 where
  pub grows : (w : Caller) (past : List Trace) (ms : List Action) (a : Asked) → MaySend c w past ms a → measure ms + cost_of a.awaited ≤ measure (Sent a ∷ ms)
  pub keeps : (ms : List Action) (a : Asked) → measure ms ≤ measure (Sent a ∷ ms)

-- once the call has sent its requests
pub record HasSentWithin (versions used : ℕ) (measure : List Action → ℕ) (first : ℕ) (outs : List Out) (ms : List Action) : Type 0 where
  pub next : ℕ
  pub low : used ≤ next
  pub cost : next + measure ms ≤ used + measure (sent_from first outs ms)
  pub now : top_round (sent_from first outs ms) ≤ next
  pub versions_are : (v : ℕ) (b : BallotAt) → has_promised_at (sent_from first outs ms) v b ≡ true → v ≤ versions + 1
  pub ops : (j : ℕ) (o : Out) → slice_get outs j ≡ Some o → IfWritten (IsRowWithin (versions + 1) next) o.op

op_wider : (v r q : ℕ) (op : Op) → r ≤ q → IfWritten (IsRowWithin v r) op → IfWritten (IsRowWithin v q) op
op_wider v r q (WriteRow key expect step row) le h = row_wider v v r q row (omega arith) le h
op_wider v r q op le h = tt

cost_least : (b : Bool) (used : ℕ) → b ≡ true → used + 1 ≤ used + cost_of b
cost_least b used e = let k : cost_of b ≡ 1 = ap cost_of e in omega (arith, k)

ops_cons : (v r : ℕ) (out : Out) (outs : List Out) → IfWritten (IsRowWithin v r) out.op → ((j : ℕ) (o : Out) → slice_get outs j ≡ Some o → IfWritten (IsRowWithin v r) o.op) → (j : ℕ) (o : Out) → slice_get (out ∷ outs) j ≡ Some o → IfWritten (IsRowWithin v r) o.op
ops_cons v r out outs one more zero o e = let same : out ≡ o = cc in subst (λ (k : Out). IfWritten (IsRowWithin v r) k.op) same one
ops_cons v r out outs one more (suc j) o e = more j o e

-- once the call has sent one request
record HasSentOne (versions used : ℕ) (measure : List Action → ℕ) (a : Asked) (ms : List Action) : Type 0 where
  next : ℕ
  low : used ≤ next
  cost : next + measure ms ≤ used + measure (Sent a ∷ ms)
  now : top_round (Sent a ∷ ms) ≤ next
  versions_are : (v : ℕ) (b : BallotAt) → passes_sent (λ p. (p.0 == v) && same_ballot p.1 b) (of_step promise_by a.op) ≡ true → v ≤ versions + 1
  op : IfWritten (IsRowWithin (versions + 1) next) a.op

row_within : (versions rounds used : ℕ) (measure : List Action → ℕ) (c : Config) (w : Caller) (past : List Trace) (ms : List Action) (a : Asked) → IsCallWithin versions rounds used c past ms → Measures c measure → MaySend c w past ms a → HasSentOne versions used measure a ms
row_within versions rounds used measure c w past ms a k measures may =
    let next = used + cost_of a.awaited in
    let le : used ≤ next = omega arith in
    let more : is_awaited a.op ≡ true → used + 1 ≤ next = λ e. cost_least a.awaited used (may.awaited ∙ e) in
    let grown = measures.grows w past ms a may in
    record {
      next = next;
      low = le;
      cost = omega (arith, grown);
      now = asks_round versions rounds used next c w past ms (site_now ms a.site) a.op k le more may.asks;
      versions_are = λ v b e. asks_version versions rounds used c w past ms (site_now ms a.site) a.op v b k may.asks e;
      op = asks_within versions rounds used next c w past ms a.site a.op k le more may.asks;
    }

-- a request for a blob writes no row, and promises nothing
unwritten : (P : RowAt → Type 0) (op : Op) → is_row_request op ≡ false → IfWritten P op
unwritten P (WriteRow key expect step row) blob = cc
unwritten P op blob = tt

unpromised : (op : Op) → is_row_request op ≡ false → of_step promise_by op ≡ None
unpromised (WriteRow key expect step row) blob = cc
unpromised op blob = refl

blob_within : (versions rounds used : ℕ) (measure : List Action → ℕ) (c : Config) (past : List Trace) (ms : List Action) (a : Asked) → IsCallWithin versions rounds used c past ms → Measures c measure → is_row_request a.op ≡ false → HasSentOne versions used measure a ms
blob_within versions rounds used measure c past ms a k measures blob =
    let kept = measures.keeps ms a in
    let none = unpromised a.op blob in
    let now = k.now in
    record {
      next = used;
      low = omega arith;
      cost = omega (arith, kept);
      now = subst (λ o. round_after o (top_round ms) ≤ used) (sym none) now;
      versions_are = λ v b e. let bad : false ≡ true = sym (ap (passes_sent (λ p. (p.0 == v) && same_ballot p.1 b)) none) ∙ e in cc;
      op = unwritten (IsRowWithin (versions + 1) used) a.op blob;
    }

one_within : (versions rounds used : ℕ) (measure : List Action → ℕ) (c : Config) (w : Caller) (past : List Trace) (ms : List Action) (a : Asked) → IsCallWithin versions rounds used c past ms → Measures c measure → IsAllowed c w past ms (Sent a) → HasSentOne versions used measure a ms
one_within versions rounds used measure c w past ms a k measures may = elim (cases_Bool (is_row_request a.op)) [
  | inl row ↦ row_within versions rounds used measure c w past ms a k measures (may row)
  | inr blob ↦ blob_within versions rounds used measure c past ms a k measures blob
]

pub sends_within : (versions rounds used : ℕ) (measure : List Action → ℕ) (c : Config) (w : Caller) (past : List Trace) (first : ℕ) (outs : List Out) (ms : List Action) → IsCallWithin versions rounds used c past ms → Measures c measure → AreAllowed c w past (sent_from first outs ms) → HasSentWithin versions used measure first outs ms
sends_within versions rounds used measure c w past first [] ms k measures allowed = record { next = used; low = omega arith; cost = omega arith; now = k.now; versions_are = k.low; ops = λ j o e. cc }
sends_within versions rounds used measure c w past first (out ∷ outs) ms k measures allowed =
    let a = asked_of first out in
    let one = one_within versions rounds used measure c w past ms a k measures (allowed_base c w past (first + 1) outs (Sent a ∷ ms) allowed).0 in
    let next = one.next in
    let le = one.low in
    let above = k.above in
    let before = k.earlier in
    let after : IsCallWithin versions rounds next c past (Sent a ∷ ms) = record {
      sizes = k.sizes;
      heard = k.heard;
      above = omega (arith, above, le);
      earlier = omega (arith, before, le);
      now = one.now;
      low = λ v b h. elim (or_cases (passes_sent (λ p. (p.0 == v) && same_ballot p.1 b) (of_step promise_by out.op)) (has_promised_at ms v b) h) [ inl e ↦ one.versions_are v b e | inr e ↦ k.low v b e ];
    } in
    let rest = sends_within versions rounds next measure c w past (first + 1) outs (Sent a ∷ ms) after measures allowed in
    let low = rest.low in
    let paid = rest.cost in
    let grown = one.cost in
    record {
      next = rest.next;
      low = omega (arith, low, le);
      cost = omega (arith, paid, grown);
      now = rest.now;
      versions_are = rest.versions_are;
      ops = ops_cons (versions + 1) rest.next out outs (op_wider (versions + 1) next rest.next out.op low one.op) rest.ops;
    }

-- how many requests were sent is such a measure
pub sent_measures : (c : Config) → Measures c (λ ms. length ms)
sent_measures c = record {
  grows = λ w past ms a may. elim a.awaited as (λ b. length ms + cost_of b ≤ suc (length ms)) [ true ↦ omega arith | false ↦ omega arith ];
  keeps = λ ms a. omega arith;
}

pub sent_length : (first : ℕ) (outs : List Out) (ms : List Action) → length (sent_from first outs ms) ≡ length outs + length ms
sent_length first [] ms = omega arith
sent_length first (o ∷ os) ms = let r = sent_length (first + 1) os (Sent (asked_of first o) ∷ ms) in omega (arith, r)

-- and so is how many sites are awaited, of which there are only so many
abbrev pub awaited_at : List Action → ℕ → Bool
awaited_at ms s = is_some (site_now ms s).awaits

abbrev pub busy : Config → List Action → ℕ
busy c ms = count_sites c.n (awaited_at ms)

sent_awaited : (a : Asked) (now : SiteNow) → a.awaited ≡ true → is_some (after_sent a now).awaits ≡ true
sent_awaited a now e = ap (λ w. is_some (if w then (let k : SiteNow = record { row = now.row; changed = now.changed; out = now.out; awaits = Some a; unanswered = true } in k) else now).awaits) e

kept_awaited : (a : Asked) (now : SiteNow) → is_some now.awaits ≡ true → is_some (after_sent a now).awaits ≡ true
kept_awaited a now h = elim a.awaited as (λ w. is_some (if w then (let k : SiteNow = record { row = now.row; changed = now.changed; out = now.out; awaits = Some a; unanswered = true } in k) else now).awaits ≡ true) [ true ↦ refl | false ↦ h ]

if_awaited : (b : Bool) (x y : SiteNow) → (is_some y.awaits ≡ true → is_some x.awaits ≡ true) → is_some y.awaits ≡ true → is_some (if b then x else y).awaits ≡ true
if_awaited true x y f h = f h
if_awaited false x y f h = h

still_awaited : (a : Asked) (ms : List Action) (s : ℕ) → awaited_at ms s ≡ true → awaited_at (Sent a ∷ ms) s ≡ true
still_awaited a ms s h = if_awaited (is_to a s) (after_sent a (site_now ms s)) (site_now ms s) (kept_awaited a (site_now ms s)) h

now_awaited : (a : Asked) (ms : List Action) (s : ℕ) → is_row_request a.op ≡ true → a.awaited ≡ true → a.site ≡ s → awaited_at (Sent a ∷ ms) s ≡ true
now_awaited a ms s row e same = ap (λ b. is_some (if b then after_sent a (site_now ms s) else site_now ms s).awaits) (is_to_same a s row same) ∙ sent_awaited a (site_now ms s) e

busy_more : (c : Config) (ms : List Action) (a : Asked) → is_row_request a.op ≡ true → a.site < c.n → (site_now ms a.site).awaits ≡ None → busy c ms + cost_of a.awaited ≤ busy c (Sent a ∷ ms)
busy_more c ms a row below idle = elim (cases_Bool a.awaited) [
  | inl e ↦ (let one = count_added c.n a.site (awaited_at ms) below (ap is_some idle) in
      let all = count_weaker c.n (λ s. (a.site == s) || awaited_at ms s) (awaited_at (Sent a ∷ ms)) (λ s h. elim (or_cases (a.site == s) (awaited_at ms s) h) [ inl t ↦ now_awaited a ms s row e (eqb-true a.site s t) | inr t ↦ still_awaited a ms s t ]) in
      let k : cost_of a.awaited ≡ 1 = ap cost_of e in
      omega (arith, one, all, k))
  | inr e ↦ (let all = count_weaker c.n (awaited_at ms) (awaited_at (Sent a ∷ ms)) (λ s h. still_awaited a ms s h) in
      let k : cost_of a.awaited ≡ 0 = ap cost_of e in
      omega (arith, all, k))
]

-- what a call may ask of a site's row is for a row
asks_row : (c : Config) (w : Caller) (past : List Trace) (ms : List Action) (now : SiteNow) (op : Op) → MayAsk c w past ms now op → is_row_request op ≡ true
asks_row c w past ms now (ReadRow key) may = refl
asks_row c w past ms now (WriteRow key expect step row) may = refl
asks_row c w past ms now op may = absurd may

pub busy_measures : (c : Config) → Measures c (busy c)
busy_measures c = record {
  grows = λ w past ms a may. busy_more c ms a (asks_row c w past ms (site_now ms a.site) a.op may.asks) may.site may.idle;
  keeps = λ ms a. count_weaker c.n (awaited_at ms) (awaited_at (Sent a ∷ ms)) (λ s h. still_awaited a ms s h);
}
