-- A call that begins has heard nothing yet, and so has no answer.
use Rattle.std.proofs.Common.{◌≡◌, ℕ, zero, suc, ◌+◌, ◌≤◌, inl, inr, List, [], ◌∷◌, Some, None, Bool, true, false, refl, ap, ◌∙◌, arith}
use Rattle.std.specs.Prelude.{cond, if◌then◌else◌, nat_le, ◌==◌, Option}
use Rattle.gz_config.specs.declared.Config.{Config}
use Rattle.gz_core.specs.Names.{Name, BallotAt, fast, same_ballot}
use Rattle.gz_core.specs.Configurations.{IsConfig, need}
use Rattle.gz_core.specs.Counts.{count_sites}
use Rattle.gz_core.specs.Rows.{RowAt}
use Rattle.gz_core.specs.declared.calls.Answer.{Answer}
use Rattle.gz_core.specs.declared.calls.Answer.TheVariants.{Ok, Thin, Short, Bytes, Incomplete, Gone, Absent, Unborn, Collected, NoQuorum, Contended, Unsure}
use Rattle.gz_core.specs.declared.calls.Call.{Call}
use Rattle.gz_core.specs.declared.calls.Phase.{Phase}
use Rattle.gz_core.specs.declared.calls.UnsureWhy.{UnsureWhy}
use Rattle.gz_core.specs.declared.calls.UnsureWhy.TheVariants.{NoQuorum as UnsureNoQuorum, Contended as UnsureContended, Trimmed as UnsureTrimmed}
use Rattle.gz_core.specs.declared.requests.Out.{Out}
use Rattle.gz_core.specs.declared.requests.Turn.{Turn}
use Rattle.gz_pick.specs.Evidences.{votes_for, decides}
use Rattle.gz_pick.specs.Looks.{row_top}
use Rattle.gz_round.specs.Causes.{UnsureCause, IsCutOff, is_blank}
use Rattle.gz_data.specs.Blobs.{lost}
use Rattle.gz_client.specs.Causes.{HasCause, IsPlaced}
use Rattle.gz_round.specs.Counting.{outs}
use Rattle.gz_core.specs.History.{Asked, Action, Sent, Caller, Trace, asked_of, sent_from, begun}
use Rattle.gz_core.specs.declared.values.Value.{Value}
use Rattle.gz_round.specs.Sent.{met}
use Rattle.gz_round.specs.Shown.{heard_at, IsShown, HasFloor}
use Rattle.gz_round.specs.Sites.{SiteNow, site_now, after_sent, is_to, some_heard}
use Rattle.gz_client.specs.Traces.{KeepsRules, IsAnswered}

-- a test that no site passes counts none
none_counted : (n : ℕ) (p : ℕ → Bool) → ((s : ℕ) → p s ≡ false) → count_sites n p ≡ 0
none_counted zero p none = refl
none_counted (suc n) p none = ap (λ b. cond b (suc (count_sites n p)) (count_sites n p)) (none n) ∙ none_counted n p none

-- what is sent is not heard
sent_unheard : (p : RowAt → Bool) (first : ℕ) (outs : List Out) (ms : List Action) (s : ℕ) → some_heard p (sent_from first outs ms) s ≡ some_heard p ms s
sent_unheard p first [] ms s = refl
sent_unheard p first (o ∷ os) ms s = sent_unheard p (first + 1) os (Sent (asked_of first o) ∷ ms) s

-- nor does it overtake, lose a fragment, or put a site out
sent_met : (first : ℕ) (outs : List Out) (ms : List Action) → met (sent_from first outs ms) ≡ met ms
sent_met first [] ms = refl
sent_met first (o ∷ os) ms = sent_met (first + 1) os (Sent (asked_of first o) ∷ ms)

sent_lost : (first : ℕ) (outs : List Out) (ms : List Action) → lost (sent_from first outs ms) ≡ lost ms
sent_lost first [] ms = refl
sent_lost first (o ∷ os) ms = sent_lost (first + 1) os (Sent (asked_of first o) ∷ ms)

still_in : (a : Asked) (now : SiteNow) (b : Bool) → (if b then after_sent a now else now).out ≡ now.out
still_in a now true = elim a.awaited as (λ w. (if w then (let k : SiteNow = record { row = now.row; changed = now.changed; out = now.out; awaits = Some a; unanswered = true } in k) else now).out ≡ now.out) [ true ↦ refl | false ↦ refl ]
still_in a now false = refl

sent_out : (first : ℕ) (outs : List Out) (ms : List Action) (s : ℕ) → (site_now (sent_from first outs ms) s).out ≡ (site_now ms s).out
sent_out first [] ms s = refl
sent_out first (o ∷ os) ms s = let a = asked_of first o in sent_out (first + 1) os (Sent a ∷ ms) s ∙ still_in a (site_now ms s) (is_to a s)

pub some_needed : (c : Config) (b : BallotAt) → IsConfig c → 1 ≤ need c.qc c.qf b
some_needed c b sizes =
    let q = sizes.quorums in
    let m = q.majority in
    let l = q.classic in
    let n = sizes.some in
    elim (same_ballot b fast) as (λ t. 1 ≤ (if t then c.qf else c.qc)) [ true ↦ omega (arith, m, l, n) | false ↦ omega (arith, m, l, n) ]

-- a call that has heard nothing from any site has no answer
record HeardNothing (c : Config) (ms : List Action) : Type 0 where
  rows : (p : RowAt → Bool) → heard_at c p ms ≡ 0
  met_is : met ms ≡ 0
  outs_is : outs c ms ≡ 0
  lost_is : lost ms ≡ 0

begun_nothing : (c : Config) (first : ℕ) (outs : List Out) → HeardNothing c (sent_from first outs [])
begun_nothing c first outs = record {
  rows = λ p. none_counted c.n (some_heard p (sent_from first outs [])) (λ s. sent_unheard p first outs [] s);
  met_is = sent_met first outs [];
  outs_is = none_counted c.n (λ s. (site_now (sent_from first outs []) s).out) (λ s. sent_out first outs [] s);
  lost_is = sent_lost first outs [];
}

none_shown : (c : Config) (ms : List Action) (v : ℕ) (x : Name) → IsConfig c → HeardNothing c ms → IsShown c ms v x → ⊥
none_shown c ms v x sizes nothing (inl k) =
    let z = nothing.rows (λ r. votes_for k.0 x v (Some r)) in
    let some = some_needed c k.0 sizes in
    let enough = k.1 in
    omega (arith, z, some, enough)
none_shown c ms v x sizes nothing (inr k) = let z = nothing.rows (λ r. decides x v (Some r)) in omega (arith, z, k)

not_cut_off : (c : Config) (ms : List Action) (phase : Phase) (heard : ℕ) → IsConfig c → HeardNothing c ms → IsCutOff c ms phase heard → ⊥
not_cut_off c ms phase heard sizes nothing h =
    let z = nothing.outs_is in
    let lost = h.lost in
    let q = sizes.quorums in
    let l = q.classic in
    let m = q.fast in
    omega (arith, z, lost, l, m)

not_overtaken : (c : Config) (ms : List Action) → IsConfig c → HeardNothing c ms → c.tries ≤ met ms → ⊥
not_overtaken c ms sizes nothing h = let z = nothing.met_is in let some = sizes.again in omega (arith, z, some, h)

no_floor : (c : Config) (ms : List Action) (floor : ℕ) → HeardNothing c ms → HasFloor c ms floor → ⊥
no_floor c ms floor nothing h = let z = nothing.rows (λ r. r.floor == floor) in omega (arith, z, h)

-- nor was it heard from a quorum
no_quorum : (c : Config) (ms : List Action) (p : RowAt → Bool) → IsConfig c → HeardNothing c ms → c.qc ≤ heard_at c p ms → ⊥
no_quorum c ms p sizes nothing h =
    let z = nothing.rows p in
    let q = sizes.quorums in
    let m = q.majority in
    omega (arith, z, h, m)

not_unsure : (c : Config) (w : Caller) (ms : List Action) (why : UnsureWhy) → IsConfig c → HeardNothing c ms → UnsureCause c w ms why → ⊥
not_unsure c w ms (UnsureNoQuorum phase heard) sizes nothing h = not_cut_off c ms phase heard sizes nothing h
not_unsure c w ms (UnsureContended m) sizes nothing h = not_overtaken c ms sizes nothing h.0
not_unsure c w ms (UnsureTrimmed floor) sizes nothing h = no_floor c ms floor nothing h.1.heard

placed_never : (c : Config) (w : Caller) (ms : List Action) (v : ℕ) → IsConfig c → HeardNothing c ms → IsPlaced c w ms v → ⊥
placed_never c w ms v sizes nothing h = none_shown c ms v w.name sizes nothing h.chosen.2

no_cause : (c : Config) (w : Caller) (ms : List Action) (answer : Answer) → IsConfig c → HeardNothing c ms → HasCause c w ms answer → ⊥
no_cause c w ms (Ok v) sizes nothing h = placed_never c w ms v sizes nothing h.1
no_cause c w ms (Thin v told) sizes nothing h = placed_never c w ms v sizes nothing h.1
no_cause c w ms (Short told) sizes nothing h =
    let lost = h.1.lost in
    let z = nothing.lost_is in
    let spare = sizes.spare in
    omega (arith, lost, z, spare)
no_cause c w ms (Bytes v x bytes) sizes nothing h = none_shown c ms v _ sizes nothing h.1.2.shown
no_cause c w ms (Incomplete v x fates) sizes nothing h = none_shown c ms v _ sizes nothing h.1.2.shown
no_cause c w ms (Gone v x) sizes nothing h = none_shown c ms v _ sizes nothing h.1.shown
no_cause c w ms Absent sizes nothing h = no_quorum c ms is_blank sizes nothing h.1.blank
no_cause c w ms (Unborn latest) sizes nothing h = no_quorum c ms (λ r. nat_le (row_top r) latest) sizes nothing h.1.current
no_cause c w ms (Collected floor) sizes nothing h = no_floor c ms floor nothing h.1.heard
no_cause c w ms (NoQuorum phase heard) sizes nothing h = not_cut_off c ms phase heard sizes nothing h.1.1
no_cause c w ms (Contended m) sizes nothing h = not_overtaken c ms sizes nothing h.1.1.0
no_cause c w ms (Unsure why) sizes nothing h = not_unsure c w ms why sizes nothing h.1.1
no_cause c w ms answer sizes nothing h = absurd h

pub begun_open : (c : Config) (past : List Trace) (session : ℕ) (call : Call) (own : Option Value) (first : ℕ) (turn : Turn) (earlier : List Trace) → IsConfig c → KeepsRules c past (begun session call own first turn earlier) → turn.answer ≡ None
begun_open c past session call own first turn earlier sizes told =
    let t = begun session call own first turn earlier in
    elim turn.answer as (λ o. IsAnswered c past t o → o ≡ None) [
      | None ↦ λ h. refl
      | Some answer ↦ λ h. absurd (no_cause c t.caller t.actions answer sizes (begun_nothing c first turn.send) h)
    ] told.answered
