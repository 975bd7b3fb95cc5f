-- Rounds rise by at most one a request: those of rows that are known stay below the ones that no run reaches.
use Rattle.std.proofs.Common.{◌≡◌, ℕ, zero, suc, ◌+◌, ◌<◌, ◌≤◌, ◌^◌, max, true, List, [], ◌∷◌, ◌++◌, length, Some, refl, sym, subst, inl, inr, ◌⊎◌, arith}
use Rattle.gz_core.specs.Names.{BallotAt}
use Rattle.gz_config.specs.declared.Config.{Config}
use Rattle.gz_core.specs.declared.requests.RowStep.{RowStep}
use Rattle.gz_core.specs.declared.requests.RowStep.TheVariants.{FastVote, Promise, ClassicVote, Decide, Trim}
use Rattle.gz_core.specs.declared.requests.Op.{Op}
use Rattle.gz_core.specs.declared.requests.Op.TheVariants.{WriteRow}
use Rattle.gz_core.specs.declared.requests.Out.{Out}
use Rattle.gz_round.specs.declared.run.Run.{Run}
use Rattle.gz_round.specs.declared.outcome.Outcome.{Outcome}
use Rattle.gz_round.specs.declared.outcome.Outcome.TheVariants.{Goes}
use Rattle.gz_core.specs.History.{Action, Sent, GaveIn, Caller, Trace, IsClosing, is_row_request, asked_of, sent_from}
use Rattle.gz_round.specs.Sites.{SiteNow, site_now}
use Rattle.gz_round.specs.Sent.{of_step, promise_by, round_after, top_round, last_promise}
use Rattle.gz_round.specs.Rounds.{round_known, greatest, next_round, top_rounds, rounds_used}
use Rattle.gz_round.specs.Sending.{AreAllowed, MayAsk, MayMake, rows_known}
use Rattle.gz_round.specs.Following.{Turned}
use Rattle.gz_round.proofs.LookBacks.{last_promised_at}
use Rattle.gz_round.proofs.Prepares.{promised_round_at, round_below}

greatest_below : (n : ℕ) (f : ℕ → ℕ) (r : ℕ) → 0 < r → ((s : ℕ) → f s < r) → greatest n f < r
greatest_below zero f r l h = l
greatest_below (suc n) f r l h = omega (arith, greatest_below n f r l h, h n)

next_below : (c : Config) (w : Caller) (past : List Trace) (ms : List Action) (v r : ℕ) → rounds_used past ms < r → 2 ^ 31 ≤ r → AreAllowed c w past ms → next_round c past ms v < r + 1
next_below c w past ms v r used high allowed = omega (arith, greatest_below c.n (λ s. round_known v (rows_known ms s)) (2 ^ 31) (omega arith) (λ (s : ℕ). round_below c w past ms v s (rows_known ms s) allowed refl))

promise_below : (c : Config) (w : Caller) (past : List Trace) (ms : List Action) (v : ℕ) (b : BallotAt) (r : ℕ) → rounds_used past ms < r → 2 ^ 31 ≤ r → AreAllowed c w past ms → (b.round ≡ next_round c past ms v) ⊎ (last_promise ms ≡ Some (v, b)) → b.round < r + 1
promise_below c w past ms v b r used high allowed (inl e) = omega (arith, next_below c w past ms v r used high allowed)
promise_below c w past ms v b r used high allowed (inr last) = omega (arith, promised_round_at ms v b (last_promised_at ms v b last))

step_below : (c : Config) (w : Caller) (past : List Trace) (ms : List Action) (step : RowStep) (r : ℕ) → rounds_used past ms < r → 2 ^ 31 ≤ r → AreAllowed c w past ms → MayMake c w past ms step → max (top_rounds past) (round_after (promise_by step) (top_round ms)) < r + 1
step_below c w past ms (FastVote v x) r used high allowed may = omega arith
step_below c w past ms (Promise v b) r used high allowed may = omega (arith, promise_below c w past ms v b r used high allowed may.round)
step_below c w past ms (ClassicVote v b x) r used high allowed may = omega arith
step_below c w past ms (Decide v x) r used high allowed may = omega arith
step_below c w past ms (Trim to x) r used high allowed may = omega arith

op_below : (c : Config) (w : Caller) (past : List Trace) (ms : List Action) (now : SiteNow) (op : Op) (r : ℕ) → rounds_used past ms < r → 2 ^ 31 ≤ r → AreAllowed c w past ms → (is_row_request op ≡ true → MayAsk c w past ms now op) → max (top_rounds past) (round_after (of_step promise_by op) (top_round ms)) < r + 1
op_below c w past ms now (WriteRow key expect step row) r used high allowed may = step_below c w past ms step r used high allowed (may refl).1.guard
op_below c w past ms now op r used high allowed may = omega arith

-- what came before the requests of an event was allowed
pub allowed_before : (c : Config) (w : Caller) (past : List Trace) (first : ℕ) (outs : List Out) (ms : List Action) → AreAllowed c w past (sent_from first outs ms) → AreAllowed c w past ms
allowed_before c w past first [] ms h = h
allowed_before c w past first (o ∷ os) ms h = (allowed_before c w past (first + 1) os (Sent (asked_of first o) ∷ ms) h).1

-- the rounds that a session used after the requests of an event
pub sent_below : (c : Config) (w : Caller) (past : List Trace) (first : ℕ) (outs : List Out) (ms : List Action) (r : ℕ) → rounds_used past ms < r → 2 ^ 31 ≤ r → AreAllowed c w past (sent_from first outs ms) → rounds_used past (sent_from first outs ms) < r + length outs
sent_below c w past first [] ms r used high h = omega arith
sent_below c w past first (o ∷ os) ms r used high h =
    let one : AreAllowed c w past (Sent (asked_of first o) ∷ ms) = allowed_before c w past (first + 1) os (Sent (asked_of first o) ∷ ms) h in
    let more : rounds_used past (Sent (asked_of first o) ∷ ms) < r + 1 = op_below c w past ms (site_now ms o.site) o.op r used high one.1 (λ row. (one.0 row).asks) in
    omega (arith, sent_below c w past (first + 1) os (Sent (asked_of first o) ∷ ms) (r + 1) more (omega arith) h)

turned_allowed : (c : Config) (w : Caller) (past : List Trace) (run : Run) (ms : List Action) (outcome : Outcome) → Turned c w past run ms outcome → AreAllowed c w past ms
turned_allowed c w past run ms Goes t = t.stands.allowed
turned_allowed c w past run ms outcome t = t.allowed

closed_below : (c : Config) (w : Caller) (past : List Trace) (closing ms : List Action) (r : ℕ) → IsClosing closing → (AreAllowed c w past ms → rounds_used past ms < r) → AreAllowed c w past (closing ++ ms) → rounds_used past (closing ++ ms) < r
closed_below c w past closing ms r (inl e) below h = subst (λ k. rounds_used past (k ++ ms) < r) (sym e) (below (subst (λ k. AreAllowed c w past (k ++ ms)) e h))
closed_below c w past closing ms r (inr e) below h =
    let k : AreAllowed c w past (GaveIn ∷ ms) = subst (λ k. AreAllowed c w past (k ++ ms)) e h in
    subst (λ k. rounds_used past (k ++ ms) < r) (sym e) (below k.1)

-- and after an event of its newest call
pub turned_below : (c : Config) (w : Caller) (past : List Trace) (run : Run) (closing : List Action) (first : ℕ) (outs : List Out) (ms : List Action) (outcome : Outcome) → IsClosing closing → rounds_used past ms < 2 ^ 31 + first → Turned c w past run (closing ++ sent_from first outs ms) outcome → rounds_used past (closing ++ sent_from first outs ms) < 2 ^ 31 + (first + length outs)
turned_below c w past run closing first outs ms outcome closes used t =
    closed_below c w past closing (sent_from first outs ms) (2 ^ 31 + (first + length outs)) closes (λ allowed. omega (arith, sent_below c w past first outs ms (2 ^ 31 + first) used (omega arith) allowed)) (turned_allowed c w past run (closing ++ sent_from first outs ms) outcome t)
