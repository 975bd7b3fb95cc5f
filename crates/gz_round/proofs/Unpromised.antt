-- What a call hasn't promised.
use Rattle.std.proofs.Common.{◌≡◌, ℕ, ◌≤◌, ◌+◌, true, false, ◌&&◌, ◌||◌, ◌==◌, List, [], ◌∷◌, None, refl, ap, ◌∙◌, arith}
use Rattle.std.proofs.lemmas.Bool.{false≢true}
use Rattle.std.proofs.lemmas.List.Elements.{All-head, All-tail}
use Rattle.gz_core.specs.Names.{BallotAt, same_ballot}
use Rattle.gz_core.specs.declared.requests.RowStep.{RowStep}
use Rattle.gz_core.specs.declared.requests.RowStep.TheVariants.{FastVote, Promise, ClassicVote, Decide, Trim}
use Rattle.gz_core.specs.declared.requests.Op.{Op}
use Rattle.gz_core.specs.declared.requests.Op.TheVariants.{WriteRow}
use Rattle.gz_core.specs.declared.calls.Phase.TheVariants.{Look as NotBegun}
use Rattle.gz_core.specs.declared.requests.Out.{Out}
use Rattle.gz_core.specs.History.{Action, Sent, Handed, GaveUp, Rested, GaveIn, asked_of, sent_from}
use Rattle.gz_round.specs.Starting.{MakeNoStep, is_read_or_notice}
use Rattle.gz_round.specs.Sent.{is_notice, phase_by, promise_by, of_step, or_earlier, last_sent, passes_sent, phase_of, phase_or_look, has_promised_at, IsUnpromised}

-- no promise above a version is none above a later one
pub unpromised_from : (ms : List Action) (v u : ℕ) → v ≤ u → IsUnpromised ms v → IsUnpromised ms u
unpromised_from ms v u l h k d m = h k d (omega arith)

step_unpromised : (step : RowStep) (ms : List Action) (u : ℕ) (d : BallotAt) → phase_or_look (or_earlier (phase_by step) (last_sent phase_by ms)) ≡ NotBegun → has_promised_at ms u d ≡ false → (passes_sent (λ p. (p.0 == u) && same_ballot p.1 d) (promise_by step) || has_promised_at ms u d) ≡ false
step_unpromised (FastVote v x) ms u d e h = h
step_unpromised (Promise v b) ms u d e h = absurd (cc)
step_unpromised (ClassicVote v b x) ms u d e h = h
step_unpromised (Decide v x) ms u d e h = h
step_unpromised (Trim to x) ms u d e h = h

earlier_looks : (step : RowStep) (ms : List Action) → phase_or_look (or_earlier (phase_by step) (last_sent phase_by ms)) ≡ NotBegun → phase_of ms ≡ NotBegun
earlier_looks (FastVote v x) ms e = absurd (cc)
earlier_looks (Promise v b) ms e = absurd (cc)
earlier_looks (ClassicVote v b x) ms e = absurd (cc)
earlier_looks (Decide v x) ms e = e
earlier_looks (Trim to x) ms e = absurd (cc)

op_unpromised : (op : Op) (ms : List Action) (u : ℕ) (d : BallotAt) → phase_or_look (or_earlier (of_step phase_by op) (last_sent phase_by ms)) ≡ NotBegun → (phase_of ms ≡ NotBegun → has_promised_at ms u d ≡ false) → (passes_sent (λ p. (p.0 == u) && same_ballot p.1 d) (of_step promise_by op) || has_promised_at ms u d) ≡ false
op_unpromised (WriteRow key expect step row) ms u d e h = step_unpromised step ms u d e (h (earlier_looks step ms e))
op_unpromised op ms u d e h = h e

none_promised : (ms : List Action) (u : ℕ) (d : BallotAt) → phase_of ms ≡ NotBegun → has_promised_at ms u d ≡ false
none_promised [] u d e = refl
none_promised (Sent a ∷ ms) u d e = op_unpromised a.op ms u d e (none_promised ms u d)
none_promised (Handed a reply ∷ ms) u d e = none_promised ms u d e
none_promised (GaveUp a ∷ ms) u d e = none_promised ms u d e
none_promised (Rested ∷ ms) u d e = none_promised ms u d e
none_promised (GaveIn ∷ ms) u d e = none_promised ms u d e

-- a call that has sent no row write has promised nothing
pub looks_unpromised : (ms : List Action) (v : ℕ) → phase_of ms ≡ NotBegun → IsUnpromised ms v
looks_unpromised ms v e u d l = none_promised ms u d e

told_step : (step : RowStep) → is_notice step ≡ true → promise_by step ≡ None
told_step (Promise v b) h = absurd (false≢true h)
told_step (FastVote v x) h = refl
told_step (ClassicVote v b x) h = refl
told_step (Decide v x) h = refl
told_step (Trim to x) h = refl

told_op : (op : Op) → is_read_or_notice op ≡ true → of_step promise_by op ≡ None
told_op (WriteRow key expect step row) h = told_step step h
told_op op h = refl

-- a call that reads, or tells what is chosen, promises nothing
pub unpromised_sent : (first : ℕ) (outs : List Out) (ms : List Action) (v : ℕ) → MakeNoStep outs → IsUnpromised ms v → IsUnpromised (sent_from first outs ms) v
unpromised_sent first [] ms v stepless h = h
unpromised_sent first (o ∷ os) ms v stepless h =
    let none : of_step promise_by o.op ≡ None = told_op o.op (All-head (λ (out : Out). is_read_or_notice out.op ≡ true) o os stepless) in
    let here : IsUnpromised (Sent (asked_of first o) ∷ ms) v = λ (u : ℕ) (d : BallotAt) (l : v ≤ u). ap (λ p. passes_sent (λ q. (q.0 == u) && same_ballot q.1 d) p || has_promised_at ms u d) none ∙ h u d l in
    unpromised_sent (first + 1) os (Sent (asked_of first o) ∷ ms) v (All-tail (λ (out : Out). is_read_or_notice out.op ≡ true) o os stepless) here
