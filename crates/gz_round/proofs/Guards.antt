-- A guard that holds goes on to hold while the step is made at one site after another.
use Rattle.std.proofs.Common.{◌≡◌, ◌≢◌, ℕ, zero, suc, ◌+◌, ◌<◌, max, Bool, true, false, ◌&&◌, ◌||◌, ◌==◌, List, ◌∷◌, length, Option, Some, None, refl, sym, ap, ◌∙◌, subst, inl, inr, ◌⊎◌}
use Rattle.std.proofs.lemmas.Bool.{cases_Bool, cond-true, cond-false, or_cases, or_right, and_parts, eqb-true, false≢true, and_right, false_from_ne_true}
use Rattle.std.proofs.lemmas.Option.{same_Some}
use Rattle.std.specs.List.{All}
use Rattle.gz_core.specs.Names.{Name, BallotAt, same_name, same_ballot}
use Rattle.gz_core.specs.Values.{name_of}
use Rattle.gz_core.specs.declared.values.Value.{Value}
use Rattle.gz_config.specs.declared.Config.{Config}
use Rattle.gz_core.specs.declared.requests.RowStep.{RowStep}
use Rattle.gz_core.specs.declared.requests.RowStep.TheVariants.{FastVote, Promise, ClassicVote, Decide, Trim}
use Rattle.gz_core.specs.declared.requests.Op.{Op}
use Rattle.gz_core.specs.declared.requests.Op.TheVariants.{WriteRow}
use Rattle.gz_core.proofs.Ballots.{same_means, name_means}
use Rattle.gz_core.specs.History.{Asked, Action, Sent, Caller, Trace}
use Rattle.gz_round.specs.Sent.{vote_by, promise_by, of_step, or_earlier, passes_sent, voted_at, has_promised_at, last_promise, top_round, round_after}
use Rattle.gz_round.specs.Shown.{IsClear, IsValueHeard}
use Rattle.gz_round.specs.Rounds.{MayPromise, MayClassicVote, MayPropose, IsLeft, IsPromiseHeard, passed_since, ClassicCast, cast_by, has_classic_cast, is_promise, IsValueKnown, round_known, greatest, next_round, rounds_used, top_rounds}
use Rattle.gz_pick.specs.declared.heard.Heard.{Heard}
use Rattle.gz_round.specs.Sites.{rows_known}
use Rattle.gz_round.specs.Sending.{MayFastVote, MayTrim, MayMake}
use Rattle.gz_round.specs.Following.{MayMakeOf}
use Rattle.gz_round.proofs.Known.{known_after_sent}
use Rattle.gz_round.proofs.LookBacks.{back_more}

-- what a request that is sent in a pass does: it reads, or makes the step
pub record IsOf (op : Op) (step : Option RowStep) : Type 0 where
  pub writes : (made : RowStep) → of_step (λ s. Some s) op ≡ Some made → step ≡ Some made

abbrev of_some : {T : Type 0} → (RowStep → Option T) → Option RowStep → Option T
of_some f None = None
of_some f (Some step) = f step

promised_before : (o : Option (ℕ × BallotAt)) (v : ℕ) (b d : BallotAt) (old : Bool) → (o ≡ None) ⊎ (o ≡ Some (v, b)) → d ≢ b → (passes_sent (λ p. (p.0 == v) && same_ballot p.1 d) o || old) ≡ true → old ≡ true
promised_before o v b d old (inl e) n h = sym (ap (λ z. passes_sent (λ p. (p.0 == v) && same_ballot p.1 d) z || old) e) ∙ h
promised_before o v b d old (inr e) n h =
    elim (or_cases ((v == v) && same_ballot b d) old (sym (ap (λ z. passes_sent (λ p. (p.0 == v) && same_ballot p.1 d) z || old) e) ∙ h)) [
      | inl t ↦ absurd (n (sym (same_means b d (and_parts (v == v) (same_ballot b d) t).1)))
      | inr t ↦ t
    ]

vote_version : (x : Name) (v u : ℕ) (value : Value) → passes_sent (λ k. k == u) (vote_by x (FastVote v value)) ≡ true → v ≡ u
vote_version x v u value h =
    elim (cases_Bool (same_name (name_of value) x)) [
      | inl e ↦ eqb-true v u (sym (ap (passes_sent (λ k. k == u)) (cond-true (same_name (name_of value) x) (Some v) None e)) ∙ h)
      | inr e ↦ absurd (false≢true (sym (ap (passes_sent (λ k. k == u)) (cond-false (same_name (name_of value) x) (Some v) None e)) ∙ h))
    ]

classic_version : (x : Name) (v u : ℕ) (b : BallotAt) (value : Value) → passes_sent (λ k. k == u) (vote_by x (ClassicVote v b value)) ≡ true → v ≡ u
classic_version x v u b value h = vote_version x v u value h

-- a call votes at no other version while it votes at one
pub clear_vote : (c : Config) (x : Name) (ms : List Action) (a : Asked) (v : ℕ) → ((u : ℕ) → passes_sent (λ k. k == u) (of_step (vote_by x) a.op) ≡ true → v ≡ u) → IsClear c x ms v → IsClear c x (Sent a ∷ ms) v
clear_vote c x ms a v only clear u n h =
    elim (or_cases (passes_sent (λ k. k == u) (of_step (vote_by x) a.op)) (voted_at x ms u) h) [
      | inl e ↦ absurd (n (sym (only u e)))
      | inr e ↦ clear u n e
    ]

-- the version that a request votes at, where the step votes at one
pub only_vote : (x : Name) (op : Op) (v : ℕ) (value : Value) (u : ℕ) → IsOf op (Some (FastVote v value)) → passes_sent (λ k. k == u) (of_step (vote_by x) op) ≡ true → v ≡ u
only_vote x (WriteRow key expect step row) v value u is h = vote_version x v u value (subst (λ s. passes_sent (λ k. k == u) (vote_by x s) ≡ true) (sym (same_Some (FastVote v value) step (is.writes step refl))) h)
only_vote x op v value u is h = absurd (false≢true h)

pub only_classic : (x : Name) (op : Op) (v : ℕ) (b : BallotAt) (value : Value) (u : ℕ) → IsOf op (Some (ClassicVote v b value)) → passes_sent (λ k. k == u) (of_step (vote_by x) op) ≡ true → v ≡ u
only_classic x (WriteRow key expect step row) v b value u is h = classic_version x v u b value (subst (λ s. passes_sent (λ k. k == u) (vote_by x s) ≡ true) (sym (same_Some (ClassicVote v b value) step (is.writes step refl))) h)
only_classic x op v b value u is h = absurd (false≢true h)

pub fast_kept : (c : Config) (w : Caller) (ms : List Action) (a : Asked) (v : ℕ) (value : Value) → IsOf a.op (Some (FastVote v value)) → MayFastVote c w ms v → MayFastVote c w (Sent a ∷ ms) v
fast_kept c w ms a v value is h = record {
  above = h.above;
  current = h.current;
  next = h.next;
  clear = clear_vote c w.name ms a v (λ (u : ℕ) (k : passes_sent (λ z. z == u) (of_step (vote_by w.name) a.op) ≡ true). only_vote w.name a.op v value u is k) h.clear;
}

pub promise_sent : (op : Op) (v : ℕ) (b : BallotAt) → IsOf op (Some (Promise v b)) → (of_step promise_by op ≡ None) ⊎ (of_step promise_by op ≡ Some (v, b))
promise_sent (WriteRow key expect step row) v b is = inr (sym (ap (λ o. of_some promise_by o) (is.writes step refl)))
promise_sent op v b is = inl refl

other_promise : (o : Option (ℕ × BallotAt)) (v : ℕ) (b d : BallotAt) → (o ≡ None) ⊎ (o ≡ Some (v, b)) → d ≢ b → is_promise v d o ≡ false
other_promise o v b d (inl e) n = ap (is_promise v d) e
other_promise o v b d (inr e) n = ap (is_promise v d) e ∙ and_right (v == v) (same_ballot b d) (false_from_ne_true (same_ballot b d) (λ (h : same_ballot b d ≡ true). n (sym (same_means b d h))))

pub last_promised : (o last : Option (ℕ × BallotAt)) (v : ℕ) (b : BallotAt) → (o ≡ None) ⊎ (o ≡ Some (v, b)) → last ≡ Some (v, b) → or_earlier o last ≡ Some (v, b)
last_promised o last v b (inl e) h = ap (λ z. or_earlier z last) e ∙ h
last_promised o last v b (inr e) h = ap (λ z. or_earlier z last) e

-- the greatest of numbers that are the same is the same
greatest_same : (n : ℕ) (f g : ℕ → ℕ) → ((s : ℕ) → f s ≡ g s) → greatest n f ≡ greatest n g
greatest_same zero f g h = refl
greatest_same (suc n) f g h = ap (λ k. max k (f n)) (greatest_same n f g h) ∙ ap (max (greatest n g)) (h n)

-- a request that promises nothing leaves the round of the next ballot
next_round_sent : (c : Config) (past : List Trace) (ms : List Action) (a : Asked) (v : ℕ) → of_step promise_by a.op ≡ None → next_round c past ms v ≡ next_round c past (Sent a ∷ ms) v
next_round_sent c past ms a v e =
    let known : greatest c.n (λ s. round_known v (rows_known ms s)) ≡ greatest c.n (λ s. round_known v (rows_known (Sent a ∷ ms) s)) = greatest_same c.n (λ s. round_known v (rows_known ms s)) (λ s. round_known v (rows_known (Sent a ∷ ms) s)) (λ (s : ℕ). ap (round_known v) (known_after_sent a ms s)) in
    let used : rounds_used past ms ≡ rounds_used past (Sent a ∷ ms) = sym (ap (λ o. max (top_rounds past) (round_after o (top_round ms))) e) in
    ap (λ k. max k (greatest c.n (λ s. round_known v (rows_known ms s))) + 1) used ∙ ap (λ k. max (rounds_used past (Sent a ∷ ms)) k + 1) known

round_promise : (c : Config) (past : List Trace) (ms : List Action) (a : Asked) (v : ℕ) (b : BallotAt) → (of_step promise_by a.op ≡ None) ⊎ (of_step promise_by a.op ≡ Some (v, b)) → (b.round ≡ next_round c past ms v) ⊎ (last_promise ms ≡ Some (v, b)) →
    (b.round ≡ next_round c past (Sent a ∷ ms) v) ⊎ (last_promise (Sent a ∷ ms) ≡ Some (v, b))
round_promise c past ms a v b (inl e) (inl h) = inl (h ∙ next_round_sent c past ms a v e)
round_promise c past ms a v b (inr e) (inl h) = inr (ap (λ o. or_earlier o (last_promise ms)) e)
round_promise c past ms a v b k (inr h) = inr (last_promised (of_step promise_by a.op) (last_promise ms) v b k h)

-- other ballots that were promised at the version stay passed
pub passed_still : (ms : List Action) (a : Asked) (v : ℕ) (b : BallotAt) → (of_step promise_by a.op ≡ None) ⊎ (of_step promise_by a.op ≡ Some (v, b)) → ((d : BallotAt) → d ≢ b → has_promised_at ms v d ≡ true → passed_since v d ms ≡ true) →
    (d : BallotAt) → d ≢ b → has_promised_at (Sent a ∷ ms) v d ≡ true → passed_since v d (Sent a ∷ ms) ≡ true
passed_still ms a v b sent h d n k =
    let other : is_promise v d (of_step promise_by a.op) ≡ false = other_promise (of_step promise_by a.op) v b d sent n in
    let old : has_promised_at ms v d ≡ true = promised_before (of_step promise_by a.op) v b d (has_promised_at ms v d) sent n k in
    cond-false (is_promise v d (of_step promise_by a.op)) false (passed_since v d ms) other ∙ h d n old

-- where a request promises this ballot at the version, or none
promise_still : (c : Config) (w : Caller) (past : List Trace) (ms : List Action) (a : Asked) (v : ℕ) (b : BallotAt) → (of_step promise_by a.op ≡ None) ⊎ (of_step promise_by a.op ≡ Some (v, b)) → MayPromise c w past ms v b → MayPromise c w past (Sent a ∷ ms) v b
promise_still c w past ms a v b sent h =
    record {
      above = h.above;
      classic = h.classic;
      session = h.session;
      unused = h.unused;
      round = round_promise c past ms a v b sent h.round;
      grounded = h.grounded;
      passed = passed_still ms a v b sent h.passed;
    }

pub promise_kept : (c : Config) (w : Caller) (past : List Trace) (ms : List Action) (a : Asked) (v : ℕ) (b : BallotAt) → IsOf a.op (Some (Promise v b)) → MayPromise c w past ms v b → MayPromise c w past (Sent a ∷ ms) v b
promise_kept c w past ms a v b is h = promise_still c w past ms a v b (promise_sent a.op v b is) h

cast_sent : (op : Op) (v : ℕ) (b : BallotAt) (value : Value) → IsOf op (Some (ClassicVote v b value)) → (of_step cast_by op ≡ None) ⊎ (of_step cast_by op ≡ cast_by (ClassicVote v b value))
cast_sent (WriteRow key expect step row) v b value is = inr (sym (ap (λ o. of_some cast_by o) (is.writes step refl)))
cast_sent op v b value is = inl refl

one_cast : (o : Option ClassicCast) (v : ℕ) (b : BallotAt) (value : Value) (y : Name) (old : Bool) → (o ≡ None) ⊎ (o ≡ cast_by (ClassicVote v b value)) → (old ≡ true → y ≡ name_of value) →
    (passes_sent (λ k. (k.version == v) && same_ballot k.ballot b && same_name k.name y) o || old) ≡ true → y ≡ name_of value
one_cast o v b value y old (inl e) h k = h (sym (ap (λ z. passes_sent (λ m. (m.version == v) && same_ballot m.ballot b && same_name m.name y) z || old) e) ∙ k)
one_cast o v b value y old (inr e) h k =
    elim (or_cases (((v == v) && same_ballot b b) && same_name (name_of value) y) old (sym (ap (λ z. passes_sent (λ m. (m.version == v) && same_ballot m.ballot b && same_name m.name y) z || old) e) ∙ k)) [
      | inl t ↦ sym (name_means (name_of value) y (and_parts ((v == v) && same_ballot b b) (same_name (name_of value) y) t).1)
      | inr t ↦ h t
    ]

-- rows that were heard stay heard
pub promises_more : (m : Action) (ms : List Action) (v : ℕ) (b : BallotAt) (heard : List Heard) → All (IsPromiseHeard ms v b) heard → All (IsPromiseHeard (m ∷ ms) v b) heard
promises_more m ms v b heard h = λ (k : ℕ) (d : Heard) (l : k < length heard). let one = h k d l in (one.0, inr one.1, one.2, one.3)

propose_kept : (c : Config) (w : Caller) (ms : List Action) (a : Asked) (v : ℕ) (b : BallotAt) (value : Value) → IsOf a.op (Some (ClassicVote v b value)) → MayPropose c w ms v value → MayPropose c w (Sent a ∷ ms) v value
propose_kept c w ms a v b value is (inl h) = inl (h.0, h.1, clear_vote c w.name ms a v (λ (u : ℕ) (k : passes_sent (λ z. z == u) (of_step (vote_by w.name) a.op) ≡ true). only_classic w.name a.op v b value u is k) h.2)
propose_kept c w ms a v b value is (inr h) = inr (h.0, h.1, h.2, h.3, inr h.4, h.5)

left_kept : (c : Config) (w : Caller) (ms : List Action) (a : Asked) (v : ℕ) (b : BallotAt) (heard : List Heard) (value : Value) → IsOf a.op (Some (ClassicVote v b value)) → IsLeft c w ms v heard value → IsLeft c w (Sent a ∷ ms) v heard value
left_kept c w ms a v b heard value is (inl h) = inl h
left_kept c w ms a v b heard value is (inr h) = inr (h.0, propose_kept c w ms a v b value is h.1)

-- a value that was heard stays so
heard_kept : (ms : List Action) (a : Asked) (v : ℕ) (value : Value) → IsValueHeard ms v value → IsValueHeard (Sent a ∷ ms) v value
heard_kept ms a v value h = (h.0, h.1, inr h.2, h.3)

-- and so does one that is known
known_kept : (w : Caller) (ms : List Action) (a : Asked) (v : ℕ) (value : Value) → IsValueKnown w ms v value → IsValueKnown w (Sent a ∷ ms) v value
known_kept w ms a v value (inl own) = inl own
known_kept w ms a v value (inr h) = inr (heard_kept ms a v value h)

pub classic_kept : (c : Config) (w : Caller) (ms : List Action) (a : Asked) (v : ℕ) (b : BallotAt) (value : Value) → IsOf a.op (Some (ClassicVote v b value)) → MayClassicVote c w ms v b value → MayClassicVote c w (Sent a ∷ ms) v b value
classic_kept c w ms a v b value is h = record {
  above = h.above;
  promised = or_right (passes_sent (λ p. (p.0 == v) && same_ballot p.1 b) (of_step promise_by a.op)) (has_promised_at ms v b) h.promised;
  heard = h.heard;
  sites = h.sites;
  enough = h.enough;
  rows = promises_more (Sent a) ms v b h.heard h.rows;
  choice = left_kept c w ms a v b h.heard value is h.choice;
  known = known_kept w ms a v value h.known;
  one = λ (y : Name) (k : has_classic_cast (Sent a ∷ ms) v b y ≡ true). one_cast (of_step cast_by a.op) v b value y (has_classic_cast ms v b y) (cast_sent a.op v b value is) (h.one y) k;
  back = λ reads free. back_more c (Sent a) ms v b (Some value) h.promised (h.back reads free);
}

trim_kept : (c : Config) (w : Caller) (ms : List Action) (a : Asked) (to : ℕ) (value : Value) → MayTrim c w ms to value → MayTrim c w (Sent a ∷ ms) to value
trim_kept c w ms a to value h = record {
  above = h.above;
  keep = h.keep;
  collects = h.collects;
  kept = h.kept;
  next = h.next;
  known = heard_kept ms a (to + 1) value h.known;
}

-- a guard that holds goes on to hold
pub may_kept : (c : Config) (w : Caller) (past : List Trace) (ms : List Action) (a : Asked) (step : RowStep) → IsOf a.op (Some step) → MayMake c w past ms step → MayMake c w past (Sent a ∷ ms) step
may_kept c w past ms a (FastVote v value) is h = (h.0, fast_kept c w ms a v value is h.1)
may_kept c w past ms a (Promise v b) is h = promise_kept c w past ms a v b is h
may_kept c w past ms a (ClassicVote v b value) is h = classic_kept c w ms a v b value is h
may_kept c w past ms a (Decide v value) is h = (h.0, known_kept w ms a v value h.1)
may_kept c w past ms a (Trim to value) is h = trim_kept c w ms a to value h

pub may_kept_of : (c : Config) (w : Caller) (past : List Trace) (ms : List Action) (a : Asked) (step : Option RowStep) → IsOf a.op step → MayMakeOf c w past ms step → MayMakeOf c w past (Sent a ∷ ms) step
may_kept_of c w past ms a None is h = tt
may_kept_of c w past ms a (Some step) is h = may_kept c w past ms a step is h
