-- Where a call first promised a ballot, among the transitions of its object.
use Rattle.std.proofs.Common.{◌≡◌, ℕ, ◌⊎◌, inl, inr, List, [], ◌∷◌, ◌++◌, true, false, refl, ap, sym, ◌∙◌, subst, arith}
use Rattle.std.proofs.lemmas.Bool.{cases_Bool, cond-true, cond-false, or_cases, or_left, or_right}
use Rattle.std.proofs.lemmas.Bool.Decides.{nat_tests}
use Rattle.std.specs.Prelude.{◌==◌, ◌&&◌, if◌then◌else◌}
use Rattle.gz_core.specs.Names.{Name, BallotAt, same_ballot, same_name}
use Rattle.gz_core.specs.Slots.{Act, Promises, act_of}
use Rattle.gz_core.specs.declared.requests.Op.{Op}
use Rattle.gz_core.specs.declared.requests.Op.TheVariants.{WriteRow}
use Rattle.gz_core.proofs.Ballots.{same_refl, name_means, name_from}
use Rattle.gz_core.specs.History.{Action, Sent, Handed, GaveUp, Rested, GaveIn}
use Rattle.gz_round.specs.LookBack.{before_promise}
use Rattle.gz_round.specs.Sent.{of_step, of_sent, passes_sent, promise_by, has_promised_at}
use Rattle.gz_round.proofs.LookBacks.{before_none, before_more}
use Rattle.gz_ledger.specs.Histories.{RowSeen, Write, IsIn}
use Rattle.gz_ledger.specs.Transitions.{Transition, Reads, Begins, Written, Failed, Elsewhere, WriteSent, sent_after}
use Rattle.gz_laws.specs.Begun.{begins_of, step_sent, sends_of}
use Rattle.gz_laws.specs.Heard.{unused, heard_of, IsStepSent}
use Rattle.gz_laws.proofs.Promising.{op_promises, op_promised}

abbrev Step : Type 0
Step = List RowSeen × Act

-- one more action sends nothing, or one write more
more_op : (op : Op) (heard : List RowSeen) (rest : List Step) → (front : List Step) × (step_sent op heard rest ≡ front ++ rest)
more_op (WriteRow key expect step row) heard rest = ((heard, act_of step) ∷ [], refl)
more_op op heard rest = ([], refl)

more_sends : (m : Action) (ms : List Action) → (front : List Step) × (sends_of (m ∷ ms) ≡ front ++ sends_of ms)
more_sends (Sent a) ms = more_op a.op (heard_of ms) (sends_of ms)
more_sends (Handed a reply) ms = ([], refl)
more_sends (GaveUp a) ms = ([], refl)
more_sends Rested ms = ([], refl)
more_sends GaveIn ms = ([], refl)

-- the promise is the write that is sent now
promise_now : (op : Op) (v : ℕ) (b : BallotAt) (heard : List RowSeen) (rest : List Step) → IsStepSent op (Promises v b) → step_sent op heard rest ≡ (heard, Promises v b) ∷ rest
promise_now (WriteRow key expect step row) v b heard rest is = ap (λ (a : Act). (heard, a) ∷ rest) is
promise_now op v b heard rest is = absurd is

sends_now : (m : Action) (ms : List Action) (v : ℕ) (b : BallotAt) → passes_sent (λ p. (p.0 == v) && same_ballot p.1 b) (of_sent promise_by m) ≡ true → sends_of (m ∷ ms) ≡ (heard_of ms, Promises v b) ∷ sends_of ms
sends_now (Sent a) ms v b e = promise_now a.op v b (heard_of ms) (sends_of ms) (op_promised a.op v b e)
sends_now (Handed a reply) ms v b e = cc
sends_now (GaveUp a) ms v b e = cc
sends_now Rested ms v b e = cc
sends_now GaveIn ms v b e = cc

append_more : (xs ys zs : List Step) → xs ++ (ys ++ zs) ≡ (xs ++ ys) ++ zs
append_more [] ys zs = refl
append_more (x ∷ xs) ys zs = ap (λ ks. x ∷ ks) (append_more xs ys zs)

-- the first promise of a ballot at a version, with what was heard before it
pub first_sends : (ms : List Action) (v : ℕ) (b : BallotAt) → has_promised_at ms v b ≡ true → (late : List Step) × (sends_of ms ≡ late ++ (heard_of (before_promise v b ms), Promises v b) ∷ sends_of (before_promise v b ms))
first_sends [] v b h = cc
first_sends (m ∷ ms) v b h = elim (cases_Bool (has_promised_at ms v b)) [
  | inl e ↦ (let k = first_sends ms v b e in
      let more = more_sends m ms in
      let rest = (heard_of (before_promise v b ms), Promises v b) ∷ sends_of (before_promise v b ms) in (
        more.0 ++ k.0,
        more.1 ∙ ap (λ xs. more.0 ++ xs) k.1 ∙ append_more more.0 k.0 rest ∙ ap (λ start. (more.0 ++ k.0) ++ (heard_of start, Promises v b) ∷ sends_of start) (sym (before_more v b m ms e)),
      ))
  | inr e ↦ (let now : passes_sent (λ p. (p.0 == v) && same_ballot p.1 b) (of_sent promise_by m) ≡ true
      = elim (or_cases (passes_sent (λ p. (p.0 == v) && same_ballot p.1 b) (of_sent promise_by m)) (has_promised_at ms v b) h) [ inl t ↦ t | inr t ↦ (let bad : true ≡ false = sym t ∙ e in cc) ] in
      let start : before_promise v b (m ∷ ms) ≡ ms = cond-true (has_promised_at (m ∷ ms) v b) (before_promise v b ms) (m ∷ ms) h ∙ before_none v b ms e in
      ([], sends_now m ms v b now ∙ ap (λ k. (heard_of k, Promises v b) ∷ sends_of k) (sym start)))
]

-- before it the ballot was not promised there
pub before_unpromised : (v : ℕ) (b : BallotAt) (ms : List Action) → has_promised_at (before_promise v b ms) v b ≡ false
before_unpromised v b [] = refl
before_unpromised v b (m ∷ ms) = elim (cases_Bool (has_promised_at (m ∷ ms) v b)) [
  | inl e ↦ ap (λ k. has_promised_at k v b) (cond-true (has_promised_at (m ∷ ms) v b) (before_promise v b ms) (m ∷ ms) e) ∙ before_unpromised v b ms
  | inr e ↦ ap (λ k. has_promised_at k v b) (cond-false (has_promised_at (m ∷ ms) v b) (before_promise v b ms) (m ∷ ms) e) ∙ e
]

-- a write among those that a call began
pub record IsBegunAt (name : Name) (ds : List Transition) (heard : List RowSeen) (act : Act) (rest : List Step) : Type 0 where
  pub late : List Transition
  pub asked : WriteSent
  pub early : List Transition
  pub split : ds ≡ late ++ Begins heard asked ∷ early
  pub own : asked.write.call ≡ name
  pub act_is : asked.write.act ≡ act
  pub rest_is : begins_of name early ≡ rest

none_split : (late : List Step) (x : Step) (rest : List Step) → [] ≡ late ++ x ∷ rest → ⊥
none_split [] x rest e = cc
none_split (y ∷ late) x rest e = cc

step_parts : (x y : Step) (xs ys : List Step) → x ∷ xs ≡ y ∷ ys → (x.0 ≡ y.0) × ((x.1 ≡ y.1) × (xs ≡ ys))
step_parts x y xs ys e =
    let same : x ≡ y = cc in
    let tail : xs ≡ ys = cc in
    (ap (λ (k : Step). k.0) same, (ap (λ (k : Step). k.1) same, tail))

one_later : (name : Name) (d : Transition) (ds : List Transition) (heard : List RowSeen) (act : Act) (rest : List Step) → IsBegunAt name ds heard act rest → IsBegunAt name (d ∷ ds) heard act rest
one_later name d ds heard act rest k = record { late = d ∷ k.late; asked = k.asked; early = k.early; split = ap (λ ks. d ∷ ks) k.split; own = k.own; act_is = k.act_is; rest_is = k.rest_is }

begin_here : (name : Name) (h : List RowSeen) (a : WriteSent) (ds : List Transition) (late : List Step) (heard : List RowSeen) (act : Act) (rest : List Step) → a.write.call ≡ name → (h, a.write.act) ∷ begins_of name ds ≡ late ++ (heard, act) ∷ rest
    → ((more : List Step) → begins_of name ds ≡ more ++ (heard, act) ∷ rest → IsBegunAt name ds heard act rest) → IsBegunAt name (Begins h a ∷ ds) heard act rest
begin_here name h a ds [] heard act rest own e recur =
    let k = step_parts (h, a.write.act) (heard, act) (begins_of name ds) rest e in
    record { late = []; asked = a; early = ds; split = ap (λ x. Begins x a ∷ ds) k.0; own = own; act_is = k.1.0; rest_is = k.1.1 }
begin_here name h a ds (x ∷ late) heard act rest own e recur =
    one_later name (Begins h a) ds heard act rest (recur late (step_parts (h, a.write.act) x (begins_of name ds) (late ++ (heard, act) ∷ rest) e).1.1)

pub split_begins : (name : Name) (ds : List Transition) (late : List Step) (heard : List RowSeen) (act : Act) (rest : List Step) → begins_of name ds ≡ late ++ (heard, act) ∷ rest → IsBegunAt name ds heard act rest
split_begins name [] late heard act rest e = absurd (none_split late (heard, act) rest e)
split_begins name (Reads s ∷ ds) late heard act rest e = one_later name (Reads s) ds heard act rest (split_begins name ds late heard act rest e)
split_begins name (Begins h a ∷ ds) late heard act rest e = elim (cases_Bool (same_name a.write.call name)) [
  | inl t ↦ begin_here name h a ds late heard act rest (name_means a.write.call name t) (sym (ap (λ b. if b then (h, a.write.act) ∷ begins_of name ds else begins_of name ds) t) ∙ e) (λ more k. split_begins name ds more heard act rest k)
  | inr t ↦ one_later name (Begins h a) ds heard act rest (split_begins name ds late heard act rest (sym (ap (λ b. if b then (h, a.write.act) ∷ begins_of name ds else begins_of name ds) t) ∙ e))
]
split_begins name (Written a t ∷ ds) late heard act rest e = one_later name (Written a t) ds heard act rest (split_begins name ds late heard act rest e)
split_begins name (Failed a t ∷ ds) late heard act rest e = one_later name (Failed a t) ds heard act rest (split_begins name ds late heard act rest e)
split_begins name (Elsewhere s t ∷ ds) late heard act rest e = one_later name (Elsewhere s t) ds heard act rest (split_begins name ds late heard act rest e)

-- a step is among these
abbrev pub HasStep : List Step → Act → Type 0
HasStep [] act = ⊥
HasStep (x ∷ xs) act = (x.1 ≡ act) ⊎ HasStep xs act

-- a write of the call is among those that it began
pub write_begun : (name : Name) (ds : List Transition) (w : Write) → IsIn w (sent_after unused ds) → w.call ≡ name → HasStep (begins_of name ds) w.act
write_begun name [] w i own = absurd i
write_begun name (Reads s ∷ ds) w i own = write_begun name ds w i own
write_begun name (Begins h a ∷ ds) w (inl e) own =
    let mine : a.write.call ≡ name = ap (λ (x : Write). x.call) (sym e) ∙ own in
    subst (λ xs. HasStep xs w.act) (sym (ap (λ b. if b then (h, a.write.act) ∷ begins_of name ds else begins_of name ds) (name_from a.write.call name mine))) (inl (ap (λ (x : Write). x.act) (sym e)))
write_begun name (Begins h a ∷ ds) w (inr i) own =
    elim (same_name a.write.call name) as (λ b. HasStep (if b then (h, a.write.act) ∷ begins_of name ds else begins_of name ds) w.act) [ true ↦ inr (write_begun name ds w i own) | false ↦ write_begun name ds w i own ]
write_begun name (Written a t ∷ ds) w i own = write_begun name ds w i own
write_begun name (Failed a t ∷ ds) w i own = write_begun name ds w i own
write_begun name (Elsewhere s t ∷ ds) w i own = write_begun name ds w i own

-- a promise among what a call sends is one that it sent
promise_passes : (o : Op) (v : ℕ) (b : BallotAt) → IsStepSent o (Promises v b) → passes_sent (λ p. (p.0 == v) && same_ballot p.1 b) (of_step promise_by o) ≡ true
promise_passes o v b is =
    let t : (v == v) ≡ true = grind (arith, nat_tests) in
    ap (passes_sent (λ p. (p.0 == v) && same_ballot p.1 b)) (op_promises o v b is) ∙ ap (λ k. k && same_ballot b b) t ∙ same_refl b

op_has : (op : Op) (heard : List RowSeen) (rest : List Step) (act : Act) → HasStep (step_sent op heard rest) act → IsStepSent op act ⊎ HasStep rest act
op_has (WriteRow key expect step row) heard rest act h = h
op_has op heard rest act h = inr h

pub sends_promised : (ms : List Action) (v : ℕ) (b : BallotAt) → HasStep (sends_of ms) (Promises v b) → has_promised_at ms v b ≡ true
sends_promised [] v b h = absurd h
sends_promised (Sent a ∷ ms) v b h = elim (op_has a.op (heard_of ms) (sends_of ms) (Promises v b) h) [
  | inl e ↦ or_left (passes_sent (λ p. (p.0 == v) && same_ballot p.1 b) (of_step promise_by a.op)) (has_promised_at ms v b) (promise_passes a.op v b e)
  | inr e ↦ or_right (passes_sent (λ p. (p.0 == v) && same_ballot p.1 b) (of_step promise_by a.op)) (has_promised_at ms v b) (sends_promised ms v b e)
]
sends_promised (Handed a reply ∷ ms) v b h = sends_promised ms v b h
sends_promised (GaveUp a ∷ ms) v b h = sends_promised ms v b h
sends_promised (Rested ∷ ms) v b h = sends_promised ms v b h
sends_promised (GaveIn ∷ ms) v b h = sends_promised ms v b h

-- what holds of all that happened, and of each beginning of it, holds of what happened before a promise
pub before_keeps : (P : List Action → Type 0) → ((m : Action) (ms : List Action) → P (m ∷ ms) → P ms) → (v : ℕ) (b : BallotAt) (ms : List Action) → P ms → P (before_promise v b ms)
before_keeps P tail v b [] h = h
before_keeps P tail v b (m ∷ ms) h = elim (cases_Bool (has_promised_at (m ∷ ms) v b)) [
  | inl e ↦ subst P (sym (cond-true (has_promised_at (m ∷ ms) v b) (before_promise v b ms) (m ∷ ms) e)) (before_keeps P tail v b ms (tail m ms h))
  | inr e ↦ subst P (sym (cond-false (has_promised_at (m ∷ ms) v b) (before_promise v b ms) (m ∷ ms) e)) h
]
