-- Promises and classic votes that a client may send, the machine of agreement may send.
use Rattle.std.proofs.Common.{◌≡◌, ◌≢◌, ℕ, ◌⊎◌, inl, inr, List, [], ◌∷◌, Some, None, true, false, refl, ap, sym, ◌∙◌, subst, arith, get_or}
use Rattle.gz_core.proofs.Ballots.{same_refl, same_means, name_refl}
use Rattle.std.proofs.lemmas.Bool.{eqb-true, eq-eqb, and_parts, or_cases, or_left, or_right, and_from}
use Rattle.std.proofs.lemmas.Bool.Decides.{nat_tests}
use Rattle.std.proofs.lemmas.Option.{none-some, slice_get_within, get_or_from_slice_get}
use Rattle.std.specs.Prelude.{Option, ◌==◌, ◌&&◌, slice_get}
use Rattle.std.specs.List.{All}
use Rattle.gz_core.specs.Names.{Name, BallotAt, fast, IsClassic, same_ballot, same_name}
use Rattle.gz_core.specs.Values.{name_of}
use Rattle.gz_core.specs.Rows.{RowAt, column_in, IsRow}
use Rattle.gz_core.specs.Slots.{Promises, VotesClassic, act_of, slots, slot_of, slot_vote}
use Rattle.gz_core.specs.declared.slots.Slot.TheVariants.{OpenAt}
use Rattle.gz_core.specs.declared.rows.Column.{Column}
use Rattle.gz_core.specs.declared.rows.Column.TheVariants.{Open, Decided}
use Rattle.gz_config.specs.declared.Config.{Config}
use Rattle.gz_core.specs.declared.requests.RowStep.{RowStep}
use Rattle.gz_core.specs.declared.requests.RowStep.TheVariants.{FastVote, Promise, ClassicVote, Decide, Trim}
use Rattle.gz_core.specs.declared.requests.Op.{Op}
use Rattle.gz_core.specs.declared.requests.Op.TheVariants.{WriteRow}
use Rattle.gz_pick.specs.Looks.{row_vote}
use Rattle.gz_pick.specs.declared.heard.Heard.{Heard}
use Rattle.gz_core.specs.History.{Asked, Action, Sent, Handed, GaveUp, Rested, GaveIn, Caller, Trace, is_row_request}
use Rattle.gz_round.specs.declared.hearing.Seen.{Seen}
use Rattle.gz_round.specs.Sites.{SiteNow, site_now, heard_in, is_to, WasHeard}
use Rattle.gz_round.specs.Sent.{promise_by, of_step, or_earlier, passes_sent, has_promised, has_promised_at, last_promise}
use Rattle.gz_round.specs.Rounds.{IsUnused, cast_by, has_classic_cast, IsPromiseHeard}
use Rattle.gz_round.specs.Sending.{AreAllowed, MayMake}
use Rattle.gz_laws.proofs.Asking.{MayAskRow, row_asked}
use Rattle.gz_ledger.specs.Histories.{RowSeen, IsIn, IsVotedAt}
use Rattle.gz_ledger.specs.Guards.{IsPromiseSeen}
use Rattle.gz_ledger.specs.Transitions.{Store}
use Rattle.gz_laws.specs.Heard.{seen_entry, heard_of, SeenStands, ActionsStand, IsStepSent, SentStep, PastStep}
use Rattle.gz_laws.proofs.RowRules.{slots_found}
use Rattle.gz_round.proofs.Prepares.{next_unpromised}

pub classic_not_fast : (b : BallotAt) → IsClassic b → same_ballot b fast ≡ false
classic_not_fast b h = let r = h.0 in let t : (b.round == 0) ≡ false = grind (arith, nat_tests) in ap (λ k. k && (b.session == 0)) t

-- the promise that a step makes
pub step_promises : (step : RowStep) (v : ℕ) (b : BallotAt) → act_of step ≡ Promises v b → promise_by step ≡ Some (v, b)
step_promises (FastVote u x) v b e = cc
step_promises (Promise u d) v b e = let p : u ≡ v = cc in let q : d ≡ b = cc in λ i. Some (p i, q i)
step_promises (ClassicVote u d x) v b e = cc
step_promises (Decide u x) v b e = cc
step_promises (Trim to x) v b e = cc

pub op_promises : (op : Op) (v : ℕ) (b : BallotAt) → IsStepSent op (Promises v b) → of_step promise_by op ≡ Some (v, b)
op_promises (WriteRow key expect step row) v b h = step_promises step v b h
op_promises op v b h = absurd h

-- a promise that was sent is counted as one
pub sent_promises : (ms : List Action) (v : ℕ) (b : BallotAt) → SentStep ms (Promises v b) → has_promised ms b ≡ true
sent_promises [] v b h = absurd h
sent_promises (Sent a ∷ ms) v b (inl h) = or_left (passes_sent (λ p. same_ballot p.1 b) (of_step promise_by a.op)) (has_promised ms b) (ap (passes_sent (λ p. same_ballot p.1 b)) (op_promises a.op v b h) ∙ same_refl b)
sent_promises (Sent a ∷ ms) v b (inr h) = or_right (passes_sent (λ p. same_ballot p.1 b) (of_step promise_by a.op)) (has_promised ms b) (sent_promises ms v b h)
sent_promises (Handed a reply ∷ ms) v b (inl h) = absurd h
sent_promises (Handed a reply ∷ ms) v b (inr h) = sent_promises ms v b h
sent_promises (GaveUp a ∷ ms) v b (inl h) = absurd h
sent_promises (GaveUp a ∷ ms) v b (inr h) = sent_promises ms v b h
sent_promises (Rested ∷ ms) v b (inl h) = absurd h
sent_promises (Rested ∷ ms) v b (inr h) = sent_promises ms v b h
sent_promises (GaveIn ∷ ms) v b (inl h) = absurd h
sent_promises (GaveIn ∷ ms) v b (inr h) = sent_promises ms v b h

-- a ballot that no earlier call promised
pub unused_past : (past : List Trace) (v : ℕ) (b : BallotAt) → IsUnused past b → PastStep past (Promises v b) → ⊥
unused_past [] v b unused h = h
unused_past (t ∷ ts) v b unused (inl h) = let e : true ≡ false = sym (sent_promises t.actions v b h) ∙ unused.0 in cc
unused_past (t ∷ ts) v b unused (inr h) = unused_past ts v b unused.1 h

-- the guard of a write
abbrev pub OpGuard : Config → Caller → List Trace → List Action → Op → Type 0
OpGuard c w past ms (WriteRow key expect step row) = MayMake c w past ms step
OpGuard c w past ms op = Unit {0}

pub asks_guard : (c : Config) (w : Caller) (past : List Trace) (ms : List Action) (now : SiteNow) (op : Op) → MayAskRow c w past ms now op → OpGuard c w past ms op
asks_guard c w past ms now (WriteRow key expect step row) h = (h refl).1.guard
asks_guard c w past ms now op h = tt

pair_parts : (p q : ℕ × BallotAt) → Some p ≡ Some q → (p.0 ≡ q.0) × (p.1 ≡ q.1)
pair_parts p q e = let k : p ≡ q = cc in (ap (λ z. z.0) k, ap (λ z. z.1) k)

last_step : (c : Config) (w : Caller) (past : List Trace) (step : RowStep) (ms : List Action) (u v : ℕ) (b : BallotAt) → MayMake c w past ms step → or_earlier (promise_by step) (last_promise ms) ≡ Some (v, b)
    → (act_of step ≡ Promises u b) ⊎ SentStep ms (Promises u b) → (last_promise ms ≡ Some (v, b) → SentStep ms (Promises u b) → u ≡ v) → ((x : ℕ) → last_promise ms ≡ Some (x, b) → SentStep ms (Promises u b) → u ≡ x) → u ≡ v
last_step c w past (FastVote n x) ms u v b guard last (inl e) same any = cc
last_step c w past (FastVote n x) ms u v b guard last (inr k) same any = same last k
last_step c w past (Promise n d) ms u v b guard last (inl e) same any = let p = pair_parts (n, d) (v, b) last in let q : n ≡ u = cc in sym q ∙ p.0
last_step c w past (Promise n d) ms u v b guard last (inr k) same any =
    let p = pair_parts (n, d) (v, b) last in
    elim guard.round [
      | inl next ↦ let e : true ≡ false = sym (sent_promises ms u b k) ∙ sym (ap (has_promised ms) p.1) ∙ next_unpromised c past ms n d next in cc
      | inr before ↦ any n (before ∙ ap (λ (q : BallotAt). Some (n, q)) p.1) k ∙ p.0
    ]
last_step c w past (ClassicVote n d x) ms u v b guard last (inl e) same any = cc
last_step c w past (ClassicVote n d x) ms u v b guard last (inr k) same any = same last k
last_step c w past (Decide n x) ms u v b guard last (inl e) same any = cc
last_step c w past (Decide n x) ms u v b guard last (inr k) same any = same last k
last_step c w past (Trim to x) ms u v b guard last (inl e) same any = cc
last_step c w past (Trim to x) ms u v b guard last (inr k) same any = same last k

last_op : (c : Config) (w : Caller) (past : List Trace) (op : Op) (ms : List Action) (u v : ℕ) (b : BallotAt) → OpGuard c w past ms op → or_earlier (of_step promise_by op) (last_promise ms) ≡ Some (v, b)
    → IsStepSent op (Promises u b) ⊎ SentStep ms (Promises u b) → (last_promise ms ≡ Some (v, b) → SentStep ms (Promises u b) → u ≡ v) → ((x : ℕ) → last_promise ms ≡ Some (x, b) → SentStep ms (Promises u b) → u ≡ x) → u ≡ v
last_op c w past (WriteRow key expect step row) ms u v b guard last h same any = last_step c w past step ms u v b guard last h same any
last_op c w past op ms u v b guard last (inl h) same any = absurd h
last_op c w past op ms u v b guard last (inr h) same any = same last h

-- all promises of the ballot that was promised last are at its version
pub last_version : (c : Config) (w : Caller) (past : List Trace) (ms : List Action) (u v : ℕ) (b : BallotAt) → AreAllowed c w past ms → last_promise ms ≡ Some (v, b) → SentStep ms (Promises u b) → u ≡ v
last_version c w past [] u v b allowed last h = absurd h
last_version c w past (Sent a ∷ ms) u v b allowed last h = last_op c w past a.op ms u v b (asks_guard c w past ms (site_now ms a.site) a.op (row_asked c w past ms a allowed.0)) last h (λ l k. last_version c w past ms u v b allowed.1 l k) (λ x l k. last_version c w past ms u x b allowed.1 l k)
last_version c w past (Handed a reply ∷ ms) u v b allowed last (inl h) = absurd h
last_version c w past (Handed a reply ∷ ms) u v b allowed last (inr h) = last_version c w past ms u v b allowed.1 last h
last_version c w past (GaveUp a ∷ ms) u v b allowed last (inl h) = absurd h
last_version c w past (GaveUp a ∷ ms) u v b allowed last (inr h) = last_version c w past ms u v b allowed.1 last h
last_version c w past (Rested ∷ ms) u v b allowed last (inl h) = absurd h
last_version c w past (Rested ∷ ms) u v b allowed last (inr h) = last_version c w past ms u v b allowed.1 last h
last_version c w past (GaveIn ∷ ms) u v b allowed last (inl h) = absurd h
last_version c w past (GaveIn ∷ ms) u v b allowed last (inr h) = last_version c w past ms u v b allowed.1 last h

-- a promise that is counted was sent
step_promised : (step : RowStep) (v : ℕ) (b : BallotAt) → passes_sent (λ p. (p.0 == v) && same_ballot p.1 b) (promise_by step) ≡ true → act_of step ≡ Promises v b
step_promised (FastVote u x) v b h = cc
step_promised (Promise u d) v b h =
    let p = and_parts (u == v) (same_ballot d b) h in
    let n = eqb-true u v p.0 in
    let m = same_means d b p.1 in
    λ i. Promises (n i) (m i)
step_promised (ClassicVote u d x) v b h = cc
step_promised (Decide u x) v b h = cc
step_promised (Trim to x) v b h = cc

pub op_promised : (op : Op) (v : ℕ) (b : BallotAt) → passes_sent (λ p. (p.0 == v) && same_ballot p.1 b) (of_step promise_by op) ≡ true → IsStepSent op (Promises v b)
op_promised (WriteRow key expect step row) v b h = step_promised step v b h
op_promised op v b h = cc

pub promised_sent : (ms : List Action) (v : ℕ) (b : BallotAt) → has_promised_at ms v b ≡ true → SentStep ms (Promises v b)
promised_sent [] v b h = cc
promised_sent (Sent a ∷ ms) v b h =
    elim (or_cases (passes_sent (λ p. (p.0 == v) && same_ballot p.1 b) (of_step promise_by a.op)) (has_promised_at ms v b) h) [ inl e ↦ inl (op_promised a.op v b e) | inr e ↦ inr (promised_sent ms v b e) ]
promised_sent (Handed a reply ∷ ms) v b h = inr (promised_sent ms v b h)
promised_sent (GaveUp a ∷ ms) v b h = inr (promised_sent ms v b h)
promised_sent (Rested ∷ ms) v b h = inr (promised_sent ms v b h)
promised_sent (GaveIn ∷ ms) v b h = inr (promised_sent ms v b h)

-- a classic vote that was sent is counted
step_casts : (step : RowStep) (v : ℕ) (b : BallotAt) (y : Name) → act_of step ≡ VotesClassic v b y → passes_sent (λ k. (k.version == v) && same_ballot k.ballot b && same_name k.name y) (cast_by step) ≡ true
step_casts (FastVote u x) v b y e = cc
step_casts (Promise u d) v b y e = cc
step_casts (ClassicVote u d x) v b y e =
    let n : u ≡ v = cc in
    let m : d ≡ b = cc in
    let o : name_of x ≡ y = cc in
    and_from ((u == v) && same_ballot d b) (same_name (name_of x) y) (and_from (u == v) (same_ballot d b) (subst (λ k. (u == k) ≡ true) n (eq-eqb u u refl)) (subst (λ k. same_ballot d k ≡ true) m (same_refl d))) (subst (λ k. same_name (name_of x) k ≡ true) o (name_refl (name_of x)))
step_casts (Decide u x) v b y e = cc
step_casts (Trim to x) v b y e = cc

op_casts : (op : Op) (v : ℕ) (b : BallotAt) (y : Name) → IsStepSent op (VotesClassic v b y) → passes_sent (λ k. (k.version == v) && same_ballot k.ballot b && same_name k.name y) (of_step cast_by op) ≡ true
op_casts (WriteRow key expect step row) v b y h = step_casts step v b y h
op_casts op v b y h = absurd h

pub sent_casts : (ms : List Action) (v : ℕ) (b : BallotAt) (y : Name) → SentStep ms (VotesClassic v b y) → has_classic_cast ms v b y ≡ true
sent_casts [] v b y h = absurd h
sent_casts (Sent a ∷ ms) v b y (inl h) = or_left (passes_sent (λ k. (k.version == v) && same_ballot k.ballot b && same_name k.name y) (of_step cast_by a.op)) (has_classic_cast ms v b y) (op_casts a.op v b y h)
sent_casts (Sent a ∷ ms) v b y (inr h) = or_right (passes_sent (λ k. (k.version == v) && same_ballot k.ballot b && same_name k.name y) (of_step cast_by a.op)) (has_classic_cast ms v b y) (sent_casts ms v b y h)
sent_casts (Handed a reply ∷ ms) v b y (inl h) = absurd h
sent_casts (Handed a reply ∷ ms) v b y (inr h) = sent_casts ms v b y h
sent_casts (GaveUp a ∷ ms) v b y (inl h) = absurd h
sent_casts (GaveUp a ∷ ms) v b y (inr h) = sent_casts ms v b y h
sent_casts (Rested ∷ ms) v b y (inl h) = absurd h
sent_casts (Rested ∷ ms) v b y (inr h) = sent_casts ms v b y h
sent_casts (GaveIn ∷ ms) v b y (inl h) = absurd h
sent_casts (GaveIn ∷ ms) v b y (inr h) = sent_casts ms v b y h

later : (site : ℕ) (o : Option Seen) (es : List RowSeen) (e : RowSeen) → IsIn e es → IsIn e (seen_entry site o es)
later site None es e h = h
later site (Some seen) es e h = inr h

-- a row that was heard is among the rows
heard_entry : (st : Store) (a : Asked) (s : ℕ) (o : Option Seen) (es : List RowSeen) (row : RowAt) → SeenStands st a.site o → is_to a s ≡ true → ((seen : Seen) × ((o ≡ Some seen) × (seen.row ≡ row)))
    → IsRow row × (let e : RowSeen = record { site = s; row = slots row } in IsIn e (seen_entry a.site o es))
heard_entry st a s None es row stands to h = let bad = h.1.0 in cc
heard_entry st a s (Some k) es row stands to h =
    let same : k ≡ h.0 = (let e = h.1.0 in cc) in
    let is : k.row ≡ row = ap (λ (q : Seen). q.row) same ∙ h.1.1 in
    let t = and_parts (is_row_request a.op) (a.site == s) to in
    let n = eqb-true a.site s t.1 in
    (subst IsRow is stands.0, inl (λ i. let e : RowSeen = record { site = sym n i; row = slots (sym is i) } in e))

pub was_heard : (st : Store) (ms : List Action) (s : ℕ) (row : RowAt) → ActionsStand st ms → WasHeard ms s row → IsRow row × (let e : RowSeen = record { site = s; row = slots row } in IsIn e (heard_of ms))
was_heard st [] s row stands h = absurd h
was_heard st (Sent a ∷ ms) s row stands (inl h) = let bad = h.2 in cc
was_heard st (Sent a ∷ ms) s row stands (inr h) = was_heard st ms s row stands.1 h
was_heard st (Handed a reply ∷ ms) s row stands (inl h) = heard_entry st a s (heard_in (Handed a reply)) (heard_of ms) row stands.0 h.1 (h.0, (h.2, h.3))
was_heard st (Handed a reply ∷ ms) s row stands (inr h) = let r = was_heard st ms s row stands.1 h in (r.0, later a.site (heard_in (Handed a reply)) (heard_of ms) (record { site = s; row = slots row }) r.1)
was_heard st (GaveUp a ∷ ms) s row stands (inl h) = let bad = h.2 in cc
was_heard st (GaveUp a ∷ ms) s row stands (inr h) = was_heard st ms s row stands.1 h
was_heard st (Rested ∷ ms) s row stands (inl h) = let bad = h.2 in cc
was_heard st (Rested ∷ ms) s row stands (inr h) = was_heard st ms s row stands.1 h
was_heard st (GaveIn ∷ ms) s row stands (inl h) = let bad = h.2 in cc
was_heard st (GaveIn ∷ ms) s row stands (inr h) = was_heard st ms s row stands.1 h

-- the promises that were heard
pub promises_heard : (st : Store) (ms : List Action) (v : ℕ) (b : BallotAt) (heard : List Heard) → ActionsStand st ms → All (IsPromiseHeard ms v b) heard → (at : ℕ) (h : Heard) → slice_get heard at ≡ Some h → IsPromiseSeen (heard_of ms) v b h
promises_heard st ms v b heard stands all = λ at h e.
    let k = all at h (slice_get_within heard at h e) in
    let is : get_or heard at h ≡ h = get_or_from_slice_get heard at h h e in
    let p : IsPromiseHeard ms v b h = subst (IsPromiseHeard ms v b) is k in
    let w = was_heard st ms h.site p.0 stands p.1 in
    record { entry = record { site = h.site; row = slots p.0 }; found = w.1; site = refl; row = p.2; none = p.3 }

-- a vote that was heard
vote_open : (o : Option Column) (b : BallotAt) (x : Name) → slot_vote (slot_of o) ≡ Some (b, x) → (p : BallotAt) × (slot_of o ≡ OpenAt p (Some (b, x)))
vote_open None b x e = cc
vote_open (Some (Open promise None)) b x e = cc
vote_open (Some (Open promise (Some vote))) b x e = (promise, ap (OpenAt promise) e)
vote_open (Some (Decided value)) b x e = cc

pub vote_heard : (st : Store) (ms : List Action) (v s : ℕ) (row : RowAt) (b : BallotAt) (x : Name) → ActionsStand st ms → WasHeard ms s row → row_vote row v ≡ Some (b, x) → IsVotedAt (heard_of ms) v x
vote_heard st ms v s row b x stands was vote =
    let w = was_heard st ms s row stands was in
    let o = vote_open (column_in row.columns v) b x vote in
    let there : column_in row.columns v ≢ None = λ none. none-some (b, x) (sym (ap (λ k. slot_vote (slot_of k)) none) ∙ vote) in
    record { entry = record { site = s; row = slots row }; found = w.1; promise = o.0; ballot = b; votes = slots_found row v w.0 there ∙ o.1 }
