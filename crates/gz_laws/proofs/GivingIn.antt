-- No call gives in, in a world that is reached and whose sites tell what they hold.
use Rattle.std.proofs.Common.{◌≡◌, ℕ, zero, suc, ◌+◌, ◌≤◌, ◌<◌, ◌⊎◌, inl, inr, List, [], ◌∷◌, ◌++◌, Some, None, Bool, true, false, refl, ap, sym, ◌∙◌, subst, arith}
use Rattle.std.proofs.lemmas.Bool.{cases_Bool, cases_lt}
use Rattle.std.specs.Prelude.{Option, ◌&&◌, not, cond, nat_le, if◌then◌else◌}
use Rattle.gz_config.specs.declared.Config.{Config}
use Rattle.gz_core.specs.Names.{Name, BallotAt, fast, is_below, same_ballot, same_name}
use Rattle.gz_core.specs.Values.{name_of}
use Rattle.gz_core.specs.Calls.{key_of}
use Rattle.gz_core.specs.Configurations.{need}
use Rattle.gz_core.specs.Counts.{count_sites}
use Rattle.gz_core.specs.Rows.{RowAt, column_in, IsRow}
use Rattle.gz_core.specs.declared.slots.Slot.{Slot}
use Rattle.gz_core.specs.declared.slots.Slot.TheVariants.{Gone, DecidedAs, OpenAt}
use Rattle.gz_core.specs.Slots.{Promises, VotesClassic, is_collected, slots, slot_of, slot_vote}
use Rattle.gz_core.specs.declared.rows.Column.{Column}
use Rattle.gz_core.specs.declared.rows.Column.TheVariants.{Open, Decided}
use Rattle.gz_core.proofs.Ballots.{same_means, same_refl, name_refl}
use Rattle.gz_core.proofs.Counting.{count_within, count_found}
use Rattle.gz_accept.specs.declared.answers.Step.TheVariants.{Done, Already, Below}
use Rattle.gz_accept.specs.Steps.{IsOpenSlot, promise_at, classic_at, promise_answer, classic_answer}
use Rattle.gz_accept.proofs.Seen.{open_there, slots_there}
use Rattle.gz_pick.specs.Evidences.{is_in, is_for, votes_for}
use Rattle.gz_pick.specs.Looks.{row_top}
use Rattle.gz_round.specs.declared.hearing.Seen.{Seen}
use Rattle.gz_round.specs.Counting.{IsGoing}
use Rattle.gz_core.specs.History.{Action, Caller, Trace}
use Rattle.gz_round.specs.LookBack.{row_cast, column_cast, or_next, lowest, lowest_vote, before_promise}
use Rattle.gz_round.specs.Rounds.{slot_promises, promises_known}
use Rattle.gz_round.specs.Sending.{AreAllowed, MayGiveIn, NoPromise, NoVote, NoValue, IsIdle, IsShort, IsUncast, IsWithoutValue, rows_known}
use Rattle.gz_round.specs.Sent.{last_promise, has_promised_at}
use Rattle.gz_round.specs.Shown.{heard_at}
use Rattle.gz_round.specs.Sites.{SiteNow, site_now, known, row_seen}
use Rattle.gz_round.proofs.LookBacks.{last_promised_at}
use Rattle.gz_ledger.specs.Acceptors.{HasValue}
use Rattle.gz_ledger.specs.Agreements.{HasQuorums}
use Rattle.gz_ledger.specs.Guards.{IsQuorumHeard}
use Rattle.gz_ledger.specs.Histories.{RowSeen, Write, IsIn, IsShownByRows, IsPromised}
use Rattle.gz_ledger.specs.Transitions.{Store, Transition, Reads, Begins, Written, Failed, Elsewhere, IsUncastByWrites, AreTransitions, after_transitions, ledger_of, seen_after, sent_after}
use Rattle.gz_ledger.specs.Ledgers.{votes}
use Rattle.gz_ledger.proofs.Follows.{Advances, SlotFollows, advance}
use Rattle.gz_ledger.proofs.Forced.{store_forced}
use Rattle.gz_ledger.proofs.Guarded.{promised_ok}
use Rattle.gz_ledger.proofs.Rows.{row_votes}
use Rattle.gz_ledger.proofs.Sound.{IsSound, SlotOk, IsVoteOk, IsBuilt, right_at}
use Rattle.gz_ledger.proofs.SoundVotes.{carries_one}
use Rattle.gz_ledger.proofs.Stores.{rows_in, store_agreed, store_sound, early_transitions}
use Rattle.gz_laws.specs.Begun.{begins_of, sends_of}
use Rattle.gz_laws.specs.Carried.{ActionsCarried}
use Rattle.gz_laws.specs.Heard.{unused, heard_of, ActionsStand, SentStep}
use Rattle.gz_laws.specs.Runs.{IsRun}
use Rattle.gz_world.specs.States.{State}
use Rattle.gz_laws.proofs.FirstPromises.{first_sends, before_unpromised, before_keeps, split_begins, HasStep, write_begun, sends_promised}
use Rattle.gz_laws.proofs.Guarding.{top_heard}
use Rattle.gz_laws.proofs.HeardOrder.{HeardInOrder}
use Rattle.gz_laws.proofs.Hearing.{heard_known, last_stands}
use Rattle.gz_laws.proofs.Keeping.{actions_stand, sent_asked}
use Rattle.gz_laws.proofs.LastRows.{entry_at, last_from, order_tail}
use Rattle.gz_laws.proofs.Promising.{promised_sent, sent_casts, promises_heard}

-- what is known of a call, at an action of it, in a world whose sites tell what they hold
pub record IsKnownCall (s : State) (w : Caller) (past : List Trace) (ms : List Action) : Type 0 where
  pub transitions : List Transition
  pub run : IsRun (key_of w.call) s transitions
  pub quorums : HasQuorums s.cfg
  pub allowed : AreAllowed s.cfg w past ms
  pub carried : ActionsCarried s.cfg.n s.net w.name ms
  pub order : HeardInOrder ms
  pub begun : begins_of w.name transitions ≡ sends_of ms
  pub mine : (q : Write) → IsIn q (sent_after unused transitions) → q.call ≡ w.name → SentStep ms q.act

heard_stands : (s : State) (w : Caller) (past : List Trace) (ms : List Action) → (k : IsKnownCall s w past ms) → ActionsStand (after_transitions unused k.transitions) ms
heard_stands s w past ms k = actions_stand (key_of w.call) s.net (after_transitions unused k.transitions) s.cfg w past ms k.run.requests refl k.allowed k.carried

call_sound : (s : State) (w : Caller) (past : List Trace) (ms : List Action) → (k : IsKnownCall s w past ms) → IsSound s.cfg (ledger_of (after_transitions unused k.transitions))
call_sound s w past ms k = store_sound s.cfg unused k.transitions k.quorums k.run.transitions

-- the row of a site that is known was shown by the run
known_row : (now : SiteNow) (row : RowAt) → known now ≡ Some row → (seen : Seen) × ((now.row ≡ Some seen) × (seen.row ≡ row))
known_row now row e =
    elim now.out as (λ b. (if b then None else row_seen now.row) ≡ Some row → (seen : Seen) × ((now.row ≡ Some seen) × (seen.row ≡ row))) [
      | true ↦ λ k. cc
      | false ↦ λ k. seen_row now.row k
    ] e
  where
    seen_row : (o : Option Seen) → row_seen o ≡ Some row → (seen : Seen) × ((o ≡ Some seen) × (seen.row ≡ row))
    seen_row None k = cc
    seen_row (Some seen) k = (seen, (refl, cc))

known_shown : (s : State) (w : Caller) (past : List Trace) (ms : List Action) (i : ℕ) (row : RowAt) → (k : IsKnownCall s w past ms) → rows_known ms i ≡ Some row → IsRow row × (let e : RowSeen = record { site = i; row = slots row } in IsIn e (seen_after unused k.transitions))
known_shown s w past ms i row k e =
    let st = after_transitions unused k.transitions in
    let r = known_row (site_now ms i) row e in
    let l = last_stands st ms i (heard_stands s w past ms k) r.0 r.1.0 in
    subst (λ (q : RowAt). IsRow q × (let e : RowSeen = record { site = i; row = slots q } in IsIn e (seen_after unused k.transitions))) r.1.1 (l.0, rows_in st.replies (record { site = i; etag = r.0.etag; row = slots r.0.row }) l.1)

-- enough sites are not out
count_rest : (n : ℕ) (p : ℕ → Bool) → n ≤ count_sites n p + count_sites n (λ s. not (p s))
count_rest zero p = omega arith
count_rest (suc n) p =
    let r = count_rest n p in
    elim (p n) as (λ b. suc n ≤ cond b (suc (count_sites n p)) (count_sites n p) + cond (not b) (suc (count_sites n (λ s. not (p s)))) (count_sites n (λ s. not (p s)))) [ true ↦ omega (arith, r) | false ↦ omega (arith, r) ]

enough_in : (c : Config) (ms : List Action) → IsGoing c ms → c.qc ≤ count_sites c.n (λ s. not (site_now ms s).out)
enough_in c ms going = let r = count_rest c.n (λ s. (site_now ms s).out) in let e = going.enough in omega (arith, r, e)

not_out : (b : Bool) → not b ≡ true → b ≡ false
not_out true h = cc
not_out false h = refl

-- each site that is not out is known
in_known : (c : Config) (ms : List Action) (v i : ℕ) → IsIdle c ms v → i < c.n → not (site_now ms i).out ≡ true → (row : RowAt) × (rows_known ms i ≡ Some row)
in_known c ms v i idle below h = idle.heard i below (not_out (site_now ms i).out h)

-- a row that has taken a promise promises the ballot, and one that has taken a vote has one of it
open_taken : (p b : BallotAt) (t : Bool) → (if is_below b p then Below p else (if t then Already else Done)) ≡ Already → t ≡ true
open_taken p b true h = refl
open_taken p b false h =
    elim (is_below b p) as (λ k. (if k then Below p else Done) ≡ Already → false ≡ true) [ true ↦ λ e. cc | false ↦ λ e. cc ] h

promise_taken_at : (a : Slot) (floor : ℕ) (b : BallotAt) → promise_at b floor a ≡ Already → (vote : Option (BallotAt × Name)) × (a ≡ OpenAt b vote)
promise_taken_at Gone floor b h = cc
promise_taken_at (DecidedAs x) floor b h = cc
promise_taken_at (OpenAt p vote) floor b h = (vote, ap (λ (q : BallotAt). OpenAt q vote) (same_means p b (open_taken p b (same_ballot p b) h)))

classic_taken_at : (a : Slot) (floor : ℕ) (b : BallotAt) → classic_at b floor a ≡ Already → (y : Name) × ((p : BallotAt) × (a ≡ OpenAt p (Some (b, y))))
classic_taken_at Gone floor b h = cc
classic_taken_at (DecidedAs x) floor b h = cc
classic_taken_at (OpenAt p None) floor b h = let bad = open_taken p b false h in cc
classic_taken_at (OpenAt p (Some u)) floor b h = (u.1, (p, ap (λ (q : BallotAt). OpenAt p (Some (q, u.1))) (same_means u.0 b (open_taken p b (same_ballot u.0 b) h))))

promise_taken : (row : RowAt) (v : ℕ) (b : BallotAt) → promise_answer row v b ≡ Already → (vote : Option (BallotAt × Name)) × (slots row v ≡ OpenAt b vote)
promise_taken row v b h = promise_taken_at (slots row v) row.floor b h

classic_taken : (row : RowAt) (v : ℕ) (b : BallotAt) → classic_answer row v b ≡ Already → (y : Name) × ((p : BallotAt) × ((slots row v ≡ OpenAt p (Some (b, y))) × (votes_for b y v (Some row) ≡ true)))
classic_taken row v b h =
    let k = classic_taken_at (slots row v) row.floor b h in
    let y = k.0 in
    let there = slots_there row v (open_there (slots row v) (subst IsOpenSlot (sym k.1.1) tt)) in
    (y, (k.1.0, (k.1.1, ap (λ (a : Slot). is_for b y (slot_vote a)) (sym there ∙ k.1.1) ∙ ap (λ t. t && same_name y y) (same_refl b) ∙ name_refl y)))

-- the promise of the ballot that the call promised last
promise_of : (s : State) (w : Caller) (past : List Trace) (ms : List Action) (v : ℕ) (b : BallotAt) → (k : IsKnownCall s w past ms) → has_promised_at ms v b ≡ true → IsPromised (sent_after unused k.transitions) w.name v b
promise_of s w past ms v b k h =
    let q = sent_asked (key_of w.call) s.net (after_transitions unused k.transitions) s.cfg w past ms (Promises v b) k.run.requests refl k.allowed k.carried (promised_sent ms v b h) in
    record { write = q.0; found = q.1.0; same = q.1.1.0; promises = q.1.1.1 }

-- where the call cast nothing in its ballot, nobody did
none_cast : (s : State) (w : Caller) (past : List Trace) (ms : List Action) (v : ℕ) (b : BallotAt) → (k : IsKnownCall s w past ms) → has_promised_at ms v b ≡ true → IsUncast ms v b → (q : Write) (y : Name) → IsIn q (sent_after unused k.transitions) → q.act ≡ VotesClassic v b y → ⊥
none_cast s w past ms v b k promised uncast q y found is =
    let so = call_sound s w past ms k in
    let p = promise_of s w past ms v b k promised in
    let r = (right_at s.cfg (ledger_of (after_transitions unused k.transitions)) so q v b y found is).promised in
    let own : q.call ≡ w.name = sym r.same ∙ (so.owned r.write p.write v v b r.found p.found r.promises p.promises).0 ∙ p.same in
    let bad : true ≡ false = sym (sent_casts ms v b y (subst (SentStep ms) is (k.mine q found own))) ∙ uncast y in
    cc

-- a call doesn't give in for want of promises: the rows that are known promise the ballot, and have no vote of it
unvoted : (s : State) (w : Caller) (past : List Trace) (ms : List Action) (v : ℕ) (b : BallotAt) (e : RowSeen) (vote : Option (BallotAt × Name)) → (k : IsKnownCall s w past ms) → has_promised_at ms v b ≡ true → IsUncast ms v b → IsIn e (seen_after unused k.transitions) → e.row v ≡ OpenAt b vote → is_in b vote ≡ false
unvoted s w past ms v b e None k promised uncast i is = refl
unvoted s w past ms v b e (Some u) k promised uncast i is = elim (cases_Bool (same_ballot u.0 b)) [
  | inl t ↦ (let so = call_sound s w past ms k in
      let same = same_means u.0 b t in
      let classic = (promised_ok s.cfg (ledger_of (after_transitions unused k.transitions)) w.name v b so (promise_of s w past ms v b k promised)).0 in
      let ok : IsVoteOk s.cfg (seen_after unused k.transitions) (sent_after unused k.transitions) v u = subst (SlotOk s.cfg (seen_after unused k.transitions) (sent_after unused k.transitions) v) is (so.seen_ok e v i) in
      let sent = ok.classic (ap (λ (d : BallotAt). same_ballot d fast) same ∙ classic) in
      absurd (none_cast s w past ms v b k promised uncast sent.0 u.1 sent.1 (sent.2 ∙ ap (λ (d : BallotAt). VotesClassic v d u.1) same)))
  | inr f ↦ f
]

no_promise : (s : State) (w : Caller) (past : List Trace) (ms : List Action) (v : ℕ) (b : BallotAt) → (k : IsKnownCall s w past ms) → (going : IsGoing s.cfg ms) → IsIdle s.cfg ms v → last_promise ms ≡ Some (v, b)
    → ((i : ℕ) (row : RowAt) → i < s.cfg.n → rows_known ms i ≡ Some row → promise_answer row v b ≡ Already) → IsUncast ms v b → IsShort s.cfg ms v b → ⊥
no_promise s w past ms v b k going idle last taken uncast short =
    let promised = last_promised_at ms v b last in
    let all = count_within s.cfg.n (λ i. not (site_now ms i).out) (λ i. promises_known v b (rows_known ms i)) (λ i below h.
    let r = in_known s.cfg ms v i idle below h in
    let shown = known_shown s w past ms i r.0 k r.1 in
    let p = promise_taken r.0 v b (taken i r.0 below r.1) in
    let none = unvoted s w past ms v b (record { site = i; row = slots r.0 }) p.0 k promised uncast shown.1 p.1 in
    ap (promises_known v b) r.1 ∙ ap (λ (x : Slot). slot_promises x b) p.1 ∙ ap (λ t. t && not (is_in b p.0)) (same_refl b) ∙ ap not none) in
    let enough = enough_in s.cfg ms going in
    omega (arith, all, enough, short)

-- nor with its vote taken: the rows that are known have one vote of the ballot, which is chosen
no_vote : (s : State) (w : Caller) (past : List Trace) (ms : List Action) (v : ℕ) (b : BallotAt) → (k : IsKnownCall s w past ms) → (going : IsGoing s.cfg ms) → IsIdle s.cfg ms v → last_promise ms ≡ Some (v, b)
    → ((i : ℕ) (row : RowAt) → i < s.cfg.n → rows_known ms i ≡ Some row → classic_answer row v b ≡ Already) → ⊥
no_vote s w past ms v b k going idle last taken =
    let c = s.cfg in
    let l = ledger_of (after_transitions unused k.transitions) in
    let so = call_sound s w past ms k in
    let promised = last_promised_at ms v b last in
    let classic = (promised_ok c l w.name v b so (promise_of s w past ms v b k promised)).0 in
    let enough = enough_in c ms going in
    let majority = k.quorums.majority in
    let f = count_found c.n (λ i. not (site_now ms i).out) (omega (arith, enough, majority)) in
    let vote : (i : ℕ) → i < c.n → not (site_now ms i).out ≡ true → (row : RowAt) × ((y : Name) × ((rows_known ms i ≡ Some row) × ((votes_for b y v (Some row) ≡ true) × (votes l v b y i ≡ true)))) = λ i below h.
    (let r = in_known c ms v i idle below h in
    let shown = known_shown s w past ms i r.0 k r.1 in
    let t = classic_taken r.0 v b (taken i r.0 below r.1) in
    (r.0, (t.0, (r.1, (t.1.1.1, row_votes l v b t.0 i (slots r.0) (inr (record { site = i; row = slots r.0 }, shown.1, refl, refl)) (t.1.0, t.1.1.0)))))) in
    let first = vote f.0 f.1 f.2 in
    let x = first.1.0 in
    let all = count_within c.n (λ i. not (site_now ms i).out) (λ i. votes_for b x v (rows_known ms i)) (λ i below h.
    let o = vote i below h in
    let same : o.1.0 ≡ x = carries_one c l v so b o.1.0 x i f.0 classic o.1.1.1.1 first.1.1.1.1 in
    ap (λ r. votes_for b x v r) o.1.1.0 ∙ ap (λ (y : Name). votes_for b y v (Some o.0)) (sym same) ∙ o.1.1.1.0) in
    let needed : need c.qc c.qf b ≡ c.qc = ap (λ t. if t then c.qf else c.qc) classic in
    idle.undecided.evident x (inl (b, omega (arith, all, enough, needed)))

-- nor for want of a value. Where the version had begun before the ballot was promised, a value was shown at it, or a vote
-- was the last that its site had.
lowest_none : {A : Type 0} (n : ℕ) (f : ℕ → Option A) (i : ℕ) → lowest n f ≡ None → i < n → f i ≡ None
lowest_none zero f i e below = absurd (omega arith)
lowest_none (suc n) f i e below =
    let k = next_none (lowest n f) (f n) e in
    elim (cases_lt i n) [ inl l ↦ lowest_none n f i k.0 l | inr ge ↦ (let same : i ≡ n = omega arith in ap f same ∙ k.1) ]
  where
    next_none : {A : Type 0} (a b : Option A) → or_next a b ≡ None → (a ≡ None) × (b ≡ None)
    next_none None b h = (refl, h)
    next_none (Some x) b h = cc

-- a slot with a value is decided, or has a vote
value_cases : (a : Slot) → HasValue a → ((x : Name) × (a ≡ DecidedAs x)) ⊎ ((p : BallotAt) × ((u : BallotAt × Name) × (a ≡ OpenAt p (Some u))))
value_cases Gone h = absurd h
value_cases (DecidedAs x) h = inl (x, refl)
value_cases (OpenAt p None) h = absurd h
value_cases (OpenAt p (Some u)) h = inr (p, (u, refl))

-- a vote that stood is followed by a vote or a decision
vote_stays : (p q : BallotAt) (u : BallotAt × Name) → Advances p (Some u) q None → ⊥
vote_stays p q u a = elim a.vote [ inl e ↦ cc | inr n ↦ (let bad = n.is in cc) ]

decided_after : (o : Option Column) (a : Slot) (p : BallotAt) (u : BallotAt × Name) → a ≡ OpenAt p (Some u) → SlotFollows a (slot_of o) → column_cast o ≡ None → (x : Name) × (slot_of o ≡ DecidedAs x)
decided_after None a p u is f none = absurd (vote_stays p fast u (advance a (slot_of None) p fast (Some u) None is refl f))
decided_after (Some (Open q None)) a p u is f none = absurd (vote_stays p q u (advance a (slot_of (Some (Open q None))) p q (Some u) None is refl f))
decided_after (Some (Open q (Some vote))) a p u is f none = cc
decided_after (Some (Decided x)) a p u is f none = (name_of x, refl)

last_cast : (v : ℕ) (o : Option Seen) (seen : Seen) → o ≡ Some seen → row_cast v (row_seen o) ≡ None → column_cast (column_in seen.row.columns v) ≡ None
last_cast v None seen e h = cc
last_cast v (Some x) seen e h = let same : x ≡ seen = cc in subst (λ (k : Seen). column_cast (column_in k.row.columns v) ≡ None) same h

-- where a version was collected, a value was shown at it
collected_shown : (c : Config) (early : List Transition) (e : RowSeen) (v : ℕ) → HasQuorums c → AreTransitions c unused early → 1 ≤ v → IsIn e (seen_after unused early) → e.row v ≡ Gone → (x : Name) × IsShownByRows c (seen_after unused early) v x
collected_shown c early e v q all positive found gone =
    let top = ((store_sound c unused early q all).seen_acceptor e found).topped v gone in
    let y = (store_agreed c unused early q all).settled e v top.0 found positive top.1 (subst HasValue (sym top.3) tt) in
    (y.0, inl y.1)

-- the last row of a site that had a vote: where no vote is left, the version was decided, or collected
last_shown : (c : Config) (early : List Transition) (v site : ℕ) (last : Seen) (a : Slot) (p : BallotAt) (u : BallotAt × Name) → HasQuorums c → AreTransitions c unused early → 1 ≤ v → IsIn (entry_at site last) (seen_after unused early)
    → a ≡ OpenAt p (Some u) → SlotFollows a (slots last.row v) → column_cast (column_in last.row.columns v) ≡ None → (x : Name) × IsShownByRows c (seen_after unused early) v x
last_shown c early v site last a p u q all positive found is follows cast = elim (cases_Bool (is_collected last.row v)) [
  | inl gone ↦ collected_shown c early (entry_at site last) v q all positive found (ap (λ t. if t then Gone else slot_of (column_in last.row.columns v)) gone)
  | inr there ↦ (let slot : slots last.row v ≡ slot_of (column_in last.row.columns v) = ap (λ t. if t then Gone else slot_of (column_in last.row.columns v)) there in
      let d = decided_after (column_in last.row.columns v) a p u is (subst (SlotFollows a) slot follows) cast in
      (d.0, inr (record { entry = entry_at site last; found = found; decided = slot ∙ d.1 })))
]

-- a value was shown at the version before the call promised its ballot
shown_before : (c : Config) (st : Store) (start : List Action) (early : List Transition) (v : ℕ) → HasQuorums c → AreTransitions c unused early → 1 ≤ v → ActionsStand st start → HeardInOrder start → ((e : RowSeen) → IsIn e (heard_of start) → IsIn e (seen_after unused early))
    → 1 ≤ heard_at c (λ r. nat_le v (row_top r)) start → lowest_vote c.n v start ≡ None → (x : Name) × IsShownByRows c (seen_after unused early) v x
shown_before c st start early v q all positive stands order known begun none =
    let t = top_heard c st start v positive stands begun in
    let e = t.entry in
    elim (cases_lt v t.version) [
      | inl lt ↦ (let y = (store_agreed c unused early q all).settled e v t.version (known e t.found) positive lt t.value in (y.0, inl y.1))
      | inr ge ↦ (let le = t.above in
          let same : t.version ≡ v = omega (arith, ge, le) in
          elim (value_cases (e.row v) (subst (λ u. HasValue (e.row u)) same t.value)) [
            | inl d ↦ (d.0, inr (record { entry = e; found = known e t.found; decided = d.1 }))
            | inr o ↦ (let last = last_from start e.site e order t.found refl in
                let cast = last_cast v (site_now start e.site).row last.0 last.1.0 (lowest_none c.n (λ i. row_cast v (row_seen (site_now start i).row)) e.site none t.within) in
                last_shown c early v e.site last.0 (e.row v) o.0 o.1.0 q all positive (known (entry_at e.site last.0) last.1.1.0) o.1.1 (last.1.1.1 v) cast)
          ])
    ]

later_sent : (late early : List Transition) (q : Write) → IsIn q (sent_after unused early) → IsIn q (sent_after unused (late ++ early))
later_sent [] early q i = i
later_sent (Reads s ∷ late) early q i = later_sent late early q i
later_sent (Begins heard a ∷ late) early q i = inr (later_sent late early q i)
later_sent (Written a e ∷ late) early q i = later_sent late early q i
later_sent (Failed a e ∷ late) early q i = later_sent late early q i
later_sent (Elsewhere s e ∷ late) early q i = later_sent late early q i

one_by_one : (late : List Transition) (d : Transition) (early : List Transition) → late ++ d ∷ early ≡ (late ++ d ∷ []) ++ early
one_by_one [] d early = refl
one_by_one (x ∷ late) d early = ap (λ ks. x ∷ ks) (one_by_one late d early)

positive_of : (c : Config) (seen : List RowSeen) (v : ℕ) → IsBuilt c seen v → 1 ≤ v
positive_of c seen v (inl e) = omega (arith, e)
positive_of c seen v (inr h) = let e = h.1 in omega (arith, e)

no_value : (s : State) (w : Caller) (past : List Trace) (ms : List Action) (v : ℕ) (b : BallotAt) → IsKnownCall s w past ms → IsWithoutValue s.cfg w ms v b → ⊥
no_value s w past ms v b k h =
    let c = s.cfg in
    let ds = k.transitions in
    let st = after_transitions unused ds in
    let stands = heard_stands s w past ms k in
    let so = call_sound s w past ms k in
    let promised = last_promised_at ms v b h.last in
    let mine = promise_of s w past ms v b k promised in
    let ok = promised_ok c (ledger_of st) w.name v b so mine in
    let start = before_promise v b ms in
    let f = first_sends ms v b promised in
    let at = split_begins w.name ds f.0 (heard_of start) (Promises v b) (sends_of start) (k.begun ∙ f.1) in
    let d = Begins (heard_of start) at.asked in
    let late = at.late ++ d ∷ [] in
    let split : ds ≡ late ++ at.early = at.split ∙ one_by_one at.late d at.early in
    let tail = early_transitions c unused at.late (d ∷ at.early) (subst (λ ks. AreTransitions c unused ks) at.split k.run.transitions) in
    let fresh : (q : Write) (u : ℕ) → IsIn q (sent_after unused at.early) → q.act ≡ Promises u b → ⊥ = λ q u i is.
    (let found : IsIn q (sent_after unused ds) = subst (λ ks. IsIn q (sent_after unused ks)) (sym split) (later_sent late at.early q i) in
    let o = so.owned q mine.write u v b found mine.found is mine.promises in
    let step = write_begun w.name at.early q i (o.0 ∙ mine.same) in
    let there = sends_promised start v b (subst (λ a. HasStep (sends_of start) a) (is ∙ ap (λ x. Promises x b) o.1) (subst (λ xs. HasStep xs q.act) at.rest_is step)) in
    let bad : true ≡ false = sym there ∙ before_unpromised v b ms in
    cc) in
    let shown = shown_before c st start at.early v k.quorums tail.0 (positive_of c (seen_after unused ds) v ok.1) (before_keeps (ActionsStand st) (λ m ks x. x.1) v b ms stands) (before_keeps HeardInOrder order_tail v b ms k.order) tail.1.known h.begun (sym h.back) in
    let quorum : IsQuorumHeard c (seen_after unused ds) v b h.heard = record {
      sites = h.sites;
      enough = h.enough;
      promises = λ i x is.
          let p = promises_heard st ms v b h.heard stands h.rows i x is in
          record { entry = p.entry; found = heard_known st ms p.entry stands p.found; site = p.site; row = p.row; none = p.none };
    } in
    store_forced c unused late at.early v b shown.0 h.heard k.quorums (subst (λ ks. AreTransitions c unused ks) split k.run.transitions) fresh
    (subst (λ ks. IsUncastByWrites (sent_after unused ks) v b) split (none_cast s w past ms v b k promised h.uncast)) ok.0 shown.1
    (subst (λ ks. IsQuorumHeard c (seen_after unused ks) v b h.heard) split quorum) h.free

pub never : (s : State) (w : Caller) (past : List Trace) (ms : List Action) → IsKnownCall s w past ms → MayGiveIn s.cfg w ms → ⊥
never s w past ms k (NoPromise v b stuck uncast short) = no_promise s w past ms v b k stuck.going stuck.idle stuck.last stuck.taken uncast short
never s w past ms k (NoVote v b x stuck may) = no_vote s w past ms v b k stuck.going stuck.idle stuck.last stuck.taken
never s w past ms k (NoValue v b h) = no_value s w past ms v b k h
