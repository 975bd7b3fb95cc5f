-- What a client may send, by what its call heard, the machine of agreement may do.
use Rattle.std.proofs.Common.{◌≡◌, ℕ, ◌≤◌, ◌⊎◌, inl, inr, List, [], ◌∷◌, Some, None, Bool, true, false, refl, ap, sym, ◌∙◌, subst}
use Rattle.gz_core.proofs.Ballots.{name_refl}
use Rattle.std.proofs.lemmas.Bool.{eq-eqb, or_left, or_right}
use Rattle.std.specs.Prelude.{Option, ◌==◌, if◌then◌else◌}
use Rattle.gz_core.specs.Names.{Name, same_name}
use Rattle.gz_core.specs.Values.{name_of}
use Rattle.gz_core.specs.Rows.{RowAt}
use Rattle.gz_core.specs.Slots.{Act, VotesFast, Promises, VotesClassic, Decides, Trims, Makes, act_of, slots}
use Rattle.gz_config.specs.declared.Config.{Config}
use Rattle.gz_core.specs.declared.requests.RowStep.{RowStep}
use Rattle.gz_core.specs.declared.requests.RowStep.TheVariants.{FastVote, Promise, ClassicVote, Decide, Trim}
use Rattle.gz_core.specs.declared.requests.Op.{Op}
use Rattle.gz_core.specs.declared.requests.Op.TheVariants.{WriteRow}
use Rattle.gz_accept.specs.Steps.{fast_voted, promised, classic_voted, decided, trimmed_to}
use Rattle.gz_accept.proofs.Making.{makes_fast, makes_promise, makes_classic, makes_decision, makes_trim, made}
use Rattle.gz_core.specs.History.{Action, Sent, Handed, GaveUp, Rested, GaveIn, Caller, Trace, is_row_request}
use Rattle.gz_round.specs.Sent.{vote_by, of_step, or_earlier, passes_sent, voted_at, last_vote}
use Rattle.gz_round.specs.Shown.{IsClear}
use Rattle.gz_round.specs.Sending.{AreAllowed, MayAsk, MayMake, IsMade}
use Rattle.gz_round.specs.Sites.{SiteNow, site_now}
use Rattle.gz_ledger.specs.Histories.{VotesFor}
use Rattle.gz_ledger.specs.Guards.{IsClearByRows}
use Rattle.gz_ledger.specs.Transitions.{Store, writes_of}
use Rattle.gz_laws.specs.Heard.{heard_of, IsStepSent, SentStep, Keeps}
use Rattle.gz_laws.proofs.Hearing.{shown_heard}

-- a step that was made on a row makes the acceptor's
pub step_makes : (step : RowStep) (old new : RowAt) → IsMade step old new → Makes (act_of step) (slots old) (slots new)
step_makes (FastVote v x) old new m = made (VotesFast v (name_of x)) old new (fast_voted old v x) (makes_fast old v x m.0) m.1
step_makes (Promise v b) old new m = made (Promises v b) old new (promised old v b) (makes_promise old v b m.0) m.1
step_makes (ClassicVote v b x) old new m = made (VotesClassic v b (name_of x)) old new (classic_voted old v b x) (makes_classic old v b x m.0) m.1
step_makes (Decide v x) old new m = made (Decides v (name_of x)) old new (decided old v x) (makes_decision old v x m.0) m.1
step_makes (Trim to x) old new m = made (Trims to (name_of x)) old new (trimmed_to old to x) (makes_trim old to x m.0) m.1

votes_same : (y x : Name) (v u : ℕ) → (v ≡ u) × (y ≡ x) → passes_sent (λ q. q == u) (if same_name y x then Some v else None) ≡ true
votes_same y x v u e =
    let t : same_name y x ≡ true = subst (λ k. same_name y k ≡ true) e.1 (name_refl y) in
    ap (λ b. passes_sent (λ q. q == u) (if b then Some v else None)) t ∙ subst (λ k. (v == k) ≡ true) e.0 (eq-eqb v v refl)

votes_by : (step : RowStep) (u : ℕ) (x : Name) → VotesFor (act_of step) u x → passes_sent (λ q. q == u) (vote_by x step) ≡ true
votes_by (FastVote v value) u x votes = votes_same (name_of value) x v u votes
votes_by (Promise v b) u x votes = absurd votes
votes_by (ClassicVote v b value) u x votes = votes_same (name_of value) x v u votes
votes_by (Decide v value) u x votes = absurd votes
votes_by (Trim to value) u x votes = absurd votes

-- a step that votes for a value at a version
step_votes : (step : RowStep) (act : Act) (u : ℕ) (x : Name) → act_of step ≡ act → VotesFor act u x → passes_sent (λ q. q == u) (vote_by x step) ≡ true
step_votes step act u x e votes = votes_by step u x (subst (λ k. VotesFor k u x) (sym e) votes)

-- a write that a call sent with a vote is counted as one
op_votes : (op : Op) (act : Act) (u : ℕ) (x : Name) → IsStepSent op act → VotesFor act u x → passes_sent (λ q. q == u) (of_step (vote_by x) op) ≡ true
op_votes (WriteRow key expect step row) act u x h votes = step_votes step act u x h votes
op_votes op act u x h votes = absurd h

pub sent_votes : (ms : List Action) (act : Act) (u : ℕ) (x : Name) → SentStep ms act → VotesFor act u x → voted_at x ms u ≡ true
sent_votes [] act u x h votes = absurd h
sent_votes (Sent a ∷ ms) act u x (inl h) votes = or_left (passes_sent (λ q. q == u) (of_step (vote_by x) a.op)) (voted_at x ms u) (op_votes a.op act u x h votes)
sent_votes (Sent a ∷ ms) act u x (inr h) votes = or_right (passes_sent (λ q. q == u) (of_step (vote_by x) a.op)) (voted_at x ms u) (sent_votes ms act u x h votes)
sent_votes (Handed a reply ∷ ms) act u x (inl h) votes = absurd h
sent_votes (Handed a reply ∷ ms) act u x (inr h) votes = sent_votes ms act u x h votes
sent_votes (GaveUp a ∷ ms) act u x (inl h) votes = absurd h
sent_votes (GaveUp a ∷ ms) act u x (inr h) votes = sent_votes ms act u x h votes
sent_votes (Rested ∷ ms) act u x (inl h) votes = absurd h
sent_votes (Rested ∷ ms) act u x (inr h) votes = sent_votes ms act u x h votes
sent_votes (GaveIn ∷ ms) act u x (inl h) votes = absurd h
sent_votes (GaveIn ∷ ms) act u x (inr h) votes = sent_votes ms act u x h votes

-- a call votes at versions from 1 on
where_named : (b : Bool) (u v : ℕ) → (if b then Some u else None) ≡ Some v → u ≡ v
where_named true u v e = cc
where_named false u v e = cc

step_above : (c : Config) (w : Caller) (past : List Trace) (ms : List Action) (step : RowStep) (x : Name) (v : ℕ) → MayMake c w past ms step → vote_by x step ≡ Some v → 1 ≤ v
step_above c w past ms (FastVote u value) x v may e = subst (λ k. 1 ≤ k) (where_named (same_name (name_of value) x) u v e) may.1.above
step_above c w past ms (Promise u b) x v may e = cc
step_above c w past ms (ClassicVote u b value) x v may e = subst (λ k. 1 ≤ k) (where_named (same_name (name_of value) x) u v e) may.above
step_above c w past ms (Decide u value) x v may e = cc
step_above c w past ms (Trim to value) x v may e = cc

op_above : (c : Config) (w : Caller) (past : List Trace) (ms : List Action) (now : SiteNow) (op : Op) (x : Name) (v : ℕ) → (is_row_request op ≡ true → MayAsk c w past ms now op) → of_step (vote_by x) op ≡ Some v → 1 ≤ v
op_above c w past ms now (WriteRow key expect step row) x v may e = step_above c w past ms step x v (may refl).1.guard e
op_above c w past ms now op x v may e = cc

sooner_or_later : (o earlier : Option ℕ) (v : ℕ) → or_earlier o earlier ≡ Some v → (o ≡ Some v) ⊎ (earlier ≡ Some v)
sooner_or_later None earlier v e = inr e
sooner_or_later (Some u) earlier v e = inl e

pub last_vote_above : (c : Config) (w : Caller) (past : List Trace) (ms : List Action) (x : Name) (v : ℕ) → AreAllowed c w past ms → last_vote x ms ≡ Some v → 1 ≤ v
last_vote_above c w past [] x v allowed e = cc
last_vote_above c w past (Sent a ∷ ms) x v allowed e = elim (sooner_or_later (of_step (vote_by x) a.op) (last_vote x ms) v e) [
  | inl now ↦ op_above c w past ms (site_now ms a.site) a.op x v (λ row. (allowed.0 row).asks) now
  | inr before ↦ last_vote_above c w past ms x v allowed.1 before
]
last_vote_above c w past (Handed a reply ∷ ms) x v allowed e = last_vote_above c w past ms x v allowed.1 e
last_vote_above c w past (GaveUp a ∷ ms) x v allowed e = last_vote_above c w past ms x v allowed.1 e
last_vote_above c w past (Rested ∷ ms) x v allowed e = last_vote_above c w past ms x v allowed.1 e
last_vote_above c w past (GaveIn ∷ ms) x v allowed e = last_vote_above c w past ms x v allowed.1 e

-- a call that is clear at a version is so by what it heard
pub clear_heard : (c : Config) (w : Caller) (past : List Trace) (ms : List Action) (st : Store) (v : ℕ) → Keeps c w past ms st → IsClear c w.name ms v → IsClearByRows c (heard_of ms) (writes_of st.asked) w.name v
clear_heard c w past ms st v keeps clear = λ q u found own votes apart.
    let k = clear u apart (sent_votes ms q.act u w.name (keeps.own q found own) votes) in
    (k.0, k.1, shown_heard c st ms u k.0 keeps.stands k.2)
