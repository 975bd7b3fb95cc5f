-- Agreement on each object, in a world that is reached.
use Rattle.std.proofs.Common.{◌≡◌, ℕ, suc, ◌+◌, ◌<◌, inl, inr, List, [], ◌∷◌, Some, None, Bool, true, false, refl, ap, sym, ◌∙◌, subst, arith}
use Rattle.std.proofs.lemmas.Bool.{and_parts, or_cases, or_left, or_right, and_from}
use Rattle.std.specs.Prelude.{Option, IsSome, not, ◌==◌, ◌&&◌, ◌||◌}
use Rattle.gz_core.specs.Names.{Name, BallotAt, same_ballot, same_name}
use Rattle.gz_core.specs.Rows.{RowAt}
use Rattle.gz_core.specs.Slots.{Act, VotesClassic}
use Rattle.gz_config.specs.declared.Config.{Config}
use Rattle.gz_core.proofs.Ballots.{name_refl}
use Rattle.gz_core.proofs.Counting.{count_within, count_weaker}
use Rattle.gz_core.specs.History.{Trace}
use Rattle.gz_client.specs.Traces.{AllKeepRules, IsAnswered}
use Rattle.gz_site.specs.Told.{Told}
use Rattle.gz_history.specs.Answers.{shows, names}
use Rattle.gz_history.specs.declared.record.CallRec.{CallRec}
use Rattle.gz_model.specs.Casts.{is_at, is_vote, has_cast, IsChosen}
use Rattle.gz_model.specs.Choosing.{IsSafe}
use Rattle.gz_model.specs.declared.casts.Cast.{Cast}
use Rattle.gz_ledger.specs.Acceptors.{Acceptor, HasValue, slot_votes, slot_voted, slot_lets, slot_backs}
use Rattle.gz_ledger.specs.Histories.{RowSeen, Write, IsIn, cast, cast_in, IsShownByRows, IsChosenAt}
use Rattle.gz_ledger.specs.Ledgers.{votes, site_voted, standing_votes, backs}
use Rattle.gz_ledger.specs.Transitions.{Transition, acceptor_of, after_transitions, ledger_of, seen_after, sent_after}
use Rattle.gz_ledger.proofs.Shown.{cast_found, cast_from, cast_in_found, cast_in_from}
use Rattle.gz_laws.specs.Agreed.{acceptor_kept, acceptor_told, acceptor_at, has_ballot, has_voted, has_voted_in, stands_for, IsShownTo, IsShownToCall, IsSentIn, AreAgreed}
use Rattle.gz_laws.specs.Carried.{TracesCarried, AreCarried}
use Rattle.gz_laws.specs.Heard.{unused}
use Rattle.gz_laws.specs.Listed.{IsAmong, AreCallsListed}
use Rattle.gz_laws.specs.Placed.{ArePlaced}
use Rattle.gz_world.specs.Reached.{IsReached, AllTell}
use Rattle.gz_laws.specs.Runs.{stored_of, IsRun}
use Rattle.gz_world.specs.States.{State}
use Rattle.gz_laws.proofs.Agreeing.{agreed}
use Rattle.gz_laws.proofs.Carrying.{carried}
use Rattle.gz_laws.proofs.Keeping.{actions_stand, sent_asked}
use Rattle.gz_laws.proofs.Listing.{listed}
use Rattle.gz_laws.proofs.Placing.{placed}
use Rattle.gz_laws.proofs.RunAnswers.{call_trace, call_told, answer_names, trace_shown}
use Rattle.gz_laws.proofs.Running.{runs}

-- the row of a site, as the store has it
pub kept_same : (o : Option (ℕ × RowAt)) → acceptor_of (stored_of o) ≡ acceptor_kept o
kept_same None = refl
kept_same (Some kept) = refl

acceptor_same : (key : List ℕ) (s : State) (ds : List Transition) (i : ℕ) (o : Option Told) → IsRun key s ds → s.sites i ≡ o → IsSome o → acceptor_at s key i ≡ acceptor_of ((after_transitions unused ds).stored i)
acceptor_same key s ds i None run is tells = cc
acceptor_same key s ds i (Some told) run is tells =
    let here : acceptor_at s key i ≡ acceptor_kept (told.rows key) = ap (λ (o : Option Told). acceptor_told o key) is in
    here ∙ sym (ap acceptor_of (run.sites i told is).stored ∙ kept_same (told.rows key))

-- two tests that pass at the same time
both_ways : (a b : Bool) → (a ≡ true → b ≡ true) → (b ≡ true → a ≡ true) → a ≡ b
both_ways true true f g = refl
both_ways true false f g = sym (f refl)
both_ways false true f g = g refl
both_ways false false f g = refl

-- a vote of a ballot is for some value
ballot_found : (casts : List Cast) (key : List ℕ) (v : ℕ) (b : BallotAt) (i : ℕ) → has_ballot casts key v b i ≡ true → (x : Name) × (has_cast casts key v b x i ≡ true)
ballot_found [] key v b i h = cc
ballot_found (c ∷ casts) key v b i h = elim (or_cases ((c.site == i) && (is_at c key v && same_ballot c.ballot b)) (has_ballot casts key v b i) h) [
  | inl e ↦ (let p = and_parts (c.site == i) (is_at c key v && same_ballot c.ballot b) e in
      let q = and_parts (is_at c key v) (same_ballot c.ballot b) p.1 in (
        c.name,
        or_left ((c.site == i) && is_vote c key v b c.name) (has_cast casts key v b c.name i)
            (and_from (c.site == i) (is_vote c key v b c.name) p.0 (and_from (is_at c key v && same_ballot c.ballot b) (same_name c.name c.name) p.1 (name_refl c.name))),
      ))
  | inr e ↦ (let r = ballot_found casts key v b i e in (r.0, or_right ((c.site == i) && is_vote c key v b r.0) (has_cast casts key v b r.0 i) r.1))
]

ballot_from : (casts : List Cast) (key : List ℕ) (v : ℕ) (b : BallotAt) (x : Name) (i : ℕ) → has_cast casts key v b x i ≡ true → has_ballot casts key v b i ≡ true
ballot_from [] key v b x i h = cc
ballot_from (c ∷ casts) key v b x i h = elim (or_cases ((c.site == i) && is_vote c key v b x) (has_cast casts key v b x i) h) [
  | inl e ↦ (let p = and_parts (c.site == i) (is_vote c key v b x) e in
      let q = and_parts (is_at c key v && same_ballot c.ballot b) (same_name c.name x) p.1 in
      or_left ((c.site == i) && (is_at c key v && same_ballot c.ballot b)) (has_ballot casts key v b i) (and_from (c.site == i) (is_at c key v && same_ballot c.ballot b) p.0 q.0))
  | inr e ↦ or_right ((c.site == i) && (is_at c key v && same_ballot c.ballot b)) (has_ballot casts key v b i) (ballot_from casts key v b x i e)
]

seen_ballot : (seen : List RowSeen) (v : ℕ) (b : BallotAt) (x : Name) (i : ℕ) → cast seen v b x i ≡ true → cast_in seen v b i ≡ true
seen_ballot seen v b x i h = let c = cast_found seen v b x i h in subst (λ k. cast_in seen v b k ≡ true) c.site (cast_in_from seen v b x c.entry c.found c.vote)

ballot_seen : (seen : List RowSeen) (v : ℕ) (b : BallotAt) (i : ℕ) → cast_in seen v b i ≡ true → (x : Name) × (cast seen v b x i ≡ true)
ballot_seen seen v b i h =
    let k = cast_in_found seen v b i h in
    let c = k.1 in
    (k.0, subst (λ j. cast seen v b k.0 j ≡ true) c.site (cast_from seen v b k.0 c.entry c.found c.vote))

ballot_same : (key : List ℕ) (s : State) (ds : List Transition) (v : ℕ) (b : BallotAt) (i : ℕ) → IsRun key s ds → has_ballot s.casts key v b i ≡ cast_in (seen_after unused ds) v b i
ballot_same key s ds v b i run = both_ways (has_ballot s.casts key v b i) (cast_in (seen_after unused ds) v b i)
    (λ h. let k = ballot_found s.casts key v b i h in seen_ballot (seen_after unused ds) v b k.0 i (sym (run.casts v b k.0 i) ∙ k.1))
    (λ h. let k = ballot_seen (seen_after unused ds) v b i h in ballot_from s.casts key v b k.0 i (run.casts v b k.0 i ∙ k.1))

-- what is known of an object's run in a world whose sites tell
pub record IsToldRun (key : List ℕ) (s : State) (ds : List Transition) : Type 0 where
  pub run : IsRun key s ds
  pub tells : AllTell s
  pub listed : AreCallsListed s
  pub carries : AreCarried s
  pub placed : ArePlaced s

row_same : (key : List ℕ) (s : State) (ds : List Transition) (i : ℕ) → IsToldRun key s ds → i < s.cfg.n → acceptor_at s key i ≡ acceptor_of ((after_transitions unused ds).stored i)
row_same key s ds i k l = acceptor_same key s ds i (s.sites i) k.run refl (k.tells i l)

voted_same : (key : List ℕ) (s : State) (ds : List Transition) (v : ℕ) (b : BallotAt) (x : Name) (i : ℕ) → IsToldRun key s ds → i < s.cfg.n → has_voted s key v b x i ≡ votes (ledger_of (after_transitions unused ds)) v b x i
voted_same key s ds v b x i k l =
    ap (λ (a : Acceptor). slot_votes (a v) b x || has_cast s.casts key v b x i) (row_same key s ds i k l) ∙ ap (λ t. slot_votes (acceptor_of ((after_transitions unused ds).stored i) v) b x || t) (k.run.casts v b x i)

voted_in_same : (key : List ℕ) (s : State) (ds : List Transition) (v : ℕ) (b : BallotAt) (i : ℕ) → IsToldRun key s ds → i < s.cfg.n → has_voted_in s key v b i ≡ site_voted (ledger_of (after_transitions unused ds)) v b i
voted_in_same key s ds v b i k l =
    ap (λ (a : Acceptor). slot_voted (a v) b || has_ballot s.casts key v b i) (row_same key s ds i k l) ∙ ap (λ t. slot_voted (acceptor_of ((after_transitions unused ds).stored i) v) b || t) (ballot_same key s ds v b i k.run)

stands_same : (key : List ℕ) (s : State) (ds : List Transition) (v : ℕ) (b : BallotAt) (x : Name) (i : ℕ) → IsToldRun key s ds → i < s.cfg.n → stands_for s key v b x i ≡ standing_votes (ledger_of (after_transitions unused ds)) v b x i
stands_same key s ds v b x i k l =
    let st = after_transitions unused ds in
    ap (λ (a : Acceptor). has_voted s key v b x i || (not (has_voted_in s key v b i) && slot_lets (a v) b)) (row_same key s ds i k l)
    ∙ ap (λ t. t || (not (has_voted_in s key v b i) && slot_lets (acceptor_of (st.stored i) v) b)) (voted_same key s ds v b x i k l)
    ∙ ap (λ t. votes (ledger_of st) v b x i || (not t && slot_lets (acceptor_of (st.stored i) v) b)) (voted_in_same key s ds v b i k l)

-- what is safe by the store is safe in the world
safe_same : (key : List ℕ) (s : State) (ds : List Transition) (v : ℕ) (b : BallotAt) (x : Name) → IsToldRun key s ds → IsSafe s.cfg.n s.cfg.qc s.cfg.qf (standing_votes (ledger_of (after_transitions unused ds)) v) b x → IsSafe s.cfg.n s.cfg.qc s.cfg.qf (stands_for s key v) b x
safe_same key s ds v b x k safe = λ c y below enough.
    let fewer = count_within s.cfg.n (stands_for s key v c y) (standing_votes (ledger_of (after_transitions unused ds)) v c y) (λ i l h. sym (stands_same key s ds v c y i k l) ∙ h) in
    safe c y below (omega (arith, enough, fewer))

-- what is chosen by the votes that were cast is chosen by those that were shown
pub chosen_seen : (key : List ℕ) (s : State) (ds : List Transition) (v : ℕ) (x : Name) → IsRun key s ds → IsChosen s.cfg s.casts key v x → IsChosenAt s.cfg (seen_after unused ds) v x
chosen_seen key s ds v x run h =
    let more = count_weaker s.cfg.n (has_cast s.casts key v h.0 x) (cast (seen_after unused ds) v h.0 x) (λ i e. sym (run.casts v h.0 x i) ∙ e) in
    let enough = h.1 in
    (h.0, omega (arith, more, enough))

pub seen_chosen : (key : List ℕ) (s : State) (ds : List Transition) (v : ℕ) (x : Name) → IsRun key s ds → IsChosenAt s.cfg (seen_after unused ds) v x → IsChosen s.cfg s.casts key v x
seen_chosen key s ds v x run h =
    let more = count_weaker s.cfg.n (cast (seen_after unused ds) v h.0 x) (has_cast s.casts key v h.0 x) (λ i e. run.casts v h.0 x i ∙ e) in
    let enough = h.1 in
    (h.0, omega (arith, more, enough))

-- what is shown to a call of the object is shown
shown_in : (key : List ℕ) (s : State) (ds : List Transition) (session v : ℕ) (x : Name) (ts : List Trace) → IsRun key s ds → AllKeepRules s.cfg session ts → TracesCarried s.cfg.n s.net ts → IsShownTo s.cfg key v x ts → IsShownByRows s.cfg (seen_after unused ds) v x
shown_in key s ds session v x [] run told carried h = absurd h
shown_in key s ds session v x (t ∷ ts) run told carried (inl h) = trace_shown s.cfg ds t.actions v x (actions_stand key s.net (after_transitions unused ds) s.cfg t.caller ts t.actions run.requests h.0 told.0.allowed carried.0) h.1
shown_in key s ds session v x (t ∷ ts) run told carried (inr h) = shown_in key s ds session v x ts run told.2 carried.1 h

-- a step that a call of the object sent is a write of the store
sent_in : (key : List ℕ) (s : State) (ds : List Transition) (session : ℕ) (act : Act) (ts : List Trace) → IsRun key s ds → AllKeepRules s.cfg session ts → TracesCarried s.cfg.n s.net ts → IsSentIn key act ts → (q : Write) × (IsIn q (sent_after unused ds) × (q.act ≡ act))
sent_in key s ds session act [] run told carried h = absurd h
sent_in key s ds session act (t ∷ ts) run told carried (inl h) =
    let k = sent_asked key s.net (after_transitions unused ds) s.cfg t.caller ts t.actions act run.requests h.0 told.0.allowed carried.0 h.1 in
    (k.0, (k.1.0, k.1.1.1))
sent_in key s ds session act (t ∷ ts) run told carried (inr h) = sent_in key s ds session act ts run told.2 carried.1 h

-- what the answer of a call names is shown to it
shown_to_call : (c : Config) (call : CallRec) (v : ℕ) (x : Name) (ts : List Trace) → IsAmong c call ts → shows call.answer ≡ Some v → names call.name call.answer ≡ Some x → IsShownToCall c call.name v x ts
shown_to_call c call v x [] h show named = absurd h
shown_to_call c call v x (t ∷ ts) (inl h) show named =
    let name : t.caller.name ≡ call.name = h.name_is in
    let own : names t.caller.name call.answer ≡ Some x = ap (λ (y : Name). names y call.answer) name ∙ named in
    inl (name, answer_names c ts t call.answer v x (subst (IsAnswered c ts t) h.answer h.told.answered) show own)
shown_to_call c call v x (t ∷ ts) (inr h) show named = inr (shown_to_call c call v x ts h show named)

pub are_agreed : (key : List ℕ) (s : State) (ds : List Transition) → IsToldRun key s ds → AreAgreed key s
are_agreed key s ds k =
    let l = ledger_of (after_transitions unused ds) in
    let a = agreed key s ds k.placed k.run in
    record {
      sent = λ session v b x h.
          let q = sent_in key s ds session (VotesClassic v b x) (s.traces session) k.run (k.listed.told session) (k.carries session) h in
          safe_same key s ds v b x k (a.safe q.0 v b x q.1.0 q.1.1);
      standing = λ v i b x l classic h. safe_same key s ds v b x k (a.standing v b x i classic (sym (voted_same key s ds v b x i k l) ∙ h));
      chained = λ v i b x positive h.
          let next : v + 1 ≡ suc v = omega arith in
          let y = a.chained v b x i positive (subst (λ u. cast (seen_after unused ds) u b x i ≡ true) next (sym (k.run.casts (v + 1) b x i) ∙ h)) in
          (y.0, seen_chosen key s ds v y.0 k.run y.1);
      founded = λ v i positive below h.
          let next : v + 1 ≡ suc v = omega arith in
          let y = a.founded v i positive (subst (λ (r : Acceptor). HasValue (r (suc v))) (row_same key s ds i k below) (subst (λ u. HasValue (acceptor_at s key i u)) next h)) in
          (y.0, seen_chosen key s ds v y.0 k.run y.1);
      decided = λ v i x below e. seen_chosen key s ds v x k.run (a.decided v i x (sym (ap (λ (r : Acceptor). r v) (row_same key s ds i k below)) ∙ e));
      chosen = λ v x h. seen_chosen key s ds v x k.run (a.chosen v x (shown_in key s ds h.0 v x (s.traces h.0) k.run (k.listed.told h.0) (k.carries h.0) h.1)).0;
      one = λ v x y h g. a.one v x y (inl (chosen_seen key s ds v x k.run h)) (inl (chosen_seen key s ds v y k.run g));
      once = λ u v x h g. a.once u v x (inl (chosen_seen key s ds u x k.run h)) (inl (chosen_seen key s ds v x k.run g));
      backed = λ v x h.
          let enough = a.backed v x (inl (chosen_seen key s ds v x k.run h)) in
          let more = count_within s.cfg.n (backs l v x) (λ i. slot_backs (acceptor_at s key i v) x) (λ i below e. ap (λ (r : Acceptor). slot_backs (r v) x) (row_same key s ds i k below) ∙ e) in
          omega (arith, enough, more);
      answers = λ i v call x at own show named. (
        shown_to_call s.cfg call v x (s.traces call.name.session) (k.listed.traces i call at) show named,
        seen_chosen key s ds v x k.run (a.chosen v x ((call_told key s ds call v (call_trace key s ds i call k.run k.listed k.carries at own) show).named x named)).0,
      );
    }

pub agreement : (key : List ℕ) (s : State) → IsReached s → AllTell s → AreAgreed key s
agreement key s reached tells =
    let k = runs key s reached tells in
    are_agreed key s k.0 (record { run = k.1; tells = tells; listed = listed s reached; carries = carried s reached; placed = placed s reached })
