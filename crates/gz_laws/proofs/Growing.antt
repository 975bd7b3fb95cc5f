-- What a client sends at one event grows the store of its object by transitions of the machine of agreement.
use Rattle.std.proofs.Common.{◌≡◌, ◌≢◌, ℕ, zero, suc, ◌+◌, ◌⊎◌, ◌≤◌, Bool, true, false, inl, inr, List, [], ◌∷◌, ◌++◌, Option, Some, None, refl, ap, sym, ◌∙◌, subst, arith}
use Rattle.std.specs.Prelude.{if◌then◌else◌, slice_get}
use Rattle.std.proofs.lemmas.Bool.{false≢true}
use Rattle.gz_core.specs.Names.{Name, BallotAt, fast, same_name}
use Rattle.gz_core.specs.Values.{name_of}
use Rattle.gz_core.specs.Rows.{RowAt, column_in, IsRow}
use Rattle.gz_core.specs.Slots.{Act, Promises, act_of, slots, slot_of, slot_vote}
use Rattle.gz_core.specs.declared.rows.Column.{Column}
use Rattle.gz_core.specs.declared.rows.Column.TheVariants.{Open, Decided}
use Rattle.gz_core.proofs.Ballots.{name_refl, below_never}
use Rattle.gz_core.proofs.Counting.{count_found}
use Rattle.gz_core.proofs.Quorums.{need_some}
use Rattle.gz_pick.specs.Evidences.{votes_for, decides, is_for}
use Rattle.gz_config.specs.declared.Config.{Config}
use Rattle.gz_core.specs.declared.requests.RowStep.{RowStep}
use Rattle.gz_core.specs.declared.requests.RowStep.TheVariants.{FastVote, Promise, ClassicVote, Decide, Trim}
use Rattle.gz_core.specs.declared.requests.Op.{Op}
use Rattle.gz_core.specs.declared.requests.Op.TheVariants.{ReadRow, WriteRow}
use Rattle.gz_core.specs.declared.requests.Out.{Out}
use Rattle.gz_accept.specs.Steps.{IsOpenSlot, vote_in}
use Rattle.gz_accept.proofs.Making.{makes_fast, makes_promise, makes_classic, makes_decision, makes_trim, promise_rule}
use Rattle.gz_accept.proofs.Rising.{row_with, row_trimmed}
use Rattle.gz_core.specs.History.{Action, Sent, Caller, Trace, asked_of, sent_from}
use Rattle.gz_data.specs.Own.{IsOwn}
use Rattle.gz_round.specs.Shown.{IsShown}
use Rattle.gz_round.specs.Sites.{SiteNow, site_now, some_heard}
use Rattle.gz_round.specs.Sending.{AreAllowed, MayMake, IsMade}
use Rattle.gz_laws.proofs.Asking.{MayAskRow, row_asked}
use Rattle.gz_history.specs.Answers.{IsWrite}
use Rattle.gz_ledger.specs.Histories.{RowSeen, Write, IsIn, IsProposed, VotesFor}
use Rattle.gz_ledger.specs.Agreements.{HasQuorums}
use Rattle.gz_ledger.specs.Transitions.{Store, Transition, Begins, WriteSent, AreTransitions, after_transitions, writes_of, late_rows, sent_after, AreCurrentTransitions}
use Rattle.gz_ledger.proofs.Shown.{current_more}
use Rattle.gz_laws.specs.Begun.{begins_of, step_sent, sends_of}
use Rattle.gz_laws.specs.Heard.{unused, heard_of, ActionsStand, IsStepSent, SentStep, PastStep, Keeps, AskedHere}
use Rattle.gz_laws.specs.Rows.{IfWritten}
use Rattle.gz_laws.proofs.Hearing.{IsLastRow, decision_there, heard_found, heard_known, last_stands, stand_more}
use Rattle.gz_laws.proofs.Keys.{name_apart}
use Rattle.gz_laws.proofs.RowRules.{there_above, column_above}
use Rattle.gz_laws.proofs.Sending.{step_makes}
use Rattle.gz_laws.proofs.Guarding.{may_send}
use Rattle.gz_laws.proofs.Currents.{own_current}

-- what a store keeps when requests alone are added to it
pub record OnlyAsks (old new : Store) : Type 0 where
  pub stored : (s : ℕ) → new.stored s ≡ old.stored s
  pub used : (s : ℕ) → new.used s ≡ old.used s
  pub replies : new.replies ≡ old.replies
  pub asked : (q : WriteSent) → IsIn q old.asked → IsIn q new.asked

pub only_itself : (st : Store) → OnlyAsks st st
only_itself st = record { stored = λ s. refl; used = λ s. refl; replies = refl; asked = λ q h. h }

pub only_then : (a b c : Store) → OnlyAsks a b → OnlyAsks b c → OnlyAsks a c
only_then a b c p q = record { stored = λ s. q.stored s ∙ p.stored s; used = λ s. q.used s ∙ p.used s; replies = q.replies ∙ p.replies; asked = λ k h. q.asked k (p.asked k h) }

-- a version at which a row has a column is above 0
pub first_seen : (row : RowAt) (v : ℕ) → IsRow row → column_in row.columns v ≢ None → 1 ≤ v
first_seen row v rule there = let above = column_above row v rule there in omega (arith, above)

vote_there : (b : BallotAt) (x : Name) (o : Option Column) → is_for b x (slot_vote (slot_of o)) ≡ true → o ≢ None
vote_there b x None h = λ e. absurd (false≢true h)
vote_there b x (Some column) h = λ e. cc

-- a version at which a value is shown is above 0
first_shown : (c : Config) (st : Store) (ms : List Action) (v : ℕ) (x : Name) → HasQuorums c → ActionsStand st ms → IsShown c ms v x → 1 ≤ v
first_shown c st ms v x quorums stands (inl k) =
    let votes : RowAt → Bool = λ r. votes_for k.0 x v (Some r) in
    let enough = k.1 in
    let f = count_found c.n (some_heard votes ms) (omega (arith, enough, need_some c.n c.qc c.qf k.0 quorums)) in
    let g = heard_found st votes ms f.0 stands f.2 in
    first_seen g.0 v g.1.0 (vote_there k.0 x (column_in g.0.columns v) g.1.1.0)
first_shown c st ms v x quorums stands (inr k) =
    let decided : RowAt → Bool = λ r. decides x v (Some r) in
    let f = count_found c.n (some_heard decided ms) k in
    let g = heard_found st decided ms f.0 stands f.2 in
    first_seen g.0 v g.1.0 (decision_there x (column_in g.0.columns v) g.1.1.0)

-- a row that a step changes keeps the rule of rows
pub row_made : (c : Config) (w : Caller) (past : List Trace) (ms : List Action) (step : RowStep) (old new : RowAt) → ((v : ℕ) (x : Name) → IsShown c ms v x → 1 ≤ v) → MayMake c w past ms step → IsMade step old new → IsRow old → IsRow new
row_made c w past ms (FastVote v x) old new first may m rule =
    let made = makes_fast old v x m.0 in
    subst IsRow (sym m.1) (row_with old v (Open fast (Some (record { ballot = fast; value = x }))) rule may.1.above (below_never fast) (subst IsOpenSlot (sym made.0) tt))
row_made c w past ms (Promise v b) old new first may m rule =
    let made = makes_promise old v b m.0 in
    let vote = vote_in (column_in old.columns v) in
    subst IsRow (sym m.1) (row_with old v (Open b vote) rule may.above (promise_rule old v b vote rule may.classic m.0 refl) (subst IsOpenSlot (sym made.1.1.0) tt))
row_made c w past ms (ClassicVote v b x) old new first may m rule =
    let made = makes_classic old v b x m.0 in
    subst IsRow (sym m.1) (row_with old v (Open b (Some (record { ballot = b; value = x }))) rule may.above (below_never b) (subst IsOpenSlot (sym made.1.1.0) tt))
row_made c w past ms (Decide v x) old new first may m rule =
    let made = makes_decision old v x m.0 in
    subst IsRow (sym m.1) (row_with old v (Decided x) rule (first v (name_of x) may.0) tt (subst IsOpenSlot (sym made.1.1.0) tt))
row_made c w past ms (Trim to x) old new first may m rule =
    let made = makes_trim old to x m.0 in
    subst IsRow (sym m.1) (row_trimmed old to x rule (there_above old to may.above made.0))

pub here_more : (name : Name) (site : ℕ) (op : Op) (old new : Store) → OnlyAsks old new → AskedHere name site op old → AskedHere name site op new
here_more name site (WriteRow key expect step row) old new only h = (h.0, (h.1.0, only.asked h.0 h.1.1))
here_more name site op old new only h = tt

-- the transitions since a call began, with more of them: its first votes for its own value are still sent where rows are current
pub record GoesOn (c : Config) (call : Name) (early late more : List Transition) : Type 0 where
  pub later : List Transition
  pub split : more ≡ later ++ early
  pub current : AreCurrentTransitions c unused call later early
  pub rows : (e : RowSeen) → IsIn e (late_rows unused late early) → IsIn e (late_rows unused later early)

-- of the transitions of requests, those of the sending call need what it heard to be read since it began
abbrev pub GoOn : Config → Name → List Action → List Transition → List Transition → Type 0
GoOn c name ms ds more =
    (call : Name) (early late : List Transition) → ds ≡ late ++ early → AreCurrentTransitions c unused call late early → (call ≡ name → (e : RowSeen) → IsIn e (heard_of ms) → IsIn e (late_rows unused late early)) → GoesOn c call early late more

same_on : (c : Config) (name : Name) (ms : List Action) (ds : List Transition) → GoOn c name ms ds ds
same_on c name ms ds = λ call early late split current own. record { later = late; split = split; current = current; rows = λ e h. h }

-- a request that is sent is a transition of its own call
ask_on : (c : Config) (w : Caller) (past : List Trace) (ms : List Action) (ds : List Transition) (step : RowStep) (qa : WriteSent) → HasQuorums c → AreTransitions c unused ds → IsOwn c w.name w.call w.own → ActionsStand (after_transitions unused ds) ms → MayMake c w past ms step → qa.write.call ≡ w.name → qa.write.act ≡ act_of step
    → GoOn c w.name ms ds (Begins (heard_of ms) qa ∷ ds)
ask_on c w past ms ds step qa q are value stands may own is = λ call early late split current heard. record {
  later = Begins (heard_of ms) qa ∷ late;
  split = ap (λ (ks : List Transition). Begins (heard_of ms) qa ∷ ks) split;
  current = (
    current,
    λ same v votes.
        let name : call ≡ w.name = sym same ∙ own in
        let cast : VotesFor (act_of step) v w.name = subst (λ a. VotesFor a v w.name) is (subst (VotesFor qa.write.act v) name votes) in
        elim (own_current c w past ms ds step v q are value stands may cast) [
          | inl p ↦ inl (subst (λ (ks : List Transition). IsProposed (sent_after unused ks) v call) split (subst (IsProposed (sent_after unused ds) v) (sym name) p))
          | inr k ↦ inr (current_more c (heard_of ms) (late_rows unused late early) v (heard name) k.1)
        ],
  );
  rows = λ e h. h;
}

-- a vote for the call's own value follows one that it sent before, or the call is a write
abbrev pub IsOwnVote : Caller → List Transition → Act → Type 0
IsOwnVote w ds act = (v : ℕ) → VotesFor act v w.name → IsProposed (sent_after unused ds) v w.name ⊎ IsWrite w.call

-- a write is the one of a request that the call sends
abbrev pub IsNewOf : Caller → List Transition → Op → Write → Type 0
IsNewOf w ds op q = (q.call ≡ w.name) × (IsStepSent op q.act × IsOwnVote w ds q.act)

-- the transitions of one request that is sent
pub record Asks (c : Config) (w : Caller) (past : List Trace) (ms : List Action) (ds : List Transition) (site : ℕ) (op : Op) (more : List Transition) : Type 0 where
  pub are : AreTransitions c unused more
  pub only : OnlyAsks (after_transitions unused ds) (after_transitions unused more)
  pub own : (q : Write) → IsIn q (writes_of (after_transitions unused more).asked) → q.call ≡ w.name → IsStepSent op q.act ⊎ SentStep ms q.act
  pub asked : (act : Act) → IsStepSent op act ⊎ SentStep ms act → (q : Write) × (IsIn q (writes_of (after_transitions unused more).asked) × ((q.call ≡ w.name) × (q.act ≡ act)))
  pub drawn : (q : Write) (v : ℕ) (b : BallotAt) → IsIn q (writes_of (after_transitions unused more).asked) → q.act ≡ Promises v b → b.session ≡ q.call.session
  pub others : (q : Write) → IsIn q (writes_of (after_transitions unused more).asked) → q.call.session ≡ w.name.session → (q.call ≡ w.name) ⊎ PastStep past q.act
  pub here : AskedHere w.name site op (after_transitions unused more)
  pub rule : IfWritten IsRow op
  pub from : (q : Write) → IsIn q (writes_of (after_transitions unused more).asked) → IsIn q (writes_of (after_transitions unused ds).asked) ⊎ IsNewOf w ds op q
  pub begun : (x : Name) → begins_of x more ≡ (if same_name w.name x then step_sent op (heard_of ms) (begins_of x ds) else begins_of x ds)
  pub on : GoOn c w.name ms ds more

-- a request that writes no row
pub record IsNoWrite (op : Op) : Type 0 where
  pub steps : (act : Act) → IsStepSent op act → ⊥
  pub here : (name : Name) (site : ℕ) (st : Store) → AskedHere name site op st
  pub rule : IfWritten IsRow op
  pub begun : (heard : List RowSeen) (rest : List (List RowSeen × Act)) → step_sent op heard rest ≡ rest

-- begins none
none_begun : (b : Bool) (op : Op) (heard : List RowSeen) (xs : List (List RowSeen × Act)) → step_sent op heard xs ≡ xs → xs ≡ (if b then step_sent op heard xs else xs)
none_begun true op heard xs e = sym e
none_begun false op heard xs e = refl

pub step_drawn : (c : Config) (w : Caller) (past : List Trace) (ms : List Action) (step : RowStep) (v : ℕ) (b : BallotAt) → MayMake c w past ms step → act_of step ≡ Promises v b → b.session ≡ w.name.session
step_drawn c w past ms (FastVote u x) v b may e = cc
step_drawn c w past ms (Promise u d) v b may e = let k : d ≡ b = cc in ap (λ (q : BallotAt). q.session) (sym k) ∙ may.session
step_drawn c w past ms (ClassicVote u d x) v b may e = cc
step_drawn c w past ms (Decide u x) v b may e = cc
step_drawn c w past ms (Trim to x) v b may e = cc

write_own : (c : Config) (w : Caller) (past : List Trace) (ms : List Action) (ds : List Transition) (step : RowStep) (wr q : Write) → Keeps c w past ms (after_transitions unused ds) → wr.act ≡ act_of step → IsIn q (wr ∷ writes_of (after_transitions unused ds).asked) → q.call ≡ w.name → (act_of step ≡ q.act) ⊎ SentStep ms q.act
write_own c w past ms ds step wr q keeps is (inl e) same = inl (sym is ∙ ap (λ (k : Write). k.act) (sym e))
write_own c w past ms ds step wr q keeps is (inr h) same = inr (keeps.own q h same)

write_asked : (c : Config) (w : Caller) (past : List Trace) (ms : List Action) (ds : List Transition) (step : RowStep) (wr : Write) (act : Act) → Keeps c w past ms (after_transitions unused ds) → wr.call ≡ w.name → wr.act ≡ act_of step → (act_of step ≡ act) ⊎ SentStep ms act → (q : Write) × (IsIn q (wr ∷ writes_of (after_transitions unused ds).asked) × ((q.call ≡ w.name) × (q.act ≡ act)))
write_asked c w past ms ds step wr act keeps own is (inl e) = (wr, (inl refl, (own, is ∙ e)))
write_asked c w past ms ds step wr act keeps own is (inr h) = let k = keeps.asked act h in (k.0, (inr k.1.0, k.1.1))

write_drawn : (c : Config) (w : Caller) (past : List Trace) (ms : List Action) (ds : List Transition) (step : RowStep) (wr q : Write) (v : ℕ) (b : BallotAt) → Keeps c w past ms (after_transitions unused ds) → MayMake c w past ms step → wr.call ≡ w.name → wr.act ≡ act_of step → IsIn q (wr ∷ writes_of (after_transitions unused ds).asked) → q.act ≡ Promises v b → b.session ≡ q.call.session
write_drawn c w past ms ds step wr q v b keeps guard own is (inl e) act =
    let promised : act_of step ≡ Promises v b = sym is ∙ ap (λ (k : Write). k.act) (sym e) ∙ act in
    step_drawn c w past ms step v b guard promised ∙ ap (λ (k : Name). k.session) (sym own ∙ ap (λ (k : Write). k.call) (sym e))
write_drawn c w past ms ds step wr q v b keeps guard own is (inr h) act = keeps.drawn q v b h act

write_others : (c : Config) (w : Caller) (past : List Trace) (ms : List Action) (ds : List Transition) (wr q : Write) → Keeps c w past ms (after_transitions unused ds) → wr.call ≡ w.name → IsIn q (wr ∷ writes_of (after_transitions unused ds).asked) → q.call.session ≡ w.name.session → (q.call ≡ w.name) ⊎ PastStep past q.act
write_others c w past ms ds wr q keeps own (inl e) same = inl (ap (λ (k : Write). k.call) e ∙ own)
write_others c w past ms ds wr q keeps own (inr h) same = keeps.others q h same

write_from : (c : Config) (w : Caller) (past : List Trace) (ms : List Action) (ds : List Transition) (step : RowStep) (wr q : Write) → HasQuorums c → AreTransitions c unused ds → IsOwn c w.name w.call w.own → ActionsStand (after_transitions unused ds) ms → MayMake c w past ms step → wr.call ≡ w.name → wr.act ≡ act_of step
    → IsIn q (wr ∷ writes_of (after_transitions unused ds).asked) → IsIn q (writes_of (after_transitions unused ds).asked) ⊎ ((q.call ≡ w.name) × ((act_of step ≡ q.act) × IsOwnVote w ds q.act))
write_from c w past ms ds step wr q quorums are value stands may own is (inl e) =
    let call : q.call ≡ w.name = ap (λ (k : Write). k.call) e ∙ own in
    let act : act_of step ≡ q.act = sym is ∙ ap (λ (k : Write). k.act) (sym e) in
    inr (call, (act, λ v votes. elim (own_current c w past ms ds step v quorums are value stands may (subst (λ a. VotesFor a v w.name) (sym act) votes)) [ inl p ↦ inl p | inr k ↦ inr k.0 ]))
write_from c w past ms ds step wr q quorums are value stands may own is (inr h) = inl h

-- a request that writes no row is no transition
unasked : (c : Config) (w : Caller) (past : List Trace) (ms : List Action) (ds : List Transition) (site : ℕ) (op : Op) → AreTransitions c unused ds → Keeps c w past ms (after_transitions unused ds) → IsNoWrite op → Asks c w past ms ds site op ds
unasked c w past ms ds site op are keeps none = record {
  are = are;
  only = only_itself (after_transitions unused ds);
  own = λ q h e. inr (keeps.own q h e);
  asked = λ act h. elim h [ inl is ↦ absurd (none.steps act is) | inr before ↦ keeps.asked act before ];
  drawn = keeps.drawn;
  others = keeps.others;
  here = none.here w.name site (after_transitions unused ds);
  rule = none.rule;
  from = λ q h. inl h;
  begun = λ x. none_begun (same_name w.name x) op (heard_of ms) (begins_of x ds) (none.begun (heard_of ms) (begins_of x ds));
  on = same_on c w.name ms ds;
}

ask_op : (c : Config) (w : Caller) (past : List Trace) (ms : List Action) (ds : List Transition) (site : ℕ) (now : SiteNow) (op : Op) → HasQuorums c → AreTransitions c unused ds → Keeps c w past ms (after_transitions unused ds) → AreAllowed c w past ms
    → IsLastRow (after_transitions unused ds) site now.row → MayAskRow c w past ms now op → (more : List Transition) × Asks c w past ms ds site op more
ask_op c w past ms ds site now (ReadRow key) quorums are keeps allowed last may = (ds, unasked c w past ms ds site (ReadRow key) are keeps (record { steps = λ act h. h; here = λ name s st. tt; rule = tt; begun = λ heard rest. refl }))
ask_op c w past ms ds site now (WriteRow key expect step row) quorums are keeps allowed last may =
    let m = (may refl).1 in
    let known = last (record { etag = expect; row = m.before }) m.last in
    let wr : Write = record { call = w.name; site = site; before = slots m.before; act = act_of step; after = slots row } in
    let qa : WriteSent = record { expect = expect; write = wr } in (
      Begins (heard_of ms) qa ∷ ds,
      record {
        are = (
          are,
          record {
            known = λ e h. heard_known (after_transitions unused ds) ms e keeps.stands h;
            shown = known.1;
            makes = step_makes step m.before row m.made;
            may = may_send c w past ms (after_transitions unused ds) step keeps allowed m.guard;
          },
        );
        only = record { stored = λ s. refl; used = λ s. refl; replies = refl; asked = λ q h. inr h };
        own = λ q h e. write_own c w past ms ds step wr q keeps refl h e;
        asked = λ act h. write_asked c w past ms ds step wr act keeps refl refl h;
        drawn = λ q v b h is. write_drawn c w past ms ds step wr q v b keeps m.guard refl refl h is;
        others = λ q h e. write_others c w past ms ds wr q keeps refl h e;
        here = (qa, ((slots m.before, refl), inl refl));
        rule = row_made c w past ms step m.before row (λ v x. first_shown c (after_transitions unused ds) ms v x quorums keeps.stands) m.guard m.made known.0;
        from = λ q h. write_from c w past ms ds step wr q quorums are keeps.value keeps.stands m.guard refl refl h;
        begun = λ x. refl;
        on = ask_on c w past ms ds step qa quorums are keeps.value keeps.stands m.guard refl refl;
      },
    )
ask_op c w past ms ds site now op quorums are keeps allowed last may = (ds, unasked c w past ms ds site op are keeps (record { steps = λ act h. h; here = λ name s st. tt; rule = tt; begun = λ heard rest. refl }))

-- the writes that a call began are those that it sends, and no other call's have changed
pub record HasBegun (name : Name) (first : ℕ) (outs : List Out) (ms : List Action) (ds more : List Transition) : Type 0 where
  pub others : (x : Name) → (name ≡ x → ⊥) → begins_of x more ≡ begins_of x ds
  pub own : begins_of name ds ≡ sends_of ms → begins_of name more ≡ sends_of (sent_from first outs ms)

begun_then : (c : Config) (w : Caller) (past : List Trace) (first : ℕ) (out : Out) (outs : List Out) (ms : List Action) (ds mid more : List Transition) → Asks c w past ms ds out.site out.op mid → HasBegun w.name (first + 1) outs (Sent (asked_of first out) ∷ ms) mid more → HasBegun w.name first (out ∷ outs) ms ds more
begun_then c w past first out outs ms ds mid more one rest = record {
  others = λ x apart. rest.others x apart ∙ one.begun x ∙ ap (λ b. if b then step_sent out.op (heard_of ms) (begins_of x ds) else begins_of x ds) (name_apart w.name x apart);
  own = λ e. rest.own (one.begun w.name ∙ ap (λ b. if b then step_sent out.op (heard_of ms) (begins_of w.name ds) else begins_of w.name ds) (name_refl w.name) ∙ ap (step_sent out.op (heard_of ms)) e);
}

-- the transitions of the requests that are sent at one event
pub record Sends (c : Config) (w : Caller) (past : List Trace) (first : ℕ) (outs : List Out) (ms : List Action) (ds more : List Transition) : Type 0 where
  pub are : AreTransitions c unused more
  pub only : OnlyAsks (after_transitions unused ds) (after_transitions unused more)
  pub keeps : Keeps c w past (sent_from first outs ms) (after_transitions unused more)
  pub here : (j : ℕ) (o : Out) → slice_get outs j ≡ Some o → AskedHere w.name o.site o.op (after_transitions unused more) × IfWritten IsRow o.op
  pub from : (q : Write) → IsIn q (writes_of (after_transitions unused more).asked) → IsIn q (writes_of (after_transitions unused ds).asked) ⊎ ((q.call ≡ w.name) × IsOwnVote w ds q.act)
  pub begun : HasBegun w.name first outs ms ds more
  pub on : GoOn c w.name ms ds more

pub allowed_base : (c : Config) (w : Caller) (past : List Trace) (first : ℕ) (outs : List Out) (ms : List Action) → AreAllowed c w past (sent_from first outs ms) → AreAllowed c w past ms
allowed_base c w past first [] ms h = h
allowed_base c w past first (o ∷ os) ms h = (allowed_base c w past (first + 1) os (Sent (asked_of first o) ∷ ms) h).1

here_cons : (name : Name) (st : Store) (out : Out) (outs : List Out) → AskedHere name out.site out.op st × IfWritten IsRow out.op → ((j : ℕ) (o : Out) → slice_get outs j ≡ Some o → AskedHere name o.site o.op st × IfWritten IsRow o.op)
    → (j : ℕ) (o : Out) → slice_get (out ∷ outs) j ≡ Some o → AskedHere name o.site o.op st × IfWritten IsRow o.op
here_cons name st out outs one more zero o e = let p : out ≡ o = cc in subst (λ (k : Out). AskedHere name k.site k.op st × IfWritten IsRow k.op) p one
here_cons name st out outs one more (suc j) o e = more j o e

on_then : (c : Config) (name : Name) (ms : List Action) (ds mid more : List Transition) → GoOn c name ms ds mid → GoOn c name ms mid more → GoOn c name ms ds more
on_then c name ms ds mid more f g = λ call early late split current own.
    let a = f call early late split current own in
    let b = g call early a.later a.split a.current (λ same e h. a.rows e (own same e h)) in
    record { later = b.later; split = b.split; current = b.current; rows = λ e h. b.rows e (a.rows e h) }

-- a write of the call that voted for its own value before is of a write where that one was
write_before : (c : Config) (w : Caller) (past : List Trace) (ms : List Action) (site : ℕ) (op : Op) (ds mid : List Transition) (v : ℕ) (act : Act) → Asks c w past ms ds site op mid → IsProposed (sent_after unused mid) v w.name → IsProposed (sent_after unused ds) v w.name ⊎ IsWrite w.call
write_before c w past ms site op ds mid v act one p = elim (one.from p.write p.found) [
  | inl h ↦ inl (record { write = p.write; found = h; own = p.own; votes = p.votes })
  | inr h ↦ h.1.1 v p.votes
]

sent_new : (c : Config) (w : Caller) (past : List Trace) (ms : List Action) (site : ℕ) (op : Op) (ds mid : List Transition) → Asks c w past ms ds site op mid → (q : Write) → IsIn q (writes_of (after_transitions unused mid).asked) ⊎ ((q.call ≡ w.name) × IsOwnVote w mid q.act) → IsIn q (writes_of (after_transitions unused ds).asked) ⊎ ((q.call ≡ w.name) × IsOwnVote w ds q.act)
sent_new c w past ms site op ds mid one q (inl h) = elim (one.from q h) [ inl e ↦ inl e | inr e ↦ inr (e.0, e.1.1) ]
sent_new c w past ms site op ds mid one q (inr h) = inr (h.0, λ v votes. elim (h.1 v votes) [ inl p ↦ write_before c w past ms site op ds mid v q.act one p | inr k ↦ inr k ])

pub sends : (c : Config) (w : Caller) (past : List Trace) (first : ℕ) (outs : List Out) (ms : List Action) (ds : List Transition) → HasQuorums c → AreTransitions c unused ds → Keeps c w past ms (after_transitions unused ds) → AreAllowed c w past (sent_from first outs ms) → (more : List Transition) × Sends c w past first outs ms ds more
sends c w past first [] ms ds quorums are keeps allowed = (ds, record { are = are; only = only_itself (after_transitions unused ds); keeps = keeps; here = λ j o e. cc; from = λ q h. inl h; begun = record { others = λ x apart. refl; own = λ e. e }; on = same_on c w.name ms ds })
sends c w past first (out ∷ outs) ms ds quorums are keeps allowed =
    let a = asked_of first out in
    let base = allowed_base c w past (first + 1) outs (Sent a ∷ ms) allowed in
    let k = ask_op c w past ms ds out.site (site_now ms out.site) out.op quorums are keeps base.1 (last_stands (after_transitions unused ds) ms out.site keeps.stands) (row_asked c w past ms a base.0) in
    let one = k.1 in
    let stands : ActionsStand (after_transitions unused k.0) (Sent a ∷ ms) = (tt, stand_more (after_transitions unused ds) (after_transitions unused k.0) ms (λ r h. subst (IsIn r) (sym one.only.replies) h) keeps.stands) in
    let now : Keeps c w past (Sent a ∷ ms) (after_transitions unused k.0) = record { value = keeps.value; stands = stands; own = one.own; asked = one.asked; drawn = one.drawn; others = one.others } in
    let r = sends c w past (first + 1) outs (Sent a ∷ ms) k.0 quorums one.are now allowed in
    let rest = r.1 in (
      r.0,
      record {
        are = rest.are;
        only = only_then (after_transitions unused ds) (after_transitions unused k.0) (after_transitions unused r.0) one.only rest.only;
        keeps = rest.keeps;
        here = here_cons w.name (after_transitions unused r.0) out outs (here_more w.name out.site out.op (after_transitions unused k.0) (after_transitions unused r.0) rest.only one.here, one.rule) rest.here;
        from = λ q h. sent_new c w past ms out.site out.op ds k.0 one q (rest.from q h);
        begun = begun_then c w past first out outs ms ds k.0 r.0 one rest.begun;
        on = on_then c w.name ms ds k.0 r.0 one.on rest.on;
      },
    )
