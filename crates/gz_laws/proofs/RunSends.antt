-- What a session's turn sends keeps the run of each object.
use Rattle.std.proofs.Common.{◌≡◌, ℕ, zero, suc, ◌+◌, ◌⊎◌, inl, inr, List, [], ◌∷◌, ◌++◌, Some, None, true, refl, ap, sym, ◌∙◌, subst}
use Rattle.std.proofs.lemmas.Bool.{cases_eq}
use Rattle.std.specs.Prelude.{Option, slice_get, slice_set}
use Rattle.gz_core.specs.Names.{Name}
use Rattle.gz_core.specs.Calls.{key_of}
use Rattle.gz_core.specs.Slots.{Act}
use Rattle.gz_core.specs.declared.calls.Answer.{Answer}
use Rattle.gz_config.specs.declared.Config.{Config}
use Rattle.gz_core.specs.declared.requests.Op.{Op}
use Rattle.gz_core.specs.declared.requests.Op.TheVariants.{WriteRow}
use Rattle.gz_core.specs.declared.requests.Out.{Out}
use Rattle.gz_core.specs.declared.requests.Reply.{Reply}
use Rattle.gz_round.specs.declared.hearing.Seen.{Seen}
use Rattle.gz_core.specs.History.{Action, Sent, Handed, GaveUp, Rested, GaveIn, Caller, Trace, asked_of, sent_from, is_row_request}
use Rattle.gz_core.specs.Rows.{IsRow}
use Rattle.gz_round.specs.Sites.{site_now, seen_in, heard_in, written_by}
use Rattle.gz_round.specs.Sending.{AreAllowed}
use Rattle.gz_history.specs.declared.record.CallRec.{CallRec}
use Rattle.gz_model.specs.Casts.{has_cast}
use Rattle.gz_ledger.specs.Histories.{RowSeen, Write, IsIn, cast}
use Rattle.gz_ledger.specs.Agreements.{HasQuorums}
use Rattle.gz_ledger.specs.Transitions.{Store, Transition, after_transitions, AreTransitions, rows_of, late_rows, sent_after, AreCurrentTransitions}
use Rattle.gz_laws.specs.Carried.{ActionsCarried}
use Rattle.gz_laws.specs.Begun.{begins_of, sends_of, IsBegunIn}
use Rattle.gz_laws.specs.Each.{EachTrace}
use Rattle.gz_laws.specs.Heard.{unused, seen_entry, heard_of, SentStep, Keeps, AskedHere}
use Rattle.gz_laws.specs.Runs.{key_asked, RequestStands, IsSentBy, IsRowIn, IsSince, IsRun}
use Rattle.gz_laws.specs.Rows.{IfWritten}
use Rattle.gz_world.specs.States.{RequestAt, State, numbered, sent_request}
use Rattle.gz_world.specs.Steps.{SitesStay, CallEnds, answered}
use Rattle.gz_laws.proofs.Growing.{OnlyAsks, only_itself, GoesOn, IsOwnVote, allowed_base, sends}
use Rattle.gz_laws.proofs.AsHeard.{of_reply, heard_case}
use Rattle.gz_laws.proofs.Asking.{row_asked}
use Rattle.gz_laws.proofs.Keeping.{asks_key, awaited_key}
use Rattle.gz_laws.proofs.Keys.{key_cases}
use Rattle.gz_world.proofs.Places.{get_set_same, get_set_other}
use Rattle.gz_laws.proofs.RunTools.{IsAlike, alike_stands, request_more}

-- a write that the call sends now
pub record IsOurs (key : List ℕ) (w : Caller) (ds : List Transition) (ms : List Action) (q : Write) : Type 0 where
  pub call : q.call ≡ w.name
  pub key_is : key_of w.call ≡ key
  pub sent : SentStep ms q.act
  pub vote : IsOwnVote w ds q.act

-- the transitions of an object when a call has sent its requests
pub record HasSent (c : Config) (key : List ℕ) (w : Caller) (first : ℕ) (outs : List Out) (ms : List Action) (ds more : List Transition) : Type 0 where
  pub transitions : AreTransitions c unused more
  pub only : OnlyAsks (after_transitions unused ds) (after_transitions unused more)
  pub here : (j : ℕ) (o : Out) → slice_get outs j ≡ Some o → key_asked o.op ≡ key → AskedHere w.name o.site o.op (after_transitions unused more) × IfWritten IsRow o.op
  pub from : (q : Write) → IsIn q (sent_after unused more) → IsIn q (sent_after unused ds) ⊎ IsOurs key w ds (sent_from first outs ms) q
  pub others : (x : Name) → (w.name ≡ x → ⊥) → begins_of x more ≡ begins_of x ds
  pub own : key_of w.call ≡ key → begins_of w.name ds ≡ sends_of ms → begins_of w.name more ≡ sends_of (sent_from first outs ms)
  pub on : (call : Name) (early late : List Transition) → ds ≡ late ++ early → AreCurrentTransitions c unused call late early → (call ≡ w.name → key_of w.call ≡ key → (e : RowSeen) → IsIn e (heard_of ms) → IsIn e (late_rows unused late early)) → GoesOn c call early late more

-- each request about a row is of the call's object
sends_key : (c : Config) (w : Caller) (past : List Trace) (first : ℕ) (outs : List Out) (ms : List Action) → AreAllowed c w past (sent_from first outs ms) → (j : ℕ) (o : Out) → slice_get outs j ≡ Some o → is_row_request o.op ≡ true → key_asked o.op ≡ key_of w.call
sends_key c w past first [] ms allowed j o e = cc
sends_key c w past first (out ∷ outs) ms allowed zero o e =
    let same : out ≡ o = cc in
    let a = asked_of first out in
    subst (λ (k : Out). is_row_request k.op ≡ true → key_asked k.op ≡ key_of w.call) same (asks_key c w past ms (site_now ms out.site) out.op (row_asked c w past ms a (allowed_base c w past (first + 1) outs (Sent a ∷ ms) allowed).0))
sends_key c w past first (out ∷ outs) ms allowed (suc j) o e = sends_key c w past (first + 1) outs (Sent (asked_of first out) ∷ ms) allowed j o e

-- a request for a blob asks nothing of a store
rows_alone : (st : Store) (name : Name) (site : ℕ) (op : Op) → (is_row_request op ≡ true → AskedHere name site op st × IfWritten IsRow op) → AskedHere name site op st × IfWritten IsRow op
rows_alone st name site (WriteRow key expect step row) f = f refl
rows_alone st name site op f = (tt, tt)

pub has_sent : (c : Config) (key : List ℕ) (w : Caller) (past : List Trace) (first : ℕ) (outs : List Out) (ms : List Action) (ds : List Transition) → HasQuorums c → AreTransitions c unused ds → (key_of w.call ≡ key → Keeps c w past ms (after_transitions unused ds)) → AreAllowed c w past (sent_from first outs ms)
    → (more : List Transition) × HasSent c key w first outs ms ds more
has_sent c key w past first outs ms ds quorums are keeps allowed = elim (key_cases (key_of w.call) key) [
  | inl same ↦ (let k = sends c w past first outs ms ds quorums are (keeps same) allowed in
      let s = k.1 in (
        k.0,
        record {
          transitions = s.are;
          only = s.only;
          here = λ j o e _. s.here j o e;
          from = λ q i. elim (s.from q i) [ inl h ↦ inl h | inr h ↦ inr (record { call = h.0; key_is = same; sent = s.keeps.own q i h.0; vote = h.1 }) ];
          others = s.begun.others;
          own = λ _. s.begun.own;
          on = λ call early late split current own. s.on call early late split current (λ e. own e same);
        },
      ))
  | inr apart ↦ (
    ds,
    record {
      transitions = are;
      only = only_itself (after_transitions unused ds);
      here = λ j o e is. rows_alone (after_transitions unused ds) w.name o.site o.op (λ row. absurd (apart.0 (sym (sends_key c w past first outs ms allowed j o e row) ∙ is)));
      from = λ q i. inl i;
      others = λ x _. refl;
      own = λ is. absurd (apart.0 is);
      on = λ call early late split current own. record { later = late; split = split; current = current; rows = λ e h. h };
    },
  )
]

-- each request is one that was there, or was just sent
abbrev pub NetFrom : List RequestAt → List RequestAt → Name → ℕ → List Out → Type 0
NetFrom old new name tick outs =
    (m : ℕ) (q : RequestAt) → numbered new m ≡ Some q → ((k : ℕ) × ((r : RequestAt) × ((numbered old k ≡ Some r) × IsAlike r q))) ⊎ ((j : ℕ) × ((o : Out) × ((slice_get outs j ≡ Some o) × (sent_request name tick o ≡ q))))

fresh_stands : (st : Store) (name : Name) (tick : ℕ) (o : Out) → AskedHere name o.site o.op st × IfWritten IsRow o.op → RequestStands st (sent_request name tick o)
fresh_stands st name tick o h = record { asked = h.0; rule = h.1; replies = λ i t reply e. cc }

-- the run of an object when a call has sent its requests
pub sent_run : (key : List ℕ) (old new : State) (ds more : List Transition) (w : Caller) (first tick : ℕ) (outs : List Out) (ms : List Action) → new.cfg ≡ old.cfg → SitesStay old new → NetFrom old.net new.net w.name tick outs → HasSent old.cfg key w first outs ms ds more
    → ((q : Write) → IsIn q (sent_after unused more) → IsSentBy key q.call q.act (new.traces q.call.session)) → ((n : ℕ) → EachTrace (IsBegunIn key more) (new.traces n))
    → ((j : ℕ) (b : CallRec) → slice_get new.calls j ≡ Some b → key_of b.call ≡ key → IsSince new key more b) → IsRun key old ds → IsRun key new more
sent_run key old new ds more w first tick outs ms cfg stay net has sent begun calls run =
    let only = has.only in
    record {
      transitions = subst (λ c. AreTransitions c unused more) (sym cfg) has.transitions;
      sites = λ i told is.
          let s = run.sites i told (sym (stay.sites i) ∙ is) in
          record { stored = only.stored i ∙ s.stored; used = only.used i ∙ s.used; rule = s.rule };
      requests = λ m q there is. elim (net m q there) [
        | inl k ↦ (let same = k.1.1.1 in
            alike_stands (after_transitions unused more) k.1.0 q same
            (request_more (after_transitions unused ds) (after_transitions unused more) k.1.0 (λ a h. subst (IsIn a) (sym only.replies) h) only.asked (run.requests k.0 k.1.0 k.1.1.0 (sym (ap key_asked same.op) ∙ is))))
        | inr k ↦ (let e = k.1.1.1 in
            subst (RequestStands (after_transitions unused more)) e (fresh_stands (after_transitions unused more) w.name tick k.1.0 (has.here k.0 k.1.0 k.1.1.0 (ap (λ (x : RequestAt). key_asked x.op) e ∙ is))))
      ];
      casts = λ v b x i. ap (λ cs. has_cast cs key v b x i) stay.casts ∙ run.casts v b x i ∙ sym (ap (λ rs. cast (rows_of rs) v b x i) only.replies);
      sent = sent;
      begun = begun;
      calls = calls;
    }

-- a row of a reply that was heard
entry_in : (s : ℕ) (o : Option Seen) (es rows : List RowSeen) (e : RowSeen) → IsRowIn s o rows → (IsIn e es → IsIn e rows) → IsIn e (seen_entry s o es) → IsIn e rows
entry_in s None es rows e row more h = more h
entry_in s (Some seen) es rows e row more (inl same) = subst (λ k. IsIn k rows) (sym same) row
entry_in s (Some seen) es rows e row more (inr h) = more h

-- what a call heard is among the rows of its requests' replies
pub heard_in_rows : (c : Config) (key : List ℕ) (net : List RequestAt) (w : Caller) (past : List Trace) (ms : List Action) (rows : List RowSeen) → key_of w.call ≡ key → AreAllowed c w past ms → ActionsCarried c.n net w.name ms
    → ((n i tick : ℕ) (r : RequestAt) (reply : Reply) → numbered net n ≡ Some r → key_asked r.op ≡ key → r.name ≡ w.name → slice_get r.replies i ≡ Some (tick, reply) → IsRowIn r.site (seen_in (written_by r.op) reply) rows) → (e : RowSeen) → IsIn e (heard_of ms) → IsIn e rows
heard_in_rows c key net w past [] rows is allowed carried all e h = absurd h
heard_in_rows c key net w past (Sent a ∷ ms) rows is allowed carried all e h = heard_in_rows c key net w past ms rows is allowed.1 carried.1 all e h
heard_in_rows c key net w past (Handed a reply ∷ ms) rows is allowed carried all e h =
    let r = carried.0.0 in
    let req = carried.0.1.0 in
    let has = carried.0.1.1 in
    entry_in a.site (heard_in (Handed a reply)) (heard_of ms) rows e
    (heard_case (λ o. IsRowIn a.site o rows) a reply
    (λ about.
    let own = awaited_key c w past ms a.site a allowed.1 (allowed.0 about).0 ∙ is in
    let row = of_reply (λ o. IsRowIn r.site o rows) c.n r reply has tt (all a.number has.place has.tick r has.made req.there (ap key_asked req.op_is ∙ own) req.name_is has.there) in
    subst (λ (o : Op). IsRowIn a.site (seen_in (written_by o) reply) rows) req.op_is (subst (λ (s : ℕ). IsRowIn s (seen_in (written_by r.op) reply) rows) req.site_is row))
    tt)
    (λ k. heard_in_rows c key net w past ms rows is allowed.1 carried.1 all e k) h
heard_in_rows c key net w past (GaveUp a ∷ ms) rows is allowed carried all e h = heard_in_rows c key net w past ms rows is allowed.1 carried.1 all e h
heard_in_rows c key net w past (Rested ∷ ms) rows is allowed carried all e h = heard_in_rows c key net w past ms rows is allowed.1 carried.1 all e h
heard_in_rows c key net w past (GaveIn ∷ ms) rows is allowed carried all e h = heard_in_rows c key net w past ms rows is allowed.1 carried.1 all e h

-- what a call sent before it sent
pub sent_before : (first : ℕ) (outs : List Out) (ms : List Action) (act : Act) → SentStep ms act → SentStep (sent_from first outs ms) act
sent_before first [] ms act h = h
sent_before first (o ∷ os) ms act h = sent_before (first + 1) os (Sent (asked_of first o) ∷ ms) act (inr h)

-- a record of a call after a turn is one from before it, which perhaps ended now
pub record IsAfter (tick : ℕ) (b d : CallRec) : Type 0 where
  pub name_is : d.name ≡ b.name
  pub call_is : d.call ≡ b.call
  pub begin_is : d.begin ≡ b.begin
  pub end_is : ((d.end ≡ b.end) × (d.answer ≡ b.answer)) ⊎ (d.end ≡ Some tick)

after_itself : (tick : ℕ) (b : CallRec) → IsAfter tick b b
after_itself tick b = record { name_is = refl; call_is = refl; begin_is = refl; end_is = inl (refl, refl) }

after_answer : (tick : ℕ) (o : Option Answer) (b : CallRec) → IsAfter tick b (answered tick o b)
after_answer tick None b = after_itself tick b
after_answer tick (Some a) b = record { name_is = refl; call_is = refl; begin_is = refl; end_is = inr refl }

pub call_before : (old new : List CallRec) (name : Name) (tick : ℕ) (o : Option Answer) → CallEnds old name tick o new → (j : ℕ) (d : CallRec) → slice_get new j ≡ Some d → (b : CallRec) × ((slice_get old j ≡ Some b) × IsAfter tick b d)
call_before old new name tick o ends j d h =
    let ended = answered tick o ends.1.0 in
    let k : slice_get (slice_set old ends.0 ended) j ≡ Some d = subst (λ xs. slice_get xs j ≡ Some d) ends.1.1.1.1 h in
    elim (cases_eq j ends.0) [
      | inl e ↦ (let both : Some ended ≡ Some d = sym (get_set_same old ends.0 ends.1.0 ended ends.1.1.0) ∙ ap (slice_get (slice_set old ends.0 ended)) (sym e) ∙ k in
          let same : ended ≡ d = cc in
          (ends.1.0, (ap (slice_get old) e ∙ ends.1.1.0, subst (IsAfter tick ends.1.0) same (after_answer tick o ends.1.0))))
      | inr ne ↦ (d, (sym (get_set_other old ends.0 j ended ne) ∙ k, after_itself tick d))
    ]
