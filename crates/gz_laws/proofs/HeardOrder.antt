-- The rows that a call heard from a site go forward in the order in which it heard them.
use Rattle.std.proofs.Common.{◌≡◌, ◌≢◌, ℕ, suc, ◌+◌, ◌-◌, ◌⊎◌, inl, inr, List, [], ◌∷◌, ◌++◌, Some, None, true, length, refl, ap, sym, ◌∙◌, subst, arith, length-set}
use Rattle.std.proofs.lemmas.Bool.{cases_eq}
use Rattle.std.specs.Prelude.{Option, MatchOption, cond, if◌then◌else◌, slice_get, slice_set}
use Rattle.gz_config.specs.declared.Config.{Config}
use Rattle.gz_core.specs.Names.{Name}
use Rattle.gz_core.specs.Calls.{key_of}
use Rattle.gz_core.specs.Rows.{empty_row}
use Rattle.gz_core.specs.Slots.{slots}
use Rattle.gz_core.specs.declared.calls.Call.{Call}
use Rattle.gz_core.specs.declared.requests.Op.{Op}
use Rattle.gz_core.specs.declared.requests.Op.TheVariants.{ReadRow, WriteRow}
use Rattle.gz_core.specs.declared.requests.Out.{Out}
use Rattle.gz_core.specs.declared.requests.Reply.{Reply}
use Rattle.gz_core.specs.declared.requests.Reply.TheVariants.{Row, NoRow, Written}
use Rattle.gz_core.specs.declared.requests.Turn.{Turn}
use Rattle.gz_round.specs.declared.hearing.Seen.{Seen}
use Rattle.gz_core.specs.History.{Asked, Action, Sent, Handed, GaveUp, Rested, GaveIn, Trace, is_row_request, asked_of, sent_from, begun, turned}
use Rattle.gz_core.specs.declared.values.Value.{Value}
use Rattle.gz_round.specs.Sending.{AreAllowed}
use Rattle.gz_round.specs.Sites.{site_now, after_reply, seen_in, heard_in, written_by, is_changed, as_heard}
use Rattle.gz_client.specs.Traces.{AllKeepRules, IsClosed}
use Rattle.gz_site.specs.Told.{Told}
use Rattle.gz_ledger.specs.Agreements.{HasQuorums}
use Rattle.gz_ledger.specs.Histories.{RowSeen, IsIn}
use Rattle.gz_ledger.specs.Transitions.{Transition, after_transitions, acceptor_of}
use Rattle.gz_ledger.proofs.Follows.{Follows}
use Rattle.gz_ledger.proofs.Stores.{store_sound}
use Rattle.gz_world.specs.declared.events.Effect.{Effect}
use Rattle.gz_world.specs.declared.events.Event.{Event}
use Rattle.gz_world.specs.declared.events.Event.TheVariants as events
use Rattle.gz_world.specs.Reached.{IsReached, opened, stepped, AllTell}
use Rattle.gz_world.specs.Refusals.{refusal_of}
use Rattle.gz_world.specs.States.{RequestAt, State, tick_of, next_of, numbered, with_reply, with_handed, with_given_up, sent_request, sent_requests}
use Rattle.gz_world.specs.Steps.{Answers, BeginsBy, DeliversBy, TurnBy, TakesTurn, HasEffect, Does, Skips, hears}
use Rattle.gz_world.proofs.Members.{numbered_place, place_numbered}
use Rattle.gz_world.proofs.Places.{get_set_same, get_set_other, get_append}
use Rattle.gz_laws.specs.Agreed.{acceptor_kept}
use Rattle.gz_laws.specs.Carried.{ActionCarried, ActionsCarried, TracesCarried, AreCarried}
use Rattle.gz_laws.specs.Each.{EachTrace}
use Rattle.gz_laws.specs.Heard.{unused, seen_entry, heard_of, ActionsStand}
use Rattle.gz_laws.specs.Listed.{AreCallsListed}
use Rattle.gz_laws.specs.Placed.{ArePlaced}
use Rattle.gz_laws.specs.Runs.{key_asked, IsRun}
use Rattle.gz_laws.proofs.Agreement.{kept_same}
use Rattle.gz_round.proofs.Actions.{is_to_same}
use Rattle.gz_round.proofs.Awaits.{awaits_sent, awaits_to, ended_awaits, reply_idle, to_site}
use Rattle.gz_laws.proofs.Carrying.{awaited_carried, sent_there, acts_carried, carried}
use Rattle.gz_laws.proofs.Closing.{closing_keeps}
use Rattle.gz_laws.proofs.Hearing.{heard_known}
use Rattle.gz_laws.proofs.Keeping.{awaited_key, actions_stand}
use Rattle.gz_laws.proofs.Keys.{same_key-refl}
use Rattle.gz_laws.proofs.Listing.{listed}
use Rattle.gz_laws.proofs.Nets.{IsKeptAs, kept_handed, kept_given_up, kept_itself}
use Rattle.gz_laws.proofs.Placing.{placed}
use Rattle.gz_laws.proofs.RunDelivers.{both_tell, more_replies}
use Rattle.gz_laws.proofs.Running.{runs, step_tell, acts_run, told_request, handed_action, awaits_row}
use Rattle.gz_laws.proofs.Traces.{each_moved}
use Rattle.gz_laws.proofs.AsHeard.{on_heard, heard_case}

-- a row goes forward from each that was heard from the site before
abbrev pub EntryFollows : List RowSeen → ℕ → Option Seen → Type 0
EntryFollows es s None = Unit {0}
EntryFollows es s (Some seen) = (e : RowSeen) → IsIn e es → e.site ≡ s → Follows e.row (slots seen.row)

-- a row is heard in reply to a request for it
abbrev pub IsOfRowRequest : Op → Option Seen → Type 0
IsOfRowRequest op None = Unit {0}
IsOfRowRequest op (Some seen) = is_row_request op ≡ true

abbrev pub HeardInOrder : List Action → Type 0
HeardInOrder [] = Unit {0}
HeardInOrder (Sent a ∷ ms) = HeardInOrder ms
HeardInOrder (Handed a reply ∷ ms) = (IsOfRowRequest a.op (heard_in (Handed a reply)) × EntryFollows (heard_of ms) a.site (heard_in (Handed a reply))) × HeardInOrder ms
HeardInOrder (GaveUp a ∷ ms) = HeardInOrder ms
HeardInOrder (Rested ∷ ms) = HeardInOrder ms
HeardInOrder (GaveIn ∷ ms) = HeardInOrder ms

-- so does each row that a reply of an awaited request shows
abbrev pub AwaitedFollow : List RequestAt → List Action → Type 0
AwaitedFollow net ms =
    (s : ℕ) (a : Asked) → (site_now ms s).awaits ≡ Some a → (r : RequestAt) → numbered net a.number ≡ Some r → (i tick : ℕ) (reply : Reply) → slice_get r.replies i ≡ Some (tick, reply) → EntryFollows (heard_of ms) s (seen_in (written_by r.op) reply)

pub record IsInOrder (net : List RequestAt) (t : Trace) : Type 0 where
  pub heard : HeardInOrder t.actions
  pub awaited : AwaitedFollow net t.actions

-- a site that answers awaits nothing, so a site that still awaits is another one
other_site : (b : Asked) (reply : Reply) (ms : List Action) (s : ℕ) (a : Asked) → is_row_request b.op ≡ true → (site_now (Handed b reply ∷ ms) s).awaits ≡ Some a → b.site ≢ s
other_site b reply ms s a row e same =
    let to = is_to_same b s row same in
    let now = site_now ms s in
    let next = after_reply (seen_in (written_by b.op) reply) (is_changed reply) now in
    let here : next.awaits ≡ Some a = sym (ap (λ t. (if t then next else now).awaits) to) ∙ e in
    let none : next.awaits ≡ None = reply_idle (seen_in (written_by b.op) reply) (is_changed reply) now in
    let bad : None ≡ Some a = sym none ∙ here in
    cc

-- one more row of another site
entry_other : (es : List RowSeen) (at s : ℕ) (row o : Option Seen) → at ≢ s → EntryFollows es s o → EntryFollows (seen_entry at row es) s o
entry_other es at s row None apart h = tt
entry_other es at s None (Some seen) apart h = h
entry_other es at s (Some x) (Some seen) apart h = λ e i same. elim i [ inl is ↦ absurd (apart (ap (λ (k : RowSeen). k.site) (sym is) ∙ same)) | inr k ↦ h e k same ]

-- requests of which the awaited ones have gained no reply
abbrev AreTheirs : List RequestAt → List RequestAt → Type 0
AreTheirs old new = (m : ℕ) (r q : RequestAt) → numbered old m ≡ Some r → numbered new m ≡ Some q → IsKeptAs r q

theirs_follow : (n : ℕ) (old new : List RequestAt) (name : Name) (ms : List Action) → AreTheirs old new → ActionsCarried n old name ms → AwaitedFollow old ms → AwaitedFollow new ms
theirs_follow n old new name ms same carried h = λ s a e q at i tick reply there.
    let k = awaited_carried n old name ms s a carried e in
    let r = k.0 in
    let alike = (same a.number r q k.1.there at).alike in
    subst (λ (op : Op). EntryFollows (heard_of ms) s (seen_in (written_by op) reply)) (sym alike.op) (h s a e r k.1.there i tick reply (subst (λ xs. slice_get xs i ≡ Some (tick, reply)) alike.replies there))

-- what is sent has no reply yet
sent_follow : (net : List RequestAt) (name : Name) (tick first : ℕ) (outs : List Out) (ms : List Action) → ((j : ℕ) (o : Out) → slice_get outs j ≡ Some o → numbered net (first + j) ≡ Some (sent_request name tick o)) → AwaitedFollow net ms → AwaitedFollow net (sent_from first outs ms)
sent_follow net name tick first [] ms there h = h
sent_follow net name tick first (o ∷ os) ms there h =
    let z : first + 0 ≡ first = omega arith in
    sent_follow net name tick (first + 1) os (Sent (asked_of first o) ∷ ms)
    (λ j p e. let n : first + 1 + j ≡ first + suc j = omega arith in ap (numbered net) n ∙ there (suc j) p e)
    (λ s a e r at i t reply has. elim (awaits_sent ms (asked_of first o) a s e) [
      | inl same ↦ (let is : numbered net a.number ≡ Some (sent_request name tick o) = ap (λ (k : Asked). numbered net k.number) (sym same.0) ∙ sym (ap (numbered net) z) ∙ there 0 o refl in
          let both : Some (sent_request name tick o) ≡ Some r = sym is ∙ at in
          let one : sent_request name tick o ≡ r = cc in
          let bad : slice_get [] i ≡ Some (t, reply) = subst (λ (k : RequestAt). slice_get k.replies i ≡ Some (t, reply)) (sym one) has in
          cc)
      | inr k ↦ h s a k r at i t reply has
    ])

sent_heard : (first : ℕ) (outs : List Out) (ms : List Action) → HeardInOrder ms → HeardInOrder (sent_from first outs ms)
sent_heard first [] ms h = h
sent_heard first (o ∷ os) ms h = sent_heard (first + 1) os (Sent (asked_of first o) ∷ ms) h

closes_heard : (closing ms : List Action) → IsClosed closing → HeardInOrder ms → HeardInOrder (closing ++ ms)
closes_heard closing ms closed h = closing_keeps HeardInOrder closing ms closed h h h

closes_follow : (net : List RequestAt) (closing ms : List Action) → IsClosed closing → AwaitedFollow net ms → AwaitedFollow net (closing ++ ms)
closes_follow net closing ms closed h = closing_keeps (AwaitedFollow net) closing ms closed h (λ s a k. h s a (ended_awaits ms GaveIn a s (λ now. refl) k)) (λ s a k. h s a (ended_awaits ms Rested a s (λ now. refl) k))

-- the requests of a world after a begin, and after a turn
begin_theirs : (old new : List RequestAt) (name : Name) (tick : ℕ) (outs : List Out) → new ≡ old ++ sent_requests name tick outs → AreTheirs old new
begin_theirs old new name tick outs net = λ m r q at now.
    let p = numbered_place old m r at in
    let there : numbered (old ++ sent_requests name tick outs) m ≡ Some r = place_numbered (old ++ sent_requests name tick outs) m r p.0 (get_append old (sent_requests name tick outs) (m - 1) r p.1) in
    let both : Some r ≡ Some q = sym there ∙ ap (λ xs. numbered xs m) (sym net) ∙ now in
    let same : r ≡ q = cc in
    subst (IsKeptAs r) same (kept_itself r)

turn_theirs : (old new : List RequestAt) (n : ℕ) (r marked : RequestAt) (name : Name) (tick : ℕ) (outs : List Out) → numbered old n ≡ Some r → IsKeptAs r marked → new ≡ slice_set old (n - 1) marked ++ sent_requests name tick outs → AreTheirs old new
turn_theirs old new n r marked name tick outs there kept net = λ m x q at now.
    let p = numbered_place old m x at in
    let k = numbered_place old n r there in
    let mid = slice_set old (n - 1) marked in
    let sent = sent_requests name tick outs in
    let later : (y : RequestAt) → slice_get mid (m - 1) ≡ Some y → y ≡ q = λ y e.
    (let both : Some y ≡ Some q = sym (place_numbered (mid ++ sent) m y p.0 (get_append mid sent (m - 1) y e)) ∙ ap (λ xs. numbered xs m) (sym net) ∙ now in cc) in
    elim (cases_eq (m - 1) (n - 1)) [
      | inl e ↦ (let both : Some r ≡ Some x = sym k.1 ∙ sym (ap (slice_get old) e) ∙ p.1 in
          let same : r ≡ x = cc in
          subst (λ (z : RequestAt). IsKeptAs z q) same (subst (IsKeptAs r) (later marked (ap (slice_get mid) e ∙ get_set_same old (n - 1) r marked k.1)) kept))
      | inr ne ↦ subst (IsKeptAs x) (later x (get_set_other old (n - 1) (m - 1) marked ne ∙ p.1)) (kept_itself x)
    ]

-- traces whose requests are the world's, again
zip_carried : (n : ℕ) (net : List RequestAt) (P : Trace → Type 0) (ts : List Trace) → TracesCarried n net ts → EachTrace P ts → EachTrace (λ t. P t × ActionsCarried n net t.caller.name t.actions) ts
zip_carried n net P [] c h = tt
zip_carried n net P (t ∷ ts) c h = ((h.0, c.0), zip_carried n net P ts c.1 h.1)

abbrev AreInOrder : State → Type 0
AreInOrder s = (session : ℕ) → EachTrace (IsInOrder s.net) (s.traces session)

abbrev IsCarriedInOrder : ℕ → List RequestAt → Trace → Type 0
IsCarriedInOrder n net t = IsInOrder net t × ActionsCarried n net t.caller.name t.actions

order_same : (old new : State) → ((n : ℕ) → new.traces n ≡ old.traces n) → new.net ≡ old.net → AreInOrder old → AreInOrder new
order_same old new traces net h = λ n. subst (EachTrace (IsInOrder new.net)) (sym (traces n)) (subst (λ ks. EachTrace (IsInOrder ks) (old.traces n)) (sym net) (h n))

-- another call's trace, among requests of which its own have gained no reply
theirs_order : (n : ℕ) (old new : List RequestAt) (t : Trace) → AreTheirs old new → IsCarriedInOrder n old t → IsInOrder new t
theirs_order n old new t same h = record { heard = h.0.heard; awaited = theirs_follow n old new t.caller.name t.actions same h.1 h.0.awaited }

begin_order : (old new : State) (session : ℕ) (call : Call) (own : Option Value) (turn : Turn) (effect : Effect) → BeginsBy old session call own turn effect new → AreCallsListed old → AreCarried old → AreInOrder old → AreInOrder new
begin_order old new session call own turn effect b l c h =
    let past = old.traces session in
    let name : Name = record { session = session; seq = length past + 1 } in
    let tick = tick_of old in
    let first = next_of old in
    let t = begun session call own first turn past in
    let same = begin_theirs old.net new.net name tick turn.send b.net in
    let here : IsInOrder new.net t = record {
      heard = sent_heard first turn.send [] tt;
      awaited = sent_follow new.net name tick first turn.send [] (λ j o e. ap (λ xs. numbered xs (first + j)) b.net ∙ sent_there old.net name tick turn.send j o e) (λ s a e. cc);
    } in
    each_moved (IsCarriedInOrder old.cfg.n old.net) (IsInOrder new.net) old new session t past b.moves l.told (λ u apart k. theirs_order old.cfg.n old.net new.net u same k) here
    (zip_carried old.cfg.n old.net (IsInOrder old.net) past (c session) (h session)) (λ n. zip_carried old.cfg.n old.net (IsInOrder old.net) (old.traces n) (c n) (h n))

turn_order : (old new : State) (n : ℕ) (r marked : RequestAt) (action : Asked → Action) (by : TurnBy) (effect : Effect) → TakesTurn old n r action by marked effect new → IsKeptAs r marked → (IsInOrder old.net by.trace → HeardInOrder (action by.asked ∷ by.trace.actions))
    → (IsInOrder old.net by.trace → AwaitedFollow old.net (action by.asked ∷ by.trace.actions)) → ActionCarried old.cfg.n old.net by.trace.caller.name (action by.asked) → AreCallsListed old → AreCarried old → AreInOrder old → AreInOrder new
turn_order old new n r marked action by effect t kept heard awaited carry l c h =
    let name = by.trace.caller.name in
    let session = r.name.session in
    let tick = tick_of old in
    let first = next_of old in
    let outs = by.turn.send in
    let ms = action by.asked ∷ by.trace.actions in
    let mid = slice_set old.net (n - 1) marked in
    let after = turned first by.turn (action by.asked) by.closing by.trace in
    let same = turn_theirs old.net new.net n r marked name tick outs t.request kept t.net in
    let before : EachTrace (IsCarriedInOrder old.cfg.n old.net) (by.trace ∷ by.earlier) = zip_carried old.cfg.n old.net (IsInOrder old.net) (by.trace ∷ by.earlier) (subst (TracesCarried old.cfg.n old.net) t.traces (c session)) (subst (EachTrace (IsInOrder old.net)) t.traces (h session)) in
    let number : first ≡ length mid + 1 = sym (ap (λ x. x + 1) (length-set old.net (n - 1) marked)) in
    let here : IsInOrder new.net after = record {
      heard = closes_heard by.closing (sent_from first outs ms) t.closing (sent_heard first outs ms (heard before.0.0));
      awaited = closes_follow new.net by.closing (sent_from first outs ms) t.closing
          (sent_follow new.net name tick first outs ms
          (λ j o e. ap (λ i. numbered new.net (i + j)) number ∙ ap (λ xs. numbered xs (length mid + 1 + j)) t.net ∙ sent_there mid name tick outs j o e)
          (theirs_follow old.cfg.n old.net new.net name ms same (carry, before.0.1) (awaited before.0.0)));
    } in
    each_moved (IsCarriedInOrder old.cfg.n old.net) (IsInOrder new.net) old new session after by.earlier t.moves l.told (λ u apart k. theirs_order old.cfg.n old.net new.net u same k) here before.1
    (λ m. zip_carried old.cfg.n old.net (IsInOrder old.net) (old.traces m) (c m) (h m))

of_row : (op : Op) (o : Option Seen) → is_row_request op ≡ true → IsOfRowRequest op o
of_row op None row = tt
of_row op (Some seen) row = row

hand_order : (old new : State) (n which : ℕ) (r : RequestAt) (reply : ℕ × Reply) (by : TurnBy) (effect : Effect) → numbered r.replies which ≡ Some reply → TakesTurn old n r (hears old.cfg.n reply.1) by (with_handed (tick_of old) which r) effect new → AreCallsListed old → AreCarried old → AreInOrder old → AreInOrder new
hand_order old new n which r reply by effect there t l c h =
    let a = by.asked in
    let ms = by.trace.actions in
    let request = told_request old new n r (with_handed (tick_of old) which r) (hears old.cfg.n reply.1) by effect t c in
    let place = numbered_place r.replies which reply there in
    let heard = as_heard old.cfg.n (written_by a.op) reply.1 in
    turn_order old new n r (with_handed (tick_of old) which r) (hears old.cfg.n reply.1) by effect t (kept_handed (tick_of old) which r)
    (λ k.
    let shown : is_row_request a.op ≡ true → EntryFollows (heard_of ms) a.site (seen_in (written_by a.op) reply.1)
    = λ row. subst (λ (op : Op). EntryFollows (heard_of ms) a.site (seen_in (written_by op) reply.1)) request.op_is (k.awaited a.site a (awaits_row old.cfg ms a row t.awaited.awaits) r request.there (which - 1) reply.0 reply.1 place.1) in (
      (
        heard_case (IsOfRowRequest a.op) a heard (λ row. of_row a.op (seen_in (written_by a.op) heard) row) tt,
        heard_case (EntryFollows (heard_of ms) a.site) a heard (λ row. on_heard (EntryFollows (heard_of ms) a.site) old.cfg.n (written_by a.op) reply.1 tt (shown row)) tt,
      ),
      k.heard,
    ))
    (λ k s b e q at i tick one has.
    let before = ended_awaits ms (Handed a heard) b s (reply_idle (seen_in (written_by a.op) heard) (is_changed heard)) e in
    let follows = k.awaited s b before q at i tick one has in
    heard_case (λ o. EntryFollows (seen_entry a.site o (heard_of ms)) s (seen_in (written_by q.op) one)) a heard
    (λ row. entry_other (heard_of ms) a.site s (seen_in (written_by a.op) heard) (seen_in (written_by q.op) one) (other_site a heard ms s b row e) follows) follows)
    (handed_action old new n which r reply by effect there t c) l c h

give_up_order : (old new : State) (n : ℕ) (r : RequestAt) (by : TurnBy) (effect : Effect) → TakesTurn old n r (λ a. GaveUp a) by (with_given_up (tick_of old) r) effect new → AreCallsListed old → AreCarried old → AreInOrder old → AreInOrder new
give_up_order old new n r by effect t l c h =
    let ms = by.trace.actions in
    turn_order old new n r (with_given_up (tick_of old) r) (λ a. GaveUp a) by effect t (kept_given_up (tick_of old) r) (λ k. k.heard)
    (λ k s b e. k.awaited s b (ended_awaits ms (GaveUp by.asked) b s (λ now. refl) e)) (r, told_request old new n r (with_given_up (tick_of old) r) (λ a. GaveUp a) by effect t c) l c h

-- the row that a reply shows is the one that the site keeps
same_row : (shown seen : Seen) → Some shown ≡ Some seen → slots shown.row ≡ slots seen.row
same_row shown seen e = let same : shown ≡ seen = cc in ap (λ (x : Seen). slots x.row) same

row_told : (before after : Told) (op : Op) (reply : Reply) (seen : Seen) → Answers before op reply after → seen_in (written_by op) reply ≡ Some seen → acceptor_kept (after.rows (key_asked op)) ≡ slots seen.row
row_told before after (ReadRow k) (Row etag row) seen h e = ap acceptor_kept (ap (λ (t : Told). t.rows k) h.1 ∙ h.0) ∙ same_row (record { etag = Some etag; row = row }) seen e
row_told before after (ReadRow k) NoRow seen h e = ap acceptor_kept (ap (λ (t : Told). t.rows k) h.1 ∙ h.0) ∙ same_row (record { etag = None; row = empty_row }) seen e
row_told before after (WriteRow k expect step row) (Written etag) seen h e =
    ap acceptor_kept (h.1.rows k ∙ ap (λ b. cond b (Some (etag, row)) (before.rows k)) (same_key-refl k)) ∙ same_row (record { etag = Some etag; row = row }) seen e
row_told before after op (Row etag row) seen h e = absurd h
row_told before after op NoRow seen h e = absurd h
row_told before after op reply seen h e = cc

-- it goes forward from each row that the call heard
new_reply : (key : List ℕ) (s : State) (ds : List Transition) (t : Trace) (past : List Trace) (site : ℕ) (op : Op) (reply : Reply) (before after : Told) → IsRun key s ds → HasQuorums s.cfg → AreAllowed s.cfg t.caller past t.actions → ActionsCarried s.cfg.n s.net t.caller.name t.actions → key_of t.caller.call ≡ key → key_asked op ≡ key
    → s.sites site ≡ Some after → Answers before op reply after → (o : Option Seen) → seen_in (written_by op) reply ≡ o → EntryFollows (heard_of t.actions) site o
new_reply key s ds t past site op reply before after run quorums allowed carried own about is ans None e = tt
new_reply key s ds t past site op reply before after run quorums allowed carried own about is ans (Some seen) e = λ x i at.
    let st = after_transitions unused ds in
    let stands : ActionsStand st t.actions = actions_stand key s.net st s.cfg t.caller past t.actions run.requests own allowed carried in
    let sound = store_sound s.cfg unused ds quorums run.transitions in
    let told : acceptor_of (st.stored site) ≡ slots seen.row
    = ap acceptor_of (run.sites site after is).stored ∙ kept_same (after.rows key) ∙ ap (λ k. acceptor_kept (after.rows k)) (sym about) ∙ row_told before after op reply seen ans e in
    subst (Follows x.row) (ap (λ k. acceptor_of (st.stored k)) at ∙ told) (sound.toward x (heard_known st t.actions x stands i))

-- a request after a delivery, at the same number
deliver_at : (old : List RequestAt) (n m : ℕ) (r marked x q : RequestAt) → numbered old n ≡ Some r → numbered old m ≡ Some x → numbered (slice_set old (n - 1) marked) m ≡ Some q → ((x ≡ r) × (q ≡ marked)) ⊎ (q ≡ x)
deliver_at old n m r marked x q there at now =
    let p = numbered_place old m x at in
    let k = numbered_place old n r there in
    let g = numbered_place (slice_set old (n - 1) marked) m q now in
    elim (cases_eq (m - 1) (n - 1)) [
      | inl e ↦ (let both : Some x ≡ Some r = sym p.1 ∙ ap (slice_get old) e ∙ k.1 in
          let too : Some q ≡ Some marked = sym g.1 ∙ ap (slice_get (slice_set old (n - 1) marked)) e ∙ get_set_same old (n - 1) r marked k.1 in
          inl (let a : x ≡ r = cc in a, let b : q ≡ marked = cc in b))
      | inr ne ↦ (let both : Some q ≡ Some x = sym g.1 ∙ get_set_other old (n - 1) (m - 1) marked ne ∙ p.1 in inr cc)
    ]

deliver_follow : (old new : State) (n : ℕ) (r : RequestAt) (reply : Reply) (effect : Effect) (t : Trace) (past : List Trace) → DeliversBy old n r reply effect new → AllTell old → ((key : List ℕ) → (ds : List Transition) × IsRun key new ds) → ArePlaced old
    → AreAllowed old.cfg t.caller past t.actions → ActionsCarried old.cfg.n old.net t.caller.name t.actions → ActionsCarried new.cfg.n new.net t.caller.name t.actions → IsInOrder old.net t → IsInOrder new.net t
deliver_follow old new n r reply effect t past d tells run p allowed was now h = record {
  heard = h.heard;
  awaited = λ s a e x at i tick one has.
      let w = t.caller in
      let ms = t.actions in
      let key = key_of w.call in
      let k = awaited_carried old.cfg.n old.net w.name ms s a was e in
      let marked = with_reply (tick_of old) reply r in
      let here = subst (λ xs. numbered xs a.number ≡ Some x) d.net at in
      elim (deliver_at old.net n a.number r marked k.0 x d.request k.1.there here) [
        | inl same ↦ subst (λ (y : RequestAt). EntryFollows (heard_of ms) s (seen_in (written_by y.op) one)) (sym same.1)
            (elim (more_replies r (tick_of old) i tick reply one (subst (λ (y : RequestAt). slice_get y.replies i ≡ Some (tick, one)) same.1 has)) [
              | inl before ↦ h.awaited s a e r (k.1.there ∙ ap (λ (y : RequestAt). Some y) same.0) i tick one before
              | inr is ↦ (let both = both_tell (old.sites r.site) (new.sites r.site) (λ before after. Answers before r.op reply after) (tells r.site (p.requests n r d.request).site) d.site in
                  let runs = run key in
                  let site : r.site ≡ s = sym (ap (λ (y : RequestAt). y.site) same.0) ∙ k.1.site_is ∙ to_site a s (awaits_to ms s a e) in
                  let about : key_asked r.op ≡ key = sym (ap (λ (y : RequestAt). key_asked y.op) same.0) ∙ ap key_asked k.1.op_is ∙ awaited_key old.cfg w past ms s a allowed e in
                  let quorums = subst (λ (c : Config). HasQuorums c) (sym d.frame.cfg) p.config.quorums in
                  let ok = subst (λ (c : Config). AreAllowed c w past ms) (sym d.frame.cfg) allowed in
                  subst (λ (y : Reply). EntryFollows (heard_of ms) s (seen_in (written_by r.op) y)) is (subst (λ y. EntryFollows (heard_of ms) y (seen_in (written_by r.op) reply)) site
                  (new_reply key new runs.0 t past r.site r.op reply both.0 both.1.0 runs.1 quorums ok now refl about both.1.1.1.0 both.1.1.1.1 (seen_in (written_by r.op) reply) refl)))
            ])
        | inr same ↦ subst (λ (y : RequestAt). EntryFollows (heard_of ms) s (seen_in (written_by y.op) one)) (sym same)
            (h.awaited s a e k.0 k.1.there i tick one (subst (λ (y : RequestAt). slice_get y.replies i ≡ Some (tick, one)) same has))
      ];
}

deliver_traces : (old new : State) (n : ℕ) (r : RequestAt) (reply : Reply) (effect : Effect) (session : ℕ) (ts : List Trace) → DeliversBy old n r reply effect new → AllTell old → ((key : List ℕ) → (ds : List Transition) × IsRun key new ds) → ArePlaced old
    → AllKeepRules old.cfg session ts → TracesCarried old.cfg.n old.net ts → TracesCarried new.cfg.n new.net ts → EachTrace (IsInOrder old.net) ts → EachTrace (IsInOrder new.net) ts
deliver_traces old new n r reply effect session [] d tells run p told was now h = tt
deliver_traces old new n r reply effect session (t ∷ ts) d tells run p told was now h =
    (deliver_follow old new n r reply effect t ts d tells run p told.0.allowed was.0 now.0 h.0, deliver_traces old new n r reply effect session ts d tells run p told.2 was.1 now.1 h.1)

deliver_order : (old new : State) (n : ℕ) (r : RequestAt) (reply : Reply) (effect : Effect) → DeliversBy old n r reply effect new → AllTell old → ((key : List ℕ) → (ds : List Transition) × IsRun key new ds) → AreCallsListed old → AreCarried old → AreCarried new → ArePlaced old → AreInOrder old → AreInOrder new
deliver_order old new n r reply effect d tells run l was now p h = λ m.
    let same = d.sessions.traces m in
    subst (EachTrace (IsInOrder new.net)) (sym same) (deliver_traces old new n r reply effect m (old.traces m) d tells run p (l.told m) (was m) (subst (TracesCarried new.cfg.n new.net) same (now m)) (h m))

does_order : (old new : State) (event : Event) (effect : Effect) → Does old event effect new → AllTell old → ((key : List ℕ) → (ds : List Transition) × IsRun key new ds) → AreCallsListed old → AreCarried old → AreCarried new → ArePlaced old → AreInOrder old → AreInOrder new
does_order old new events.OpenSession effect d tells run l was now p h = order_same old new d.traces d.net h
does_order old new (events.Begin session call) effect d tells run l was now p h = begin_order old new session call d.0 d.1.0 effect d.1.1 l was h
does_order old new (events.Deliver n) effect d tells run l was now p h = deliver_order old new n d.0 d.1.0 effect d.1.1 tells run l was now p h
does_order old new (events.Reply n which) effect d tells run l was now p h = hand_order old new n which d.0 d.1.0 d.1.1.0 effect d.1.1.1.0 d.1.1.1.1 l was h
does_order old new (events.GiveUp n) effect d tells run l was now p h = give_up_order old new n d.0 d.1.0 effect d.1.1 l was h
does_order old new (events.Crash session) effect d tells run l was now p h = order_same old new d.traces d.net h

acts_order : (old new : State) (event : Event) (effect : Effect) → HasEffect old event effect new → AllTell old → ((key : List ℕ) → (ds : List Transition) × IsRun key new ds) → AreCallsListed old → AreCarried old → AreCarried new → ArePlaced old → AreInOrder old → AreInOrder new
acts_order old new event effect acts tells run l was now p h =
    elim (refusal_of old event) as (λ o. MatchOption o (Does old event effect new) (λ why. Skips old event why effect new) → AreInOrder new) [
      | None ↦ λ d. does_order old new event effect d tells run l was now p h
      | Some why ↦ λ k. order_same old new k.same.sessions.traces k.same.net h
    ] acts

-- in every world that is reached, where its sites tell what they hold
pub in_order : (s : State) → IsReached s → AllTell s → (session : ℕ) → EachTrace (IsInOrder s.net) (s.traces session)
in_order _ (opened s o) tells = λ n. subst (EachTrace (IsInOrder s.net)) (sym (o.traces n)) tt
in_order _ (stepped old new event h step) tells =
    let mid = step.1.0 in
    let acts = step.1.1.1.0 in
    let records = step.1.1.1.1 in
    let before = step_tell old new event step tells in
    let l = listed old h in
    let c = carried old h in
    let p = placed old h in
    let run : (key : List ℕ) → (ds : List Transition) × IsRun key mid ds = λ key. (let k = runs key old h before in acts_run key old mid k.0 event step.0 acts before l c p k.1) in
    order_same mid new records.sessions.traces records.net (acts_order old mid event step.0 acts before run l c (acts_carried old mid event step.0 acts c) p (in_order old h before))
