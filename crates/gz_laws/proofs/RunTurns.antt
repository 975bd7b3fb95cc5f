-- A session's turn keeps the run of each object.
use Rattle.std.proofs.Common.{◌≡◌, ℕ, ◌+◌, ◌-◌, ◌<◌, ◌≤◌, inl, inr, List, [], ◌∷◌, ◌++◌, Some, length, refl, ap, sym, ◌∙◌, subst, arith}
use Rattle.std.proofs.lemmas.Bool.{cases_eq}
use Rattle.std.specs.Prelude.{slice_get, slice_set}
use Rattle.gz_core.specs.Names.{Name}
use Rattle.gz_core.specs.Calls.{key_of}
use Rattle.gz_core.specs.Slots.{Act}
use Rattle.gz_config.specs.declared.Config.{Config}
use Rattle.gz_core.specs.declared.requests.Out.{Out}
use Rattle.gz_core.specs.declared.requests.Reply.{Reply}
use Rattle.gz_core.specs.History.{Asked, Action, Caller, Trace, sent_from, turned}
use Rattle.gz_round.specs.Sites.{seen_in, written_by}
use Rattle.gz_round.specs.Sending.{AreAllowed}
use Rattle.gz_client.specs.Traces.{AllKeepRules}
use Rattle.gz_history.specs.Answers.{shows, IsWrite}
use Rattle.gz_history.specs.Legal.{IsBefore}
use Rattle.gz_history.specs.declared.record.CallRec.{CallRec}
use Rattle.gz_ledger.specs.Histories.{RowSeen, Write, IsIn, VotesFor}
use Rattle.gz_ledger.specs.Transitions.{Transition, after_transitions, late_rows, sent_after}
use Rattle.gz_world.specs.declared.events.Effect.{Effect}
use Rattle.gz_laws.specs.Carried.{ActionCarried, ActionsCarried, TracesCarried, AreCarried}
use Rattle.gz_laws.specs.Begun.{sends_of, IsBegunIn}
use Rattle.gz_laws.specs.Each.{EachTrace}
use Rattle.gz_laws.specs.Heard.{unused, ActionStands, SendsStep, SentStep}
use Rattle.gz_laws.specs.Listed.{AreCallsListed}
use Rattle.gz_laws.specs.Placed.{ArePlaced}
use Rattle.gz_laws.specs.Runs.{key_asked, IsSender, IsSentBy, IsShownAt, IsRowIn, IsRun}
use Rattle.gz_world.specs.States.{RequestAt, State, tick_of, next_of, numbered, sent_requests}
use Rattle.gz_world.specs.Steps.{SessionMoves, TurnBy, TakesTurn}
use Rattle.gz_laws.proofs.Growing.{allowed_base}
use Rattle.gz_laws.proofs.Keeping.{own_sender, keeps_newest, keeps_action}
use Rattle.gz_laws.proofs.Listing.{traces_here, traces_there}
use Rattle.gz_laws.proofs.RunSends.{IsOurs, has_sent, NetFrom, sent_run, heard_in_rows, sent_before, IsAfter, call_before}
use Rattle.gz_laws.proofs.Closing.{closing_allowed, closing_sent, closing_sends}
use Rattle.gz_laws.proofs.Traces.{each_moved}
use Rattle.gz_laws.proofs.RunTools.{IsAlike, alike_itself, alike_in, set_cases, two_cases, fresh_request, row_in_more, since_on}

-- the traces of a session whose newest one grew
pub grown_sent : (key : List ℕ) (old new : State) (session : ℕ) (t after : Trace) (ts : List Trace) → SessionMoves old session (after ∷ ts) new → old.traces session ≡ t ∷ ts → after.caller ≡ t.caller → ((act : Act) → SentStep t.actions act → SentStep after.actions act)
    → (name : Name) (act : Act) → IsSentBy key name act (old.traces name.session) → IsSentBy key name act (new.traces name.session)
grown_sent key old new session t after ts moves is caller more name act h = elim (cases_eq name.session session) [
  | inl e ↦ (let before : IsSentBy key name act (t ∷ ts) = subst (IsSentBy key name act) (ap old.traces e ∙ is) h in
      let now : IsSentBy key name act (after ∷ ts) = elim before [
        | inl s ↦ inl (record {
          name_is = ap (λ (w : Caller). w.name) caller ∙ s.name_is;
          key_is = ap (λ (w : Caller). key_of w.call) caller ∙ s.key_is;
          sent = more act s.sent;
          write = λ v votes. subst (λ (w : Caller). IsWrite w.call) (sym caller) (s.write v votes);
        })
        | inr s ↦ inr s
      ] in
      subst (IsSentBy key name act) (sym (ap new.traces e ∙ traces_here old new session (after ∷ ts) moves)) now)
  | inr ne ↦ subst (IsSentBy key name act) (sym (traces_there old new session name.session (after ∷ ts) moves ne)) h
]

-- a write that a call sends now is its trace's
pub ours_sent : (key : List ℕ) (c : Config) (traces : ℕ → List Trace) (session : ℕ) (t after : Trace) (ts : List Trace) (ds : List Transition) (ms : List Action) (q : Write) → AllKeepRules c session (t ∷ ts) → traces session ≡ t ∷ ts → after.caller ≡ t.caller → ((act : Act) → SentStep ms act → SentStep after.actions act)
    → ((p : Write) → IsIn p (sent_after unused ds) → IsSentBy key p.call p.act (traces p.call.session)) → IsOurs key t.caller ds ms q → IsSender key q.call q.act after
ours_sent key c traces session t after ts ds ms q told is caller more sent ours = record {
  name_is = ap (λ (w : Caller). w.name) caller ∙ sym ours.call;
  key_is = ap (λ (w : Caller). key_of w.call) caller ∙ ours.key_is;
  sent = more q.act ours.sent;
  write = λ v votes. subst (λ (w : Caller). IsWrite w.call) (sym caller) (elim (ours.vote v (subst (VotesFor q.act v) ours.call votes)) [
    | inl p ↦ (let at : p.write.call.session ≡ session = ap (λ (x : Name). x.session) (p.own ∙ told.1) in
        let mine = own_sender c key session t ts p.write.call p.write.act told p.own (subst (IsSentBy key p.write.call p.write.act) (ap traces at ∙ is) (sent p.write p.found)) in
        mine.write v (subst (VotesFor p.write.act v) (sym p.own) p.votes))
    | inr write ↦ write
  ]);
}

-- the requests of a world after a turn
pub turn_net : (old new : State) (n : ℕ) (r marked : RequestAt) (name : Name) (tick : ℕ) (outs : List Out) → numbered old.net n ≡ Some r → IsAlike r marked → new.net ≡ slice_set old.net (n - 1) marked ++ sent_requests name tick outs → NetFrom old.net new.net name tick outs
turn_net old new n r marked name tick outs there same net = λ m q at.
    elim (two_cases (slice_set old.net (n - 1) marked) (sent_requests name tick outs) m q (subst (λ xs. numbered xs m ≡ Some q) net at)) [
      | inl e ↦ elim (set_cases old.net n m r marked q there e) [
        | inl f ↦ inl (n, (r, (there, subst (IsAlike r) (sym f) same)))
        | inr f ↦ inl (m, (q, (f, alike_itself q)))
      ]
      | inr e ↦ (let k = fresh_request name tick outs e.0 q e.1 in inr (e.0, (k.0, (k.1.0, k.1.1))))
    ]

-- the rows of replies that the requests of a call had
pub net_heard : (key : List ℕ) (old new : List RequestAt) (name : Name) (tick : ℕ) (outs : List Out) (call : Name) (rows : List RowSeen) → NetFrom old new name tick outs
    → ((n i t : ℕ) (r : RequestAt) (reply : Reply) → numbered old n ≡ Some r → key_asked r.op ≡ key → r.name ≡ call → slice_get r.replies i ≡ Some (t, reply) → IsRowIn r.site (seen_in (written_by r.op) reply) rows)
    → (n i t : ℕ) (q : RequestAt) (reply : Reply) → numbered new n ≡ Some q → key_asked q.op ≡ key → q.name ≡ call → slice_get q.replies i ≡ Some (t, reply) → IsRowIn q.site (seen_in (written_by q.op) reply) rows
net_heard key old new name tick outs call rows net all = λ n i t q reply at own same e. elim (net n q at) [
  | inl k ↦ (let alike = k.1.1.1 in
      alike_in rows k.1.0 q reply alike (all k.0 i t k.1.0 reply k.1.1.0 (sym (ap key_asked alike.op) ∙ own) (sym alike.name ∙ same) (subst (λ xs. slice_get xs i ≡ Some (t, reply)) alike.replies e)))
  | inr k ↦ (let bad : slice_get [] i ≡ Some (t, reply) = subst (λ (x : RequestAt). slice_get x.replies i ≡ Some (t, reply)) (sym k.1.1.1) e in cc)
]

-- a call that ended before another one began had ended before this turn
pub ended_before : (key : List ℕ) (old new : State) (name : Name) (b : CallRec) (early : List Transition) → ((j : ℕ) (d : CallRec) → slice_get new.calls j ≡ Some d → (a : CallRec) × ((slice_get old.calls j ≡ Some a) × IsAfter (tick_of old) a d)) → b.begin ≤ length old.journal
    → ((i v : ℕ) (a : CallRec) → slice_get old.calls i ≡ Some a → key_of a.call ≡ key → IsBefore a.end b.begin → shows a.answer ≡ Some v → IsShownAt old.cfg early v)
    → (i v : ℕ) (a : CallRec) → slice_get new.calls i ≡ Some a → key_of a.call ≡ key → IsBefore a.end b.begin → shows a.answer ≡ Some v → IsShownAt old.cfg early v
ended_before key old new name b early before began all i v d at own ends show =
    let a = before i d at in
    let k = a.1.1 in
    elim k.end_is [
      | inl same ↦ all i v a.0 a.1.0 (ap key_of (sym k.call_is) ∙ own) (subst (λ o. IsBefore o b.begin) same.0 ends) (ap shows (sym same.1) ∙ show)
      | inr now ↦ (let late : length old.journal + 1 < b.begin = subst (λ o. IsBefore o b.begin) now ends in absurd (omega (arith, late, began)))
    ]

pub turn_run : (key : List ℕ) (old new : State) (ds : List Transition) (n : ℕ) (r marked : RequestAt) (action : Asked → Action) (by : TurnBy) (effect : Effect) → TakesTurn old n r action by marked effect new → IsAlike r marked
    → ((key_of by.trace.caller.call ≡ key) → ActionStands (after_transitions unused ds) (action by.asked)) → ((act : Act) → SendsStep (action by.asked) act → ⊥) → ((a : Asked) → sends_of (action a ∷ by.trace.actions) ≡ sends_of by.trace.actions) → ActionCarried old.cfg.n old.net by.trace.caller.name (action by.asked) → AreCallsListed old → AreCarried old → ArePlaced old → IsRun key old ds → (more : List Transition) × IsRun key new more
turn_run key old new ds n r marked action by effect t alike stands none action_sends carried listed carries placed run =
    let c = old.cfg in
    let w = by.trace.caller in
    let session = r.name.session in
    let ms = action by.asked ∷ by.trace.actions in
    let outs = by.turn.send in
    let first = next_of old in
    let tick = tick_of old in
    let after = turned first by.turn (action by.asked) by.closing by.trace in
    let told : AllKeepRules c session (by.trace ∷ by.earlier) = subst (AllKeepRules c session) t.traces (listed.told session) in
    let mine : ActionsCarried c.n old.net w.name by.trace.actions = (subst (TracesCarried c.n old.net) t.traces (carries session)).0 in
    let allowed : AreAllowed c w by.earlier (sent_from first outs ms) = closing_allowed c w by.earlier by.closing (sent_from first outs ms) t.closing t.moves.told.0.allowed in
    let s = has_sent c key w by.earlier first outs ms ds placed.config.quorums run.transitions
    (λ same. keeps_action c w by.earlier (action by.asked) by.trace.actions (after_transitions unused ds) (stands same) none
    (keeps_newest c key old.net old.traces (after_transitions unused ds) session by.trace by.earlier listed.told run.requests run.sent t.traces same mine)) allowed in
    let more = s.0 in
    let sent = s.1 in
    let net = turn_net old new n r marked w.name tick outs t.request alike t.net in
    let before = call_before old.calls new.calls w.name tick by.turn.answer t.calls in
    let first_begun : EachTrace (IsBegunIn key ds) (by.trace ∷ by.earlier) = subst (EachTrace (IsBegunIn key ds)) t.traces (run.begun session) in
    let grew : (act : Act) → SentStep (sent_from first outs ms) act → SentStep after.actions act = λ act h. closing_sent by.closing (sent_from first outs ms) act t.closing h in (
      more,
      sent_run key old new ds more w first tick outs ms t.frame.cfg t.sites net sent
          (λ q i. elim (sent.from q i) [
            | inl h ↦ grown_sent key old new session by.trace after by.earlier t.moves t.traces refl (λ act k. grew act (sent_before first outs ms act (inr k))) q.call q.act (run.sent q h)
            | inr h ↦ (let at : q.call.session ≡ session = ap (λ (x : Name). x.session) (h.call ∙ told.1) in
                subst (IsSentBy key q.call q.act) (sym (ap new.traces at ∙ traces_here old new session (after ∷ by.earlier) t.moves))
                (inl (ours_sent key c old.traces session by.trace after by.earlier ds (sent_from first outs ms) q told t.traces refl grew run.sent h)))
          ])
          (each_moved (IsBegunIn key ds) (IsBegunIn key more) old new session after by.earlier t.moves listed.told (λ u apart h own. sent.others u.caller.name apart ∙ h own)
          (λ own. sent.own own (first_begun.0 own ∙ sym (action_sends by.asked)) ∙ sym (closing_sends by.closing (sent_from first outs ms) t.closing)) first_begun.1 run.begun)
          (λ j d there is.
          let b = before j d there in
          let k = b.1.1 in
          let since = run.calls j b.0 b.1.0 (ap key_of (sym k.call_is) ∙ is) in
          let on = sent.on b.0.name since.early since.late since.split since.current
          (λ same own. heard_in_rows c key old.net w by.earlier ms (late_rows unused since.late since.early) own (allowed_base c w by.earlier first outs ms allowed) (carried, mine)
          (λ m i u q reply at asked named e. since.heard m i u q reply at asked (named ∙ sym same) e)) in
          since_on key old new ds more b.0 d t.frame.cfg k.name_is k.begin_is since on
          (net_heard key old.net new.net w.name tick outs b.0.name (late_rows unused on.later since.early) net
          (λ m i u q reply at asked named e. row_in_more q.site (seen_in (written_by q.op) reply) (late_rows unused since.late since.early) (late_rows unused on.later since.early) on.rows (since.heard m i u q reply at asked named e)))
          (ended_before key old new w.name b.0 since.early before (placed.began j b.0 b.1.0) since.ended))
          run,
    )
