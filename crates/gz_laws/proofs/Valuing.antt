-- Each step keeps the values of rows those that calls of the history write.
use Rattle.std.proofs.Common.{◌≡◌, ℕ, zero, suc, ◌+◌, ◌-◌, inl, inr, List, [], ◌∷◌, ◌++◌, Some, None, cond, length, refl, ap, sym, ◌∙◌, subst}
use Rattle.std.proofs.lemmas.Bool.{cases_eq}
use Rattle.std.specs.Prelude.{Option, MatchOption, IfSome, IsSome, slice_get}
use Rattle.gz_core.specs.Names.{Name}
use Rattle.gz_core.specs.Rows.{RowAt}
use Rattle.gz_core.specs.declared.calls.Answer.{Answer}
use Rattle.gz_core.specs.declared.calls.Call.{Call}
use Rattle.gz_config.specs.declared.Config.{Config}
use Rattle.gz_core.specs.declared.values.Value.{Value}
use Rattle.gz_core.specs.declared.requests.Op.{Op}
use Rattle.gz_core.specs.declared.requests.Op.TheVariants.{ReadRow, WriteRow}
use Rattle.gz_core.specs.declared.requests.Out.{Out}
use Rattle.gz_core.specs.declared.requests.Reply.{Reply}
use Rattle.gz_core.specs.declared.requests.Reply.TheVariants.{Row, NoRow, Written, Changed, Failed}
use Rattle.gz_core.specs.declared.requests.Turn.{Turn}
use Rattle.gz_core.specs.History.{Asked, Action, Sent, GaveUp, Caller, Trace, asked_of, sent_from}
use Rattle.gz_data.specs.Own.{IsOwn}
use Rattle.gz_round.specs.Sending.{AreAllowed}
use Rattle.gz_client.specs.Traces.{AllKeepRules}
use Rattle.gz_site.specs.Told.{Told, IsEmpty}
use Rattle.gz_site.specs.Steps.{RowStored}
use Rattle.gz_history.specs.declared.record.CallRec.{CallRec}
use Rattle.gz_world.specs.declared.events.Effect.{Effect}
use Rattle.gz_world.specs.declared.events.Event.{Event}
use Rattle.gz_world.specs.declared.events.Event.TheVariants as events
use Rattle.gz_laws.specs.Carried.{ActionCarried, ActionsCarried, TracesCarried, AreCarried}
use Rattle.gz_laws.specs.Listed.{IsAmong, AreCallsListed}
use Rattle.gz_laws.specs.Placed.{ArePlaced}
use Rattle.gz_world.specs.Reached.{IsOpening, IsReached, opened, stepped, AllTell}
use Rattle.gz_world.specs.Refusals.{refusal_of}
use Rattle.gz_world.specs.States.{RequestAt, State, tick_of, next_of, numbered, with_reply, with_handed, with_given_up, end_at}
use Rattle.gz_world.specs.Steps.{Answers, SitesStay, BeginsBy, DeliversBy, TurnBy, TakesTurn, CallEnds, answered, HasEffect, Does, Skips, WorldStep, hears}
use Rattle.gz_laws.specs.Valued.{IsGivenTo, AreGiven, IsGivenKept, IsGivenOp, IsGivenReply, AreValuedBy, AreValued}
use Rattle.gz_laws.proofs.Asking.{row_asked}
use Rattle.gz_laws.proofs.Carrying.{carried}
use Rattle.gz_laws.proofs.Growing.{allowed_base}
use Rattle.gz_laws.proofs.Listing.{listed, newest}
use Rattle.gz_world.proofs.Members.{numbered_place}
use Rattle.gz_world.proofs.Places.{get_append, get_last, get_set_same, get_set_other}
use Rattle.gz_laws.proofs.Placing.{placed, handed_alike, given_up_alike}
use Rattle.gz_laws.proofs.RunBegins.{begin_net}
use Rattle.gz_laws.proofs.RunDelivers.{both_tell, same_told, more_replies}
use Rattle.gz_laws.proofs.RunSends.{NetFrom}
use Rattle.gz_laws.proofs.Closing.{closing_allowed}
use Rattle.gz_laws.proofs.RunTools.{IsAlike, set_cases}
use Rattle.gz_laws.proofs.RunTurns.{turn_net}
use Rattle.gz_laws.proofs.Running.{step_tell, handed_action, told_request}
use Rattle.gz_laws.proofs.Values.{AreHeardGiven, IsOwnGiven, AreNetGiven, heard_given, ask_given}
use Rattle.gz_laws.proofs.Keys.{key_cases, same_key-refl}
use Rattle.gz_core.specs.Calls.{key_of}
use Rattle.gz_laws.specs.Runs.{key_asked}
use Rattle.gz_laws.proofs.BlobSteps.{blob_leaves}
use Rattle.gz_laws.proofs.Owning.{own_of}

-- what was given stays given
abbrev GivesMore : Config → List CallRec → List CallRec → Type 0
GivesMore c old new = (key : List ℕ) (x : Value) → IsGivenTo c old key x → IsGivenTo c new key x

row_more : (c : Config) (old new : List CallRec) (key : List ℕ) (row : RowAt) → GivesMore c old new → AreGiven c old key row → AreGiven c new key row
row_more c old new key row more h = λ v x e. more key x (h v x e)

kept_more : (c : Config) (old new : List CallRec) (key : List ℕ) (o : Option (ℕ × RowAt)) → GivesMore c old new → IsGivenKept c old key o → IsGivenKept c new key o
kept_more c old new key None more h = tt
kept_more c old new key (Some k) more h = row_more c old new key k.1 more h

op_more : (c : Config) (old new : List CallRec) (op : Op) → GivesMore c old new → IsGivenOp c old op → IsGivenOp c new op
op_more c old new (WriteRow key expect step row) more h = row_more c old new key row more h
op_more c old new op more h = tt

reply_more : (c : Config) (old new : List CallRec) (key : List ℕ) (reply : Reply) → GivesMore c old new → IsGivenReply c old key reply → IsGivenReply c new key reply
reply_more c old new key (Row etag row) more h = row_more c old new key row more h
reply_more c old new key reply more h = tt

gives_same : (c : Config) (old new : List CallRec) → new ≡ old → GivesMore c old new
gives_same c old new e = λ key x h. subst (λ xs. IsGivenTo c xs key x) (sym e) h

gives_append : (c : Config) (old new more : List CallRec) → new ≡ old ++ more → GivesMore c old new
gives_append c old new more e = λ key x h. let g = h.0 in subst (λ xs. IsGivenTo c xs key x) (sym e) ((g.0, g.1, get_append old more g.0 g.1 g.2, g.3), h.1)

answered_own : (c : Config) (tick : ℕ) (o : Option Answer) (d : CallRec) (x : Value) → IsOwn c d.name d.call (Some x) → IsOwn c (answered tick o d).name (answered tick o d).call (Some x)
answered_own c tick None d x h = h
answered_own c tick (Some answer) d x h = h

answered_key : (tick : ℕ) (o : Option Answer) (d : CallRec) → key_of (answered tick o d).call ≡ key_of d.call
answered_key tick None d = refl
answered_key tick (Some answer) d = refl

-- the own value of a trace's call is that of the call's record
own_listed : (c : Config) (d : CallRec) (w : Caller) (x : Value) → w.name ≡ d.name → w.call ≡ d.call → IsOwn c w.name w.call (Some x) → IsOwn c d.name d.call (Some x)
own_listed c d w x name call h = subst (λ (q : Call). IsOwn c d.name q (Some x)) call (subst (λ (q : Name). IsOwn c q w.call (Some x)) name h)

gives_ends : (c : Config) (old new : List CallRec) (name : Name) (tick : ℕ) (o : Option Answer) → CallEnds old name tick o new → GivesMore c old new
gives_ends c old new name tick o ends = λ key x h.
    let g = h.0 in
    let ended = answered tick o ends.1.0 in
    subst (λ xs. IsGivenTo c xs key x) (sym ends.1.1.1.1) (elim (cases_eq g.0 ends.0) [
      | inl e ↦ (let both : Some ends.1.0 ≡ Some g.1 = sym ends.1.1.0 ∙ sym (ap (slice_get old) e) ∙ g.2 in
          let same : ends.1.0 ≡ g.1 = cc in
          ((ends.0, ended, get_set_same old ends.0 ends.1.0 ended ends.1.1.0, answered_own c tick o ends.1.0 x (subst (λ (d : CallRec). IsOwn c d.name d.call (Some x)) (sym same) g.3)), answered_key tick o ends.1.0 ∙ ap (λ (d : CallRec). key_of d.call) same ∙ h.1))
      | inr ne ↦ ((g.0, g.1, get_set_other old ends.0 g.0 ended ne ∙ g.2, g.3), h.1)
    ])

same_valued : (c : Config) (old new : State) → ((i : ℕ) → new.sites i ≡ old.sites i) → new.net ≡ old.net → new.calls ≡ old.calls → AreValuedBy c old → AreValuedBy c new
same_valued c old new sites net calls v =
    let more = gives_same c old.calls new.calls calls in
    record {
      sites = λ i told key is. kept_more c old.calls new.calls key (told.rows key) more (v.sites i told key (sym (sites i) ∙ is));
      requests = λ n r there. op_more c old.calls new.calls r.op more (v.requests n r (subst (λ xs. numbered xs n ≡ Some r) net there));
      replies = λ n i tick r reply there at. reply_more c old.calls new.calls (key_asked r.op) reply more (v.replies n i tick r reply (subst (λ xs. numbered xs n ≡ Some r) net there) at);
    }

-- the configuration never changes
under_same : (old new : State) → new.cfg ≡ old.cfg → AreValuedBy old.cfg new → AreValued new
under_same old new cfg v = subst (λ (c : Config). AreValuedBy c new) (sym cfg) v

-- a site keeps given rows and shows them
stored_given : (c : Config) (calls : List CallRec) (before after : Told) (k : List ℕ) (etag : ℕ) (row : RowAt) (key : List ℕ) → RowStored before k etag row after → AreGiven c calls k row → IsGivenKept c calls key (before.rows key) → IsGivenKept c calls key (after.rows key)
stored_given c calls before after k etag row key done given old = elim (key_cases k key) [
  | inl same ↦ subst (λ q. IsGivenKept c calls q (after.rows q)) same (subst (IsGivenKept c calls k) (sym (done.rows k ∙ ap (λ t. cond t (Some (etag, row)) (before.rows k)) (same_key-refl k))) given)
  | inr apart ↦ subst (IsGivenKept c calls key) (sym (done.rows key ∙ ap (λ t. cond t (Some (etag, row)) (before.rows key)) apart.1)) old
]

abbrev AllGiven : Config → List CallRec → Told → Type 0
AllGiven c calls told = (key : List ℕ) → IsGivenKept c calls key (told.rows key)

told_given : (c : Config) (calls : List CallRec) (op : Op) (reply : Reply) (before after : Told) → IsGivenOp c calls op → AllGiven c calls before → Answers before op reply after → AllGiven c calls after × IsGivenReply c calls (key_asked op) reply
told_given c calls (ReadRow k) (Row etag row) before after given all ans = (subst (AllGiven c calls) (sym ans.1) all, subst (IsGivenKept c calls k) ans.0 (all k))
told_given c calls (ReadRow k) NoRow before after given all ans = (subst (AllGiven c calls) (sym ans.1) all, tt)
told_given c calls (ReadRow k) Failed before after given all ans = (subst (AllGiven c calls) (sym ans) all, tt)
told_given c calls (ReadRow k) reply before after given all ans = absurd ans
told_given c calls (WriteRow k expect step row) (Written etag) before after given all ans = (λ key. stored_given c calls before after k etag row key ans.1 given (all key), tt)
told_given c calls (WriteRow k expect step row) Changed before after given all ans = (subst (AllGiven c calls) (sym ans.1) all, tt)
told_given c calls (WriteRow k expect step row) Failed before after given all (inl ans) = (subst (AllGiven c calls) (sym ans) all, tt)
told_given c calls (WriteRow k expect step row) Failed before after given all (inr ans) = (λ key. stored_given c calls before after k ans.0 row key ans.2 given (all key), tt)
told_given c calls (WriteRow k expect step row) reply before after given all ans = absurd ans
told_given c calls op (Row etag row) before after given all ans = absurd ans
told_given c calls op reply before after given all ans = (λ key. subst (λ (rows : List ℕ → Option (ℕ × RowAt)). IsGivenKept c calls key (rows key)) (sym (blob_leaves before after op reply refl ans).rows) (all key), tt)

deliver_valued : (old new : State) (n : ℕ) (r : RequestAt) (reply : Reply) (effect : Effect) → DeliversBy old n r reply effect new → IsSome (old.sites r.site) → AreValued old → AreValuedBy old.cfg new
deliver_valued old new n r reply effect d tells v =
    let t = both_tell (old.sites r.site) (new.sites r.site) (λ before after. Answers before r.op reply after) tells d.site in
    let k = told_given old.cfg old.calls r.op reply t.0 t.1.0 (v.requests n r d.request) (λ key. v.sites r.site t.0 key t.1.1.0) t.1.1.1.1 in
    let now = with_reply (tick_of old) reply r in
    let more = gives_same old.cfg old.calls new.calls d.sessions.calls in
    record {
      sites = λ i told key is. elim (cases_eq i r.site) [
        | inl e ↦ (let same = same_told t.1.0 told (sym t.1.1.1.0 ∙ sym (ap new.sites e) ∙ is) in
            kept_more old.cfg old.calls new.calls key (told.rows key) more (subst (λ (x : Told). IsGivenKept old.cfg old.calls key (x.rows key)) same (k.0 key)))
        | inr ne ↦ kept_more old.cfg old.calls new.calls key (told.rows key) more (v.sites i told key (sym (d.others i ne) ∙ is))
      ];
      requests = λ m q there. elim (set_cases old.net n m r now q d.request (subst (λ xs. numbered xs m ≡ Some q) d.net there)) [
        | inl e ↦ op_more old.cfg old.calls new.calls q.op more (subst (λ (x : RequestAt). IsGivenOp old.cfg old.calls x.op) (sym e) (v.requests n r d.request))
        | inr e ↦ op_more old.cfg old.calls new.calls q.op more (v.requests m q e)
      ];
      replies = λ m i tick q one there at. reply_more old.cfg old.calls new.calls (key_asked q.op) one more (elim (set_cases old.net n m r now q d.request (subst (λ xs. numbered xs m ≡ Some q) d.net there)) [
        | inl e ↦ subst (λ (x : RequestAt). IsGivenReply old.cfg old.calls (key_asked x.op) one) (sym e)
            (elim (more_replies r (tick_of old) i tick reply one (subst (λ (x : RequestAt). slice_get x.replies i ≡ Some (tick, one)) e at)) [
              | inl f ↦ v.replies n i tick r one d.request f
              | inr f ↦ subst (IsGivenReply old.cfg old.calls (key_asked r.op)) f k.1
            ])
        | inr e ↦ v.replies m i tick q one e at
      ]);
    }

sent_heard : (c : Config) (calls : List CallRec) (key : List ℕ) (a : Asked) (ms : List Action) → AreHeardGiven c calls key ms → AreHeardGiven c calls key (Sent a ∷ ms)
sent_heard c calls key a ms h = λ s row k. elim k [ inl e ↦ (let bad = e.2 in cc) | inr e ↦ h s row e ]

-- the requests that a call sends
sends_given : (c : Config) (calls : List CallRec) (w : Caller) (past : List Trace) (first : ℕ) (outs : List Out) (ms : List Action) → IsOwnGiven c calls w → AreHeardGiven c calls (key_of w.call) ms → AreAllowed c w past (sent_from first outs ms) → (j : ℕ) (o : Out) → slice_get outs j ≡ Some o → IsGivenOp c calls o.op
sends_given c calls w past first [] ms own heard allowed j o e = cc
sends_given c calls w past first (out ∷ outs) ms own heard allowed zero o e =
    let same : out ≡ o = cc in
    let a = asked_of first out in
    subst (λ (k : Out). IsGivenOp c calls k.op) same (ask_given c calls w past ms out.site out.op own heard (row_asked c w past ms a (allowed_base c w past (first + 1) outs (Sent a ∷ ms) allowed).0))
sends_given c calls w past first (out ∷ outs) ms own heard allowed (suc j) o e = sends_given c calls w past (first + 1) outs (Sent (asked_of first out) ∷ ms) own (sent_heard c calls (key_of w.call) (asked_of first out) ms heard) allowed j o e

-- the world when a call has sent its requests
sent_valued : (c : Config) (old new : State) (name : Name) (tick : ℕ) (outs : List Out) → SitesStay old new → NetFrom old.net new.net name tick outs → GivesMore c old.calls new.calls → ((j : ℕ) (o : Out) → slice_get outs j ≡ Some o → IsGivenOp c new.calls o.op) → AreValuedBy c old → AreValuedBy c new
sent_valued c old new name tick outs stay net more sent v = record {
  sites = λ i told key is. kept_more c old.calls new.calls key (told.rows key) more (v.sites i told key (sym (stay.sites i) ∙ is));
  requests = λ m q at. elim (net m q at) [
    | inl k ↦ subst (IsGivenOp c new.calls) (sym k.1.1.1.op) (op_more c old.calls new.calls k.1.0.op more (v.requests k.0 k.1.0 k.1.1.0))
    | inr k ↦ subst (λ (x : RequestAt). IsGivenOp c new.calls x.op) k.1.1.1 (sent k.0 k.1.0 k.1.1.0)
  ];
  replies = λ m i t q reply at e. elim (net m q at) [
    | inl k ↦ subst (λ (op : Op). IsGivenReply c new.calls (key_asked op) reply) (sym k.1.1.1.op) (reply_more c old.calls new.calls (key_asked k.1.0.op) reply more (v.replies k.0 i t k.1.0 reply k.1.1.0 (subst (λ xs. slice_get xs i ≡ Some (t, reply)) k.1.1.1.replies e)))
    | inr k ↦ (let bad : slice_get [] i ≡ Some (t, reply) = subst (λ (x : RequestAt). slice_get x.replies i ≡ Some (t, reply)) (sym k.1.1.1) e in cc)
  ];
}

begin_valued : (old new : State) (session : ℕ) (call : Call) (own : Option Value) (turn : Turn) (effect : Effect) → BeginsBy old session call own turn effect new → AreValued old → AreValuedBy old.cfg new
begin_valued old new session call own turn effect b v =
    let past = old.traces session in
    let name : Name = record { session = session; seq = length past + 1 } in
    let w : Caller = record { name = name; call = call; own = own } in
    let tick = tick_of old in
    let fresh : CallRec = record { name = name; call = call; begin = tick; end = end_at tick turn.answer; answer = turn.answer } in
    let given : IsOwnGiven old.cfg new.calls w = λ x e. ((length old.calls, fresh, ap (λ xs. slice_get xs (length old.calls)) b.calls ∙ get_last old.calls fresh, own_of old.cfg w (Some x) b.moves.told.0.own e), refl) in
    sent_valued old.cfg old new name tick turn.send b.sites (begin_net old new name tick turn.send b.net) (gives_append old.cfg old.calls new.calls (fresh ∷ []) b.calls)
    (sends_given old.cfg new.calls w past (next_of old) turn.send [] given (λ s row h. absurd h) b.moves.told.0.allowed) v

pub net_given : (s : State) → AreValued s → AreNetGiven s.cfg s.calls s.net
net_given s v = record { requests = v.requests; replies = v.replies }

turn_valued : (old new : State) (n : ℕ) (r marked : RequestAt) (action : Asked → Action) (by : TurnBy) (effect : Effect) → TakesTurn old n r action by marked effect new → IsAlike r marked → ActionCarried old.cfg.n old.net by.trace.caller.name (action by.asked) → AreCallsListed old → AreCarried old → AreValued old → AreValuedBy old.cfg new
turn_valued old new n r marked action by effect t alike action_carried listed carries v =
    let w = by.trace.caller in
    let session = r.name.session in
    let first = next_of old in
    let tick = tick_of old in
    let outs = by.turn.send in
    let ms = action by.asked ∷ by.trace.actions in
    let told : AllKeepRules old.cfg session (by.trace ∷ by.earlier) = subst (AllKeepRules old.cfg session) t.traces (listed.told session) in
    let c = t.calls.1.0 in
    let here : c.name.session ≡ session = ap (λ (x : Name). x.session) (t.calls.1.1.1.0 ∙ told.1) in
    let among : IsAmong old.cfg c (by.trace ∷ by.earlier) = subst (IsAmong old.cfg c) (ap old.traces here ∙ t.traces) (listed.traces t.calls.0 c t.calls.1.1.0) in
    let is = newest old.cfg session c by.trace by.earlier told among t.calls.1.1.1.0 in
    let own : IsOwnGiven old.cfg old.calls w = λ x e. ((t.calls.0, c, t.calls.1.1.0, own_listed old.cfg c w x is.name_is is.call_is (own_of old.cfg w (Some x) told.0.own e)), ap key_of (sym is.call_is)) in
    let heard : ActionsCarried old.cfg.n old.net w.name ms = (action_carried, (subst (TracesCarried old.cfg.n old.net) t.traces (carries session)).0) in
    let allowed = closing_allowed old.cfg w by.earlier by.closing (sent_from first outs ms) t.closing t.moves.told.0.allowed in
    let more = gives_ends old.cfg old.calls new.calls w.name tick by.turn.answer t.calls in
    let given = sends_given old.cfg old.calls w by.earlier first outs ms own (heard_given old.cfg old.calls old.net w by.earlier ms (net_given old v) (allowed_base old.cfg w by.earlier first outs ms allowed) heard) allowed in
    sent_valued old.cfg old new w.name tick outs t.sites (turn_net old new n r marked w.name tick outs t.request alike t.net) more (λ j o e. op_more old.cfg old.calls new.calls o.op more (given j o e)) v

does_valued : (old new : State) (event : Event) (effect : Effect) → Does old event effect new → AllTell old → AreCallsListed old → AreCarried old → ArePlaced old → AreValued old → AreValued new
does_valued old new events.OpenSession effect d tell l c p v = under_same old new d.frame.cfg (same_valued old.cfg old new d.sites.sites d.net d.calls v)
does_valued old new (events.Begin session call) effect d tell l c p v = under_same old new d.1.1.frame.cfg (begin_valued old new session call d.0 d.1.0 effect d.1.1 v)
does_valued old new (events.Deliver n) effect d tell l c p v = under_same old new d.1.1.frame.cfg (deliver_valued old new n d.0 d.1.0 effect d.1.1 (tell d.0.site (p.requests n d.0 d.1.1.request).site) v)
does_valued old new (events.Reply n which) effect d tell l c p v =
    under_same old new d.1.1.1.1.frame.cfg (turn_valued old new n d.0 (with_handed (tick_of old) which d.0) (hears old.cfg.n d.1.0.1) d.1.1.0 effect d.1.1.1.1 (handed_alike (tick_of old) which d.0) (handed_action old new n which d.0 d.1.0 d.1.1.0 effect d.1.1.1.0 d.1.1.1.1 c) l c v)
does_valued old new (events.GiveUp n) effect d tell l c p v =
    under_same old new d.1.1.frame.cfg (turn_valued old new n d.0 (with_given_up (tick_of old) d.0) (λ a. GaveUp a) d.1.0 effect d.1.1 (given_up_alike (tick_of old) d.0) (d.0, told_request old new n d.0 (with_given_up (tick_of old) d.0) (λ a. GaveUp a) d.1.0 effect d.1.1 c) l c v)
does_valued old new (events.Crash session) effect d tell l c p v = under_same old new d.frame.cfg (same_valued old.cfg old new d.sites.sites d.net d.calls v)

acts_valued : (old new : State) (event : Event) (effect : Effect) → HasEffect old event effect new → AllTell old → AreCallsListed old → AreCarried old → ArePlaced old → AreValued old → AreValued new
acts_valued old new event effect acts tell l c p v =
    elim (refusal_of old event) as (λ o. MatchOption o (Does old event effect new) (λ why. Skips old event why effect new) → AreValued new) [
      | None ↦ λ d. does_valued old new event effect d tell l c p v
      | Some why ↦ λ k. under_same old new k.same.frame.cfg (same_valued old.cfg old new k.same.sites.sites k.same.net k.same.sessions.calls v)
    ] acts

step_valued : (old new : State) (event : Event) → WorldStep old event new → AllTell old → AreCallsListed old → AreCarried old → ArePlaced old → AreValued old → AreValued new
step_valued old new event step tell l c p v =
    let mid = step.1.0 in
    let records = step.1.1.1.1 in
    under_same mid new records.cfg (same_valued mid.cfg mid new records.sites.sites records.net records.sessions.calls (acts_valued old mid event step.0 step.1.1.1.0 tell l c p v))

-- a site that holds nothing
empty_given : (c : Config) (key : List ℕ) (o : Option Told) (told : Told) → IfSome o IsEmpty → o ≡ Some told → IsGivenKept c [] key (told.rows key)
empty_given c key None told empty e = cc
empty_given c key (Some other) told empty e =
    let same : other ≡ told = cc in
    subst (IsGivenKept c [] key) (sym ((subst IsEmpty same empty).rows key)) tt

opening_valued : (s : State) → IsOpening s → AreValued s
opening_valued s o = record {
  sites = λ i told key is. subst (λ xs. IsGivenKept s.cfg xs key (told.rows key)) (sym o.calls) (empty_given s.cfg key (s.sites i) told (o.sites i) is);
  requests = λ n r there. let bad : numbered [] n ≡ Some r = subst (λ xs. numbered xs n ≡ Some r) o.net there in let k = (numbered_place [] n r bad).1 in absurd (nothing_there (n - 1) r k);
  replies = λ n i tick r reply there at. let bad : numbered [] n ≡ Some r = subst (λ xs. numbered xs n ≡ Some r) o.net there in let k = (numbered_place [] n r bad).1 in absurd (nothing_there (n - 1) r k);
}
  where
    nothing_there : (i : ℕ) (r : RequestAt) → slice_get [] i ≡ Some r → ⊥
    nothing_there i r h = cc

-- in every world that is reached and whose sites tell what they hold
pub valued : (s : State) → IsReached s → AllTell s → AreValued s
valued _ (opened s o) tell = opening_valued s o
valued _ (stepped old new event h step) tell =
    let before = step_tell old new event step tell in
    step_valued old new event step before (listed old h) (carried old h) (placed old h) (valued old h before)
