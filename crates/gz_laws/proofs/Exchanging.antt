-- Each step keeps the world's requests and the calls' traces in agreement.
use Rattle.std.proofs.Common.{◌≡◌, ℕ, ◌+◌, ◌-◌, ◌≤◌, ◌⊎◌, inl, inr, List, [], ◌∷◌, ◌++◌, Some, None, length, map, refl, ap, sym, ◌∙◌, subst, arith, length-set}
use Rattle.std.proofs.lemmas.Bool.{cases_eq}
use Rattle.std.specs.Prelude.{Option, MatchOption, option_map, slice_get, slice_set}
use Rattle.gz_config.specs.declared.Config.{Config}
use Rattle.gz_core.specs.Names.{Name}
use Rattle.gz_core.specs.declared.calls.Call.{Call}
use Rattle.gz_core.specs.declared.requests.Op.{Op}
use Rattle.gz_core.specs.declared.requests.Out.{Out}
use Rattle.gz_core.specs.declared.requests.Reply.{Reply}
use Rattle.gz_core.specs.declared.requests.Turn.{Turn}
use Rattle.gz_core.specs.declared.values.Value.{Value}
use Rattle.gz_core.specs.History.{Asked, Action, GaveUp, Trace, sent_from, begun, turned}
use Rattle.gz_round.specs.Sites.{as_heard, written_by}
use Rattle.gz_client.specs.Traces.{AllKeepRules}
use Rattle.gz_world.specs.declared.events.Effect.{Effect}
use Rattle.gz_world.specs.declared.events.Event.{Event}
use Rattle.gz_world.specs.declared.events.Event.TheVariants as events
use Rattle.gz_laws.specs.Carried.{AreCarried}
use Rattle.gz_laws.specs.Exchanged.{Exchange, reply_handed, exchange_of, exchanges_from, exchanges_in, with_answer, without_answer, changed_at, exchanges_told, IsExchanged, IsCallOf, IsHandedOne, AreExchanged}
use Rattle.gz_laws.specs.Each.{EachTrace}
use Rattle.gz_laws.specs.Listed.{AreCallsListed}
use Rattle.gz_world.specs.Reached.{IsOpening, IsReached, opened, stepped}
use Rattle.gz_world.specs.Refusals.{refusal_of}
use Rattle.gz_world.specs.States.{RequestAt, State, tick_of, next_of, numbered, with_reply, with_handed, with_given_up, sent_request, sent_requests}
use Rattle.gz_world.specs.Steps.{SessionMoves, BeginsBy, DeliversBy, TurnBy, TakesTurn, hears, HasEffect, Does, Skips, WorldStep}
use Rattle.gz_world.proofs.Members.{numbered_place, place_numbered}
use Rattle.gz_world.proofs.Places.{get_append}
use Rattle.gz_laws.proofs.Carrying.{carried}
use Rattle.gz_laws.proofs.Exchanges.{exchanges_append, exchanges_sent, sent_exchanges, sent_others, none_named, exchanges_changed, exchanges_kept, told_sent, told_closing}
use Rattle.gz_laws.proofs.Listing.{listed, traces_here, traces_there}
use Rattle.gz_laws.proofs.RunTools.{set_cases, two_cases, fresh_request}
use Rattle.gz_laws.proofs.Running.{told_request}
use Rattle.gz_laws.proofs.Traces.{each_on, each_moved}

-- the name of one of a session's calls is of the session, and counts no more than they are
call_of_name : (c : Config) (session : ℕ) (ts : List Trace) (name : Name) → AllKeepRules c session ts → IsCallOf ts name → (name.session ≡ session) × (name.seq ≤ length ts)
call_of_name c session [] name told h = absurd h
call_of_name c session (t ∷ ts) name told (inl e) =
    let n : name ≡ record { session = session; seq = length ts + 1 } = sym e ∙ told.1 in
    let q : name.seq ≡ length ts + 1 = ap (λ (x : Name). x.seq) n in
    (ap (λ (x : Name). x.session) n, omega (arith, q))
call_of_name c session (t ∷ ts) name told (inr e) = let r = call_of_name c session ts name told.2 e in let l = r.1 in (r.0, omega (arith, l))

-- of no call but one have the exchanges changed
abbrev OthersKeep : ℕ → List RequestAt → List RequestAt → Name → Type 0
OthersKeep n old new name = (other : Name) → (name ≡ other → ⊥) → exchanges_in n new other ≡ exchanges_in n old other

-- a session's call keeps its name
call_kept : (old new : State) (session : ℕ) (ts : List Trace) (name : Name) → SessionMoves old session ts new → (IsCallOf (old.traces session) name → IsCallOf ts name) → IsCallOf (old.traces name.session) name → IsCallOf (new.traces name.session) name
call_kept old new session ts name moves more h = elim (cases_eq name.session session) [
  | inl e ↦ subst (λ k. IsCallOf k name) (sym (ap new.traces e ∙ traces_here old new session ts moves)) (more (subst (λ k. IsCallOf (old.traces k) name) e h))
  | inr ne ↦ subst (λ k. IsCallOf k name) (sym (traces_there old new session name.session ts moves ne)) h
]

grown_call : (t after : Trace) (ts : List Trace) (name : Name) → after.caller ≡ t.caller → IsCallOf (t ∷ ts) name → IsCallOf (after ∷ ts) name
grown_call t after ts name same (inl e) = inl (ap (λ w. w.name) same ∙ e)
grown_call t after ts name same (inr e) = inr e

-- the configuration never changes
under_same : (old new : State) → new.cfg ≡ old.cfg → (n : ℕ) → EachTrace (IsExchanged old.cfg.n new.net) (new.traces n) → EachTrace (IsExchanged new.cfg.n new.net) (new.traces n)
under_same old new cfg n x = subst (λ (c : Config). EachTrace (IsExchanged c.n new.net) (new.traces n)) (sym cfg) x

exchanged_same : (old new : State) → new.cfg ≡ old.cfg → ((n : ℕ) → new.traces n ≡ old.traces n) → new.net ≡ old.net → AreExchanged old → AreExchanged new
exchanged_same old new cfg traces net x = record {
  traces = λ n. under_same old new cfg n (subst (EachTrace (IsExchanged old.cfg.n new.net)) (sym (traces n)) (subst (λ ks. EachTrace (IsExchanged old.cfg.n ks) (old.traces n)) (sym net) (x.traces n)));
  calls = λ n r h. subst (λ k. IsCallOf k r.name) (sym (traces r.name.session)) (x.calls n r (subst (λ ks. numbered ks n ≡ Some r) net h));
  handed = λ n r h. x.handed n r (subst (λ ks. numbered ks n ≡ Some r) net h);
}

sent_unhanded : (name : Name) (tick : ℕ) (o : Out) (q : RequestAt) → sent_request name tick o ≡ q → IsHandedOne q
sent_unhanded name tick o q e = subst IsHandedOne e (λ at which h. cc)

begin_exchanged : (old new : State) (session : ℕ) (call : Call) (own : Option Value) (turn : Turn) (effect : Effect) → BeginsBy old session call own turn effect new → AreCallsListed old → AreExchanged old → AreExchanged new
begin_exchanged old new session call own turn effect b l x =
    let past = old.traces session in
    let name : Name = record { session = session; seq = length past + 1 } in
    let outs = turn.send in
    let tick = tick_of old in
    let t = begun session call own (next_of old) turn past in
    let sent = sent_requests name tick outs in
    let new_name : (i : ℕ) (r : RequestAt) → slice_get old.net i ≡ Some r → r.name ≡ name → ⊥ = λ i r there e.
    let z : i + 1 - 1 ≡ i = omega arith in
    let at = x.calls (i + 1) r (place_numbered old.net (i + 1) r (omega arith) (ap (slice_get old.net) z ∙ there)) in
    let k = call_of_name old.cfg r.name.session (old.traces r.name.session) r.name (l.told r.name.session) at in
    let most = k.1 in
    let seq : r.name.seq ≡ length past + 1 = ap (λ (y : Name). y.seq) e in
    let same : length (old.traces r.name.session) ≡ length past = ap (λ (y : Name). length (old.traces y.session)) e in
    omega (arith, most, seq, same) in
    let first : 1 + length old.net ≡ next_of old = omega arith in
    let keep : OthersKeep old.cfg.n old.net new.net name = λ other apart.
    ap (λ ks. exchanges_in old.cfg.n ks other) b.net ∙ exchanges_append old.cfg.n 1 old.net sent other
    ∙ ap (λ ks. exchanges_in old.cfg.n old.net other ++ ks) (sent_others old.cfg.n (1 + length old.net) name other tick outs apart) ∙ append_nil (exchanges_in old.cfg.n old.net other) in
    let here : exchanges_in old.cfg.n new.net name ≡ exchanges_told t.actions
    = ap (λ ks. exchanges_in old.cfg.n ks name) b.net ∙ exchanges_append old.cfg.n 1 old.net sent name
    ∙ ap (λ ks. ks ++ exchanges_from old.cfg.n (1 + length old.net) sent name) (none_named old.cfg.n 1 old.net name new_name)
    ∙ ap (λ k. exchanges_from old.cfg.n k sent name) first ∙ sent_exchanges old.cfg.n (next_of old) name tick outs ∙ sym (told_sent (next_of old) outs []) in
    let cases : (n : ℕ) (r : RequestAt) → numbered new.net n ≡ Some r → (numbered old.net n ≡ Some r) ⊎ ((o : Out) × (sent_request name tick o ≡ r))
    = λ n r h. elim (two_cases old.net sent n r (subst (λ ks. numbered ks n ≡ Some r) b.net h)) [ inl e ↦ inl e | inr e ↦ (let k = fresh_request name tick outs e.0 r e.1 in inr (k.0, k.1.1)) ] in
    record {
      traces = λ n. under_same old new b.frame.cfg n (each_moved (IsExchanged old.cfg.n old.net) (IsExchanged old.cfg.n new.net) old new session t past b.moves l.told (λ u apart h. keep u.caller.name apart ∙ h) here (x.traces session) x.traces n);
      calls = λ n r h. elim (cases n r h) [
        | inl e ↦ call_kept old new session (t ∷ past) r.name b.moves (λ k. inr k) (x.calls n r e)
        | inr e ↦ (let own : IsCallOf (new.traces name.session) name = subst (λ k. IsCallOf k name) (sym (traces_here old new session (t ∷ past) b.moves)) (inl refl) in
            subst (λ (q : RequestAt). IsCallOf (new.traces q.name.session) q.name) e.1 own)
      ];
      handed = λ n r h. elim (cases n r h) [ inl e ↦ x.handed n r e | inr e ↦ sent_unhanded name tick e.0 r e.1 ];
    }
  where
    append_nil : (xs : List Exchange) → xs ++ [] ≡ xs
    append_nil [] = refl
    append_nil (y ∷ ys) = ap (λ ks. y ∷ ks) (append_nil ys)

-- a session's turn: one of its requests is handed a reply, or given up, and more are sent
turn_exchanged : (old new : State) (n : ℕ) (r marked : RequestAt) (action : Asked → Action) (by : TurnBy) (effect : Effect) (f : Exchange → Exchange) → TakesTurn old n r action by marked effect new → marked.name ≡ r.name → exchange_of old.cfg.n n marked ≡ f (exchange_of old.cfg.n n r)
    → exchanges_told (action by.asked ∷ by.trace.actions) ≡ map (changed_at by.asked.number f) (exchanges_told by.trace.actions) → IsHandedOne marked → AreCallsListed old → AreCarried old → AreExchanged old → AreExchanged new
turn_exchanged old new n r marked action by effect f t own is tells handed l carries x =
    let name = by.trace.caller.name in
    let session = r.name.session in
    let outs = by.turn.send in
    let tick = tick_of old in
    let mid = slice_set old.net (n - 1) marked in
    let sent = sent_requests name tick outs in
    let place = numbered_place old.net n r t.request in
    let positive = place.0 in
    let number : 1 + (n - 1) ≡ n = omega (arith, positive) in
    let request = told_request old new n r marked action by effect t carries in
    let mine : r.name ≡ name = request.name_is in
    let ms = action by.asked ∷ by.trace.actions in
    let after = turned (next_of old) by.turn (action by.asked) by.closing by.trace in
    let before : EachTrace (IsExchanged old.cfg.n old.net) (by.trace ∷ by.earlier) = subst (EachTrace (IsExchanged old.cfg.n old.net)) t.traces (x.traces session) in
    let len : 1 + length mid ≡ next_of old = ap (λ k. 1 + k) (length-set old.net (n - 1) marked) ∙ omega arith in
    let changed : exchanges_in old.cfg.n mid r.name ≡ map (changed_at n f) (exchanges_in old.cfg.n old.net r.name)
    = exchanges_changed old.cfg.n 1 (n - 1) f old.net r marked place.1 own (ap (λ k. exchange_of old.cfg.n k marked) number ∙ is ∙ ap (λ k. f (exchange_of old.cfg.n k r)) (sym number)) ∙ ap (λ k. map (changed_at k f) (exchanges_in old.cfg.n old.net r.name)) number in
    let keep : OthersKeep old.cfg.n old.net new.net name = λ other apart.
    ap (λ ks. exchanges_in old.cfg.n ks other) t.net ∙ exchanges_append old.cfg.n 1 mid sent other
    ∙ ap (λ ks. exchanges_in old.cfg.n mid other ++ ks) (sent_others old.cfg.n (1 + length mid) name other tick outs apart) ∙ append_nil (exchanges_in old.cfg.n mid other)
    ∙ exchanges_kept old.cfg.n 1 (n - 1) old.net r marked other place.1 own (λ e. absurd (apart (sym mine ∙ e))) in
    let now : exchanges_in old.cfg.n mid name ≡ exchanges_told ms
    = ap (exchanges_in old.cfg.n mid) (sym mine) ∙ changed ∙ ap (λ k. map (changed_at n f) (exchanges_in old.cfg.n old.net k)) mine ∙ ap (map (changed_at n f)) before.0
    ∙ ap (λ k. map (changed_at k f) (exchanges_told by.trace.actions)) (sym t.awaited.number_is) ∙ sym tells in
    let here : exchanges_in old.cfg.n new.net name ≡ exchanges_told after.actions
    = ap (λ ks. exchanges_in old.cfg.n ks name) t.net ∙ exchanges_append old.cfg.n 1 mid sent name
    ∙ ap (λ ks. exchanges_in old.cfg.n mid name ++ ks) (ap (λ k. exchanges_from old.cfg.n k sent name) len ∙ sent_exchanges old.cfg.n (next_of old) name tick outs) ∙ ap (λ ks. ks ++ exchanges_sent (next_of old) outs) now
    ∙ sym (told_sent (next_of old) outs ms) ∙ sym (told_closing by.closing (sent_from (next_of old) outs ms) t.closing) in
    let cases : (m : ℕ) (q : RequestAt) → numbered new.net m ≡ Some q → ((q ≡ marked) ⊎ (numbered old.net m ≡ Some q)) ⊎ ((o : Out) × (sent_request name tick o ≡ q))
    = λ m q h. elim (two_cases mid sent m q (subst (λ ks. numbered ks m ≡ Some q) t.net h)) [
      | inl e ↦ inl (set_cases old.net n m r marked q t.request e)
      | inr e ↦ (let k = fresh_request name tick outs e.0 q e.1 in inr (k.0, k.1.1))
    ] in
    let stay : (q : Name) → IsCallOf (old.traces q.session) q → IsCallOf (new.traces q.session) q
    = λ q. call_kept old new session (after ∷ by.earlier) q t.moves (λ k. grown_call by.trace after by.earlier q refl (subst (λ ts. IsCallOf ts q) t.traces k)) in
    let first : IsCallOf (new.traces r.name.session) r.name = stay r.name (x.calls n r t.request) in
    record {
      traces = λ m. under_same old new t.frame.cfg m (each_moved (IsExchanged old.cfg.n old.net) (IsExchanged old.cfg.n new.net) old new session after by.earlier t.moves l.told (λ u apart h. keep u.caller.name apart ∙ h) here before.1 x.traces m);
      calls = λ m q h. elim (cases m q h) [
        | inl e ↦ elim e [ inl k ↦ subst (λ (y : Name). IsCallOf (new.traces y.session) y) (sym (ap (λ (y : RequestAt). y.name) k ∙ own)) first | inr k ↦ stay q.name (x.calls m q k) ]
        | inr e ↦ subst (λ (y : Name). IsCallOf (new.traces y.session) y) (mine ∙ ap (λ (y : RequestAt). y.name) e.1) first
      ];
      handed = λ m q h. elim (cases m q h) [
        | inl e ↦ elim e [ inl k ↦ subst IsHandedOne (sym k) handed | inr k ↦ x.handed m q k ]
        | inr e ↦ sent_unhanded name tick e.0 q e.1
      ];
    }
  where
    append_nil : (xs : List Exchange) → xs ++ [] ≡ xs
    append_nil [] = refl
    append_nil (y ∷ ys) = ap (λ ks. y ∷ ks) (append_nil ys)

-- one more reply leaves the one that was handed
numbered_more : {A : Type 0} (xs ys : List A) (n : ℕ) (x : A) → numbered xs n ≡ Some x → numbered (xs ++ ys) n ≡ Some x
numbered_more xs ys n x h = let p = numbered_place xs n x h in place_numbered (xs ++ ys) n x p.0 (get_append xs ys (n - 1) x p.1)

reply_kept : (n : ℕ) (op : Op) (replies : List (ℕ × Reply)) (more : ℕ × Reply) (handed : Option (ℕ × ℕ)) → ((tick which : ℕ) → handed ≡ Some (tick, which) → (reply : ℕ × Reply) × (numbered replies which ≡ Some reply))
    → reply_handed n op (replies ++ more ∷ []) handed ≡ reply_handed n op replies handed
reply_kept n op replies more None there = refl
reply_kept n op replies more (Some h) there =
    let k = there h.0 h.1 refl in
    ap (option_map (λ (q : ℕ × Reply). as_heard n (written_by op) q.1)) (numbered_more replies (more ∷ []) h.1 k.0 k.1 ∙ sym k.1)

deliver_exchanged : (old new : State) (n : ℕ) (r : RequestAt) (reply : Reply) (effect : Effect) → DeliversBy old n r reply effect new → AreExchanged old → AreExchanged new
deliver_exchanged old new n r reply effect d x =
    let tick = tick_of old in
    let marked = with_reply tick reply r in
    let place = numbered_place old.net n r d.request in
    let one = x.handed n r d.request in
    let same : (k : ℕ) → exchange_of old.cfg.n k marked ≡ exchange_of old.cfg.n k r = λ k.
    ap (λ o. (let y : Exchange = record { asked = record { number = k; site = r.site; op = r.op; awaited = r.awaited }; reply = o; given_up = (exchange_of old.cfg.n k r).given_up } in y)) (reply_kept old.cfg.n r.op r.replies (tick, reply) r.handed one) in
    let keep : (name : Name) → exchanges_in old.cfg.n new.net name ≡ exchanges_in old.cfg.n old.net name = λ name.
    ap (λ ks. exchanges_in old.cfg.n ks name) d.net ∙ exchanges_kept old.cfg.n 1 (n - 1) old.net r marked name place.1 refl (λ e. same (1 + (n - 1))) in
    let cases : (m : ℕ) (q : RequestAt) → numbered new.net m ≡ Some q → (q ≡ marked) ⊎ (numbered old.net m ≡ Some q)
    = λ m q h. set_cases old.net n m r marked q d.request (subst (λ ks. numbered ks m ≡ Some q) d.net h) in
    let stay : (q : Name) → IsCallOf (old.traces q.session) q → IsCallOf (new.traces q.session) q = λ q h. subst (λ ts. IsCallOf ts q) (sym (d.sessions.traces q.session)) h in
    record {
      traces = λ m. under_same old new d.frame.cfg m (subst (EachTrace (IsExchanged old.cfg.n new.net)) (sym (d.sessions.traces m)) (each_on (IsExchanged old.cfg.n old.net) (IsExchanged old.cfg.n new.net) (old.traces m) (λ u h. keep u.caller.name ∙ h) (x.traces m)));
      calls = λ m q h. elim (cases m q h) [
        | inl e ↦ subst (λ (y : RequestAt). IsCallOf (new.traces y.name.session) y.name) (sym e) (stay r.name (x.calls n r d.request))
        | inr e ↦ stay q.name (x.calls m q e)
      ];
      handed = λ m q h. elim (cases m q h) [
        | inl e ↦ subst IsHandedOne (sym e) (λ at which is. let k = one at which is in (k.0, numbered_more r.replies ((tick, reply) ∷ []) which k.0 k.1))
        | inr e ↦ x.handed m q e
      ];
    }

hand_exchanged : (old new : State) (n which : ℕ) (r : RequestAt) (reply : ℕ × Reply) (by : TurnBy) (effect : Effect) → numbered r.replies which ≡ Some reply → TakesTurn old n r (hears old.cfg.n reply.1) by (with_handed (tick_of old) which r) effect new
    → AreCallsListed old → AreCarried old → AreExchanged old → AreExchanged new
hand_exchanged old new n which r reply by effect there t l carries x =
    let heard = as_heard old.cfg.n (written_by r.op) reply.1 in
    let op = (told_request old new n r (with_handed (tick_of old) which r) (hears old.cfg.n reply.1) by effect t carries).op_is in
    let is : exchange_of old.cfg.n n (with_handed (tick_of old) which r) ≡ with_answer heard (exchange_of old.cfg.n n r)
    = ap (λ o. (let y : Exchange = record { asked = record { number = n; site = r.site; op = r.op; awaited = r.awaited }; reply = o; given_up = (exchange_of old.cfg.n n r).given_up } in y)) (ap (option_map (λ (q : ℕ × Reply). as_heard old.cfg.n (written_by r.op) q.1)) there) in
    turn_exchanged old new n r (with_handed (tick_of old) which r) (hears old.cfg.n reply.1) by effect (with_answer heard) t refl is
    (ap (λ q. map (changed_at by.asked.number (with_answer (as_heard old.cfg.n (written_by q) reply.1))) (exchanges_told by.trace.actions)) (sym op))
    (λ tick k e. let same : which ≡ k = second_of (tick_of old, which) (tick, k) e in (reply, ap (numbered r.replies) (sym same) ∙ there)) l carries x
  where
    second_of : (a b : ℕ × ℕ) → Some a ≡ Some b → a.1 ≡ b.1
    second_of a b e = let p : a ≡ b = cc in ap (λ (w : ℕ × ℕ). w.1) p

give_up_exchanged : (old new : State) (n : ℕ) (r : RequestAt) (by : TurnBy) (effect : Effect) → TakesTurn old n r (λ a. GaveUp a) by (with_given_up (tick_of old) r) effect new → AreCallsListed old → AreCarried old → AreExchanged old → AreExchanged new
give_up_exchanged old new n r by effect t l carries x =
    turn_exchanged old new n r (with_given_up (tick_of old) r) (λ a. GaveUp a) by effect without_answer t refl refl refl (x.handed n r t.request) l carries x

does_exchanged : (old new : State) (event : Event) (effect : Effect) → Does old event effect new → AreCallsListed old → AreCarried old → AreExchanged old → AreExchanged new
does_exchanged old new events.OpenSession effect d l c x = exchanged_same old new d.frame.cfg d.traces d.net x
does_exchanged old new (events.Begin session call) effect d l c x = begin_exchanged old new session call d.0 d.1.0 effect d.1.1 l x
does_exchanged old new (events.Deliver n) effect d l c x = deliver_exchanged old new n d.0 d.1.0 effect d.1.1 x
does_exchanged old new (events.Reply n which) effect d l c x = hand_exchanged old new n which d.0 d.1.0 d.1.1.0 effect d.1.1.1.0 d.1.1.1.1 l c x
does_exchanged old new (events.GiveUp n) effect d l c x = give_up_exchanged old new n d.0 d.1.0 effect d.1.1 l c x
does_exchanged old new (events.Crash session) effect d l c x = exchanged_same old new d.frame.cfg d.traces d.net x

acts_exchanged : (old new : State) (event : Event) (effect : Effect) → HasEffect old event effect new → AreCallsListed old → AreCarried old → AreExchanged old → AreExchanged new
acts_exchanged old new event effect acts l c x =
    elim (refusal_of old event) as (λ o. MatchOption o (Does old event effect new) (λ why. Skips old event why effect new) → AreExchanged new) [
      | None ↦ λ d. does_exchanged old new event effect d l c x
      | Some why ↦ λ k. exchanged_same old new k.same.frame.cfg k.same.sessions.traces k.same.net x
    ] acts

step_exchanged : (old new : State) (event : Event) → WorldStep old event new → AreCallsListed old → AreCarried old → AreExchanged old → AreExchanged new
step_exchanged old new event step l c x =
    let records = step.1.1.1.1 in
    exchanged_same step.1.0 new records.cfg records.sessions.traces records.net (acts_exchanged old step.1.0 event step.0 step.1.1.1.0 l c x)

opening_exchanged : (s : State) → IsOpening s → AreExchanged s
opening_exchanged s o = record {
  traces = λ n. subst (EachTrace (IsExchanged s.cfg.n s.net)) (sym (o.traces n)) tt;
  calls = λ n r h. absurd (none_there n r (subst (λ ks. numbered ks n ≡ Some r) o.net h));
  handed = λ n r h. absurd (none_there n r (subst (λ ks. numbered ks n ≡ Some r) o.net h));
}
  where
    none_there : (n : ℕ) (r : RequestAt) → numbered [] n ≡ Some r → ⊥
    none_there n r h = let k = (numbered_place [] n r h).1 in cc

-- in every world that is reached
pub exchanged : (s : State) → IsReached s → AreExchanged s
exchanged _ (opened s o) = opening_exchanged s o
exchanged _ (stepped old new event h step) = step_exchanged old new event step (listed old h) (carried old h) (exchanged old h)
