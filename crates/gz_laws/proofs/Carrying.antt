-- Each step keeps what the traces say of requests and replies as the world carried it.
use Rattle.std.proofs.Common.{◌≡◌, ℕ, zero, suc, ◌+◌, ◌-◌, inl, inr, List, [], ◌∷◌, ◌++◌, Some, None, Bool, true, false, length, refl, ap, sym, ◌∙◌, subst, arith, length-set}
use Rattle.std.proofs.lemmas.Bool.{cases_eq}
use Rattle.std.specs.Prelude.{Option, MatchOption, not, ◌==◌, if◌then◌else◌, slice_get, slice_set}
use Rattle.gz_core.specs.Names.{Name}
use Rattle.gz_core.specs.declared.requests.Out.{Out}
use Rattle.gz_core.specs.declared.calls.Call.{Call}
use Rattle.gz_core.specs.declared.requests.Reply.{Reply}
use Rattle.gz_core.specs.declared.requests.Turn.{Turn}
use Rattle.gz_core.specs.declared.values.Value.{Value}
use Rattle.gz_config.specs.declared.Config.{Config}
use Rattle.std.specs.List.{Contains}
use Rattle.std.proofs.lemmas.List.Elements.{Contains-push_cases}
use Rattle.gz_core.specs.Awaiting.{awaiting}
use Rattle.gz_core.proofs.Awaited.{contains_none, filter_contains}
use Rattle.gz_core.specs.History.{Asked, Action, Sent, Handed, GaveUp, Rested, GaveIn, Trace, asked_of, sent_from, begun, turned, is_row_request}
use Rattle.gz_round.specs.Sites.{site_now, as_heard, seen_in, written_by, is_changed}
use Rattle.gz_round.proofs.Awaits.{awaits_sent, ended_awaits, reply_idle}
use Rattle.gz_client.specs.Traces.{Awaits, IsClosed}
use Rattle.gz_laws.proofs.Closing.{closing_keeps}
use Rattle.gz_world.specs.declared.events.Effect.{Effect}
use Rattle.gz_world.specs.declared.events.Event.{Event}
use Rattle.gz_world.specs.declared.events.Event.TheVariants as events
use Rattle.gz_laws.specs.Carried.{IsRequestOf, ActionCarried, ActionsCarried, TracesCarried, AreCarried}
use Rattle.gz_world.specs.Reached.{IsReached, opened, stepped}
use Rattle.gz_world.specs.Refusals.{refusal_of}
use Rattle.gz_world.specs.States.{RequestAt, State, tick_of, next_of, numbered, with_reply, with_handed, with_given_up, sent_request, sent_requests}
use Rattle.gz_world.specs.Steps.{SessionMoves, BeginsBy, DeliversBy, TurnBy, TakesTurn, hears, HasEffect, Does, Skips, WorldStep}
use Rattle.gz_world.proofs.Members.{numbered_place, place_numbered}
use Rattle.gz_world.proofs.Places.{get_set_same, get_set_other, get_append}
use Rattle.gz_laws.proofs.Listing.{traces_here, traces_there}

-- a request as it stands later: the same request, with the replies that it had and perhaps more
pub record IsLater (r q : RequestAt) : Type 0 where
  pub name : q.name ≡ r.name
  pub site : q.site ≡ r.site
  pub op : q.op ≡ r.op
  pub replies : (i : ℕ) (x : ℕ × Reply) → slice_get r.replies i ≡ Some x → slice_get q.replies i ≡ Some x

abbrev pub Grows : List RequestAt → List RequestAt → Type 0
Grows old new = (n : ℕ) (r : RequestAt) → numbered old n ≡ Some r → (q : RequestAt) × ((numbered new n ≡ Some q) × IsLater r q)

itself : (r : RequestAt) → IsLater r r
itself r = record { name = refl; site = refl; op = refl; replies = λ i x h. h }

pub grows_same : (old new : List RequestAt) → new ≡ old → Grows old new
grows_same old new e = λ n r h. (r, (ap (λ xs. numbered xs n) e ∙ h, itself r))

pub grows_append : (xs ys : List RequestAt) → Grows xs (xs ++ ys)
grows_append xs ys = λ n r h. let p = numbered_place xs n r h in (r, (place_numbered (xs ++ ys) n r p.0 (get_append xs ys (n - 1) r p.1), itself r))

pub grows_set : (xs : List RequestAt) (i : ℕ) (old new : RequestAt) → slice_get xs i ≡ Some old → IsLater old new → Grows xs (slice_set xs i new)
grows_set xs i old new at later = λ n r h.
    let p = numbered_place xs n r h in
    elim (cases_eq (n - 1) i) [
      | inl e ↦ (let k : Some old ≡ Some r = sym at ∙ sym (ap (slice_get xs) e) ∙ p.1 in
          let same : old ≡ r = cc in
          (new, (place_numbered (slice_set xs i new) n new p.0 (ap (slice_get (slice_set xs i new)) e ∙ get_set_same xs i old new at), subst (λ (q : RequestAt). IsLater q new) same later)))
      | inr ne ↦ (r, (place_numbered (slice_set xs i new) n r p.0 (get_set_other xs i (n - 1) new ne ∙ p.1), itself r))
    ]

pub grows_then : (xs ys zs : List RequestAt) → Grows xs ys → Grows ys zs → Grows xs zs
grows_then xs ys zs f g = λ n r h.
    let a = f n r h in
    let b = g n a.0 a.1.0 in
    let x = a.1.1 in
    let y = b.1.1 in
    (b.0, (b.1.0, record { name = y.name ∙ x.name; site = y.site ∙ x.site; op = y.op ∙ x.op; replies = λ i z k. y.replies i z (x.replies i z k) }))

request_later : (old new : List RequestAt) (name : Name) (a : Asked) (r : RequestAt) → Grows old new → IsRequestOf old name a r → (q : RequestAt) × (IsRequestOf new name a q × IsLater r q)
request_later old new name a r grows is =
    let k = grows a.number r is.there in
    let l = k.1.1 in
    (k.0, (record { there = k.1.0; name_is = l.name ∙ is.name_is; site_is = l.site ∙ is.site_is; op_is = l.op ∙ is.op_is }, l))

action_later : (n : ℕ) (old new : List RequestAt) (name : Name) (m : Action) → Grows old new → ActionCarried n old name m → ActionCarried n new name m
action_later n old new name (Sent a) grows h = let k = request_later old new name a h.0 grows h.1 in (k.0, k.1.0)
action_later n old new name (Handed a reply) grows h =
    let k = request_later old new name a h.0 grows h.1.0 in
    let has = h.1.1 in
    let later = k.1.1 in
    (k.0, (k.1.0, record { place = has.place; tick = has.tick; made = has.made; there = later.replies has.place (has.tick, has.made) has.there; heard = has.heard ∙ ap (λ op. as_heard n (written_by op) has.made) (sym later.op) }))
action_later n old new name (GaveUp a) grows h = let k = request_later old new name a h.0 grows h.1 in (k.0, k.1.0)
action_later n old new name Rested grows h = tt
action_later n old new name GaveIn grows h = tt

actions_later : (n : ℕ) (old new : List RequestAt) (name : Name) (ms : List Action) → Grows old new → ActionsCarried n old name ms → ActionsCarried n new name ms
actions_later n old new name [] grows h = tt
actions_later n old new name (m ∷ ms) grows h = (action_later n old new name m grows h.0, actions_later n old new name ms grows h.1)

traces_later : (n : ℕ) (old new : List RequestAt) (ts : List Trace) → Grows old new → TracesCarried n old ts → TracesCarried n new ts
traces_later n old new [] grows h = tt
traces_later n old new (t ∷ ts) grows h = (actions_later n old new t.caller.name t.actions grows h.0, traces_later n old new ts grows h.1)

-- a request that is awaited was sent: one about a row,
pub awaited_carried : (n : ℕ) (net : List RequestAt) (name : Name) (ms : List Action) (s : ℕ) (a : Asked) → ActionsCarried n net name ms → (site_now ms s).awaits ≡ Some a → (r : RequestAt) × IsRequestOf net name a r
awaited_carried n net name [] s a h e = cc
awaited_carried n net name (Sent b ∷ ms) s a h e = elim (awaits_sent ms b a s e) [
  | inl same ↦ (h.0.0, subst (λ (k : Asked). IsRequestOf net name k h.0.0) same.0 h.0.1)
  | inr k ↦ awaited_carried n net name ms s a h.1 k
]
awaited_carried n net name (Handed b reply ∷ ms) s a h e = awaited_carried n net name ms s a h.1 (ended_awaits ms (Handed b reply) a s (reply_idle (seen_in (written_by b.op) reply) (is_changed reply)) e)
awaited_carried n net name (GaveUp b ∷ ms) s a h e = awaited_carried n net name ms s a h.1 (ended_awaits ms (GaveUp b) a s (λ now. refl) e)
awaited_carried n net name (Rested ∷ ms) s a h e = awaited_carried n net name ms s a h.1 (ended_awaits ms Rested a s (λ now. refl) e)
awaited_carried n net name (GaveIn ∷ ms) s a h e = awaited_carried n net name ms s a h.1 (ended_awaits ms GaveIn a s (λ now. refl) e)

sent_listed : (net : List RequestAt) (name : Name) (b : Asked) (rs : List Asked) (a : Asked) (t : Bool) → ((r : RequestAt) × IsRequestOf net name b r) → (Contains rs a → (r : RequestAt) × IsRequestOf net name a r) → Contains (if t then rs ++ b ∷ [] else rs) a
    → (r : RequestAt) × IsRequestOf net name a r
sent_listed net name b rs a true here before h = elim (Contains-push_cases rs b a h) [
  | inl k ↦ before k
  | inr same ↦ (here.0, subst (λ (k : Asked). IsRequestOf net name k here.0) same here.1)
]
sent_listed net name b rs a false here before h = before h

-- and whatever is listed as awaited
listed_carried : (n : ℕ) (net : List RequestAt) (name : Name) (ms : List Action) (a : Asked) → ActionsCarried n net name ms → Contains (awaiting ms) a → (r : RequestAt) × IsRequestOf net name a r
listed_carried n net name [] a h k = absurd (contains_none a k)
listed_carried n net name (Sent b ∷ ms) a h k = sent_listed net name b (awaiting ms) a b.awaited h.0 (listed_carried n net name ms a h.1) k
listed_carried n net name (Handed b reply ∷ ms) a h k = listed_carried n net name ms a h.1 (filter_contains (λ (d : Asked). not (d.number == b.number)) (awaiting ms) a k)
listed_carried n net name (GaveUp b ∷ ms) a h k = listed_carried n net name ms a h.1 (filter_contains (λ (d : Asked). not (d.number == b.number)) (awaiting ms) a k)
listed_carried n net name (Rested ∷ ms) a h k = listed_carried n net name ms a h.1 (filter_contains (λ (d : Asked). not (is_row_request d.op)) (awaiting ms) a k)
listed_carried n net name (GaveIn ∷ ms) a h k = listed_carried n net name ms a h.1 (filter_contains (λ (d : Asked). not (is_row_request d.op)) (awaiting ms) a k)

pub awaits_carried : (n : ℕ) (c : Config) (net : List RequestAt) (name : Name) (ms : List Action) (a : Asked) → ActionsCarried n net name ms → Awaits c ms a → (r : RequestAt) × IsRequestOf net name a r
awaits_carried n c net name ms a h (inl row) = awaited_carried n net name ms a.site a h row.1
awaits_carried n c net name ms a h (inr blob) = listed_carried n net name ms a h (filter_contains (λ (d : Asked). not (is_row_request d.op)) (awaiting ms) a blob)

-- what is sent stands at the end of the net
pub get_after : (xs ys : List RequestAt) (j : ℕ) → slice_get (xs ++ ys) (length xs + j) ≡ slice_get ys j
get_after [] ys j = let e : 0 + j ≡ j = omega arith in ap (slice_get ys) e
get_after (x ∷ xs) ys j = let e : suc (length xs) + j ≡ suc (length xs + j) = omega arith in ap (slice_get (x ∷ (xs ++ ys))) e ∙ get_after xs ys j

pub get_map : (name : Name) (tick : ℕ) (outs : List Out) (j : ℕ) (o : Out) → slice_get outs j ≡ Some o → slice_get (sent_requests name tick outs) j ≡ Some (sent_request name tick o)
get_map name tick [] j o h = cc
get_map name tick (x ∷ xs) zero o h = let e : x ≡ o = cc in ap (λ (k : Out). Some (sent_request name tick k)) e
get_map name tick (x ∷ xs) (suc j) o h = get_map name tick xs j o h

pub sent_there : (xs : List RequestAt) (name : Name) (tick : ℕ) (outs : List Out) (j : ℕ) (o : Out) → slice_get outs j ≡ Some o → numbered (xs ++ sent_requests name tick outs) (length xs + 1 + j) ≡ Some (sent_request name tick o)
sent_there xs name tick outs j o h =
    let e : length xs + 1 + j - 1 ≡ length xs + j = omega arith in
    place_numbered (xs ++ sent_requests name tick outs) (length xs + 1 + j) (sent_request name tick o) (omega arith)
    (ap (slice_get (xs ++ sent_requests name tick outs)) e ∙ get_after xs (sent_requests name tick outs) j ∙ get_map name tick outs j o h)

sends_carried : (n : ℕ) (net : List RequestAt) (name : Name) (tick first : ℕ) (outs : List Out) (ms : List Action) → ((j : ℕ) (o : Out) → slice_get outs j ≡ Some o → numbered net (first + j) ≡ Some (sent_request name tick o)) → ActionsCarried n net name ms → ActionsCarried n net name (sent_from first outs ms)
sends_carried n net name tick first [] ms there h = h
sends_carried n net name tick first (o ∷ os) ms there h =
    let z : first + 0 ≡ first = omega arith in
    sends_carried n net name tick (first + 1) os (Sent (asked_of first o) ∷ ms)
    (λ j p e. let s : first + 1 + j ≡ first + suc j = omega arith in ap (numbered net) s ∙ there (suc j) p e)
    ((sent_request name tick o, record { there = sym (ap (numbered net) z) ∙ there 0 o refl; name_is = refl; site_is = refl; op_is = refl }), h)

closes_carried : (n : ℕ) (net : List RequestAt) (name : Name) (closing ms : List Action) → IsClosed closing → ActionsCarried n net name ms → ActionsCarried n net name (closing ++ ms)
closes_carried n net name closing ms closed h = closing_keeps (ActionsCarried n net name) closing ms closed h (tt, h) (tt, h)

-- the traces of the session that moves, and of the others
moved_carried : (old new : State) (session : ℕ) (ts : List Trace) → new.cfg ≡ old.cfg → SessionMoves old session ts new → Grows old.net new.net → TracesCarried old.cfg.n new.net ts → AreCarried old → AreCarried new
moved_carried old new session ts cfg m grows here h = λ n. subst (λ (c : Config). TracesCarried c.n new.net (new.traces n)) (sym cfg) (elim (cases_eq n session) [
  | inl e ↦ subst (λ k. TracesCarried old.cfg.n new.net (new.traces k)) (sym e) (subst (TracesCarried old.cfg.n new.net) (sym (traces_here old new session ts m)) here)
  | inr ne ↦ subst (TracesCarried old.cfg.n new.net) (sym (traces_there old new session n ts m ne)) (traces_later old.cfg.n old.net new.net (old.traces n) grows (h n))
])

carried_same : (old new : State) → new.cfg ≡ old.cfg → ((n : ℕ) → new.traces n ≡ old.traces n) → Grows old.net new.net → AreCarried old → AreCarried new
carried_same old new cfg traces grows h = λ n. subst (λ (c : Config). TracesCarried c.n new.net (new.traces n)) (sym cfg) (subst (TracesCarried old.cfg.n new.net) (sym (traces n)) (traces_later old.cfg.n old.net new.net (old.traces n) grows (h n)))

begin_carried : (old new : State) (session : ℕ) (call : Call) (own : Option Value) (turn : Turn) (effect : Effect) → BeginsBy old session call own turn effect new → AreCarried old → AreCarried new
begin_carried old new session call own turn effect b h =
    let name : Name = record { session = session; seq = length (old.traces session) + 1 } in
    let outs = sent_requests name (tick_of old) turn.send in
    let grows : Grows old.net new.net = grows_then old.net (old.net ++ outs) new.net (grows_append old.net outs) (grows_same (old.net ++ outs) new.net b.net) in
    moved_carried old new session (begun session call own (next_of old) turn (old.traces session) ∷ old.traces session) b.frame.cfg b.moves grows (
      sends_carried old.cfg.n new.net name (tick_of old) (next_of old) turn.send [] (λ j o e. ap (λ xs. numbered xs (next_of old + j)) b.net ∙ sent_there old.net name (tick_of old) turn.send j o e) tt,
      traces_later old.cfg.n old.net new.net (old.traces session) grows (h session),
    ) h

-- a session's turn, of a request that stays the same but for what is noted of it
turn_carried : (old new : State) (n : ℕ) (r marked : RequestAt) (action : Asked → Action) (by : TurnBy) (effect : Effect) → TakesTurn old n r action by marked effect new → IsLater r marked
    → ((q : RequestAt) → IsLater r q → IsRequestOf new.net by.trace.caller.name by.asked q → ActionCarried old.cfg.n new.net by.trace.caller.name (action by.asked)) → AreCarried old → AreCarried new
turn_carried old new n r marked action by effect t later carry h =
    let name = by.trace.caller.name in
    let place = numbered_place old.net n r t.request in
    let mid = slice_set old.net (n - 1) marked in
    let outs = sent_requests name (tick_of old) by.turn.send in
    let set = grows_set old.net (n - 1) r marked place.1 later in
    let grows : Grows old.net new.net = grows_then old.net mid new.net set (grows_then mid (mid ++ outs) new.net (grows_append mid outs) (grows_same (mid ++ outs) new.net t.net)) in
    let before : TracesCarried old.cfg.n old.net (by.trace ∷ by.earlier) = subst (TracesCarried old.cfg.n old.net) t.traces (h r.name.session) in
    let asked = awaits_carried old.cfg.n old.cfg old.net name by.trace.actions by.asked before.0 t.awaited.awaits in
    let both : Some asked.0 ≡ Some r = sym asked.1.there ∙ ap (numbered old.net) t.awaited.number_is ∙ t.request in
    let own : asked.0 ≡ r = cc in
    let k = request_later old.net new.net name by.asked asked.0 grows asked.1 in
    let now = carry k.0 (subst (λ (q : RequestAt). IsLater q k.0) own k.1.1) k.1.0 in
    let first : next_of old ≡ length mid + 1 = sym (ap (λ x. x + 1) (length-set old.net (n - 1) marked)) in
    let sent = sends_carried old.cfg.n new.net name (tick_of old) (next_of old) by.turn.send (action by.asked ∷ by.trace.actions)
    (λ j o e. ap (λ i. numbered new.net (i + j)) first ∙ ap (λ xs. numbered xs (length mid + 1 + j)) t.net ∙ sent_there mid name (tick_of old) by.turn.send j o e)
    (now, actions_later old.cfg.n old.net new.net name by.trace.actions grows before.0) in
    moved_carried old new r.name.session (turned (next_of old) by.turn (action by.asked) by.closing by.trace ∷ by.earlier) t.frame.cfg t.moves grows
    (closes_carried old.cfg.n new.net name by.closing (sent_from (next_of old) by.turn.send (action by.asked ∷ by.trace.actions)) t.closing sent, traces_later old.cfg.n old.net new.net by.earlier grows before.1) h

pub handed_later : (tick which : ℕ) (r : RequestAt) → IsLater r (with_handed tick which r)
handed_later tick which r = record { name = refl; site = refl; op = refl; replies = λ i x h. h }

pub given_up_later : (tick : ℕ) (r : RequestAt) → IsLater r (with_given_up tick r)
given_up_later tick r = record { name = refl; site = refl; op = refl; replies = λ i x h. h }

pub replied_later : (tick : ℕ) (reply : Reply) (r : RequestAt) → IsLater r (with_reply tick reply r)
replied_later tick reply r = record { name = refl; site = refl; op = refl; replies = λ i x h. get_append r.replies ((tick, reply) ∷ []) i x h }

deliver_carried : (old new : State) (n : ℕ) (r : RequestAt) (reply : Reply) (effect : Effect) → DeliversBy old n r reply effect new → AreCarried old → AreCarried new
deliver_carried old new n r reply effect d h =
    let place = numbered_place old.net n r d.request in
    let after = with_reply (tick_of old) reply r in
    let mid = slice_set old.net (n - 1) after in
    carried_same old new d.frame.cfg d.sessions.traces (grows_then old.net mid new.net (grows_set old.net (n - 1) r after place.1 (replied_later (tick_of old) reply r)) (grows_same mid new.net d.net)) h

hand_carried : (old new : State) (n which : ℕ) (r : RequestAt) (reply : ℕ × Reply) (by : TurnBy) (effect : Effect) → numbered r.replies which ≡ Some reply → TakesTurn old n r (hears old.cfg.n reply.1) by (with_handed (tick_of old) which r) effect new → AreCarried old → AreCarried new
hand_carried old new n which r reply by effect there t h =
    let place = numbered_place r.replies which reply there in
    turn_carried old new n r (with_handed (tick_of old) which r) (hears old.cfg.n reply.1) by effect t (handed_later (tick_of old) which r)
    (λ q later is. (q, (is, record { place = which - 1; tick = reply.0; made = reply.1; there = later.replies (which - 1) reply place.1; heard = ap (λ op. as_heard old.cfg.n (written_by op) reply.1) (sym is.op_is) }))) h

does_carried : (old new : State) (event : Event) (effect : Effect) → Does old event effect new → AreCarried old → AreCarried new
does_carried old new events.OpenSession effect d h = carried_same old new d.frame.cfg d.traces (grows_same old.net new.net d.net) h
does_carried old new (events.Begin session call) effect d h = begin_carried old new session call d.0 d.1.0 effect d.1.1 h
does_carried old new (events.Deliver n) effect d h = deliver_carried old new n d.0 d.1.0 effect d.1.1 h
does_carried old new (events.Reply n which) effect d h = hand_carried old new n which d.0 d.1.0 d.1.1.0 effect d.1.1.1.0 d.1.1.1.1 h
does_carried old new (events.GiveUp n) effect d h =
    turn_carried old new n d.0 (with_given_up (tick_of old) d.0) (λ a. GaveUp a) d.1.0 effect d.1.1 (given_up_later (tick_of old) d.0) (λ q later is. (q, is)) h
does_carried old new (events.Crash session) effect d h = carried_same old new d.frame.cfg d.traces (grows_same old.net new.net d.net) h

pub acts_carried : (old new : State) (event : Event) (effect : Effect) → HasEffect old event effect new → AreCarried old → AreCarried new
acts_carried old new event effect acts h =
    elim (refusal_of old event) as (λ o. MatchOption o (Does old event effect new) (λ why. Skips old event why effect new) → AreCarried new) [
      | None ↦ λ d. does_carried old new event effect d h
      | Some why ↦ λ k. carried_same old new k.same.frame.cfg k.same.sessions.traces (grows_same old.net new.net k.same.net) h
    ] acts

step_carried : (old new : State) (event : Event) → WorldStep old event new → AreCarried old → AreCarried new
step_carried old new event step h =
    let mid = step.1.0 in
    let records = step.1.1.1.1 in
    carried_same mid new records.cfg records.sessions.traces (grows_same mid.net new.net records.net) (acts_carried old mid event step.0 step.1.1.1.0 h)

-- in every world that is reached
pub carried : (s : State) → IsReached s → AreCarried s
carried _ (opened s o) = λ n. subst (TracesCarried s.cfg.n s.net) (sym (o.traces n)) tt
carried _ (stepped old new event h step) = step_carried old new event step (carried old h)
