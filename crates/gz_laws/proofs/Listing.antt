-- Each step keeps the calls of the history those of the sessions' traces.
use Rattle.std.proofs.Common.{◌≡◌, ◌≢◌, ℕ, ◌+◌, ◌≤◌, inl, inr, List, [], ◌∷◌, ◌++◌, Some, None, Bool, true, false, length, refl, ap, sym, ◌∙◌, subst, arith}
use Rattle.std.proofs.lemmas.Bool.{cases_eq}
use Rattle.std.proofs.lemmas.Bool.Decides.{nat_tests}
use Rattle.std.specs.Prelude.{Option, MatchOption, ◌==◌, if◌then◌else◌, slice_get, slice_set}
use Rattle.gz_core.specs.Names.{Name}
use Rattle.gz_core.specs.declared.calls.Answer.{Answer}
use Rattle.gz_core.specs.declared.calls.Call.{Call}
use Rattle.gz_config.specs.declared.Config.{Config}
use Rattle.gz_core.specs.declared.requests.Turn.{Turn}
use Rattle.gz_core.specs.History.{Asked, Action, GaveUp, Caller, Trace, begun, turned}
use Rattle.gz_core.specs.declared.values.Value.{Value}
use Rattle.gz_client.specs.Traces.{KeepsRules, AllKeepRules}
use Rattle.gz_history.specs.declared.record.CallRec.{CallRec}
use Rattle.gz_world.specs.declared.events.Effect.{Effect}
use Rattle.gz_world.specs.declared.events.Event.{Event}
use Rattle.gz_world.specs.declared.events.Event.TheVariants as events
use Rattle.gz_laws.specs.Listed.{IsTraceOf, IsAmong, AreCallsListed}
use Rattle.gz_world.specs.Reached.{IsOpening, IsReached, opened, stepped}
use Rattle.gz_world.specs.Refusals.{refusal_of}
use Rattle.gz_world.specs.States.{RequestAt, State, tick_of, next_of, end_at}
use Rattle.gz_world.specs.Steps.{SessionMoves, BeginsBy, TurnBy, TakesTurn, CallEnds, answered, HasEffect, Does, Skips, WorldStep, hears}
use Rattle.gz_world.proofs.Places.{get_set_same, get_set_other, get_of_two, get_one}

-- the name of a call is of its session, and counts no more than the calls of the session
pub among_name : (c : Config) (session : ℕ) (call : CallRec) (ts : List Trace) → AllKeepRules c session ts → IsAmong c call ts → (call.name.session ≡ session) × (call.name.seq ≤ length ts)
among_name c session call [] told h = absurd h
among_name c session call (t ∷ ts) told h = elim h [
  | inl e ↦ (let n : call.name ≡ record { session = session; seq = length ts + 1 } = sym e.name_is ∙ told.1 in
      let q : call.name.seq ≡ length ts + 1 = ap (λ (x : Name). x.seq) n in
      (ap (λ (x : Name). x.session) n, omega (arith, q)))
  | inr e ↦ (let r = among_name c session call ts told.2 e in let l = r.1 in (r.0, omega (arith, l)))
]

-- the traces of the session that moves, and of another
pub traces_here : (old new : State) (session : ℕ) (ts : List Trace) → SessionMoves old session ts new → new.traces session ≡ ts
traces_here old new session ts m = m.traces session ∙ (let t : (session == session) ≡ true = grind (arith, nat_tests) in ap (λ (b : Bool). if b then ts else old.traces session) t)

pub traces_there : (old new : State) (session n : ℕ) (ts : List Trace) → SessionMoves old session ts new → n ≢ session → new.traces n ≡ old.traces n
traces_there old new session n ts m apart = m.traces n ∙ (let t : (n == session) ≡ false = grind (arith, nat_tests) in ap (λ (b : Bool). if b then ts else old.traces n) t)

moved_told : (old new : State) (session : ℕ) (ts : List Trace) → new.cfg ≡ old.cfg → SessionMoves old session ts new → ((n : ℕ) → AllKeepRules old.cfg n (old.traces n)) → (n : ℕ) → AllKeepRules new.cfg n (new.traces n)
moved_told old new session ts cfg m told n =
    subst (λ c. AllKeepRules c n (new.traces n)) (sym cfg) (elim (cases_eq n session) [
      | inl e ↦ subst (λ k. AllKeepRules old.cfg k (new.traces k)) (sym e) (subst (AllKeepRules old.cfg session) (sym (traces_here old new session ts m)) m.told)
      | inr ne ↦ subst (AllKeepRules old.cfg n) (sym (traces_there old new session n ts m ne)) (told n)
    ])

-- a trace that is among those of a session stays there
among_same : (old new : State) (call : CallRec) (n : ℕ) → new.cfg ≡ old.cfg → new.traces n ≡ old.traces n → IsAmong old.cfg call (old.traces n) → IsAmong new.cfg call (new.traces n)
among_same old new call n cfg traces h = subst (λ c. IsAmong c call (new.traces n)) (sym cfg) (subst (IsAmong old.cfg call) (sym traces) h)

among_here : (old new : State) (call : CallRec) (session : ℕ) (ts : List Trace) → new.cfg ≡ old.cfg → SessionMoves old session ts new → IsAmong old.cfg call ts → IsAmong new.cfg call (new.traces session)
among_here old new call session ts cfg m h = subst (λ c. IsAmong c call (new.traces session)) (sym cfg) (subst (IsAmong old.cfg call) (sym (traces_here old new session ts m)) h)

-- nothing that the history says has changed
listed_same : (old new : State) → new.cfg ≡ old.cfg → ((n : ℕ) → new.traces n ≡ old.traces n) → new.calls ≡ old.calls → AreCallsListed old → AreCallsListed new
listed_same old new cfg traces calls l = record {
  told = λ n. subst (λ c. AllKeepRules c n (new.traces n)) (sym cfg) (subst (AllKeepRules old.cfg n) (sym (traces n)) (l.told n));
  traces = λ i call h. among_same old new call call.name.session cfg (traces call.name.session) (l.traces i call (subst (λ cs. slice_get cs i ≡ Some call) calls h));
  apart = λ i j a b h k e. l.apart i j a b (subst (λ cs. slice_get cs i ≡ Some a) calls h) (subst (λ cs. slice_get cs j ≡ Some b) calls k) e;
}

-- a call that begins
abbrev fresh_call : State → ℕ → Call → Turn → CallRec
fresh_call old session call turn = record {
  name = record { session = session; seq = length (old.traces session) + 1 };
  call = call;
  begin = tick_of old;
  end = end_at (tick_of old) turn.answer;
  answer = turn.answer;
}

-- an earlier call has another name
not_fresh : (old : State) (session : ℕ) (call : Call) (turn : Turn) (i : ℕ) (a : CallRec) → AreCallsListed old → slice_get old.calls i ≡ Some a → a.name ≡ record { session = session; seq = length (old.traces session) + 1 } → ⊥
not_fresh old session call turn i a l h e =
    let r = among_name old.cfg a.name.session a (old.traces a.name.session) (l.told a.name.session) (l.traces i a h) in
    let s : a.name.session ≡ session = ap (λ (x : Name). x.session) e in
    let q : a.name.seq ≡ length (old.traces session) + 1 = ap (λ (x : Name). x.seq) e in
    let most = r.1 in
    let same : length (old.traces a.name.session) ≡ length (old.traces session) = ap (λ k. length (old.traces k)) s in
    omega (arith, q, most, same)

begun_apart : (old : State) (session : ℕ) (call : Call) (turn : Turn) → AreCallsListed old → (i j : ℕ) (a b : CallRec)
    → slice_get (old.calls ++ fresh_call old session call turn ∷ []) i ≡ Some a → slice_get (old.calls ++ fresh_call old session call turn ∷ []) j ≡ Some b → a.name ≡ b.name → i ≡ j
begun_apart old session call turn l i j a b h k e =
    elim (get_of_two old.calls (fresh_call old session call turn ∷ []) i a h) [
      | inl x ↦ elim (get_of_two old.calls (fresh_call old session call turn ∷ []) j b k) [
        | inl y ↦ l.apart i j a b x y e
        | inr y ↦ absurd (not_fresh old session call turn i a l x (e ∙ sym (ap (λ (c : CallRec). c.name) (get_one (fresh_call old session call turn) b y.0 y.1.1).1)))
      ]
      | inr x ↦ elim (get_of_two old.calls (fresh_call old session call turn ∷ []) j b k) [
        | inl y ↦ absurd (not_fresh old session call turn j b l y (sym e ∙ sym (ap (λ (c : CallRec). c.name) (get_one (fresh_call old session call turn) a x.0 x.1.1).1)))
        | inr y ↦ x.1.0 ∙ ap (λ z. length old.calls + z) (get_one (fresh_call old session call turn) a x.0 x.1.1).0 ∙ sym (y.1.0 ∙ ap (λ z. length old.calls + z) (get_one (fresh_call old session call turn) b y.0 y.1.1).0)
      ]
    ]

begun_among : (old new : State) (session : ℕ) (call : Call) (own : Option Value) (turn : Turn) (effect : Effect) (i : ℕ) (a : CallRec) → BeginsBy old session call own turn effect new → AreCallsListed old
    → slice_get (old.calls ++ fresh_call old session call turn ∷ []) i ≡ Some a → IsAmong new.cfg a (new.traces a.name.session)
begun_among old new session call own turn effect i a b l h =
    let ts = begun session call own (next_of old) turn (old.traces session) ∷ old.traces session in
    elim (get_of_two old.calls (fresh_call old session call turn ∷ []) i a h) [
      | inl x ↦ elim (cases_eq a.name.session session) [
        | inl e ↦ subst (λ k. IsAmong new.cfg a (new.traces k)) (sym e) (among_here old new a session ts b.frame.cfg b.moves (inr (subst (λ k. IsAmong old.cfg a (old.traces k)) e (l.traces i a x))))
        | inr ne ↦ among_same old new a a.name.session b.frame.cfg (traces_there old new session a.name.session ts b.moves ne) (l.traces i a x)
      ]
      | inr x ↦ subst (λ (c : CallRec). IsAmong new.cfg c (new.traces c.name.session)) (get_one (fresh_call old session call turn) a x.0 x.1.1).1
          (among_here old new (fresh_call old session call turn) session ts b.frame.cfg b.moves (inl (record { name_is = refl; call_is = refl; answer = refl; within = b.within; told = b.moves.told.0 })))
    ]

begin_listed : (old new : State) (session : ℕ) (call : Call) (own : Option Value) (turn : Turn) (effect : Effect) → BeginsBy old session call own turn effect new → AreCallsListed old → AreCallsListed new
begin_listed old new session call own turn effect b l = record {
  told = moved_told old new session (begun session call own (next_of old) turn (old.traces session) ∷ old.traces session) b.frame.cfg b.moves l.told;
  traces = λ i a h. begun_among old new session call own turn effect i a b l (subst (λ cs. slice_get cs i ≡ Some a) b.calls h);
  apart = λ i j x y h k e. begun_apart old session call turn l i j x y (subst (λ cs. slice_get cs i ≡ Some x) b.calls h) (subst (λ cs. slice_get cs j ≡ Some y) b.calls k) e;
}

-- the record of a call that perhaps ends keeps its name
pub answered_name : (tick : ℕ) (o : Option Answer) (c : CallRec) → (answered tick o c).name ≡ c.name
answered_name tick None c = refl
answered_name tick (Some answer) c = refl

answered_trace : (cfg : Config) (tick : ℕ) (o : Option Answer) (c : CallRec) (past : List Trace) (t after : Trace) → t.answer ≡ None → after.caller ≡ t.caller → after.answer ≡ o → KeepsRules cfg past after → IsTraceOf cfg c past t → IsTraceOf cfg (answered tick o c) past after
answered_trace cfg tick None c past t after runs caller answer told e = record { name_is = ap (λ (w : Caller). w.name) caller ∙ e.name_is; call_is = ap (λ (w : Caller). w.call) caller ∙ e.call_is; answer = answer ∙ sym runs ∙ e.answer; within = e.within; told = told }
answered_trace cfg tick (Some a) c past t after runs caller answer told e = record { name_is = ap (λ (w : Caller). w.name) caller ∙ e.name_is; call_is = ap (λ (w : Caller). w.call) caller ∙ e.call_is; answer = answer; within = e.within; told = told }

-- the newest of some traces is that of the call with its name
pub newest : (cfg : Config) (session : ℕ) (c : CallRec) (t : Trace) (ts : List Trace) → AllKeepRules cfg session (t ∷ ts) → IsAmong cfg c (t ∷ ts) → c.name ≡ t.caller.name → IsTraceOf cfg c ts t
newest cfg session c t ts told h name = elim h [
  | inl e ↦ e
  | inr e ↦ (let r = among_name cfg session c ts told.2 e in
      let most = r.1 in
      let q : c.name.seq ≡ length ts + 1 = ap (λ (x : Name). x.seq) (name ∙ told.1) in
      absurd (omega (arith, q, most)))
]

-- what a session's turn is about
pub record Turns (old new : State) (session : ℕ) (by : TurnBy) (after : Trace) : Type 0 where
  pub cfg : new.cfg ≡ old.cfg
  pub traces : old.traces session ≡ by.trace ∷ by.earlier
  pub running : by.trace.answer ≡ None
  pub caller : after.caller ≡ by.trace.caller
  pub answer : after.answer ≡ by.turn.answer
  pub moves : SessionMoves old session (after ∷ by.earlier) new
  pub calls : CallEnds old.calls by.trace.caller.name (tick_of old) by.turn.answer new.calls

old_told : (old new : State) (session : ℕ) (by : TurnBy) (after : Trace) → Turns old new session by after → AreCallsListed old → AllKeepRules old.cfg session (by.trace ∷ by.earlier)
old_told old new session by after t l = subst (AllKeepRules old.cfg session) t.traces (l.told session)

turn_ended : (old new : State) (session : ℕ) (by : TurnBy) (after : Trace) → (t : Turns old new session by after) → AreCallsListed old → let c = answered (tick_of old) by.turn.answer t.calls.1.0 in IsAmong new.cfg c (new.traces c.name.session)
turn_ended old new session by after t l =
    let c = t.calls.1.0 in
    let told = old_told old new session by after t l in
    let here : c.name.session ≡ session = ap (λ (x : Name). x.session) (t.calls.1.1.1.0 ∙ told.1) in
    let among : IsAmong old.cfg c (by.trace ∷ by.earlier) = subst (IsAmong old.cfg c) (ap old.traces here ∙ t.traces) (l.traces t.calls.0 c t.calls.1.1.0) in
    let is = newest old.cfg session c by.trace by.earlier told among t.calls.1.1.1.0 in
    subst (λ k. IsAmong new.cfg (answered (tick_of old) by.turn.answer c) (new.traces k)) (sym (ap (λ (x : Name). x.session) (answered_name (tick_of old) by.turn.answer c) ∙ here))
    (among_here old new (answered (tick_of old) by.turn.answer c) session (after ∷ by.earlier) t.cfg t.moves (inl (answered_trace old.cfg (tick_of old) by.turn.answer c by.earlier by.trace after t.running t.caller t.answer t.moves.told.0 is)))

turn_other : (old new : State) (session : ℕ) (by : TurnBy) (after : Trace) (t : Turns old new session by after) (j : ℕ) (c : CallRec) → AreCallsListed old → j ≢ t.calls.0 → slice_get old.calls j ≡ Some c → IsAmong new.cfg c (new.traces c.name.session)
turn_other old new session by after t j c l apart h =
    elim (cases_eq c.name.session session) [
      | inl e ↦ subst (λ k. IsAmong new.cfg c (new.traces k)) (sym e) (among_here old new c session (after ∷ by.earlier) t.cfg t.moves
          (elim (subst (IsAmong old.cfg c) (ap old.traces e ∙ t.traces) (l.traces j c h)) [
            | inl f ↦ absurd (apart (l.apart j t.calls.0 c t.calls.1.0 h t.calls.1.1.0 (sym f.name_is ∙ sym t.calls.1.1.1.0)))
            | inr f ↦ inr f
          ]))
      | inr ne ↦ among_same old new c c.name.session t.cfg (traces_there old new session c.name.session (after ∷ by.earlier) t.moves ne) (l.traces j c h)
    ]

turn_among : (old new : State) (session : ℕ) (by : TurnBy) (after : Trace) (t : Turns old new session by after) (j : ℕ) (c : CallRec) → AreCallsListed old
    → slice_get (slice_set old.calls t.calls.0 (answered (tick_of old) by.turn.answer t.calls.1.0)) j ≡ Some c → IsAmong new.cfg c (new.traces c.name.session)
turn_among old new session by after t j c l h =
    let ended = answered (tick_of old) by.turn.answer t.calls.1.0 in
    elim (cases_eq j t.calls.0) [
      | inl e ↦ (let k : Some ended ≡ Some c = sym (get_set_same old.calls t.calls.0 t.calls.1.0 ended t.calls.1.1.0) ∙ subst (λ i. slice_get (slice_set old.calls t.calls.0 ended) i ≡ Some c) e h in
          let same : ended ≡ c = cc in
          subst (λ (q : CallRec). IsAmong new.cfg q (new.traces q.name.session)) same (turn_ended old new session by after t l))
      | inr ne ↦ turn_other old new session by after t j c l ne (sym (get_set_other old.calls t.calls.0 j ended ne) ∙ h)
    ]

-- each call has a record with its name before the turn
turn_name : (old new : State) (session : ℕ) (by : TurnBy) (after : Trace) (t : Turns old new session by after) (j : ℕ) (c : CallRec)
    → slice_get (slice_set old.calls t.calls.0 (answered (tick_of old) by.turn.answer t.calls.1.0)) j ≡ Some c → (d : CallRec) × ((slice_get old.calls j ≡ Some d) × (d.name ≡ c.name))
turn_name old new session by after t j c h =
    let ended = answered (tick_of old) by.turn.answer t.calls.1.0 in
    elim (cases_eq j t.calls.0) [
      | inl e ↦ (let k : Some ended ≡ Some c = sym (get_set_same old.calls t.calls.0 t.calls.1.0 ended t.calls.1.1.0) ∙ subst (λ i. slice_get (slice_set old.calls t.calls.0 ended) i ≡ Some c) e h in
          let same : ended ≡ c = cc in
          (t.calls.1.0, (ap (slice_get old.calls) e ∙ t.calls.1.1.0, sym (answered_name (tick_of old) by.turn.answer t.calls.1.0) ∙ ap (λ (q : CallRec). q.name) same)))
      | inr ne ↦ (c, (sym (get_set_other old.calls t.calls.0 j ended ne) ∙ h, refl))
    ]

turn_listed : (old new : State) (session : ℕ) (by : TurnBy) (after : Trace) → Turns old new session by after → AreCallsListed old → AreCallsListed new
turn_listed old new session by after t l = record {
  told = moved_told old new session (after ∷ by.earlier) t.cfg t.moves l.told;
  traces = λ j c h. turn_among old new session by after t j c l (subst (λ cs. slice_get cs j ≡ Some c) t.calls.1.1.1.1 h);
  apart = λ i j a b h k e.
      let x = turn_name old new session by after t i a (subst (λ cs. slice_get cs i ≡ Some a) t.calls.1.1.1.1 h) in
      let y = turn_name old new session by after t j b (subst (λ cs. slice_get cs j ≡ Some b) t.calls.1.1.1.1 k) in
      l.apart i j x.0 y.0 x.1.0 y.1.0 (x.1.1 ∙ e ∙ sym y.1.1);
}

turns : (old new : State) (n : ℕ) (r marked : RequestAt) (action : Asked → Action) (by : TurnBy) (effect : Effect) → TakesTurn old n r action by marked effect new → Turns old new r.name.session by (turned (next_of old) by.turn (action by.asked) by.closing by.trace)
turns old new n r marked action by effect t = record {
  cfg = t.frame.cfg;
  traces = t.traces;
  running = t.awaited.running;
  caller = refl;
  answer = refl;
  moves = t.moves;
  calls = t.calls;
}

does_listed : (old new : State) (event : Event) (effect : Effect) → Does old event effect new → AreCallsListed old → AreCallsListed new
does_listed old new events.OpenSession effect d l = listed_same old new d.frame.cfg d.traces d.calls l
does_listed old new (events.Begin session call) effect d l = begin_listed old new session call d.0 d.1.0 effect d.1.1 l
does_listed old new (events.Deliver n) effect d l = listed_same old new d.1.1.frame.cfg d.1.1.sessions.traces d.1.1.sessions.calls l
does_listed old new (events.Reply n which) effect d l =
    let r = d.0 in
    let by = d.1.1.0 in
    turn_listed old new r.name.session by _ (turns old new n r _ (hears old.cfg.n d.1.0.1) by effect d.1.1.1.1) l
does_listed old new (events.GiveUp n) effect d l =
    let r = d.0 in
    let by = d.1.0 in
    turn_listed old new r.name.session by _ (turns old new n r _ (λ a. GaveUp a) by effect d.1.1) l
does_listed old new (events.Crash session) effect d l = listed_same old new d.frame.cfg d.traces d.calls l

acts_listed : (old new : State) (event : Event) (effect : Effect) → HasEffect old event effect new → AreCallsListed old → AreCallsListed new
acts_listed old new event effect acts l =
    elim (refusal_of old event) as (λ o. MatchOption o (Does old event effect new) (λ why. Skips old event why effect new) → AreCallsListed new) [
      | None ↦ λ d. does_listed old new event effect d l
      | Some why ↦ λ k. listed_same old new k.same.frame.cfg k.same.sessions.traces k.same.sessions.calls l
    ] acts

step_listed : (old new : State) (event : Event) → WorldStep old event new → AreCallsListed old → AreCallsListed new
step_listed old new event step l =
    let records = step.1.1.1.1 in
    listed_same step.1.0 new records.cfg records.sessions.traces records.sessions.calls (acts_listed old step.1.0 event step.0 step.1.1.1.0 l)

opening_listed : (s : State) → IsOpening s → AreCallsListed s
opening_listed s o = record {
  told = λ n. subst (AllKeepRules s.cfg n) (sym (o.traces n)) tt;
  traces = λ i c h. let k : slice_get [] i ≡ Some c = subst (λ cs. slice_get cs i ≡ Some c) o.calls h in cc;
  apart = λ i j a b h k e. let bad : slice_get [] i ≡ Some a = subst (λ cs. slice_get cs i ≡ Some a) o.calls h in cc;
}

-- in every world that is reached
pub listed : (s : State) → IsReached s → AreCallsListed s
listed _ (opened s o) = opening_listed s o
listed _ (stepped old new event h step) = step_listed old new event step (listed old h)
