-- Each step keeps the places of requests and the ticks of calls.
use Rattle.std.proofs.Common.{◌≡◌, ℕ, ◌+◌, ◌<◌, ◌≤◌, ◌⊎◌, inl, inr, List, [], ◌∷◌, Some, None, length, refl, ap, sym, ◌∙◌, subst, arith, length-append}
use Rattle.std.proofs.lemmas.Bool.{cases_eq}
use Rattle.std.specs.Prelude.{Option, MatchOption, is_some, slice_get, slice_set}
use Rattle.gz_core.specs.Names.{Name}
use Rattle.gz_core.specs.Configurations.{IsConfig}
use Rattle.gz_core.specs.declared.calls.Answer.{Answer}
use Rattle.gz_core.specs.declared.calls.Call.{Call}
use Rattle.gz_config.specs.declared.Config.{Config}
use Rattle.gz_core.specs.declared.requests.Out.{Out}
use Rattle.gz_core.specs.declared.requests.Reply.{Reply}
use Rattle.gz_core.specs.declared.requests.Turn.{Turn}
use Rattle.gz_core.specs.History.{Asked, Action, GaveUp, Caller, Trace, sent_from, begun, turned}
use Rattle.gz_core.specs.declared.values.Value.{Value}
use Rattle.gz_round.specs.Sending.{AreAllowed}
use Rattle.gz_history.specs.Broken.{IsHistory}
use Rattle.gz_history.specs.declared.record.CallRec.{CallRec}
use Rattle.gz_world.specs.declared.events.Effect.{Effect}
use Rattle.gz_world.specs.declared.events.Entry.{Entry}
use Rattle.gz_world.specs.declared.events.Event.{Event}
use Rattle.gz_world.specs.declared.events.Event.TheVariants as events
use Rattle.gz_laws.specs.Placed.{IsOfCall, ArePlacedBy, ArePlaced}
use Rattle.gz_world.specs.Reached.{IsOpening, IsReached, opened, stepped}
use Rattle.gz_world.specs.Refusals.{refusal_of}
use Rattle.gz_world.specs.States.{RequestAt, State, tick_of, next_of, numbered, with_reply, with_handed, with_given_up, sent_request, end_at}
use Rattle.gz_world.specs.Steps.{SessionMoves, BeginsBy, DeliversBy, TurnBy, TakesTurn, CallEnds, answered, HasEffect, Does, Skips, WorldStep, hears}
use Rattle.gz_laws.proofs.Beginning.{begun_open}
use Rattle.gz_laws.proofs.Listing.{listed, traces_here, traces_there}
use Rattle.gz_world.proofs.Members.{numbered_place}
use Rattle.gz_world.proofs.Places.{get_of_two, get_one, get_below, get_set_same, get_set_other}
use Rattle.gz_laws.proofs.RunBegins.{begin_net}
use Rattle.gz_laws.proofs.RunSends.{NetFrom, call_before}
use Rattle.gz_laws.proofs.Closing.{closing_allowed, closing_drops}
use Rattle.gz_laws.proofs.BlobSites.{sends_site}
use Rattle.gz_client.specs.Blobs.{AreBlobsAllowed}
use Rattle.gz_laws.proofs.RunTools.{IsAlike, set_cases}
use Rattle.gz_laws.proofs.RunTurns.{turn_net}

-- no session lost a trace
abbrev AreLonger : State → State → Type 0
AreLonger old new = (n : ℕ) → length (old.traces n) ≤ length (new.traces n)

of_call : (old new : State) (r q : RequestAt) → new.cfg ≡ old.cfg → AreLonger old new → q.site ≡ r.site → q.name ≡ r.name → IsOfCall old r → IsOfCall new q
of_call old new r q cfg longer site name h = record {
  site = subst (λ (c : Config). q.site < c.n) (sym cfg) (subst (λ s. s < old.cfg.n) (sym site) h.site);
  call = subst (λ (x : Name). x.seq ≤ length (new.traces x.session)) (sym name) (let l = longer r.name.session in let k = h.call in omega (arith, l, k));
}

same_longer : (old new : State) → ((n : ℕ) → new.traces n ≡ old.traces n) → AreLonger old new
same_longer old new traces = λ n. let e : length (new.traces n) ≡ length (old.traces n) = ap length (traces n) in omega (arith, e)

moved_longer : (old new : State) (session : ℕ) (ts : List Trace) → SessionMoves old session ts new → length (old.traces session) ≤ length ts → AreLonger old new
moved_longer old new session ts moves le = λ n. elim (cases_eq n session) [
  | inl e ↦ (let a : length (old.traces n) ≡ length (old.traces session) = ap (λ k. length (old.traces k)) e in
      let b : length (new.traces n) ≡ length ts = ap length (ap new.traces e ∙ traces_here old new session ts moves) in
      omega (arith, a, b, le))
  | inr ne ↦ (let b : length (new.traces n) ≡ length (old.traces n) = ap length (traces_there old new session n ts moves ne) in omega (arith, b))
]

-- nothing that is placed has changed, at a later tick perhaps
placed_same : (ticks more : ℕ) (old new : State) → ticks ≤ more → new.cfg ≡ old.cfg → ((n : ℕ) → new.traces n ≡ old.traces n) → new.net ≡ old.net → new.calls ≡ old.calls → ArePlacedBy ticks old → ArePlacedBy more new
placed_same ticks more old new le cfg traces net calls p = record {
  config = subst IsConfig (sym cfg) p.config;
  requests = λ n r h. of_call old new r r cfg (same_longer old new traces) refl refl (p.requests n r (subst (λ xs. numbered xs n ≡ Some r) net h));
  began = λ i c h. let k = p.began i c (subst (λ xs. slice_get xs i ≡ Some c) calls h) in omega (arith, k, le);
  over = λ i end c h e. let k = p.over i end c (subst (λ xs. slice_get xs i ≡ Some c) calls h) e in omega (arith, k, le);
  apart = λ i j a b h k e. p.apart i j a b (subst (λ xs. slice_get xs i ≡ Some a) calls h) (subst (λ xs. slice_get xs j ≡ Some b) calls k) e;
  order = λ i j a b h k l. p.order i j a b (subst (λ xs. slice_get xs i ≡ Some a) calls h) (subst (λ xs. slice_get xs j ≡ Some b) calls k) l;
  later = λ i end a h e. p.later i end a (subst (λ xs. slice_get xs i ≡ Some a) calls h) e;
  ends = λ i j end a b h k e f. p.ends i j end a b (subst (λ xs. slice_get xs i ≡ Some a) calls h) (subst (λ xs. slice_get xs j ≡ Some b) calls k) e f;
  answered = λ i a h. p.answered i a (subst (λ xs. slice_get xs i ≡ Some a) calls h);
}

-- the requests after a turn
sent_placed : (old new : State) (w : Caller) (past : List Trace) (first tick : ℕ) (outs : List Out) (ms : List Action) → new.cfg ≡ old.cfg → AreLonger old new → NetFrom old.net new.net w.name tick outs → IsConfig old.cfg → AreAllowed old.cfg w past (sent_from first outs ms) → AreBlobsAllowed old.cfg w (sent_from first outs ms) → w.name.seq ≤ length (new.traces w.name.session)
    → ((n : ℕ) (r : RequestAt) → numbered old.net n ≡ Some r → IsOfCall old r) → (n : ℕ) (q : RequestAt) → numbered new.net n ≡ Some q → IsOfCall new q
sent_placed old new w past first tick outs ms cfg longer net sizes allowed blobs named all n q at = elim (net n q at) [
  | inl k ↦ (let same = k.1.1.1 in of_call old new k.1.0 q cfg longer same.site same.name (all k.0 k.1.0 k.1.1.0))
  | inr k ↦ (let one : IsOfCall new (sent_request w.name tick k.1.0) = record {
    site = subst (λ (c : Config). k.1.0.site < c.n) (sym cfg) (sends_site old.cfg w past first outs ms sizes allowed blobs k.0 k.1.0 k.1.1.0);
    call = named;
  } in subst (IsOfCall new) k.1.1.1 one)
]

end_now : (tick end : ℕ) (o : Option Answer) → end_at tick o ≡ Some end → tick ≡ end
end_now tick end None e = cc
end_now tick end (Some answer) e = cc

end_answer : (tick : ℕ) (o : Option Answer) → is_some (end_at tick o) ≡ is_some o
end_answer tick None = refl
end_answer tick (Some answer) = refl

begin_placed : (old new : State) (session : ℕ) (call : Call) (own : Option Value) (turn : Turn) (effect : Effect) → BeginsBy old session call own turn effect new → ArePlaced old → ArePlacedBy (tick_of old) new
begin_placed old new session call own turn effect b p =
    let past = old.traces session in
    let name : Name = record { session = session; seq = length past + 1 } in
    let w : Caller = record { name = name; call = call; own = own } in
    let t = begun session call own (next_of old) turn past in
    let tick = tick_of old in
    let fresh : CallRec = record { name = name; call = call; begin = tick; end = end_at tick turn.answer; answer = turn.answer } in
    let cases : (i : ℕ) (d : CallRec) → slice_get new.calls i ≡ Some d → (slice_get old.calls i ≡ Some d) ⊎ ((fresh ≡ d) × (i ≡ length old.calls))
    = λ i d h. elim (get_of_two old.calls (fresh ∷ []) i d (subst (λ xs. slice_get xs i ≡ Some d) b.calls h)) [
      | inl e ↦ inl e
      | inr e ↦ (let k = get_one fresh d e.0 e.1.1 in let z = k.0 in let at = e.1.0 in inr (k.1, omega (arith, z, at)))
    ] in
    let late : (i : ℕ) (d : CallRec) → slice_get new.calls i ≡ Some d → d.begin ≤ tick
    = λ i d h. elim (cases i d h) [ inl e ↦ (let k = p.began i d e in omega (arith, k)) | inr e ↦ subst (λ (c : CallRec). c.begin ≤ tick) e.0 (omega arith) ] in
    let ends : (i end : ℕ) (d : CallRec) → slice_get new.calls i ≡ Some d → d.end ≡ Some end → end ≤ tick
    = λ i end d h e. elim (cases i d h) [
      | inl k ↦ (let l = p.over i end d k e in omega (arith, l))
      | inr k ↦ (let now = end_now tick end turn.answer (ap (λ (c : CallRec). c.end) k.0 ∙ e) in omega (arith, now))
    ] in
    let here : new.traces session ≡ t ∷ past = traces_here old new session (t ∷ past) b.moves in
    let unanswered : turn.answer ≡ None = begun_open old.cfg past session call own (next_of old) turn past p.config b.moves.told.0 in
    record {
      config = subst IsConfig (sym b.frame.cfg) p.config;
      requests = sent_placed old new w past (next_of old) tick turn.send [] b.frame.cfg (moved_longer old new session (t ∷ past) b.moves (omega arith)) (begin_net old new name tick turn.send b.net) p.config b.moves.told.0.allowed b.moves.told.0.blobs
          (let e : length (new.traces session) ≡ length (t ∷ past) = ap length here in omega (arith, e)) p.requests;
      began = late;
      over = ends;
      apart = λ i j a d h k e. elim (cases i a h) [
        | inl x ↦ elim (cases j d k) [
          | inl y ↦ p.apart i j a d x y e
          | inr y ↦ (let l = p.over i d.begin a x e in let now : tick ≡ d.begin = ap (λ (c : CallRec). c.begin) y.0 in absurd (omega (arith, l, now)))
        ]
        | inr x ↦ elim (cases j d k) [
          | inl y ↦ (let now = end_now tick d.begin turn.answer (ap (λ (c : CallRec). c.end) x.0 ∙ e) in let l = p.began j d y in absurd (omega (arith, now, l)))
          | inr y ↦ x.1 ∙ sym y.1
        ]
      ];
      order = λ i j a d h k l. elim (cases i a h) [
        | inl x ↦ elim (cases j d k) [
          | inl y ↦ p.order i j a d x y l
          | inr y ↦ (let m = p.began i a x in let now : tick ≡ d.begin = ap (λ (c : CallRec). c.begin) y.0 in omega (arith, m, now))
        ]
        | inr x ↦ (let at = x.1 in elim (cases j d k) [
          | inl y ↦ (let m = get_below old.calls j d y in absurd (omega (arith, at, m, l)))
          | inr y ↦ (let too = y.1 in absurd (omega (arith, at, too, l)))
        ])
      ];
      later = λ i end d h e. elim (cases i d h) [
        | inl x ↦ p.later i end d x e
        | inr x ↦ (let bad : end_at tick None ≡ Some end = sym (ap (end_at tick) unanswered) ∙ ap (λ (c : CallRec). c.end) x.0 ∙ e in cc)
      ];
      ends = λ i j end a d h k e f. elim (cases i a h) [
        | inl x ↦ elim (cases j d k) [
          | inl y ↦ p.ends i j end a d x y e f
          | inr y ↦ (let m = p.over i end a x e in let now = end_now tick end turn.answer (ap (λ (c : CallRec). c.end) y.0 ∙ f) in absurd (omega (arith, m, now)))
        ]
        | inr x ↦ elim (cases j d k) [
          | inl y ↦ (let m = p.over j end d y f in let now = end_now tick end turn.answer (ap (λ (c : CallRec). c.end) x.0 ∙ e) in absurd (omega (arith, m, now)))
          | inr y ↦ x.1 ∙ sym y.1
        ]
      ];
      answered = λ i d h. elim (cases i d h) [
        | inl x ↦ p.answered i d x
        | inr x ↦ subst (λ (c : CallRec). is_some c.end ≡ is_some c.answer) x.0 (end_answer tick turn.answer)
      ];
    }

-- a record of a call after a turn is one from before it, or that of the call whose turn it was
ended_cases : (old new : List CallRec) (name : Name) (tick : ℕ) (o : Option Answer) → (ends : CallEnds old name tick o new) → (j : ℕ) (d : CallRec) → slice_get new j ≡ Some d → (slice_get old j ≡ Some d) ⊎ ((j ≡ ends.0) × (answered tick o ends.1.0 ≡ d))
ended_cases old new name tick o ends j d h =
    let ended = answered tick o ends.1.0 in
    let k : slice_get (slice_set old ends.0 ended) j ≡ Some d = subst (λ xs. slice_get xs j ≡ Some d) ends.1.1.1.1 h in
    elim (cases_eq j ends.0) [
      | inl e ↦ (let both : Some ended ≡ Some d = sym (get_set_same old ends.0 ends.1.0 ended ends.1.1.0) ∙ ap (slice_get (slice_set old ends.0 ended)) (sym e) ∙ k in inr (e, cc))
      | inr ne ↦ inl (sym (get_set_other old ends.0 j ended ne) ∙ k)
    ]

answered_both : (tick : ℕ) (o : Option Answer) (c : CallRec) → is_some c.end ≡ is_some c.answer → is_some (answered tick o c).end ≡ is_some (answered tick o c).answer
answered_both tick None c h = h
answered_both tick (Some answer) c h = refl

turn_placed : (old new : State) (n : ℕ) (r marked : RequestAt) (action : Asked → Action) (by : TurnBy) (effect : Effect) → TakesTurn old n r action by marked effect new → IsAlike r marked → ArePlaced old → ArePlacedBy (tick_of old) new
turn_placed old new n r marked action by effect t alike p =
    let w = by.trace.caller in
    let session = r.name.session in
    let first = next_of old in
    let tick = tick_of old in
    let ms = action by.asked ∷ by.trace.actions in
    let after = turned first by.turn (action by.asked) by.closing by.trace in
    let ts = after ∷ by.earlier in
    let told = t.moves.told in
    let allowed = closing_allowed old.cfg w by.earlier by.closing (sent_from first by.turn.send ms) t.closing told.0.allowed in
    let blobs = closing_drops (AreBlobsAllowed old.cfg w) by.closing (sent_from first by.turn.send ms) t.closing (λ k. k.1) (λ k. k.1) told.0.blobs in
    let before = call_before old.calls new.calls w.name tick by.turn.answer t.calls in
    let cases = ended_cases old.calls new.calls w.name tick by.turn.answer t.calls in
    let at_end : (i : ℕ) (d : CallRec) → slice_get new.calls i ≡ Some d → d.end ≡ Some tick → i ≡ t.calls.0
    = λ i d h e. elim (cases i d h) [ inl x ↦ (let m = p.over i tick d x e in absurd (omega (arith, m))) | inr x ↦ x.0 ] in
    let len : length (old.traces session) ≡ length (by.trace ∷ by.earlier) = ap length t.traces in
    let seq : w.name.seq ≡ length by.earlier + 1 = ap (λ (x : Name). x.seq) told.1 in
    let here : length (new.traces w.name.session) ≡ length ts = ap length (ap new.traces (ap (λ (x : Name). x.session) told.1) ∙ traces_here old new session ts t.moves) in
    record {
      config = subst IsConfig (sym t.frame.cfg) p.config;
      requests = sent_placed old new w by.earlier first tick by.turn.send ms t.frame.cfg (moved_longer old new session ts t.moves (omega (arith, len))) (turn_net old new n r marked w.name tick by.turn.send t.request alike t.net) p.config allowed blobs (omega (arith, seq, here)) p.requests;
      began = λ i d h. let b = before i d h in let k = p.began i b.0 b.1.0 in let e = b.1.1.begin_is in omega (arith, k, e);
      over = λ i end d h e. let b = before i d h in elim b.1.1.end_is [
        | inl same ↦ (let k = p.over i end b.0 b.1.0 (sym same.0 ∙ e) in omega (arith, k))
        | inr now ↦ (let k : Some tick ≡ Some end = sym now ∙ e in let q : tick ≡ end = cc in omega (arith, q))
      ];
      apart = λ i j a d h k e.
          let x = before i a h in
          let y = before j d k in
          elim x.1.1.end_is [
            | inl same ↦ p.apart i j x.0 y.0 x.1.0 y.1.0 (sym same.0 ∙ e ∙ ap Some y.1.1.begin_is)
            | inr now ↦ (let q : Some tick ≡ Some d.begin = sym now ∙ e in
                let z : tick ≡ d.begin = cc in
                let b = y.1.1.begin_is in
                let l = p.began j y.0 y.1.0 in
                absurd (omega (arith, z, b, l)))
          ];
      order = λ i j a d h k l.
          let x = before i a h in
          let y = before j d k in
          let m = p.order i j x.0 y.0 x.1.0 y.1.0 l in
          let e = x.1.1.begin_is in
          let f = y.1.1.begin_is in
          omega (arith, m, e, f);
      later = λ i end d h e.
          let x = before i d h in
          let b = x.1.1.begin_is in
          elim x.1.1.end_is [
            | inl same ↦ (let m = p.later i end x.0 x.1.0 (sym same.0 ∙ e) in omega (arith, m, b))
            | inr now ↦ (let k : Some tick ≡ Some end = sym now ∙ e in
                let z : tick ≡ end = cc in
                let l = p.began i x.0 x.1.0 in
                omega (arith, z, b, l))
          ];
      ends = λ i j end a d h k e f.
          let x = before i a h in
          let y = before j d k in
          elim x.1.1.end_is [
            | inl same ↦ elim y.1.1.end_is [
              | inl too ↦ p.ends i j end x.0 y.0 x.1.0 y.1.0 (sym same.0 ∙ e) (sym too.0 ∙ f)
              | inr now ↦ (let q : Some tick ≡ Some end = sym now ∙ f in let z : tick ≡ end = cc in let m = p.over i end x.0 x.1.0 (sym same.0 ∙ e) in absurd (omega (arith, z, m)))
            ]
            | inr now ↦ (let q : Some tick ≡ Some end = sym now ∙ e in
                let z : tick ≡ end = cc in
                elim y.1.1.end_is [
                  | inl too ↦ (let m = p.over j end y.0 y.1.0 (sym too.0 ∙ f) in absurd (omega (arith, z, m)))
                  | inr also ↦ at_end i a h now ∙ sym (at_end j d k also)
                ])
          ];
      answered = λ i d h. elim (cases i d h) [
        | inl x ↦ p.answered i d x
        | inr x ↦ subst (λ (c : CallRec). is_some c.end ≡ is_some c.answer) x.1 (answered_both tick by.turn.answer t.calls.1.0 (p.answered t.calls.0 t.calls.1.0 t.calls.1.1.0))
      ];
    }

deliver_placed : (old new : State) (n : ℕ) (r : RequestAt) (reply : Reply) (effect : Effect) → DeliversBy old n r reply effect new → ArePlaced old → ArePlacedBy (tick_of old) new
deliver_placed old new n r reply effect d p = record {
  config = subst IsConfig (sym d.frame.cfg) p.config;
  requests = λ m q h. elim (set_cases old.net n m r (with_reply (tick_of old) reply r) q d.request (subst (λ xs. numbered xs m ≡ Some q) d.net h)) [
    | inl e ↦ of_call old new r q d.frame.cfg (same_longer old new d.sessions.traces) (ap (λ (x : RequestAt). x.site) e) (ap (λ (x : RequestAt). x.name) e) (p.requests n r d.request)
    | inr e ↦ of_call old new q q d.frame.cfg (same_longer old new d.sessions.traces) refl refl (p.requests m q e)
  ];
  began = λ i c h. let k = p.began i c (subst (λ xs. slice_get xs i ≡ Some c) d.sessions.calls h) in omega (arith, k);
  over = λ i end c h e. let k = p.over i end c (subst (λ xs. slice_get xs i ≡ Some c) d.sessions.calls h) e in omega (arith, k);
  apart = λ i j a b h k e. p.apart i j a b (subst (λ xs. slice_get xs i ≡ Some a) d.sessions.calls h) (subst (λ xs. slice_get xs j ≡ Some b) d.sessions.calls k) e;
  order = λ i j a b h k l. p.order i j a b (subst (λ xs. slice_get xs i ≡ Some a) d.sessions.calls h) (subst (λ xs. slice_get xs j ≡ Some b) d.sessions.calls k) l;
  later = λ i end a h e. p.later i end a (subst (λ xs. slice_get xs i ≡ Some a) d.sessions.calls h) e;
  ends = λ i j end a b h k e f. p.ends i j end a b (subst (λ xs. slice_get xs i ≡ Some a) d.sessions.calls h) (subst (λ xs. slice_get xs j ≡ Some b) d.sessions.calls k) e f;
  answered = λ i a h. p.answered i a (subst (λ xs. slice_get xs i ≡ Some a) d.sessions.calls h);
}

pub handed_alike : (tick which : ℕ) (r : RequestAt) → IsAlike r (with_handed tick which r)
handed_alike tick which r = record { name = refl; site = refl; op = refl; replies = refl }

pub given_up_alike : (tick : ℕ) (r : RequestAt) → IsAlike r (with_given_up tick r)
given_up_alike tick r = record { name = refl; site = refl; op = refl; replies = refl }

does_placed : (old new : State) (event : Event) (effect : Effect) → Does old event effect new → ArePlaced old → ArePlacedBy (tick_of old) new
does_placed old new events.OpenSession effect d p = placed_same (length old.journal) (tick_of old) old new (omega arith) d.frame.cfg d.traces d.net d.calls p
does_placed old new (events.Begin session call) effect d p = begin_placed old new session call d.0 d.1.0 effect d.1.1 p
does_placed old new (events.Deliver n) effect d p = deliver_placed old new n d.0 d.1.0 effect d.1.1 p
does_placed old new (events.Reply n which) effect d p = turn_placed old new n d.0 (with_handed (tick_of old) which d.0) (hears old.cfg.n d.1.0.1) d.1.1.0 effect d.1.1.1.1 (handed_alike (tick_of old) which d.0) p
does_placed old new (events.GiveUp n) effect d p = turn_placed old new n d.0 (with_given_up (tick_of old) d.0) (λ a. GaveUp a) d.1.0 effect d.1.1 (given_up_alike (tick_of old) d.0) p
does_placed old new (events.Crash session) effect d p = placed_same (length old.journal) (tick_of old) old new (omega arith) d.frame.cfg d.traces d.net d.calls p

acts_placed : (old new : State) (event : Event) (effect : Effect) → HasEffect old event effect new → ArePlaced old → ArePlacedBy (tick_of old) new
acts_placed old new event effect acts p =
    elim (refusal_of old event) as (λ o. MatchOption o (Does old event effect new) (λ why. Skips old event why effect new) → ArePlacedBy (tick_of old) new) [
      | None ↦ λ d. does_placed old new event effect d p
      | Some why ↦ λ k. placed_same (length old.journal) (tick_of old) old new (omega arith) k.same.frame.cfg k.same.sessions.traces k.same.net k.same.sessions.calls p
    ] acts

does_journal : (old new : State) (event : Event) (effect : Effect) → Does old event effect new → new.journal ≡ old.journal
does_journal old new events.OpenSession effect d = d.frame.journal
does_journal old new (events.Begin session call) effect d = d.1.1.frame.journal
does_journal old new (events.Deliver n) effect d = d.1.1.frame.journal
does_journal old new (events.Reply n which) effect d = d.1.1.1.1.frame.journal
does_journal old new (events.GiveUp n) effect d = d.1.1.frame.journal
does_journal old new (events.Crash session) effect d = d.frame.journal

pub acts_journal : (old new : State) (event : Event) (effect : Effect) → HasEffect old event effect new → new.journal ≡ old.journal
acts_journal old new event effect acts =
    elim (refusal_of old event) as (λ o. MatchOption o (Does old event effect new) (λ why. Skips old event why effect new) → new.journal ≡ old.journal) [
      | None ↦ λ d. does_journal old new event effect d
      | Some why ↦ λ k. k.same.frame.journal
    ] acts

step_placed : (old new : State) (event : Event) → WorldStep old event new → ArePlaced old → ArePlaced new
step_placed old new event step p =
    let mid = step.1.0 in
    let acts = step.1.1.1.0 in
    let records = step.1.1.1.1 in
    let grew : length new.journal ≡ length old.journal + 1 =
    ap length records.journal ∙ length-append mid.journal (step.1.1.0 ∷ []) ∙ ap (λ (j : List Entry). length j + 1) (acts_journal old mid event step.0 acts) in
    placed_same (tick_of old) (length new.journal) mid new (omega (arith, grew)) records.cfg records.sessions.traces records.net records.sessions.calls (acts_placed old mid event step.0 acts p)

opening_placed : (s : State) → IsOpening s → ArePlaced s
opening_placed s o = record {
  config = o.config;
  requests = λ n r h. let bad : numbered [] n ≡ Some r = subst (λ xs. numbered xs n ≡ Some r) o.net h in absurd (none_numbered n r bad);
  began = λ i c h. let bad : slice_get [] i ≡ Some c = subst (λ xs. slice_get xs i ≡ Some c) o.calls h in cc;
  over = λ i end c h e. let bad : slice_get [] i ≡ Some c = subst (λ xs. slice_get xs i ≡ Some c) o.calls h in cc;
  apart = λ i j a b h k e. let bad : slice_get [] i ≡ Some a = subst (λ xs. slice_get xs i ≡ Some a) o.calls h in cc;
  order = λ i j a b h k l. let bad : slice_get [] i ≡ Some a = subst (λ xs. slice_get xs i ≡ Some a) o.calls h in cc;
  later = λ i end a h e. let bad : slice_get [] i ≡ Some a = subst (λ xs. slice_get xs i ≡ Some a) o.calls h in cc;
  ends = λ i j end a b h k e f. let bad : slice_get [] i ≡ Some a = subst (λ xs. slice_get xs i ≡ Some a) o.calls h in cc;
  answered = λ i a h. let bad : slice_get [] i ≡ Some a = subst (λ xs. slice_get xs i ≡ Some a) o.calls h in cc;
}
  where
    none_numbered : (n : ℕ) (r : RequestAt) → numbered [] n ≡ Some r → ⊥
    none_numbered n r h = let k = (numbered_place [] n r h).1 in cc

-- in every world that is reached
pub placed : (s : State) → IsReached s → ArePlaced s
placed _ (opened s o) = opening_placed s o
placed _ (stepped old new event h step) = step_placed old new event step (placed old h)

-- so the calls are a history: they began one after another, with names of their own, and each ended after it began
pub history : (s : State) → IsReached s → IsHistory s.calls
history s reached =
    let p = placed s reached in
    let l = listed s reached in
    record {
      order = λ i j lt below a b h k. record { began = p.order i j a b h k lt; name = λ e. let same = l.apart i j a b h k e in absurd (omega (arith, same, lt)) };
      ends = λ i a below h end e. p.later i end a h e;
    }
