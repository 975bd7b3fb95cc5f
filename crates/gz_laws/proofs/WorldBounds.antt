-- Each step keeps the rows of a world, and the promises of its calls, within the bounds of one event more.
use Rattle.std.proofs.Common.{◌≡◌, ℕ, suc, ◌+◌, ◌*◌, ◌-◌, ◌≤◌, ◌⊎◌, inl, inr, List, [], ◌∷◌, ◌++◌, Some, None, true, false, length, refl, ap, sym, ◌∙◌, subst, arith, length-append, length-set}
use Rattle.std.proofs.lemmas.Bool.{cases_eq}
use Rattle.std.specs.Prelude.{Option, MatchOption, cond, IfSome, IsSome, slice_get, slice_set}
use Rattle.gz_config.specs.declared.Config.{Config}
use Rattle.gz_core.specs.Configurations.{IsConfig}
use Rattle.gz_core.specs.Names.{Name, BallotAt}
use Rattle.gz_core.specs.Rows.{RowAt}
use Rattle.gz_core.specs.declared.calls.Call.{Call}
use Rattle.gz_core.specs.declared.requests.Op.{Op}
use Rattle.gz_core.specs.declared.requests.Op.TheVariants.{ReadRow, WriteRow}
use Rattle.gz_core.specs.declared.requests.Out.{Out}
use Rattle.gz_core.specs.declared.requests.Reply.{Reply}
use Rattle.gz_core.specs.declared.requests.Reply.TheVariants.{Row, NoRow, Written, Changed, Failed}
use Rattle.gz_core.specs.declared.requests.Turn.{Turn}
use Rattle.gz_core.proofs.Counting.{count_most}
use Rattle.gz_core.specs.History.{Asked, Action, GaveUp, Caller, Trace, sent_from, begun, turned}
use Rattle.gz_core.specs.declared.values.Value.{Value}
use Rattle.gz_round.specs.Rounds.{top_rounds}
use Rattle.gz_round.specs.Sending.{AreAllowed}
use Rattle.gz_round.specs.Sent.{has_promised_at, top_round}
use Rattle.gz_round.specs.Sites.{can_stand}
use Rattle.gz_client.specs.Traces.{IsClosed}
use Rattle.gz_site.specs.Told.{Told, IsEmpty, same_key}
use Rattle.gz_site.specs.Steps.{RowStored}
use Rattle.gz_world.specs.declared.events.Effect.{Effect}
use Rattle.gz_world.specs.declared.events.Entry.{Entry}
use Rattle.gz_world.specs.declared.events.Event.{Event}
use Rattle.gz_world.specs.declared.events.Event.TheVariants as events
use Rattle.gz_world.specs.Reached.{IsOpening, IsReached, opened, stepped, AllTell}
use Rattle.gz_world.specs.Refusals.{refusal_of}
use Rattle.gz_world.specs.States.{RequestAt, State, tick_of, next_of, numbered, with_reply, with_handed, with_given_up, sent_requests}
use Rattle.gz_world.specs.Steps.{Answers, SessionMoves, BeginsBy, DeliversBy, TurnBy, TakesTurn, HasEffect, Does, Skips, WorldStep, hears}
use Rattle.gz_world.proofs.Members.{numbered_place}
use Rattle.gz_laws.specs.Bounded.{IsRowWithin, ArePromisesWithin, AreWithin, IsHeard, CanStand}
use Rattle.gz_laws.specs.Carried.{ActionCarried, ActionsCarried, TracesCarried, AreCarried}
use Rattle.gz_laws.specs.Each.{EachTrace}
use Rattle.gz_laws.specs.Listed.{AreCallsListed}
use Rattle.gz_laws.specs.Placed.{ArePlaced}
use Rattle.gz_laws.specs.Rows.{IfKept, IfWritten, IfShown, EachRow}
use Rattle.gz_laws.proofs.Bounding.{heard_within}
use Rattle.gz_laws.proofs.Carrying.{carried}
use Rattle.gz_laws.proofs.Listing.{listed}
use Rattle.gz_laws.proofs.Nets.{IsKeptAs, kept_handed, kept_given_up, AreKeptOrSent, begin_cases, turn_cases}
use Rattle.gz_laws.proofs.Placing.{placed, acts_journal}
use Rattle.gz_laws.proofs.RowBounds.{row_wider, AreStanding, row_can}
use Rattle.gz_laws.proofs.RunDelivers.{both_tell, same_told, more_replies}
use Rattle.gz_laws.proofs.Closing.{closing_allowed, closing_keeps}
use Rattle.gz_laws.proofs.RunTools.{set_cases}
use Rattle.gz_laws.proofs.Running.{told_request, handed_action, step_tell}
use Rattle.gz_laws.proofs.SendBounds.{Measures, sends_within, sent_measures, sent_length, awaited_at, busy, busy_measures}
use Rattle.gz_laws.proofs.Standing.{rows_standing}
use Rattle.gz_laws.proofs.Valuing.{valued}
use Rattle.gz_laws.proofs.Traces.{each_on, each_moved}
use Rattle.gz_laws.proofs.AsHeard.{stands_heard}
use Rattle.gz_laws.proofs.BlobSteps.{blob_leaves}

-- rows of which less is asked
kept_on : (P Q : RowAt → Type 0) (o : Option (ℕ × RowAt)) → ((row : RowAt) → P row → Q row) → IfKept P o → IfKept Q o
kept_on P Q None f h = tt
kept_on P Q (Some kept) f h = f kept.1 h

written_on : (P Q : RowAt → Type 0) (op : Op) → ((row : RowAt) → P row → Q row) → IfWritten P op → IfWritten Q op
written_on P Q (WriteRow key expect step row) f h = f row h
written_on P Q op f h = tt

shown_on : (P Q : RowAt → Type 0) (reply : Reply) → ((row : RowAt) → P row → Q row) → IfShown P reply → IfShown Q reply
shown_on P Q (Row etag row) f h = f row h
shown_on P Q reply f h = tt

rows_on : (P Q : RowAt → Type 0) (s : State) → ((row : RowAt) → P row → Q row) → EachRow P s → EachRow Q s
rows_on P Q s f h = record {
  sites = λ i told key is. kept_on P Q (told.rows key) f (h.sites i told key is);
  requests = λ n r at. written_on P Q r.op f (h.requests n r at);
  replies = λ n place tick r reply at has. shown_on P Q reply f (h.replies n place tick r reply at has);
}

rows_same : (P : RowAt → Type 0) (old new : State) → ((i : ℕ) → new.sites i ≡ old.sites i) → new.net ≡ old.net → EachRow P old → EachRow P new
rows_same P old new sites net h = record {
  sites = λ i told key is. h.sites i told key (sym (sites i) ∙ is);
  requests = λ n r at. h.requests n r (subst (λ xs. numbered xs n ≡ Some r) net at);
  replies = λ n place tick r reply at has. h.replies n place tick r reply (subst (λ xs. numbered xs n ≡ Some r) net at) has;
}

-- the rows after a session's turn
rows_sent : (P : RowAt → Type 0) (old new : State) (name : Name) (tick : ℕ) (outs : List Out) → ((i : ℕ) → new.sites i ≡ old.sites i) → AreKeptOrSent old.net new.net name tick outs → ((j : ℕ) (o : Out) → slice_get outs j ≡ Some o → IfWritten P o.op) → EachRow P old → EachRow P new
rows_sent P old new name tick outs sites cases ops h = record {
  sites = λ i told key is. h.sites i told key (sym (sites i) ∙ is);
  requests = λ n q at. elim (cases n q at) [
    | inl k ↦ subst (IfWritten P) (sym k.1.1.1.alike.op) (h.requests k.0 k.1.0 k.1.1.0)
    | inr k ↦ subst (λ (x : RequestAt). IfWritten P x.op) k.1.1.1 (ops k.0 k.1.0 k.1.1.0)
  ];
  replies = λ n place tick q reply at has. elim (cases n q at) [
    | inl k ↦ h.replies k.0 place tick k.1.0 reply k.1.1.0 (subst (λ xs. slice_get xs place ≡ Some (tick, reply)) k.1.1.1.alike.replies has)
    | inr k ↦ (let bad : slice_get [] place ≡ Some (tick, reply) = subst (λ (x : RequestAt). slice_get x.replies place ≡ Some (tick, reply)) (sym k.1.1.1) has in cc)
  ];
}

-- the rows after a delivery
stored_has : (P : RowAt → Type 0) (before told : Told) (k : List ℕ) (etag : ℕ) (row : RowAt) (key : List ℕ) → RowStored before k etag row told → P row → IfKept P (before.rows key) → IfKept P (told.rows key)
stored_has P before told k etag row key done new old = subst (IfKept P) (sym (done.rows key)) (elim (same_key k key) as (λ t. IfKept P (cond t (Some (etag, row)) (before.rows key))) [ true ↦ new | false ↦ old ])

left_has : (P : RowAt → Type 0) (before told : Told) (key : List ℕ) → told ≡ before → IfKept P (before.rows key) → IfKept P (told.rows key)
left_has P before told key e h = subst (λ (t : Told). IfKept P (t.rows key)) (sym e) h

answer_kept : (P : RowAt → Type 0) (before told : Told) (op : Op) (reply : Reply) (key : List ℕ) → Answers before op reply told → IfWritten P op → IfKept P (before.rows key) → IfKept P (told.rows key)
answer_kept P before told (ReadRow k) (Row etag row) key h w old = left_has P before told key h.1 old
answer_kept P before told (ReadRow k) NoRow key h w old = left_has P before told key h.1 old
answer_kept P before told (ReadRow k) Failed key h w old = left_has P before told key h old
answer_kept P before told (ReadRow k) reply key h w old = absurd h
answer_kept P before told (WriteRow k expect step row) (Written etag) key h w old = stored_has P before told k etag row key h.1 w old
answer_kept P before told (WriteRow k expect step row) Changed key h w old = left_has P before told key h.1 old
answer_kept P before told (WriteRow k expect step row) Failed key h w old = elim h [ inl e ↦ left_has P before told key e old | inr d ↦ stored_has P before told k d.0 row key d.2 w old ]
answer_kept P before told (WriteRow k expect step row) reply key h w old = absurd h
answer_kept P before told op reply key h w old = subst (λ (rows : List ℕ → Option (ℕ × RowAt)). IfKept P (rows key)) (sym (blob_leaves before told op reply refl h).rows) old

answer_shown : (P : RowAt → Type 0) (before told : Told) (op : Op) (reply : Reply) → Answers before op reply told → ((key : List ℕ) → IfKept P (before.rows key)) → IfShown P reply
answer_shown P before told (ReadRow k) (Row etag row) h old = subst (IfKept P) h.0 (old k)
answer_shown P before told op (Row etag row) h old = absurd h
answer_shown P before told op reply h old = tt

deliver_rows : (P : RowAt → Type 0) (old new : State) (n : ℕ) (r : RequestAt) (reply : Reply) (effect : Effect) → DeliversBy old n r reply effect new → IsSome (old.sites r.site) → EachRow P old → EachRow P new
deliver_rows P old new n r reply effect d tells h =
    let marked = with_reply (tick_of old) reply r in
    let t = both_tell (old.sites r.site) (new.sites r.site) (λ before after. Answers before r.op reply after) tells d.site in
    let before = t.0 in
    let after = t.1.0 in
    let ans = t.1.1.1.1 in
    let kept : (key : List ℕ) → IfKept P (before.rows key) = λ key. h.sites r.site before key t.1.1.0 in
    let op = h.requests n r d.request in
    let cases : (m : ℕ) (q : RequestAt) → numbered new.net m ≡ Some q → (q ≡ marked) ⊎ (numbered old.net m ≡ Some q)
    = λ m q at. set_cases old.net n m r marked q d.request (subst (λ ks. numbered ks m ≡ Some q) d.net at) in
    record {
      sites = λ i told key is. elim (cases_eq i r.site) [
        | inl e ↦ (let same : after ≡ told = same_told after told (sym t.1.1.1.0 ∙ sym (ap new.sites e) ∙ is) in
            subst (λ (x : Told). IfKept P (x.rows key)) same (answer_kept P before after r.op reply key ans op (kept key)))
        | inr ne ↦ h.sites i told key (sym (d.others i ne) ∙ is)
      ];
      requests = λ m q at. elim (cases m q at) [ inl e ↦ subst (λ (x : RequestAt). IfWritten P x.op) (sym e) op | inr e ↦ h.requests m q e ];
      replies = λ m place tick q one at has. elim (cases m q at) [
        | inl e ↦ elim (more_replies r (tick_of old) place tick reply one (subst (λ (x : RequestAt). slice_get x.replies place ≡ Some (tick, one)) e has)) [
          | inl was ↦ h.replies n place tick r one d.request was
          | inr is ↦ subst (λ (x : Reply). IfShown P x) is (answer_shown P before after r.op reply ans kept)
        ]
        | inr e ↦ h.replies m place tick q one e has
      ];
    }

-- wider bounds
promises_wider : (v w r q : ℕ) (t : Trace) → v ≤ w → r ≤ q → ArePromisesWithin v r t → ArePromisesWithin w q t
promises_wider v w r q t a b h = record {
  rounds_low = (let l = h.rounds_low in omega (arith, l, b));
  versions_low = λ u d e. let l = h.versions_low u d e in omega (arith, l, a);
}

within_wider : (v w r q : ℕ) (s : State) → v ≤ w → r ≤ q → AreWithin v r s → AreWithin w q s
within_wider v w r q s a b h = record {
  rows = rows_on (IsRowWithin v r) (IsRowWithin w q) s (λ row k. row_wider v w r q row a b k) h.rows;
  traces = λ n. each_on (ArePromisesWithin v r) (ArePromisesWithin w q) (s.traces n) (λ t k. promises_wider v w r q t a b k) (h.traces n);
}

within_same : (v r : ℕ) (old new : State) → ((i : ℕ) → new.sites i ≡ old.sites i) → ((n : ℕ) → new.traces n ≡ old.traces n) → new.net ≡ old.net → AreWithin v r old → AreWithin v r new
within_same v r old new sites traces net h = record {
  rows = rows_same (IsRowWithin v r) old new sites net h.rows;
  traces = λ n. subst (EachTrace (ArePromisesWithin v r)) (sym (traces n)) (h.traces n);
}

past_within : (v r : ℕ) (ts : List Trace) → EachTrace (ArePromisesWithin v r) ts → top_rounds ts ≤ r
past_within v r [] h = omega arith
past_within v r (t ∷ ts) h = let a = h.0.rounds_low in let b = past_within v r ts h.1 in omega (arith, a, b)

closing_round : (closing ms : List Action) → IsClosed closing → top_round (closing ++ ms) ≡ top_round ms
closing_round closing ms closed = closing_keeps (λ ks. top_round ks ≡ top_round ms) closing ms closed refl refl refl

closing_promised : (closing ms : List Action) (v : ℕ) (b : BallotAt) → IsClosed closing → has_promised_at (closing ++ ms) v b ≡ has_promised_at ms v b
closing_promised closing ms v b closed = closing_keeps (λ ks. has_promised_at ks v b ≡ has_promised_at ms v b) closing ms closed refl refl refl

-- a session's turn, where the bound on rounds makes room for what is sent
record HasRoom (old new : State) (c : Config) (rounds next : ℕ) : Type 0 where
  measure : List Action → ℕ
  measures : Measures c measure
  room : (first : ℕ) (outs : List Out) (ms : List Action) → length new.net ≡ length old.net + length outs → rounds + measure (sent_from first outs ms) ≤ next + measure ms

moves_within : (v r q : ℕ) (old new : State) (session first : ℕ) (w : Caller) (past : List Trace) (outs : List Out) (ms : List Action) (after : Trace) → HasRoom old new old.cfg r q → length new.net ≡ length old.net + length outs → IsConfig old.cfg → ((i : ℕ) → new.sites i ≡ old.sites i)
    → AreKeptOrSent old.net new.net w.name (tick_of old) outs → AreAllowed old.cfg w past (sent_from first outs ms) → ActionsCarried old.cfg.n old.net w.name ms → EachTrace (ArePromisesWithin v r) past → top_round ms ≤ r → ((u : ℕ) (b : BallotAt) → has_promised_at ms u b ≡ true → u ≤ v)
    → SessionMoves old session (after ∷ past) new → top_round after.actions ≡ top_round (sent_from first outs ms) → ((u : ℕ) (b : BallotAt) → has_promised_at after.actions u b ≡ has_promised_at (sent_from first outs ms) u b) → AreCallsListed old → AreWithin v r old → AreWithin (v + 1) q new
moves_within v r q old new session first w past outs ms after room len sizes sites cases allowed carried before now versions moves same_round same_promised l h =
    let k = sends_within v r r room.measure old.cfg w past first outs ms
    (record {
      sizes = sizes;
      heard = heard_within v r old w.name ms h.rows carried;
      above = omega arith;
      earlier = past_within v r past before;
      now = now;
      low = λ u b e. let x = versions u b e in omega (arith, x);
    }) room.measures allowed in
    let fits = room.room first outs ms len in
    let paid = k.cost in
    let low = k.low in
    let le : k.next ≤ q = omega (arith, fits, paid) in
    let wide : r ≤ q = omega (arith, low, le) in
    let here : ArePromisesWithin (v + 1) q after = record {
      rounds_low = (let x = k.now in omega (arith, x, le, same_round));
      versions_low = λ u b e. k.versions_are u b (sym (same_promised u b) ∙ e);
    } in
    record {
      rows = rows_sent (IsRowWithin (v + 1) q) old new w.name (tick_of old) outs sites cases
          (λ j o e. written_on (IsRowWithin (v + 1) k.next) (IsRowWithin (v + 1) q) o.op (λ row x. row_wider (v + 1) (v + 1) k.next q row (omega arith) le x) (k.ops j o e))
          (rows_on (IsRowWithin v r) (IsRowWithin (v + 1) q) old (λ row x. row_wider v (v + 1) r q row (omega arith) wide x) h.rows);
      traces = each_moved (ArePromisesWithin v r) (ArePromisesWithin (v + 1) q) old new session after past moves l.told (λ u apart x. promises_wider v (v + 1) r q u (omega arith) wide x) here
          before h.traces;
    }

sent_count : (name : Name) (tick : ℕ) (outs : List Out) → length (sent_requests name tick outs) ≡ length outs
sent_count name tick [] = refl
sent_count name tick (o ∷ os) = ap suc (sent_count name tick os)

begin_within : (v r q : ℕ) (old new : State) (session : ℕ) (call : Call) (own : Option Value) (turn : Turn) (effect : Effect) → BeginsBy old session call own turn effect new → HasRoom old new old.cfg r q → AreCallsListed old → ArePlaced old → AreWithin v r old → AreWithin (v + 1) q new
begin_within v r q old new session call own turn effect b room l p h =
    let past = old.traces session in
    let name : Name = record { session = session; seq = length past + 1 } in
    let w : Caller = record { name = name; call = call; own = own } in
    let len : length new.net ≡ length old.net + length turn.send = ap length b.net ∙ length-append old.net (sent_requests name (tick_of old) turn.send) ∙ ap (λ k. length old.net + k) (sent_count name (tick_of old) turn.send) in
    moves_within v r q old new session (next_of old) w past turn.send [] (begun session call own (next_of old) turn past) room len p.config b.sites.sites (begin_cases old.net new.net name (tick_of old) turn.send b.net) b.moves.told.0.allowed tt (h.traces session) (omega arith)
    (λ u d e. cc) b.moves refl (λ u d. refl) l h

turn_within : (v r q : ℕ) (old new : State) (n : ℕ) (x marked : RequestAt) (action : Asked → Action) (by : TurnBy) (effect : Effect) → TakesTurn old n x action by marked effect new → IsKeptAs x marked → HasRoom old new old.cfg r q → ((a : Asked) (ms : List Action) → top_round (action a ∷ ms) ≡ top_round ms)
    → ((a : Asked) (ms : List Action) (u : ℕ) (b : BallotAt) → has_promised_at (action a ∷ ms) u b ≡ has_promised_at ms u b) → ActionCarried old.cfg.n old.net by.trace.caller.name (action by.asked) → AreCallsListed old → AreCarried old → ArePlaced old → AreWithin v r old → AreWithin (v + 1) q new
turn_within v r q old new n x marked action by effect t kept room rounds promises carry l c p h =
    let session = x.name.session in
    let w = by.trace.caller in
    let outs = by.turn.send in
    let first = next_of old in
    let ms = action by.asked ∷ by.trace.actions in
    let after = turned first by.turn (action by.asked) by.closing by.trace in
    let sent = sent_requests w.name (tick_of old) outs in
    let mid = slice_set old.net (n - 1) marked in
    let len : length new.net ≡ length old.net + length outs = ap length t.net ∙ length-append mid sent ∙ ap (λ k. k + length sent) (length-set old.net (n - 1) marked) ∙ ap (λ k. length old.net + k) (sent_count w.name (tick_of old) outs) in
    let before : EachTrace (ArePromisesWithin v r) (by.trace ∷ by.earlier) = subst (EachTrace (ArePromisesWithin v r)) t.traces (h.traces session) in
    let mine : TracesCarried old.cfg.n old.net (by.trace ∷ by.earlier) = subst (TracesCarried old.cfg.n old.net) t.traces (c session) in
    let top = before.0.rounds_low in
    let same = rounds by.asked by.trace.actions in
    moves_within v r q old new session first w by.earlier outs ms after room len p.config t.sites.sites (turn_cases old.net new.net n x marked w.name (tick_of old) outs t.request kept t.net)
    (closing_allowed old.cfg w by.earlier by.closing (sent_from first outs ms) t.closing t.moves.told.0.allowed) (carry, mine.0) before.1 (omega (arith, top, same))
    (λ u b e. before.0.versions_low u b (sym (promises by.asked by.trace.actions u b) ∙ e)) t.moves (closing_round by.closing (sent_from first outs ms) t.closing) (λ u b. closing_promised by.closing (sent_from first outs ms) u b t.closing) l h

does_within : (v r q : ℕ) (old new : State) (event : Event) (effect : Effect) → Does old event effect new → r ≤ q → HasRoom old new old.cfg r q → AllTell old → AreCallsListed old → AreCarried old → ArePlaced old → AreWithin v r old → AreWithin (v + 1) q new
does_within v r q old new events.OpenSession effect d le room tells l c p h = within_wider v (v + 1) r q new (omega arith) le (within_same v r old new d.sites.sites d.traces d.net h)
does_within v r q old new (events.Begin session call) effect d le room tells l c p h = begin_within v r q old new session call d.0 d.1.0 effect d.1.1 room l p h
does_within v r q old new (events.Deliver n) effect d le room tells l c p h =
    within_wider v (v + 1) r q new (omega arith) le (record {
      rows = deliver_rows (IsRowWithin v r) old new n d.0 d.1.0 effect d.1.1 (tells d.0.site (p.requests n d.0 d.1.1.request).site) h.rows;
      traces = λ m. subst (EachTrace (ArePromisesWithin v r)) (sym (d.1.1.sessions.traces m)) (h.traces m);
    })
does_within v r q old new (events.Reply n which) effect d le room tells l c p h =
    turn_within v r q old new n d.0 (with_handed (tick_of old) which d.0) (hears old.cfg.n d.1.0.1) d.1.1.0 effect d.1.1.1.1 (kept_handed (tick_of old) which d.0) room (λ a ms. refl) (λ a ms u b. refl) (handed_action old new n which d.0 d.1.0 d.1.1.0 effect d.1.1.1.0 d.1.1.1.1 c) l c p h
does_within v r q old new (events.GiveUp n) effect d le room tells l c p h =
    turn_within v r q old new n d.0 (with_given_up (tick_of old) d.0) (λ a. GaveUp a) d.1.0 effect d.1.1 (kept_given_up (tick_of old) d.0) room (λ a ms. refl) (λ a ms u b. refl)
    (d.0, told_request old new n d.0 (with_given_up (tick_of old) d.0) (λ a. GaveUp a) d.1.0 effect d.1.1 c) l c p h
does_within v r q old new (events.Crash session) effect d le room tells l c p h = within_wider v (v + 1) r q new (omega arith) le (within_same v r old new d.sites.sites d.traces d.net h)

acts_within : (v r q : ℕ) (old new : State) (event : Event) (effect : Effect) → HasEffect old event effect new → r ≤ q → HasRoom old new old.cfg r q → AllTell old → AreCallsListed old → AreCarried old → ArePlaced old → AreWithin v r old → AreWithin (v + 1) q new
acts_within v r q old new event effect acts le room tells l c p h =
    elim (refusal_of old event) as (λ o. MatchOption o (Does old event effect new) (λ why. Skips old event why effect new) → AreWithin (v + 1) q new) [
      | None ↦ λ d. does_within v r q old new event effect d le room tells l c p h
      | Some why ↦ λ k. within_wider v (v + 1) r q new (omega arith) le (within_same v r old new k.same.sites.sites k.same.sessions.traces k.same.net h)
    ] acts

opening_within : (v r : ℕ) (s : State) → IsOpening s → AreWithin v r s
opening_within v r s o = record {
  rows = record {
    sites = λ i told key is. subst (IfKept (IsRowWithin v r)) (sym ((empty_there (s.sites i) told (o.sites i) is).rows key)) tt;
    requests = λ n q h. absurd (none_there n q (subst (λ ks. numbered ks n ≡ Some q) o.net h));
    replies = λ n place tick q reply h has. absurd (none_there n q (subst (λ ks. numbered ks n ≡ Some q) o.net h));
  };
  traces = λ n. subst (EachTrace (ArePromisesWithin v r)) (sym (o.traces n)) tt;
}
  where
    none_there : (n : ℕ) (q : RequestAt) → numbered [] n ≡ Some q → ⊥
    none_there n q h = let k = (numbered_place [] n q h).1 in cc

    empty_there : (x : Option Told) (told : Told) → IfSome x IsEmpty → x ≡ Some told → IsEmpty told
    empty_there None told e is = cc
    empty_there (Some y) told e is = let same : y ≡ told = cc in subst IsEmpty same e

-- one step, with the journal one event longer
step_within : (r q : ℕ) (old new : State) (event : Event) → (step : WorldStep old event new) → r ≤ q → HasRoom old step.1.0 old.cfg r q → AllTell new → AreCallsListed old → AreCarried old → ArePlaced old → AreWithin (length old.journal) r old → AreWithin (length new.journal) q new
step_within r q old new event step le room tells l c p h =
    let mid = step.1.0 in
    let records = step.1.1.1.1 in
    let grew : length new.journal ≡ length old.journal + 1 =
    ap length records.journal ∙ length-append mid.journal (step.1.1.0 ∷ []) ∙ ap (λ (j : List Entry). length j + 1) (acts_journal old mid event step.0 step.1.1.1.0) in
    subst (λ k. AreWithin k q new) (sym grew)
    (within_same (length old.journal + 1) q mid new records.sites.sites records.sessions.traces records.net (acts_within (length old.journal) r q old mid event step.0 step.1.1.1.0 le room (step_tell old new event step tells) l c p h))

-- no round is above the number of requests
net_grows : (old new : State) (event : Event) → (step : WorldStep old event new) → length old.net ≤ length step.1.0.net
net_grows old new event step =
    let mid = step.1.0 in
    elim (refusal_of old event) as (λ o. MatchOption o (Does old event step.0 mid) (λ why. Skips old event why step.0 mid) → length old.net ≤ length mid.net) [
      | None ↦ λ d. does_grow event step.0 d
      | Some why ↦ λ k. (let e = ap length k.same.net in omega (arith, e))
    ] step.1.1.1.0
  where
    set_more : (xs ys : List RequestAt) (i : ℕ) (x : RequestAt) (zs : List RequestAt) → zs ≡ slice_set xs i x ++ ys → length xs ≤ length zs
    set_more xs ys i x zs e = let k = ap length e in let a = length-append (slice_set xs i x) ys in let b = length-set xs i x in omega (arith, k, a, b)

    does_grow : (event : Event) (effect : Effect) → Does old event effect step.1.0 → length old.net ≤ length step.1.0.net
    does_grow events.OpenSession effect d = let e = ap length d.net in omega (arith, e)
    does_grow (events.Begin session call) effect d = let e = ap length d.1.1.net in let a = length-append old.net (sent_requests (record { session = session; seq = length (old.traces session) + 1 }) (tick_of old) d.1.0.send) in omega (arith, e, a)
    does_grow (events.Deliver n) effect d = let e = ap length d.1.1.net in let a = length-set old.net (n - 1) (with_reply (tick_of old) d.1.0 d.0) in omega (arith, e, a)
    does_grow (events.Reply n which) effect d = set_more old.net (sent_requests d.1.1.0.trace.caller.name (tick_of old) d.1.1.0.turn.send) (n - 1) (with_handed (tick_of old) which d.0) step.1.0.net d.1.1.1.1.net
    does_grow (events.GiveUp n) effect d = set_more old.net (sent_requests d.1.0.trace.caller.name (tick_of old) d.1.0.turn.send) (n - 1) (with_given_up (tick_of old) d.0) step.1.0.net d.1.1.net
    does_grow (events.Crash session) effect d = let e = ap length d.net in omega (arith, e)

pub by_requests : (s : State) → IsReached s → AllTell s → AreWithin (length s.journal) (length s.net) s
by_requests _ (opened s o) tells = opening_within (length s.journal) (length s.net) s o
by_requests _ (stepped old new event h step) tells =
    let mid = step.1.0 in
    let same : length new.net ≡ length mid.net = ap length step.1.1.1.1.net in
    let room : HasRoom old mid old.cfg (length old.net) (length mid.net) = record {
      measure = λ ms. length ms;
      measures = sent_measures old.cfg;
      room = λ first outs ms len. let e = sent_length first outs ms in omega (arith, e, len);
    } in
    subst (λ k. AreWithin (length new.journal) k new) (sym same)
    (step_within (length old.net) (length mid.net) old new event step (net_grows old new event step) room tells (listed old h) (carried old h) (placed old h) (by_requests old h (step_tell old new event step tells)))

-- nor above sixteen for each event
pub by_events : (s : State) → IsReached s → AllTell s → AreWithin (length s.journal) (16 * length s.journal) s
by_events _ (opened s o) tells = opening_within (length s.journal) (16 * length s.journal) s o
by_events _ (stepped old new event h step) tells =
    let mid = step.1.0 in
    let records = step.1.1.1.1 in
    let grew : length new.journal ≡ length old.journal + 1 =
    ap length records.journal ∙ length-append mid.journal (step.1.1.0 ∷ []) ∙ ap (λ (j : List Entry). length j + 1) (acts_journal old mid event step.0 step.1.1.1.0) in
    let few = (placed old h).config.sites in
    let room : HasRoom old mid old.cfg (16 * length old.journal) (16 * length new.journal) = record {
      measure = busy old.cfg;
      measures = busy_measures old.cfg;
      room = λ first outs ms len. let most = count_most old.cfg.n (awaited_at (sent_from first outs ms)) in omega (arith, most, few, grew);
    } in
    step_within (16 * length old.journal) (16 * length new.journal) old new event step (omega (arith, grew)) room tells (listed old h) (carried old h) (placed old h) (by_events old h (step_tell old new event step tells))

-- so each row is one that a run can hold, and each reply is heard as it was made
is_heard : (n : ℕ) (op : Op) (reply : Reply) → IfWritten (λ row. can_stand n row ≡ true) op → IfShown (λ row. can_stand n row ≡ true) reply → IsHeard n op reply
is_heard n op (Row etag row) w h = stands_heard n row (Row etag row) h
is_heard n (WriteRow key expect step row) (Written etag) w h = stands_heard n row (Written etag) w
is_heard n op reply w h = refl

-- what holds of all rows for two reasons
kept_both : (P Q : RowAt → Type 0) (o : Option (ℕ × RowAt)) → IfKept P o → IfKept Q o → IfKept (λ row. P row × Q row) o
kept_both P Q None h k = tt
kept_both P Q (Some kept) h k = (h, k)

written_both : (P Q : RowAt → Type 0) (op : Op) → IfWritten P op → IfWritten Q op → IfWritten (λ row. P row × Q row) op
written_both P Q (WriteRow key expect step row) h k = (h, k)
written_both P Q op h k = tt

shown_both : (P Q : RowAt → Type 0) (reply : Reply) → IfShown P reply → IfShown Q reply → IfShown (λ row. P row × Q row) reply
shown_both P Q (Row etag row) h k = (h, k)
shown_both P Q reply h k = tt

rows_both : (P Q : RowAt → Type 0) (s : State) → EachRow P s → EachRow Q s → EachRow (λ row. P row × Q row) s
rows_both P Q s h k = record {
  sites = λ i told key is. kept_both P Q (told.rows key) (h.sites i told key is) (k.sites i told key is);
  requests = λ n r at. written_both P Q r.op (h.requests n r at) (k.requests n r at);
  replies = λ n place tick r reply at has. shown_both P Q reply (h.replies n place tick r reply at has) (k.replies n place tick r reply at has);
}

pub can_stand_all : (s : State) → IsReached s → AllTell s → length s.journal ≤ 4000000 → CanStand s
can_stand_all s reached tells few =
    let v = length s.journal in
    let r = 16 * length s.journal in
    let n = s.cfg.n in
    let within = (by_events s reached tells).rows in
    let standing = rows_standing s (placed s reached).config (valued s reached tells) in
    let rows = rows_on (λ row. IsRowWithin v r row × AreStanding n row) (λ row. can_stand n row ≡ true) s (λ row h. row_can n v r row (omega (arith, few)) (omega (arith, few)) h.0 h.1) (rows_both (IsRowWithin v r) (AreStanding n) s within standing) in
    record { rows = rows; heard = λ number place tick q reply at has. is_heard n q.op reply (rows.requests number q at) (rows.replies number place tick q reply at has) }
