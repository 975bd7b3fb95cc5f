-- Each step keeps the tags that replies showed those of rows that stand, or that were written since.
use Rattle.std.proofs.Common.{◌≡◌, ◌≢◌, ℕ, zero, suc, ◌+◌, ◌-◌, ◌≤◌, ◌<◌, ◌⊎◌, inl, inr, List, [], ◌∷◌, ◌++◌, Some, None, Bool, true, false, length, refl, ap, sym, ◌∙◌, subst, arith, length-append}
use Rattle.std.proofs.lemmas.Bool.{cases_eq, and_parts, eqb-true}
use Rattle.std.specs.Prelude.{Option, MatchOption, IsSome, cond, if◌then◌else◌, ◌==◌, slice_get, slice_set}
use Rattle.gz_config.specs.declared.Config.{Config}
use Rattle.gz_core.specs.Names.{Name}
use Rattle.gz_core.specs.Calls.{key_of}
use Rattle.gz_core.specs.Rows.{RowAt, empty_row}
use Rattle.gz_core.specs.declared.calls.Call.{Call}
use Rattle.gz_core.specs.declared.requests.Op.{Op}
use Rattle.gz_core.specs.declared.requests.Op.TheVariants.{ReadRow, WriteRow}
use Rattle.gz_core.specs.declared.requests.Out.{Out}
use Rattle.gz_core.specs.declared.requests.Reply.{Reply}
use Rattle.gz_core.specs.declared.requests.Reply.TheVariants.{Row, NoRow, Written, Changed, Failed}
use Rattle.gz_core.specs.declared.requests.RowStep.{RowStep}
use Rattle.gz_core.specs.declared.requests.Turn.{Turn}
use Rattle.gz_round.specs.declared.hearing.Seen.{Seen}
use Rattle.gz_core.specs.History.{Asked, Action, Sent, Handed, GaveUp, Rested, GaveIn, Caller, Trace, is_row_request, asked_of, sent_from}
use Rattle.gz_core.specs.declared.values.Value.{Value}
use Rattle.gz_round.specs.Sending.{AreAllowed}
use Rattle.gz_round.proofs.Actions.{is_to_row}
use Rattle.gz_laws.proofs.Asking.{MayAskRow, row_asked}
use Rattle.gz_round.specs.Sites.{SiteNow, site_now, after, after_reply, after_sent, is_to, seen_in, written_by, is_changed, as_heard}
use Rattle.gz_site.specs.Told.{Told, Tells, etag_of}
use Rattle.gz_site.specs.Steps.{RowStored}
use Rattle.gz_world.specs.declared.events.Effect.{Effect}
use Rattle.gz_world.specs.declared.events.Entry.{Entry}
use Rattle.gz_world.specs.declared.events.Event.{Event}
use Rattle.gz_world.specs.declared.events.Event.TheVariants as events
use Rattle.gz_world.specs.Reached.{IsOpening, IsReached, opened, stepped}
use Rattle.gz_world.specs.Refusals.{refusal_of}
use Rattle.gz_world.specs.States.{RequestAt, State, tick_of, next_of, numbered, with_reply, with_handed, with_given_up, sent_request, sent_requests}
use Rattle.gz_world.specs.Steps.{Answers, BeginsBy, DeliversBy, TurnBy, TakesTurn, HasEffect, Does, Skips, WorldStep, hears}
use Rattle.gz_world.proofs.Members.{numbered_place, place_numbered}
use Rattle.gz_world.proofs.Places.{get_last, get_of_two, get_one, get_set_same}
use Rattle.gz_laws.specs.Carried.{ActionCarried, ActionsCarried, TracesCarried, AreCarried}
use Rattle.gz_laws.specs.Overtaken.{tag_shown, IsWriteOf, may_be_performed, IsReplyAt, IsWrittenBetween, IsShownTag, IsOvertakenAt, IsOnShownTag, StandsOrWritten, AreOvertakenBy, AreOvertaken}
use Rattle.gz_laws.specs.Runs.{key_asked}
use Rattle.gz_laws.proofs.Carrying.{IsLater, Grows, grows_same, grows_append, grows_set, grows_then, replied_later, handed_later, given_up_later, carried}
use Rattle.gz_laws.proofs.Growing.{allowed_base}
use Rattle.gz_laws.proofs.Keeping.{awaited_key}
use Rattle.gz_laws.proofs.Keys.{same_key-refl, key_cases}
use Rattle.gz_laws.proofs.Nets.{IsKeptAs, kept_itself, kept_handed, kept_given_up, AreKeptOrSent, begin_cases, turn_cases}
use Rattle.gz_laws.proofs.Placing.{acts_journal}
use Rattle.gz_laws.proofs.Closing.{closing_allowed}
use Rattle.gz_laws.proofs.RunTools.{set_cases}
use Rattle.gz_laws.proofs.Running.{told_request, handed_action, told_before}
use Rattle.gz_laws.proofs.AsHeard.{heard_shown}
use Rattle.gz_laws.proofs.BlobSteps.{blob_leaves}

-- what a reply showed stays as requests go on
reply_later : (old new : List RequestAt) (n : ℕ) (r : RequestAt) (place tick : ℕ) (reply : Reply) → Grows old new → IsReplyAt old n r place tick reply → (q : RequestAt) × (IsReplyAt new n q place tick reply × IsLater r q)
reply_later old new n r place tick reply grows h =
    let k = grows n r h.request in
    (k.0, (record { request = k.1.0; made = k.1.1.replies place (tick, reply) h.made }, k.1.1))

written_later : (old new : List RequestAt) (key : List ℕ) (tag : Option ℕ) (site from until more : ℕ) → Grows old new → until ≤ more → IsWrittenBetween old key tag site from until → IsWrittenBetween new key tag site from more
written_later old new key tag site from until more grows le h =
    let k = reply_later old new h.number h.request h.place h.tick h.reply grows h.made in
    let before = h.before in
    record {
      number = h.number;
      request = k.0;
      place = h.place;
      tick = h.tick;
      reply = h.reply;
      made = k.1.0;
      at = k.1.1.site ∙ h.at;
      writes = subst (λ (o : Op). IsWriteOf o key tag) (sym k.1.1.op) h.writes;
      performed = h.performed;
      after = h.after;
      before = omega (arith, before, le);
    }

shown_later : (old new : List RequestAt) (r q : RequestAt) (key : List ℕ) (expect : Option ℕ) (from : ℕ) → Grows old new → q.name ≡ r.name → q.site ≡ r.site → IsShownTag old r key expect from → IsShownTag new q key expect from
shown_later old new r q key expect from grows name site h =
    let k = reply_later old new h.number h.request h.place from h.reply grows h.made in
    let later = k.1.1 in
    record {
      number = h.number;
      request = k.0;
      place = h.place;
      reply = h.reply;
      made = k.1.0;
      own = later.name ∙ h.own ∙ sym name;
      at = later.site ∙ h.at ∙ sym site;
      about = ap key_asked later.op ∙ h.about;
      tag = h.tag;
    }

on_later : (old new : List RequestAt) (r q : RequestAt) → Grows old new → q.name ≡ r.name → q.site ≡ r.site → q.op ≡ r.op → q.tick ≡ r.tick → IsOnShownTag old r → IsOnShownTag new q
on_later old new r q grows name site op tick h = λ key expect step row is.
    let k = h key expect step row (sym op ∙ is) in
    (k.0, (shown_later old new r q key expect k.0 grows name site k.1.0, subst (λ t. k.0 < t) (sym tick) k.1.1))

-- each reply after an event was made before it
abbrev AreRepliesOf : List RequestAt → List RequestAt → Type 0
AreRepliesOf old new = (n place tick : ℕ) (q : RequestAt) (reply : Reply) → IsReplyAt new n q place tick reply → (k : ℕ) × ((r : RequestAt) × (IsReplyAt old k r place tick reply × IsKeptAs r q))

-- no site did anything, and no reply was made
stay_overtaken : (old new : State) (ticks more : ℕ) → ticks ≤ more → ((i : ℕ) → new.sites i ≡ old.sites i) → Grows old.net new.net → AreRepliesOf old.net new.net → ((n : ℕ) (r : RequestAt) → numbered new.net n ≡ Some r → IsOnShownTag new.net r) → ((n : ℕ) (r : RequestAt) → numbered new.net n ≡ Some r → r.tick ≤ more)
    → AreOvertakenBy ticks old → AreOvertakenBy more new
stay_overtaken old new ticks more le sites grows from sent asked o = record {
  sent = sent;
  asked = asked;
  made = λ n place tick q reply h.
      let k = from n place tick q reply h in
      let b = o.made k.0 place tick k.1.0 reply k.1.1.0 in
      let l = b.0 in
      let m = b.1 in
      let e = k.1.1.1.tick in
      (omega (arith, l, e), omega (arith, m, le));
  stands = λ n place tick q reply tag h shows told is.
      let k = from n place tick q reply h in
      let same = k.1.1.1.alike in
      let was = o.stands k.0 place tick k.1.0 reply tag k.1.1.0 shows told (sym (sites k.1.0.site) ∙ ap new.sites (sym same.site) ∙ is) in
      subst (λ (op : Op). (etag_of (told.rows (key_asked op)) ≡ tag) ⊎ IsWrittenBetween new.net (key_asked op) tag q.site tick (more + 1)) (sym same.op)
      (subst (λ site. (etag_of (told.rows (key_asked k.1.0.op)) ≡ tag) ⊎ IsWrittenBetween new.net (key_asked k.1.0.op) tag site tick (more + 1)) (sym same.site)
      (elim was [ inl e ↦ inl e | inr w ↦ inr (written_later old.net new.net (key_asked k.1.0.op) tag k.1.0.site tick (ticks + 1) (more + 1) grows (omega (arith, le)) w) ]));
  changed = λ n place tick q key expect step row h is tells m p first x reply g at own tag before.
      let k = from n place tick q Changed h in
      let f = from m p first x reply g in
      let same = k.1.1.1.alike in
      let too = f.1.1.1.alike in
      let w = o.changed k.0 place tick k.1.0 key expect step row k.1.1.0 (sym same.op ∙ is) (subst IsSome (ap new.sites same.site ∙ sites k.1.0.site) tells) f.0 p first f.1.0 reply f.1.1.0 (sym too.site ∙ at ∙ same.site) (ap key_asked (sym too.op) ∙ own) tag before in
      subst (λ site. IsWrittenBetween new.net key expect site first tick) (sym same.site) (written_later old.net new.net key expect k.1.0.site first tick tick grows (omega arith) w);
}

-- a row that was heard was shown by a reply
same_tag : (shown seen : Seen) → Some shown ≡ Some seen → Some shown.etag ≡ Some seen.etag
same_tag shown seen e = let same : shown ≡ seen = cc in ap (λ (x : Seen). Some x.etag) same

seen_tag : (written : Option RowAt) (reply : Reply) (seen : Seen) → seen_in written reply ≡ Some seen → tag_shown reply ≡ Some seen.etag
seen_tag written (Row etag row) seen e = same_tag (record { etag = Some etag; row = row }) seen e
seen_tag written NoRow seen e = same_tag (record { etag = None; row = empty_row }) seen e
seen_tag (Some row) (Written etag) seen e = same_tag (record { etag = Some etag; row = row }) seen e
seen_tag written reply seen e = cc

-- the last row of a site that its call heard is that of a reply
if_row : {R : Type 0} (b : Bool) (x y : SiteNow) (o : Option Seen) → (if b then x else y).row ≡ o → (b ≡ true → x.row ≡ o → R) → (y.row ≡ o → R) → R
if_row true x y o e f g = f refl e
if_row false x y o e f g = g e

reply_row : {R : Type 0} (o : Option Seen) (changed : Bool) (now : SiteNow) (seen : Seen) → (after_reply o changed now).row ≡ Some seen → (o ≡ Some seen → R) → (now.row ≡ Some seen → R) → R
reply_row (Some x) changed now seen e f g = f e
reply_row None true now seen e f g = g e
reply_row None false now seen e f g = g e

sent_row : (a : Asked) (now : SiteNow) → (after_sent a now).row ≡ now.row
sent_row a now = elim a.awaited as (λ w. (if w then (let k : SiteNow = record { row = now.row; changed = now.changed; out = now.out; awaits = Some a; unanswered = true } in k) else now).row ≡ now.row) [ true ↦ refl | false ↦ refl ]

pub row_sent : (a : Asked) (ms : List Action) (s : ℕ) → (site_now (Sent a ∷ ms) s).row ≡ (site_now ms s).row
row_sent a ms s = elim (is_to a s) as (λ b. (if b then after_sent a (site_now ms s) else site_now ms s).row ≡ (site_now ms s).row) [ true ↦ sent_row a (site_now ms s) | false ↦ refl ]

handed_shown : (n : ℕ) (net : List RequestAt) (w : Caller) (a : Asked) (reply : Reply) (r : RequestAt) (seen : Seen) → r.name ≡ w.name → key_asked a.op ≡ key_of w.call → is_to a r.site ≡ true → seen_in (written_by a.op) reply ≡ Some seen → ActionCarried n net w.name (Handed a reply)
    → (from : ℕ) × IsShownTag net r (key_of w.call) seen.etag from
handed_shown n net w a reply r seen own about to is carried =
    let q = carried.0 in
    let req = carried.1.0 in
    let has = carried.1.1 in
    let site = (and_parts (is_row_request a.op) (a.site == r.site) to).1 in
    let heard : reply ≡ as_heard n (written_by a.op) has.made = has.heard ∙ ap (λ op. as_heard n (written_by op) has.made) req.op_is in (
      has.tick,
      record {
        number = a.number;
        request = q;
        place = has.place;
        reply = has.made;
        made = record { request = req.there; made = has.there };
        own = req.name_is ∙ sym own;
        at = req.site_is ∙ eqb-true a.site r.site site;
        about = ap key_asked req.op_is ∙ about;
        tag = seen_tag (written_by a.op) has.made seen (heard_shown n (written_by a.op) has.made seen (ap (seen_in (written_by a.op)) (sym heard) ∙ is));
      },
    )

last_shown : (net : List RequestAt) (c : Config) (w : Caller) (past : List Trace) (ms : List Action) (r : RequestAt) (seen : Seen) → r.name ≡ w.name → AreAllowed c w past ms → ActionsCarried c.n net w.name ms → (site_now ms r.site).row ≡ Some seen → (from : ℕ) × IsShownTag net r (key_of w.call) seen.etag from
last_shown net c w past [] r seen own allowed carried e = cc
last_shown net c w past (Sent a ∷ ms) r seen own allowed carried e = last_shown net c w past ms r seen own allowed.1 carried.1 (sym (row_sent a ms r.site) ∙ e)
last_shown net c w past (Handed a reply ∷ ms) r seen own allowed carried e =
    let before = last_shown net c w past ms r seen own allowed.1 carried.1 in
    if_row (is_to a r.site) (after_reply (seen_in (written_by a.op) reply) (is_changed reply) (site_now ms r.site)) (site_now ms r.site) (Some seen) e
    (λ to now. reply_row (seen_in (written_by a.op) reply) (is_changed reply) (site_now ms r.site) seen now
    (λ is. handed_shown c.n net w a reply r seen own (awaited_key c w past ms a.site a allowed.1 (allowed.0 (is_to_row a r.site to)).0) to is carried.0) before) before
last_shown net c w past (GaveUp a ∷ ms) r seen own allowed carried e =
    let before = last_shown net c w past ms r seen own allowed.1 carried.1 in
    if_row (is_to a r.site) (after (GaveUp a) (site_now ms r.site)) (site_now ms r.site) (Some seen) e (λ to now. before now) before
last_shown net c w past (Rested ∷ ms) r seen own allowed carried e = last_shown net c w past ms r seen own allowed.1 carried.1 e
last_shown net c w past (GaveIn ∷ ms) r seen own allowed carried e = last_shown net c w past ms r seen own allowed.1 carried.1 e

-- a write that a call sends goes out on the last row of its site
asks_last : (c : Config) (w : Caller) (past : List Trace) (ms : List Action) (now : SiteNow) (op : Op) (key : List ℕ) (expect : Option ℕ) (step : RowStep) (row : RowAt) → op ≡ WriteRow key expect step row → MayAskRow c w past ms now op
    → (key ≡ key_of w.call) × ((before : RowAt) × (now.row ≡ Some (let k : Seen = record { etag = expect; row = before } in k)))
asks_last c w past ms now op key expect step row is may = let k = subst (MayAskRow c w past ms now) is may refl in (k.0, (k.1.before, k.1.last))

sends_last : (c : Config) (w : Caller) (past : List Trace) (first : ℕ) (outs : List Out) (ms : List Action) (j : ℕ) (o : Out) (key : List ℕ) (expect : Option ℕ) (step : RowStep) (row : RowAt) → AreAllowed c w past (sent_from first outs ms) → slice_get outs j ≡ Some o → o.op ≡ WriteRow key expect step row
    → (key ≡ key_of w.call) × ((before : RowAt) × ((site_now ms o.site).row ≡ Some (let k : Seen = record { etag = expect; row = before } in k)))
sends_last c w past first [] ms j o key expect step row allowed there is = cc
sends_last c w past first (x ∷ xs) ms zero o key expect step row allowed there is =
    let same : x ≡ o = cc in
    let a = asked_of first x in
    subst (λ (k : Out). (key ≡ key_of w.call) × ((before : RowAt) × ((site_now ms k.site).row ≡ Some (let z : Seen = record { etag = expect; row = before } in z)))) same
    (asks_last c w past ms (site_now ms x.site) x.op key expect step row (ap (λ (k : Out). k.op) same ∙ is) (row_asked c w past ms a (allowed_base c w past (first + 1) xs (Sent a ∷ ms) allowed).0))
sends_last c w past first (x ∷ xs) ms (suc j) o key expect step row allowed there is =
    let a = asked_of first x in
    let k = sends_last c w past (first + 1) xs (Sent a ∷ ms) j o key expect step row allowed there is in
    (k.0, (k.1.0, sym (row_sent a ms o.site) ∙ k.1.1))

sent_on : (old new : State) (ticks first : ℕ) (w : Caller) (past : List Trace) (outs : List Out) (ms : List Action) (j : ℕ) (o : Out) → Grows old.net new.net → AreAllowed old.cfg w past (sent_from first outs ms) → ActionsCarried old.cfg.n old.net w.name ms → AreOvertakenBy ticks old → slice_get outs j ≡ Some o
    → IsOnShownTag new.net (sent_request w.name (ticks + 1) o)
sent_on old new ticks first w past outs ms j o grows allowed carried over there = λ key expect step row is.
    let q = sent_request w.name (ticks + 1) o in
    let k = sends_last old.cfg w past first outs ms j o key expect step row allowed there is in
    let seen : Seen = record { etag = expect; row = k.1.0 } in
    let s = last_shown old.net old.cfg w past ms q seen refl (allowed_base old.cfg w past first outs ms allowed) carried k.1.1 in
    let from = s.0 in
    let tag = s.1 in
    let passed = (over.made tag.number tag.place from tag.request tag.reply tag.made).1 in
    (from, (subst (λ x. IsShownTag new.net q x expect from) (sym k.0) (shown_later old.net new.net q q (key_of w.call) expect from grows refl refl tag), omega (arith, passed)))

-- what a session's turn leaves
moves_overtaken : (old new : State) (ticks first : ℕ) (w : Caller) (past : List Trace) (outs : List Out) (ms : List Action) → ((i : ℕ) → new.sites i ≡ old.sites i) → Grows old.net new.net → AreKeptOrSent old.net new.net w.name (ticks + 1) outs → AreAllowed old.cfg w past (sent_from first outs ms)
    → ActionsCarried old.cfg.n old.net w.name ms → AreOvertakenBy ticks old → AreOvertakenBy (ticks + 1) new
moves_overtaken old new ticks first w past outs ms sites grows cases allowed carried over =
    stay_overtaken old new ticks (ticks + 1) (omega arith) sites grows
    (λ n place tick q reply h. elim (cases n q h.request) [
      | inl k ↦ (k.0, (k.1.0, (record { request = k.1.1.0; made = subst (λ xs. slice_get xs place ≡ Some (tick, reply)) k.1.1.1.alike.replies h.made }, k.1.1.1)))
      | inr k ↦ (let bad : slice_get [] place ≡ Some (tick, reply) = subst (λ (x : RequestAt). slice_get x.replies place ≡ Some (tick, reply)) (sym k.1.1.1) h.made in cc)
    ])
    (λ n q h. elim (cases n q h) [
      | inl k ↦ (let a = k.1.1.1.alike in on_later old.net new.net k.1.0 q grows a.name a.site a.op k.1.1.1.tick (over.sent k.0 k.1.0 k.1.1.0))
      | inr k ↦ subst (IsOnShownTag new.net) k.1.1.1 (sent_on old new ticks first w past outs ms k.0 k.1.0 grows allowed carried over k.1.1.0)
    ])
    (λ n q h. elim (cases n q h) [
      | inl k ↦ (let l = over.asked k.0 k.1.0 k.1.1.0 in let e = k.1.1.1.tick in omega (arith, l, e))
      | inr k ↦ (let e : ticks + 1 ≡ q.tick = ap (λ (x : RequestAt). x.tick) k.1.1.1 in omega (arith, e))
    ]) over

same_overtaken : (old new : State) (ticks more : ℕ) → ticks ≤ more → ((i : ℕ) → new.sites i ≡ old.sites i) → new.net ≡ old.net → AreOvertakenBy ticks old → AreOvertakenBy more new
same_overtaken old new ticks more le sites net over =
    let grows = grows_same old.net new.net net in
    stay_overtaken old new ticks more le sites grows
    (λ n place tick q reply h. (n, (q, (record { request = subst (λ xs. numbered xs n ≡ Some q) net h.request; made = h.made }, kept_itself q))))
    (λ n q h. on_later old.net new.net q q grows refl refl refl refl (over.sent n q (subst (λ xs. numbered xs n ≡ Some q) net h)))
    (λ n q h. let l = over.asked n q (subst (λ xs. numbered xs n ≡ Some q) net h) in omega (arith, l, le)) over

begin_overtaken : (old new : State) (session : ℕ) (call : Call) (own : Option Value) (turn : Turn) (effect : Effect) → BeginsBy old session call own turn effect new → AreOvertaken old → AreOvertakenBy (tick_of old) new
begin_overtaken old new session call own turn effect b over =
    let past = old.traces session in
    let name : Name = record { session = session; seq = length past + 1 } in
    let w : Caller = record { name = name; call = call; own = own } in
    let outs = sent_requests name (tick_of old) turn.send in
    let grows : Grows old.net new.net = grows_then old.net (old.net ++ outs) new.net (grows_append old.net outs) (grows_same (old.net ++ outs) new.net b.net) in
    moves_overtaken old new (length old.journal) (next_of old) w past turn.send [] b.sites.sites grows (begin_cases old.net new.net name (tick_of old) turn.send b.net) b.moves.told.0.allowed tt over

turn_overtaken : (old new : State) (n : ℕ) (r marked : RequestAt) (action : Asked → Action) (by : TurnBy) (effect : Effect) → TakesTurn old n r action by marked effect new → IsKeptAs r marked → IsLater r marked → ActionCarried old.cfg.n old.net by.trace.caller.name (action by.asked)
    → AreCarried old → AreOvertaken old → AreOvertakenBy (tick_of old) new
turn_overtaken old new n r marked action by effect t kept later carry carries over =
    let w = by.trace.caller in
    let tick = tick_of old in
    let outs = by.turn.send in
    let sent = sent_requests w.name tick outs in
    let ms = action by.asked ∷ by.trace.actions in
    let mid = slice_set old.net (n - 1) marked in
    let place = numbered_place old.net n r t.request in
    let mine : ActionsCarried old.cfg.n old.net w.name by.trace.actions = (subst (TracesCarried old.cfg.n old.net) t.traces (carries r.name.session)).0 in
    let allowed = closing_allowed old.cfg w by.earlier by.closing (sent_from (next_of old) outs ms) t.closing t.moves.told.0.allowed in
    let grows : Grows old.net new.net = grows_then old.net (mid ++ sent) new.net (grows_then old.net mid (mid ++ sent) (grows_set old.net (n - 1) r marked place.1 later) (grows_append mid sent)) (grows_same (mid ++ sent) new.net t.net) in
    moves_overtaken old new (length old.journal) (next_of old) w by.earlier outs ms t.sites.sites grows (turn_cases old.net new.net n r marked w.name tick outs t.request kept t.net) allowed (carry, mine) over

-- what a site does to its rows: it leaves a row, or it performed a write of it
stored_rows : (before told : Told) (k : List ℕ) (etag : ℕ) (row : RowAt) (key : List ℕ) (P : Type 0) → RowStored before k etag row told → (k ≡ key → P) → (told.rows key ≡ before.rows key) ⊎ P
stored_rows before told k etag row key P done f = elim (key_cases k key) [
  | inl same ↦ inr (f same)
  | inr apart ↦ inl (done.rows key ∙ ap (λ b. cond b (Some (etag, row)) (before.rows key)) apart.1)
]

left_rows : (before told : Told) (key : List ℕ) (P : Type 0) → told ≡ before → (told.rows key ≡ before.rows key) ⊎ P
left_rows before told key P e = inl (ap (λ (t : Told). t.rows key) e)

-- the tag that a write expects is that of the row that stands
on_tag : (before : Told) (k key : List ℕ) (expect : Option ℕ) → k ≡ key → etag_of (before.rows k) ≡ expect → expect ≡ etag_of (before.rows key)
on_tag before k key expect same e = sym e ∙ ap (λ x. etag_of (before.rows x)) same

-- a delivery leaves a row as it was, or is of a write of it on its tag
rows_cases : (before told : Told) (op : Op) (reply : Reply) (key : List ℕ) → Answers before op reply told → (told.rows key ≡ before.rows key) ⊎ (IsWriteOf op key (etag_of (before.rows key)) × (may_be_performed reply ≡ true))
rows_cases before told (ReadRow k) (Row etag row) key h = left_rows before told key _ h.1
rows_cases before told (ReadRow k) NoRow key h = left_rows before told key _ h.1
rows_cases before told (ReadRow k) Failed key h = left_rows before told key _ h
rows_cases before told (ReadRow k) reply key h = absurd h
rows_cases before told (WriteRow k expect step row) (Written etag) key h = stored_rows before told k etag row key _ h.1 (λ same. ((same, on_tag before k key expect same h.0), refl))
rows_cases before told (WriteRow k expect step row) Changed key h = left_rows before told key _ h.1
rows_cases before told (WriteRow k expect step row) Failed key h = elim h [ inl e ↦ left_rows before told key _ e | inr d ↦ stored_rows before told k d.0 row key _ d.2 (λ same. ((same, on_tag before k key expect same d.1), refl)) ]
rows_cases before told (WriteRow k expect step row) reply key h = absurd h
rows_cases before told op reply key h = inl (ap (λ (rows : List ℕ → Option (ℕ × RowAt)). rows key) (blob_leaves before told op reply refl h).rows)

-- the tag that a reply shows is that of the row that stands
tag_stands : (before told : Told) (op : Op) (reply : Reply) (tag : Option ℕ) → Answers before op reply told → tag_shown reply ≡ Some tag → etag_of (told.rows (key_asked op)) ≡ tag
tag_stands before told (ReadRow k) (Row etag row) tag h e = let same : Some etag ≡ tag = cc in ap etag_of (ap (λ (t : Told). t.rows k) h.1 ∙ h.0) ∙ same
tag_stands before told (ReadRow k) NoRow tag h e = let same : None ≡ tag = cc in ap etag_of (ap (λ (t : Told). t.rows k) h.1 ∙ h.0) ∙ same
tag_stands before told (WriteRow k expect step row) (Written etag) tag h e =
    let same : Some etag ≡ tag = cc in
    ap etag_of (h.1.rows k ∙ ap (λ b. cond b (Some (etag, row)) (before.rows k)) (same_key-refl k)) ∙ same
tag_stands before told op (Row etag row) tag h e = absurd h
tag_stands before told op NoRow tag h e = absurd h
tag_stands before told op (Written etag) tag h e = absurd h
tag_stands before told op reply tag h e = cc

-- a write is refused where another tag stands
refused_tag : (before told : Told) (op : Op) (key : List ℕ) (expect : Option ℕ) (step : RowStep) (row : RowAt) → op ≡ WriteRow key expect step row → Answers before op Changed told → etag_of (before.rows key) ≢ expect
refused_tag before told op key expect step row is h = (subst (λ (o : Op). Answers before o Changed told) is h).0

tells_some : (o p : Option Told) (R : Told → Told → Type 0) (told : Told) → Tells o p R → p ≡ Some told → (before : Told) × ((o ≡ Some before) × R before told)
tells_some None None R told h e = cc
tells_some None (Some new) R told h e = absurd h
tells_some (Some old) None R told h e = absurd h
tells_some (Some old) (Some new) R told h e = let same : new ≡ told = cc in (old, (refl, subst (R old) same h))

-- the replies after a delivery
record IsNewReply (r q : RequestAt) (place tick : ℕ) (reply given : Reply) (now : ℕ) : Type 0 where
  request : q ≡ with_reply now reply r
  tick_is : tick ≡ now
  reply_is : given ≡ reply

record IsOldReply (old : List RequestAt) (q : RequestAt) (place tick : ℕ) (given : Reply) : Type 0 where
  number : ℕ
  request : RequestAt
  made : IsReplyAt old number request place tick given
  name : q.name ≡ request.name
  site : q.site ≡ request.site
  op : q.op ≡ request.op
  sent : q.tick ≡ request.tick

pair_parts : (p q : ℕ × Reply) → p ≡ q → (p.0 ≡ q.0) × (p.1 ≡ q.1)
pair_parts p q e = (ap (λ (w : ℕ × Reply). w.0) e, ap (λ (w : ℕ × Reply). w.1) e)

deliver_replies : (old new : State) (n : ℕ) (r : RequestAt) (reply : Reply) (effect : Effect) → DeliversBy old n r reply effect new → (m place tick : ℕ) (q : RequestAt) (given : Reply) → IsReplyAt new.net m q place tick given → IsOldReply old.net q place tick given ⊎ IsNewReply r q place tick reply given (tick_of old)
deliver_replies old new n r reply effect d m place tick q given h =
    let now = tick_of old in
    let marked = with_reply now reply r in
    elim (set_cases old.net n m r marked q d.request (subst (λ xs. numbered xs m ≡ Some q) d.net h.request)) [
      | inl e ↦ elim (get_of_two r.replies ((now, reply) ∷ []) place (tick, given) (subst (λ (x : RequestAt). slice_get x.replies place ≡ Some (tick, given)) e h.made)) [
        | inl was ↦ inl (record {
          number = n;
          request = r;
          made = record { request = d.request; made = was };
          name = ap (λ (x : RequestAt). x.name) e;
          site = ap (λ (x : RequestAt). x.site) e;
          op = ap (λ (x : RequestAt). x.op) e;
          sent = ap (λ (x : RequestAt). x.tick) e;
        })
        | inr is ↦ (let k = pair_parts (now, reply) (tick, given) (get_one (now, reply) (tick, given) is.0 is.1.1).1 in inr (record { request = e; tick_is = sym k.0; reply_is = sym k.1 }))
      ]
      | inr e ↦ inl (record { number = m; request = q; made = record { request = e; made = h.made }; name = refl; site = refl; op = refl; sent = refl })
    ]

deliver_grows : (old new : State) (n : ℕ) (r : RequestAt) (reply : Reply) (effect : Effect) → DeliversBy old n r reply effect new → Grows old.net new.net
deliver_grows old new n r reply effect d =
    let place = numbered_place old.net n r d.request in
    let after = with_reply (tick_of old) reply r in
    let mid = slice_set old.net (n - 1) after in
    grows_then old.net mid new.net (grows_set old.net (n - 1) r after place.1 (replied_later (tick_of old) reply r)) (grows_same mid new.net d.net)

-- the delivery's own reply
own_reply : (old new : State) (n : ℕ) (r : RequestAt) (reply : Reply) (effect : Effect) → DeliversBy old n r reply effect new → IsReplyAt new.net n (with_reply (tick_of old) reply r) (length r.replies) (tick_of old) reply
own_reply old new n r reply effect d =
    let marked = with_reply (tick_of old) reply r in
    let place = numbered_place old.net n r d.request in
    record {
      request = ap (λ xs. numbered xs n) d.net ∙ place_numbered (slice_set old.net (n - 1) marked) n marked place.0 (get_set_same old.net (n - 1) r marked place.1);
      made = get_last r.replies (tick_of old, reply);
    }

-- of a reply that was made before, at the site of the delivery
stands_here : (old new : State) (n : ℕ) (r : RequestAt) (reply : Reply) (effect : Effect) (q : RequestAt) (tick : ℕ) (tag : Option ℕ) (told : Told) → DeliversBy old n r reply effect new → q.site ≡ r.site → tick ≤ length old.journal → StandsOrWritten old (length old.journal) q tick tag → new.sites q.site ≡ Some told
    → (etag_of (told.rows (key_asked q.op)) ≡ tag) ⊎ IsWrittenBetween new.net (key_asked q.op) tag q.site tick (tick_of old + 1)
stands_here old new n r reply effect q tick tag told d same passed was is =
    let k = tells_some (old.sites r.site) (new.sites r.site) (λ before after. Answers before r.op reply after) told d.site (ap new.sites (sym same) ∙ is) in
    let key = key_asked q.op in
    let grows = deliver_grows old new n r reply effect d in
    elim (was k.0 (ap old.sites same ∙ k.1.0)) [
      | inl e ↦ elim (rows_cases k.0 told r.op reply key k.1.1) [
        | inl left ↦ inl (ap etag_of left ∙ e)
        | inr wrote ↦ inr (record {
          number = n;
          request = with_reply (tick_of old) reply r;
          place = length r.replies;
          tick = tick_of old;
          reply = reply;
          made = own_reply old new n r reply effect d;
          at = sym same;
          writes = subst (IsWriteOf r.op key) e wrote.0;
          performed = wrote.1;
          after = omega (arith, passed);
          before = omega arith;
        })
      ]
      | inr w ↦ inr (written_later old.net new.net key tag q.site tick (length old.journal + 1) (tick_of old + 1) grows (omega arith) w)
    ]

stands_there : (old new : State) (n : ℕ) (r : RequestAt) (reply : Reply) (effect : Effect) (q : RequestAt) (tick : ℕ) (tag : Option ℕ) (told : Told) → DeliversBy old n r reply effect new → q.site ≢ r.site → StandsOrWritten old (length old.journal) q tick tag → new.sites q.site ≡ Some told
    → (etag_of (told.rows (key_asked q.op)) ≡ tag) ⊎ IsWrittenBetween new.net (key_asked q.op) tag q.site tick (tick_of old + 1)
stands_there old new n r reply effect q tick tag told d apart was is = elim (was told (sym (d.others q.site apart) ∙ is)) [
  | inl e ↦ inl e
  | inr w ↦ inr (written_later old.net new.net (key_asked q.op) tag q.site tick (length old.journal + 1) (tick_of old + 1) (deliver_grows old new n r reply effect d) (omega arith) w)
]

deliver_stands : (old new : State) (n : ℕ) (r : RequestAt) (reply : Reply) (effect : Effect) → DeliversBy old n r reply effect new → AreOvertaken old → (m place tick : ℕ) (q : RequestAt) (given : Reply) (tag : Option ℕ) → IsReplyAt new.net m q place tick given → tag_shown given ≡ Some tag → StandsOrWritten new (tick_of old) q tick tag
deliver_stands old new n r reply effect d over m place tick q given tag h shows told is = elim (deliver_replies old new n r reply effect d m place tick q given h) [
  | inl k ↦ (let was = over.stands k.number place tick k.request given tag k.made shows in
      let passed = (over.made k.number place tick k.request given k.made).1 in
      subst (λ (op : Op). (etag_of (told.rows (key_asked op)) ≡ tag) ⊎ IsWrittenBetween new.net (key_asked op) tag q.site tick (tick_of old + 1)) (sym k.op)
      (subst (λ site. (etag_of (told.rows (key_asked k.request.op)) ≡ tag) ⊎ IsWrittenBetween new.net (key_asked k.request.op) tag site tick (tick_of old + 1)) (sym k.site)
      (let there : new.sites k.request.site ≡ Some told = ap new.sites (sym k.site) ∙ is in
      elim (cases_eq k.request.site r.site) [
        | inl e ↦ stands_here old new n r reply effect k.request tick tag told d e passed was there
        | inr ne ↦ stands_there old new n r reply effect k.request tick tag told d ne was there
      ])))
  | inr k ↦ (let marked = with_reply (tick_of old) reply r in
      let there : new.sites r.site ≡ Some told = subst (λ (x : RequestAt). new.sites x.site ≡ Some told) k.request is in
      let b = tells_some (old.sites r.site) (new.sites r.site) (λ before after. Answers before r.op reply after) told d.site there in
      let e = tag_stands b.0 told r.op reply tag b.1.1 (ap tag_shown (sym k.reply_is) ∙ shows) in
      subst (λ (x : RequestAt). (etag_of (told.rows (key_asked x.op)) ≡ tag) ⊎ IsWrittenBetween new.net (key_asked x.op) tag x.site tick (tick_of old + 1)) (sym k.request) (inl e))
]

-- a site that tells told before
told_there : (old new : State) (n : ℕ) (r : RequestAt) (reply : Reply) (effect : Effect) (site : ℕ) → DeliversBy old n r reply effect new → IsSome (new.sites site) → IsSome (old.sites site)
told_there old new n r reply effect site d tells = elim (cases_eq site r.site) [
  | inl e ↦ subst (λ k. IsSome (old.sites k)) (sym e) (told_before (old.sites r.site) (new.sites r.site) (λ before after. Answers before r.op reply after) d.site (subst (λ k. IsSome (new.sites k)) e tells))
  | inr ne ↦ subst IsSome (d.others site ne) tells
]

some_there : (o : Option Told) → IsSome o → (told : Told) × (o ≡ Some told)
some_there None h = cc
some_there (Some told) h = (told, refl)

-- the write that is refused now
refused_now : (old new : State) (n : ℕ) (r : RequestAt) (effect : Effect) (key : List ℕ) (expect : Option ℕ) (step : RowStep) (row : RowAt) (k place from : ℕ) (q : RequestAt) (given : Reply) → DeliversBy old n r Changed effect new → AreOvertaken old → r.op ≡ WriteRow key expect step row → IsSome (new.sites r.site)
    → IsReplyAt old.net k q place from given → q.site ≡ r.site → key_asked q.op ≡ key → tag_shown given ≡ Some expect → IsWrittenBetween new.net key expect r.site from (tick_of old)
refused_now old new n r effect key expect step row k place from q given d over is tells h at own tag =
    let told = some_there (new.sites r.site) tells in
    let b = tells_some (old.sites r.site) (new.sites r.site) (λ before after. Answers before r.op Changed after) told.0 d.site told.1 in
    let refused = refused_tag b.0 told.0 r.op key expect step row is b.1.1 in
    let grows = deliver_grows old new n r Changed effect d in
    elim (over.stands k place from q given expect h tag b.0 (ap old.sites at ∙ b.1.0)) [
      | inl e ↦ absurd (refused (ap (λ x. etag_of (b.0.rows x)) (sym own) ∙ e))
      | inr w ↦ subst (λ x. IsWrittenBetween new.net x expect r.site from (tick_of old)) own
          (subst (λ site. IsWrittenBetween new.net (key_asked q.op) expect site from (tick_of old)) at (written_later old.net new.net (key_asked q.op) expect q.site from (length old.journal + 1) (tick_of old) grows (omega arith) w))
    ]

deliver_changed : (old new : State) (n : ℕ) (r : RequestAt) (reply : Reply) (effect : Effect) → DeliversBy old n r reply effect new → AreOvertaken old
    → (m place tick : ℕ) (q : RequestAt) (key : List ℕ) (expect : Option ℕ) (step : RowStep) (row : RowAt) → IsReplyAt new.net m q place tick Changed → q.op ≡ WriteRow key expect step row → IsSome (new.sites q.site) → IsOvertakenAt new.net q key expect tick
deliver_changed old new n r reply effect d over m place tick q key expect step row h is tells k first from p given g at own tag before =
    let now = tick_of old in
    elim (deliver_replies old new n r reply effect d m place tick q Changed h) [
      | inl x ↦ (let passed = (over.made x.number place tick x.request Changed x.made).1 in
          elim (deliver_replies old new n r reply effect d k first from p given g) [
            | inl y ↦ (let w = over.changed x.number place tick x.request key expect step row x.made (sym x.op ∙ is) (told_there old new n r reply effect x.request.site d (subst (λ site. IsSome (new.sites site)) x.site tells))
                y.number first from y.request given y.made (sym y.site ∙ at ∙ x.site) (ap key_asked (sym y.op) ∙ own) tag before in
                subst (λ site. IsWrittenBetween new.net key expect site from tick) (sym x.site) (written_later old.net new.net key expect x.request.site from tick tick (deliver_grows old new n r reply effect d) (omega arith) w))
            | inr y ↦ (let late = y.tick_is in absurd (omega (arith, late, before, passed)))
          ])
      | inr x ↦ (let here = x.tick_is in
          elim (deliver_replies old new n r reply effect d k first from p given g) [
            | inl y ↦ (let own_site : q.site ≡ r.site = ap (λ (z : RequestAt). z.site) x.request in
                let own_op : q.op ≡ r.op = ap (λ (z : RequestAt). z.op) x.request in
                let refused : DeliversBy old n r Changed effect new = subst (λ (z : Reply). DeliversBy old n r z effect new) (sym x.reply_is) d in
                let w = refused_now old new n r effect key expect step row y.number first from y.request given refused over (sym own_op ∙ is) (subst (λ site. IsSome (new.sites site)) own_site tells) y.made (sym y.site ∙ at ∙ own_site) (ap key_asked (sym y.op) ∙ own) tag in
                subst (λ until. IsWrittenBetween new.net key expect q.site from until) (sym here) (subst (λ site. IsWrittenBetween new.net key expect site from now) (sym own_site) w))
            | inr y ↦ (let late = y.tick_is in absurd (omega (arith, late, before, here)))
          ])
    ]

deliver_overtaken : (old new : State) (n : ℕ) (r : RequestAt) (reply : Reply) (effect : Effect) → DeliversBy old n r reply effect new → AreOvertaken old → AreOvertakenBy (tick_of old) new
deliver_overtaken old new n r reply effect d over =
    let grows = deliver_grows old new n r reply effect d in
    let marked = with_reply (tick_of old) reply r in
    let cases : (m : ℕ) (q : RequestAt) → numbered new.net m ≡ Some q → (q ≡ marked) ⊎ (numbered old.net m ≡ Some q)
    = λ m q h. set_cases old.net n m r marked q d.request (subst (λ ks. numbered ks m ≡ Some q) d.net h) in
    record {
      sent = λ m q h. elim (cases m q h) [
        | inl e ↦ subst (IsOnShownTag new.net) (sym e) (on_later old.net new.net r marked grows refl refl refl refl (over.sent n r d.request))
        | inr e ↦ on_later old.net new.net q q grows refl refl refl refl (over.sent m q e)
      ];
      asked = λ m q h. elim (cases m q h) [
        | inl e ↦ (let l = over.asked n r d.request in let same : q.tick ≡ r.tick = ap (λ (x : RequestAt). x.tick) e in omega (arith, l, same))
        | inr e ↦ (let l = over.asked m q e in omega (arith, l))
      ];
      made = λ m place tick q given h. elim (deliver_replies old new n r reply effect d m place tick q given h) [
        | inl k ↦ (let b = over.made k.number place tick k.request given k.made in
            let l = b.0 in
            let u = b.1 in
            let e = k.sent in
            (omega (arith, l, e), omega (arith, u)))
        | inr k ↦ (let l = over.asked n r d.request in let e : q.tick ≡ r.tick = ap (λ (x : RequestAt). x.tick) k.request in let now = k.tick_is in (omega (arith, l, e, now), omega (arith, now)))
      ];
      stands = deliver_stands old new n r reply effect d over;
      changed = deliver_changed old new n r reply effect d over;
    }

does_overtaken : (old new : State) (event : Event) (effect : Effect) → Does old event effect new → AreCarried old → AreOvertaken old → AreOvertakenBy (tick_of old) new
does_overtaken old new events.OpenSession effect d c over = same_overtaken old new (length old.journal) (tick_of old) (omega arith) d.sites.sites d.net over
does_overtaken old new (events.Begin session call) effect d c over = begin_overtaken old new session call d.0 d.1.0 effect d.1.1 over
does_overtaken old new (events.Deliver n) effect d c over = deliver_overtaken old new n d.0 d.1.0 effect d.1.1 over
does_overtaken old new (events.Reply n which) effect d c over =
    turn_overtaken old new n d.0 (with_handed (tick_of old) which d.0) (hears old.cfg.n d.1.0.1) d.1.1.0 effect d.1.1.1.1 (kept_handed (tick_of old) which d.0) (handed_later (tick_of old) which d.0) (handed_action old new n which d.0 d.1.0 d.1.1.0 effect d.1.1.1.0 d.1.1.1.1 c) c over
does_overtaken old new (events.GiveUp n) effect d c over =
    turn_overtaken old new n d.0 (with_given_up (tick_of old) d.0) (λ a. GaveUp a) d.1.0 effect d.1.1 (kept_given_up (tick_of old) d.0) (given_up_later (tick_of old) d.0)
    (d.0, told_request old new n d.0 (with_given_up (tick_of old) d.0) (λ a. GaveUp a) d.1.0 effect d.1.1 c) c over
does_overtaken old new (events.Crash session) effect d c over = same_overtaken old new (length old.journal) (tick_of old) (omega arith) d.sites.sites d.net over

acts_overtaken : (old new : State) (event : Event) (effect : Effect) → HasEffect old event effect new → AreCarried old → AreOvertaken old → AreOvertakenBy (tick_of old) new
acts_overtaken old new event effect acts c over =
    elim (refusal_of old event) as (λ o. MatchOption o (Does old event effect new) (λ why. Skips old event why effect new) → AreOvertakenBy (tick_of old) new) [
      | None ↦ λ d. does_overtaken old new event effect d c over
      | Some why ↦ λ k. same_overtaken old new (length old.journal) (tick_of old) (omega arith) k.same.sites.sites k.same.net over
    ] acts

step_overtaken : (old new : State) (event : Event) → WorldStep old event new → AreCarried old → AreOvertaken old → AreOvertaken new
step_overtaken old new event step c over =
    let mid = step.1.0 in
    let records = step.1.1.1.1 in
    let grew : length new.journal ≡ length old.journal + 1 =
    ap length records.journal ∙ length-append mid.journal (step.1.1.0 ∷ []) ∙ ap (λ (j : List Entry). length j + 1) (acts_journal old mid event step.0 step.1.1.1.0) in
    same_overtaken mid new (tick_of old) (length new.journal) (omega (arith, grew)) records.sites.sites records.net (acts_overtaken old mid event step.0 step.1.1.1.0 c over)

opening_overtaken : (s : State) → IsOpening s → AreOvertaken s
opening_overtaken s o = record {
  sent = λ n r h. absurd (none_there n r (subst (λ ks. numbered ks n ≡ Some r) o.net h));
  asked = λ n r h. absurd (none_there n r (subst (λ ks. numbered ks n ≡ Some r) o.net h));
  made = λ n place tick r reply h. absurd (none_there n r (subst (λ ks. numbered ks n ≡ Some r) o.net h.request));
  stands = λ n place tick r reply tag h shows told is. absurd (none_there n r (subst (λ ks. numbered ks n ≡ Some r) o.net h.request));
  changed = λ n place tick r key expect step row h is tells. absurd (none_there n r (subst (λ ks. numbered ks n ≡ Some r) o.net h.request));
}
  where
    none_there : (n : ℕ) (r : RequestAt) → numbered [] n ≡ Some r → ⊥
    none_there n r h = let k = (numbered_place [] n r h).1 in cc

-- in every world that is reached
pub overtaken : (s : State) → IsReached s → AreOvertaken s
overtaken _ (opened s o) = opening_overtaken s o
overtaken _ (stepped old new event h step) = step_overtaken old new event step (carried old h) (overtaken old h)
