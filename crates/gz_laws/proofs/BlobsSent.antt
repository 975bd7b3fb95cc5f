-- Each step keeps the records of fragments those that puts of the history sent.
use Rattle.std.proofs.Common.{◌≡◌, ℕ, zero, suc, ◌+◌, ◌-◌, ◌⊎◌, inl, inr, List, [], ◌∷◌, ◌++◌, Some, None, true, false, cond, length, refl, ap, sym, ◌∙◌, subst}
use Rattle.std.proofs.lemmas.Bool.{cases_eq}
use Rattle.std.proofs.lemmas.Bool.Decides.{nat_tests}
use Rattle.std.proofs.Common.{arith, Bool}
use Rattle.std.specs.Prelude.{Option, MatchOption, IfSome, IsSome, slice_get, slice_set}
use Rattle.std.specs.Ordering.{nat_cmp, is_eq, ordering_then}
use Rattle.std.specs.Cmp.Lexicographic.{slice_cmp}
use Rattle.std.specs.declared.cmp.Ordering.{Ordering}
use Rattle.std.specs.declared.cmp.Ordering.TheVariants.{Less, Equal, Greater}
use Rattle.gz_config.specs.declared.Config.{Config}
use Rattle.gz_core.specs.Blobs.{BlobAt, same_blob}
use Rattle.gz_core.specs.Calls.{key_of}
use Rattle.gz_core.specs.Names.{Name}
use Rattle.gz_core.specs.declared.calls.Answer.{Answer}
use Rattle.gz_core.specs.declared.calls.Call.{Call}
use Rattle.gz_core.specs.declared.values.Value.{Value}
use Rattle.gz_core.specs.declared.requests.Op.{Op}
use Rattle.gz_core.specs.declared.requests.Op.TheVariants.{ReadRow, WriteRow, PutBlob, GetBlob, DropBlob}
use Rattle.gz_core.specs.declared.requests.Out.{Out}
use Rattle.gz_core.specs.declared.requests.Reply.{Reply}
use Rattle.gz_core.specs.declared.requests.Reply.TheVariants.{Row, NoRow, Written, Changed, Stored, Blob, NoBlob, Dropped, Failed}
use Rattle.gz_core.specs.declared.requests.Turn.{Turn}
use Rattle.gz_core.specs.History.{Asked, Action, Sent, GaveUp, Caller, asked_of, sent_from}
use Rattle.gz_client.specs.Blobs.{AreBlobsAllowed, MayAskBlob}
use Rattle.gz_client.specs.Traces.{AllKeepRules}
use Rattle.gz_data.specs.Own.{IsRecordOf}
use Rattle.gz_history.specs.declared.record.CallRec.{CallRec}
use Rattle.gz_site.specs.Steps.{BlobSet}
use Rattle.gz_site.specs.Told.{Told, IsEmpty}
use Rattle.gz_world.specs.Reached.{IsOpening, IsReached, opened, stepped, AllTell}
use Rattle.gz_world.specs.Refusals.{refusal_of}
use Rattle.gz_world.specs.States.{RequestAt, State, tick_of, next_of, numbered, with_reply, with_handed, with_given_up, sent_request, sent_requests, end_at}
use Rattle.gz_world.specs.Steps.{Answers, SitesStay, BeginsBy, DeliversBy, TurnBy, TakesTurn, CallEnds, answered, HasEffect, Does, Skips, WorldStep, hears}
use Rattle.gz_world.specs.declared.events.Effect.{Effect}
use Rattle.gz_world.specs.declared.events.Event.{Event}
use Rattle.gz_world.specs.declared.events.Event.TheVariants as events
use Rattle.gz_world.proofs.Members.{numbered_place}
use Rattle.gz_world.proofs.Places.{get_append, get_last, get_set_same, get_set_other}
use Rattle.gz_laws.specs.Blobs.{IsSentOrOther, IsRecordSent, AreBlobsSent}
use Rattle.gz_laws.specs.Listed.{IsAmong, AreCallsListed}
use Rattle.gz_laws.specs.Placed.{ArePlaced}
use Rattle.gz_laws.proofs.BlobSites.{blobs_base}
use Rattle.gz_laws.proofs.Carrying.{Grows, grows_same, grows_append, grows_set, grows_then, handed_later, given_up_later, replied_later, IsLater}
use Rattle.gz_laws.proofs.Keys.{same_key-eq}
use Rattle.gz_laws.proofs.Listing.{listed, newest}
use Rattle.gz_laws.proofs.Placing.{placed, handed_alike, given_up_alike}
use Rattle.gz_laws.proofs.RunBegins.{begin_net}
use Rattle.gz_laws.proofs.RunDelivers.{both_tell, same_told, more_replies}
use Rattle.gz_laws.proofs.RunSends.{NetFrom}
use Rattle.gz_laws.proofs.RunTools.{IsAlike, set_cases}
use Rattle.gz_laws.proofs.RunTurns.{turn_net}
use Rattle.gz_laws.proofs.Running.{step_tell}

-- ---- names of blobs

then_both : (a b : Ordering) → is_eq (ordering_then a b) ≡ true → (is_eq a ≡ true) × (is_eq b ≡ true)
then_both Less b e = cc
then_both Equal b e = (refl, e)
then_both Greater b e = cc

nats_same : (i j : ℕ) → is_eq (nat_cmp i j) ≡ true → i ≡ j
nats_same i j e = grind (arith, nat_tests)

pub same_blob_is : (a b : BlobAt) → same_blob a b ≡ true → a ≡ b
same_blob_is a b e =
    let keys = then_both (slice_cmp nat_cmp a.key b.key) (ordering_then (ordering_then (nat_cmp a.name.session b.name.session) (nat_cmp a.name.seq b.name.seq)) (nat_cmp a.index b.index)) e in
    let names = then_both (ordering_then (nat_cmp a.name.session b.name.session) (nat_cmp a.name.seq b.name.seq)) (nat_cmp a.index b.index) keys.1 in
    let parts = then_both (nat_cmp a.name.session b.name.session) (nat_cmp a.name.seq b.name.seq) names.0 in
    let key = sym (same_key-eq a.key b.key keys.0) in
    let session = sym (nats_same a.name.session b.name.session parts.0) in
    let seq = sym (nats_same a.name.seq b.name.seq parts.1) in
    let index = sym (nats_same a.index b.index names.1) in
    rw (key, session, seq, index) refl

-- ---- what stays

sent_later : (old new : List RequestAt) (site : ℕ) (b : BlobAt) (bytes : List ℕ) → Grows old new → IsSentOrOther old site b bytes → IsSentOrOther new site b bytes
sent_later old new site b bytes grows h =
    let k = grows h.number h.request h.there in
    let later = k.1.1 in
    record { number = h.number; request = k.0; sent = h.sent; there = k.1.0; site_is = later.site ∙ h.site_is; stores = later.op ∙ h.stores; same = h.same }

-- calls keep their names, and what they are
abbrev KeepsCalls : List CallRec → List CallRec → Type 0
KeepsCalls old new = (i : ℕ) (a : CallRec) → slice_get old i ≡ Some a → (d : CallRec) × (slice_get new i ≡ Some d) × (d.name ≡ a.name) × (d.call ≡ a.call)

calls_same : (old new : List CallRec) → new ≡ old → KeepsCalls old new
calls_same old new e = λ i a h. (a, ap (λ xs. slice_get xs i) e ∙ h, refl, refl)

calls_append : (old new more : List CallRec) → new ≡ old ++ more → KeepsCalls old new
calls_append old new more e = λ i a h. (a, ap (λ xs. slice_get xs i) e ∙ get_append old more i a h, refl, refl)

answered_same : (tick : ℕ) (o : Option Answer) (a : CallRec) → ((answered tick o a).name ≡ a.name) × ((answered tick o a).call ≡ a.call)
answered_same tick None a = (refl, refl)
answered_same tick (Some answer) a = (refl, refl)

calls_end : (old new : List CallRec) (name : Name) (tick : ℕ) (o : Option Answer) → CallEnds old name tick o new → KeepsCalls old new
calls_end old new name tick o ends = λ i a h.
    let ended = answered tick o ends.1.0 in
    let set : new ≡ slice_set old ends.0 ended = ends.1.1.1.1 in
    elim (cases_eq i ends.0) [
      | inl e ↦ (let both : Some ends.1.0 ≡ Some a = sym ends.1.1.0 ∙ sym (ap (slice_get old) e) ∙ h in
          let same : ends.1.0 ≡ a = cc in
          let kept = answered_same tick o ends.1.0 in (
            ended,
            ap (λ xs. slice_get xs i) set ∙ ap (slice_get (slice_set old ends.0 ended)) e ∙ get_set_same old ends.0 ends.1.0 ended ends.1.1.0,
            kept.0 ∙ ap (λ (d : CallRec). d.name) same,
            kept.1 ∙ ap (λ (d : CallRec). d.call) same,
          ))
      | inr ne ↦ (a, ap (λ xs. slice_get xs i) set ∙ get_set_other old ends.0 i ended ne ∙ h, refl, refl)
    ]

record_own : (c : Config) (n m : Name) (p q : Call) (i j : ℕ) (bytes : List ℕ) → m ≡ n → q ≡ p → j ≡ i → IsRecordOf c n p i bytes → IsRecordOf c m q j bytes
record_own c n m p q i j bytes name call index h =
    subst (λ (x : Name). IsRecordOf c x q j bytes) (sym name) (subst (λ (x : Call). IsRecordOf c n x j bytes) (sym call) (subst (λ (x : ℕ). IsRecordOf c n p x bytes) (sym index) h))

record_later : (c : Config) (old new : List CallRec) (r q : RequestAt) (b : BlobAt) (bytes : List ℕ) → KeepsCalls old new → q.name ≡ r.name → q.site ≡ r.site → IsRecordSent c old r b bytes → IsRecordSent c new q b bytes
record_later c old new r q b bytes keeps name site h =
    let k = keeps h.place h.call h.there in
    record {
      place = h.place;
      call = k.0;
      there = k.1;
      sender = name ∙ h.sender ∙ sym k.2;
      name_is = h.name_is ∙ sym k.2;
      key_is = h.key_is ∙ ap key_of (sym k.3);
      site_is = site ∙ h.site_is;
      own = record_own c h.call.name k.0.name h.call.call k.0.call b.index b.index bytes k.2 k.3 refl h.own;
    }

same_sent : (old new : State) → new.cfg ≡ old.cfg → ((i : ℕ) → new.sites i ≡ old.sites i) → new.net ≡ old.net → new.calls ≡ old.calls → AreBlobsSent old → AreBlobsSent new
same_sent old new cfg sites net calls v =
    let grows = grows_same old.net new.net net in
    let keeps = calls_same old.calls new.calls calls in
    record {
      sites = λ i told b bytes is at. sent_later old.net new.net i b bytes grows (v.sites i told b bytes (sym (sites i) ∙ is) at);
      replies = λ n i tick r b bytes there op at. sent_later old.net new.net r.site b bytes grows (v.replies n i tick r b bytes (subst (λ xs. numbered xs n ≡ Some r) net there) op at);
      requests = λ n r b bytes there op.
          subst (λ (c : Config). IsRecordSent c new.calls r b bytes) (sym cfg) (record_later old.cfg old.calls new.calls r r b bytes keeps refl refl (v.requests n r b bytes (subst (λ xs. numbered xs n ≡ Some r) net there) op));
    }

-- ---- a site

abbrev AllSent : List RequestAt → ℕ → Told → Type 0
AllSent net site told = (b : BlobAt) (bytes : List ℕ) → told.blobs b ≡ Some bytes → IsSentOrOther net site b bytes

abbrev ReplySent : List RequestAt → ℕ → Op → Reply → Type 0
ReplySent net site (GetBlob b) (Blob bytes) = IsSentOrOther net site b bytes
ReplySent net site op reply = Unit {0}

abbrev OpSent : List RequestAt → ℕ → Op → Type 0
OpSent net site (PutBlob b bytes) = IsSentOrOther net site b bytes
OpSent net site op = Unit {0}

all_same : (net : List RequestAt) (site : ℕ) (before after : Told) → after ≡ before → AllSent net site before → AllSent net site after
all_same net site before after e all = subst (AllSent net site) (sym e) all

all_stored : (net : List RequestAt) (site : ℕ) (before after : Told) (blobs : after.blobs ≡ before.blobs) → AllSent net site before → AllSent net site after
all_stored net site before after blobs all b bytes h = all b bytes (sym (ap (λ (f : BlobAt → Option (List ℕ)). f b) blobs) ∙ h)

set_or_old : (t : Bool) (x y : Option (List ℕ)) (bytes : List ℕ) → cond t x y ≡ Some bytes → ((t ≡ true) × (x ≡ Some bytes)) ⊎ (y ≡ Some bytes)
set_or_old true x y bytes e = inl (refl, e)
set_or_old false x y bytes e = inr e

all_put : (net : List RequestAt) (site : ℕ) (before after : Told) (b : BlobAt) (bytes : List ℕ) → BlobSet before b (Some bytes) after → IsSentOrOther net site b bytes → AllSent net site before → AllSent net site after
all_put net site before after b bytes set sent all q found h = elim (set_or_old (same_blob b q) (Some bytes) (before.blobs q) found (sym (set.blobs q) ∙ h)) [
  | inl e ↦ (let same : bytes ≡ found = cc e.1 in
      subst (λ (x : BlobAt). IsSentOrOther net site x found) (same_blob_is b q e.0) (subst (IsSentOrOther net site b) same sent))
  | inr e ↦ all q found e
]

all_dropped : (net : List RequestAt) (site : ℕ) (before after : Told) (b : BlobAt) → BlobSet before b None after → AllSent net site before → AllSent net site after
all_dropped net site before after b set all q found h = elim (set_or_old (same_blob b q) None (before.blobs q) found (sym (set.blobs q) ∙ h)) [
  | inl e ↦ (let bad = e.1 in cc)
  | inr e ↦ all q found e
]

told_sent : (net : List RequestAt) (site : ℕ) (op : Op) (reply : Reply) (before after : Told) → OpSent net site op → AllSent net site before → Answers before op reply after → AllSent net site after × ReplySent net site op reply
told_sent net site (ReadRow k) (Row etag row) before after op all ans = (all_same net site before after ans.1 all, tt)
told_sent net site (ReadRow k) NoRow before after op all ans = (all_same net site before after ans.1 all, tt)
told_sent net site (ReadRow k) Failed before after op all ans = (all_same net site before after ans all, tt)
told_sent net site (WriteRow k expect step row) (Written etag) before after op all ans = (all_stored net site before after ans.1.blobs all, tt)
told_sent net site (WriteRow k expect step row) Changed before after op all ans = (all_same net site before after ans.1 all, tt)
told_sent net site (WriteRow k expect step row) Failed before after op all (inl ans) = (all_same net site before after ans all, tt)
told_sent net site (WriteRow k expect step row) Failed before after op all (inr ans) = (all_stored net site before after ans.2.blobs all, tt)
told_sent net site (PutBlob b bytes) Stored before after op all ans = (all_put net site before after b bytes ans op all, tt)
told_sent net site (PutBlob b bytes) Failed before after op all (inl ans) = (all_same net site before after ans all, tt)
told_sent net site (PutBlob b bytes) Failed before after op all (inr ans) = (all_put net site before after b bytes ans op all, tt)
told_sent net site (GetBlob b) (Blob bytes) before after op all ans = (all_same net site before after ans.1 all, all b bytes ans.0)
told_sent net site (GetBlob b) NoBlob before after op all ans = (all_same net site before after ans.1 all, tt)
told_sent net site (GetBlob b) Failed before after op all ans = (all_same net site before after ans all, tt)
told_sent net site (DropBlob b) Dropped before after op all ans = (all_dropped net site before after b ans.1 all, tt)
told_sent net site (DropBlob b) NoBlob before after op all ans = (all_dropped net site before after b ans.1 all, tt)
told_sent net site (DropBlob b) Failed before after op all (inl ans) = (all_same net site before after ans all, tt)
told_sent net site (DropBlob b) Failed before after op all (inr ans) = (all_dropped net site before after b ans all, tt)
told_sent net site op reply before after sent all ans = absurd ans

-- a request that stores bytes is one that the world sent
op_sent : (net : List RequestAt) (n : ℕ) (r : RequestAt) (op : Op) → numbered net n ≡ Some r → r.op ≡ op → OpSent net r.site op
op_sent net n r (PutBlob b bytes) there is = record { number = n; request = r; sent = bytes; there = there; site_is = refl; stores = is; same = inl refl }
op_sent net n r op there is = tt

deliver_sent : (old new : State) (n : ℕ) (r : RequestAt) (reply : Reply) (effect : Effect) → DeliversBy old n r reply effect new → IsSome (old.sites r.site) → AreBlobsSent old → AreBlobsSent new
deliver_sent old new n r reply effect d tells v =
    let t = both_tell (old.sites r.site) (new.sites r.site) (λ before after. Answers before r.op reply after) tells d.site in
    let k = told_sent old.net r.site r.op reply t.0 t.1.0 (op_sent old.net n r r.op d.request refl) (λ b bytes at. v.sites r.site t.0 b bytes t.1.1.0 at) t.1.1.1.1 in
    let now = with_reply (tick_of old) reply r in
    let place = numbered_place old.net n r d.request in
    let mid = slice_set old.net (n - 1) now in
    let grows : Grows old.net new.net = grows_then old.net mid new.net (grows_set old.net (n - 1) r now place.1 (replied_later (tick_of old) reply r)) (grows_same mid new.net d.net) in
    let keeps = calls_same old.calls new.calls d.sessions.calls in
    record {
      sites = λ i told b bytes is at. sent_later old.net new.net i b bytes grows (elim (cases_eq i r.site) [
        | inl e ↦ (let same = same_told t.1.0 told (sym t.1.1.1.0 ∙ sym (ap new.sites e) ∙ is) in
            subst (λ (j : ℕ). IsSentOrOther old.net j b bytes) (sym e) (k.0 b bytes (ap (λ (x : Told). x.blobs b) same ∙ at)))
        | inr ne ↦ v.sites i told b bytes (sym (d.others i ne) ∙ is) at
      ]);
      replies = λ m i tick q b bytes there op at. sent_later old.net new.net q.site b bytes grows (elim (set_cases old.net n m r now q d.request (subst (λ xs. numbered xs m ≡ Some q) d.net there)) [
        | inl e ↦ (let site : q.site ≡ r.site = ap (λ (x : RequestAt). x.site) e in
            let same : r.op ≡ GetBlob b = sym (ap (λ (x : RequestAt). x.op) e) ∙ op in
            subst (λ (j : ℕ). IsSentOrOther old.net j b bytes) (sym site) (elim (more_replies r (tick_of old) i tick reply (Blob bytes) (subst (λ (x : RequestAt). slice_get x.replies i ≡ Some (tick, Blob bytes)) e at)) [
              | inl f ↦ v.replies n i tick r b bytes d.request same f
              | inr f ↦ subst (λ (x : Reply). ReplySent old.net r.site (GetBlob b) x) f (subst (λ (x : Op). ReplySent old.net r.site x reply) same k.1)
            ]))
        | inr e ↦ v.replies m i tick q b bytes e op at
      ]);
      requests = λ m q b bytes there op. subst (λ (c : Config). IsRecordSent c new.calls q b bytes) (sym d.frame.cfg) (elim (set_cases old.net n m r now q d.request (subst (λ xs. numbered xs m ≡ Some q) d.net there)) [
        | inl e ↦ record_later old.cfg old.calls new.calls r q b bytes keeps (ap (λ (x : RequestAt). x.name) e) (ap (λ (x : RequestAt). x.site) e) (v.requests n r b bytes d.request (sym (ap (λ (x : RequestAt). x.op) e) ∙ op))
        | inr e ↦ record_later old.cfg old.calls new.calls q q b bytes keeps refl refl (v.requests m q b bytes e op)
      ]);
    }

-- ---- what a call sends

blobs_before : (c : Config) (w : Caller) (more ms : List Action) → AreBlobsAllowed c w (more ++ ms) → AreBlobsAllowed c w ms
blobs_before c w [] ms h = h
blobs_before c w (m ∷ more) ms h = blobs_before c w more ms h.1

-- a request stores the call's own record of the index of its site
record IsPutOut (c : Config) (w : Caller) (o : Out) (b : BlobAt) (bytes : List ℕ) : Type 0 where
  pub named : b ≡ record { key = key_of w.call; name = w.name; index = o.site }
  pub own : IsRecordOf c w.name w.call o.site bytes

put_out : (c : Config) (w : Caller) (first : ℕ) (outs : List Out) (ms : List Action) → AreBlobsAllowed c w (sent_from first outs ms) → (j : ℕ) (o : Out) (b : BlobAt) (bytes : List ℕ) → slice_get outs j ≡ Some o → o.op ≡ PutBlob b bytes → IsPutOut c w o b bytes
put_out c w first [] ms allowed j o b bytes at op = cc
put_out c w first (out ∷ outs) ms allowed zero o b bytes at op =
    let same : out ≡ o = cc in
    let may = (blobs_base c w (first + 1) outs (Sent (asked_of first out) ∷ ms) allowed).0 in
    let put = subst (λ (x : Op). MayAskBlob c w ms (asked_of first out) x) (ap (λ (x : Out). x.op) same ∙ op) may in
    subst (λ (x : Out). IsPutOut c w x b bytes) same (record { named = put.named; own = put.own })
put_out c w first (out ∷ outs) ms allowed (suc j) o b bytes at op = put_out c w (first + 1) outs (Sent (asked_of first out) ∷ ms) allowed j o b bytes at op

-- a call of the history
record IsRecorded (calls : List CallRec) (w : Caller) : Type 0 where
  pub place : ℕ
  pub call : CallRec
  pub there : slice_get calls place ≡ Some call
  pub name_is : call.name ≡ w.name
  pub call_is : call.call ≡ w.call

out_recorded : (c : Config) (calls : List CallRec) (w : Caller) (tick : ℕ) (o : Out) (b : BlobAt) (bytes : List ℕ) → IsRecorded calls w → IsPutOut c w o b bytes → IsRecordSent c calls (sent_request w.name tick o) b bytes
out_recorded c calls w tick o b bytes k put = record {
  place = k.place;
  call = k.call;
  there = k.there;
  sender = sym k.name_is;
  name_is = ap (λ (x : BlobAt). x.name) put.named ∙ sym k.name_is;
  key_is = ap (λ (x : BlobAt). x.key) put.named ∙ ap key_of (sym k.call_is);
  site_is = sym (ap (λ (x : BlobAt). x.index) put.named);
  own = record_own c w.name k.call.name w.call k.call.call o.site b.index bytes k.name_is k.call_is (ap (λ (x : BlobAt). x.index) put.named) put.own;
}

-- the world when a call has sent its requests
sends_sent : (old new : State) (w : Caller) (first tick : ℕ) (outs : List Out) (ms : List Action) → new.cfg ≡ old.cfg → SitesStay old new → NetFrom old.net new.net w.name tick outs → Grows old.net new.net → KeepsCalls old.calls new.calls → IsRecorded new.calls w
    → AreBlobsAllowed old.cfg w (sent_from first outs ms) → AreBlobsSent old → AreBlobsSent new
sends_sent old new w first tick outs ms cfg stay net grows keeps recorded allowed v = record {
  sites = λ i told b bytes is at. sent_later old.net new.net i b bytes grows (v.sites i told b bytes (sym (stay.sites i) ∙ is) at);
  replies = λ m i t q b bytes there op at. sent_later old.net new.net q.site b bytes grows (elim (net m q there) [
    | inl k ↦ (let alike = k.1.1.1 in
        subst (λ (j : ℕ). IsSentOrOther old.net j b bytes) (sym alike.site) (v.replies k.0 i t k.1.0 b bytes k.1.1.0 (sym alike.op ∙ op) (subst (λ xs. slice_get xs i ≡ Some (t, Blob bytes)) alike.replies at)))
    | inr k ↦ (let bad : slice_get [] i ≡ Some (t, Blob bytes) = subst (λ (x : RequestAt). slice_get x.replies i ≡ Some (t, Blob bytes)) (sym k.1.1.1) at in cc)
  ]);
  requests = λ m q b bytes there op. subst (λ (c : Config). IsRecordSent c new.calls q b bytes) (sym cfg) (elim (net m q there) [
    | inl k ↦ (let alike = k.1.1.1 in record_later old.cfg old.calls new.calls k.1.0 q b bytes keeps alike.name alike.site (v.requests k.0 k.1.0 b bytes k.1.1.0 (sym alike.op ∙ op)))
    | inr k ↦ (let is : k.1.0.op ≡ PutBlob b bytes = ap (λ (x : RequestAt). x.op) k.1.1.1 ∙ op in
        subst (λ (x : RequestAt). IsRecordSent old.cfg new.calls x b bytes) k.1.1.1 (out_recorded old.cfg new.calls w tick k.1.0 b bytes recorded (put_out old.cfg w first outs ms allowed k.0 k.1.0 b bytes k.1.1.0 is)))
  ]);
}

begin_sent : (old new : State) (session : ℕ) (call : Call) (own : Option Value) (turn : Turn) (effect : Effect) → BeginsBy old session call own turn effect new → AreBlobsSent old → AreBlobsSent new
begin_sent old new session call own turn effect b v =
    let name : Name = record { session = session; seq = length (old.traces session) + 1 } in
    let w : Caller = record { name = name; call = call; own = own } in
    let tick = tick_of old in
    let fresh : CallRec = record { name = name; call = call; begin = tick; end = end_at tick turn.answer; answer = turn.answer } in
    let recorded : IsRecorded new.calls w = record { place = length old.calls; call = fresh; there = ap (λ xs. slice_get xs (length old.calls)) b.calls ∙ get_last old.calls fresh; name_is = refl; call_is = refl } in
    let net = begin_net old new name tick turn.send b.net in
    sends_sent old new w (next_of old) tick turn.send [] b.frame.cfg b.sites net (sent_grows old new name tick turn.send b.net) (calls_append old.calls new.calls (fresh ∷ []) b.calls) recorded b.moves.told.0.blobs v
  where
    sent_grows : (old new : State) (name : Name) (tick : ℕ) (outs : List Out) → new.net ≡ old.net ++ sent_requests name tick outs → Grows old.net new.net
    sent_grows old new name tick outs net = grows_then old.net (old.net ++ sent_requests name tick outs) new.net (grows_append old.net (sent_requests name tick outs)) (grows_same (old.net ++ sent_requests name tick outs) new.net net)

turn_sent : (old new : State) (n : ℕ) (r marked : RequestAt) (action : Asked → Action) (by : TurnBy) (effect : Effect) → TakesTurn old n r action by marked effect new → IsAlike r marked → IsLater r marked → AreCallsListed old → AreBlobsSent old → AreBlobsSent new
turn_sent old new n r marked action by effect t alike later listed v =
    let w = by.trace.caller in
    let session = r.name.session in
    let first = next_of old in
    let tick = tick_of old in
    let outs = by.turn.send in
    let ms = action by.asked ∷ by.trace.actions in
    let mid = slice_set old.net (n - 1) marked in
    let place = numbered_place old.net n r t.request in
    let told : AllKeepRules old.cfg session (by.trace ∷ by.earlier) = subst (AllKeepRules old.cfg session) t.traces (listed.told session) in
    let c = t.calls.1.0 in
    let here : c.name.session ≡ session = ap (λ (x : Name). x.session) (t.calls.1.1.1.0 ∙ told.1) in
    let among : IsAmong old.cfg c (by.trace ∷ by.earlier) = subst (IsAmong old.cfg c) (ap old.traces here ∙ t.traces) (listed.traces t.calls.0 c t.calls.1.1.0) in
    let is = newest old.cfg session c by.trace by.earlier told among t.calls.1.1.1.0 in
    let keeps = calls_end old.calls new.calls w.name tick by.turn.answer t.calls in
    let k = keeps t.calls.0 c t.calls.1.1.0 in
    let recorded : IsRecorded new.calls w = record { place = t.calls.0; call = k.0; there = k.1; name_is = k.2 ∙ sym is.name_is; call_is = k.3 ∙ sym is.call_is } in
    let sent = sent_requests w.name tick outs in
    let grows : Grows old.net new.net = grows_then old.net mid new.net (grows_set old.net (n - 1) r marked place.1 later) (grows_then mid (mid ++ sent) new.net (grows_append mid sent) (grows_same (mid ++ sent) new.net t.net)) in
    sends_sent old new w first tick outs ms t.frame.cfg t.sites (turn_net old new n r marked w.name tick outs t.request alike t.net) grows keeps recorded
    (blobs_before old.cfg w by.closing (sent_from first outs ms) t.moves.told.0.blobs) v

does_sent : (old new : State) (event : Event) (effect : Effect) → Does old event effect new → AllTell old → AreCallsListed old → ArePlaced old → AreBlobsSent old → AreBlobsSent new
does_sent old new events.OpenSession effect d tell l p v = same_sent old new d.frame.cfg d.sites.sites d.net d.calls v
does_sent old new (events.Begin session call) effect d tell l p v = begin_sent old new session call d.0 d.1.0 effect d.1.1 v
does_sent old new (events.Deliver n) effect d tell l p v = deliver_sent old new n d.0 d.1.0 effect d.1.1 (tell d.0.site (p.requests n d.0 d.1.1.request).site) v
does_sent old new (events.Reply n which) effect d tell l p v =
    turn_sent old new n d.0 (with_handed (tick_of old) which d.0) (hears old.cfg.n d.1.0.1) d.1.1.0 effect d.1.1.1.1 (handed_alike (tick_of old) which d.0) (handed_later (tick_of old) which d.0) l v
does_sent old new (events.GiveUp n) effect d tell l p v =
    turn_sent old new n d.0 (with_given_up (tick_of old) d.0) (λ a. GaveUp a) d.1.0 effect d.1.1 (given_up_alike (tick_of old) d.0) (given_up_later (tick_of old) d.0) l v
does_sent old new (events.Crash session) effect d tell l p v = same_sent old new d.frame.cfg d.sites.sites d.net d.calls v

acts_sent : (old new : State) (event : Event) (effect : Effect) → HasEffect old event effect new → AllTell old → AreCallsListed old → ArePlaced old → AreBlobsSent old → AreBlobsSent new
acts_sent old new event effect acts tell l p v =
    elim (refusal_of old event) as (λ o. MatchOption o (Does old event effect new) (λ why. Skips old event why effect new) → AreBlobsSent new) [
      | None ↦ λ d. does_sent old new event effect d tell l p v
      | Some why ↦ λ k. same_sent old new k.same.frame.cfg k.same.sites.sites k.same.net k.same.sessions.calls v
    ] acts

step_sent : (old new : State) (event : Event) → WorldStep old event new → AllTell old → AreCallsListed old → ArePlaced old → AreBlobsSent old → AreBlobsSent new
step_sent old new event step tell l p v =
    let mid = step.1.0 in
    let records = step.1.1.1.1 in
    same_sent mid new records.cfg records.sites.sites records.net records.sessions.calls (acts_sent old mid event step.0 step.1.1.1.0 tell l p v)

-- a site that holds nothing
empty_sent : (o : Option Told) (told : Told) (b : BlobAt) (bytes : List ℕ) → IfSome o IsEmpty → o ≡ Some told → told.blobs b ≡ Some bytes → ⊥
empty_sent None told b bytes empty e at = cc
empty_sent (Some other) told b bytes empty e at =
    let same : other ≡ told = cc in
    let none = (subst IsEmpty same empty).blobs b in
    let bad : None ≡ Some bytes = sym none ∙ at in
    cc

opening_sent : (s : State) → IsOpening s → AreBlobsSent s
opening_sent s o = record {
  sites = λ i told b bytes is at. absurd (empty_sent (s.sites i) told b bytes (o.sites i) is at);
  replies = λ n i tick r b bytes there op at. absurd (nothing_there n r (subst (λ xs. numbered xs n ≡ Some r) o.net there));
  requests = λ n r b bytes there op. absurd (nothing_there n r (subst (λ xs. numbered xs n ≡ Some r) o.net there));
}
  where
    nothing_there : (n : ℕ) (r : RequestAt) → numbered [] n ≡ Some r → ⊥
    nothing_there n r h = let k = (numbered_place [] n r h).1 in cc

-- in every world that is reached and whose sites tell what they hold
pub blobs_sent : (s : State) → IsReached s → AllTell s → AreBlobsSent s
blobs_sent _ (opened s o) tell = opening_sent s o
blobs_sent _ (stepped old new event h step) tell =
    let before = step_tell old new event step tell in
    step_sent old new event step before (listed old h) (placed old h) (blobs_sent old h before)
