-- Each step keeps what lies at a site, but for what it stores there or drops.
use Rattle.std.proofs.Common.{◌≡◌, ℕ, ◌+◌, ◌-◌, ◌≤◌, ◌⊎◌, inl, inr, List, [], ◌++◌, Some, None, true, cond, length, refl, ap, sym, ◌∙◌, subst, arith}
use Rattle.std.proofs.lemmas.Bool.{cases_eq, cases_Bool, eq-eqb}
use Rattle.std.specs.Prelude.{Option, MatchOption, IsSome, slice_get, slice_set}
use Rattle.gz_code.proofs.OneSplit.{one_split}
use Rattle.gz_config.specs.declared.Config.{Config}
use Rattle.gz_core.specs.Blobs.{BlobAt, same_blob}
use Rattle.gz_core.specs.Configurations.{IsConfig}
use Rattle.gz_core.specs.Names.{Name}
use Rattle.gz_core.specs.Puts.{PutData}
use Rattle.gz_core.specs.declared.calls.Call.{Call}
use Rattle.gz_core.specs.declared.calls.Call.TheVariants.{Put, Delete, Get, GetAt, Collect}
use Rattle.gz_core.specs.declared.requests.Op.{Op}
use Rattle.gz_core.specs.declared.requests.Op.TheVariants.{ReadRow, WriteRow, PutBlob, GetBlob, DropBlob}
use Rattle.gz_core.specs.declared.requests.Out.{Out}
use Rattle.gz_core.specs.declared.requests.Reply.{Reply}
use Rattle.gz_core.specs.declared.requests.Reply.TheVariants.{Row, NoRow, Written, Changed, Stored, Blob, NoBlob, Dropped, Failed}
use Rattle.gz_core.specs.History.{Asked, Action, GaveUp}
use Rattle.gz_data.specs.Own.{IsRecordOf, record_at}
use Rattle.gz_data.proofs.SameBlob.{same_blob-blob_at}
use Rattle.gz_history.specs.declared.record.CallRec.{CallRec}
use Rattle.gz_site.specs.Steps.{BlobSet}
use Rattle.gz_site.specs.Told.{Told, Tells}
use Rattle.gz_world.specs.Reached.{IsOpening, IsReached, opened, stepped, AllTell}
use Rattle.gz_world.specs.Refusals.{refusal_of}
use Rattle.gz_world.specs.States.{RequestAt, State, tick_of, numbered, with_reply, with_handed, with_given_up, sent_requests}
use Rattle.gz_world.specs.Steps.{Answers, DeliversBy, TurnBy, TakesTurn, HasEffect, Does, Skips, WorldStep, hears}
use Rattle.gz_world.specs.declared.events.Effect.{Effect}
use Rattle.gz_world.specs.declared.events.Event.{Event}
use Rattle.gz_world.specs.declared.events.Event.TheVariants as events
use Rattle.gz_world.proofs.Members.{numbered_place, place_numbered}
use Rattle.gz_world.proofs.Places.{get_last, get_set_same}
use Rattle.gz_laws.specs.Blobs.{IsRecordSent, AreBlobsSent}
use Rattle.gz_laws.specs.Kept.{WasStored, WasDropped, AreBlobsKept, BlobsStay}
use Rattle.gz_laws.specs.Listed.{AreCallsListed}
use Rattle.gz_laws.specs.Overtaken.{AreOvertaken}
use Rattle.gz_laws.specs.Placed.{ArePlaced}
use Rattle.gz_laws.proofs.BlobsSent.{blobs_sent, same_blob_is}
use Rattle.gz_laws.proofs.Carrying.{Grows, grows_same, grows_append, grows_set, grows_then, handed_later, given_up_later, replied_later, IsLater}
use Rattle.gz_laws.proofs.GivenBack.{one_named, fits_256}
use Rattle.gz_laws.proofs.Listing.{listed}
use Rattle.gz_laws.proofs.Overtaking.{overtaken}
use Rattle.gz_laws.proofs.Placing.{placed, handed_alike, given_up_alike}
use Rattle.gz_laws.proofs.RunBegins.{begin_net}
use Rattle.gz_laws.proofs.RunDelivers.{both_tell, same_told, more_replies}
use Rattle.gz_laws.proofs.RunSends.{NetFrom}
use Rattle.gz_laws.proofs.RunTools.{IsAlike, alike_itself, set_cases}
use Rattle.gz_laws.proofs.RunTurns.{turn_net}
use Rattle.gz_laws.proofs.Running.{step_tell}

-- ---- one operation at a site

same_blob_itself : (b : BlobAt) → same_blob b b ≡ true
same_blob_itself b =
    let x : PutData = record { name = b.name; length = 0; k = 0; m = 0; fragments = [] } in
    same_blob-blob_at b.key x b.index b.index ∙ eq-eqb b.index b.index refl

-- what lies under a name after an operation: the same, what the operation stores there, or it is dropped
abbrev IsLeftBy : Op → BlobAt → List ℕ → Told → Type 0
IsLeftBy op b bytes after = (after.blobs b ≡ Some bytes) ⊎ (((sent : List ℕ) × ((op ≡ PutBlob b sent) × (after.blobs b ≡ Some sent))) ⊎ ((op ≡ DropBlob b) × (after.blobs b ≡ None)))

left_same : (op : Op) (before after : Told) (b : BlobAt) (bytes : List ℕ) → after ≡ before → before.blobs b ≡ Some bytes → IsLeftBy op b bytes after
left_same op before after b bytes e at = inl (ap (λ (t : Told). t.blobs b) e ∙ at)

left_blobs : (op : Op) (before after : Told) (b : BlobAt) (bytes : List ℕ) → after.blobs ≡ before.blobs → before.blobs b ≡ Some bytes → IsLeftBy op b bytes after
left_blobs op before after b bytes e at = inl (ap (λ (f : BlobAt → Option (List ℕ)). f b) e ∙ at)

left_put : (before after : Told) (q b : BlobAt) (sent bytes : List ℕ) → BlobSet before q (Some sent) after → before.blobs b ≡ Some bytes → IsLeftBy (PutBlob q sent) b bytes after
left_put before after q b sent bytes set at = elim (cases_Bool (same_blob q b)) [
  | inl e ↦ inr (inl (sent, (ap (λ (x : BlobAt). PutBlob x sent) (same_blob_is q b e), set.blobs b ∙ ap (λ t. cond t (Some sent) (before.blobs b)) e)))
  | inr e ↦ inl (set.blobs b ∙ ap (λ t. cond t (Some sent) (before.blobs b)) e ∙ at)
]

left_drop : (before after : Told) (q b : BlobAt) (bytes : List ℕ) → BlobSet before q None after → before.blobs b ≡ Some bytes → IsLeftBy (DropBlob q) b bytes after
left_drop before after q b bytes set at = elim (cases_Bool (same_blob q b)) [
  | inl e ↦ inr (inr (ap DropBlob (same_blob_is q b e), set.blobs b ∙ ap (λ t. cond t None (before.blobs b)) e))
  | inr e ↦ inl (set.blobs b ∙ ap (λ t. cond t None (before.blobs b)) e ∙ at)
]

left_by : (op : Op) (reply : Reply) (before after : Told) (b : BlobAt) (bytes : List ℕ) → before.blobs b ≡ Some bytes → Answers before op reply after → IsLeftBy op b bytes after
left_by (ReadRow k) (Row etag row) before after b bytes at ans = left_same (ReadRow k) before after b bytes ans.1 at
left_by (ReadRow k) NoRow before after b bytes at ans = left_same (ReadRow k) before after b bytes ans.1 at
left_by (ReadRow k) Failed before after b bytes at ans = left_same (ReadRow k) before after b bytes ans at
left_by (WriteRow k expect step row) (Written etag) before after b bytes at ans = left_blobs (WriteRow k expect step row) before after b bytes ans.1.blobs at
left_by (WriteRow k expect step row) Changed before after b bytes at ans = left_same (WriteRow k expect step row) before after b bytes ans.1 at
left_by (WriteRow k expect step row) Failed before after b bytes at (inl ans) = left_same (WriteRow k expect step row) before after b bytes ans at
left_by (WriteRow k expect step row) Failed before after b bytes at (inr ans) = left_blobs (WriteRow k expect step row) before after b bytes ans.2.blobs at
left_by (PutBlob q sent) Stored before after b bytes at ans = left_put before after q b sent bytes ans at
left_by (PutBlob q sent) Failed before after b bytes at (inl ans) = left_same (PutBlob q sent) before after b bytes ans at
left_by (PutBlob q sent) Failed before after b bytes at (inr ans) = left_put before after q b sent bytes ans at
left_by (GetBlob q) (Blob found) before after b bytes at ans = left_same (GetBlob q) before after b bytes ans.1 at
left_by (GetBlob q) NoBlob before after b bytes at ans = left_same (GetBlob q) before after b bytes ans.1 at
left_by (GetBlob q) Failed before after b bytes at ans = left_same (GetBlob q) before after b bytes ans at
left_by (DropBlob q) Dropped before after b bytes at ans = left_drop before after q b bytes ans.1 at
left_by (DropBlob q) NoBlob before after b bytes at ans = left_drop before after q b bytes ans.1 at
left_by (DropBlob q) Failed before after b bytes at (inl ans) = left_same (DropBlob q) before after b bytes ans at
left_by (DropBlob q) Failed before after b bytes at (inr ans) = left_drop before after q b bytes ans at
left_by op reply before after b bytes at ans = absurd ans

-- what was just stored lies there
stored_by : (before after : Told) (b : BlobAt) (bytes : List ℕ) → Answers before (PutBlob b bytes) Stored after → after.blobs b ≡ Some bytes
stored_by before after b bytes set = set.blobs b ∙ ap (λ t. cond t (Some bytes) (before.blobs b)) (same_blob_itself b)

-- ---- one record under each name

record_one : (c : Config) (name : Name) (call : Call) (i : ℕ) (x y : List ℕ) → c.k + c.m ≤ 256 → IsRecordOf c name call i x → IsRecordOf c name call i y → x ≡ y
record_one c name (Put key object) i x y fits p q = p.3 ∙ ap (λ (ps : List (List ℕ)). record_at c name key object ps i) (one_split c.k c.m object p.0 q.0 fits p.1 q.1) ∙ sym q.3
record_one c name (Delete key) i x y fits p q = absurd p
record_one c name (Get key) i x y fits p q = absurd p
record_one c name (GetAt key version) i x y fits p q = absurd p
record_one c name (Collect key keep) i x y fits p q = absurd p

sent_one : (s : State) (r q : RequestAt) (b : BlobAt) (x y : List ℕ) → AreCallsListed s → IsConfig s.cfg → IsRecordSent s.cfg s.calls r b x → IsRecordSent s.cfg s.calls q b y → x ≡ y
sent_one s r q b x y listed config f g =
    let same = one_named s f.place g.place f.call g.call listed f.there g.there (sym f.name_is ∙ g.name_is) in
    record_one s.cfg f.call.name f.call.call b.index x y (fits_256 s.cfg config) f.own (subst (λ (a : CallRec). IsRecordOf s.cfg a.name a.call b.index y) (sym same) g.own)

-- ---- events that perform nothing

dropped_later : (old new : List RequestAt) (i tick : ℕ) (b : BlobAt) → Grows old new → WasDropped old i b tick → WasDropped new i b tick
dropped_later old new i tick b grows h =
    let k = grows h.number h.request h.there in
    let later = k.1.1 in
    record {
      number = h.number;
      request = k.0;
      place = h.place;
      reply = h.reply;
      there = k.1.0;
      site_is = later.site ∙ h.site_is;
      drops = later.op ∙ h.drops;
      performed = later.replies h.place h.reply h.performed;
      after = h.after;
    }

-- each request that has a reply was there before, and had it
abbrev IsOld : List RequestAt → List RequestAt → Type 0
IsOld old new = (m place : ℕ) (q : RequestAt) (x : ℕ × Reply) → numbered new m ≡ Some q → slice_get q.replies place ≡ Some x → (k : ℕ) × ((r : RequestAt) × ((numbered old k ≡ Some r) × IsAlike r q))

old_same : (old new : List RequestAt) → new ≡ old → IsOld old new
old_same old new e = λ m place q x there at. (m, (q, (subst (λ xs. numbered xs m ≡ Some q) e there, alike_itself q)))

old_sends : (old new : List RequestAt) (name : Name) (tick : ℕ) (outs : List Out) → NetFrom old new name tick outs → IsOld old new
old_sends old new name tick outs net = λ m place q x there at. elim (net m q there) [
  | inl k ↦ k
  | inr k ↦ (let bad : slice_get [] place ≡ Some x = subst (λ (y : RequestAt). slice_get y.replies place ≡ Some x) (sym k.1.1.1) at in cc)
]

idle_kept : (old new : State) → ((i : ℕ) → new.sites i ≡ old.sites i) → Grows old.net new.net → IsOld old.net new.net → AreBlobsKept old → AreBlobsKept new
idle_kept old new sites grows from v = λ i tick told b bytes is h.
    let k = from h.number h.place h.request (tick, Stored) h.there h.told in
    let alike = k.1.1.1 in
    let was : WasStored old.net i b bytes tick = record {
      number = k.0;
      request = k.1.0;
      place = h.place;
      there = k.1.1.0;
      site_is = sym alike.site ∙ h.site_is;
      stores = sym alike.op ∙ h.stores;
      told = subst (λ xs. slice_get xs h.place ≡ Some (tick, Stored)) alike.replies h.told;
    } in
    elim (v i tick told b bytes (sym (sites i) ∙ is) was) [
      | inl at ↦ inl at
      | inr d ↦ inr (dropped_later old.net new.net i tick b grows d)
    ]

same_kept : (old new : State) → ((i : ℕ) → new.sites i ≡ old.sites i) → new.net ≡ old.net → AreBlobsKept old → AreBlobsKept new
same_kept old new sites net = idle_kept old new sites (grows_same old.net new.net net) (old_same old.net new.net net)

turn_kept : (old new : State) (n : ℕ) (r marked : RequestAt) (action : Asked → Action) (by : TurnBy) (effect : Effect) → TakesTurn old n r action by marked effect new → IsAlike r marked → IsLater r marked → AreBlobsKept old → AreBlobsKept new
turn_kept old new n r marked action by effect t alike later =
    let name = by.trace.caller.name in
    let tick = tick_of old in
    let outs = by.turn.send in
    let mid = slice_set old.net (n - 1) marked in
    let sent = sent_requests name tick outs in
    let place = numbered_place old.net n r t.request in
    let grows : Grows old.net new.net = grows_then old.net mid new.net (grows_set old.net (n - 1) r marked place.1 later) (grows_then mid (mid ++ sent) new.net (grows_append mid sent) (grows_same (mid ++ sent) new.net t.net)) in
    idle_kept old new t.sites.sites grows (old_sends old.net new.net name tick outs (turn_net old new n r marked name tick outs t.request alike t.net))

begin_kept : (old new : State) (name : Name) (outs : List Out) → new.net ≡ old.net ++ sent_requests name (tick_of old) outs → ((i : ℕ) → new.sites i ≡ old.sites i) → AreBlobsKept old → AreBlobsKept new
begin_kept old new name outs net sites =
    let sent = sent_requests name (tick_of old) outs in
    idle_kept old new sites (grows_then old.net (old.net ++ sent) new.net (grows_append old.net sent) (grows_same (old.net ++ sent) new.net net)) (old_sends old.net new.net name (tick_of old) outs (begin_net old new name (tick_of old) outs net))

-- ---- deliveries

-- a request that is performed now stores the bytes
record StoresNow (r : RequestAt) (reply : Reply) (site : ℕ) (b : BlobAt) (bytes : List ℕ) : Type 0 where
  pub site_is : r.site ≡ site
  pub stores : r.op ≡ PutBlob b bytes
  pub told : reply ≡ Stored

stored_before : (old new : State) (n : ℕ) (r : RequestAt) (reply : Reply) (effect : Effect) (i tick : ℕ) (b : BlobAt) (bytes : List ℕ) → DeliversBy old n r reply effect new → WasStored new.net i b bytes tick → WasStored old.net i b bytes tick ⊎ StoresNow r reply i b bytes
stored_before old new n r reply effect i tick b bytes d h =
    let now = with_reply (tick_of old) reply r in
    elim (set_cases old.net n h.number r now h.request d.request (subst (λ xs. numbered xs h.number ≡ Some h.request) d.net h.there)) [
      | inl e ↦ (let site : r.site ≡ i = sym (ap (λ (x : RequestAt). x.site) e) ∙ h.site_is in
          let op : r.op ≡ PutBlob b bytes = sym (ap (λ (x : RequestAt). x.op) e) ∙ h.stores in
          elim (more_replies r (tick_of old) h.place tick reply Stored (subst (λ (x : RequestAt). slice_get x.replies h.place ≡ Some (tick, Stored)) e h.told)) [
            | inl f ↦ inl (record { number = n; request = r; place = h.place; there = d.request; site_is = site; stores = op; told = f })
            | inr f ↦ inr (record { site_is = site; stores = op; told = f })
          ])
      | inr e ↦ inl (record { number = h.number; request = h.request; place = h.place; there = e; site_is = h.site_is; stores = h.stores; told = h.told })
    ]

module _ (old new : State) (n : ℕ) (r : RequestAt) (reply : Reply) (effect : Effect) (d : DeliversBy old n r reply effect new) where
  delivers_grow : Grows old.net new.net
  delivers_grow =
      let now = with_reply (tick_of old) reply r in
      let mid = slice_set old.net (n - 1) now in
      grows_then old.net mid new.net (grows_set old.net (n - 1) r now (numbered_place old.net n r d.request).1 (replied_later (tick_of old) reply r)) (grows_same mid new.net d.net)

  -- the request of the delivery, with its reply
  delivered_there : numbered new.net n ≡ Some (with_reply (tick_of old) reply r)
  delivered_there =
      let now = with_reply (tick_of old) reply r in
      let place = numbered_place old.net n r d.request in
      ap (λ xs. numbered xs n) d.net ∙ place_numbered (slice_set old.net (n - 1) now) n now place.0 (get_set_same old.net (n - 1) r now place.1)

  drops_now : (i tick : ℕ) (b : BlobAt) → i ≡ r.site → r.op ≡ DropBlob b → tick ≤ length old.journal → WasDropped new.net i b tick
  drops_now i tick b here op low = record {
    number = n;
    request = with_reply (tick_of old) reply r;
    place = length r.replies;
    reply = (tick_of old, reply);
    there = delivered_there;
    site_is = sym here;
    drops = op;
    performed = get_last r.replies (tick_of old, reply);
    after = omega (arith, low);
  }

  -- what the site has after it, where it had the bytes before
  here_kept : (i tick : ℕ) (before after : Told) (b : BlobAt) (bytes : List ℕ) → AreBlobsSent old → AreCallsListed old → IsConfig old.cfg → AreOvertaken old → WasStored old.net i b bytes tick → i ≡ r.site → Answers before r.op reply after
      → before.blobs b ≡ Some bytes → (after.blobs b ≡ Some bytes) ⊎ WasDropped new.net i b tick
  here_kept i tick before after b bytes sent listed config made was here ans at = elim (left_by r.op reply before after b bytes at ans) [
    | inl k ↦ inl k
    | inr m ↦ elim m [
      | inl p ↦ (let one : p.0 ≡ bytes = sent_one old r was.request b p.0 bytes listed config (sent.requests n r b p.0 d.request p.1.0) (sent.requests was.number was.request b bytes was.there was.stores) in inl (p.1.1 ∙ ap (λ (x : List ℕ). Some x) one))
      | inr dropped ↦ inr (drops_now i tick b here dropped.0 (made.made was.number was.place tick was.request Stored (record { request = was.there; made = was.told })).1)
    ]
  ]

  deliver_kept : IsSome (old.sites r.site) → AreBlobsSent old → AreCallsListed old → IsConfig old.cfg → AreOvertaken old → AreBlobsKept old → AreBlobsKept new
  deliver_kept tells sent listed config made v = λ i tick told b bytes is h.
      let t = both_tell (old.sites r.site) (new.sites r.site) (λ before after. Answers before r.op reply after) tells d.site in
      elim (stored_before old new n r reply effect i tick b bytes d h) [
        | inl was ↦ elim (cases_eq i r.site) [
          | inl here ↦ (let same : t.1.0 ≡ told = same_told t.1.0 told (sym t.1.1.1.0 ∙ sym (ap new.sites here) ∙ is) in
              elim (v i tick t.0 b bytes (ap old.sites here ∙ t.1.1.0) was) [
                | inl at ↦ subst (λ (x : Told). (x.blobs b ≡ Some bytes) ⊎ WasDropped new.net i b tick) same (here_kept i tick t.0 t.1.0 b bytes sent listed config made was here t.1.1.1.1 at)
                | inr gone ↦ inr (dropped_later old.net new.net i tick b delivers_grow gone)
              ])
          | inr there ↦ elim (v i tick told b bytes (sym (d.others i there) ∙ is) was) [
            | inl at ↦ inl at
            | inr gone ↦ inr (dropped_later old.net new.net i tick b delivers_grow gone)
          ]
        ]
        | inr now ↦ (let same : t.1.0 ≡ told = same_told t.1.0 told (sym t.1.1.1.0 ∙ ap new.sites now.site_is ∙ is) in
            let ans : Answers t.0 (PutBlob b bytes) Stored t.1.0 = subst (λ (x : Reply). Answers t.0 (PutBlob b bytes) x t.1.0) now.told (subst (λ (x : Op). Answers t.0 x reply t.1.0) now.stores t.1.1.1.1) in
            inl (ap (λ (x : Told). x.blobs b) (sym same) ∙ stored_by t.0 t.1.0 b bytes ans))
      ]

  deliver_stays : (event : Event) → event ≡ events.Deliver n → BlobsStay old event new
  deliver_stays event is = λ i before after b bytes was now at. elim (cases_eq i r.site) [
    | inl here ↦ (let ans : Answers before r.op reply after =
        subst (λ (o : Option Told). Tells (Some before) o (λ x y. Answers x r.op reply y)) (ap new.sites (sym here) ∙ now)
        (subst (λ (o : Option Told). Tells o (new.sites r.site) (λ x y. Answers x r.op reply y)) (ap old.sites (sym here) ∙ was) d.site) in
        elim (left_by r.op reply before after b bytes at ans) [
          | inl k ↦ inl k
          | inr m ↦ elim m [
            | inl p ↦ inr (inl (p.0, (record { number = n; request = r; event_is = is; there = d.request; site_is = sym here; op_is = p.1.0 }, p.1.1)))
            | inr dropped ↦ inr (inr (record { number = n; request = r; event_is = is; there = d.request; site_is = sym here; op_is = dropped.0 }, dropped.1))
          ]
        ])
    | inr there ↦ inl (ap (λ (x : Told). x.blobs b) (same_told after before (sym now ∙ d.others i there ∙ was)) ∙ at)
  ]

-- ---- a step

does_kept : (old new : State) (event : Event) (effect : Effect) → Does old event effect new → AllTell old → ArePlaced old → AreBlobsSent old → AreCallsListed old → AreOvertaken old → AreBlobsKept old → AreBlobsKept new
does_kept old new events.OpenSession effect d tell p sent listed made v = same_kept old new d.sites.sites d.net v
does_kept old new (events.Begin session call) effect d tell p sent listed made v = begin_kept old new (record { session = session; seq = length (old.traces session) + 1 }) d.1.0.send d.1.1.net d.1.1.sites.sites v
does_kept old new (events.Deliver n) effect d tell p sent listed made v = deliver_kept old new n d.0 d.1.0 effect d.1.1 (tell d.0.site (p.requests n d.0 d.1.1.request).site) sent listed p.config made v
does_kept old new (events.Reply n which) effect d tell p sent listed made v =
    turn_kept old new n d.0 (with_handed (tick_of old) which d.0) (hears old.cfg.n d.1.0.1) d.1.1.0 effect d.1.1.1.1 (handed_alike (tick_of old) which d.0) (handed_later (tick_of old) which d.0) v
does_kept old new (events.GiveUp n) effect d tell p sent listed made v =
    turn_kept old new n d.0 (with_given_up (tick_of old) d.0) (λ a. GaveUp a) d.1.0 effect d.1.1 (given_up_alike (tick_of old) d.0) (given_up_later (tick_of old) d.0) v
does_kept old new (events.Crash session) effect d tell p sent listed made v = same_kept old new d.sites.sites d.net v

acts_kept : (old new : State) (event : Event) (effect : Effect) → HasEffect old event effect new → AllTell old → ArePlaced old → AreBlobsSent old → AreCallsListed old → AreOvertaken old → AreBlobsKept old → AreBlobsKept new
acts_kept old new event effect acts tell p sent listed made v =
    elim (refusal_of old event) as (λ o. MatchOption o (Does old event effect new) (λ why. Skips old event why effect new) → AreBlobsKept new) [
      | None ↦ λ d. does_kept old new event effect d tell p sent listed made v
      | Some why ↦ λ k. same_kept old new k.same.sites.sites k.same.net v
    ] acts

-- what lies at the sites is left alone
untouched : (old new : State) (event : Event) → ((i : ℕ) → new.sites i ≡ old.sites i) → BlobsStay old event new
untouched old new event sites = λ i before after b bytes was now at. inl (ap (λ (x : Told). x.blobs b) (same_told after before (sym now ∙ sites i ∙ was)) ∙ at)

does_stay : (old new : State) (event : Event) (effect : Effect) → Does old event effect new → BlobsStay old event new
does_stay old new events.OpenSession effect d = untouched old new events.OpenSession d.sites.sites
does_stay old new (events.Begin session call) effect d = untouched old new (events.Begin session call) d.1.1.sites.sites
does_stay old new (events.Deliver n) effect d = deliver_stays old new n d.0 d.1.0 effect d.1.1 (events.Deliver n) refl
does_stay old new (events.Reply n which) effect d = untouched old new (events.Reply n which) d.1.1.1.1.sites.sites
does_stay old new (events.GiveUp n) effect d = untouched old new (events.GiveUp n) d.1.1.sites.sites
does_stay old new (events.Crash session) effect d = untouched old new (events.Crash session) d.sites.sites

acts_stay : (old new : State) (event : Event) (effect : Effect) → HasEffect old event effect new → BlobsStay old event new
acts_stay old new event effect acts =
    elim (refusal_of old event) as (λ o. MatchOption o (Does old event effect new) (λ why. Skips old event why effect new) → BlobsStay old event new) [
      | None ↦ λ d. does_stay old new event effect d
      | Some why ↦ λ k. untouched old new event k.same.sites.sites
    ] acts

-- an event leaves what lies at a site, but for what it stores there or drops
pub blobs_stay : (old new : State) (event : Event) → WorldStep old event new → BlobsStay old event new
blobs_stay old new event step = λ i before after b bytes was now at. acts_stay old step.1.0 event step.0 step.1.1.1.0 i before after b bytes was (sym (step.1.1.1.1.sites.sites i) ∙ now) at

nothing_stored : (s : State) → IsOpening s → AreBlobsKept s
nothing_stored s o = λ i tick told b bytes is h. absurd (nothing_there h.number h.request (subst (λ xs. numbered xs h.number ≡ Some h.request) o.net h.there))
  where
    nothing_there : (n : ℕ) (r : RequestAt) → numbered [] n ≡ Some r → ⊥
    nothing_there n r h = let k = (numbered_place [] n r h).1 in cc

-- in every world that is reached and whose sites tell what they hold
pub blobs_kept : (s : State) → IsReached s → AllTell s → AreBlobsKept s
blobs_kept _ (opened s o) tell = nothing_stored s o
blobs_kept _ (stepped old new event h step) tell =
    let before = step_tell old new event step tell in
    let mid = step.1.0 in
    let records = step.1.1.1.1 in
    same_kept mid new records.sites.sites records.net (acts_kept old mid event step.0 step.1.1.1.0 before (placed old h) (blobs_sent old h before) (listed old h) (overtaken old h) (blobs_kept old h before))
