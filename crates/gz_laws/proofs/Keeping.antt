-- What the run of an object knows of the newest call of a session: all that the guards of its requests need.
use Rattle.std.proofs.Common.{◌≡◌, ℕ, ◌+◌, ◌≤◌, ◌⊎◌, inl, inr, List, [], ◌∷◌, Some, true, length, refl, ap, sym, ◌∙◌, subst, arith}
use Rattle.gz_core.specs.Names.{Name, BallotAt}
use Rattle.gz_core.specs.Calls.{key_of}
use Rattle.gz_data.specs.Own.{IsOwn}
use Rattle.gz_core.specs.Slots.{Act, Promises}
use Rattle.gz_config.specs.declared.Config.{Config}
use Rattle.gz_core.specs.declared.requests.Op.{Op}
use Rattle.gz_core.specs.declared.requests.Op.TheVariants.{ReadRow, WriteRow}
use Rattle.gz_core.specs.declared.requests.Reply.{Reply}
use Rattle.gz_core.specs.History.{Asked, Action, Sent, Handed, GaveUp, Rested, GaveIn, Caller, Trace, is_row_request}
use Rattle.gz_round.specs.Sites.{SiteNow, site_now, seen_in, written_by, is_changed}
use Rattle.gz_round.specs.Sending.{AreAllowed}
use Rattle.gz_client.specs.Traces.{AllKeepRules}
use Rattle.gz_ledger.specs.Histories.{Write, IsIn}
use Rattle.gz_ledger.specs.Transitions.{Store, WriteSent, writes_of}
use Rattle.gz_ledger.proofs.Stores.{writes_in}
use Rattle.gz_laws.specs.Carried.{ActionCarried, ActionsCarried}
use Rattle.gz_laws.specs.Heard.{SeenStands, ActionStands, ActionsStand, IsStepSent, SendsStep, SentStep, PastStep, Keeps, AskedHere}
use Rattle.gz_laws.specs.Runs.{key_asked, RequestStands, IsSender, IsSentBy}
use Rattle.gz_world.specs.States.{RequestAt, numbered}
use Rattle.gz_laws.proofs.AsHeard.{of_reply, heard_case}
use Rattle.gz_round.proofs.Actions.{is_to_row}
use Rattle.gz_round.proofs.Awaits.{awaits_sent, ended_awaits, reply_idle}
use Rattle.gz_laws.proofs.Asking.{MayAskRow, row_asked}
use Rattle.gz_laws.proofs.Growing.{step_drawn}

-- what a call asks of rows is of its object
pub asks_key : (c : Config) (w : Caller) (past : List Trace) (ms : List Action) (now : SiteNow) (op : Op) → MayAskRow c w past ms now op → is_row_request op ≡ true → key_asked op ≡ key_of w.call
asks_key c w past ms now (ReadRow key) h row = (h row).0
asks_key c w past ms now (WriteRow key expect step written) h row = (h row).0
asks_key c w past ms now op h row = absurd (h row)

-- a request that a call awaits is of its object
pub awaited_key : (c : Config) (w : Caller) (past : List Trace) (ms : List Action) (s : ℕ) (a : Asked) → AreAllowed c w past ms → (site_now ms s).awaits ≡ Some a → key_asked a.op ≡ key_of w.call
awaited_key c w past [] s a allowed e = cc
awaited_key c w past (Sent b ∷ ms) s a allowed e = elim (awaits_sent ms b a s e) [
  | inl same ↦ subst (λ (k : Asked). key_asked k.op ≡ key_of w.call) same.0 (asks_key c w past ms (site_now ms b.site) b.op (row_asked c w past ms b allowed.0) (is_to_row b s same.1))
  | inr k ↦ awaited_key c w past ms s a allowed.1 k
]
awaited_key c w past (Handed b reply ∷ ms) s a allowed e = awaited_key c w past ms s a allowed.1 (ended_awaits ms (Handed b reply) a s (reply_idle (seen_in (written_by b.op) reply) (is_changed reply)) e)
awaited_key c w past (GaveUp b ∷ ms) s a allowed e = awaited_key c w past ms s a allowed.1 (ended_awaits ms (GaveUp b) a s (λ now. refl) e)
awaited_key c w past (Rested ∷ ms) s a allowed e = awaited_key c w past ms s a allowed.1 (ended_awaits ms Rested a s (λ now. refl) e)
awaited_key c w past (GaveIn ∷ ms) s a allowed e = awaited_key c w past ms s a allowed.1 (ended_awaits ms GaveIn a s (λ now. refl) e)

-- the requests of the object stand in the store
abbrev pub AllStand : List ℕ → List RequestAt → Store → Type 0
AllStand key net st = (n : ℕ) (r : RequestAt) → numbered net n ≡ Some r → key_asked r.op ≡ key → RequestStands st r

-- a reply of a request about a row stands in the store, and one about a blob shows no row
seen_stands : (key : List ℕ) (n : ℕ) (net : List RequestAt) (st : Store) (name : Name) (a : Asked) (reply : Reply) → AllStand key net st → key_asked a.op ≡ key → ActionCarried n net name (Handed a reply) → SeenStands st a.site (seen_in (written_by a.op) reply)
seen_stands key n net st name a reply all is h =
    let r = h.0 in
    let req = h.1.0 in
    let has = h.1.1 in
    let stands = all a.number r req.there (ap key_asked req.op_is ∙ is) in
    subst (λ (o : Op). SeenStands st a.site (seen_in (written_by o) reply)) req.op_is
    (subst (λ (s : ℕ). SeenStands st s (seen_in (written_by r.op) reply)) req.site_is
    (of_reply (SeenStands st r.site) n r reply has tt (stands.replies has.place has.tick has.made has.there)))

pub handed_stands : (key : List ℕ) (n : ℕ) (net : List RequestAt) (st : Store) (name : Name) (a : Asked) (reply : Reply) → AllStand key net st → (is_row_request a.op ≡ true → key_asked a.op ≡ key) → ActionCarried n net name (Handed a reply) → ActionStands st (Handed a reply)
handed_stands key n net st name a reply all is h = heard_case (SeenStands st a.site) a reply (λ row. seen_stands key n net st name a reply all (is row) h) tt

-- what a call of the object heard was shown by the store
pub actions_stand : (key : List ℕ) (net : List RequestAt) (st : Store) (c : Config) (w : Caller) (past : List Trace) (ms : List Action) → AllStand key net st → key_of w.call ≡ key → AreAllowed c w past ms → ActionsCarried c.n net w.name ms → ActionsStand st ms
actions_stand key net st c w past [] all is allowed h = tt
actions_stand key net st c w past (Sent a ∷ ms) all is allowed h = (tt, actions_stand key net st c w past ms all is allowed.1 h.1)
actions_stand key net st c w past (Handed a reply ∷ ms) all is allowed h =
    (handed_stands key c.n net st w.name a reply all (λ row. awaited_key c w past ms a.site a allowed.1 (allowed.0 row).0 ∙ is) h.0, actions_stand key net st c w past ms all is allowed.1 h.1)
actions_stand key net st c w past (GaveUp a ∷ ms) all is allowed h = (tt, actions_stand key net st c w past ms all is allowed.1 h.1)
actions_stand key net st c w past (Rested ∷ ms) all is allowed h = (tt, actions_stand key net st c w past ms all is allowed.1 h.1)
actions_stand key net st c w past (GaveIn ∷ ms) all is allowed h = (tt, actions_stand key net st c w past ms all is allowed.1 h.1)

-- the write of a request is the store's
op_asked : (st : Store) (name : Name) (site : ℕ) (op : Op) (act : Act) → AskedHere name site op st → IsStepSent op act → (q : Write) × (IsIn q (writes_of st.asked) × ((q.call ≡ name) × (q.act ≡ act)))
op_asked st name site (WriteRow key expect step row) act h is =
    let e = h.1.0.1 in
    (h.0.write, (writes_in st.asked h.0 h.1.1, (ap (λ (k : WriteSent). k.write.call) e, ap (λ (k : WriteSent). k.write.act) e ∙ is)))
op_asked st name site op act h is = absurd is

step_row : (op : Op) (act : Act) → IsStepSent op act → is_row_request op ≡ true
step_row (WriteRow key expect step row) act h = refl
step_row op act h = absurd h

-- each write that a call of the object sent is the store's
pub sent_asked : (key : List ℕ) (net : List RequestAt) (st : Store) (c : Config) (w : Caller) (past : List Trace) (ms : List Action) (act : Act) → AllStand key net st → key_of w.call ≡ key → AreAllowed c w past ms → ActionsCarried c.n net w.name ms → SentStep ms act
    → (q : Write) × (IsIn q (writes_of st.asked) × ((q.call ≡ w.name) × (q.act ≡ act)))
sent_asked key net st c w past [] act all is allowed h sent = absurd sent
sent_asked key net st c w past (Sent a ∷ ms) act all is allowed h (inl e) =
    let r = h.0.0 in
    let req = h.0.1 in
    let k = asks_key c w past ms (site_now ms a.site) a.op (row_asked c w past ms a allowed.0) (step_row a.op act e) in
    let stands = all a.number r req.there (ap key_asked req.op_is ∙ k ∙ is) in
    op_asked st w.name r.site a.op act (subst (λ (o : Op). AskedHere w.name r.site o st) req.op_is (subst (λ (x : Name). AskedHere x r.site r.op st) req.name_is stands.asked)) e
sent_asked key net st c w past (Sent a ∷ ms) act all is allowed h (inr e) = sent_asked key net st c w past ms act all is allowed.1 h.1 e
sent_asked key net st c w past (Handed a reply ∷ ms) act all is allowed h (inl e) = absurd e
sent_asked key net st c w past (Handed a reply ∷ ms) act all is allowed h (inr e) = sent_asked key net st c w past ms act all is allowed.1 h.1 e
sent_asked key net st c w past (GaveUp a ∷ ms) act all is allowed h (inl e) = absurd e
sent_asked key net st c w past (GaveUp a ∷ ms) act all is allowed h (inr e) = sent_asked key net st c w past ms act all is allowed.1 h.1 e
sent_asked key net st c w past (Rested ∷ ms) act all is allowed h (inl e) = absurd e
sent_asked key net st c w past (Rested ∷ ms) act all is allowed h (inr e) = sent_asked key net st c w past ms act all is allowed.1 h.1 e
sent_asked key net st c w past (GaveIn ∷ ms) act all is allowed h (inl e) = absurd e
sent_asked key net st c w past (GaveIn ∷ ms) act all is allowed h (inr e) = sent_asked key net st c w past ms act all is allowed.1 h.1 e

-- the ballots that a call promised are of its session
op_drawn : (c : Config) (w : Caller) (past : List Trace) (ms : List Action) (now : SiteNow) (op : Op) (v : ℕ) (b : BallotAt) → MayAskRow c w past ms now op → IsStepSent op (Promises v b) → b.session ≡ w.name.session
op_drawn c w past ms now (WriteRow key expect step row) v b may is = step_drawn c w past ms step v b (may refl).1.guard is
op_drawn c w past ms now op v b may is = absurd is

actions_drawn : (c : Config) (w : Caller) (past : List Trace) (ms : List Action) (v : ℕ) (b : BallotAt) → AreAllowed c w past ms → SentStep ms (Promises v b) → b.session ≡ w.name.session
actions_drawn c w past [] v b allowed h = absurd h
actions_drawn c w past (Sent a ∷ ms) v b allowed (inl h) = op_drawn c w past ms (site_now ms a.site) a.op v b (row_asked c w past ms a allowed.0) h
actions_drawn c w past (Sent a ∷ ms) v b allowed (inr h) = actions_drawn c w past ms v b allowed.1 h
actions_drawn c w past (Handed a reply ∷ ms) v b allowed (inl h) = absurd h
actions_drawn c w past (Handed a reply ∷ ms) v b allowed (inr h) = actions_drawn c w past ms v b allowed.1 h
actions_drawn c w past (GaveUp a ∷ ms) v b allowed (inl h) = absurd h
actions_drawn c w past (GaveUp a ∷ ms) v b allowed (inr h) = actions_drawn c w past ms v b allowed.1 h
actions_drawn c w past (Rested ∷ ms) v b allowed (inl h) = absurd h
actions_drawn c w past (Rested ∷ ms) v b allowed (inr h) = actions_drawn c w past ms v b allowed.1 h
actions_drawn c w past (GaveIn ∷ ms) v b allowed (inl h) = absurd h
actions_drawn c w past (GaveIn ∷ ms) v b allowed (inr h) = actions_drawn c w past ms v b allowed.1 h

pub sent_drawn : (c : Config) (session : ℕ) (key : List ℕ) (name : Name) (v : ℕ) (b : BallotAt) (ts : List Trace) → AllKeepRules c session ts → IsSentBy key name (Promises v b) ts → b.session ≡ name.session
sent_drawn c session key name v b [] told h = absurd h
sent_drawn c session key name v b (t ∷ ts) told (inl h) = actions_drawn c t.caller ts t.actions v b told.0.allowed h.sent ∙ ap (λ (x : Name). x.session) h.name_is
sent_drawn c session key name v b (t ∷ ts) told (inr h) = sent_drawn c session key name v b ts told.2 h

-- the name of a call that sent a step counts no more than the calls of its session
pub sent_most : (c : Config) (session : ℕ) (key : List ℕ) (name : Name) (act : Act) (ts : List Trace) → AllKeepRules c session ts → IsSentBy key name act ts → name.seq ≤ length ts
sent_most c session key name act [] told h = absurd h
sent_most c session key name act (t ∷ ts) told (inl h) = let q : name.seq ≡ length ts + 1 = ap (λ (x : Name). x.seq) (sym h.name_is ∙ told.1) in omega (arith, q)
sent_most c session key name act (t ∷ ts) told (inr h) = let r = sent_most c session key name act ts told.2 h in omega (arith, r)

pub sent_past : (key : List ℕ) (name : Name) (act : Act) (ts : List Trace) → IsSentBy key name act ts → PastStep ts act
sent_past key name act [] h = absurd h
sent_past key name act (t ∷ ts) (inl h) = inl h.sent
sent_past key name act (t ∷ ts) (inr h) = inr (sent_past key name act ts h)

-- whose the writes of a store are
abbrev pub AllSent : List ℕ → (ℕ → List Trace) → Store → Type 0
AllSent key traces st = (q : Write) → IsIn q (writes_of st.asked) → IsSentBy key q.call q.act (traces q.call.session)

pub all_drawn : (c : Config) (key : List ℕ) (traces : ℕ → List Trace) (st : Store) → ((n : ℕ) → AllKeepRules c n (traces n)) → AllSent key traces st → (q : Write) (v : ℕ) (b : BallotAt) → IsIn q (writes_of st.asked) → q.act ≡ Promises v b → b.session ≡ q.call.session
all_drawn c key traces st told sent q v b i is =
    sent_drawn c q.call.session key q.call v b (traces q.call.session) (told q.call.session) (subst (λ a. IsSentBy key q.call a (traces q.call.session)) is (sent q i))

-- a write of this session is among its traces
pub here_sent : (key : List ℕ) (traces : ℕ → List Trace) (st : Store) (session : ℕ) (ts : List Trace) → AllSent key traces st → traces session ≡ ts → (q : Write) → IsIn q (writes_of st.asked) → q.call.session ≡ session → IsSentBy key q.call q.act ts
here_sent key traces st session ts sent is q i same = subst (IsSentBy key q.call q.act) (ap traces same ∙ is) (sent q i)

-- a write of the newest call is one that its trace sent
pub own_sender : (c : Config) (key : List ℕ) (session : ℕ) (t : Trace) (ts : List Trace) (name : Name) (act : Act) → AllKeepRules c session (t ∷ ts) → name ≡ t.caller.name → IsSentBy key name act (t ∷ ts) → IsSender key name act t
own_sender c key session t ts name act told same (inl h) = h
own_sender c key session t ts name act told same (inr h) =
    let most = sent_most c session key name act ts told.2 h in
    let q : name.seq ≡ length ts + 1 = ap (λ (x : Name). x.seq) (same ∙ told.1) in
    absurd (omega (arith, most, q))

other_of : (key : List ℕ) (t : Trace) (ts : List Trace) (name : Name) (act : Act) → IsSentBy key name act (t ∷ ts) → (name ≡ t.caller.name) ⊎ PastStep ts act
other_of key t ts name act (inl h) = inl (sym h.name_is)
other_of key t ts name act (inr h) = inr (sent_past key name act ts h)

-- what the store knows of the newest call of a session
pub keeps_newest : (c : Config) (key : List ℕ) (net : List RequestAt) (traces : ℕ → List Trace) (st : Store) (session : ℕ) (t : Trace) (ts : List Trace) → ((n : ℕ) → AllKeepRules c n (traces n)) → AllStand key net st → AllSent key traces st → traces session ≡ t ∷ ts → key_of t.caller.call ≡ key → ActionsCarried c.n net t.caller.name t.actions
    → Keeps c t.caller ts t.actions st
keeps_newest c key net traces st session t ts told all sent is here carried =
    let mine : AllKeepRules c session (t ∷ ts) = subst (AllKeepRules c session) is (told session) in
    let place : t.caller.name.session ≡ session = ap (λ (x : Name). x.session) mine.1 in
    record {
      value = mine.0.own;
      stands = actions_stand key net st c t.caller ts t.actions all here mine.0.allowed carried;
      own = λ q i same. (own_sender c key session t ts q.call q.act mine same (here_sent key traces st session (t ∷ ts) sent is q i (ap (λ (x : Name). x.session) same ∙ place))).sent;
      asked = λ act h. sent_asked key net st c t.caller ts t.actions act all here mine.0.allowed carried h;
      drawn = all_drawn c key traces st told sent;
      others = λ q i same. other_of key t ts q.call q.act (here_sent key traces st session (t ∷ ts) sent is q i (same ∙ place));
    }

-- and of a call that begins
pub keeps_fresh : (c : Config) (key : List ℕ) (traces : ℕ → List Trace) (st : Store) (session : ℕ) (w : Caller) → ((n : ℕ) → AllKeepRules c n (traces n)) → AllSent key traces st → w.name ≡ record { session = session; seq = length (traces session) + 1 } → IsOwn c w.name w.call w.own → Keeps c w (traces session) [] st
keeps_fresh c key traces st session w told sent is value =
    let place : w.name.session ≡ session = ap (λ (x : Name). x.session) is in
    let count : w.name.seq ≡ length (traces session) + 1 = ap (λ (x : Name). x.seq) is in
    record {
      value = value;
      stands = tt;
      own = λ q i same.
          let most = sent_most c session key q.call q.act (traces session) (told session) (here_sent key traces st session (traces session) sent refl q i (ap (λ (x : Name). x.session) same ∙ place)) in
          let seq : q.call.seq ≡ w.name.seq = ap (λ (x : Name). x.seq) same in
          absurd (omega (arith, most, seq, count));
      asked = λ act h. absurd h;
      drawn = all_drawn c key traces st told sent;
      others = λ q i same. inr (sent_past key q.call q.act (traces session) (here_sent key traces st session (traces session) sent refl q i (same ∙ place)));
    }

-- one more action that sends nothing
pub keeps_action : (c : Config) (w : Caller) (past : List Trace) (m : Action) (ms : List Action) (st : Store) → ActionStands st m → ((act : Act) → SendsStep m act → ⊥) → Keeps c w past ms st → Keeps c w past (m ∷ ms) st
keeps_action c w past m ms st stands none k = record {
  value = k.value;
  stands = (stands, k.stands);
  own = λ q i same. inr (k.own q i same);
  asked = λ act h. elim h [ inl e ↦ absurd (none act e) | inr e ↦ k.asked act e ];
  drawn = k.drawn;
  others = k.others;
}
