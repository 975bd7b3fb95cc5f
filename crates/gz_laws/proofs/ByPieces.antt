-- A call that asked for a fragment answers by the fragments of the one value that it learnt.
use Rattle.std.proofs.Common.{◌≡◌, ℕ, ◌+◌, ◌<◌, ◌≤◌, inl, inr, List, [], ◌∷◌, ◌++◌, Some, None, Bool, true, false, cond, length, get_or, refl, ap, sym, ◌∙◌, subst, arith, length-append}
use Rattle.std.proofs.lemmas.Bool.{cases_Bool, false≢true, or_left, or_right}
use Rattle.std.proofs.lemmas.List.Elements.{All-get_or, Contains-push_cases}
use Rattle.std.specs.List.{Contains}
use Rattle.std.specs.Prelude.{Option, ◌⊎◌, ◌||◌, not, if◌then◌else◌, slice_get}
use Rattle.gz_config.specs.declared.Config.{Config}
use Rattle.gz_core.specs.Awaiting.{awaiting, AreInTurn}
use Rattle.gz_core.specs.Blobs.{BlobAt, same_blob}
use Rattle.gz_core.specs.Calls.{key_of}
use Rattle.gz_core.specs.Names.{Name, same_name}
use Rattle.gz_core.specs.Puts.{PutData}
use Rattle.gz_core.specs.declared.calls.Answer.{Answer}
use Rattle.gz_core.specs.declared.calls.Answer.TheVariants.{Bytes, Incomplete}
use Rattle.gz_core.specs.declared.calls.Call.{Call}
use Rattle.gz_core.specs.declared.calls.Call.TheVariants.{Put}
use Rattle.gz_core.specs.declared.requests.Op.{Op}
use Rattle.gz_core.specs.declared.requests.Op.TheVariants.{ReadRow, WriteRow, PutBlob, GetBlob, DropBlob}
use Rattle.gz_core.specs.declared.requests.Reply.{Reply}
use Rattle.gz_core.specs.declared.values.Value.TheVariants.{Put as PutOf}
use Rattle.gz_core.specs.History.{Asked, Action, Sent, Handed, GaveUp, Rested, GaveIn, Caller, Trace}
use Rattle.gz_core.proofs.Awaited.{filter_contains, contains_none}
use Rattle.gz_core.proofs.Ballots.{name_means}
use Rattle.gz_round.specs.Causes.{IsLearnt}
use Rattle.gz_data.specs.Blobs.{BlobNow, blob_at, blob_now, is_op_about, wholes, whole_by, piece_in, pieces_by}
use Rattle.gz_data.specs.Own.{IsOwn, IsRecordOf}
use Rattle.gz_data.specs.Whole.{no_piece, ArePieces}
use Rattle.gz_round.specs.Sending.{AreAllowed}
use Rattle.gz_client.specs.Blobs.{AreBlobsAllowed, MayAskBlob, has_fetched, has_sent, is_get_blob, reads_other}
use Rattle.gz_client.specs.Endings.{EndsByPieces}
use Rattle.gz_client.specs.Traces.{IsAnswered, KeepsRules, AllKeepRules}
use Rattle.gz_client.proofs.Exactly.{exactly}
use Rattle.gz_world.specs.Reached.{IsReached, AllTell}
use Rattle.gz_world.specs.States.{State}
use Rattle.gz_laws.specs.Carried.{ActionsCarried, TracesCarried}
use Rattle.gz_laws.specs.Each.{EachTrace}
use Rattle.gz_laws.specs.Pieces.{IsOfPieces, FetchesOf, AllFetchOf, AnswersBy, GathersOne, IsByPieces, AreByPieces}
use Rattle.gz_laws.specs.Valued.{IsGiven}
use Rattle.gz_laws.proofs.BlobsSent.{same_blob_is}
use Rattle.gz_laws.proofs.PiecesApart.{wholes_apart}
use Rattle.gz_laws.proofs.GivenBack.{IsPieceSent, pieces_sent, piece_fits, IsKnownWorld, known, put_call, one_given, given_of_heard, learnt_given}

-- ---- fragments that were asked for

-- a request reads a fragment of the put of this name
abbrev IsGetOf : Name → Op → Type 0
IsGetOf x (GetBlob b) = b.name ≡ x
IsGetOf x op = ⊥

abbrev IsFetched : Name → List Action → Type 0
IsFetched x [] = ⊥
IsFetched x (Sent a ∷ ms) = IsGetOf x a.op ⊎ IsFetched x ms
IsFetched x (m ∷ ms) = IsFetched x ms

or_none : (a b : Bool) → (a || b) ≡ false → (a ≡ false) × (b ≡ false)
or_none true b e = cc
or_none false b e = (refl, e)

get_alone : (x y : Name) (op : Op) → reads_other y op ≡ false → IsGetOf x op → x ≡ y
get_alone x y (GetBlob b) e is = elim (cases_Bool (same_name b.name y)) [
  | inl same ↦ sym is ∙ name_means b.name y same
  | inr other ↦ (let bad : not (same_name b.name y) ≡ true = ap not other in absurd (false≢true (sym e ∙ bad)))
]
get_alone x y (ReadRow k) e is = absurd is
get_alone x y (WriteRow k expect step row) e is = absurd is
get_alone x y (PutBlob b bytes) e is = absurd is
get_alone x y (DropBlob b) e is = absurd is

-- where no other put's fragment was asked for
fetched_alone : (x y : Name) (ms : List Action) → has_sent (reads_other y) ms ≡ false → IsFetched x ms → x ≡ y
fetched_alone x y [] e h = absurd h
fetched_alone x y (Sent a ∷ ms) e (inl h) = get_alone x y a.op (or_none (reads_other y a.op) (has_sent (reads_other y) ms) e).0 h
fetched_alone x y (Sent a ∷ ms) e (inr h) = fetched_alone x y ms (or_none (reads_other y a.op) (has_sent (reads_other y) ms) e).1 h
fetched_alone x y (Handed a reply ∷ ms) e h = fetched_alone x y ms e h
fetched_alone x y (GaveUp a ∷ ms) e h = fetched_alone x y ms e h
fetched_alone x y (Rested ∷ ms) e h = fetched_alone x y ms e h
fetched_alone x y (GaveIn ∷ ms) e h = fetched_alone x y ms e h

module _ (c : Config) (w : Caller) where
  get_value : (ms : List Action) (a : Asked) (op : Op) (x : Name) → MayAskBlob c w ms a op → IsGetOf x op → (y : PutData) × (y.name ≡ x) × (has_sent (reads_other x) ms ≡ false)
  get_value ms a (GetBlob b) x may is =
      let name : may.value.name ≡ x = sym (ap (λ (q : BlobAt). q.name) may.named) ∙ is in
      (may.value, name, subst (λ (n : Name). has_sent (reads_other n) ms ≡ false) name may.alone)
  get_value ms a (ReadRow k) x may is = absurd is
  get_value ms a (WriteRow k expect step row) x may is = absurd is
  get_value ms a (PutBlob b bytes) x may is = absurd is
  get_value ms a (DropBlob b) x may is = absurd is

  two_gets : (x y : Name) (op : Op) → IsGetOf x op → IsGetOf y op → x ≡ y
  two_gets x y (GetBlob b) h g = sym h ∙ g
  two_gets x y (ReadRow k) h g = absurd h
  two_gets x y (WriteRow k expect step row) h g = absurd h
  two_gets x y (PutBlob b bytes) h g = absurd h
  two_gets x y (DropBlob b) h g = absurd h

  -- a call asks for the fragments of one put
  fetched_one : (x y : Name) (ms : List Action) → AreBlobsAllowed c w ms → IsFetched x ms → IsFetched y ms → x ≡ y
  fetched_one x y [] allowed h g = absurd h
  fetched_one x y (Sent a ∷ ms) allowed (inl h) (inl g) = two_gets x y a.op h g
  fetched_one x y (Sent a ∷ ms) allowed (inl h) (inr g) = sym (fetched_alone y x ms (get_value ms a a.op x allowed.0 h).2 g)
  fetched_one x y (Sent a ∷ ms) allowed (inr h) (inl g) = fetched_alone x y ms (get_value ms a a.op y allowed.0 g).2 h
  fetched_one x y (Sent a ∷ ms) allowed (inr h) (inr g) = fetched_one x y ms allowed.1 h g
  fetched_one x y (Handed a reply ∷ ms) allowed h g = fetched_one x y ms allowed.1 h g
  fetched_one x y (GaveUp a ∷ ms) allowed h g = fetched_one x y ms allowed.1 h g
  fetched_one x y (Rested ∷ ms) allowed h g = fetched_one x y ms allowed.1 h g
  fetched_one x y (GaveIn ∷ ms) allowed h g = fetched_one x y ms allowed.1 h g

-- ---- what came, or is known of, was asked for

-- a call that writes nothing stores no record
no_record : (c : Config) (name : Name) (call : Call) (i : ℕ) (bytes : List ℕ) → IsOwn c name call None → IsRecordOf c name call i bytes → ⊥
no_record c name (Put key object) i bytes own h = let bad = own.1 in cc
no_record c name call i bytes own h = absurd h

module _ (c : Config) (w : Caller) (own : IsOwn c w.name w.call None) where
  about_get : (ms : List Action) (a : Asked) (op : Op) (b : BlobAt) → MayAskBlob c w ms a op → is_op_about b op ≡ true → IsGetOf b.name op
  about_get ms a (GetBlob q) b may e = ap (λ (k : BlobAt). k.name) (same_blob_is q b e)
  about_get ms a (PutBlob q bytes) b may e = absurd (no_record c w.name w.call a.site bytes own may.own)
  about_get ms a (ReadRow k) b may e = cc
  about_get ms a (WriteRow k expect step row) b may e = cc
  about_get ms a (DropBlob q) b may e = cc

  same_asked : (t : Bool) (now next : BlobNow) → next.asked ≡ now.asked → (if t then next else now).asked ≡ true → now.asked ≡ true
  same_asked true now next e h = sym e ∙ h
  same_asked false now next e h = h

  sent_asked : (t : Bool) (now : BlobNow) → (if t then (let n : BlobNow = record { asked = true; outcome = None } in n) else now).asked ≡ true → (t ≡ true) ⊎ (now.asked ≡ true)
  sent_asked true now h = inl refl
  sent_asked false now h = inr h

  asked_fetched : (b : BlobAt) (ms : List Action) → AreBlobsAllowed c w ms → (blob_now ms b).asked ≡ true → IsFetched b.name ms
  asked_fetched b [] allowed h = cc
  asked_fetched b (Sent a ∷ ms) allowed h = elim (sent_asked (is_op_about b a.op) (blob_now ms b) h) [
    | inl e ↦ inl (about_get ms a a.op b allowed.0 e)
    | inr e ↦ inr (asked_fetched b ms allowed.1 e)
  ]
  asked_fetched b (Handed a reply ∷ ms) allowed h = asked_fetched b ms allowed.1 (same_asked (is_op_about b a.op) (blob_now ms b) _ refl h)
  asked_fetched b (GaveUp a ∷ ms) allowed h = asked_fetched b ms allowed.1 (same_asked (is_op_about b a.op) (blob_now ms b) _ refl h)
  asked_fetched b (Rested ∷ ms) allowed h = asked_fetched b ms allowed.1 h
  asked_fetched b (GaveIn ∷ ms) allowed h = asked_fetched b ms allowed.1 h

fetch_here : (x : Name) (op : Op) (b : BlobAt) → op ≡ GetBlob b → b.name ≡ x → IsGetOf x op
fetch_here x op b e name = subst (IsGetOf x) (sym e) name

pushed_fetched : (t : Bool) (ms : List Action) (d a : Asked) → Contains (cond t (awaiting ms ++ d ∷ []) (awaiting ms)) a → (d ≡ a) ⊎ Contains (awaiting ms) a
pushed_fetched true ms d a h = elim (Contains-push_cases (awaiting ms) d a h) [ inl e ↦ inr e | inr e ↦ inl e ]
pushed_fetched false ms d a h = inr h

-- a request that is awaited was sent
awaited_fetched : (x : Name) (ms : List Action) (a : Asked) → IsGetOf x a.op → Contains (awaiting ms) a → IsFetched x ms
awaited_fetched x [] a is h = absurd (contains_none a h)
awaited_fetched x (Sent d ∷ ms) a is h = elim (pushed_fetched d.awaited ms d a h) [
  | inl e ↦ inl (subst (λ (q : Asked). IsGetOf x q.op) (sym e) is)
  | inr e ↦ inr (awaited_fetched x ms a is e)
]
awaited_fetched x (Handed d reply ∷ ms) a is h = awaited_fetched x ms a is (filter_contains _ (awaiting ms) a h)
awaited_fetched x (GaveUp d ∷ ms) a is h = awaited_fetched x ms a is (filter_contains _ (awaiting ms) a h)
awaited_fetched x (Rested ∷ ms) a is h = awaited_fetched x ms a is (filter_contains _ (awaiting ms) a h)
awaited_fetched x (GaveIn ∷ ms) a is h = awaited_fetched x ms a is (filter_contains _ (awaiting ms) a h)

module _ (key : List ℕ) (x : PutData) where
  by_get : (op : Op) (reply : Reply) → (whole_by key x op reply ≡ []) ⊎ IsGetOf x.name op
  by_get (GetBlob b) reply = elim (same_blob b (blob_at key x b.index)) as (λ t. same_blob b (blob_at key x b.index) ≡ t → ((if t then pieces_by b.index (piece_in key x b.index reply) else []) ≡ []) ⊎ (b.name ≡ x.name)) [
    | true ↦ λ e. inr (ap (λ (q : BlobAt). q.name) (same_blob_is b (blob_at key x b.index) e))
    | false ↦ λ e. inl refl
  ] refl
  by_get (ReadRow k) reply = inl refl
  by_get (WriteRow k expect step row) reply = inl refl
  by_get (PutBlob b bytes) reply = inl refl
  by_get (DropBlob b) reply = inl refl

  nothing_more : (ms : List Action) (more : List (ℕ × List ℕ)) → more ≡ [] → 1 ≤ length (wholes key x ms ++ more) → 1 ≤ length (wholes key x ms)
  nothing_more ms more e l =
      let len = length-append (wholes key x ms) more in
      let none : length more ≡ 0 = ap length e in
      omega (arith, len, none, l)

  -- so was a fragment that came whole
  whole_fetched : (ms : List Action) → AreInTurn ms → 1 ≤ length (wholes key x ms) → IsFetched x.name ms
  whole_fetched [] turn l = absurd (omega (arith, l))
  whole_fetched (Handed a reply ∷ ms) turn l = elim (by_get a.op reply) [
    | inl e ↦ whole_fetched ms turn.1 (nothing_more ms (whole_by key x a.op reply) e l)
    | inr is ↦ awaited_fetched x.name ms a is turn.0
  ]
  whole_fetched (Sent a ∷ ms) turn l = inr (whole_fetched ms turn.1 (nothing_more ms [] refl l))
  whole_fetched (GaveUp a ∷ ms) turn l = whole_fetched ms turn.1 (nothing_more ms [] refl l)
  whole_fetched (Rested ∷ ms) turn l = whole_fetched ms turn.1 (nothing_more ms [] refl l)
  whole_fetched (GaveIn ∷ ms) turn l = whole_fetched ms turn.1 (nothing_more ms [] refl l)

-- ---- each is of the one value

module _ (s : State) (k : IsKnownWorld s) (w : Caller) (x : PutData) (given : IsGiven s.cfg s.calls (PutOf x)) where
  op_fetches : (past : List Trace) (ms : List Action) (a : Asked) (op : Op) → MayAskBlob s.cfg w ms a op → AreAllowed s.cfg w past ms → ActionsCarried s.cfg.n s.net w.name ms → ((y : Name) → IsGetOf y op → y ≡ x.name) → FetchesOf (key_of w.call) x a.site op
  op_fetches past ms a (GetBlob b) may rows carries one =
      let y = may.value in
      let name : y.name ≡ x.name = sym (ap (λ (q : BlobAt). q.name) may.named) ∙ one b.name refl in
      let same : y ≡ x = one_given s y x k (given_of_heard s w past ms may.version (PutOf y) k rows carries may.learnt.heard) given name in
      record {
        is = may.named ∙ ap (λ (q : PutData). blob_at (key_of w.call) q b.index) same;
        fragment = may.fragment;
        there = sym (ap (λ (q : PutData). slice_get q.fragments b.index) same) ∙ may.there;
        site_is = may.site;
      }
  op_fetches past ms a (ReadRow key) may rows carries one = tt
  op_fetches past ms a (WriteRow key expect step row) may rows carries one = tt
  op_fetches past ms a (PutBlob b bytes) may rows carries one = tt
  op_fetches past ms a (DropBlob b) may rows carries one = tt

  all_fetch : (past : List Trace) (ms : List Action) → AreBlobsAllowed s.cfg w ms → AreAllowed s.cfg w past ms → ActionsCarried s.cfg.n s.net w.name ms → ((y : Name) → IsFetched y ms → y ≡ x.name) → AllFetchOf (key_of w.call) x ms
  all_fetch past [] allowed rows carries one = tt
  all_fetch past (Sent a ∷ ms) allowed rows carries one = (op_fetches past ms a a.op allowed.0 rows.1 carries.1 (λ y is. one y (inl is)), all_fetch past ms allowed.1 rows.1 carries.1 (λ y is. one y (inr is)))
  all_fetch past (Handed a reply ∷ ms) allowed rows carries one = all_fetch past ms allowed.1 rows.1 carries.1 one
  all_fetch past (GaveUp a ∷ ms) allowed rows carries one = all_fetch past ms allowed.1 rows.1 carries.1 one
  all_fetch past (Rested ∷ ms) allowed rows carries one = all_fetch past ms allowed.1 rows.1 carries.1 one
  all_fetch past (GaveIn ∷ ms) allowed rows carries one = all_fetch past ms allowed.1 rows.1 carries.1 one

module _ (s : State) (k : IsKnownWorld s) (past : List Trace) (t : Trace) (told : KeepsRules s.cfg past t) (carries : ActionsCarried s.cfg.n s.net t.caller.name t.actions) where
  all_pieces : (v : ℕ) (x : PutData) → IsLearnt s.cfg t.caller t.actions v (PutOf x) → ArePieces x (wholes (key_of t.caller.call) x t.actions)
  all_pieces v x learnt =
      let key = key_of t.caller.call in
      let given = learnt_given s past t v (PutOf x) k told.allowed carries learnt in
      let pieces = wholes key x t.actions in
      let sent = pieces_sent s k.blobs key x t.caller.name t.actions carries in
      record {
        within = λ j l. (piece_fits s k key x given (get_or pieces j no_piece) (All-get_or (IsPieceSent s.net key x) pieces j no_piece l sent)).0;
        wide = λ j l. (piece_fits s k key x given (get_or pieces j no_piece) (All-get_or (IsPieceSent s.net key x) pieces j no_piece l sent)).1;
        apart = wholes_apart key x t.actions told.in_turn told.once;
      }

  -- a call that learnt a value of which a fragment was asked for, and answers by its fragments
  gathers : (v : ℕ) (x : PutData) → IsLearnt s.cfg t.caller t.actions v (PutOf x) → IsFetched x.name t.actions → AnswersBy (key_of t.caller.call) v x t.actions t.answer → GathersOne s.cfg t
  gathers v x learnt fetched answered = record {
    version = v;
    value = x;
    learnt = learnt;
    pieces = all_pieces v x learnt;
    fetched = all_fetch s k t.caller x (learnt_given s past t v (PutOf x) k told.allowed carries learnt) past t.actions told.blobs told.allowed carries (λ y is. fetched_one s.cfg t.caller y x.name t.actions told.blobs is fetched);
    answered = answered;
  }

  -- the value of a put has a fragment
  some_fragment : (v : ℕ) (x : PutData) → IsLearnt s.cfg t.caller t.actions v (PutOf x) → 1 ≤ x.k
  some_fragment v x learnt =
      let given = learnt_given s past t v (PutOf x) k told.allowed carries learnt in
      let put = put_call s.cfg given.1.name given.1.call x given.3 in
      let size : x.k ≡ s.cfg.k = ap (λ (y : PutData). y.k) put.own.2 in
      let some = k.config.split in
      omega (arith, size, some)

  first_asked : (v : ℕ) (x : PutData) → IsLearnt s.cfg t.caller t.actions v (PutOf x) → ((i : ℕ) → i < x.k + x.m → (blob_now t.actions (blob_at (key_of t.caller.call) x i)).asked ≡ true) → IsFetched x.name t.actions
  first_asked v x learnt asked =
      let some = some_fragment v x learnt in
      let own = subst (λ o. IsOwn s.cfg t.caller.name t.caller.call o) learnt.reads told.own in
      asked_fetched s.cfg t.caller own (blob_at (key_of t.caller.call) x 0) t.actions told.blobs (asked 0 (omega (arith, some)))

  ends_one : (o : Option Answer) → t.answer ≡ o → EndsByPieces s.cfg t.caller t.actions o → GathersOne s.cfg t
  ends_one None e h = gathers h.version h.value h.learnt (first_asked h.version h.value h.learnt h.asked) (subst (AnswersBy (key_of t.caller.call) h.version h.value t.actions) (sym e) (h.few, h.waits))
  ends_one (Some (Bytes v name bytes)) e h =
      let x = h.0 in
      let some = some_fragment v x h.2 in
      let whole = h.3.whole in
      gathers v x h.2 (whole_fetched (key_of t.caller.call) x t.actions told.in_turn (omega (arith, some, whole))) (subst (AnswersBy (key_of t.caller.call) v x t.actions) (sym e) (refl, sym h.1, h.3))
  ends_one (Some (Incomplete v name fates)) e h =
      let x = h.0 in
      gathers v x h.2 (first_asked v x h.2 h.3.0.asked) (subst (AnswersBy (key_of t.caller.call) v x t.actions) (sym e) (refl, sym h.1, h.3.0, h.3.1))
  ends_one (Some answer) e h = absurd h

-- a call that asked for a fragment has sent such a request
get_is : (x : Name) (op : Op) → IsGetOf x op → is_get_blob op ≡ true
get_is x (GetBlob b) h = refl
get_is x (ReadRow k) h = absurd h
get_is x (WriteRow k expect step row) h = absurd h
get_is x (PutBlob b bytes) h = absurd h
get_is x (DropBlob b) h = absurd h

fetched_has : (x : Name) (ms : List Action) → IsFetched x ms → has_fetched ms ≡ true
fetched_has x [] h = absurd h
fetched_has x (Sent a ∷ ms) (inl h) = or_left (is_get_blob a.op) (has_fetched ms) (get_is x a.op h)
fetched_has x (Sent a ∷ ms) (inr h) = or_right (is_get_blob a.op) (has_fetched ms) (fetched_has x ms h)
fetched_has x (Handed a reply ∷ ms) h = fetched_has x ms h
fetched_has x (GaveUp a ∷ ms) h = fetched_has x ms h
fetched_has x (Rested ∷ ms) h = fetched_has x ms h
fetched_has x (GaveIn ∷ ms) h = fetched_has x ms h

-- an answer that speaks of fragments is of a call that asked for one
answer_fetched : (s : State) (k : IsKnownWorld s) (past : List Trace) (t : Trace) (told : KeepsRules s.cfg past t) (carries : ActionsCarried s.cfg.n s.net t.caller.name t.actions) (o : Option Answer) → IsAnswered s.cfg past t o → IsOfPieces o → has_fetched t.actions ≡ true
answer_fetched s k past t told carries (Some (Bytes v name bytes)) h is =
    let read = h.1 in
    let some = some_fragment s k past t told carries v read.0 read.2 in
    let whole = read.3.whole in
    fetched_has read.0.name t.actions (whole_fetched (key_of t.caller.call) read.0 t.actions told.in_turn (omega (arith, some, whole)))
answer_fetched s k past t told carries (Some (Incomplete v name fates)) h is = fetched_has h.1.0.name t.actions (first_asked s k past t told carries v h.1.0 h.1.2 h.1.3.0.asked)
answer_fetched s k past t told carries o h is = absurd is

traces_pieces : (s : State) (session : ℕ) (ts : List Trace) → IsKnownWorld s → AllKeepRules s.cfg session ts → TracesCarried s.cfg.n s.net ts → EachTrace (IsByPieces s.cfg) ts
traces_pieces s session [] k told carries = tt
traces_pieces s session (t ∷ ts) k told carries = (
  record {
    gathers = λ fetched. ends_one s k ts t told.0 carries.0 t.answer refl ((exactly s.cfg ts t told.0).3 fetched);
    fetched = answer_fetched s k ts t told.0 carries.0 t.answer told.0.answered;
  },
  traces_pieces s session ts k told.2 carries.1,
)

-- in every world that is reached and whose sites tell what they hold
pub by_pieces : (s : State) → IsReached s → AllTell s → AreByPieces s
by_pieces s reached tells = let k = known s reached tells in λ session. traces_pieces s session (s.traces session) k (k.listed.told session) (k.carries session)
