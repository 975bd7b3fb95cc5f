-- What a call read is what the put that it names was given.
use Rattle.std.proofs.Common.{◌≡◌, ℕ, ◌+◌, ◌<◌, ◌≤◌, List, [], ◌∷◌, Some, None, true, false, length, get_or, refl, ap, sym, ◌∙◌, subst, arith}
use Rattle.std.proofs.lemmas.List.Elements.{All-append, All-cons, All-get_or, All-nil}
use Rattle.std.specs.List.{All}
use Rattle.std.specs.Prelude.{Option, ◌⊎◌, ◌≢◌, if◌then◌else◌, slice_get}
use Rattle.std.specs.Int.{div_ceil}
use Rattle.sha2.specs.Sha256.{sha256}
use Rattle.gz_code.proofs.OneSplit.{one_split}
use Rattle.gz_config.specs.declared.Config.{Config}
use Rattle.gz_core.specs.Blobs.{BlobAt, same_blob}
use Rattle.gz_core.specs.Calls.{key_of}
use Rattle.gz_core.specs.Configurations.{IsConfig}
use Rattle.gz_core.specs.Names.{Name}
use Rattle.gz_core.specs.Puts.{PutData}
use Rattle.gz_core.specs.Rows.{RowAt}
use Rattle.gz_core.specs.declared.calls.Call.{Call}
use Rattle.gz_core.specs.declared.calls.Call.TheVariants.{Put, Delete, Get, GetAt, Collect}
use Rattle.gz_core.specs.declared.requests.Op.{Op}
use Rattle.gz_core.specs.declared.requests.Op.TheVariants.{ReadRow, WriteRow, PutBlob, GetBlob, DropBlob}
use Rattle.gz_core.specs.declared.requests.Reply.{Reply}
use Rattle.gz_core.specs.declared.requests.Reply.TheVariants.{Row, NoRow, Written, Changed, Stored, Blob, NoBlob, Dropped, Failed}
use Rattle.gz_core.specs.declared.values.Value.{Value}
use Rattle.gz_core.specs.declared.values.Value.TheVariants.{Put as PutOf}
use Rattle.gz_core.specs.History.{Asked, Action, Sent, Handed, GaveUp, Rested, GaveIn, Caller, Trace}
use Rattle.gz_round.specs.Sites.{as_heard, written_by, can_stand}
use Rattle.gz_round.specs.Causes.{IsLearnt, IsValueHeard}
use Rattle.gz_data.specs.Blobs.{blob_at, wholes, whole_by, piece_in, pieces_by}
use Rattle.gz_data.specs.Own.{IsOwn, IsPutOf, IsRecordOf, put_of, digest_at}
use Rattle.gz_data.specs.Records.{fragment_at, whole_piece}
use Rattle.gz_data.specs.Whole.{Piece, no_piece, CameWhole, IsRebuilt}
use Rattle.gz_data.proofs.Digests.{own_is_put}
use Rattle.gz_data.proofs.Whole.{object_from_whole, whole_is}
use Rattle.gz_round.specs.Sending.{AreAllowed}
use Rattle.gz_client.specs.Causes.{IsRead, GivesBytes}
use Rattle.gz_client.specs.Traces.{IsAnswered, AllKeepRules}
use Rattle.gz_history.specs.declared.record.CallRec.{CallRec}
use Rattle.gz_world.specs.Reached.{IsReached, AllTell}
use Rattle.gz_world.specs.States.{RequestAt, State}
use Rattle.gz_laws.specs.Blobs.{IsSentOrOther, AreBlobsSent}
use Rattle.gz_laws.specs.Carried.{ActionsCarried, TracesCarried, HasReply, IsRequestOf}
use Rattle.gz_laws.specs.Each.{EachTrace}
use Rattle.gz_laws.specs.Given.{IsPutGiven, GivesBack, AreGivenBack}
use Rattle.gz_laws.specs.Listed.{AreCallsListed}
use Rattle.gz_laws.specs.Valued.{IsGiven, AreValued}
use Rattle.gz_laws.proofs.BlobSites.{record_site}
use Rattle.gz_laws.proofs.BlobsSent.{blobs_sent, same_blob_is}
use Rattle.gz_laws.proofs.Carrying.{carried}
use Rattle.gz_laws.proofs.Listing.{listed}
use Rattle.gz_laws.proofs.Placing.{placed}
use Rattle.gz_laws.proofs.Values.{heard_given}
use Rattle.gz_laws.proofs.Valuing.{valued, net_given}

-- ---- values and the calls that write them

-- what is known of a world
pub record IsKnownWorld (s : State) : Type 0 where
  pub config : IsConfig s.cfg
  pub listed : AreCallsListed s
  pub carries : (session : ℕ) → TracesCarried s.cfg.n s.net (s.traces session)
  pub valued : AreValued s
  pub blobs : AreBlobsSent s

pub known : (s : State) → IsReached s → AllTell s → IsKnownWorld s
known s reached tells = record {
  config = (placed s reached).config;
  listed = listed s reached;
  carries = carried s reached;
  valued = valued s reached tells;
  blobs = blobs_sent s reached tells;
}

pub fits_256 : (c : Config) → IsConfig c → c.k + c.m ≤ 256
fits_256 c config = let pieces = config.pieces in let sites = config.sites in omega (arith, pieces, sites)

-- two calls of one name are one
pub one_named : (s : State) (i j : ℕ) (a b : CallRec) → AreCallsListed s → slice_get s.calls i ≡ Some a → slice_get s.calls j ≡ Some b → a.name ≡ b.name → a ≡ b
one_named s i j a b listed ga gb name = let both : Some a ≡ Some b = sym ga ∙ ap (slice_get s.calls) (listed.apart i j a b ga gb name) ∙ gb in cc

-- the call whose own value is a put's is a put
pub record IsPutCall (c : Config) (name : Name) (call : Call) (x : PutData) : Type 0 where
  pub key : List ℕ
  pub object : List ℕ
  pub is : call ≡ Put key object
  pub own : IsPutOf c name key object x

pub put_call : (c : Config) (name : Name) (call : Call) (x : PutData) → IsOwn c name call (Some (PutOf x)) → IsPutCall c name call x
put_call c name (Put key object) x own = record { key = key; object = object; is = refl; own = own_is_put c name key object x own }
put_call c name (Delete key) x own = cc
put_call c name (Get key) x own = cc
put_call c name (GetAt key version) x own = cc
put_call c name (Collect key keep) x own = cc

pub put_named : (c : Config) (name : Name) (key object : List ℕ) (x : PutData) → IsPutOf c name key object x → x.name ≡ name
put_named c name key object x own = ap (λ (y : PutData). y.name) own.2

-- a call writes one value
own_one : (c : Config) (name : Name) (call : Call) (x y : PutData) → c.k + c.m ≤ 256 → IsOwn c name call (Some (PutOf x)) → IsOwn c name call (Some (PutOf y)) → x ≡ y
own_one c name call x y fits p q =
    let a = put_call c name call x p in
    let b = put_call c name call y q in
    let both : Put a.key a.object ≡ Put b.key b.object = sym a.is ∙ b.is in
    let key : b.key ≡ a.key = cc in
    let object : b.object ≡ a.object = cc in
    let other = subst (λ (o : List ℕ). IsPutOf c name a.key o y) object (subst (λ (k : List ℕ). IsPutOf c name k b.object y) key b.own) in
    let split = one_split c.k c.m a.object a.own.0 other.0 fits a.own.1 other.1 in
    a.own.2 ∙ ap (λ (ps : List (List ℕ)). put_of c name a.key a.object ps) split ∙ sym other.2

given_named : (c : Config) (calls : List CallRec) (x : PutData) (given : IsGiven c calls (PutOf x)) → given.1.name ≡ x.name
given_named c calls x given = let call = put_call c given.1.name given.1.call x given.3 in sym (put_named c given.1.name call.key call.object x call.own)

-- two values of puts of one name are one
pub one_given : (s : State) (x y : PutData) → IsKnownWorld s → IsGiven s.cfg s.calls (PutOf x) → IsGiven s.cfg s.calls (PutOf y) → x.name ≡ y.name → x ≡ y
one_given s x y k a b name =
    let same = one_named s a.0 b.0 a.1 b.1 k.listed a.2 b.2 (given_named s.cfg s.calls x a ∙ name ∙ sym (given_named s.cfg s.calls y b)) in
    own_one s.cfg a.1.name a.1.call x y (fits_256 s.cfg k.config) a.3 (subst (λ (q : CallRec). IsOwn s.cfg q.name q.call (Some (PutOf y))) (sym same) b.3)

-- ---- the pieces that a call got

-- a piece came in bytes that were sent as a fragment of the value, or in others
pub record IsPieceSent (net : List RequestAt) (key : List ℕ) (x : PutData) (piece : Piece) : Type 0 where
  pub site : ℕ
  pub bytes : List ℕ
  pub sent : IsSentOrOther net site (blob_at key x piece.0) bytes
  pub whole : whole_piece key x piece.0 bytes ≡ Some piece.1

-- a blob is heard as it was sent back
heard_blob : (n : ℕ) (written : Option RowAt) (made : Reply) (bytes : List ℕ) → Blob bytes ≡ as_heard n written made → made ≡ Blob bytes
heard_blob n written (Row etag row) bytes e = elim (can_stand n row) as (λ t. Blob bytes ≡ (if t then Row etag row else Failed) → Row etag row ≡ Blob bytes) [ true ↦ λ k. cc | false ↦ λ k. cc ] e
heard_blob n (Some row) (Written etag) bytes e = elim (can_stand n row) as (λ t. Blob bytes ≡ (if t then Written etag else Failed) → Written etag ≡ Blob bytes) [ true ↦ λ k. cc | false ↦ λ k. cc ] e
heard_blob n None (Written etag) bytes e = cc
heard_blob n written NoRow bytes e = cc
heard_blob n written Changed bytes e = cc
heard_blob n written Stored bytes e = cc
heard_blob n written (Blob other) bytes e = sym e
heard_blob n written NoBlob bytes e = cc
heard_blob n written Dropped bytes e = cc
heard_blob n written Failed bytes e = cc

module _ (s : State) (v : AreBlobsSent s) (key : List ℕ) (x : PutData) where
  whole_sent : (site : ℕ) (b : BlobAt) (bytes : List ℕ) (o : Option (List ℕ)) → b ≡ blob_at key x b.index → IsSentOrOther s.net site b bytes → whole_piece key x b.index bytes ≡ o → All (IsPieceSent s.net key x) (pieces_by b.index o)
  whole_sent site b bytes None is sent whole = All-nil (IsPieceSent s.net key x)
  whole_sent site b bytes (Some piece) is sent whole = All-cons (IsPieceSent s.net key x) (b.index, piece) [] (record { site = site; bytes = bytes; sent = subst (λ (q : BlobAt). IsSentOrOther s.net site q bytes) is sent; whole = whole }) (All-nil (IsPieceSent s.net key x))

  reply_sent : (r : RequestAt) (b : BlobAt) (reply : Reply) → r.op ≡ GetBlob b → ((bytes : List ℕ) → reply ≡ Blob bytes → IsSentOrOther s.net r.site b bytes) → b ≡ blob_at key x b.index → All (IsPieceSent s.net key x) (pieces_by b.index (piece_in key x b.index reply))
  reply_sent r b (Blob bytes) op sent is = whole_sent r.site b bytes (whole_piece key x b.index bytes) is (sent bytes refl) refl
  reply_sent r b (Row etag row) op sent is = All-nil (IsPieceSent s.net key x)
  reply_sent r b NoRow op sent is = All-nil (IsPieceSent s.net key x)
  reply_sent r b (Written etag) op sent is = All-nil (IsPieceSent s.net key x)
  reply_sent r b Changed op sent is = All-nil (IsPieceSent s.net key x)
  reply_sent r b Stored op sent is = All-nil (IsPieceSent s.net key x)
  reply_sent r b NoBlob op sent is = All-nil (IsPieceSent s.net key x)
  reply_sent r b Dropped op sent is = All-nil (IsPieceSent s.net key x)
  reply_sent r b Failed op sent is = All-nil (IsPieceSent s.net key x)

  made_sent : (number : ℕ) (r : RequestAt) (reply : Reply) (b : BlobAt) (bytes : List ℕ) (name : Name) (a : Asked) → IsRequestOf s.net name a r → HasReply s.cfg.n r reply → r.op ≡ GetBlob b → reply ≡ Blob bytes → IsSentOrOther s.net r.site b bytes
  made_sent number r reply b bytes name a is has op e =
      let made : has.made ≡ Blob bytes = heard_blob s.cfg.n (written_by r.op) has.made bytes (sym e ∙ has.heard) in
      v.replies a.number has.place has.tick r b bytes is.there op (has.there ∙ ap (λ (q : Reply). Some (has.tick, q)) made)

  op_sent : (a : Asked) (op : Op) (reply : Reply) (name : Name) (r : RequestAt) → IsRequestOf s.net name a r → HasReply s.cfg.n r reply → a.op ≡ op → All (IsPieceSent s.net key x) (whole_by key x op reply)
  op_sent a (GetBlob b) reply name r is has op =
      let asked : r.op ≡ GetBlob b = is.op_is ∙ op in
      elim (same_blob b (blob_at key x b.index)) as (λ t. same_blob b (blob_at key x b.index) ≡ t → All (IsPieceSent s.net key x) (if t then pieces_by b.index (piece_in key x b.index reply) else [])) [
        | true ↦ λ e. reply_sent r b reply asked (λ bytes came. made_sent a.number r reply b bytes name a is has asked came) (same_blob_is b (blob_at key x b.index) e)
        | false ↦ λ e. All-nil (IsPieceSent s.net key x)
      ] refl
  op_sent a (ReadRow k) reply name r is has op = All-nil (IsPieceSent s.net key x)
  op_sent a (WriteRow k expect step row) reply name r is has op = All-nil (IsPieceSent s.net key x)
  op_sent a (PutBlob b bytes) reply name r is has op = All-nil (IsPieceSent s.net key x)
  op_sent a (DropBlob b) reply name r is has op = All-nil (IsPieceSent s.net key x)

  pub pieces_sent : (name : Name) (ms : List Action) → ActionsCarried s.cfg.n s.net name ms → All (IsPieceSent s.net key x) (wholes key x ms)
  pieces_sent name [] h = All-nil (IsPieceSent s.net key x)
  pieces_sent name (Handed a reply ∷ ms) h = All-append (IsPieceSent s.net key x) (wholes key x ms) (whole_by key x a.op reply) (pieces_sent name ms h.1) (op_sent a a.op reply name h.0.0 h.0.1.0 h.0.1.1 refl)
  pieces_sent name (Sent a ∷ ms) h = All-append (IsPieceSent s.net key x) (wholes key x ms) [] (pieces_sent name ms h.1) (All-nil (IsPieceSent s.net key x))
  pieces_sent name (GaveUp a ∷ ms) h = All-append (IsPieceSent s.net key x) (wholes key x ms) [] (pieces_sent name ms h.1) (All-nil (IsPieceSent s.net key x))
  pieces_sent name (Rested ∷ ms) h = All-append (IsPieceSent s.net key x) (wholes key x ms) [] (pieces_sent name ms h.1) (All-nil (IsPieceSent s.net key x))
  pieces_sent name (GaveIn ∷ ms) h = All-append (IsPieceSent s.net key x) (wholes key x ms) [] (pieces_sent name ms h.1) (All-nil (IsPieceSent s.net key x))

-- ---- the object

-- the value that a call heard is given, and so is the one that it learnt
pub given_of_heard : (s : State) (w : Caller) (past : List Trace) (ms : List Action) (version : ℕ) (x : Value) → IsKnownWorld s → AreAllowed s.cfg w past ms → ActionsCarried s.cfg.n s.net w.name ms → IsValueHeard ms version x → IsGiven s.cfg s.calls x
given_of_heard s w past ms version x k allowed carries h = (heard_given s.cfg s.calls s.net w past ms (net_given s k.valued) allowed carries h.0 h.1 h.2 version x h.3).0

pub learnt_given : (s : State) (past : List Trace) (t : Trace) (version : ℕ) (x : Value) → IsKnownWorld s → AreAllowed s.cfg t.caller past t.actions → ActionsCarried s.cfg.n s.net t.caller.name t.actions → IsLearnt s.cfg t.caller t.actions version x → IsGiven s.cfg s.calls x
learnt_given s past t version x k allowed carries learnt = given_of_heard s t.caller past t.actions version x k allowed carries learnt.heard

-- a piece of a value is one of its put's, to the same object
module _ (s : State) (k : IsKnownWorld s) (key : List ℕ) (x : PutData) (given : IsGiven s.cfg s.calls (PutOf x)) where
  record IsPieceOfCall (piece : Piece) : Type 0 where
    pub key_is : key ≡ key_of given.1.call
    pub sent : List ℕ
    pub bytes : List ℕ
    pub own : IsRecordOf s.cfg given.1.name given.1.call piece.0 sent
    pub same : (bytes ≡ sent) ⊎ (sha256 bytes ≢ sha256 sent)
    pub whole : whole_piece key x piece.0 bytes ≡ Some piece.1

  piece_of_call : (piece : Piece) → IsPieceSent s.net key x piece → IsPieceOfCall piece
  piece_of_call piece p =
      let sent = p.sent in
      let of = k.blobs.requests sent.number sent.request (blob_at key x piece.0) sent.sent sent.there sent.stores in
      let one : of.call ≡ given.1 = one_named s of.place given.0 of.call given.1 k.listed of.there given.2 (sym of.name_is ∙ sym (given_named s.cfg s.calls x given)) in
      record {
        key_is = of.key_is ∙ ap (λ (q : CallRec). key_of q.call) one;
        sent = sent.sent;
        bytes = p.bytes;
        own = subst (λ (q : CallRec). IsRecordOf s.cfg q.name q.call piece.0 sent.sent) one of.own;
        same = sent.same;
        whole = p.whole;
      }

  -- it is of one of the value's fragments, and as wide as they are
  pub piece_fits : (piece : Piece) → IsPieceSent s.net key x piece → (piece.0 < x.k + x.m) × (length piece.1 ≡ div_ceil x.length x.k)
  piece_fits piece p =
      let of = piece_of_call piece p in
      let put = put_call s.cfg given.1.name given.1.call x given.3 in
      let low = record_site s.cfg given.1.name given.1.call piece.0 of.sent of.own in
      let some : x.k ≡ s.cfg.k = ap (λ (y : PutData). y.k) put.own.2 in
      let more : x.m ≡ s.cfg.m = ap (λ (y : PutData). y.m) put.own.2 in
      (omega (arith, low, some, more), (whole_is (fragment_at key x piece.0) (digest_at x piece.0) of.bytes piece.1 of.whole).wide)

  came_whole : (object : List ℕ) (piece : Piece) → given.1.call ≡ Put key object → IsPieceOfCall piece → CameWhole s.cfg given.1.name key object x piece
  came_whole object piece is p = (p.sent, p.bytes, subst (λ (q : Call). IsRecordOf s.cfg given.1.name q piece.0 p.sent) is p.own, p.same, p.whole)

  -- so what is rebuilt from them is what the put was given
  rebuilt_is_given : (pieces : List Piece) (bytes : List ℕ) → All (IsPieceSent s.net key x) pieces → IsRebuilt x.k x.m x.length pieces bytes → given.1.call ≡ Put key bytes
  rebuilt_is_given pieces bytes all rebuilt =
      let put = put_call s.cfg given.1.name given.1.call x given.3 in
      let size : x.k ≡ s.cfg.k = ap (λ (y : PutData). y.k) put.own.2 in
      let some = k.config.split in
      let whole = rebuilt.whole in
      let first = piece_of_call (get_or pieces 0 no_piece) (All-get_or (IsPieceSent s.net key x) pieces 0 no_piece (omega (arith, size, some, whole)) all) in
      let same_key : key ≡ put.key = first.key_is ∙ ap key_of put.is in
      let is : given.1.call ≡ Put key put.object = put.is ∙ ap (λ (q : List ℕ). Put q put.object) (sym same_key) in
      let own = subst (λ (q : List ℕ). IsPutOf s.cfg given.1.name q put.object x) (sym same_key) put.own in
      let object = object_from_whole s.cfg given.1.name key put.object x pieces bytes (fits_256 s.cfg k.config) own
      (λ j l. came_whole put.object (get_or pieces j no_piece) is (piece_of_call (get_or pieces j no_piece) (All-get_or (IsPieceSent s.net key x) pieces j no_piece l all))) rebuilt in
      is ∙ ap (λ (q : List ℕ). Put key q) (sym object)

read_back : (s : State) (past : List Trace) (t : Trace) (v : ℕ) (name : Name) (bytes : List ℕ) → IsKnownWorld s → AreAllowed s.cfg t.caller past t.actions → ActionsCarried s.cfg.n s.net t.caller.name t.actions → IsRead s.cfg t.caller t.actions v name (GivesBytes t.caller t.actions bytes) → IsPutGiven s.calls (key_of t.caller.call) name bytes
read_back s past t v name bytes k allowed carries read =
    let key = key_of t.caller.call in
    let x = read.0 in
    let given = learnt_given s past t v (PutOf x) k allowed carries read.2 in
    record {
      place = given.0;
      call = given.1;
      there = given.2;
      name_is = given_named s.cfg s.calls x given ∙ read.1;
      put = rebuilt_is_given s k key x given (wholes key x t.actions) bytes (pieces_sent s k.blobs key x t.caller.name t.actions carries) read.3;
    }

traces_back : (s : State) (session : ℕ) (ts : List Trace) → IsKnownWorld s → AllKeepRules s.cfg session ts → TracesCarried s.cfg.n s.net ts → EachTrace (GivesBack s.calls) ts
traces_back s session [] k told carries = tt
traces_back s session (t ∷ ts) k told carries = (
  λ v name bytes e. (let cause = subst (IsAnswered s.cfg ts t) e told.0.answered in read_back s ts t v name bytes k told.0.allowed carries.0 cause.1),
  traces_back s session ts k told.2 carries.1,
)

-- in every world that is reached and whose sites tell what they hold
pub given_back : (s : State) → IsReached s → AllTell s → AreGivenBack s
given_back s reached tells = let k = known s reached tells in λ session. traces_back s session (s.traces session) k (k.listed.told session) (k.carries session)
