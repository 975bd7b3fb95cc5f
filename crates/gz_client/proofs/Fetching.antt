-- A call that learnt a put's value asks for each of its fragments, and awaits these requests alone.
use Rattle.std.proofs.Common.{◌≡◌, ℕ, zero, suc, ◌+◌, ◌<◌, ◌≤◌, Bool, true, false, List, [], ◌∷◌, ◌++◌, map, length, Option, Some, None, is_some, option_map, refl, sym, ap, ◌∙◌, subst, inl, inr, arith}
use Rattle.std.specs.Prelude.{not, slice_get}
use Rattle.std.specs.List.{Contains, filter}
use Rattle.std.proofs.lemmas.Bool.{cond-false, false≢true, eq-eqb}
use Rattle.std.proofs.lemmas.List.{append-nil, append_assoc}
use Rattle.std.proofs.lemmas.List.Elements.{All-contains, Contains-append_right, filter-append}
use Rattle.std.proofs.lemmas.Option.{get_or_from_slice_get, slice_get_within}
use Rattle.gz_config.specs.declared.Config.{Config}
use Rattle.gz_core.specs.Awaiting.{awaiting, without_rows}
use Rattle.gz_core.specs.Blobs.{BlobAt}
use Rattle.gz_core.specs.Calls.{key_of}
use Rattle.gz_core.specs.Names.{Name}
use Rattle.gz_core.specs.Puts.{PutData, IsPutData}
use Rattle.gz_core.specs.declared.fates.Fate.{Fate}
use Rattle.gz_core.specs.declared.fragments.FragRef.{FragRef}
use Rattle.gz_core.specs.declared.requests.Op.{Op}
use Rattle.gz_core.specs.declared.requests.Op.TheVariants.{ReadRow, WriteRow, PutBlob, GetBlob, DropBlob}
use Rattle.gz_core.specs.declared.requests.Out.{Out}
use Rattle.gz_core.specs.declared.requests.Reply.{Reply}
use Rattle.gz_core.specs.declared.values.Value.TheVariants.{Put as PutOf}
use Rattle.gz_core.specs.History.{Asked, Action, Sent, Handed, GaveUp, Rested, GaveIn, Caller, Trace, is_row_request, asked_of, sent_from}
use Rattle.gz_core.proofs.Awaited.{contains_head, contains_tail, contains_cases, contains_none, filter_contains}
use Rattle.gz_data.specs.Blobs.{BlobNow, is_op_about, blob_after, blob_now, blob_at, fate_by, wholes, whole_by}
use Rattle.gz_data.specs.Gathered.{GatheredAt, IsGathered, AreAsked, Gathers, IsOver}
use Rattle.gz_data.specs.Requests.{awaited_blob, awaited_from, get_out, gets_from}
use Rattle.gz_data.specs.Whole.{Piece}
use Rattle.gz_data.specs.declared.requests.AwaitedBlob.{AwaitedBlob}
use Rattle.gz_data.proofs.Adding.{gets_length}
use Rattle.gz_data.proofs.Fresh.{awaited_is_new}
use Rattle.gz_data.proofs.SameBlob.{same_blob-blob_at}
use Rattle.gz_round.specs.Causes.{IsLearnt}
use Rattle.gz_round.specs.Counting.{IsGoing}
use Rattle.gz_round.specs.Sending.{AreAllowed}
use Rattle.gz_round.proofs.Beside.{IsBeside, AreBlobOuts, beside_rested, beside_sent, beside_trans, allowed_sent, going_beside, learnt_beside}
use Rattle.gz_round.proofs.Turns.{over_sent}
use Rattle.gz_client.specs.Blobs.{has_asked}
use Rattle.gz_client.specs.Running.{AreAbout, GathersValue, PutsStand}
use Rattle.gz_client.specs.Traces.{AreBelow}
use Rattle.gz_client.specs.Turning.{KeepsBlobRules}
use Rattle.gz_client.specs.declared.running.Puts.{Puts}
use Rattle.gz_client.proofs.Fragments.{keeps_gets}
use Rattle.gz_client.proofs.Listed.{below_later, below_sent}
use Rattle.gz_client.proofs.Puts.{about_listed, blob_not_row, filter_again}
use Rattle.gz_client.proofs.Rules.{asked_more, asked_sent}
use Rattle.gz_client.proofs.Sent.{puts_unfetched, unfetched_alone}

-- ---- the requests

-- the requests that read these fragments, as they are sent
abbrev pub gets_asked : Name → List ℕ → ℕ → ℕ → List FragRef → List Asked
gets_asked name key n i [] = []
gets_asked name key n i (fragment ∷ fragments) = asked_of n (get_out name key i fragment) ∷ gets_asked name key (n + 1) (i + 1) fragments

-- are awaited after what was
gets_awaited : (name : Name) (key : List ℕ) (n i : ℕ) (fragments : List FragRef) (ms : List Action) → awaiting (sent_from n (gets_from name key i fragments) ms) ≡ awaiting ms ++ gets_asked name key n i fragments
gets_awaited name key n i [] ms = sym (append-nil (awaiting ms))
gets_awaited name key n i (fragment ∷ fragments) ms =
    let a : Asked = asked_of n (get_out name key i fragment) in
    gets_awaited name key (n + 1) (i + 1) fragments (Sent a ∷ ms) ∙ append_assoc (awaiting ms) (a ∷ []) (gets_asked name key (n + 1) (i + 1) fragments)

gets_are_blobs : (name : Name) (key : List ℕ) (n i : ℕ) (fragments : List FragRef) → without_rows (gets_asked name key n i fragments) ≡ gets_asked name key n i fragments
gets_are_blobs name key n i [] = refl
gets_are_blobs name key n i (fragment ∷ fragments) = ap (λ (rs : List Asked). asked_of n (get_out name key i fragment) ∷ rs) (gets_are_blobs name key (n + 1) (i + 1) fragments)

pub gets_blobs : (name : Name) (key : List ℕ) (i : ℕ) (fragments : List FragRef) → AreBlobOuts (gets_from name key i fragments)
gets_blobs name key i [] = tt
gets_blobs name key i (fragment ∷ fragments) = (refl, gets_blobs name key (i + 1) fragments)

gets_numbered : (name : Name) (key : List ℕ) (n i : ℕ) (fragments : List FragRef) → map awaited_blob (gets_asked name key n i fragments) ≡ awaited_from n i (length fragments)
gets_numbered name key n i [] = refl
gets_numbered name key n i (fragment ∷ fragments) = ap (λ (bs : List AwaitedBlob). record { number = n; index = i } ∷ bs) (gets_numbered name key (n + 1) (i + 1) fragments)

-- each reads a fragment
gets_read : (name : Name) (key : List ℕ) (n i : ℕ) (fragments : List FragRef) (a : Asked) → Contains (gets_asked name key n i fragments) a
    → (j : ℕ) × (j < i + length fragments) × (a.op ≡ GetBlob (record { key = key; name = name; index = j }))
gets_read name key n i [] a h = absurd (contains_none a h)
gets_read name key n i (fragment ∷ fragments) a h =
    elim (contains_cases (asked_of n (get_out name key i fragment)) (gets_asked name key (n + 1) (i + 1) fragments) a h) [
      | inl same ↦ (i, omega arith, sym (ap (λ (b : Asked). b.op) same))
      | inr later ↦ (let k = gets_read name key (n + 1) (i + 1) fragments a later in (k.0, omega (arith, k.1), k.2))
    ]

-- and each fragment is read by one
get_there : (name : Name) (key : List ℕ) (n i j : ℕ) (fragments : List FragRef) → j < length fragments
    → (a : Asked) × Contains (gets_asked name key n i fragments) a × (a.op ≡ GetBlob (record { key = key; name = name; index = i + j }))
get_there name key n i j [] l = absurd (omega arith)
get_there name key n i zero (fragment ∷ fragments) l =
    let a : Asked = asked_of n (get_out name key i fragment) in
    (a, contains_head a (gets_asked name key (n + 1) (i + 1) fragments), ap (λ (k : ℕ). GetBlob (record { key = key; name = name; index = k })) (omega arith))
get_there name key n i (suc j) (fragment ∷ fragments) l =
    let a : Asked = asked_of n (get_out name key i fragment) in
    let k = get_there name key (n + 1) (i + 1) j fragments (omega arith) in
    (k.0, contains_tail a (gets_asked name key (n + 1) (i + 1) fragments) k.0 k.1, k.2 ∙ ap (λ (k : ℕ). GetBlob (record { key = key; name = name; index = k })) (omega arith))

-- ---- a call that asked for rows alone

pub none_there : {X : Type 0} (xs : List X) → ((x : X) → Contains xs x → ⊥) → xs ≡ []
none_there [] h = refl
none_there (x ∷ xs) h = absurd (h x (contains_head x xs))

-- awaits no blob
pub rows_unblobbed : (ms : List Action) → AreAbout is_row_request ms → without_rows (awaiting ms) ≡ []
rows_unblobbed ms h = none_there (without_rows (awaiting ms)) (λ a i.
    false≢true (sym (blob_not_row (awaiting ms) a i) ∙ about_listed is_row_request ms a h (filter_contains (λ (b : Asked). not (is_row_request b.op)) (awaiting ms) a i)))

row_about_none : (b : BlobAt) (op : Op) → is_row_request op ≡ true → is_op_about b op ≡ false
row_about_none b (ReadRow key) e = refl
row_about_none b (WriteRow key expect step row) e = refl
row_about_none b (PutBlob name bytes) e = absurd (false≢true e)
row_about_none b (GetBlob name) e = absurd (false≢true e)
row_about_none b (DropBlob name) e = absurd (false≢true e)

-- asked for none
pub rows_unasked : (ms : List Action) (b : BlobAt) → AreAbout is_row_request ms → blob_now ms b ≡ record { asked = false; outcome = None }
rows_unasked [] b h = refl
rows_unasked (Sent a ∷ ms) b h = cond-false (is_op_about b a.op) (blob_after (Sent a) (blob_now ms b)) (blob_now ms b) (row_about_none b a.op h.0) ∙ rows_unasked ms b h.1
rows_unasked (Handed a reply ∷ ms) b h = cond-false (is_op_about b a.op) (blob_after (Handed a reply) (blob_now ms b)) (blob_now ms b) (row_about_none b a.op h.0) ∙ rows_unasked ms b h.1
rows_unasked (GaveUp a ∷ ms) b h = cond-false (is_op_about b a.op) (blob_after (GaveUp a) (blob_now ms b)) (blob_now ms b) (row_about_none b a.op h.0) ∙ rows_unasked ms b h.1
rows_unasked (Rested ∷ ms) b h = rows_unasked ms b h.1
rows_unasked (GaveIn ∷ ms) b h = rows_unasked ms b h.1

row_brings_none : (key : List ℕ) (x : PutData) (op : Op) (reply : Reply) → is_row_request op ≡ true → whole_by key x op reply ≡ []
row_brings_none key x (ReadRow k) reply e = refl
row_brings_none key x (WriteRow k expect step row) reply e = refl
row_brings_none key x (PutBlob name bytes) reply e = refl
row_brings_none key x (GetBlob name) reply e = absurd (false≢true e)
row_brings_none key x (DropBlob name) reply e = refl

-- and got no piece
rows_pieceless : (key : List ℕ) (x : PutData) (ms : List Action) → AreAbout is_row_request ms → wholes key x ms ≡ []
rows_pieceless key x [] h = refl
rows_pieceless key x (Sent a ∷ ms) h = append-nil (wholes key x ms) ∙ rows_pieceless key x ms h.1
rows_pieceless key x (Handed a reply ∷ ms) h =
    ap (λ (ps : List Piece). ps ++ whole_by key x a.op reply) (rows_pieceless key x ms h.1) ∙ row_brings_none key x a.op reply h.0
rows_pieceless key x (GaveUp a ∷ ms) h = append-nil (wholes key x ms) ∙ rows_pieceless key x ms h.1
rows_pieceless key x (Rested ∷ ms) h = append-nil (wholes key x ms) ∙ rows_pieceless key x ms h.1
rows_pieceless key x (GaveIn ∷ ms) h = append-nil (wholes key x ms) ∙ rows_pieceless key x ms h.1

-- ---- what an event sends in two parts

pub sent_both : (first : ℕ) (outs more : List Out) (ms : List Action) → sent_from first (outs ++ more) ms ≡ sent_from (first + length outs) more (sent_from first outs ms)
sent_both first [] more ms = ap (λ (n : ℕ). sent_from n more ms) (omega arith)
sent_both first (out ∷ outs) more ms =
    sent_both (first + 1) outs more (Sent (asked_of first out) ∷ ms)
    ∙ ap (λ (n : ℕ). sent_from n more (sent_from (first + 1) outs (Sent (asked_of first out) ∷ ms))) (omega arith)

pub below_after : (first : ℕ) (outs : List Out) (ms : List Action) → AreBelow first ms → AreBelow (first + length outs) (sent_from first outs ms)
below_after first [] ms below = below_later ms first (first + 0) (omega arith) below
below_after first (out ∷ outs) ms below =
    let a : Asked = asked_of first out in
    let rest = below_after (first + 1) outs (Sent a ∷ ms) (below_sent (awaiting ms) a a.awaited below) in
    below_later (sent_from (first + 1) outs (Sent a ∷ ms)) (first + 1 + length outs) (first + length (out ∷ outs)) (omega arith) rest

-- ---- a call that asks for the fragments of a value

-- what it did before: it asked for rows alone, and learnt the value
pub record CanFetch (c : Config) (w : Caller) (past : List Trace) (puts : Puts) (version : ℕ) (x : PutData) (ms : List Action) : Type 0 where
  pub allowed : AreAllowed c w past ms
  pub going : IsGoing c ms
  pub asked : has_asked ms ≡ true
  pub learnt : IsLearnt c w ms version (PutOf x)
  pub fragments : PutsStand c w puts ms
  pub rules : KeepsBlobRules c w ms
  pub well : IsPutData x

-- what it did once it sent them, and its row requests rest
abbrev pub fetched : Caller → ℕ → PutData → List Action → List Action
fetched w n x ms = sent_from n (gets_from x.name (key_of w.call) 0 x.fragments) ms

pub fetch_rules : (c : Config) (w : Caller) (past : List Trace) (puts : Puts) (version n : ℕ) (x : PutData) (ms : List Action) → CanFetch c w past puts version x ms → AreBelow n ms → KeepsBlobRules c w (fetched w n x ms)
fetch_rules c w past puts version n x ms h below =
    let rows : AreAbout is_row_request ms = h.fragments.none h.learnt.reads in
    keeps_gets c w n 0 version x x.fragments ms (λ (j : ℕ). ap (slice_get x.fragments) (omega arith)) h.learnt (unfetched_alone x.name ms (puts_unfetched c w puts ms h.fragments))
    (λ b asked. absurd (false≢true (sym (ap (λ (now : BlobNow). now.asked) (rows_unasked ms b rows)) ∙ asked))) below h.rules

-- it awaits them alone
fetch_awaits : (w : Caller) (n : ℕ) (x : PutData) (ms : List Action) → AreAbout is_row_request ms → without_rows (awaiting (fetched w n x ms)) ≡ gets_asked x.name (key_of w.call) n 0 x.fragments
fetch_awaits w n x ms rows =
    let key : List ℕ = key_of w.call in
    let p : Asked → Bool = λ (a : Asked). not (is_row_request a.op) in
    ap (filter p) (gets_awaited x.name key n 0 x.fragments ms)
    ∙ (filter-append p (awaiting ms) (gets_asked x.name key n 0 x.fragments)
    ∙ (ap (λ (rs : List Asked). rs ++ without_rows (gets_asked x.name key n 0 x.fragments)) (rows_unblobbed ms rows) ∙ gets_are_blobs x.name key n 0 x.fragments))

-- it asked for each, and nothing came of any
fetch_asks : (c : Config) (w : Caller) (past : List Trace) (puts : Puts) (version n : ℕ) (x : PutData) (ms : List Action) → CanFetch c w past puts version x ms → AreBelow n ms
    → AreAsked (key_of w.call) x (Rested ∷ fetched w n x ms)
fetch_asks c w past puts version n x ms h below =
    let key : List ℕ = key_of w.call in
    let rows : AreAbout is_row_request ms = h.fragments.none h.learnt.reads in
    let rules = fetch_rules c w past puts version n x ms h below in
    let ns : List Action = fetched w n x ms in
    record {
      fresh = λ (i : ℕ) (l : i < x.k + x.m).
          let there = get_there x.name key n 0 i x.fragments (omega (arith, l, h.well.count)) in
          let here : Contains (awaiting ns) there.0 = subst (λ (rs : List Asked). Contains rs there.0) (sym (gets_awaited x.name key n 0 x.fragments ms)) (Contains-append_right (awaiting ms) (gets_asked x.name key n 0 x.fragments) there.0 there.1) in
          let op_is : there.0.op ≡ GetBlob (blob_at key x i) = there.2 ∙ ap (λ (k : ℕ). GetBlob (blob_at key x k)) (omega arith) in
          awaited_is_new ns there.0 (blob_at key x i) rules.in_turn rules.once here (ap (is_op_about (blob_at key x i)) op_is ∙ (same_blob-blob_at key x i i ∙ eq-eqb i i refl));
      none =
          append-nil (wholes key x ns)
          ∙ over_sent (λ (os : List Action). wholes key x os ≡ []) (λ (a : Asked) (os : List Action) (e : wholes key x os ≡ []). append-nil (wholes key x os) ∙ e) n (gets_from x.name key 0 x.fragments) ms (rows_pieceless key x ms rows);
    }

-- fewer came whole than make the object, and one fragment has no fate
fresh_lacks : (key : List ℕ) (g : GatheredAt) (ms : List Action) → 1 ≤ g.value.k → AreAsked key g.value ms → Gathers key ms g → IsOver g → ⊥
fresh_lacks key g ms some asked gathers (inl whole) =
    let none : length g.pieces ≡ 0 = ap (λ (ps : List Piece). length ps) (gathers.pieces ∙ asked.none) in
    absurd (omega arith)
fresh_lacks key g ms some asked gathers (inr all) =
    let inside : 0 < g.value.k + g.value.m = omega arith in
    let now : blob_now ms (blob_at key g.value 0) ≡ record { asked = true; outcome = None } = asked.fresh 0 inside in
    let first : slice_get g.fates 0 ≡ Some None = gathers.fates 0 inside ∙ ap (λ (b : BlobNow). Some (option_map (fate_by key g.value 0) b.outcome)) now in
    false≢true (All-contains (λ (fate : Option Fate). is_some fate ≡ true) g.fates None all (0, slice_get_within g.fates 0 None first, get_or_from_slice_get g.fates 0 None None first))

-- so it gathers the value
pub fetch_gathers : (c : Config) (w : Caller) (past : List Trace) (puts : Puts) (n : ℕ) (g : GatheredAt) (awaited : List AwaitedBlob) (ms : List Action)
    → CanFetch c w past puts g.version g.value ms → AreBelow n ms → IsGathered g → ((os : List Action) → AreAsked (key_of w.call) g.value os → Gathers (key_of w.call) os g)
    → awaited ≡ awaited_from n 0 (length (gets_from g.value.name (key_of w.call) 0 g.value.fragments)) → length awaited ≡ length (gets_from g.value.name (key_of w.call) 0 g.value.fragments)
    → GathersValue c w past (key_of w.call) g awaited (Rested ∷ fetched w n g.value ms)
fetch_gathers c w past puts n g awaited ms h below rules gathers is count =
    let key : List ℕ = key_of w.call in
    let x : PutData = g.value in
    let ns : List Action = fetched w n x ms in
    let outs : List Out = gets_from x.name key 0 x.fragments in
    let p : Asked → Bool = λ (a : Asked). not (is_row_request a.op) in
    let long : length outs ≡ length x.fragments = gets_length x.name key 0 x.fragments in
    let asked = fetch_asks c w past puts g.version n x ms h below in
    let beside : IsBeside ms (Rested ∷ ns) = beside_trans ms ns (Rested ∷ ns) (beside_sent n outs ms (gets_blobs x.name key 0 x.fragments)) (beside_rested ns) in
    let learnt : IsLearnt c w ns g.version (PutOf x) = learnt_beside c w ms ns g.version (PutOf x) (beside_sent n outs ms (gets_blobs x.name key 0 x.fragments)) h.learnt in
    let waits : without_rows (awaiting (Rested ∷ ns)) ≡ gets_asked x.name key n 0 x.fragments = filter_again p (awaiting ns) ∙ fetch_awaits w n x ms (h.fragments.none h.learnt.reads) in
    record {
      rows = record {
        allowed = (inr (g.version, PutOf x, learnt), allowed_sent c w past n outs ms (gets_blobs x.name key 0 x.fragments) h.allowed);
        going = going_beside c ms (Rested ∷ ns) beside h.going;
        asked = asked_more Rested ns (asked_sent n outs ms h.asked);
        rests = λ s. refl;
      };
      learnt = learnt_beside c w ns (Rested ∷ ns) g.version (PutOf x) (beside_rested ns) learnt;
      key_is = refl;
      rules = rules;
      gathers = gathers (Rested ∷ ns) asked;
      awaited_is = is ∙ (ap (λ (k : ℕ). awaited_from n 0 k) long ∙ (sym (gets_numbered x.name key n 0 x.fragments) ∙ ap (map awaited_blob) (sym waits)));
      few = omega (arith, count, long, h.well.count, h.well.few);
      reads = λ (a : Asked) (i : Contains (without_rows (awaiting (Rested ∷ ns))) a).
          let k = gets_read x.name key n 0 x.fragments a (subst (λ (rs : List Asked). Contains rs a) waits i) in
          (k.0, omega (arith, k.1, h.well.count), k.2);
      lacks = fresh_lacks key g (Rested ∷ ns) h.well.some asked (gathers (Rested ∷ ns) asked);
    }
