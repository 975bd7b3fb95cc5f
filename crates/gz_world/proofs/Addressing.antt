-- What is sent by the rules goes to sites of the configuration.
use Rattle.std.proofs.Common.{◌≡◌, ℕ, zero, suc, ◌+◌, ◌<◌, ◌^◌, true, ◌&&◌, ◌==◌, nat_lt, List, [], ◌∷◌, ◌++◌, length, Some, None, refl, sym, ap, ◌∙◌, subst, inl, inr, arith}
use Rattle.std.specs.List.{slice_get, list_all}
use Rattle.std.proofs.lemmas.Bool.{cases_Bool, cond-true, cond-false, and_parts, ltb-true}
use Rattle.std.proofs.lemmas.Option.{same_Some, none-some}
use Rattle.gz_config.specs.declared.Config.{Config}
use Rattle.gz_core.specs.Configurations.{IsConfig}
use Rattle.gz_core.specs.Rows.{RowAt, column_in}
use Rattle.gz_core.specs.declared.calls.Call.{Call}
use Rattle.gz_core.specs.declared.calls.Call.TheVariants.{Put, Delete, Get, GetAt, Collect}
use Rattle.gz_core.specs.declared.fragments.FragRef.{FragRef}
use Rattle.gz_core.specs.declared.requests.Op.{Op}
use Rattle.gz_core.specs.declared.requests.Op.TheVariants.{ReadRow, WriteRow, PutBlob, GetBlob, DropBlob}
use Rattle.gz_core.specs.declared.requests.Out.{Out}
use Rattle.gz_core.specs.declared.rows.Column.{Column}
use Rattle.gz_core.specs.declared.rows.Column.TheVariants.{Open, Decided}
use Rattle.gz_core.specs.declared.values.Value.{Value}
use Rattle.gz_core.specs.declared.values.Value.TheVariants.{Put as PutOf}
use Rattle.gz_core.specs.Names.{Name}
use Rattle.gz_core.specs.History.{Asked, Action, Sent, Rested, GaveIn, Caller, Trace, is_row_request, asked_of, sent_from}
use Rattle.gz_data.specs.Own.{IsRecordOf}
use Rattle.gz_round.specs.Sending.{AreAllowed, MaySend}
use Rattle.gz_round.specs.Shown.{IsValueHeard, column_value}
use Rattle.gz_round.specs.Sites.{can_stand, entry_stands, column_stands, vote_stands, value_stands, fragment_stands}
use Rattle.gz_round.proofs.AsHeard.{heard_stands}
use Rattle.gz_client.specs.Blobs.{AreBlobsAllowed, MayAskBlob}
use Rattle.gz_client.specs.Traces.{IsClosed}

-- ---- the fragments of a value that was heard

-- a fragment of a value that a run can hold lies at a site of the run
fragment_site : (n : ℕ) (fragments : List FragRef) (i : ℕ) (fragment : FragRef) → list_all (fragment_stands n) fragments ≡ true → slice_get fragments i ≡ Some fragment → fragment.site < n
fragment_site n [] i fragment stand there = absurd (none-some fragment there)
fragment_site n (f ∷ fs) zero fragment stand there =
    let both : (fragment_stands n f ≡ true) × (list_all (fragment_stands n) fs ≡ true) = and_parts (fragment_stands n f) (list_all (fragment_stands n) fs) stand in
    subst (λ (k : FragRef). k.site < n) (same_Some f fragment there) (ltb-true f.site n both.0)
fragment_site n (f ∷ fs) (suc i) fragment stand there = fragment_site n fs i fragment (and_parts (fragment_stands n f) (list_all (fragment_stands n) fs) stand).1 there

-- so the value that a column has can be held where the column can
column_held : (n : ℕ) (column : Column) (x : Value) → column_stands n column ≡ true → column_value (Some column) ≡ Some x → value_stands n x ≡ true
column_held n (Open promise None) x h e = absurd (none-some x e)
column_held n (Open promise (Some vote)) x h e =
    let both : (nat_lt promise.round (2 ^ 31) ≡ true) × (vote_stands n (Some vote) ≡ true) = and_parts (nat_lt promise.round (2 ^ 31)) (vote_stands n (Some vote)) h in
    subst (λ (k : Value). value_stands n k ≡ true) (same_Some vote.value x e) both.1
column_held n (Decided value) x h e = subst (λ (k : Value). value_stands n k ≡ true) (same_Some value x e) h

columns_held : (n : ℕ) (columns : List (ℕ × Column)) (v : ℕ) (x : Value) → list_all (entry_stands n) columns ≡ true → column_value (column_in columns v) ≡ Some x → value_stands n x ≡ true
columns_held n [] v x h e = absurd (none-some x e)
columns_held n (c ∷ cs) v x h e =
    let both : (entry_stands n c ≡ true) × (list_all (entry_stands n) cs ≡ true) = and_parts (entry_stands n c) (list_all (entry_stands n) cs) h in
    elim (cases_Bool (c.0 == v)) [
      | inl here ↦ column_held n c.1 x (and_parts (nat_lt c.0 (2 ^ 62)) (column_stands n c.1) both.0).1 (sym (ap column_value (cond-true (c.0 == v) (Some c.1) (column_in cs v) here)) ∙ e)
      | inr there ↦ columns_held n cs v x both.1 (sym (ap column_value (cond-false (c.0 == v) (Some c.1) (column_in cs v) there)) ∙ e)
    ]

row_held : (n : ℕ) (row : RowAt) (v : ℕ) (x : Value) → can_stand n row ≡ true → column_value (column_in row.columns v) ≡ Some x → value_stands n x ≡ true
row_held n row v x h e =
    let outer : (nat_lt row.floor (2 ^ 62) ≡ true) × ((nat_lt (length row.columns) (2 ^ 22) && list_all (entry_stands n) row.columns) ≡ true) = and_parts (nat_lt row.floor (2 ^ 62)) (nat_lt (length row.columns) (2 ^ 22) && list_all (entry_stands n) row.columns) h in
    columns_held n row.columns v x (and_parts (nat_lt (length row.columns) (2 ^ 22)) (list_all (entry_stands n) row.columns) outer.1).1 e

-- a value that a call over n sites heard has its fragments at these
pub value_held : (c : Config) (w : Caller) (past : List Trace) (ms : List Action) (v : ℕ) (x : Value) → AreAllowed c w past ms → IsValueHeard ms v x → value_stands c.n x ≡ true
value_held c w past ms v x allowed heard = row_held c.n heard.1 v x (heard_stands c w past ms heard.0 heard.1 allowed heard.2) heard.3

-- ---- what is sent

-- the record of a call's piece goes to a site of the configuration
record_site : (c : Config) (name : Name) (call : Call) (i : ℕ) (bytes : List ℕ) → IsConfig c → IsRecordOf c name call i bytes → i < c.n
record_site c name (Put key object) i bytes config own = let below = own.2 in let enough = config.pieces in omega (arith, below, enough)
record_site c name (Delete key) i bytes config own = absurd own
record_site c name (Get key) i bytes config own = absurd own
record_site c name (GetAt key version) i bytes config own = absurd own
record_site c name (Collect key keep) i bytes config own = absurd own

-- a request that may be sent goes to a site of the configuration
asked_site : (c : Config) (w : Caller) (past : List Trace) (ms : List Action) (a : Asked) (op : Op) → IsConfig c → AreAllowed c w past ms → (is_row_request op ≡ true → MaySend c w past ms a) → MayAskBlob c w ms a op → a.site < c.n
asked_site c w past ms a (ReadRow key) config allowed row blob = (row refl).site
asked_site c w past ms a (WriteRow key expect step written) config allowed row blob = (row refl).site
asked_site c w past ms a (PutBlob b bytes) config allowed row blob = record_site c w.name w.call a.site bytes config blob.own
asked_site c w past ms a (GetBlob b) config allowed row blob =
    let held : list_all (fragment_stands c.n) blob.value.fragments ≡ true = value_held c w past ms blob.version (PutOf blob.value) allowed blob.learnt.heard in
    subst (λ s. s < c.n) (sym blob.site) (fragment_site c.n blob.value.fragments b.index blob.fragment held blob.there)
asked_site c w past ms a (DropBlob b) config allowed row blob = absurd blob

-- each of these requests does
abbrev pub AreForSites : Config → List Out → Type 0
AreForSites c outs = (j : ℕ) (o : Out) → slice_get outs j ≡ Some o → o.site < c.n

site_of : (c : Config) (out : Out) (outs : List Out) → out.site < c.n → AreForSites c outs → AreForSites c (out ∷ outs)
site_of c out outs here more zero o e = subst (λ (k : Out). k.site < c.n) (same_Some out o e) here
site_of c out outs here more (suc j) o e = more j o e

-- the rules of rows and of blobs, which say where each request may go
pub record IsRuled (c : Config) (w : Caller) (past : List Trace) (ms : List Action) : Type 0 where
  pub rows : AreAllowed c w past ms
  pub blobs : AreBlobsAllowed c w ms

ruled_sent : (c : Config) (w : Caller) (past : List Trace) (first : ℕ) (outs : List Out) (ms : List Action) → IsConfig c → IsRuled c w past (sent_from first outs ms) → IsRuled c w past ms × AreForSites c outs
ruled_sent c w past first [] ms config h = (h, λ j o e. absurd (none-some o e))
ruled_sent c w past first (out ∷ outs) ms config h =
    let a : Asked = asked_of first out in
    let r = ruled_sent c w past (first + 1) outs (Sent a ∷ ms) config h in
    let before : IsRuled c w past ms = record { rows = r.0.rows.1; blobs = r.0.blobs.1 } in
    (before, site_of c out outs (asked_site c w past ms a a.op config before.rows r.0.rows.0 r.0.blobs.0) r.1)

ruled_rest : (c : Config) (w : Caller) (past : List Trace) (m : Action) (closing ms : List Action) → closing ≡ m ∷ [] → IsRuled c w past (closing ++ ms) → IsRuled c w past ms
ruled_rest c w past m closing ms e h =
    let k : IsRuled c w past (m ∷ ms) = subst (λ k. IsRuled c w past (k ++ ms)) e h in
    record { rows = k.rows.1; blobs = k.blobs.1 }

ruled_before : (c : Config) (w : Caller) (past : List Trace) (closing ms : List Action) → IsClosed closing → IsRuled c w past (closing ++ ms) → IsRuled c w past ms
ruled_before c w past closing ms (inl (inl e)) h = subst (λ k. IsRuled c w past (k ++ ms)) e h
ruled_before c w past closing ms (inl (inr e)) h = ruled_rest c w past GaveIn closing ms e h
ruled_before c w past closing ms (inr e) h = ruled_rest c w past Rested closing ms e h

-- what an event sends by the rules goes to sites of the configuration, however the event closes
pub sent_to_sites : (c : Config) (w : Caller) (past : List Trace) (first : ℕ) (outs : List Out) (closing ms : List Action) → IsConfig c → IsClosed closing → AreAllowed c w past (closing ++ sent_from first outs ms) → AreBlobsAllowed c w (closing ++ sent_from first outs ms) → AreForSites c outs
sent_to_sites c w past first outs closing ms config closed rows blobs =
    (ruled_sent c w past first outs ms config (ruled_before c w past closing (sent_from first outs ms) closed (record { rows = rows; blobs = blobs }))).1
