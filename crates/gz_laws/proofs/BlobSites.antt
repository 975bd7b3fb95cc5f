-- A request that a call sends goes to a site: one for a blob to the site of its record's index, or to the one that a value names
-- which the call heard.
use Rattle.std.proofs.Common.{◌≡◌, ℕ, zero, suc, ◌+◌, ◌<◌, ◌^◌, inl, inr, List, [], ◌∷◌, Some, None, true, false, length, sym, subst, arith}
use Rattle.std.specs.Prelude.{◌==◌, ◌&&◌, nat_lt, if◌then◌else◌, slice_get}
use Rattle.std.specs.List.{list_all}
use Rattle.std.proofs.lemmas.Bool.{cases_Bool, and_parts, ltb-true}
use Rattle.std.proofs.lemmas.Option.{same_Some, none-some}
use Rattle.gz_config.specs.declared.Config.{Config}
use Rattle.gz_core.specs.Configurations.{IsConfig}
use Rattle.gz_core.specs.Names.{Name}
use Rattle.gz_core.specs.Rows.{RowAt, column_in}
use Rattle.gz_core.specs.declared.calls.Call.{Call}
use Rattle.gz_core.specs.declared.calls.Call.TheVariants.{Put}
use Rattle.gz_core.specs.declared.fragments.FragRef.{FragRef}
use Rattle.gz_core.specs.declared.requests.Op.{Op}
use Rattle.gz_core.specs.declared.requests.Op.TheVariants.{PutBlob, GetBlob, DropBlob}
use Rattle.gz_core.specs.declared.requests.Out.{Out}
use Rattle.gz_core.specs.declared.rows.Column.{Column}
use Rattle.gz_core.specs.declared.rows.Column.TheVariants.{Open, Decided}
use Rattle.gz_core.specs.declared.values.Value.{Value}
use Rattle.gz_core.specs.declared.values.Value.TheVariants.{Put as PutOf}
use Rattle.gz_core.specs.History.{Asked, Action, Sent, Caller, Trace, is_row_request, asked_of, sent_from}
use Rattle.gz_data.specs.Own.{IsRecordOf}
use Rattle.gz_round.specs.Sending.{AreAllowed, IsAllowed}
use Rattle.gz_round.specs.Shown.{column_value}
use Rattle.gz_round.specs.Sites.{can_stand, entry_stands, column_stands, value_stands, fragment_stands}
use Rattle.gz_round.proofs.AsHeard.{heard_stands}
use Rattle.gz_client.specs.Blobs.{MayAskBlob, AreBlobsAllowed}
use Rattle.gz_laws.proofs.Growing.{allowed_base}

stand_columns : (n : ℕ) (row : RowAt) → can_stand n row ≡ true → list_all (entry_stands n) row.columns ≡ true
stand_columns n row h =
    let low = nat_lt (length row.columns) (2 ^ 22) in
    let all = list_all (entry_stands n) row.columns in
    (and_parts low all (and_parts (nat_lt row.floor (2 ^ 62)) (low && all) h).1).1

column_case : (n : ℕ) (column : Column) (x : Value) → column_stands n column ≡ true → column_value (Some column) ≡ Some x → value_stands n x ≡ true
column_case n (Open promise None) x h e = absurd (none-some x e)
column_case n (Open promise (Some vote)) x h e = subst (λ y. value_stands n y ≡ true) (same_Some vote.value x e) (and_parts (nat_lt promise.round (2 ^ 31)) (value_stands n vote.value) h).1
column_case n (Decided value) x h e = subst (λ y. value_stands n y ≡ true) (same_Some value x e) h

-- a value of a row that can stand has its fragments at sites
value_in : (n : ℕ) (columns : List (ℕ × Column)) (v : ℕ) (x : Value) → list_all (entry_stands n) columns ≡ true → column_value (column_in columns v) ≡ Some x → value_stands n x ≡ true
value_in n [] v x h e = absurd (none-some x e)
value_in n (d ∷ ds) v x h e =
    let both = and_parts (entry_stands n d) (list_all (entry_stands n) ds) h in
    let parts = and_parts (nat_lt d.0 (2 ^ 62)) (column_stands n d.1) both.0 in
    elim (d.0 == v) as (λ t. column_value (if t then Some d.1 else column_in ds v) ≡ Some x → value_stands n x ≡ true) [
      | true ↦ λ k. column_case n d.1 x parts.1 k
      | false ↦ λ k. value_in n ds v x both.1 k
    ] e

fragment_in : (n : ℕ) (fragments : List FragRef) (i : ℕ) (fragment : FragRef) → list_all (fragment_stands n) fragments ≡ true → slice_get fragments i ≡ Some fragment → fragment.site < n
fragment_in n [] i fragment h e = absurd (none-some fragment e)
fragment_in n (f ∷ fs) zero fragment h e = subst (λ (g : FragRef). g.site < n) (same_Some f fragment e) (ltb-true f.site n (and_parts (fragment_stands n f) (list_all (fragment_stands n) fs) h).0)
fragment_in n (f ∷ fs) (suc i) fragment h e = fragment_in n fs i fragment (and_parts (fragment_stands n f) (list_all (fragment_stands n) fs) h).1 e

pub record_site : (c : Config) (name : Name) (call : Call) (i : ℕ) (bytes : List ℕ) → IsRecordOf c name call i bytes → i < c.k + c.m
record_site c name (Put key object) i bytes h = h.2
record_site c name call i bytes h = absurd h

blob_site : (c : Config) (w : Caller) (past : List Trace) (ms : List Action) (a : Asked) (op : Op) → IsConfig c → AreAllowed c w past ms → is_row_request op ≡ false → MayAskBlob c w ms a op → a.site < c.n
blob_site c w past ms a (PutBlob b bytes) sizes allowed blob may = let low = record_site c w.name w.call a.site bytes may.own in let few = sizes.pieces in omega (arith, low, few)
blob_site c w past ms a (GetBlob b) sizes allowed blob may =
    let heard = may.learnt.heard in
    let stands = stand_columns c.n heard.1 (heard_stands c w past ms heard.0 heard.1 allowed heard.2) in
    let value = value_in c.n heard.1.columns may.version (PutOf may.value) stands heard.3 in
    subst (λ s. s < c.n) (sym may.site) (fragment_in c.n may.value.fragments b.index may.fragment value may.there)
blob_site c w past ms a (DropBlob b) sizes allowed blob may = absurd may
blob_site c w past ms a op sizes allowed blob may = cc

asked_site : (c : Config) (w : Caller) (past : List Trace) (ms : List Action) (a : Asked) → IsConfig c → AreAllowed c w past ms → IsAllowed c w past ms (Sent a) → MayAskBlob c w ms a a.op → a.site < c.n
asked_site c w past ms a sizes allowed may blob = elim (cases_Bool (is_row_request a.op)) [
  | inl row ↦ (may row).site
  | inr other ↦ blob_site c w past ms a a.op sizes allowed other blob
]

pub blobs_base : (c : Config) (w : Caller) (first : ℕ) (outs : List Out) (ms : List Action) → AreBlobsAllowed c w (sent_from first outs ms) → AreBlobsAllowed c w ms
blobs_base c w first [] ms h = h
blobs_base c w first (o ∷ os) ms h = (blobs_base c w (first + 1) os (Sent (asked_of first o) ∷ ms) h).1

-- each request that a call sends goes to a site
pub sends_site : (c : Config) (w : Caller) (past : List Trace) (first : ℕ) (outs : List Out) (ms : List Action) → IsConfig c → AreAllowed c w past (sent_from first outs ms) → AreBlobsAllowed c w (sent_from first outs ms) → (j : ℕ) (o : Out) → slice_get outs j ≡ Some o → o.site < c.n
sends_site c w past first [] ms sizes allowed blobs j o e = cc
sends_site c w past first (out ∷ outs) ms sizes allowed blobs zero o e =
    let same : out ≡ o = cc in
    let a = asked_of first out in
    let base = allowed_base c w past (first + 1) outs (Sent a ∷ ms) allowed in
    subst (λ (k : Out). k.site < c.n) same (asked_site c w past ms a sizes base.1 base.0 (blobs_base c w (first + 1) outs (Sent a ∷ ms) blobs).0)
sends_site c w past first (out ∷ outs) ms sizes allowed blobs (suc j) o e = sends_site c w past (first + 1) outs (Sent (asked_of first out) ∷ ms) sizes allowed blobs j o e
