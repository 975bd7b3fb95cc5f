-- Which requests for blobs a call may send, and when a put may ask for rows.
use Rattle.std.specs.Prelude.{ℕ, Bool, true, false, not, ◌≡◌, ◌≤◌, ◌+◌, ◌||◌, List, [], ◌∷◌, Some, slice_get}
use Rattle.gz_config.specs.declared.Config.{Config}
use Rattle.gz_config.specs.declared.Order.TheVariants.{BlobsFirst}
use Rattle.gz_core.specs.Blobs.{BlobAt}
use Rattle.gz_core.specs.Calls.{key_of}
use Rattle.gz_core.specs.Names.{Name, same_name}
use Rattle.gz_core.specs.Puts.{PutData}
use Rattle.gz_core.specs.declared.calls.Call.{Call}
use Rattle.gz_core.specs.declared.calls.Call.TheVariants.{Put}
use Rattle.gz_core.specs.declared.fragments.FragRef.{FragRef}
use Rattle.gz_core.specs.declared.values.Value.TheVariants.{Put as PutOf}
use Rattle.gz_core.specs.declared.requests.Op.{Op}
use Rattle.gz_core.specs.declared.requests.Op.TheVariants.{PutBlob, GetBlob, DropBlob}
use Rattle.gz_core.specs.History.{Asked, Action, Sent, Caller, is_row_request}
use Rattle.gz_data.specs.Blobs.{blob_at, stored}
use Rattle.gz_data.specs.Own.{IsRecordOf}
use Rattle.gz_round.specs.Causes.{IsLearnt}

-- a put stores each of its own records at the site of the record's index, under its own name
pub record MayPutBlob (c : Config) (w : Caller) (a : Asked) (b : BlobAt) (bytes : List ℕ) : Type 0 where
  pub named : b ≡ record { key = key_of w.call; name = w.name; index = a.site }
  pub own : IsRecordOf c w.name w.call a.site bytes

-- whether a request that an action sends passes a test
abbrev pub sends_op : (Op → Bool) → Action → Bool
sends_op p (Sent a) = p a.op
sends_op p m = false

-- whether the call sent such a request
abbrev pub has_sent : (Op → Bool) → List Action → Bool
has_sent p [] = false
has_sent p (m ∷ ms) = sends_op p m || has_sent p ms

-- whether a request reads a fragment
abbrev pub is_get_blob : Op → Bool
is_get_blob (GetBlob b) = true
is_get_blob op = false

-- whether a request reads a fragment of another put than the one of this name
abbrev pub reads_other : Name → Op → Bool
reads_other name (GetBlob b) = not (same_name b.name name)
reads_other name op = false

-- a fragment is asked for of the one value that the call learnt, at the site that the value names for it
pub record MayGetBlob (c : Config) (w : Caller) (ms : List Action) (a : Asked) (b : BlobAt) : Type 0 where
  pub version : ℕ
  pub value : PutData
  pub learnt : IsLearnt c w ms version (PutOf value)
  pub alone : has_sent (reads_other value.name) ms ≡ false
  pub named : b ≡ blob_at (key_of w.call) value b.index
  pub fragment : FragRef
  pub there : slice_get value.fragments b.index ≡ Some fragment
  pub site : a.site ≡ fragment.site

-- no call of this store removes a record yet; row requests have rules of their own
abbrev pub MayAskBlob : Config → Caller → List Action → Asked → Op → Type 0
MayAskBlob c w ms a (PutBlob b bytes) = MayPutBlob c w a b bytes
MayAskBlob c w ms a (GetBlob b) = MayGetBlob c w ms a b
MayAskBlob c w ms a (DropBlob b) = ⊥
MayAskBlob c w ms a op = Unit {0}

abbrev pub IsBlobAllowed : Config → Caller → List Action → Action → Type 0
IsBlobAllowed c w ms (Sent a) = MayAskBlob c w ms a a.op
IsBlobAllowed c w ms m = Unit {0}

-- each request for a blob was allowed when it was sent
abbrev pub AreBlobsAllowed : Config → Caller → List Action → Type 0
AreBlobsAllowed c w [] = Unit {0}
AreBlobsAllowed c w (m ∷ ms) = IsBlobAllowed c w ms m × AreBlobsAllowed c w ms

abbrev pub is_put : Call → Bool
is_put (Put key bytes) = true
is_put call = false

-- a put that stores its fragments first has so many stored as its answer Ok wants
abbrev pub HasStoredFirst : Config → Caller → List Action → Type 0
HasStoredFirst c w ms = is_put w.call ≡ true → c.order ≡ BlobsFirst → c.k + c.f ≤ stored ms

abbrev pub IsStoredFirst : Config → Caller → List Action → Action → Type 0
IsStoredFirst c w ms (Sent a) = is_row_request a.op ≡ true → HasStoredFirst c w ms
IsStoredFirst c w ms m = Unit {0}

-- it had before each row request that it sent
abbrev pub AreStoredFirst : Config → Caller → List Action → Type 0
AreStoredFirst c w [] = Unit {0}
AreStoredFirst c w (m ∷ ms) = IsStoredFirst c w ms m × AreStoredFirst c w ms

-- whether the call sent a request for a row
abbrev pub has_asked : List Action → Bool
has_asked ms = has_sent is_row_request ms

-- whether it asked for a fragment
abbrev pub has_fetched : List Action → Bool
has_fetched ms = has_sent is_get_blob ms
