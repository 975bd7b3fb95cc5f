-- What a put writes of its object, and the record that it stores at each site.
use Rattle.std.specs.Prelude.{ℕ, ◌≡◌, ◌+◌, ◌<◌, List, [], map, Option, Some, None, slice_index_or}
use Rattle.std.specs.Prelude.{length as list_length}
use Rattle.std.specs.List.{range_with_len}
use Rattle.sha2.specs.Sha256.{sha256}
use Rattle.gz_config.specs.declared.Config.{Config}
use Rattle.gz_core.specs.Names.{Name}
use Rattle.gz_core.specs.Puts.{PutData}
use Rattle.gz_core.specs.declared.fragments.FragRef.{FragRef}
use Rattle.gz_core.specs.declared.values.Value.{Value}
use Rattle.gz_core.specs.declared.values.Value.TheVariants.{Tomb, Put as PutOf}
use Rattle.gz_core.specs.declared.calls.Call.{Call}
use Rattle.gz_core.specs.declared.calls.Call.TheVariants.{Put, Delete, Get, GetAt, Collect}
use Rattle.gz_code.specs.CodeWord.{IsSplit}
use Rattle.gz_fragfmt.specs.Spelling.{spelling}

-- the record of the i-th of an object's pieces
abbrev pub record_at : Config → Name → List ℕ → List ℕ → List (List ℕ) → ℕ → List ℕ
record_at c name key object pieces i =
    spelling (record { key = key; name = name; index = i; k = c.k; m = c.m; length = list_length object; piece = slice_index_or pieces i [] })

-- the first n fragments, whose records f gives: each lies at the site of its index
abbrev pub fragments_from : (ℕ → List ℕ) → ℕ → List FragRef
fragments_from f n = map (λ i. record { site = i; digest = sha256 (f i) }) (range_with_len 0 n)

-- what a put of this name writes of an object that is cut into these pieces
abbrev pub put_of : Config → Name → List ℕ → List ℕ → List (List ℕ) → PutData
put_of c name key object pieces =
    record { name = name; length = list_length object; k = c.k; m = c.m; fragments = fragments_from (record_at c name key object pieces) (c.k + c.m) }

-- x is what a put of this name writes of its object
abbrev pub IsPutOf : Config → Name → List ℕ → List ℕ → PutData → Type 0
IsPutOf c name key object x = (pieces : List (List ℕ)) × IsSplit c.k c.m object pieces × (x ≡ put_of c name key object pieces)

-- what a call of this name writes, if it writes anything
abbrev pub IsOwn : Config → Name → Call → Option Value → Type 0
IsOwn c name (Put key object) own = (x : PutData) × (own ≡ Some (PutOf x)) × IsPutOf c name key object x
IsOwn c name (Delete key) own = own ≡ Some (Tomb name)
IsOwn c name (Get key) own = own ≡ None
IsOwn c name (GetAt key version) own = own ≡ None
IsOwn c name (Collect key keep) own = own ≡ None

-- the bytes are the record of the i-th piece of the object that a put of this name stores
abbrev pub IsRecordOfPut : Config → Name → List ℕ → List ℕ → ℕ → List ℕ → Type 0
IsRecordOfPut c name key object i bytes =
    (pieces : List (List ℕ)) × IsSplit c.k c.m object pieces × (i < c.k + c.m) × (bytes ≡ record_at c name key object pieces i)

-- the bytes are the i-th record that a call of this name stores: only a put stores any
abbrev pub IsRecordOf : Config → Name → Call → ℕ → List ℕ → Type 0
IsRecordOf c name (Put key object) i bytes = IsRecordOfPut c name key object i bytes
IsRecordOf c name (Delete key) i bytes = ⊥
IsRecordOf c name (Get key) i bytes = ⊥
IsRecordOf c name (GetAt key version) i bytes = ⊥
IsRecordOf c name (Collect key keep) i bytes = ⊥

-- what a put of this name writes of its object, and the records that it stores, by their indices
pub record IsMade (c : Config) (name : Name) (key object : List ℕ) (put : PutData) (records : List (List ℕ)) : Type 0 where
  pub own : IsOwn c name (Put key object) (Some (PutOf put))
  pub count : list_length records ≡ c.k + c.m
  pub each : (i : ℕ) → i < c.k + c.m → IsRecordOf c name (Put key object) i (slice_index_or records i [])

-- the fragment at a place past the last one
abbrev pub no_fragment : FragRef
no_fragment = record { site = 0; digest = [] }

-- the digest that a value names for a fragment
abbrev pub digest_at : PutData → ℕ → List ℕ
digest_at x i = (slice_index_or x.fragments i no_fragment).digest
