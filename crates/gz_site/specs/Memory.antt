-- A site in memory: what it tells, which calls it is made to fail, and what each call then does.
use Rattle.std.specs.Prelude.{ℕ, ◌≡◌, ◌≢◌, ◌+◌, ◌-◌, ◌^◌, ◌==◌, ◌⊎◌, Bool, true, false, List, Option, Some, None, Result, Ok, Err, Vec, option_map, find}
use Rattle.std.specs.Map.{lookup}
use Rattle.std.specs.declared.alloc.Global.{Global}
use Rattle.gz_core.specs.Blobs.{BlobAt, same_blob}
use Rattle.gz_core.specs.Rows.{RowAt}
use Rattle.gz_site.specs.Told.{Told, same_key, etag_of}
use Rattle.gz_site.specs.Steps.{RowStored, ReadRowStep, PutBlobStep, GetBlobStep, DropBlobStep}
use Rattle.gz_site.specs.declared.memory.Contents.{Contents}
use Rattle.gz_site.specs.declared.memory.Failing.{Failing}
use Rattle.gz_site.specs.declared.memory.MemSite.{MemSite}
use Rattle.gz_site.specs.declared.sites.RowRead.{RowRead}
use Rattle.gz_site.specs.declared.sites.RowWrite.{RowWrite}
use Rattle.gz_site.specs.declared.sites.RowWrite.TheVariants.{Written, Changed}
use Rattle.gz_site.specs.declared.sites.SiteFault.{SiteFault}
use Rattle.gz_site.specs.declared.sites.SiteFault.TheVariants.{Failed, NoMemory}

-- the table as it is told
abbrev pub told_of : Contents → Told
told_of c = record { rows = λ key. lookup (same_key key) c.rows.entries; blobs = λ blob. lookup (same_blob blob) c.blobs.entries; top = c.top }

-- what the site holds
abbrev pub memory : MemSite → Told
memory s = told_of s.contents

-- the calls that are made to fail
abbrev pub listed : MemSite → List Failing
listed s = s.failing.items

-- how many calls the site was asked so far
abbrev pub asked : MemSite → ℕ
asked s = s.calls

-- whether the call of this number is made to fail, and whether it then has its effect; the first entry counts
abbrev pub fate_of : List Failing → ℕ → Option Bool
fate_of failing n = option_map (λ f. f.effect) (find (λ f. f.call == n) failing)

-- the row is put in under this tag, or memory ran out and nothing changed
abbrev pub Stores : Told → List ℕ → ℕ → RowAt → Result RowWrite SiteFault → Told → Type 0
Stores old key tag row (Ok (Written etag)) new = (etag ≡ tag) × RowStored old key etag row new
Stores old key tag row (Ok Changed) new = ⊥
Stores old key tag row (Err Failed) new = ⊥
Stores old key tag row (Err NoMemory) new = new ≡ old

-- a read that is not made to fail
abbrev pub ReadNext : Told → List ℕ → Result RowRead SiteFault → Told → Type 0
ReadNext old key result new = ReadRowStep old key result new × (result ≢ Err Failed)

-- a write that is not made to fail: the new tag is one above the greatest used, and there is none after 2^64 - 1
abbrev pub WriteNext : Told → List ℕ → Option ℕ → RowAt → Result RowWrite SiteFault → Told → Type 0
WriteNext old key expect row (Ok (Written etag)) new = (etag_of (old.rows key) ≡ expect) × ((etag ≡ old.top + 1) × RowStored old key etag row new)
WriteNext old key expect row (Ok Changed) new = (etag_of (old.rows key) ≢ expect) × (new ≡ old)
WriteNext old key expect row (Err Failed) new = (etag_of (old.rows key) ≡ expect) × ((old.top ≡ 2 ^ 64 - 1) × (new ≡ old))
WriteNext old key expect row (Err NoMemory) new = new ≡ old

-- a put of a blob, a get and a drop that are not made to fail
abbrev pub PutBlobNext : Told → BlobAt → List ℕ → Result (Unit {0}) SiteFault → Told → Type 0
PutBlobNext old blob bytes result new = PutBlobStep old blob bytes result new × (result ≢ Err Failed)

abbrev pub GetBlobNext : Told → BlobAt → Result (Option (Vec ℕ Global)) SiteFault → Told → Type 0
GetBlobNext old blob result new = GetBlobStep old blob result new × (result ≢ Err Failed)

abbrev pub DropBlobNext : Told → BlobAt → Result Bool SiteFault → Told → Type 0
DropBlobNext old blob result new = DropBlobStep old blob result new × (result ≢ Err Failed)

-- a call that is made to fail answers Failed, after its effect where it is to have it; want of memory is free, and is then the answer
abbrev pub Fated : {T : Type 0} → Option Bool → Told → (Result T SiteFault → Told → Type 0) → Result T SiteFault → Told → Type 0
Fated None old Does result new = Does result new
Fated (Some false) old Does result new = (result ≡ Err Failed) × (new ≡ old)
Fated {T} (Some true) old Does result new = ((result ≡ Err NoMemory) × (new ≡ old)) ⊎ ((result ≡ Err Failed) × ((done : Result T SiteFault) × ((done ≢ Err NoMemory) × Does done new)))
