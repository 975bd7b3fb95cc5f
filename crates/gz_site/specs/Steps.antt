-- One call at a site: what it answers and what it leaves, over the state that the site tells.
use Rattle.std.specs.Prelude.{ℕ, ◌≡◌, ◌≢◌, ◌<◌, ◌⊎◌, Bool, List, Option, Some, None, Result, Ok, Err, Vec, cond, is_some, option_map}
use Rattle.std.specs.declared.alloc.Global.{Global}
use Rattle.gz_core.specs.Blobs.{BlobAt, same_blob}
use Rattle.gz_core.specs.Rows.{RowAt}
use Rattle.gz_site.specs.Told.{Told, same_key, etag_of}
use Rattle.gz_site.specs.declared.sites.RowRead.{RowRead}
use Rattle.gz_site.specs.declared.sites.RowRead.TheVariants.{Row, NoRow}
use Rattle.gz_site.specs.declared.sites.RowWrite.{RowWrite}
use Rattle.gz_site.specs.declared.sites.RowWrite.TheVariants.{Written, Changed}
use Rattle.gz_site.specs.declared.sites.SiteFault.{SiteFault}
use Rattle.gz_site.specs.declared.sites.SiteFault.TheVariants.{Failed, NoMemory}

-- the row is stored under this tag, which is above every tag used before; all else stays
pub record RowStored (old : Told) (key : List ℕ) (etag : ℕ) (row : RowAt) (new : Told) : Type 0 where
  pub above : old.top < etag
  pub top : new.top ≡ etag
  pub rows : (q : List ℕ) → new.rows q ≡ cond (same_key key q) (Some (etag, row)) (old.rows q)
  pub blobs : new.blobs ≡ old.blobs

-- a read gives the stored row with its tag, none exactly where the key has none, and changes nothing
abbrev pub ReadRowStep : Told → List ℕ → Result RowRead SiteFault → Told → Type 0
ReadRowStep old key (Ok (Row etag row)) new = (old.rows key ≡ Some (etag, row)) × (new ≡ old)
ReadRowStep old key (Ok NoRow) new = (old.rows key ≡ None) × (new ≡ old)
ReadRowStep old key (Err fault) new = new ≡ old

-- a write stores the row exactly where the stored tag is the expected one; a failed one has no effect or all of it
abbrev pub WriteRowStep : Told → List ℕ → Option ℕ → RowAt → Result RowWrite SiteFault → Told → Type 0
WriteRowStep old key expect row (Ok (Written etag)) new = (etag_of (old.rows key) ≡ expect) × RowStored old key etag row new
WriteRowStep old key expect row (Ok Changed) new = (etag_of (old.rows key) ≢ expect) × (new ≡ old)
WriteRowStep old key expect row (Err Failed) new = (new ≡ old) ⊎ ((etag : ℕ) × (etag_of (old.rows key) ≡ expect) × RowStored old key etag row new)
WriteRowStep old key expect row (Err NoMemory) new = new ≡ old

-- the blob of this name has these bytes now, or is gone where there are none; all else stays
pub record BlobSet (old : Told) (blob : BlobAt) (bytes : Option (List ℕ)) (new : Told) : Type 0 where
  pub rows : new.rows ≡ old.rows
  pub top : new.top ≡ old.top
  pub blobs : (q : BlobAt) → new.blobs q ≡ cond (same_blob blob q) bytes (old.blobs q)

-- a put stores the bytes under the name, in place of those that stood there; a failed one has no effect or all of it
abbrev pub PutBlobStep : Told → BlobAt → List ℕ → Result (Unit {0}) SiteFault → Told → Type 0
PutBlobStep old blob bytes (Ok done) new = BlobSet old blob (Some bytes) new
PutBlobStep old blob bytes (Err Failed) new = (new ≡ old) ⊎ BlobSet old blob (Some bytes) new
PutBlobStep old blob bytes (Err NoMemory) new = new ≡ old

-- a get gives the stored bytes, none exactly where there is no such blob, and changes nothing
abbrev pub GetBlobStep : Told → BlobAt → Result (Option (Vec ℕ Global)) SiteFault → Told → Type 0
GetBlobStep old blob (Ok found) new = (option_map (λ v. v.items) found ≡ old.blobs blob) × (new ≡ old)
GetBlobStep old blob (Err fault) new = new ≡ old

-- a drop takes the blob away, and tells whether there was one; a failed one has no effect or all of it
abbrev pub DropBlobStep : Told → BlobAt → Result Bool SiteFault → Told → Type 0
DropBlobStep old blob (Ok was) new = (was ≡ is_some (old.blobs blob)) × BlobSet old blob None new
DropBlobStep old blob (Err Failed) new = (new ≡ old) ⊎ BlobSet old blob None new
DropBlobStep old blob (Err NoMemory) new = new ≡ old
