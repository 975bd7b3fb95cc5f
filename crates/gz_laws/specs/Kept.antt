-- A record that a site stored lies there with the bytes that were sent, unless a request to drop it was performed at the site since.
use Rattle.std.specs.Prelude.{ℕ, ◌≡◌, ◌<◌, ◌⊎◌, List, Some, None, slice_get}
use Rattle.gz_core.specs.Blobs.{BlobAt}
use Rattle.gz_core.specs.declared.requests.Op.{Op}
use Rattle.gz_core.specs.declared.requests.Op.TheVariants.{PutBlob, DropBlob}
use Rattle.gz_core.specs.declared.requests.Reply.{Reply}
use Rattle.gz_core.specs.declared.requests.Reply.TheVariants.{Stored}
use Rattle.gz_site.specs.Told.{Told}
use Rattle.gz_world.specs.States.{RequestAt, State, numbered}
use Rattle.gz_world.specs.declared.events.Event.{Event}
use Rattle.gz_world.specs.declared.events.Event.TheVariants as events

-- a request sent these bytes to the site to be stored under this name, and the site replied at the tick that they are
pub record WasStored (net : List RequestAt) (site : ℕ) (b : BlobAt) (bytes : List ℕ) (tick : ℕ) : Type 0 where
  pub number : ℕ
  pub request : RequestAt
  pub place : ℕ
  pub there : numbered net number ≡ Some request
  pub site_is : request.site ≡ site
  pub stores : request.op ≡ PutBlob b bytes
  pub told : slice_get request.replies place ≡ Some (tick, Stored)

-- a request to drop what has this name was performed at the site after the tick
pub record WasDropped (net : List RequestAt) (site : ℕ) (b : BlobAt) (since : ℕ) : Type 0 where
  pub number : ℕ
  pub request : RequestAt
  pub place : ℕ
  pub reply : ℕ × Reply
  pub there : numbered net number ≡ Some request
  pub site_is : request.site ≡ site
  pub drops : request.op ≡ DropBlob b
  pub performed : slice_get request.replies place ≡ Some reply
  pub after : since < reply.0

-- each record that a site replied to have stored lies there as it was sent, or was dropped there since
abbrev pub AreBlobsKept : State → Type 0
AreBlobsKept s = (i tick : ℕ) (told : Told) (b : BlobAt) (bytes : List ℕ) → s.sites i ≡ Some told → WasStored s.net i b bytes tick → (told.blobs b ≡ Some bytes) ⊎ WasDropped s.net i b tick

-- the event performs a request for this operation at the site
pub record PerformsAt (old : State) (event : Event) (site : ℕ) (op : Op) : Type 0 where
  pub number : ℕ
  pub request : RequestAt
  pub event_is : event ≡ events.Deliver number
  pub there : numbered old.net number ≡ Some request
  pub site_is : request.site ≡ site
  pub op_is : request.op ≡ op

-- other bytes are stored in the place of what lies at a site, or it is dropped and nothing lies there, by an event that performs a
-- request for just that
abbrev pub BlobsStay : State → Event → State → Type 0
BlobsStay old event new = (i : ℕ) (before after : Told) (b : BlobAt) (bytes : List ℕ) → old.sites i ≡ Some before → new.sites i ≡ Some after → before.blobs b ≡ Some bytes
    → (after.blobs b ≡ Some bytes) ⊎ (((sent : List ℕ) × (PerformsAt old event i (PutBlob b sent) × (after.blobs b ≡ Some sent))) ⊎ (PerformsAt old event i (DropBlob b) × (after.blobs b ≡ None)))
