-- Each record of a fragment that lies at a site, or that a site sent back, is one that a put of the history sent there, or has another
-- digest than that one.
use Rattle.std.specs.Prelude.{ℕ, ◌≡◌, ◌≢◌, ◌⊎◌, List, Some, slice_get}
use Rattle.sha2.specs.Sha256.{sha256}
use Rattle.gz_config.specs.declared.Config.{Config}
use Rattle.gz_core.specs.Blobs.{BlobAt}
use Rattle.gz_core.specs.Calls.{key_of}
use Rattle.gz_core.specs.declared.requests.Op.TheVariants.{PutBlob, GetBlob}
use Rattle.gz_core.specs.declared.requests.Reply.TheVariants.{Blob}
use Rattle.gz_data.specs.Own.{IsRecordOf}
use Rattle.gz_history.specs.declared.record.CallRec.{CallRec}
use Rattle.gz_site.specs.Told.{Told}
use Rattle.gz_world.specs.States.{RequestAt, State, numbered}

-- a request of the world sent bytes to the site to be stored under this name: these, or some of another digest
pub record IsSentOrOther (net : List RequestAt) (site : ℕ) (b : BlobAt) (bytes : List ℕ) : Type 0 where
  pub number : ℕ
  pub request : RequestAt
  pub sent : List ℕ
  pub there : numbered net number ≡ Some request
  pub site_is : request.site ≡ site
  pub stores : request.op ≡ PutBlob b sent
  pub same : (bytes ≡ sent) ⊎ (sha256 bytes ≢ sha256 sent)

-- a request to store bytes is one of a call of the history, under the call's own key and name; the bytes are the call's record of this
-- index, and go to the site of the index
pub record IsRecordSent (c : Config) (calls : List CallRec) (r : RequestAt) (b : BlobAt) (bytes : List ℕ) : Type 0 where
  pub place : ℕ
  pub call : CallRec
  pub there : slice_get calls place ≡ Some call
  pub sender : r.name ≡ call.name
  pub name_is : b.name ≡ call.name
  pub key_is : b.key ≡ key_of call.call
  pub site_is : r.site ≡ b.index
  pub own : IsRecordOf c call.name call.call b.index bytes

-- of the records that sites keep, that replies bring, and that requests store
pub record AreBlobsSent (s : State) : Type 0 where
  pub sites : (i : ℕ) (told : Told) (b : BlobAt) (bytes : List ℕ) → s.sites i ≡ Some told → told.blobs b ≡ Some bytes → IsSentOrOther s.net i b bytes
  pub replies : (n i tick : ℕ) (r : RequestAt) (b : BlobAt) (bytes : List ℕ) → numbered s.net n ≡ Some r → r.op ≡ GetBlob b → slice_get r.replies i ≡ Some (tick, Blob bytes) → IsSentOrOther s.net r.site b bytes
  pub requests : (n : ℕ) (r : RequestAt) (b : BlobAt) (bytes : List ℕ) → numbered s.net n ≡ Some r → r.op ≡ PutBlob b bytes → IsRecordSent s.cfg s.calls r b bytes
