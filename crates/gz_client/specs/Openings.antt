-- What a call sends as it begins.
use Rattle.std.specs.Prelude.{ℕ, ◌≡◌, ◌+◌, List, ◌++◌, length, slice_get, Some}
use Rattle.gz_config.specs.declared.Config.{Config}
use Rattle.gz_config.specs.declared.Order.{Order}
use Rattle.gz_config.specs.declared.Order.TheVariants.{Parallel, BlobsFirst}
use Rattle.gz_core.specs.Calls.{key_of}
use Rattle.gz_core.specs.History.{Caller}
use Rattle.gz_core.specs.declared.calls.Call.{Call}
use Rattle.gz_core.specs.declared.calls.Call.TheVariants.{Put}
use Rattle.gz_core.specs.declared.requests.Out.{Out}
use Rattle.gz_data.specs.Own.{IsRecordOf}
use Rattle.gz_data.specs.Requests.{puts_from}
use Rattle.gz_round.specs.Starting.{reads_from}

-- the requests that read the row of each site, in the order of the sites
abbrev pub reads_of : Config → Caller → List Out
reads_of c w = reads_from (key_of w.call) 0 c.n

-- each of the call's records is stored at the site of its index, in the order of the indices
pub record AreStored (c : Config) (w : Caller) (outs : List Out) : Type 0 where
  pub records : List (List ℕ)
  pub count : length records ≡ c.k + c.m
  pub each : (i : ℕ) (bytes : List ℕ) → slice_get records i ≡ Some bytes → IsRecordOf c w.name w.call i bytes
  pub outs_are : outs ≡ puts_from w.name (key_of w.call) 0 records

-- a put stores its records after its reads, or first
abbrev pub OpensPut : Config → Caller → List Out → Order → Type 0
OpensPut c w send Parallel = (puts : List Out) × (send ≡ reads_of c w ++ puts) × AreStored c w puts
OpensPut c w send BlobsFirst = AreStored c w send

-- what a call sends as it begins
abbrev pub OpensBy : Config → Caller → List Out → Call → Type 0
OpensBy c w send (Put key bytes) = OpensPut c w send c.order
OpensBy c w send call = send ≡ reads_of c w

abbrev pub IsOpening : Config → Caller → List Out → Type 0
IsOpening c w send = OpensBy c w send w.call
