-- The two counters of a put.
use Rattle.std.specs.Prelude.{ℕ, ◌≡◌, List}
use Rattle.gz_core.specs.History.{Action}
use Rattle.gz_data.specs.Blobs.{stored, lost}
use Rattle.gz_data.specs.declared.storing.Storing.{Storing}

-- the counters are those of what happened to the call
pub record IsCountOf (ms : List Action) (counts : Storing) : Type 0 where
  pub stored : counts.stored ≡ stored ms
  pub lost : counts.lost ≡ lost ms
