-- A world as it is opened.
use Rattle.std.specs.Prelude.{ℕ, ◌≡◌, false, List, [], Option, IfSome}
use Rattle.gz_config.specs.declared.Config.{Config}
use Rattle.gz_site.specs.Told.{Told, IsEmpty}
use Rattle.gz_site.specs.Many.{told_at}
use Rattle.gz_world.specs.declared.world.World.{World}

-- each site that tells its state holds nothing
abbrev pub AreEmpty : {S : Type 0} → (S → Option Told) → List S → Type 0
AreEmpty told sites = (i : ℕ) → IfSome (told_at told sites i) IsEmpty

-- nothing has happened in the world
pub record IsOpened {S : Type 0} (cfg : Config) (sites : List S) (w : World S) : Type 0 where
  pub cfg_is : w.cfg ≡ cfg
  pub sites_are : w.sites.items ≡ sites
  pub net : w.net.items ≡ []
  pub clients : w.clients.items ≡ []
  pub journal : w.journal.items ≡ []
  pub casts : w.casts.list.items ≡ []
  pub calls : w.calls.items ≡ []
  pub held : w.held ≡ 0
  pub spent : w.spent ≡ false
