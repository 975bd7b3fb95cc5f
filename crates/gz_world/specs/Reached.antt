-- The worlds that are reached: from sites that hold nothing, by one event after another.
use Rattle.std.specs.Prelude.{ℕ, ◌≡◌, ◌<◌, false, [], IfSome, IsSome}
use Rattle.gz_core.specs.Configurations.{IsConfig}
use Rattle.gz_site.specs.Told.{IsEmpty}
use Rattle.gz_world.specs.States.{State}
use Rattle.gz_world.specs.Steps.{WorldStep}
use Rattle.gz_world.specs.declared.events.Event.{Event}

-- nothing has happened, and each site that tells its state holds nothing
pub record IsOpening (s : State) : Type 0 where
  pub config : IsConfig s.cfg
  pub sites : (i : ℕ) → IfSome (s.sites i) IsEmpty
  pub sessions : s.sessions ≡ 0
  pub crashed : (session : ℕ) → s.crashed session ≡ false
  pub traces : (session : ℕ) → s.traces session ≡ []
  pub net : s.net ≡ []
  pub journal : s.journal ≡ []
  pub casts : s.casts ≡ []
  pub calls : s.calls ≡ []
  pub held : s.held ≡ 0

-- what is reached by events
pub data IsReached : State → Type 0 where
  opened : (s : State) → IsOpening s → IsReached s
  stepped : (old new : State) (event : Event) → IsReached old → WorldStep old event new → IsReached new

-- each site of the configuration tells its state
abbrev pub AllTell : State → Type 0
AllTell s = (i : ℕ) → i < s.cfg.n → IsSome (s.sites i)
