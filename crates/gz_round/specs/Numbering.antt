-- The numbers of the requests that a call awaits.
use Rattle.std.specs.Prelude.{ℕ, ◌≡◌, ◌<◌, ◌≤◌, nat_lt, Bool, true, false, List, Option, Some, None}
use Rattle.gz_core.specs.Counts.{count_sites}
use Rattle.gz_config.specs.declared.Config.{Config}
use Rattle.gz_core.specs.History.{Asked, Action}
use Rattle.gz_round.specs.Sites.{site_now}

-- the requests that are awaited have numbers of their own, below the next one
pub record AreNumbered (c : Config) (ms : List Action) (next : ℕ) : Type 0 where
  pub below : (s : ℕ) (a : Asked) → s < c.n → (site_now ms s).awaits ≡ Some a → a.number < next
  pub apart : (s u : ℕ) (a b : Asked) → s < c.n → u < c.n → (site_now ms s).awaits ≡ Some a → (site_now ms u).awaits ≡ Some b → a.number ≡ b.number → s ≡ u

-- whether a request is awaited under a number that passes a test
abbrev pub awaits_number : (ℕ → Bool) → Option Asked → Bool
awaits_number p None = false
awaits_number p (Some a) = p a.number

-- how many requests are awaited under numbers that pass a test
abbrev pub live_where : Config → (ℕ → Bool) → List Action → ℕ
live_where c p ms = count_sites c.n (λ s. awaits_number p (site_now ms s).awaits)

-- the i-th lowest number of those that are awaited, none where there are no more
abbrev pub IsLiveAt : Config → List Action → ℕ → Option ℕ → Type 0
IsLiveAt c ms i None = live_where c (λ m. true) ms ≤ i
IsLiveAt c ms i (Some n) = ((a : Asked) × (a.site < c.n) × ((site_now ms a.site).awaits ≡ Some a) × (a.number ≡ n)) × (live_where c (λ m. nat_lt m n) ms ≡ i)
