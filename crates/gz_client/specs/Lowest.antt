-- The lowest request that a session's running call awaits.
use Rattle.std.specs.Prelude.{ℕ, Bool, ◌≡◌, ◌≤◌, ◌<◌, ◌+◌, ◌==◌, nat_lt, min, true, List, [], ◌∷◌, Option, Some, None}
use Rattle.std.specs.List.{All, Contains, count_by}
use Rattle.gz_config.specs.declared.Config.{Config}
use Rattle.gz_core.specs.History.{Trace}
use Rattle.gz_data.specs.declared.requests.AwaitedBlob.{AwaitedBlob}
use Rattle.gz_round.specs.Awaiting.{is_numbered}
use Rattle.gz_round.specs.declared.run.Mark.{Mark}
use Rattle.gz_round.specs.declared.run.Run.{Run}
use Rattle.gz_client.specs.Running.{rows_of, blobs_of}
use Rattle.gz_client.specs.declared.running.Running.{Running}
pub use Rattle.gz_round.specs.Numbering.{awaits_number}
pub use Rattle.gz_client.specs.Traces.{live, live_in, IsLive}

-- the lowest live request of a session, none exactly where it has none
abbrev pub IsLowestLive : Config → List Trace → Option ℕ → Type 0
IsLowestLive c ts None = live c (λ m. true) ts ≡ 0
IsLowestLive c ts (Some n) = IsLive c ts n × ((m : ℕ) → IsLive c ts m → n ≤ m)

-- how many of these marks of sites, and of these requests for blobs, are awaited under numbers that pass a test
abbrev pub marks_live : (ℕ → Bool) → Option Run → ℕ
marks_live p None = 0
marks_live p (Some run) = count_by (λ (mark : Mark). is_numbered p mark.awaited) run.marks

abbrev pub kept_live : (ℕ → Bool) → Running → ℕ
kept_live p running = marks_live p (rows_of running) + count_by (λ (blob : AwaitedBlob). p blob.number) (blobs_of running)

-- a request is kept as awaited under this number
abbrev pub IsKept : Running → ℕ → Type 0
IsKept running n = 1 ≤ kept_live (λ m. m == n) running

-- the number is the i-th lowest of those that are kept
abbrev pub IsKeptAt : Running → ℕ → Option ℕ → Type 0
IsKeptAt running i None = kept_live (λ m. true) running ≤ i
IsKeptAt running i (Some n) = IsKept running n × (kept_live (λ m. nat_lt m n) running ≡ i)

-- the least number from `low` on of these requests
abbrev pub IsLeastBlobFrom : List AwaitedBlob → ℕ → Option ℕ → Type 0
IsLeastBlobFrom blobs low None = (blob : AwaitedBlob) → Contains blobs blob → blob.number < low
IsLeastBlobFrom blobs low (Some n) = ((blob : AwaitedBlob) × Contains blobs blob × (blob.number ≡ n) × (low ≤ n)) × ((blob : AwaitedBlob) → Contains blobs blob → low ≤ blob.number → n ≤ blob.number)

-- the number is the least from `low` on of the requests that a running call keeps as awaited
abbrev pub IsLeastLiveFrom : Running → ℕ → Option ℕ → Type 0
IsLeastLiveFrom running low None = (n : ℕ) → IsKept running n → n < low
IsLeastLiveFrom running low (Some n) = IsKept running n × (low ≤ n) × ((m : ℕ) → IsKept running m → low ≤ m → n ≤ m)

-- the numbers rise
abbrev pub AreRising : List AwaitedBlob → Type 0
AreRising [] = Unit {0}
AreRising (blob ∷ blobs) = All (λ (b : AwaitedBlob). blob.number < b.number) blobs × AreRising blobs

abbrev pub lower_number : Option ℕ → Option ℕ → Option ℕ
lower_number None other = other
lower_number (Some a) None = Some a
lower_number (Some a) (Some b) = Some (min a b)

-- the requests that are kept have numbers of their own, and those for blobs rise
pub record AreApart (running : Running) : Type 0 where
  pub rising : AreRising (blobs_of running)
  pub one : (n : ℕ) → kept_live (λ m. m == n) running ≤ 1
