-- How an event changes a client.
use Rattle.std.specs.Prelude.{ℕ, Option, Some, None, option_map}
use Rattle.gz_data.specs.Gathered.{CameAt, with_came, CanKeep}
use Rattle.gz_data.specs.Requests.{without_number}
use Rattle.gz_data.specs.declared.storing.Storing.{Storing as Counts}
use Rattle.gz_client.specs.declared.client.Client.{Client}
use Rattle.gz_client.specs.declared.running.Puts.{Puts}
use Rattle.gz_client.specs.declared.running.Running.{Running}
use Rattle.gz_client.specs.declared.running.Running.TheVariants.{Storing, Asking, Placed, Gathering}
use Rattle.gz_client.specs.declared.running.Change.{Change}
use Rattle.gz_client.specs.declared.running.Change.TheVariants.{Runs, Counts as CountsAre, Keeps}

-- the fragments of a put once request n is awaited no more, with these counters
abbrev pub counted : ℕ → Counts → Puts → Puts
counted n counts puts = record { awaited = without_number n puts.awaited; counts = counts }

abbrev pub counted_in : ℕ → Counts → Running → Running
counted_in n counts (Storing run puts) = Storing run (counted n counts puts)
counted_in n counts (Asking run puts) = Asking run (counted n counts puts)
counted_in n counts (Placed version puts) = Placed version (counted n counts puts)
counted_in n counts (Gathering key g awaited) = Gathering key g awaited

-- a gathering once request n is awaited no more, with what came of it
abbrev pub kept_in : ℕ → CameAt → Running → Running
kept_in n came (Storing run puts) = Storing run puts
kept_in n came (Asking run puts) = Asking run puts
kept_in n came (Placed version puts) = Placed version puts
kept_in n came (Gathering key g awaited) = Gathering key (with_came g came) (without_number n awaited)

-- the client after a change
abbrev pub changed : Client → Change → Client
changed client (Runs calls round running) = record client { calls = calls; round = round; running = running }
changed client (CountsAre n counts) = record client { running = option_map (counted_in n counts) client.running }
changed client (Keeps n came) = record client { running = option_map (kept_in n came) client.running }

abbrev pub CanKeepIn : Running → CameAt → Type 0
CanKeepIn (Storing run puts) came = Unit {0}
CanKeepIn (Asking run puts) came = Unit {0}
CanKeepIn (Placed version puts) came = Unit {0}
CanKeepIn (Gathering key g awaited) came = CanKeep g came

abbrev pub CanKeepIf : Option Running → CameAt → Type 0
CanKeepIf None came = Unit {0}
CanKeepIf (Some running) came = CanKeepIn running came

-- the change may be made: what came of a fragment is one that the gathering waits for
abbrev pub CanChange : Client → Change → Type 0
CanChange client (Runs calls round running) = Unit {0}
CanChange client (CountsAre n counts) = Unit {0}
CanChange client (Keeps n came) = CanKeepIf client.running came
