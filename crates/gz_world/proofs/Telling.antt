-- A live request is one that the running call awaits, as its client knows it.
use Rattle.std.proofs.Common.{◌≡◌, ℕ, List, [], ◌∷◌, Some, None, Bool, true, false, refl}
use Rattle.std.specs.Prelude.{Option, not, is_some, if◌then◌else◌}
use Rattle.gz_core.specs.History.{Asked, Trace}
use Rattle.gz_client.specs.declared.client.Client.{Client}
use Rattle.gz_client.specs.Traces.{Holds, IsAwaited}
use Rattle.gz_client.proofs.LiveRequests.{live_when}
use Rattle.gz_world.specs.States.{RequestAt, State}
use Rattle.gz_world.specs.Refusals.{is_live, request_refusal}
use Rattle.gz_world.specs.declared.events.Skip.{Skip}
use Rattle.gz_world.specs.declared.events.Skip.TheVariants as skips

-- a live request is awaited by the newest call of its session
pub live_found : (client : Client) (next : ℕ) (ts : List Trace) (n : ℕ) → Holds client next ts → is_live client.config ts n ≡ true → (t : Trace) × ((earlier : List Trace) × ((a : Asked) × ((ts ≡ t ∷ earlier) × IsAwaited client.config t a n)))
live_found client next [] n h l = absurd (live_when client next [] n h l)
live_found client next (t ∷ ts) n h l = let f = live_when client next (t ∷ ts) n h l in (t, (ts, (f.0, (refl, f.1))))

-- a test that must fail
pub unless : (b : Bool) (why : Skip) (o : Option Skip) → (if b then Some why else o) ≡ None → (b ≡ false) × (o ≡ None)
unless true why o h = cc
unless false why o h = (refl, h)

pub not_false : (b : Bool) → not b ≡ false → b ≡ true
not_false true h = refl
not_false false h = cc

-- what holds of a request of which its client may learn
pub may_be_told : (s : State) (n : ℕ) (r : RequestAt) → request_refusal s n (Some r) ≡ None → is_live s.cfg (s.traces r.name.session) n ≡ true
may_be_told s n r h =
    let a = unless (s.crashed r.name.session) skips.Crashed _ h in
    let b = unless (is_some r.given_up) skips.GivenUp _ a.1 in
    let c = unless (not (is_live s.cfg (s.traces r.name.session) n)) skips.NotLive None b.1 in
    not_false (is_live s.cfg (s.traces r.name.session) n) c.0
