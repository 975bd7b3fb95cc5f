-- What a client learns of a request for a fragment that its running call stores.
use Rattle.std.proofs.Common.{◌≡◌, ℕ, ◌+◌, ◌<◌, ◌^◌, true, List, [], ◌∷◌, Option, Some, None, option_map, refl, sym, ap, subst}
use Rattle.std.specs.List.{Contains, list_any}
use Rattle.gz_config.specs.declared.Config.{Config}
use Rattle.gz_core.specs.Awaiting.{awaiting, without_rows}
use Rattle.gz_core.specs.declared.requests.Reply.{Reply}
use Rattle.gz_core.specs.History.{Asked, Action, Caller, Trace}
use Rattle.gz_data.specs.Blobs.{is_put_blob}
use Rattle.gz_data.specs.Requests.{is_numbered}
use Rattle.gz_data.specs.Storing.{IsCountOf}
use Rattle.gz_data.specs.declared.storing.Storing.{Storing as Counts}
use Rattle.gz_round.specs.declared.run.Run.{Run}
use Rattle.gz_round.proofs.Blobs.{blobs_site}
use Rattle.gz_client.specs.Changes.{changed, counted, counted_in}
use Rattle.gz_client.specs.Running.{AsksForRows, PutsStand, StandsFor}
use Rattle.gz_client.specs.Traces.{CanLearn, Holds, IsAwaited, told_of}
use Rattle.gz_client.specs.Turning.{HasCountedFirst, HasCountedLast, StandsOrEnds, TurnsBy}
use Rattle.gz_client.specs.declared.client.Client.{Client}
use Rattle.gz_client.specs.declared.running.Change.TheVariants.{Counts as CountsAre}
use Rattle.gz_client.specs.declared.running.Puts.{Puts}
use Rattle.gz_client.specs.declared.running.Running.{Running}
use Rattle.gz_client.specs.declared.running.Running.TheVariants.{Storing, Asking, Placed}
use Rattle.gz_client.proofs.Extending.{told_round, turns_quietly}
use Rattle.gz_client.proofs.Holding.{run_held}
use Rattle.gz_client.proofs.Listed.{awaits_listed}
use Rattle.gz_client.proofs.Puts.{blob_is_put}
use Rattle.gz_client.proofs.Telling.{blob_awaited, counts_low, numbered_blob, tells_asking, tells_first, tells_last}

-- the counters are those after what was told of a request that stores a fragment
abbrev pub CountsBy : Option Reply → Counts → Counts → Type 0
CountsBy o old new = (n : ℕ) (ms : List Action) (a : Asked) → is_put_blob a.op ≡ true → IsCountOf ms old → IsCountOf (told_of n o a ∷ ms) new

-- a put that stores its fragments first learns of one
pub storing_told : (client : Client) (run : Run) (puts : Puts) (counts : Counts) (n next : ℕ) (o : Option Reply) (t : Trace) (ts : List Trace) (a : Asked)
    → client.running ≡ Some (Storing run puts) → CountsBy o puts.counts counts → Holds client next (t ∷ ts) → IsAwaited client.config t a n
    → HasCountedFirst client.config t.caller ts run (counted n counts puts) (told_of client.config.n o a ∷ t.actions)
storing_told client run puts counts n next o t ts a e by h awaited =
    let c : Config = client.config in
    let k = run_held client next t ts (Storing run puts) e h in
    let i : Contains (without_rows (awaiting t.actions)) a = blob_awaited c t.actions a (λ s. ap (λ now. now.awaits) (blobs_site t.actions s k.stands.only)) awaited.awaits in
    let count = by c.n t.actions a (blob_is_put c t.caller puts t.actions a k.stands.fragments i) k.stands.fragments.counts in
    subst (λ (m : ℕ). HasCountedFirst c t.caller ts run (counted m counts puts) (told_of c.n o a ∷ t.actions)) awaited.number_is
    (tells_first c t.caller ts run puts counts o a t.actions i count k.stands)

-- a put that is chosen does
pub placed_told : (client : Client) (version : ℕ) (puts : Puts) (counts : Counts) (n next : ℕ) (o : Option Reply) (t : Trace) (ts : List Trace) (a : Asked)
    → client.running ≡ Some (Placed version puts) → CountsBy o puts.counts counts → Holds client next (t ∷ ts) → IsAwaited client.config t a n
    → HasCountedLast client.config t.caller ts version (counted n counts puts) (told_of client.config.n o a ∷ t.actions)
placed_told client version puts counts n next o t ts a e by h awaited =
    let c : Config = client.config in
    let k = run_held client next t ts (Placed version puts) e h in
    let i : Contains (without_rows (awaiting t.actions)) a = blob_awaited c t.actions a k.stands.rows.rests awaited.awaits in
    let count = by c.n t.actions a (blob_is_put c t.caller puts t.actions a k.stands.fragments i) k.stands.fragments.counts in
    subst (λ (m : ℕ). HasCountedLast c t.caller ts version (counted m counts puts) (told_of c.n o a ∷ t.actions)) awaited.number_is
    (tells_last c t.caller ts version puts counts o a t.actions i count k.stands)

-- a call that asks for rows does, and goes on
pub asking_told : (client : Client) (run : Run) (puts : Puts) (counts : Counts) (n next first : ℕ) (o : Option Reply) (t : Trace) (ts : List Trace) (a : Asked)
    → client.running ≡ Some (Asking run puts) → list_any (is_numbered n) puts.awaited ≡ true → CountsBy o puts.counts counts → Holds client next (t ∷ ts) → IsAwaited client.config t a n
    → TurnsBy client (changed client (CountsAre n counts)) first (record { send = []; answer = None }) t.caller ts (told_of client.config.n o a ∷ t.actions)
asking_told client run puts counts n next first o t ts a e any by h awaited =
    let c : Config = client.config in
    let m : Action = told_of c.n o a in
    let k = run_held client next t ts (Asking run puts) e h in
    let told = h.told in
    let i : Contains (without_rows (awaiting t.actions)) a = numbered_blob n puts.awaited t.actions a told.0.in_turn (awaits_listed c t.actions a told.0.in_turn awaited.awaits) awaited.number_is k.stands.fragments.awaited_is any in
    let count = by c.n t.actions a (blob_is_put c t.caller puts t.actions a k.stands.fragments i) k.stands.fragments.counts in
    let stands : AsksForRows c t.caller ts run (counted n counts puts) (m ∷ t.actions) =
    subst (λ (j : ℕ). AsksForRows c t.caller ts run (counted j counts puts) (m ∷ t.actions)) awaited.number_is (tells_asking c t.caller ts run puts counts o a t.actions i count k.stands) in
    turns_quietly client (changed client (CountsAre n counts)) first None t.caller ts (m ∷ t.actions) refl refl refl (told_round client next c.n o a t ts h)
    (subst (λ (r : Option Running). StandsOrEnds c t.caller ts (option_map (counted_in n counts) r) (m ∷ t.actions) None) (sym e) stands) (λ row. stands.runs.again)

-- the counters of a running call have room
pub counts_room : (client : Client) (running : Running) (puts : Puts) (n first : ℕ) → client.running ≡ Some running → ((w : Caller) (past : List Trace) (ms : List Action) → StandsFor client.config w past running ms → PutsStand client.config w puts ms)
    → CanLearn client n first → puts.counts.stored + puts.counts.lost + 1 < 2 ^ 32
counts_room client running puts n first e fragments k =
    let told = k.4.told in
    let held = run_held client k.0 k.1 k.2 running e k.4 in
    counts_low client.config k.1.caller puts k.1.actions k.4.sizes told.0.in_turn told.0.blobs (fragments k.1.caller k.2 k.1.actions held.stands)
