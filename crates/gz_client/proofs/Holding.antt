-- What a client that stands for its session's traces may learn.
use Rattle.std.proofs.Common.{◌≡◌, ℕ, ◌≤◌, Bool, List, [], ◌∷◌, Option, Some, None, refl, sym, ap, subst}
use Rattle.std.proofs.lemmas.Option.{none-some}
use Rattle.gz_config.specs.declared.Config.{Config}
use Rattle.gz_core.specs.declared.calls.Answer.{Answer}
use Rattle.gz_core.specs.History.{Trace}
use Rattle.gz_client.specs.Running.{StandsFor}
use Rattle.gz_client.specs.Traces.{Holds, HoldsRun, AreOver, AreBelow, CanLearn, live, live_in, IsLive, IsLiveAtIn, IsLiveAtWhile}
use Rattle.gz_client.specs.declared.client.Client.{Client}
use Rattle.gz_client.specs.declared.running.Running.{Running}

pub idle_over : (c : Config) (next : ℕ) (running : Option Running) (ts : List Trace) → running ≡ None → HoldsRun c next running ts → AreOver ts
idle_over c next running ts e h = subst (λ r. HoldsRun c next r ts) e h

-- what is held of the running call
pub record HasRun (client : Client) (next : ℕ) (t : Trace) (ts : List Trace) (running : Running) : Type 0 where
  pub waits : t.answer ≡ None
  pub stands : StandsFor client.config t.caller ts running t.actions
  pub below : AreBelow next t.actions
  pub over : AreOver ts

pub run_held : (client : Client) (next : ℕ) (t : Trace) (ts : List Trace) (running : Running) → client.running ≡ Some running → Holds client next (t ∷ ts) → HasRun client next t ts running
run_held client next t ts running e h =
    let k : HoldsRun client.config next (Some running) (t ∷ ts) = subst (λ r. HoldsRun client.config next r (t ∷ ts)) e h.run_is in
    record { waits = k.0; stands = k.1; below = k.2; over = k.3 }

-- nothing is awaited once all calls were answered
pub live_over : (c : Config) (p : ℕ → Bool) (ts : List Trace) → AreOver ts → live c p ts ≡ 0
live_over c p [] h = refl
live_over c p (t ∷ ts) h = ap (live_in c p t) h.0.1

pub live_at_over : (c : Config) (ts : List Trace) (i : ℕ) → AreOver ts → IsLiveAtIn c ts i None
live_at_over c [] i h = refl
live_at_over c (t ∷ ts) i h = subst (IsLiveAtWhile c t i None) (sym h.0.1) refl

-- a client may learn of a request that its running call awaits
pub can_be_told : (client : Client) (n first next : ℕ) (ts : List Trace) → Holds client next ts → IsLive client.config ts n → next ≤ first → CanLearn client n first
can_be_told client n first next [] h live l = absurd live
can_be_told client n first next (t ∷ ts) h live l = (next, t, ts, live.0, h, live.1, l)

is_live_at : (c : Config) (t : Trace) (ts : List Trace) (i n : ℕ) (answer : Option Answer) → t.answer ≡ answer → IsLiveAtWhile c t i (Some n) answer → IsLive c (t ∷ ts) n
is_live_at c t ts i n None e h = (h.0.0, record { running = e; awaits = h.0.1; number_is = h.0.2 })
is_live_at c t ts i n (Some answer) e h = absurd (none-some n (sym h))

-- a number that is answered for is awaited
pub live_at_means : (c : Config) (ts : List Trace) (i n : ℕ) → IsLiveAtIn c ts i (Some n) → IsLive c ts n
live_at_means c [] i n h = absurd (none-some n (sym h))
live_at_means c (t ∷ ts) i n h = is_live_at c t ts i n t.answer refl h
