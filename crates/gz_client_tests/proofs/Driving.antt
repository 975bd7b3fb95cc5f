-- A client that is driven by hand stands for some traces of its session.
use Rattle.std.proofs.Common.{◌≡◌, ◌==◌, ℕ, ◌+◌, Bool, true, List, ◌∷◌, length, sym, ◌∙◌, arith}
use Rattle.std.specs.Prelude.{nat_lt}
use Rattle.gz_core.specs.declared.requests.Turn.{Turn}
use Rattle.gz_core.specs.History.{Asked, Action, Trace, turned}
use Rattle.gz_client.specs.declared.client.Client.{Client}
use Rattle.gz_client.specs.Traces.{Holds, CanLearn, Extends, live}
use Rattle.gz_client_tests.specs.Holding.{IsHeld}
use Rattle.gz_client.proofs.Holding.{can_be_told}
use Rattle.gz_client.proofs.LiveRequests.{live_when}

-- a client may learn of a request that it awaits, by its own word
pub told_when : (client : Client) (n first calls : ℕ) (awaits : Bool) → IsHeld client calls first → ((next : ℕ) (ts : List Trace) → Holds client next ts → awaits ≡ nat_lt 0 (live client.config (λ m. m == n) ts)) → awaits ≡ true → CanLearn client n first
told_when client n first calls awaits held word e =
    can_be_told client n first held.0 held.1 held.2 (live_when client held.0 held.1 n held.2 (sym (word held.0 held.1 held.2) ∙ e)) held.3

-- it is held after it learnt of a request
pub held_told : (old new : Client) (n first calls after : ℕ) (action : Asked → Action) (turn : Turn) → IsHeld old calls first → CanLearn old n first → Extends old new n first action turn → after ≡ first + length turn.send → IsHeld new calls after
held_told old new n first calls after action turn held told extends e =
    let later = extends told.0 told.1 told.2 told.3 told.4 told.5 told.6 in
    let most = held.4 in
    let count = held.2.calls_are in
    let same = told.4.calls_are in
    (first + length turn.send, turned first turn (action told.3) later.0 told.1 ∷ told.2, later.2, omega arith, omega arith)
