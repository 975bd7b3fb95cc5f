-- A call ends short, for want of sites, or as contended, exactly where its counts say so; and by the fragments of the value that it
-- learnt, once it asked for one.
use Rattle.std.specs.Prelude.{◌≡◌, ◌≤◌, ◌<◌, ◌+◌, ◌↔◌, Bool, true, false, List, Option, Some, None}
use Rattle.gz_core.specs.declared.calls.Answer.{Answer}
use Rattle.gz_core.specs.declared.calls.Answer.TheVariants.{Short, Bytes, Incomplete, NoQuorum, Contended, Unsure}
use Rattle.gz_core.specs.declared.calls.UnsureWhy.TheVariants.{NoQuorum as UnsureNoQuorum, Contended as UnsureContended}
use Rattle.gz_config.specs.declared.Config.{Config}
use Rattle.gz_core.specs.History.{Action, Caller, Trace}
use Rattle.gz_data.specs.Blobs.{stored}
use Rattle.gz_round.specs.Sent.{met, voted, phase_of}
use Rattle.gz_round.specs.Counting.{outs, known_count}
use Rattle.gz_client.specs.Blobs.{has_fetched}
use Rattle.gz_client.specs.Causes.{CannotStore, IsRead, GivesBytes, GivesFates}
use Rattle.gz_client.specs.Going.{GathersFragments}
use Rattle.gz_client.specs.Traces.{KeepsRules}

-- too few sites are left, and the call was overtaken less often than it tries
abbrev pub LacksSites : Config → List Action → Type 0
LacksSites c ms = (met ms < c.tries) × (c.n < outs c ms + c.qc)

-- the answer for want of sites, by whether the call voted
abbrev pub lacking : Config → List Action → Bool → Answer
lacking c ms true = Unsure (UnsureNoQuorum (phase_of ms) (known_count c ms))
lacking c ms false = NoQuorum (phase_of ms) (known_count c ms)

-- the answer of a call that was overtaken too often, by whether it voted
abbrev pub contending : List Action → Bool → Answer
contending ms true = Unsure (UnsureContended (met ms))
contending ms false = Contended (met ms)

-- a call that asked for a fragment goes on while fewer came whole than make the object and one is awaited, and awaits no row; it
-- ends with the bytes once enough came whole, and as incomplete once none is awaited
abbrev pub EndsByPieces : Config → Caller → List Action → Option Answer → Type 0
EndsByPieces c w ms None = GathersFragments c w ms
EndsByPieces c w ms (Some (Bytes v name bytes)) = IsRead c w ms v name (GivesBytes w ms bytes)
EndsByPieces c w ms (Some (Incomplete v name fates)) = IsRead c w ms v name (GivesFates w ms fates)
EndsByPieces c w ms (Some answer) = ⊥

abbrev pub EndsExactly : Type 0
EndsExactly = (c : Config) (past : List Trace) (t : Trace) → KeepsRules c past t →
    ((t.answer ≡ Some (lacking c t.actions (voted t.caller.name t.actions))) ↔ LacksSites c t.actions)
    × ((t.answer ≡ Some (contending t.actions (voted t.caller.name t.actions))) ↔ (c.tries ≤ met t.actions))
    × ((t.answer ≡ Some (Short (stored t.actions))) ↔ CannotStore c t.caller t.actions)
    × (has_fetched t.actions ≡ true → EndsByPieces c t.caller t.actions t.answer)
