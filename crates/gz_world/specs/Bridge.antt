-- The state of a world of the program, given the traces of its sessions.
use Rattle.std.specs.Prelude.{ℕ, Bool, false, List, length, map, Option, option_map, unwrap_or}
use Rattle.gz_core.specs.History.{Trace}
use Rattle.gz_site.specs.Told.{Told}
use Rattle.gz_site.specs.Many.{told_at}
use Rattle.gz_world.specs.States.{State, numbered, request_of}
use Rattle.gz_world.specs.declared.world.Member.{Member}
use Rattle.gz_world.specs.declared.world.World.{World}

-- whether a session has crashed
abbrev pub crashed_in : List Member → ℕ → Bool
crashed_in members session = unwrap_or (option_map (λ (m : Member). m.crashed) (numbered members session)) false

abbrev pub state_of : {S : Type 0} → (S → Option Told) → (ℕ → List Trace) → World S → State
state_of told traces w = record {
  cfg = w.cfg;
  sites = told_at told w.sites.items;
  sessions = length w.clients.items;
  crashed = crashed_in w.clients.items;
  traces = traces;
  net = map request_of w.net.items;
  journal = w.journal.items;
  casts = w.casts.list.items;
  calls = w.calls.items;
  held = w.held;
}
