-- What was read and played.
use Rattle.std.proofs.Common.{ℕ, ◌≡◌, List, sym, subst, refl, inl, inr}
use Rattle.std.specs.Prelude.{Option, Some, None}
use Rattle.gz_config.specs.declared.Config.{Config}
use Rattle.gz_site.specs.Told.{Told}
use Rattle.gz_lines.specs.declared.line.Line.{Line}
use Rattle.gz_words.specs.Words.{Task, replay, check, show, code}
use Rattle.gz_world.specs.States.{State}
use Rattle.gz_world.specs.declared.world.World.{World}
use Rattle.gz_cli.specs.declared.bench.Bench.{Bench}
use Rattle.gz_cli.specs.declared.status.Status.TheVariants.{NoMemory}
use Rattle.gz_cli.specs.Inputs.{Files, Configures, Loads}
use Rattle.gz_cli.specs.Causes.{Counts, RunCause}
use Rattle.gz_cli.specs.Runs.{Replays, IsRunCut}
use Rattle.gz_cli.specs.Worlds.{Leaves}

-- a world is left in which what was read was played
pub replays : {S : Type 0} (told : S → Option Told) (Change : List Line → State → State → Type 0) (files : Files) (schedule : List ℕ) (config : Option (List ℕ)) (sites : List S)
    (left : Option (World S)) (Holds : World S → Type 0) (cfg : Config) (lines read : List Line)
    → Configures files config cfg → Loads files schedule read → lines ≡ read → Leaves cfg told sites (Change lines) left Holds → Replays told Change files schedule config sites left Holds
replays told Change files schedule config sites left Holds cfg lines read given loads same leaves = (cfg, (given, (lines, (subst (λ (ls : List Line). Loads files schedule ls) (sym same) loads, leaves))))

-- want of memory while words are read is a cause, whatever the words ask for, and leaves all as it was
pub unread-cause : (task : Option Task) (files : Files) (old new : Counts) → RunCause task files old new NoMemory
unread-cause None files old new = inr refl
unread-cause (Some (replay schedule config)) files old new = tt
unread-cause (Some (check log)) files old new = tt
unread-cause (Some (show kind file)) files old new = tt
unread-cause (Some (code k m digits)) files old new = tt

pub unread-cut : {S : Type 0} (told : S → Option Told) (task : Option Task) (files : Files) (bench : Bench S) (written : Option (List ℕ)) → IsRunCut told task files bench bench written written
unread-cut told None files bench written = (refl, refl)
unread-cut told (Some (replay schedule config)) files bench written = inl (refl, refl)
unread-cut told (Some (check log)) files bench written = inl refl
unread-cut told (Some (show kind file)) files bench written = inl refl
unread-cut told (Some (code k m digits)) files bench written = inl refl
