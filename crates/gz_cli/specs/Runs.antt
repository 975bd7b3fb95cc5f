-- What a run leaves and writes.
use Rattle.std.specs.Prelude.{ℕ, ◌⊎◌, ◌≡◌, ◌++◌, List, Option, Some, None, option_map}
use Rattle.gz_config.specs.declared.Config.{Config}
use Rattle.gz_site.specs.Told.{Told}
use Rattle.gz_site.specs.Files.{IsSomePart}
use Rattle.gz_script.specs.Plays.{Plays, PlaysInPart}
use Rattle.gz_lines.specs.declared.line.Line.{Line}
use Rattle.gz_words.specs.Words.{Task, replay, check, show, code}
use Rattle.gz_world.specs.States.{State}
use Rattle.gz_world.specs.declared.events.ApplyError.TheVariants as applying
use Rattle.gz_world.specs.declared.world.World.{World}
use Rattle.gz_cli.specs.declared.bench.Bench.{Bench}
use Rattle.gz_cli.specs.Checks.{Checks}
use Rattle.gz_cli.specs.Codes.{Codes}
use Rattle.gz_cli.specs.Inputs.{Files, Configures, Loads}
use Rattle.gz_cli.specs.Shows.{Shows}
use Rattle.gz_cli.specs.Worlds.{Leaves, IsFilled, log_of_world}

-- the words ask for a code
abbrev pub IsCode : Option Task → Type 0
IsCode None = ⊥
IsCode (Some (replay schedule config)) = ⊥
IsCode (Some (check log)) = ⊥
IsCode (Some (show kind file)) = ⊥
IsCode (Some (code k m digits)) = Unit {0}

-- the words ask for the check of a log, or for a record to be shown
abbrev pub OnlyReads : Option Task → Type 0
OnlyReads None = ⊥
OnlyReads (Some (replay schedule config)) = ⊥
OnlyReads (Some (check log)) = Unit {0}
OnlyReads (Some (show kind file)) = Unit {0}
OnlyReads (Some (code k m digits)) = ⊥

-- the whole of an output was written
abbrev pub Whole : Option (List ℕ) → List ℕ → Option (List ℕ) → Type 0
Whole before log after = after ≡ option_map (λ b. b ++ log) before

-- a configuration was given and the file was loaded, and a world under this configuration is left in which the lines were played so and of
-- which this holds
abbrev pub Replays : {S : Type 0} → (S → Option Told) → (List Line → State → State → Type 0) → Files → List ℕ → Option (List ℕ) → List S → Option (World S) → (World S → Type 0) → Type 0
Replays told Change files schedule config sites left Holds =
    (cfg : Config) × (Configures files config cfg × ((lines : List Line) × (Loads files schedule lines × Leaves cfg told sites (Change lines) left Holds)))

-- what the words ask for was done: the file was played and the log of its world written, the file is a legal log and the number of its
-- calls was written, the file is a record and its lines were written, or the text of the pieces was written
abbrev pub WritesOutput : {S : Type 0} → (S → Option Told) → Option Task → Files → List S → Option (World S) → (List ℕ → Type 0) → Type 0
WritesOutput told None files sites left Written = ⊥
WritesOutput told (Some (replay schedule config)) files sites left Written = Replays told Plays files schedule config sites left (λ w. Written (log_of_world w))
WritesOutput told (Some (check log)) files sites left Written = Checks files log Written
WritesOutput told (Some (show kind file)) files sites left Written = Shows files kind file Written
WritesOutput told (Some (code k m digits)) files sites left Written = Codes k m digits Written

-- the lines were played up to an event that the world that is left refused, since it was full
abbrev pub FillsUp : {S : Type 0} → (S → Option Told) → Files → List ℕ → Option (List ℕ) → List S → Option (World S) → ℕ → ℕ → Type 0
FillsUp told files schedule config sites left events held = Replays told (PlaysInPart applying.Full) files schedule config sites left (IsFilled events held)

-- the same for what the words ask for
abbrev pub Fills : {S : Type 0} → (S → Option Told) → Option Task → Files → List S → Option (World S) → ℕ → ℕ → Type 0
Fills told None files sites left events held = ⊥
Fills told (Some (replay schedule config)) files sites left events held = FillsUp told files schedule config sites left events held
Fills told (Some (check log)) files sites left events held = ⊥
Fills told (Some (show kind file)) files sites left events held = ⊥
Fills told (Some (code k m digits)) files sites left events held = ⊥

-- the bench is as it was, and nothing was written
abbrev pub IsUntouched : {S : Type 0} → Bench S → Bench S → Option (List ℕ) → Option (List ℕ) → Type 0
IsUntouched old new before after = (new ≡ old) × (after ≡ before)

-- where memory ran out, all is as it was; or the lines were played in part and nothing was written; or they were played to their end and a
-- first part of the log was written
abbrev pub IsCutShort : {S : Type 0} → (S → Option Told) → Files → List ℕ → Option (List ℕ) → Bench S → Bench S → Option (List ℕ) → Option (List ℕ) → Type 0
IsCutShort told files schedule config old new before after =
    IsUntouched old new before after
    ⊎ (Replays told (PlaysInPart applying.NoMemory) files schedule config old.sites.items new.world (λ w. after ≡ before)
    ⊎ Replays told Plays files schedule config old.sites.items new.world (λ w. IsSomePart before (log_of_world w) after))

-- the same for what the words ask for
abbrev pub IsRunCut : {S : Type 0} → (S → Option Told) → Option Task → Files → Bench S → Bench S → Option (List ℕ) → Option (List ℕ) → Type 0
IsRunCut told None files old new before after = IsUntouched old new before after
IsRunCut told (Some (replay schedule config)) files old new before after = IsCutShort told files schedule config old new before after
IsRunCut told (Some (check log)) files old new before after = (after ≡ before) ⊎ Checks files log (λ text. IsSomePart before text after)
IsRunCut told (Some (show kind file)) files old new before after = (after ≡ before) ⊎ Shows files kind file (λ text. IsSomePart before text after)
IsRunCut told (Some (code k m digits)) files old new before after = (after ≡ before) ⊎ Codes k m digits (λ text. IsSomePart before text after)
