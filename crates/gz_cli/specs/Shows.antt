-- What is written of a record that is shown.
use Rattle.std.specs.Prelude.{ℕ, List}
use Rattle.gz_words.specs.declared.command.Record.{Record}
use Rattle.gz_cli.specs.Inputs.{Files, LoadsRecord}

-- the file is a record of this kind, and its lines were written, as far as is said
abbrev pub Shows : Files → Record → List ℕ → (List ℕ → Type 0) → Type 0
Shows files kind name Written = (text : List ℕ) × (LoadsRecord files kind name text × Written text)
