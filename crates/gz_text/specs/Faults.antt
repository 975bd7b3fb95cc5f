-- What is wrong with a line.
use Rattle.std.specs.Prelude.{ℕ, ◌-◌, ◌^◌, min, Option, Some, None, Result, Ok, Err}
use Rattle.gz_core.specs.declared.texts.TextError.{TextError}
use Rattle.gz_core.specs.declared.texts.TextError.TheVariants as errors
use Rattle.gz_core.specs.declared.texts.Why.{Why}
use Rattle.gz_text.specs.declared.faults.Fault.{Fault}
use Rattle.gz_text.specs.declared.faults.Fault.TheVariants.{Bad, TooLong}

-- the error of a text whose line has this fault
abbrev pub error_at : ℕ → Fault → TextError
error_at line (Bad why) = errors.Bad line why
error_at line TooLong = errors.TooLong line

-- what follows from a field that was read, unless it has a fault
abbrev pub with : {A B : Type 0} → Result A Fault → (A → Result B Fault) → Result B Fault
with (Ok value) next = next value
with (Err fault) next = Err fault

-- the value, or a fault of this word
abbrev pub or_bad : {A : Type 0} → Why → Option A → Result A Fault
or_bad why None = Err (Bad why)
or_bad why (Some value) = Ok value

-- the number that is told of a line: its own, or the greatest of 32 bits where it is above that
abbrev pub told_number : ℕ → ℕ
told_number line = min line (2 ^ 32 - 1)
