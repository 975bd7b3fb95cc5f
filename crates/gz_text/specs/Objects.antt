-- The bytes of an object.
use Rattle.std.specs.Prelude.{ℕ, nat_le, if◌then◌else◌, List, length, Result, Ok, Err}
use Rattle.gz_text.specs.declared.faults.Fault.{Fault}
use Rattle.gz_text.specs.declared.faults.Fault.TheVariants.{TooLong}

-- an object has at most 1,048,576 bytes
abbrev pub within : List ℕ → Result (List ℕ) Fault
within bytes = if nat_le (length bytes) 1048576 then Ok bytes else Err TooLong
