-- The number with which the program ends.
use Rattle.std.specs.Prelude.{ℕ}
use Rattle.gz_cli.specs.declared.status.Status.{Status}
use Rattle.gz_cli.specs.declared.status.Status.TheVariants.{Done, NotLegal, Usage, ShelfFault, NoFile, FileTooLarge, BadConfig, BadText, TooLong, Full, BadRecord, SinkFault, NoMemory}

-- the program's exit status, by how a run ends
abbrev pub exit_number : Status → ℕ
exit_number Done = 0
exit_number (NotLegal clause a b) = 1
exit_number Usage = 2
exit_number (ShelfFault name) = 3
exit_number (NoFile name) = 4
exit_number (FileTooLarge name) = 5
exit_number (BadConfig why) = 6
exit_number (BadText line why) = 7
exit_number (TooLong line) = 8
exit_number (Full events held) = 9
exit_number (BadRecord at why) = 10
exit_number SinkFault = 11
exit_number NoMemory = 12
