-- What each event keeps, lines keep that were played to their end or in part.
use Rattle.std.proofs.Common.{List, inl, inr}
use Rattle.gz_world.specs.States.{State}
use Rattle.gz_lines.specs.declared.line.Line.{Line}
use Rattle.gz_script.proofs.Keeping.{IsKept, lines_keep, lines_part_keep}
use Rattle.gz_cli.specs.Worlds.{PlaysSome}

pub some_lines : (P : State → Type 0) → IsKept P → (ls : List Line) (old new : State) → PlaysSome ls old new → P old → P new
some_lines P kept ls old new (inl whole) p = lines_keep P kept ls old new whole p
some_lines P kept ls old new (inr broken) p = lines_part_keep P kept broken.0 ls old new broken.1 p
