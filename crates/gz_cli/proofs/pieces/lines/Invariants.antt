use Rattle.std.proofs.Common.{◌≡◌, map, take}
use Rattle.std.specs.String.{string_bytes}
use Rattle.gz_cli.specs.Codes.{lines_from}
use Rattle.gz_cli.proofs.pieces.lines.Given as goal

abbrev pub invariant-loop-index : goal.invariant-loop-index
invariant-loop-index l = string_bytes l.text ≡ lines_from 0 (map (λ piece. piece.items) (take l.index l.pieces))
