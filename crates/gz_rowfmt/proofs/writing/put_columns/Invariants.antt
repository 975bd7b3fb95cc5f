use Rattle.std.proofs.Common.{◌≡◌, ◌++◌, take}
use Rattle.std.specs.List.{AllByRecursion, flat_map}
use Rattle.gz_rowfmt.specs.Records.{FitsColumn}
use Rattle.gz_rowfmt.specs.Spelling.{column_bytes}
use Rattle.gz_rowfmt.proofs.writing.put_columns.Given as goal

abbrev pub invariant-loop-column : goal.invariant-loop-column
invariant-loop-column l =
    (l.out.items ≡ l.fn.out.items ++ flat_map column_bytes (take l.column-index l.columns))
    × AllByRecursion FitsColumn (take l.column-index l.columns)
