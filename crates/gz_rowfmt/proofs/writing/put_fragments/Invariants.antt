use Rattle.std.proofs.Common.{◌≡◌, ◌++◌, take}
use Rattle.std.specs.List.{AllByRecursion, flat_map}
use Rattle.gz_rowfmt.specs.Records.{IsFragRef}
use Rattle.gz_rowfmt.specs.Spelling.{fragment_bytes}
use Rattle.gz_rowfmt.proofs.writing.put_fragments.Given as goal

abbrev pub invariant-loop-fragment : goal.invariant-loop-fragment
invariant-loop-fragment l =
    (l.out.items ≡ l.fn.out.items ++ flat_map fragment_bytes (take l.fragment-index l.fragments))
    × AllByRecursion IsFragRef (take l.fragment-index l.fragments)
