use Rattle.std.proofs.Common.{◌≡◌, ◌++◌, take}
use Rattle.std.specs.Prelude.{flat_map}
use Rattle.std.specs.String.{string_bytes}
use Rattle.gz_show.specs.Texts.{fragment_ref_text}
use Rattle.gz_show.proofs.rows.put_fragments.Given as goal

abbrev pub invariant-loop-fragment : goal.invariant-loop-fragment
invariant-loop-fragment l = string_bytes l.text ≡ string_bytes l.fn.text ++ flat_map fragment_ref_text (take l.fragment-index l.fragments)
