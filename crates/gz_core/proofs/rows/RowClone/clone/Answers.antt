use Rattle.std.proofs.Common.{rules}
use Rattle.std.proofs.lemmas.List.Elements.{same_from_all_zip}
use Rattle.gz_core.proofs.rows.RowClone.clone.Goals as goal

pub invariant_of-result : goal.invariant_of-result
invariant_of-result c = search (rules, same_from_all_zip)

pub returns : goal.returns
returns c = search (rules, same_from_all_zip)
