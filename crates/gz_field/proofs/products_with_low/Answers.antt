use Rattle.std.proofs.Common.{arith}
use Rattle.gz_field.proofs.Entries.{low_row}
use Rattle.gz_field.proofs.products_with_low.Goals as goal

pub returns-clause-products : goal.returns-clause-products
returns-clause-products c k l = low_row c.args.a c.from-row.result k c.from-row.ensures (omega arith) l
