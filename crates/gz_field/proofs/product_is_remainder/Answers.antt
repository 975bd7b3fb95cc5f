use Rattle.gz_field.proofs.product_is_remainder.Goals as goal
use Rattle.gz_field.proofs.Remainder as remainder

pub returns : goal.returns
returns c = remainder.product_is_remainder
