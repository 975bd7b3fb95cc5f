use Rattle.std.proofs.Common.{arith}
use Rattle.gz_field.proofs.powers_of_two_reach_all.Goals as goal
use Rattle.gz_field.proofs.Powers.{power_reaches, power-255}

pub returns : goal.returns
returns c = record { reaches = λ a A nonzero. power_reaches a (omega arith) A; returns = power-255 }
