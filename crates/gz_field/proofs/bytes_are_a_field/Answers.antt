use Rattle.std.specs.Int.Bits.{xor_assoc, xor_self, xor_zero_r}
use Rattle.std.proofs.lemmas.Nat.{xor_comm, xor_lt}
use Rattle.gz_field.proofs.bytes_are_a_field.Goals as goal
use Rattle.gz_field.proofs.Algebra.{product-lt, product-comm, product-assoc, product-one, product-sum}
use Rattle.gz_field.proofs.Inverse.{inverse, inverse-lt, product-inverse}

pub returns : goal.returns
returns c = record {
  sum_is_byte = xor_lt 8;
  product_is_byte = λ a b _ B. product-lt a b B;
  sum_commutes = xor_comm;
  sum_associates = xor_assoc;
  sum_with_zero = xor_zero_r;
  opposite = xor_self;
  product_commutes = product-comm;
  product_associates = product-assoc;
  product_with_one = product-one;
  distributes = product-sum;
  inverse = λ a A nonzero. (inverse a, inverse-lt a A, product-inverse a A nonzero);
}
