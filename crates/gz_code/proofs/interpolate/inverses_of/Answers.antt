use Rattle.std.proofs.Common.{◌∙◌, sym, length, slice_index}
use Rattle.gz_code.proofs.Interpolation.{span_nonzero}
use Rattle.gz_code.proofs.interpolate.inverses_of.Goals as goal

pub inv-requires : goal.inv-requires
inv-requires c e =
    span_nonzero (length c.args.points.now) (slice_index c.args.points.now) c.requires.points c.loop-j.j c.loop-j-test.true (sym c.product_of_differences.ensures ∙ e)
