use Rattle.std.proofs.Common.{ap, sym, ◌∙◌, length, slice_index, ◌+◌}
use Rattle.gz_field.specs.Field.{product}
use Rattle.gz_lanes.specs.Combination.{contents, column, sum_below}
use Rattle.gz_lanes.proofs.Differences.{combined_below_one}
use Rattle.gz_lanes.proofs.vector.begin.Goals as goal

pub returns : goal.returns
returns c =
    let row = c.args.row.now in
    let t = sum_below (length row) (slice_index row) in
    record {
      long = c.times_total.ensures.long;
      each = λ k l.
          c.times_total.ensures.each k l
          ∙ ap (product t) (c.requires.base_is.each k l)
          ∙ sym (combined_below_one row (column (contents c.args.sources.now) (c.args.at + k)));
    }
