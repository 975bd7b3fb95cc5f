use Rattle.std.proofs.Common.{length, refl}
use Rattle.std.proofs.lemmas.Option.{slice_get_read}
use Rattle.gz_rowfmt.specs.Records.{FitsColumn}
use Rattle.gz_rowfmt.specs.Spelling.{column_bytes}
use Rattle.gz_rowfmt.proofs.Loops.{all_next, spelled_next}
use Rattle.gz_rowfmt.proofs.writing.put_columns.Goals as goal

pub loop-column-preserved : goal.loop-column-preserved
loop-column-preserved c =
    let there = slice_get_read c.args.columns.now (length c.args.columns.now) c.loop-column.column-index c.column-item.result refl c.loop-column-test.true c.column-item.is in (
      spelled_next column_bytes c.args.columns.now c.loop-column.column-index c.column-item.result c.args.out.now.items c.loop-column.out.items c.put_column.new.out.items there c.loop-column.invariant.0 c.in_ok-put_column.ensures.spelled,
      all_next FitsColumn c.args.columns.now c.loop-column.column-index c.column-item.result there c.loop-column.invariant.1 c.in_ok-put_column.ensures.fits,
    )
