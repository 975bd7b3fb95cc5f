use Rattle.gz_rowfmt.proofs.Records.{is_read}
use Rattle.gz_rowfmt.proofs.writing.encode_row.Goals as goal

pub returns-clause-read : goal.returns-clause-read
returns-clause-read c = is_read c.args.row.now c.record_of.result c.record_of.ensures.spelled c.record_of.ensures.fits
