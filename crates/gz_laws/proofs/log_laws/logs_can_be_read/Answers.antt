use Rattle.std.proofs.Common.{length}
use Rattle.gz_logs.proofs.Written.{written_is_read}
use Rattle.gz_laws.proofs.LogFits.{log_fits}
use Rattle.gz_laws.proofs.log_laws.logs_can_be_read.Goals as goal

pub returns-clause-fits : goal.returns-clause-fits
returns-clause-fits c = log_fits

pub returns-clause-read : goal.returns-clause-read
returns-clause-read c = λ s skipped reached tells bounded typed low. written_is_read s.calls (length s.journal) skipped (log_fits s skipped reached tells bounded typed low)
