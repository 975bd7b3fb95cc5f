use Rattle.gz_logs.proofs.Histories.{parses_history}
use Rattle.gz_logs.proofs.reader.parse_log.Goals as goal

pub returns-in-Ok-clause-history : goal.returns-in-Ok-clause-history
returns-in-Ok-clause-history c = parses_history c.args.bytes.now c.in-Ok.read c.in-Ok.ensures
