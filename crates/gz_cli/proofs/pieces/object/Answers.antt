use Rattle.gz_cli.proofs.CodeLemmas.{no-memory}
use Rattle.gz_cli.proofs.pieces.object.Goals as goal

pub no_memory-requires : goal.no_memory-requires
no_memory-requires c = no-memory c.args.digits.now c.in-Err.error c.requires c.in-Err.ensures.err
