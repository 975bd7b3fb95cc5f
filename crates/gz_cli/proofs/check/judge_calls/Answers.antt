use Rattle.gz_cli.proofs.check.judge_calls.Goals as goal

pub returns-in-Err-clause-cause : goal.returns-in-Err-clause-cause
returns-in-Err-clause-cause g c = rw c.not_legal.ensures c.in-Err.ensures.broken
