use Rattle.std.proofs.Common.{rules, nat_lt}
use Rattle.std.proofs.lemmas.Fn.{filter_same}
use Rattle.gz_accept.proofs.columns.keep_above.Goals as goal

pub returns : goal.returns
returns c = filter_same _ (λ column. nat_lt c.args.to column.0) _ (λ column keeps f k. search rules) _ _ c.retain.ensures
