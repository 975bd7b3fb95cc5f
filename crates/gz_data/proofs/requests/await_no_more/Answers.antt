use Rattle.std.proofs.Common.{rules}
use Rattle.std.specs.Prelude.{◌==◌, not}
use Rattle.std.proofs.lemmas.Fn.{filter_same}
use Rattle.gz_data.proofs.requests.await_no_more.Goals as goal

pub returns : goal.returns
returns c = filter_same _ (λ blob. not (blob.number == c.args.n)) _ (λ blob keeps f k. search rules) _ _ c.retain.ensures
