use Rattle.std.proofs.Common.{◌∷◌, sym, subst}
use Rattle.std.specs.Option.{option_copied}
use Rattle.gz_data.specs.Storing.{IsCountOf}
use Rattle.gz_client.specs.Traces.{told_of}
use Rattle.gz_client.proofs.running.counted.Goals as goal

pub returns-in-None : goal.returns-in-None
returns-in-None c = λ n ms a put count. subst (λ o. IsCountOf (told_of n (option_copied o) a ∷ ms) c.give_up.new.self) (sym c.in-None.is) (c.give_up.ensures ms a put count)
