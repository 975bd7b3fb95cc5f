use Rattle.std.proofs.Common.{ℕ, ◌-◌, List, Option, length, take, drop, ap, ◌∙◌}
use Rattle.gz_site.specs.Files.{upto}
use Rattle.gz_site.proofs.Upto.{upto-upto}
use Rattle.gz_site.proofs.sinks.write_next.Goals as goal

pub returns-clause-ok : goal.returns-clause-ok
returns-clause-ok g c = λ w before.
    let bytes = c.args.bytes.now in
    let at = c.args.at in
    let taken = c.in_ok-taken.taken in
    c.in_ok-taken.ensures.ok ∙ ap (λ (x : Option (List ℕ)). upto x (take (length bytes - at) (drop at bytes)) taken) before ∙ upto-upto w bytes at taken
