use Rattle.std.proofs.Common.{ap, subst, ◌∙◌, arith}
use Rattle.gz_fragfmt.specs.Fragments.{parts_at}
use Rattle.gz_fragfmt.specs.Reading.{Gives, fragment_in}
use Rattle.gz_fragfmt.proofs.Records.{is_found, fragment_again}
use Rattle.gz_fragfmt.proofs.reading.read_fragment.Goals as goal

pub returns-clause-found : goal.returns-clause-found
returns-clause-found c = is_found c.args.bytes.now c.parts_of.result (λ i. omega (arith, c.type_inv.bytes i)) c.parts_of.ensures

pub returns-clause-only : goal.returns-clause-only
returns-clause-only c = λ f is e. subst (λ read. Gives parts_at c.parts_of.result read) (ap fragment_in e ∙ fragment_again f is) c.parts_of.ensures
