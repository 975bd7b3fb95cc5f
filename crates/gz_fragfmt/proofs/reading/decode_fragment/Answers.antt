use Rattle.std.proofs.Common.{◌≡◌, sym, subst}
use Rattle.gz_fragfmt.specs.Fragments.{FragmentAt, IsFragment}
use Rattle.gz_fragfmt.specs.Spelling.{spelling}
use Rattle.gz_fragfmt.proofs.reading.decode_fragment.Goals as goal

pub returns-clause-found : goal.returns-clause-found
returns-clause-found c = subst (λ (f : FragmentAt). IsFragment f × (c.args.bytes.now ≡ spelling f)) (sym c.in_ok-fragment_of.ensures) c.in_ok-parts.ensures.found
