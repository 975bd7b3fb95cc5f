use Rattle.std.proofs.Common.{Ok, sym, ap, ◌∙◌}
use Rattle.gz_show.specs.Shown.{text_of_fragment}
use Rattle.gz_show.proofs.fragments.show_fragment.Goals as goal

pub returns-clause-exact : goal.returns-clause-exact
returns-clause-exact c = ap text_of_fragment c.in_ok-fragment.ensures.exact ∙ ap Ok (sym c.in_ok-fragment_text.ensures)
