use Rattle.std.proofs.Common.{sym, ◌∙◌}
use Rattle.gz_words.proofs.Texts.{same_texts}
use Rattle.gz_words.proofs.read.are_same.Goals as goal

pub returns : goal.returns
returns c = λ t. same_texts c.args.read.now c.args.words.now (sym c.eq.ensures ∙ t)
