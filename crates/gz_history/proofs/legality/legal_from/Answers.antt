use Rattle.gz_history.proofs.Legalities.{legal_if}
use Rattle.gz_history.proofs.legality.legal_from.Goals as goal

pub returns-clause-legal : goal.returns-clause-legal
returns-clause-legal c =
    legal_if c.args.calls.now c.each_asked.result c.requires.history c.in_ok-each_two.ensures.kept c.in_ok-each_two-2.ensures.kept c.in_ok-each_two-3.ensures.kept c.in_ok-each_source.ensures.kept c.in_ok-each_return.ensures.kept c.each_asked.ensures.kept
