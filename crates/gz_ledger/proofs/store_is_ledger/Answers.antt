use Rattle.gz_ledger.proofs.Stores.{transitions_are_moves, tags_name_rows}
use Rattle.gz_ledger.proofs.store_is_ledger.Goals as goal

pub returns-clause-moves : goal.returns-clause-moves
returns-clause-moves c = transitions_are_moves

pub returns-clause-tags : goal.returns-clause-tags
returns-clause-tags c = tags_name_rows
