use Rattle.gz_laws.proofs.ByPieces.{by_pieces}
use Rattle.gz_laws.proofs.data_laws.gets_answer_by_pieces.Goals as goal

pub returns : goal.returns
returns c = by_pieces
