use Rattle.gz_data.proofs.Digests.{own_is_put}
use Rattle.gz_data.proofs.Whole.{object_from_whole}
use Rattle.gz_data.proofs.whole_pieces_give_object.Goals as goal

pub returns : goal.returns
returns c config name key object x pieces bytes fits own came rebuilt =
    object_from_whole config name key object x pieces bytes fits (own_is_put config name key object x own) came rebuilt
