use Rattle.std.proofs.Common.{◌≡◌, length, sym, subst}
use Rattle.gz_core.specs.Puts.{PutData}
use Rattle.gz_data.specs.Whole.{pieces_of, ArePieces, IsRebuilt}
use Rattle.gz_data.proofs.Joining.{only_memory, is_rebuilt}
use Rattle.gz_data.proofs.pieces.rebuild.Goals as goal

pub want_of_memory-requires : goal.want_of_memory-requires
want_of_memory-requires c =
    let given = c.args.pieces.now in
    let rules = subst (λ (x : PutData). ArePieces x (pieces_of given) × (length given ≡ x.k)) (sym c.put.view_is) (c.requires.pieces, c.requires.enough) in
    only_memory _ given c.in-Err.error rules.0 rules.1 c.in-Err.ensures.cause

pub returns-in-Ok : goal.returns-in-Ok
returns-in-Ok c =
    let given = c.args.pieces.now in
    let put = c.put.inside in
    let x : PutData = record { name = put.name; length = put.length; k = put.k; m = put.m; fragments = put.fragments } in
    subst (λ (y : PutData). IsRebuilt y.k y.m y.length (pieces_of given) c.in-Ok.bytes.items) c.put.view_is
    (is_rebuilt x given c.in-Ok.bytes.items (subst (λ (y : PutData). length given ≡ y.k) (sym c.put.view_is) c.requires.enough) c.in-Ok.ensures.decoded c.in-Ok.ensures.gives_back)
