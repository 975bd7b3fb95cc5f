use Rattle.std.proofs.Common.{arith, length, ◌+◌, ◌<◌, [], ◌∷◌, ◌++◌, refl}
use Rattle.gz_lanes.specs.Combination.{contents}
use Rattle.gz_lanes.proofs.Products.{pieces_more}
use Rattle.gz_lanes.proofs.pieces.add_four.Goals as goal

pub returns-clause-pieces : goal.returns-clause-pieces
returns-clause-pieces c =
    let rows = c.args.rows.now in
    let sources = contents c.args.sources.now in
    let width = c.args.width in
    let at = c.args.at in
    let four = c.in_ok-four.four in
    let made = c.in_ok-four.ensures in
    let room : at + 3 < length rows = omega (arith, c.requires.four) in
    let none = c.args.pieces.now.items in
    let one = none ++ (four.a ∷ []) in
    let two = one ++ (four.b ∷ []) in
    let three = two ++ (four.c ∷ []) in
    let first = pieces_more rows sources width at (at + 1) none one four.a c.index-rows-at.result c.requires.before (omega (arith, room)) c.index-rows-at.is made.pieces.first refl refl in
    let second = pieces_more rows sources width (at + 1) (at + 2) one two four.b c.index-rows-at-2.result first (omega (arith, room)) c.index-rows-at-2.is made.pieces.second refl (omega arith) in
    let third = pieces_more rows sources width (at + 2) (at + 3) two three four.c c.index-rows-at-3.result second (omega (arith, room)) c.index-rows-at-3.is made.pieces.third refl (omega arith) in
    pieces_more rows sources width (at + 3) (at + 4) three c.push_to.new.pieces.items four.d c.index-rows-at-4.result third room c.index-rows-at-4.is made.pieces.fourth c.in_ok-push_to.ensures (omega arith)
