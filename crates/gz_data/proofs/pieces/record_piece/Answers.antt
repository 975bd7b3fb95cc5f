use Rattle.std.proofs.Common.{sym, ◌∙◌}
use Rattle.gz_fragfmt.specs.Fragments.{parts_at}
use Rattle.gz_data.proofs.Records.{none_of_refused, none_of_other, piece_of_same}
use Rattle.gz_data.proofs.pieces.record_piece.Goals as goal

pub returns-in-Err : goal.returns-in-Err
returns-in-Err c = sym (none_of_refused (parts_at c.args.header.now) c.args.bytes.now c.in-Err.field-0 c.requires c.in-Err.ensures.only)

pub returns-then-have_same_header : goal.returns-then-have_same_header
returns-then-have_same_header c =
    let found = c.in-Ok.ensures.found in
    sym (piece_of_same (parts_at c.args.header.now) c.args.bytes.now c.in-Ok.parts found.0 found.1 (sym c.have_same_header.ensures ∙ c.if-have_same_header.true))

pub returns-else-have_same_header : goal.returns-else-have_same_header
returns-else-have_same_header c =
    sym (none_of_other (parts_at c.args.header.now) c.args.bytes.now c.in-Ok.parts c.requires c.in-Ok.ensures.only (sym c.have_same_header.ensures ∙ c.if-have_same_header.false))
