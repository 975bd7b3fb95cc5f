use Rattle.std.proofs.Common.{◌≡◌, ◌∙◌, ℕ, length, arith, subst}
use Rattle.gz_lanes.specs.Combination.{contents, AreCopies}
use Rattle.gz_lanes.proofs.Columns.{length-contents}
use Rattle.gz_lanes.proofs.Copying.{bytes_of, length-bytes_of, copies_are}
use Rattle.gz_lanes.proofs.pieces.copy_and_combine.Goals as goal

pub returns-clause-copies : goal.returns-clause-copies
returns-clause-copies c =
    let sources = contents c.args.sources.now in
    let pieces = c.copy_to.new.copies.pieces.items in
    let before = c.in_ok-pieces.ensures.copies in
    let after = c.in_ok-copy_to.ensures in
    let reached : c.copy_to.new.copies.end ≡ c.args.width = after.0 ∙ omega (arith, before.0) in
    let count : length (bytes_of pieces) ≡ c.args.count = length-bytes_of pieces ∙ after.1 ∙ before.1 ∙ c.in_ok-copies.ensures.1 in
    copies_are sources c.args.width c.args.count (bytes_of pieces) count (omega (arith, c.requires.few, length-contents c.args.sources.now)) c.requires.widths (subst (λ (n : ℕ). AreCopies sources n (bytes_of pieces)) reached after.2)
