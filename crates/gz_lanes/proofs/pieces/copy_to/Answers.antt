use Rattle.std.proofs.Common.{◌≡◌, ◌<◌, ◌∙◌, ap, sym, arith, length, take, set}
use Rattle.std.proofs.lemmas.List.{length-set}
use Rattle.gz_lanes.specs.Combination.{contents}
use Rattle.gz_lanes.proofs.Columns.{contents_at}
use Rattle.gz_lanes.proofs.Copying.{bytes_at, copied_more, left_more}
use Rattle.gz_lanes.proofs.pieces.copy_to.Goals as goal

pub extend_copy-requires-clause-copied : goal.extend_copy-requires-clause-copied
extend_copy-requires-clause-copied c =
    let pieces = c.loop-j.copies.pieces.items in
    let j = c.loop-j.j in
    let within : j < length pieces = omega (arith, c.loop-j-test.true, c.len-j-end.ensures, c.args.copies.now.pieces.ok.0, c.loop-j.invariant.0) in
    ap (λ v. v.items) c.index_mut.ensures.value
    ∙ sym (bytes_at pieces j _ within)
    ∙ c.loop-j.invariant.2 j (omega arith) within
    ∙ ap (take c.args.copies.now.end) (contents_at c.args.sources.now j)

pub loop-j-preserved : goal.loop-j-preserved
loop-j-preserved c =
    let sources = contents c.args.sources.now in
    let pieces = c.loop-j.copies.pieces.items in
    let j = c.loop-j.j in
    let copy = c.extend_copy.new.copy in
    let within : j < length pieces = omega (arith, c.loop-j-test.true, c.len-j-end.ensures, c.args.copies.now.pieces.ok.0, c.loop-j.invariant.0) in
    let count : length (set pieces j copy) ≡ length pieces = length-set pieces j copy in (
      count ∙ c.loop-j.invariant.0,
      copied_more sources j pieces copy c.args.end within (c.in_ok-extend_copy.ensures ∙ ap (take c.args.end) (sym (contents_at c.args.sources.now j))) c.loop-j.invariant.1,
      λ i after l. left_more sources j pieces copy c.args.copies.now.end c.loop-j.invariant.2 i after (omega (arith, l, count)),
    )
