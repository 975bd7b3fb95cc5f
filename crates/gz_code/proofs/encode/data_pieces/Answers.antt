use Rattle.std.proofs.Common.{arith, ◌-◌, ◌+◌, ◌∙◌}
use Rattle.gz_code.proofs.Growing.{data_more, part_at}
use Rattle.gz_code.proofs.encode.data_pieces.Goals as goal

pub loop-j-preserved : goal.loop-j-preserved
loop-j-preserved c =
    let object = c.args.object.now in
    let width = c.args.width in
    let j = c.loop-j.j in
    let from = c.min-from.result in
    let len = c.min-len.result in
    let is_from = c.min-from.ensures in
    let is_len = c.min-len.ensures in
    let is_product = c.saturating_mul.ensures in
    let made = c.in_ok-padded.ensures in
    data_more object width j c.loop-j.pieces.items c.push.new.self.items c.in_ok-padded.field-0 c.loop-j.invariant made.long
    (λ place l.
    made.same place l
    ∙ part_at object width j from (from + len - from) place (omega (arith, is_from)) (omega (arith, is_len)) (λ before. omega (arith, before, is_from, is_product)) (λ past. omega (arith, past, is_from, is_product)) l)
    c.in_ok-push.ensures.items
