use Rattle.std.proofs.Common.{List, ℕ, length, map, ◌<◌, ◌∙◌, sym, ap, arith}
use Rattle.gz_fragfmt.specs.Spelling.{spelling}
use Rattle.gz_data.specs.Own.{record_at}
use Rattle.gz_data.proofs.Cutting.{list_more, piece_at}
use Rattle.gz_data.proofs.making.records_of.Goals as goal

pub loop-i-preserved : goal.loop-i-preserved
loop-i-preserved c =
    let pieces = c.args.pieces.now in
    let i = c.loop-i.i in
    let config = c.args.config.now in
    let l : i < length pieces = omega arith in
    let same = c.deref.ensures.value ∙ sym (piece_at pieces i c.index-pieces-i.result l c.index-pieces-i.is) in
    list_more (record_at config c.args.name c.args.key.now c.args.object.now (map (λ p. p.items) pieces)) i c.loop-i.records.items c.push.new.self.items c.from_vec.result
    c.loop-i.invariant c.in_ok-push.ensures.items
    (c.from_vec.ensures ∙ c.in_ok-record.ensures
    ∙ ap (λ (piece : List ℕ). spelling (record { key = c.args.key.now; name = c.args.name; index = i; k = config.k; m = config.m; length = length c.args.object.now; piece = piece })) same)
