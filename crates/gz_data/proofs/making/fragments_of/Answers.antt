use Rattle.std.proofs.Common.{List, ℕ, length, get_or, ◌<◌, ◌∙◌, ap, arith}
use Rattle.std.proofs.lemmas.List.FromFn.{get_or-map-range_with_len}
use Rattle.sha2.specs.Sha256.{sha256}
use Rattle.gz_data.proofs.Cutting.{list_more}
use Rattle.gz_data.proofs.making.fragments_of.Goals as goal

pub loop-i-preserved : goal.loop-i-preserved
loop-i-preserved c f e =
    let records = c.args.records.now in
    let i = c.loop-i.i in
    let l : i < length records = omega arith in
    let same = c.as_slice.ensures ∙ c.index-records-i.is ∙ ap (λ (rs : List (List ℕ)). get_or rs i c.index-records-i.result) e
    ∙ get_or-map-range_with_len f 0 (length records) i i c.index-records-i.result l (omega arith) in
    list_more (λ j. record { site = j; digest = sha256 (f j) }) i c.loop-i.fragments.items c.push.new.self.items (record { site = i; digest = c.digest.result })
    (c.loop-i.invariant f e) c.in_ok-push.ensures.items
    (ap (λ (d : List ℕ). record { site = i; digest = d }) (c.digest.ensures ∙ ap sha256 same))
