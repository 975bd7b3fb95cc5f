use Rattle.std.proofs.Common.{length, ◌+◌, ◌*◌, List, ℕ, slice_index, subst}
use Rattle.gz_lanes.specs.Combination.{contents}
use Rattle.gz_lanes.specs.Lanes.{HasLanes, AreTables}
use Rattle.gz_lanes.proofs.Products.{products_added}
use Rattle.gz_lanes.proofs.vector.add_products.Goals as goal

pub returns : goal.returns
returns c =
    let row = c.args.row.now in
    let j = c.args.j in
    let tables = c.row.inside.tables.items in
    let A : List ℕ → Type 0 = λ cs. AreTables cs tables (length cs) in
    let L : List ℕ → Type 0 = λ t. HasLanes c.load.result (λ k. slice_index t (j * 32 + k)) in
    let H : List ℕ → Type 0 = λ t. HasLanes c.load-2.result (λ k. slice_index t (j * 32 + 16 + k)) in
    products_added row tables (length row) j (contents c.args.sources.now) c.args.at (subst A c.row.view_is c.row.invariant.0) c.requires.within
    c.args.low c.args.high c.load.result c.load-2.result c.look_up-of_low.result c.look_up-of_high.result c.sum.result c.args.so_far c.sum-2.result
    c.requires.low_is c.requires.high_is c.requires.high_small (subst L c.deref.ensures.value c.load.ensures.lanes) (subst H c.deref-2.ensures.value c.load-2.ensures.lanes)
    c.look_up-of_low.ensures c.look_up-of_high.ensures c.sum.ensures c.requires.so_far_is c.sum-2.ensures
