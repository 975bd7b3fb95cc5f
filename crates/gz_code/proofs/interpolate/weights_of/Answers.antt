use Rattle.std.proofs.Common.{ℕ, arith, ◌≡◌, ◌∙◌, sym, ap, length, slice_index, ◌<◌, get_or, List, subst, ◌+◌}
use Rattle.gz_field.specs.Field.{product}
use Rattle.gz_field.proofs.Inverse.{sum_of_distinct}
use Rattle.gz_code.proofs.Interpolation.{weight}
use Rattle.gz_lanes.proofs.Pushes.{each_pushed, length_pushed}
use Rattle.gz_code.proofs.Weights.{weight_from_whole, weights_are}
use Rattle.gz_code.proofs.interpolate.weights_of.Goals as goal

pub inv-requires : goal.inv-requires
inv-requires c e =
    sum_of_distinct c.args.target (slice_index c.args.points.now c.loop-j.j) (c.requires.elsewhere c.loop-j.j c.loop-j-test.true) (sym c.add.ensures ∙ e)

pub loop-j-preserved : goal.loop-j-preserved
loop-j-preserved c =
    let points = c.args.points.now in
    let j = c.loop-j.j in
    let J : j < length points = c.loop-j-test.true in
    let pushed = c.in_ok-push.ensures.items in
    let here : c.mul.result ≡ weight (slice_index points) (length points) c.args.target j =
    c.mul.ensures
    ∙ ap (λ w. product w (slice_index c.args.inverses.now j)) c.mul-others.ensures
    ∙ weight_from_whole (length points) (slice_index points) c.args.target j c.product_of_differences-all.result c.inv.result (slice_index c.args.inverses.now j) c.requires.points (omega arith) J (omega arith)
    (c.requires.inverses.is_element j J) c.product_of_differences-all.ensures (ap (λ e. product e c.inv.result) (sym c.add.ensures) ∙ c.inv.ensures) (c.requires.inverses.inverse j J) in
    let P : List ℕ → Type 0 = λ items. (length items ≡ j + 1) × ((i : ℕ) → i < j + 1 → get_or items i 0 ≡ weight (slice_index points) (length points) c.args.target i) in
    subst P (sym pushed) (
      length_pushed c.loop-j.weights.items c.mul.result j c.loop-j.invariant.0,
      each_pushed (λ i y. y ≡ weight (slice_index points) (length points) c.args.target i) c.loop-j.weights.items c.mul.result 0 j c.loop-j.invariant.0 c.loop-j.invariant.1 here,
    )

pub returns : goal.returns
returns c =
    let all : c.loop-j.j ≡ length c.args.points.now = omega arith in
    weights_are c.args.points.now c.loop-j.weights.items c.args.target c.requires.points (omega arith) (c.loop-j.invariant.0 ∙ all)
    (λ i l. c.loop-j.invariant.1 i (omega arith))
