use Rattle.std.proofs.Common.{ℕ, List, Vec, ◌≡◌, ◌∙◌, sym, ap, arith, length, take, drop, subst, slice_index}
use Rattle.std.specs.Borrow.{Bor}
use Rattle.std.specs.declared.alloc.Global.{Global}
use Rattle.std.proofs.lemmas.Result.{IfOk-weaker}
use Rattle.std.proofs.lemmas.List.{length-map}
use Rattle.gz_lanes.specs.Combination.{contents}
use Rattle.gz_code.specs.Decoding.{AreSlices, AreAtHand, IsAssembled, IsDecoded}
use Rattle.gz_code.proofs.Decoded.{front_points, all_slices_wide, order_within, all_at_hand_wide, decoded_from}
use Rattle.gz_code.proofs.Pieces.{bytes_of}
use Rattle.gz_code.proofs.decode.rebuild.Goals as goal

pub pieces_at-requires-clause-points : goal.pieces_at-requires-clause-points
pieces_at-requires-clause-points c =
    let pieces = c.args.pieces.now in
    let k = c.args.k in
    let points = c.locate.new.points.items in
    let front_is : c.split_at.result.0.now ≡ take k points = c.split_at.ensures.front ∙ ap (take k) c.deref.ensures.value in
    let lost_is : c.split_at.result.1.now ≡ drop k points = c.split_at.ensures.back ∙ ap (drop k) c.deref.ensures.value in
    front_points pieces k c.requires.enough c.requires.below c.requires.distinct c.in_ok-points.points.items points c.in_ok-order.order.items c.split_at.result.0.now c.split_at.result.1.now c.in_ok-points.ensures c.in_ok-order.ensures front_is lost_is

pub pieces_at-requires-clause-widths : goal.pieces_at-requires-clause-widths
pieces_at-requires-clause-widths c =
    let pieces = c.args.pieces.now in
    let k = c.args.k in
    let Q : List (Bor (List ℕ)) → Type 0 = λ s. AreSlices pieces k (contents s) in
    let S = subst Q (sym c.deref-2.ensures.value) c.in_ok-sources.ensures in
    all_slices_wide pieces k c.requires.enough c.requires.below c.requires.distinct c.args.width (contents c.deref-2.result.now) c.requires.fitting S

pub assemble-requires-clause-ordered : goal.assemble-requires-clause-ordered
assemble-requires-clause-ordered c j l =
    let pieces = c.args.pieces.now in
    let k = c.args.k in
    let points = c.locate.new.points.items in
    let front_is : c.split_at.result.0.now ≡ take k points = c.split_at.ensures.front ∙ ap (take k) c.deref.ensures.value in
    let lost_is : c.split_at.result.1.now ≡ drop k points = c.split_at.ensures.back ∙ ap (drop k) c.deref.ensures.value in
    let Q : List (Bor (List ℕ)) → Type 0 = λ s. AreSlices pieces k (contents s) in
    let S = subst Q (sym c.deref-2.ensures.value) c.in_ok-sources.ensures in
    let P : List (Vec ℕ Global) → Type 0 = λ s. AreAtHand pieces k (bytes_of s) (contents c.in_ok-at_hand.at_hand.items) in
    let M : List (Bor (List ℕ)) → Type 0 = λ s. AreAtHand pieces k (bytes_of c.in_ok-recovered.recovered.items) (contents s) in
    let H = subst M (sym c.deref-5.ensures.value) (subst P c.deref-3.ensures.value c.in_ok-at_hand.ensures) in
    let same = c.deref-4.ensures.value in
    let count : length c.deref-4.result.now ≡ k = ap length same ∙ c.in_ok-order.ensures.count in
    let within = order_within pieces k c.requires.enough c.requires.below c.requires.distinct c.in_ok-points.points.items points c.in_ok-order.order.items c.split_at.result.0.now c.split_at.result.1.now c.in_ok-points.ensures c.in_ok-order.ensures front_is lost_is
    c.args.width (contents c.deref-2.result.now) (bytes_of c.in_ok-recovered.recovered.items) (contents c.deref-5.result.now) S c.in_ok-recovered.ensures H j (omega arith) in
    let counted = length-map {B = List ℕ} c.deref-5.result.now (λ (source : Bor (List ℕ)). source.now) in
    omega (arith, within, counted, ap (λ xs. slice_index xs j) same)

pub assemble-requires-clause-widths : goal.assemble-requires-clause-widths
assemble-requires-clause-widths c =
    let pieces = c.args.pieces.now in
    let k = c.args.k in
    let points = c.locate.new.points.items in
    let front_is : c.split_at.result.0.now ≡ take k points = c.split_at.ensures.front ∙ ap (take k) c.deref.ensures.value in
    let lost_is : c.split_at.result.1.now ≡ drop k points = c.split_at.ensures.back ∙ ap (drop k) c.deref.ensures.value in
    let Q : List (Bor (List ℕ)) → Type 0 = λ s. AreSlices pieces k (contents s) in
    let S = subst Q (sym c.deref-2.ensures.value) c.in_ok-sources.ensures in
    let P : List (Vec ℕ Global) → Type 0 = λ s. AreAtHand pieces k (bytes_of s) (contents c.in_ok-at_hand.at_hand.items) in
    let M : List (Bor (List ℕ)) → Type 0 = λ s. AreAtHand pieces k (bytes_of c.in_ok-recovered.recovered.items) (contents s) in
    let H = subst M (sym c.deref-5.ensures.value) (subst P c.deref-3.ensures.value c.in_ok-at_hand.ensures) in
    all_at_hand_wide pieces k c.requires.enough c.requires.below c.requires.distinct c.in_ok-points.points.items points c.in_ok-order.order.items c.split_at.result.0.now c.split_at.result.1.now c.in_ok-points.ensures c.in_ok-order.ensures front_is lost_is
    c.args.width (contents c.deref-2.result.now) (bytes_of c.in_ok-recovered.recovered.items) (contents c.deref-5.result.now) S c.in_ok-recovered.ensures H c.requires.fitting

pub returns : goal.returns
returns c =
    let pieces = c.args.pieces.now in
    let k = c.args.k in
    let points = c.locate.new.points.items in
    let front_is : c.split_at.result.0.now ≡ take k points = c.split_at.ensures.front ∙ ap (take k) c.deref.ensures.value in
    let lost_is : c.split_at.result.1.now ≡ drop k points = c.split_at.ensures.back ∙ ap (drop k) c.deref.ensures.value in
    let Q : List (Bor (List ℕ)) → Type 0 = λ s. AreSlices pieces k (contents s) in
    let S = subst Q (sym c.deref-2.ensures.value) c.in_ok-sources.ensures in
    let P : List (Vec ℕ Global) → Type 0 = λ s. AreAtHand pieces k (bytes_of s) (contents c.in_ok-at_hand.at_hand.items) in
    let M : List (Bor (List ℕ)) → Type 0 = λ s. AreAtHand pieces k (bytes_of c.in_ok-recovered.recovered.items) (contents s) in
    let H = subst M (sym c.deref-5.ensures.value) (subst P c.deref-3.ensures.value c.in_ok-at_hand.ensures) in
    let same = c.deref-4.ensures.value in
    let at_hand = contents c.deref-5.result.now in
    IfOk-weaker c.assemble.result
    (λ object. IsAssembled c.deref-4.result.now at_hand c.args.width (length c.deref-4.result.now) c.args.len object.items)
    (λ object. IsDecoded k c.args.len pieces object.items)
    (λ object assembled.
    let R : List ℕ → Type 0 = λ o. IsAssembled o at_hand c.args.width (length o) c.args.len object.items in
    let N : ℕ → Type 0 = λ n. IsAssembled c.in_ok-order.order.items at_hand c.args.width n c.args.len object.items in
    decoded_from pieces k c.requires.enough c.requires.below c.requires.distinct c.in_ok-points.points.items points c.in_ok-order.order.items c.split_at.result.0.now c.split_at.result.1.now c.in_ok-points.ensures c.in_ok-order.ensures front_is lost_is
    c.args.width (contents c.deref-2.result.now) (bytes_of c.in_ok-recovered.recovered.items) (contents c.deref-5.result.now) S c.in_ok-recovered.ensures H c.args.len object.items c.requires.within_field c.requires.at_least_one c.requires.width_is
    (subst N c.in_ok-order.ensures.count (subst R same assembled)))
    c.assemble.ensures
