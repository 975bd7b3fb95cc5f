use Rattle.std.proofs.Common.{arith, ◌≡◌, ◌∙◌, sym, length, List, subst, ℕ}
use Rattle.std.proofs.lemmas.List.{take_at}
use Rattle.gz_lanes.specs.Combination.{contents, IsCombined}
use Rattle.gz_code.specs.Interpolation.{AreValues}
use Rattle.gz_code.proofs.Weights.{values_are}
use Rattle.gz_code.proofs.interpolate.piece_at.Goals as goal

pub returns : goal.returns
returns c =
    let sum = c.combine.new.sum in
    let sources = contents c.args.sources.now in
    let long : length sum ≡ c.in_ok-piece.piece.len = c.combine.auto.sum ∙ c.deref_mut.ensures.len in
    let wide : length sum ≡ c.args.width = long ∙ c.in_ok-piece.ensures.len in
    let combined : IsCombined c.deref.result.now sources sum c.args.width = λ place within. c.combine.ensures place (omega arith) in
    let P : List ℕ → Type 0 = AreValues c.args.points.now sources c.args.width c.args.target in
    let Q : List ℕ → Type 0 = λ weights. IsCombined weights sources sum c.args.width in
    subst P (sym (take_at sum _ c.in_ok-piece.piece.len long))
    (values_are c.args.points.now c.in_ok-weights.weights.items sum sources c.args.width c.args.target c.in_ok-weights.ensures wide (subst Q c.deref.ensures.value combined))
