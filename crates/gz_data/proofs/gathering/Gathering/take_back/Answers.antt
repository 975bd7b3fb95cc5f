use Rattle.std.proofs.Common.{◌≡◌, ℕ, List, length, refl, sym, ap, ◌∙◌, subst, arith}
use Rattle.std.proofs.lemmas.List.{length-map}
use Rattle.std.specs.Prelude.{slice_get, Vec}
use Rattle.std.specs.declared.alloc.Global.{Global}
use Rattle.gz_data.specs.Whole.{Piece, pieces_of, pieces_if_some}
use Rattle.gz_data.specs.Blobs.{Outcome, fate_by}
use Rattle.gz_data.specs.Gathered.{GatheredAt, IsGathered, IsTaken}
use Rattle.gz_data.proofs.Taken.{some_piece, no_piece_left, taken_fate, taken_back}
use Rattle.gz_data.proofs.gathering.Gathering.take_back.Goals as goal

pub take_fate-fate-requires : goal.take_fate-fate-requires
take_fate-fate-requires c =
    let k : (g : GatheredAt) × (key : List ℕ) × (outcome : Outcome) × IsTaken g key c.args.index outcome c.args.self.now = c.requires in
    (fate_by k.1 k.0.value c.args.index k.2, ap (λ (n : GatheredAt). slice_get n.fates c.args.index) c.self.view_is ∙ taken_fate k.0 k.1 c.args.index k.2 c.args.self.now k.3)

pub invariant_of-self : goal.invariant_of-self
invariant_of-self c =
    let k : (g : GatheredAt) × (key : List ℕ) × (outcome : Outcome) × IsTaken g key c.args.index outcome c.args.self.now = c.requires in
    let held = c.self.inside in
    let before : GatheredAt = record { version = held.version; value = held.value; fates = held.fates; pieces = pieces_of held.pieces.items } in
    let taken : IsTaken k.0 k.1 c.args.index k.2 before = subst (IsTaken k.0 k.1 c.args.index k.2) (sym c.self.view_is) k.3 in
    let back = taken_back k.0 k.1 c.args.index k.2 before taken c.take_fate-fate.new.fates (pieces_of c.take_piece-piece.new.pieces.items) c.take_fate-fate.result (pieces_if_some c.take_piece-piece.result)
    c.take_fate-fate.ensures.set c.take_fate-fate.ensures.was c.take_piece-piece.ensures.pieces
    (λ e l. some_piece c.take_piece-piece.result (c.take_piece-piece.ensures.whole e (omega (arith, length-map held.pieces.items (λ (piece : ℕ × Vec ℕ Global). let p : Piece = (piece.0, piece.1.items) in p)))))
    (λ no. no_piece_left c.take_piece-piece.result (c.take_piece-piece.ensures.other no)) in
    (subst IsGathered (sym back.0) k.3.rules, omega (arith, c.take_piece-piece.ensures.capacity, c.self.invariant.1))

pub returns-clause-back : goal.returns-clause-back
returns-clause-back c = λ g key outcome k.
    let held = c.self.inside in
    let before : GatheredAt = record { version = held.version; value = held.value; fates = held.fates; pieces = pieces_of held.pieces.items } in
    let taken : IsTaken g key c.args.index outcome before = subst (IsTaken g key c.args.index outcome) (sym c.self.view_is) k in
    let back = taken_back g key c.args.index outcome before taken c.take_fate-fate.new.fates (pieces_of c.take_piece-piece.new.pieces.items) c.take_fate-fate.result (pieces_if_some c.take_piece-piece.result)
    c.take_fate-fate.ensures.set c.take_fate-fate.ensures.was c.take_piece-piece.ensures.pieces
    (λ e l. some_piece c.take_piece-piece.result (c.take_piece-piece.ensures.whole e (omega (arith, length-map held.pieces.items (λ (piece : ℕ × Vec ℕ Global). let p : Piece = (piece.0, piece.1.items) in p)))))
    (λ no. no_piece_left c.take_piece-piece.result (c.take_piece-piece.ensures.other no)) in
    back.0

pub returns-clause-came : goal.returns-clause-came
returns-clause-came c = λ g key outcome k.
    let held = c.self.inside in
    let before : GatheredAt = record { version = held.version; value = held.value; fates = held.fates; pieces = pieces_of held.pieces.items } in
    let taken : IsTaken g key c.args.index outcome before = subst (IsTaken g key c.args.index outcome) (sym c.self.view_is) k in
    let back = taken_back g key c.args.index outcome before taken c.take_fate-fate.new.fates (pieces_of c.take_piece-piece.new.pieces.items) c.take_fate-fate.result (pieces_if_some c.take_piece-piece.result)
    c.take_fate-fate.ensures.set c.take_fate-fate.ensures.was c.take_piece-piece.ensures.pieces
    (λ e l. some_piece c.take_piece-piece.result (c.take_piece-piece.ensures.whole e (omega (arith, length-map held.pieces.items (λ (piece : ℕ × Vec ℕ Global). let p : Piece = (piece.0, piece.1.items) in p)))))
    (λ no. no_piece_left c.take_piece-piece.result (c.take_piece-piece.ensures.other no)) in
    (refl, back.1 ∙ c.self.view_is)
