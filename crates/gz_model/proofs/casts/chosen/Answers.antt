use Rattle.std.proofs.Common.{◌+◌, ◌<◌, ◌∙◌, length, take, arith, subst, sym, refl, inl, inr, List}
use Rattle.std.proofs.lemmas.List.{take_all}
use Rattle.gz_core.specs.Names.{Name}
use Rattle.gz_model.specs.declared.casts.Cast.{Cast}
use Rattle.gz_model.specs.Casts.{IsChosen, IsLeastName}
use Rattle.gz_model.proofs.LeastNames.{IsChosenOf, name_taken, name_same, name_above, chosen_adds, chosen_kept, chosen_skips, contains_last, chosen_from_casts, casts_from_chosen}
use Rattle.gz_model.proofs.casts.chosen.Goals as goal
use Rattle.gz_model.proofs.casts.chosen.Goals.{then-is_at+then-is_before+then-is_chosen, else-is_at, else-is_at-via-then-is_at+then-is_before+else-is_chosen, else-is_at-via-then-is_at+else-is_before, else-is_at-via-else-is_at}

pub loop-cast-preserved : goal.loop-cast-preserved
loop-cast-preserved c =
    let cfg = c.args.cfg.now in
    let xs = c.args.casts.now in
    let key = c.args.key.now in
    let v = c.args.v in
    let i = c.loop-cast.cast-index in
    let x = c.cast-item.result in
    let l : i < length xs = omega arith in
    let P = IsChosenOf cfg xs (take i xs) key v in
    let R = IsChosenOf cfg xs (take (i + 1) xs) key v in
    let adds = chosen_adds cfg xs xs i x key v l c.cast-item.is in
    let kept = chosen_kept cfg xs xs i x key v l in
    elim c.if-is_at.branch [
      | then-is_at+then-is_before+then-is_chosen w ↦
          subst (λ m. IsLeastName R m) (sym w.least-is)
          (name_taken P R x.name c.loop-cast.least adds (record { cast = x; one = contains_last xs i x l c.cast-item.is; at = sym c.is_at.ensures ∙ w.if-is_at.true; name = refl; enough = sym w.is_chosen.ensures ∙ w.if-is_chosen.true }) (sym w.is_before.ensures ∙ w.if-is_before.true) c.loop-cast.invariant)
      | else-is_at w ↦ elim w.else-is_at.branch [
        | else-is_at-via-then-is_at+then-is_before+else-is_chosen w' ↦
            subst (λ m. IsLeastName R m) (sym w.least-is)
            (name_same P R c.loop-cast.least kept (chosen_skips cfg xs xs i x key v l c.cast-item.is (inr (sym w'.is_chosen.ensures ∙ w'.if-is_chosen.false))) c.loop-cast.invariant)
        | else-is_at-via-then-is_at+else-is_before w' ↦
            subst (λ m. IsLeastName R m) (sym w.least-is)
            (name_above P R x.name c.loop-cast.least adds (sym w'.is_before.ensures ∙ w'.if-is_before.false) c.loop-cast.invariant)
        | else-is_at-via-else-is_at w' ↦
            subst (λ m. IsLeastName R m) (sym w.least-is)
            (name_same P R c.loop-cast.least kept (chosen_skips cfg xs xs i x key v l c.cast-item.is (inl (sym c.is_at.ensures ∙ w'.if-is_at.false))) c.loop-cast.invariant)
      ]
    ]

pub returns : goal.returns
returns c =
    let cfg = c.args.cfg.now in
    let xs = c.args.casts.now in
    let key = c.args.key.now in
    let v = c.args.v in
    let all : IsLeastName (IsChosenOf cfg xs xs key v) c.loop-cast.least =
    subst (λ (ys : List Cast). IsLeastName (IsChosenOf cfg xs ys key v) c.loop-cast.least) (take_all c.loop-cast.cast-index xs (omega arith)) c.loop-cast.invariant in
    name_same (IsChosenOf cfg xs xs key v) (IsChosen cfg xs key v) c.loop-cast.least (chosen_from_casts cfg xs key v) (λ (y : Name). casts_from_chosen cfg xs key v y c.requires) all
