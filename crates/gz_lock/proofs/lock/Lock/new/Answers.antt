use Rattle.std.proofs.Common.{[], ◌∷◌, None, sym, subst, ◌∙◌}
use Rattle.atomic_table.specs.Table.{opening}
use Rattle.gz_lock.specs.Rule.{Ruled}
use Rattle.gz_lock.specs.Seats.{newcomer}
use Rattle.gz_lock.specs.Steps.{held_of}
use Rattle.gz_lock.proofs.Ends.{opens}
use Rattle.gz_lock.proofs.lock.Lock.new.Goals as goal

pub new-requires : goal.new-requires
new-requires g c = let past = g.V.Turned.past in let stands = g.V.Turned.stands in let kept = g.V.Turned.kept in
    subst (λ slots. Ruled past stands kept c.args.seats (opening (0 ∷ 0 ∷ 0 ∷ []) slots (newcomer c.args.seats))) (sym c.in_ok-slots.ensures.ok)
    (opens past stands kept c.args.seats (held_of c.args.value None) c.requires.seats c.requires.fresh)

pub only_value-requires : goal.only_value-requires
only_value-requires g c = (held_of c.args.value None, c.in-Err.ensures.err ∙ c.in_ok-slots.ensures.ok)
