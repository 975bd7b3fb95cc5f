use Rattle.std.proofs.Common.{[], ◌∷◌, subst, ap, sym}
use Rattle.std.specs.Prelude.{OnOk, Some}
use Rattle.gz_script.specs.Plays.{Happen, StopsAt, HappenInPart, ChangesBy}
use Rattle.gz_round.specs.Starting.{IsWithin}
use Rattle.gz_script.proofs.Bounds.{bounded_within}
use Rattle.gz_script.proofs.PlayLemmas.{if_err_map, first_stops}
use Rattle.gz_world.specs.declared.events.Event.TheVariants as events
use Rattle.gz_script.proofs.playing.begin.Goals as goal

pub happen-requires-clause-bounded : goal.happen-requires-clause-bounded
happen-requires-clause-bounded g c = subst (λ call. IsWithin call) (sym c.in-Ok.ensures) (bounded_within c.args.call.now c.requires.bounded)

pub returns-in-Ok-clause-ok : goal.returns-in-Ok-clause-ok
returns-in-Ok-clause-ok g c = subst (λ call. OnOk c.happen.result (ChangesBy g.S.Site.told (Happen (events.Begin c.args.session call ∷ [])) c.args.world.now c.happen.new.world)) c.in-Ok.ensures c.happen.ensures.ok

pub returns-in-Ok-clause-err : goal.returns-in-Ok-clause-err
returns-in-Ok-clause-err g c =
    let told = g.S.Site.told in
    let old = c.args.world.now in
    let new = c.happen.new.world in
    if_err_map c.happen.result (λ e. ChangesBy told (StopsAt e (events.Begin c.args.session c.in-Ok.call)) old new) (λ e. ChangesBy told (HappenInPart e (events.Begin c.args.session c.args.call.now ∷ [])) old new)
    (λ e. first_stops told (λ s. events.Begin c.args.session c.args.call.now ∷ []) e (events.Begin c.args.session c.in-Ok.call) old new (λ traces. ap (λ call. Some (events.Begin c.args.session call)) (sym c.in-Ok.ensures)))
    c.happen.ensures.err
