use Rattle.std.proofs.Common.{◌≡◌, true, false, List, [], ◌∷◌, ap, sym, ◌∙◌, subst, map}
use Rattle.std.specs.Prelude.{slice_get}
use Rattle.gz_world.proofs.Results.{on_ok_map}
use Rattle.gz_world.specs.Bridge.{state_of}
use Rattle.gz_world.specs.States.{request_of, numbered}
use Rattle.gz_world.specs.declared.events.Event.{Event}
use Rattle.gz_world.specs.declared.events.Event.TheVariants as events
use Rattle.gz_script.specs.Plays.{Happen, StopsAt, HappenInPart, ChangesBy, is_left_out, taken, settled}
use Rattle.gz_script.proofs.PlayLemmas.{happen_as, first_stops, changes_as, if_err_map, settled_out, settled_in}
use Rattle.gz_script.proofs.playing.settle_request.Goals as goal

pub returns-then-is_left_out-clause-ok : goal.returns-then-is_left_out-clause-ok
returns-then-is_left_out-clause-ok g c =
    let told = g.S.Site.told in
    let old = c.args.world.now in
    let n = c.args.n in
    let without = c.args.without.now in
    let out : is_left_out without (numbered (map request_of old.net.items) n) ≡ true = sym c.is_left_out.ensures ∙ c.if-is_left_out.true in
    on_ok_map c.happen.result (ChangesBy told (Happen (events.GiveUp n ∷ [])) old c.happen.new.world) (ChangesBy told (λ s. Happen (settled without n s) s) old c.happen.new.world)
    (happen_as told (settled without n) (events.GiveUp n ∷ []) old c.happen.new.world (λ traces. settled_out without n (state_of told traces old) out)) c.happen.ensures.ok

pub returns-then-is_left_out-clause-err : goal.returns-then-is_left_out-clause-err
returns-then-is_left_out-clause-err g c =
    let told = g.S.Site.told in
    let old = c.args.world.now in
    let n = c.args.n in
    let without = c.args.without.now in
    let out : is_left_out without (numbered (map request_of old.net.items) n) ≡ true = sym c.is_left_out.ensures ∙ c.if-is_left_out.true in
    if_err_map c.happen.result (λ e. ChangesBy told (StopsAt e (events.GiveUp n)) old c.happen.new.world) (λ e. ChangesBy told (λ s. HappenInPart e (settled without n s) s) old c.happen.new.world)
    (λ e. first_stops told (settled without n) e (events.GiveUp n) old c.happen.new.world (λ traces. ap (λ es. slice_get es 0) (sym (settled_out without n (state_of told traces old) out)))) c.happen.ensures.err

pub returns-clause-ok : goal.returns-clause-ok
returns-clause-ok g c =
    let told = g.S.Site.told in
    let old = c.args.world.now in
    let n = c.args.n in
    let without = c.args.without.now in
    let other : is_left_out without (numbered (map request_of old.net.items) n) ≡ false = sym c.is_left_out.ensures ∙ c.if-is_left_out.false in
    on_ok_map c.take.result (ChangesBy told (λ s. Happen (taken n s) s) old c.take.new.world) (ChangesBy told (λ s. Happen (settled without n s) s) old c.take.new.world)
    (changes_as told (λ s. Happen (taken n s) s) (λ s. Happen (settled without n s) s) old c.take.new.world
    (λ traces y h. subst (λ (es : List Event). Happen es (state_of told traces old) y) (settled_in without n (state_of told traces old) other) h))
    c.take.ensures.ok

pub returns-clause-err : goal.returns-clause-err
returns-clause-err g c =
    let told = g.S.Site.told in
    let old = c.args.world.now in
    let n = c.args.n in
    let without = c.args.without.now in
    let other : is_left_out without (numbered (map request_of old.net.items) n) ≡ false = sym c.is_left_out.ensures ∙ c.if-is_left_out.false in
    if_err_map c.take.result (λ e. ChangesBy told (λ s. HappenInPart e (taken n s) s) old c.take.new.world) (λ e. ChangesBy told (λ s. HappenInPart e (settled without n s) s) old c.take.new.world)
    (λ e. changes_as told (λ s. HappenInPart e (taken n s) s) (λ s. HappenInPart e (settled without n s) s) old c.take.new.world
    (λ traces y h. subst (λ (es : List Event). HappenInPart e es (state_of told traces old) y) (settled_in without n (state_of told traces old) other) h))
    c.take.ensures.err
