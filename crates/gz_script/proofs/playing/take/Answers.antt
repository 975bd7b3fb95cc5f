use Rattle.std.proofs.Common.{◌≡◌, true, false, List, [], ◌∷◌, ap, sym, ◌∙◌, subst, map, take}
use Rattle.std.specs.Prelude.{slice_get}
use Rattle.gz_world.proofs.Results.{on_ok_map}
use Rattle.gz_world.specs.Bridge.{state_of}
use Rattle.gz_world.specs.States.{request_of, numbered}
use Rattle.gz_world.specs.declared.events.Event.{Event}
use Rattle.gz_world.specs.declared.requests.Request.{Request}
use Rattle.gz_world.specs.declared.events.Event.TheVariants as events
use Rattle.gz_script.specs.Plays.{Happen, StopsAt, HappenInPart, ChangesBy, has_reply, taken}
use Rattle.gz_script.proofs.PlayLemmas.{happen_as, first_stops, part_stops, changes_then, happen_then, if_err_map, if_err_of, taken_again, taken_first}
use Rattle.gz_script.proofs.playing.take.Goals as goal

pub returns-then-has_reply-clause-ok : goal.returns-then-has_reply-clause-ok
returns-then-has_reply-clause-ok g c =
    let told = g.S.Site.told in
    let old = c.args.world.now in
    let n = c.args.n in
    let replied : has_reply (numbered (map request_of old.net.items) n) ≡ true = sym (c.has_reply.ensures ∙ ap (λ (rs : List Request). has_reply (numbered (map request_of rs) n)) c.as_slice.ensures.value) ∙ c.if-has_reply.true in
    on_ok_map c.happen.result (ChangesBy told (Happen (events.Reply n 1 ∷ [])) old c.happen.new.world) (ChangesBy told (λ s. Happen (taken n s) s) old c.happen.new.world)
    (happen_as told (taken n) (events.Reply n 1 ∷ []) old c.happen.new.world (λ traces. taken_again n (state_of told traces old) replied)) c.happen.ensures.ok

pub returns-then-has_reply-clause-err : goal.returns-then-has_reply-clause-err
returns-then-has_reply-clause-err g c =
    let told = g.S.Site.told in
    let old = c.args.world.now in
    let n = c.args.n in
    let replied : has_reply (numbered (map request_of old.net.items) n) ≡ true = sym (c.has_reply.ensures ∙ ap (λ (rs : List Request). has_reply (numbered (map request_of rs) n)) c.as_slice.ensures.value) ∙ c.if-has_reply.true in
    if_err_map c.happen.result (λ e. ChangesBy told (StopsAt e (events.Reply n 1)) old c.happen.new.world) (λ e. ChangesBy told (λ s. HappenInPart e (taken n s) s) old c.happen.new.world)
    (λ e. first_stops told (taken n) e (events.Reply n 1) old c.happen.new.world (λ traces. ap (λ es. slice_get es 0) (sym (taken_again n (state_of told traces old) replied)))) c.happen.ensures.err

pub returns-in_err-happen-clause-err : goal.returns-in_err-happen-clause-err
returns-in_err-happen-clause-err g c =
    let told = g.S.Site.told in
    let old = c.args.world.now in
    let n = c.args.n in
    let error = c.in_err-happen.field-0.0 in
    let first : has_reply (numbered (map request_of old.net.items) n) ≡ false = sym (c.has_reply.ensures ∙ ap (λ (rs : List Request). has_reply (numbered (map request_of rs) n)) c.as_slice.ensures.value) ∙ c.if-has_reply.false in
    if_err_of c.from_residual.result error (λ e. ChangesBy told (λ s. HappenInPart e (taken n s) s) old c.happen-2.new.world) c.from_residual.ensures.1
    (first_stops told (taken n) error (events.Deliver n) old c.happen-2.new.world (λ traces. ap (λ es. slice_get es 0) (sym (taken_first n (state_of told traces old) first))) c.in_err-happen.ensures.err)

pub returns-clause-ok : goal.returns-clause-ok
returns-clause-ok g c =
    let told = g.S.Site.told in
    let old = c.args.world.now in
    let mid = c.happen-2.new.world in
    let new = c.happen-3.new.world in
    let n = c.args.n in
    let first : has_reply (numbered (map request_of old.net.items) n) ≡ false = sym (c.has_reply.ensures ∙ ap (λ (rs : List Request). has_reply (numbered (map request_of rs) n)) c.as_slice.ensures.value) ∙ c.if-has_reply.false in
    on_ok_map c.happen-3.result (ChangesBy told (Happen (events.Reply n 1 ∷ [])) mid new) (ChangesBy told (λ s. Happen (taken n s) s) old new)
    (changes_then told (Happen (events.Deliver n ∷ [])) (Happen (events.Reply n 1 ∷ [])) (λ s. Happen (taken n s) s) old mid new
    (λ traces after z h k. subst (λ (es : List Event). Happen es (state_of told traces old) z) (taken_first n (state_of told traces old) first)
    (happen_then (events.Deliver n ∷ []) (events.Reply n 1 ∷ []) (state_of told traces old) (state_of told after mid) z h k))
    c.in_ok-happen.ensures.ok)
    c.happen-3.ensures.ok

pub returns-clause-err : goal.returns-clause-err
returns-clause-err g c =
    let told = g.S.Site.told in
    let old = c.args.world.now in
    let mid = c.happen-2.new.world in
    let new = c.happen-3.new.world in
    let n = c.args.n in
    let first : has_reply (numbered (map request_of old.net.items) n) ≡ false = sym (c.has_reply.ensures ∙ ap (λ (rs : List Request). has_reply (numbered (map request_of rs) n)) c.as_slice.ensures.value) ∙ c.if-has_reply.false in
    if_err_map c.happen-3.result (λ e. ChangesBy told (StopsAt e (events.Reply n 1)) mid new) (λ e. ChangesBy told (λ s. HappenInPart e (taken n s) s) old new)
    (λ e. part_stops told (taken n) e (events.Reply n 1) 1 old mid new (λ traces. ap (λ es. slice_get es 1) (sym (taken_first n (state_of told traces old) first)))
    (happen_as told (λ s. take 1 (taken n s)) (events.Deliver n ∷ []) old mid (λ traces. ap (λ es. take 1 es) (taken_first n (state_of told traces old) first)) c.in_ok-happen.ensures.ok))
    c.happen-3.ensures.err
