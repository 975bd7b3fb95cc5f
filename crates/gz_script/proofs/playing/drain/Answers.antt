use Rattle.std.proofs.Common.{◌≡◌, List, ap, ◌∙◌, map}
use Rattle.gz_world.proofs.Results.{on_ok_map}
use Rattle.gz_world.specs.States.{request_of}
use Rattle.gz_world.specs.declared.events.Event.TheVariants as events
use Rattle.gz_world.specs.declared.requests.Request.{Request}
use Rattle.gz_script.specs.Plays.{Happen, HappenInPart, ChangesBy, waiting, drained}
use Rattle.gz_script.proofs.LineLemmas.{drain_as, drain_part_as}
use Rattle.gz_script.proofs.PlayLemmas.{if_err_map}
use Rattle.gz_script.proofs.playing.drain.Goals as goal

pub returns-in-Ok-clause-ok : goal.returns-in-Ok-clause-ok
returns-in-Ok-clause-ok g c =
    let told = g.S.Site.told in
    let old = c.args.world.now in
    let new = c.deliver_all.new.world in
    let ns = c.of.result.now in
    let session = c.args.session in
    let is : ns ≡ waiting session (map request_of old.net.items) = c.of.ensures ∙ c.in-Ok.ensures.found ∙ ap (λ (rs : List Request). waiting session (map request_of rs)) c.as_slice.ensures.value in
    on_ok_map c.deliver_all.result (ChangesBy told (Happen (map (λ n. events.Deliver n) ns)) old new) (ChangesBy told (λ s. Happen (drained session s) s) old new)
    (drain_as told old new session ns is) c.deliver_all.ensures.ok

pub returns-in-Ok-clause-err : goal.returns-in-Ok-clause-err
returns-in-Ok-clause-err g c =
    let told = g.S.Site.told in
    let old = c.args.world.now in
    let new = c.deliver_all.new.world in
    let ns = c.of.result.now in
    let session = c.args.session in
    let is : ns ≡ waiting session (map request_of old.net.items) = c.of.ensures ∙ c.in-Ok.ensures.found ∙ ap (λ (rs : List Request). waiting session (map request_of rs)) c.as_slice.ensures.value in
    if_err_map c.deliver_all.result (λ e. ChangesBy told (HappenInPart e (map (λ n. events.Deliver n) ns)) old new) (λ e. ChangesBy told (λ s. HappenInPart e (drained session s) s) old new)
    (λ e. drain_part_as told e old new session ns is) c.deliver_all.ensures.err
