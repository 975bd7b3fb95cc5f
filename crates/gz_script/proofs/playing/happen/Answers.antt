use Rattle.std.proofs.Common.{ap, ◌∙◌}
use Rattle.std.specs.Prelude.{Err}
use Rattle.gz_script.specs.Plays.{StopsAt, ChangesBy}
use Rattle.gz_script.proofs.PlayLemmas.{applied_taken, event_happens, event_stops, if_err_of}
use Rattle.gz_script.proofs.playing.happen.Goals as goal

pub returns-in_err-apply-clause-err : goal.returns-in_err-apply-clause-err
returns-in_err-apply-clause-err g c =
    let error = c.in_err-apply.field-0.0 in
    if_err_of c.from_residual.result error (λ e. ChangesBy g.S.Site.told (StopsAt e c.args.event) c.args.world.now c.apply.new.self) c.from_residual.ensures.1
    (event_stops g.S.Site.told c.args.world.now c.apply.new.self c.args.event error
    (λ is. (c.apply.ensures.full.0 (c.in_err-apply.was ∙ ap (λ e. Err e) is)).1) c.in_err-apply.ensures.err)

pub returns-clause-ok : goal.returns-clause-ok
returns-clause-ok g c =
    event_happens g.S.Site.told c.args.world.now c.apply.new.self c.args.event c.in_ok-apply.field-0
    (applied_taken c.args.world.now c.apply.new.self c.apply.result c.in_ok-apply.field-0 c.in_ok-apply.was c.apply.ensures.full c.apply.ensures.spent c.apply.ensures.ever)
    c.in_ok-apply.ensures.step
