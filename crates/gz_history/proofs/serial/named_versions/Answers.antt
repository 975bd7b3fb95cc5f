use Rattle.std.proofs.Common.{Option, ap, ◌∙◌}
use Rattle.std.specs.Prelude.{option_and_then}
use Rattle.gz_core.specs.Names.{Name}
use Rattle.gz_history.specs.Serial.{naming_of, name_at, or_else}
use Rattle.gz_history.proofs.Serials.{first_more}
use Rattle.gz_history.proofs.serial.named_versions.Goals as goal

pub loop-call-preserved : goal.loop-call-preserved
loop-call-preserved c = λ version.
    let key = c.args.key.now in
    let a = c.call-item.result in
    c.in_ok-note.ensures version
    ∙ ap (λ (o : Option Name). or_else o (option_and_then (name_at version) (naming_of key a))) (c.loop-call.invariant version)
    ∙ first_more key c.args.calls.now c.loop-call.call-index a version c.loop-call-test.true c.call-item.is
