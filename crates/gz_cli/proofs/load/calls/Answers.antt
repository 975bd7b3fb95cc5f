use Rattle.std.proofs.Common.{List, ℕ, Err, subst}
use Rattle.gz_logs.specs.Parsed.{parsed, Parses}
use Rattle.gz_cli.specs.Causes.{Counts}
use Rattle.gz_cli.proofs.CheckLemmas.{log-cause}
use Rattle.gz_cli.proofs.load.calls.Goals as goal

pub returns-in-Ok-clause-cause : goal.returns-in-Ok-clause-cause
returns-in-Ok-clause-cause g c =
    let F = g.F.Shelf in
    let before = c.args.shelf.now in
    let after = c.read.new.shelf in
    let bytes = c.in-Ok.bytes.items in
    let old : Counts = record { faults = F.faults before; absences = F.absences before; excesses = F.excesses before; sink = 0 } in
    let new : Counts = record { faults = F.faults after; absences = F.absences after; excesses = F.excesses after; sink = 0 } in
    let parses : Parses (parsed bytes) (Err c.in-Err-parse_log.error) = subst (λ (b : List ℕ). Parses (parsed b) (Err c.in-Err-parse_log.error)) c.as_slice.ensures.value c.in-Err-parse_log.ensures.exact in
    rw c.bad_text.ensures (log-cause (F.files before) c.args.name.now bytes old new c.in-Err-parse_log.error c.in-Ok.ensures.bytes parses)
