use Rattle.std.proofs.Common.{List, ℕ, Err, subst}
use Rattle.gz_show.specs.Shown.{MayShow}
use Rattle.gz_cli.specs.Causes.{Counts}
use Rattle.gz_cli.specs.Inputs.{shown}
use Rattle.gz_cli.proofs.ShowLemmas.{record-cause}
use Rattle.gz_cli.proofs.load.record_lines.Goals as goal

pub returns-in-Ok-clause-cause : goal.returns-in-Ok-clause-cause
returns-in-Ok-clause-cause g c =
    let F = g.F.Shelf in
    let before = c.args.shelf.now in
    let after = c.read.new.shelf in
    let bytes = c.in-Ok.bytes.items in
    let old : Counts = record { faults = F.faults before; absences = F.absences before; excesses = F.excesses before; sink = 0 } in
    let new : Counts = record { faults = F.faults after; absences = F.absences after; excesses = F.excesses after; sink = 0 } in
    let shows : MayShow (Err c.in-Err-shown.error) (shown c.args.kind bytes) = subst (λ (b : List ℕ). MayShow (Err c.in-Err-shown.error) (shown c.args.kind b)) c.as_slice.ensures.value c.in-Err-shown.ensures.exact in
    rw c.bad_record.ensures (record-cause (F.files before) c.args.kind c.args.name.now bytes old new c.in-Err-shown.error c.in-Ok.ensures.bytes shows)
