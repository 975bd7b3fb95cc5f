use denote.Ref.{Bor}
use Rattle.std.proofs.Common.{◌+◌, ℕ, List, [], sym, refl, ◌∙◌}
use Rattle.gz_lines.proofs.Reading.{all_of, faultless_more, first_fault, kept_more, skipped_more, reads_fault}
use Rattle.gz_lines.proofs.schedule.lines_read.Goals as goal
use Rattle.gz_lines.proofs.schedule.lines_read.Goals.{in-Skipped, in-Is+in_ok-push-in-Is}

pub returns-in-Faulty : goal.returns-in-Faulty
returns-in-Faulty c =
    let none : Bor (List ℕ) = record { ref_ptr = (0, 0); now = [] } in
    let texts = c.args.texts.now in
    let i = c.loop-i.i in
    let first = first_fault texts i none c.in-Faulty.fault c.loop-i-test.true (sym c.in-Faulty.is ∙ c.in_ok-reading.ensures) c.loop-i.invariant.faultless in
    reads_fault (all_of texts) (i + 1) c.number_at.result c.in-Faulty.fault c.at.result c.number_at.ensures c.at.ensures first

pub loop-i-preserved : goal.loop-i-preserved
loop-i-preserved c =
    let none : Bor (List ℕ) = record { ref_ptr = (0, 0); now = [] } in
    let texts = c.args.texts.now in
    let i = c.loop-i.i in
    let within = c.loop-i-test.true in
    let above = c.loop-i.invariant.faultless in
    elim c.match-reading.branch [
      | in-Skipped w ↦ (let same = sym w.in-Skipped.is ∙ c.in_ok-reading.ensures in
          let more = skipped_more texts i none within same in
          record { faultless = faultless_more texts i none _ within same refl above; exact = cc (w.lines-is, c.loop-i.invariant.exact, more) })
      | in-Is+in_ok-push-in-Is w ↦ (let same = sym w.in-Is.is ∙ c.in_ok-reading.ensures in
          let more = kept_more texts i none w.in-Is.line within same in
          record { faultless = faultless_more texts i none _ within same refl above; exact = cc (w.lines-is, w.in_ok-push-in-Is.ensures.items, c.loop-i.invariant.exact, more) })
    ]
