use denote.Ref.{Bor}
use Rattle.std.proofs.Common.{ℕ, ◌+◌, List, [], sym, ◌∙◌}
use Rattle.gz_logs.specs.Parsed.{unread}
use Rattle.gz_logs.specs.Reading.{seen_of}
use Rattle.gz_logs.proofs.LineByLine.{rest_of, rest_more, rest_fault, parses_fault, step_ok, step_err}
use Rattle.gz_logs.proofs.reader.read_lines.Goals as goal

pub returns-in-Err : goal.returns-in-Err
returns-in-Err c =
    let none : Bor (List ℕ) = record { ref_ptr = (0, 0); now = [] } in
    let texts = c.args.texts.now in
    let i = c.loop-i.i in
    let fault = c.in-Err.fault in
    let read = step_err _ (seen_of c.read.new.self) c.in_ok-fault.field-0 fault c.in-Err.is c.in_ok-fault.ensures in
    parses_fault (rest_of texts 0 unread) (i + 1) c.number_at.result fault c.at.result c.number_at.ensures c.at.ensures
    (sym c.loop-i.invariant ∙ rest_fault texts i none (seen_of c.loop-i.reader) fault c.loop-i-test.true read)

pub loop-i-preserved : goal.loop-i-preserved
loop-i-preserved c =
    let none : Bor (List ℕ) = record { ref_ptr = (0, 0); now = [] } in
    let texts = c.args.texts.now in
    let i = c.loop-i.i in
    let read = step_ok _ (seen_of c.read.new.self) c.in_ok-fault.field-0 c.in_default.field-0 c.in_default.is c.in_ok-fault.ensures in
    sym (rest_more texts i none (seen_of c.loop-i.reader) (seen_of c.read.new.self) c.loop-i-test.true read) ∙ c.loop-i.invariant
