use Rattle.std.proofs.Common.{◌+◌, List, Option, ap, sym, ◌∙◌}
use Rattle.std.specs.Prelude.{Ok}
use Rattle.gz_history.specs.declared.record.CallRec.{CallRec}
use Rattle.gz_logs.specs.declared.lines.Counts.{Counts}
use Rattle.gz_logs.specs.Parsed.{finished}
use Rattle.gz_logs.proofs.LineByLine.{log_of_calls}
use Rattle.gz_logs.proofs.reader.Reader.finish.Goals as goal

pub returns-in-Some : goal.returns-in-Some
returns-in-Some c =
    let counts = c.in-Some.field-0 in (
      counts.events,
      counts.skipped,
      ap (λ (ends : Option Counts). finished (c.args.lines + 1) c.args.self.calls.list.items ends) c.in-Some.is
          ∙ ap (λ (calls : List CallRec). Ok (log_of_calls calls counts)) (sym c.into_list.ensures),
    )
