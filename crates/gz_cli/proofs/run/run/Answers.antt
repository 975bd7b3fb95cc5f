use denote.Ref.{Bor}
use Rattle.std.proofs.Common.{◌≡◌, ℕ, List, map, sym, subst, ap, ◌∙◌}
use Rattle.std.specs.Prelude.{Option, Some, option_map}
use Rattle.gz_words.specs.Words.{Task, replay, check, show, task_in, task_of}
use Rattle.gz_words.specs.declared.command.Command.TheVariants.{Replay, Check, Show}
use Rattle.gz_cli.specs.Causes.{Counts, IsFeasible, IsPossibleEnd}
use Rattle.gz_cli.proofs.CheckLemmas.{check-completes}
use Rattle.gz_cli.proofs.ReplayLemmas.{unread-cause, unread-cut}
use Rattle.gz_cli.proofs.RunLemmas.{replay-completes}
use Rattle.gz_cli.proofs.ShowLemmas.{show-completes}
use Rattle.gz_cli.proofs.run.run.Goals as goal

pub returns-in-Ok-Some-Replay-clause-complete : goal.returns-in-Ok-Some-Replay-clause-complete
returns-in-Ok-Some-Replay-clause-complete g c = λ good steady.
    let schedule = c.in-Ok-Some-Replay.schedule.now in
    let config : Option (List ℕ) = option_map (λ name. name.now) c.in-Ok-Some-Replay.config in
    let words : map (λ (word : Bor (List ℕ)). word.now) c.as_slice.result.now ≡ c.args.words.now =
    ap (map (λ (word : Bor (List ℕ)). word.now)) c.as_slice.ensures.value ∙ c.in-Ok.ensures in
    let command : c.in-Ok-Some-Replay.field-0 ≡ Some (Replay c.in-Ok-Some-Replay.schedule c.in-Ok-Some-Replay.config) = cc (c.in-Ok-Some-Replay.field-0-is, c.in-Ok-Some-Replay.field-0-0-is) in
    let asked : Some (replay schedule config) ≡ task_in c.args.words.now =
    sym (ap (option_map task_of) command) ∙ (c.in-Ok-Some-Replay.ensures.exact ∙ ap task_in words) in
    let files = g.F.Shelf.files c.args.shelf.now in
    let shelf = c.args.shelf.now in
    let later = c.replay.new.shelf in
    let old : Counts = record { faults = g.F.Shelf.faults shelf; absences = g.F.Shelf.absences shelf; excesses = g.F.Shelf.excesses shelf; sink = g.O.Sink.faults c.args.out.now } in
    let new : Counts = record { faults = g.F.Shelf.faults later; absences = g.F.Shelf.absences later; excesses = g.F.Shelf.excesses later; sink = g.O.Sink.faults c.replay.new.out } in
    let can = subst (λ (t : Option Task). IsFeasible t files) (sym asked) good in
    subst (λ (t : Option Task). IsPossibleEnd t files c.replay.result) asked (replay-completes files schedule config old new c.replay.result c.replay.ensures.cause can.0 can.1 steady)

pub returns-in-Ok-Some-Check-clause-complete : goal.returns-in-Ok-Some-Check-clause-complete
returns-in-Ok-Some-Check-clause-complete g c = λ good steady.
    let log = c.in-Ok-Some-Check.log.now in
    let words : map (λ (word : Bor (List ℕ)). word.now) c.as_slice.result.now ≡ c.args.words.now =
    ap (map (λ (word : Bor (List ℕ)). word.now)) c.as_slice.ensures.value ∙ c.in-Ok.ensures in
    let command : c.in-Ok-Some-Check.field-0 ≡ Some (Check c.in-Ok-Some-Check.log) = cc (c.in-Ok-Some-Check.field-0-is, c.in-Ok-Some-Check.field-0-0-is) in
    let asked : Some (check log) ≡ task_in c.args.words.now =
    sym (ap (option_map task_of) command) ∙ (c.in-Ok-Some-Check.ensures.exact ∙ ap task_in words) in
    let files = g.F.Shelf.files c.args.shelf.now in
    let shelf = c.args.shelf.now in
    let later = c.check.new.shelf in
    let old : Counts = record { faults = g.F.Shelf.faults shelf; absences = g.F.Shelf.absences shelf; excesses = g.F.Shelf.excesses shelf; sink = g.O.Sink.faults c.args.out.now } in
    let new : Counts = record { faults = g.F.Shelf.faults later; absences = g.F.Shelf.absences later; excesses = g.F.Shelf.excesses later; sink = g.O.Sink.faults c.check.new.out } in
    let can = subst (λ (t : Option Task). IsFeasible t files) (sym asked) good in
    subst (λ (t : Option Task). IsPossibleEnd t files c.check.result) asked (check-completes files log old new c.check.result c.check.ensures.cause can steady)

pub returns-in-Ok-Some-Show-clause-complete : goal.returns-in-Ok-Some-Show-clause-complete
returns-in-Ok-Some-Show-clause-complete g c = λ good steady.
    let kind = c.in-Ok-Some-Show.kind in
    let file = c.in-Ok-Some-Show.file.now in
    let words : map (λ (word : Bor (List ℕ)). word.now) c.as_slice.result.now ≡ c.args.words.now =
    ap (map (λ (word : Bor (List ℕ)). word.now)) c.as_slice.ensures.value ∙ c.in-Ok.ensures in
    let command : c.in-Ok-Some-Show.field-0 ≡ Some (Show c.in-Ok-Some-Show.kind c.in-Ok-Some-Show.file) = cc (c.in-Ok-Some-Show.field-0-is, c.in-Ok-Some-Show.field-0-0-is) in
    let asked : Some (show kind file) ≡ task_in c.args.words.now =
    sym (ap (option_map task_of) command) ∙ (c.in-Ok-Some-Show.ensures.exact ∙ ap task_in words) in
    let files = g.F.Shelf.files c.args.shelf.now in
    let shelf = c.args.shelf.now in
    let later = c.show.new.shelf in
    let old : Counts = record { faults = g.F.Shelf.faults shelf; absences = g.F.Shelf.absences shelf; excesses = g.F.Shelf.excesses shelf; sink = g.O.Sink.faults c.args.out.now } in
    let new : Counts = record { faults = g.F.Shelf.faults later; absences = g.F.Shelf.absences later; excesses = g.F.Shelf.excesses later; sink = g.O.Sink.faults c.show.new.out } in
    let can = subst (λ (t : Option Task). IsFeasible t files) (sym asked) good in
    subst (λ (t : Option Task). IsPossibleEnd t files c.show.result) asked (show-completes files kind file old new c.show.result c.show.ensures.cause can steady)

pub returns-clause-cause : goal.returns-clause-cause
returns-clause-cause g c =
    let files = g.F.Shelf.files c.args.shelf.now in
    let shelf = c.args.shelf.now in
    let old : Counts = record { faults = g.F.Shelf.faults shelf; absences = g.F.Shelf.absences shelf; excesses = g.F.Shelf.excesses shelf; sink = g.O.Sink.faults c.args.out.now } in
    unread-cause (task_in c.args.words.now) files old old

pub returns-clause-memory : goal.returns-clause-memory
returns-clause-memory g c = λ memory. unread-cut g.S.Site.told (task_in c.args.words.now) (g.F.Shelf.files c.args.shelf.now) c.args.bench.now (g.O.Sink.written c.args.out.now)
