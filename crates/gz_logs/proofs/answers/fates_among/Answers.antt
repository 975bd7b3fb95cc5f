use Rattle.std.proofs.Common.{ℕ, List, take, get_or, filter_map, ap, sym, ◌∙◌}
use Rattle.std.proofs.lemmas.List.{take_more}
use Rattle.gz_text.proofs.ReadLemmas.{filter_map-some, filter_map-none}
use Rattle.gz_logs.specs.Answers.{fate_in}
use Rattle.gz_logs.proofs.answers.fates_among.Goals as goal
use Rattle.gz_logs.proofs.answers.fates_among.Goals.{in-Some+in_ok-push, in_default}

pub loop-letter-preserved : goal.loop-letter-preserved
loop-letter-preserved c =
    let field = c.args.field.now in
    let i = c.loop-letter.letter-index in
    let letter = get_or field i 0 in
    let more = ap (λ (xs : List ℕ). filter_map fate_in xs) (take_more field i 0 c.loop-letter-test.true) in
    elim c.match-fate.branch [
      | in-Some+in_ok-push w ↦ (let one = filter_map-some fate_in (take i field) letter w.in-Some.fate (sym c.fate.ensures ∙ w.in-Some.is) in cc (w.in_ok-push.ensures.items, one, more))
      | in_default w ↦ (let same = filter_map-none fate_in (take i field) letter (sym c.fate.ensures ∙ w.in_default.is) in cc (same, more))
    ]
