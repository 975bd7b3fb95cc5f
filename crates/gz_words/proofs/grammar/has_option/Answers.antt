use denote.Ref.{Bor}
use Rattle.std.proofs.Common.{ℕ, List, [], sym, ◌∙◌}
use Rattle.std.proofs.lemmas.List.Folds.{list_any_at}
use Rattle.gz_words.specs.Words.{is_option}
use Rattle.gz_words.proofs.Texts.{any_option}
use Rattle.gz_words.proofs.grammar.has_option.Goals as goal

pub returns-then-is_option : goal.returns-then-is_option
returns-then-is_option c =
    let none : Bor (List ℕ) = record { ref_ptr = (0, 0); now = [] } in
    let words = c.args.words.now in
    let there = list_any_at (λ (word : Bor (List ℕ)). is_option word.now) words c.loop-word.word-index none c.loop-word-test.true (sym c.is_option.ensures ∙ c.if-is_option.true) in
    sym (any_option words ∙ there)
