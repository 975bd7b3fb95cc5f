use Rattle.std.proofs.Common.{◌≡◌, map, take}
use Rattle.std.specs.Prelude.{false}
use Rattle.std.specs.List.{list_any}
use Rattle.gz_words.specs.Words.{is_option}
use Rattle.gz_words.proofs.grammar.has_option.Given as goal

abbrev pub invariant-loop-word : goal.invariant-loop-word
invariant-loop-word l = list_any is_option (map (λ word. word.now) (take l.word-index l.words)) ≡ false
