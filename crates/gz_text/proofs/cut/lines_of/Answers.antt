use denote.Ref.{Bor}
use Rattle.std.proofs.Common.{ℕ, List, [], ◌++◌, ◌-◌, length, get_or, ap, sym, ◌∙◌}
use Rattle.gz_text.proofs.CutLemmas.{lines-parts}
use Rattle.gz_text.specs.Texts.{last_line}
use Rattle.gz_text.proofs.cut.lines_of.Goals as goal

pub returns-in_ok-all-in-len1-up : goal.returns-in_ok-all-in-len1-up
returns-in_ok-all-in-len1-up c =
    let parts = c.args.parts.now in
    let none : Bor (List ℕ) = record { ref_ptr = (0, 0); now = [] } in
    let last = get_or parts (length parts - 1) none in
    c.in_ok-all-in-len1-up.ensures
    ∙ ap (λ (ls : List (List ℕ)). ls ++ last_line last.now) c.in_ok-lines-in-len1-up.ensures
    ∙ sym (lines-parts parts none c.in-len1-up.len_at_least)
