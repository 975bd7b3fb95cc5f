use Rattle.std.proofs.Common.{◌≡◌, ◌++◌, ◌∙◌, ap, List, ℕ}
use Rattle.std.specs.String.{string_bytes}
use Rattle.gz_cli.specs.Codes.{piece_line}
use Rattle.gz_cli.proofs.CodeLemmas.{lines-taken}
use Rattle.gz_cli.proofs.pieces.lines.Goals as goal

pub loop-index-preserved : goal.loop-index-preserved
loop-index-preserved c =
    let index = c.loop-index.index in
    let line : string_bytes c.in_ok-line.line ≡ piece_line index c.index-pieces-index.result.items =
    c.in_ok-line.ensures ∙ ap (λ (bytes : List ℕ). piece_line index bytes) c.as_slice.ensures.value in
    let more = lines-taken c.args.pieces.now index c.index-pieces-index.result (string_bytes c.loop-index.text) (string_bytes c.in_ok-line.line)
    c.loop-index-test.true c.index-pieces-index.is c.loop-index.invariant line in
    c.in_ok-push_str.ensures.bytes ∙ ap (λ (bytes : List ℕ). string_bytes c.loop-index.text ++ bytes) c.as_str.ensures.value ∙ more
