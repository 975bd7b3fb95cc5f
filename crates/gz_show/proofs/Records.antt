-- What is a record is shown.
use Rattle.std.proofs.Common.{ℕ, ◌≡◌, List, Ok, sym, ap, ◌∙◌}
use Rattle.gz_fragfmt.proofs.Records.{fragment_again}
use Rattle.gz_fragfmt.specs.Reading.{fragment_in}
use Rattle.gz_rowfmt.proofs.Records.{row_again}
use Rattle.gz_rowfmt.specs.Reading.{row_in}
use Rattle.gz_show.specs.Shown.{IsRowText, IsFragmentText, shown_row, shown_fragment, text_of_row, text_of_fragment}

-- the lines of a row whose record the bytes are
pub row_is_shown : (bytes text : List ℕ) → IsRowText bytes text → shown_row bytes ≡ Ok text
row_is_shown bytes text is =
    ap (λ (bs : List ℕ). text_of_row (row_in bs)) is.spelled ∙ (ap text_of_row (row_again is.row is.has_record) ∙ ap Ok (sym is.lines))

-- the line of a fragment whose record the bytes are
pub fragment_is_shown : (bytes text : List ℕ) → IsFragmentText bytes text → shown_fragment bytes ≡ Ok text
fragment_is_shown bytes text is =
    ap (λ (bs : List ℕ). text_of_fragment (fragment_in bs)) is.spelled ∙ (ap text_of_fragment (fragment_again is.fragment is.is_fragment) ∙ ap Ok (sym is.line))
