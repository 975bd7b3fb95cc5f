-- What is shown of bytes: the lines of the record that they are, or their first fault.
use Rattle.std.specs.Prelude.{ℕ, ◌≡◌, List, Vec, Result, Ok, Err}
use Rattle.std.specs.declared.alloc.Global.{Global}
use Rattle.gz_core.specs.Rows.{RowAt}
use Rattle.gz_fragfmt.specs.Fragments.{FragmentAt, IsFragment}
use Rattle.gz_fragfmt.specs.Reading.{fragment_in}
use Rattle.gz_fragfmt.specs.Spelling.{spelling as fragment_spelling}
use Rattle.gz_fragfmt.specs.declared.errors.FragError.{FragError}
use Rattle.gz_fragfmt.specs.declared.errors.FragError.TheVariants as fragments
use Rattle.gz_rowfmt.specs.Reading.{row_in}
use Rattle.gz_rowfmt.specs.Records.{HasRecord}
use Rattle.gz_rowfmt.specs.Spelling.{spelling as row_spelling}
use Rattle.gz_rowfmt.specs.declared.errors.RowError.{RowError}
use Rattle.gz_rowfmt.specs.declared.errors.RowError.TheVariants as rows
use Rattle.gz_show.specs.Texts.{row_text, fragment_text}
use Rattle.gz_show.specs.declared.errors.RecordWhy.TheVariants as why
use Rattle.gz_show.specs.declared.errors.ShowError.{ShowError}
use Rattle.gz_show.specs.declared.errors.ShowError.TheVariants.{Bad, NoMemory}

-- the bytes are the record of a row, and these are the lines of that row
pub record IsRowText (bytes text : List ℕ) : Type 0 where
  pub row : RowAt
  pub has_record : HasRecord row
  pub spelled : bytes ≡ row_spelling row
  pub lines : text ≡ row_text row

-- the bytes are the record of a fragment, and this is the line of that fragment
pub record IsFragmentText (bytes text : List ℕ) : Type 0 where
  pub fragment : FragmentAt
  pub is_fragment : IsFragment fragment
  pub spelled : bytes ≡ fragment_spelling fragment
  pub line : text ≡ fragment_text fragment

-- a fault of a row record, by its place and what is wrong there
abbrev pub row_error : RowError → ShowError
row_error (rows.Magic at) = Bad at why.Magic
row_error (rows.Short at) = Bad at why.Short
row_error (rows.Order at) = Bad at why.Order
row_error (rows.Floor at) = Bad at why.Floor
row_error (rows.Kind at) = Bad at why.Kind
row_error (rows.Ballot at) = Bad at why.Ballot
row_error (rows.ValueField at) = Bad at why.Value
row_error (rows.Trailing at) = Bad at why.Trailing
row_error rows.NoMemory = NoMemory

-- a fault of a fragment record
abbrev pub fragment_error : FragError → ShowError
fragment_error (fragments.Magic at) = Bad at why.Magic
fragment_error (fragments.Short at) = Bad at why.Short
fragment_error (fragments.Field at) = Bad at why.Field
fragment_error (fragments.Trailing at) = Bad at why.Trailing
fragment_error fragments.NoMemory = NoMemory

abbrev pub text_of_row : Result RowAt RowError → Result (List ℕ) ShowError
text_of_row (Ok row) = Ok (row_text row)
text_of_row (Err e) = Err (row_error e)

abbrev pub text_of_fragment : Result FragmentAt FragError → Result (List ℕ) ShowError
text_of_fragment (Ok fragment) = Ok (fragment_text fragment)
text_of_fragment (Err e) = Err (fragment_error e)

-- the lines of the row that the bytes are, or their first fault
abbrev pub shown_row : List ℕ → Result (List ℕ) ShowError
shown_row bytes = text_of_row (row_in bytes)

-- the line of the fragment that the bytes are, or their first fault
abbrev pub shown_fragment : List ℕ → Result (List ℕ) ShowError
shown_fragment bytes = text_of_fragment (fragment_in bytes)

-- what a function returned is what is shown, unless memory ran out
abbrev pub MayShow : Result (Vec ℕ Global) ShowError → Result (List ℕ) ShowError → Type 0
MayShow (Ok text) shown = shown ≡ Ok text.items
MayShow (Err (Bad at why)) shown = shown ≡ Err (Bad at why)
MayShow (Err NoMemory) shown = Unit {0}
