-- What the check of a log writes.
use Rattle.std.specs.Prelude.{ℕ, List, ◌++◌, length, decimal, codes}
use Rattle.gz_history.specs.Legal.{IsLegal}
use Rattle.gz_history.specs.declared.record.CallRec.{CallRec}
use Rattle.gz_cli.specs.Inputs.{Files, LoadsLog}

-- `legal N`, of N calls
abbrev pub legal_text : ℕ → List ℕ
legal_text calls = codes "legal " ++ decimal calls ++ codes "\n"

-- the file is a legal log, and the text with the number of its calls was written, as far as is said
abbrev pub Checks : Files → List ℕ → (List ℕ → Type 0) → Type 0
Checks files name Written = (calls : List CallRec) × (LoadsLog files name calls × (IsLegal calls × Written (legal_text (length calls))))
