-- Histories: lists of turns.
use Rattle.std.specs.Prelude.{◌≡◌, ◌==◌, ℕ, Bool, List, [], ◌++◌, map, filter, length}
use Rattle.std.specs.List.{flat_map}
use Rattle.std.proofs.Common.{drop}
use Rattle.gz_lock.specs.Operations.{Operation, operation, grown_by}
use Rattle.gz_lock.specs.declared.views.TakenTurn.{TakenTurn}

module _ {A : Type 0} where
  pub record IsPrefix (short long : List A) : Type 0 where
    pub more : List A
    pub whole : long ≡ short ++ more

  -- xs, and then what ys has beyond the length of xs: the longer of the two where one is a prefix of the other
  abbrev pub longer : List A → List A → List A
  longer xs ys = xs ++ drop (length xs) ys

module _ {E R : Type 0} where
  abbrev pub taken_turn : ℕ → E → R → Bool → TakenTurn E R
  taken_turn seat entry reply grew = record { seat = seat; entry = entry; reply = reply; grew = grew }

  abbrev pub operation_of : TakenTurn E R → Operation E R
  operation_of t = operation t.entry t.reply t.grew

  abbrev pub operations_of : List (TakenTurn E R) → List (Operation E R)
  operations_of turns = map operation_of turns

  -- the turns of the seat with this number
  abbrev pub turns_of : ℕ → List (TakenTurn E R) → List (TakenTurn E R)
  turns_of number turns = filter (λ t. t.seat == number) turns

  -- the entries of the turns that grew
  abbrev pub grown : List (TakenTurn E R) → List E
  grown turns = flat_map (λ t. grown_by t.entry t.grew) turns

  -- What was seen is a prefix of the history, with all its turns of this number.
  pub record HasOwnTurns (number : ℕ) (seen history : List (TakenTurn E R)) : Type 0 where
    pub others : List (TakenTurn E R)
    pub whole : history ≡ seen ++ others
    pub none_own : turns_of number others ≡ []

  -- the value is what this history makes of one that has taken no turn
  pub record StandsFor {V : Type 0} (past : V → List E) (stands : V → List (Operation E R) → Type 0) (kept : V → Type 0) (value : V) (history : List (TakenTurn E R)) : Type 0 where
    pub has_past : past value ≡ grown history
    pub has_taken : stands value (operations_of history)
    pub is_kept : kept value
