-- The words of the command line, and what they ask for.
use Rattle.std.specs.Prelude.{ℕ, ◌≡◌, ◌+◌, ◌%◌, ◌≤◌, ◌==◌, ◌&&◌, Bool, true, false, nat_eq, nat_le, if◌then◌else◌, List, [], ◌∷◌, length, Option, Some, None, option_map, codes}
use Rattle.std.specs.Char.{is_ascii_hexdigit}
use Rattle.std.specs.Cmp.Lexicographic.{pointwise}
use Rattle.std.specs.List.{list_all, list_any}
use Rattle.gz_text.specs.Fields.{number_field}
use Rattle.gz_words.specs.declared.command.Command.{Command}
use Rattle.gz_words.specs.declared.command.Command.TheVariants.{Replay, Check, Show, Code}
use Rattle.gz_words.specs.declared.command.Record.{Record}
use Rattle.gz_words.specs.declared.command.Record.TheVariants.{Row, Fragment}

-- what the words ask for: to replay the schedule of a name, under the configuration of a name, to judge the log of a name, to show the
-- record in the file of a name, or to cut the bytes that digits spell into k + m pieces
pub data Task : Type 0 where
  replay : List ℕ → Option (List ℕ) → Task
  check : List ℕ → Task
  show : Record → List ℕ → Task
  code : ℕ → ℕ → List ℕ → Task

-- the word begins with a dash
abbrev pub is_option : List ℕ → Bool
is_option [] = false
is_option (b ∷ bs) = b == 45

-- an even number of hexadecimal digits, in upper or lower case
abbrev pub is_hex : List ℕ → Bool
is_hex digits = (length digits % 2 == 0) && list_all is_ascii_hexdigit digits

-- at least one data piece, and at most 256 pieces
abbrev pub is_shape : ℕ → ℕ → Bool
is_shape k m = nat_le 1 k && nat_le (k + m) 256

-- `replay SCHEDULE` and `replay SCHEDULE CONFIG`
abbrev pub replay_in : List ℕ → List ℕ → Option (List ℕ) → Option Task
replay_in verb schedule config = if pointwise nat_eq verb (codes "replay") then Some (replay schedule config) else None

-- the kind of record that a word names
abbrev pub record_in : List ℕ → Option Record
record_in word = if pointwise nat_eq word (codes "row") then Some Row else (if pointwise nat_eq word (codes "fragment") then Some Fragment else None)

-- `show row FILE` and `show fragment FILE`
abbrev pub show_in : List ℕ → List ℕ → Option Task
show_in word file = option_map (λ kind. show kind file) (record_in word)

-- those, and `replay SCHEDULE CONFIG`
abbrev pub paired_in : List ℕ → List ℕ → List ℕ → Option Task
paired_in verb first second = if pointwise nat_eq verb (codes "show") then show_in first second else replay_in verb first (Some second)

-- `check LOG` and `replay SCHEDULE`
abbrev pub named_in : List ℕ → List ℕ → Option Task
named_in verb name = if pointwise nat_eq verb (codes "check") then Some (check name) else replay_in verb name None

-- `code K M HEX`, once the numbers are read
abbrev pub code_of : Option ℕ → Option ℕ → List ℕ → Option Task
code_of None m digits = None
code_of (Some k) None digits = None
code_of (Some k) (Some m) digits = if is_shape k m && is_hex digits then Some (code k m digits) else None

abbrev pub code_in : List ℕ → List ℕ → List ℕ → List ℕ → Option Task
code_in verb k m digits = if pointwise nat_eq verb (codes "code") then code_of (number_field k) (number_field m) digits else None

-- what words without a dash ask for
abbrev pub form_of : List (List ℕ) → Option Task
form_of [] = None
form_of (verb ∷ []) = None
form_of (verb ∷ name ∷ []) = named_in verb name
form_of (verb ∷ first ∷ second ∷ []) = paired_in verb first second
form_of (verb ∷ k ∷ m ∷ digits ∷ []) = code_in verb k m digits
form_of (verb ∷ a ∷ b ∷ c ∷ d ∷ more) = None

-- what the words ask for, none where they are of no form; a word that begins with a dash is of no form
abbrev pub task_in : List (List ℕ) → Option Task
task_in words = if list_any is_option words then None else form_of words

-- what a command asks for
abbrev pub task_of : Command → Task
task_of (Replay schedule config) = replay schedule.now (option_map (λ name. name.now) config)
task_of (Check log) = check log.now
task_of (Show kind file) = show kind file.now
task_of (Code k m digits) = code k m digits.now

-- the numbers and the digits of a command are those of a code
abbrev pub IsWellFormed : Command → Type 0
IsWellFormed (Replay schedule config) = Unit {0}
IsWellFormed (Check log) = Unit {0}
IsWellFormed (Show kind file) = Unit {0}
IsWellFormed (Code k m digits) = (1 ≤ k) × (k + m ≤ 256) × (is_hex digits.now ≡ true)
