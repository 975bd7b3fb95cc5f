-- Which requests a call awaits.
use Rattle.std.specs.Prelude.{ℕ, ◌≡◌, ◌<◌, ◌==◌, Bool, true, false, not, if◌then◌else◌, List, [], ◌∷◌, ◌++◌}
use Rattle.std.specs.List.{All, Contains, filter}
use Rattle.gz_core.specs.History.{Asked, Action, Sent, Handed, GaveUp, Rested, GaveIn, is_row_request}

-- all but the request of this number
abbrev pub without : ℕ → List Asked → List Asked
without n asked = filter (λ a. not (a.number == n)) asked

-- all but those about rows
abbrev pub without_rows : List Asked → List Asked
without_rows asked = filter (λ a. not (is_row_request a.op)) asked

-- what an action makes of the requests that are awaited
abbrev pub awaited_after : Action → List Asked → List Asked
awaited_after (Sent a) asked = if a.awaited then asked ++ a ∷ [] else asked
awaited_after (Handed a reply) asked = without a.number asked
awaited_after (GaveUp a) asked = without a.number asked
awaited_after Rested asked = without_rows asked
awaited_after GaveIn asked = without_rows asked

-- the requests that a call awaits, as of now, in the order in which they were sent
abbrev pub awaiting : List Action → List Asked
awaiting [] = []
awaiting (m ∷ ms) = awaited_after m (awaiting ms)

-- the call awaits this request
abbrev pub IsAwaited : List Action → Asked → Type 0
IsAwaited ms a = Contains (awaiting ms) a

-- a request is sent under a number above those of all that are awaited, and is awaited itself where it is about a blob
pub record IsSentInTurn (ms : List Action) (a : Asked) : Type 0 where
  pub above : All (λ (b : Asked). b.number < a.number) (awaiting ms)
  pub blob : is_row_request a.op ≡ false → a.awaited ≡ true

-- an action is in turn: what is answered or given up was awaited
abbrev pub IsInTurn : List Action → Action → Type 0
IsInTurn ms (Sent a) = IsSentInTurn ms a
IsInTurn ms (Handed a reply) = IsAwaited ms a
IsInTurn ms (GaveUp a) = IsAwaited ms a
IsInTurn ms Rested = Unit {0}
IsInTurn ms GaveIn = Unit {0}

-- each action of a call was in turn
abbrev pub AreInTurn : List Action → Type 0
AreInTurn [] = Unit {0}
AreInTurn (m ∷ ms) = IsInTurn ms m × AreInTurn ms
