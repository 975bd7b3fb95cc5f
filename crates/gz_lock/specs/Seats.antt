-- What a seat knows, and what the lock's calls make of it.
use Rattle.std.specs.Prelude.{◌≡◌, ℕ, ◌+◌, ◌-◌, ◌≤◌, Bool, true, false, List, [], ◌∷◌, ◌++◌, All}
use Rattle.atomic_table.specs.Table.{Me}
use Rattle.atomic_table.specs.Seated.{TableId}
use Rattle.gz_lock.specs.Operations.{Operation}
use Rattle.gz_lock.specs.Histories.{longer, taken_turn, operations_of, turns_of, HasOwnTurns}
use Rattle.gz_lock.specs.declared.views.TakenTurn.{TakenTurn}
use Rattle.gz_lock.specs.declared.views.SeatState.{SeatState}
use Rattle.gz_lock.specs.declared.views.SeatState.TheVariants.{Idle}
use Rattle.gz_lock.specs.declared.views.Joined.{Joined}
use Rattle.gz_lock.specs.declared.views.SeatView.{SeatView}

-- the table of a lock: count, ticket and serving, and the cell
abbrev pub IsSized : TableId → Type 0
IsSized id = (id.words ≡ 3) × (id.slots ≡ 1)

module _ {E R : Type 0} where
  -- the first seat, with all parts
  abbrev pub newcomer : ℕ → SeatView E R
  newcomer parts = record { live = true; number = 0; parts = parts; splits = 0; state = Idle; seen = []; joined = [] }

  -- the first seat, after it gave a part away
  abbrev pub gave : SeatView E R → SeatView E R
  gave k = record k { parts = k.parts - 1; splits = k.splits + 1 }

  -- the seat that is split from it
  abbrev pub given : SeatView E R → SeatView E R
  given k = record { live = true; number = k.splits + 1; parts = 1; splits = k.splits + 1; state = Idle; seen = k.seen; joined = [] }

  -- the first seat, after another was joined into it
  abbrev pub took_in : SeatView E R → SeatView E R → SeatView E R
  took_in k other = record k { parts = k.parts + other.parts; seen = longer k.seen other.seen; joined = k.joined ++ record { number = other.number; seen = other.seen; first = k.seen } ∷ [] }

  -- the seat that was joined
  abbrev pub spent : SeatView E R
  spent = record { live = false; number = 0; parts = 0; splits = 0; state = Idle; seen = []; joined = [] }

  abbrev pub with_state : SeatView E R → SeatState → List (TakenTurn E R) → SeatView E R
  with_state k state seen = record k { state = state; seen = seen }

  -- what the join of this seat added to what the first one had seen has no turn of the first one's number
  abbrev pub AddsNoneOwn : Joined E R → Type 0
  AddsNoneOwn item = HasOwnTurns 0 item.first (longer item.first item.seen)

  -- The first seat has seen what the joined ones had, and no other turn of theirs. It has seen no turn of a number that was not given.
  pub record KnowsJoined (k : SeatView E R) : Type 0 where
    pub given_numbers : All (λ t. t.seat ≤ k.splits) k.seen
    pub joined_turns : All (λ item. HasOwnTurns item.number item.seen k.seen) k.joined

  module _ {S : Type 0} where
    -- a seat between two calls
    pub record Rests (m : Me S (SeatView E R)) : Type 0 where
      pub is_live : m.0.live ≡ true
      pub is_idle : m.0.state ≡ Idle
      pub no_cell : m.1 ≡ []

    -- The seat has seen this turn, after what it had seen and turns of other seats.
    pub record TookTurn (sound : List (Operation E R) → Type 0) (old : SeatView E R) (entry : E) (reply : R) (m : Me S (SeatView E R)) : Type 0 where
      pub grew : Bool
      pub others : List (TakenTurn E R)
      pub none_own : turns_of old.number others ≡ []
      pub after : m ≡ (with_state old Idle ((old.seen ++ others) ++ taken_turn old.number entry reply grew ∷ []), [])
      pub is_sound : sound (operations_of m.0.seen)

    -- The seat has seen no turn of its own that it had not.
    pub record TookNoTurn (sound : List (Operation E R) → Type 0) (old : SeatView E R) (m : Me S (SeatView E R)) : Type 0 where
      pub others : List (TakenTurn E R)
      pub none_own : turns_of old.number others ≡ []
      pub after : m ≡ (with_state old Idle (old.seen ++ others), [])
      pub is_sound : sound (operations_of m.0.seen)
