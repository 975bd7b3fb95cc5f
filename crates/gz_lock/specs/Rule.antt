-- The rule of the lock's table, which every step keeps. A seat's number is its index among the views.
use Rattle.std.specs.Prelude.{◌≡◌, ◌≢◌, ℕ, ◌+◌, ◌^◌, ◌<◌, ◌≤◌, true, List, [], ◌∷◌, All, sum_by, length, Option, Some, None, if◌then◌else◌}
use mathlib.Core.Option.{some, none}
use mathlib.Core.Option as maybe
use lib.ListN.{get_elem?}
use Rattle.atomic_table.specs.Table.{State}
use Rattle.gz_lock.specs.Operations.{Operation}
use Rattle.gz_lock.specs.Histories.{IsPrefix, HasOwnTurns, StandsFor}
use Rattle.gz_lock.specs.Seats.{AddsNoneOwn}
use Rattle.gz_lock.specs.declared.views.TakenTurn.{TakenTurn}
use Rattle.gz_lock.specs.declared.views.SeatState.{SeatState}
use Rattle.gz_lock.specs.declared.views.SeatState.TheVariants.{Idle, Waits, Served, Counted}
use Rattle.gz_lock.specs.declared.views.Joined.{Joined}
use Rattle.gz_lock.specs.declared.views.SeatView.{SeatView}
use Rattle.gz_lock.specs.declared.views.Held.{Held}

-- whether the lock is held: its cell is at home, out with the served seat, or out and the turn is counted
pub data LockState : Type 0 where
  home : LockState
  out : LockState
  turned : LockState

-- What the words, the cell and the views are read off. The owner of a ticket is the number of the seat that took it.
pub record Board (E R : Type 0) : Type 0 where
  pub history : List (TakenTurn E R)
  pub ticket : ℕ
  pub serving : ℕ
  pub lock : LockState
  pub owner : ℕ → ℕ
  pub splits : ℕ
  pub joined : List (Joined E R)

-- the seat with this number holds the ticket
pub record HasTicket (ticket serving : ℕ) (owner : ℕ → ℕ) (seat t : ℕ) : Type 0 where
  pub not_past : serving ≤ t
  pub taken : t < ticket
  pub owned : owner t ≡ seat

abbrev pub IsAtTurn : SeatState → Type 0
IsAtTurn (Served t) = Unit {0}
IsAtTurn (Counted t) = Unit {0}
IsAtTurn _ = ⊥

module _ {E R : Type 0} where
  abbrev pub StateOk : (history seen : List (TakenTurn E R)) (ticket serving : ℕ) → LockState → (owner : ℕ → ℕ) (seat : ℕ) → SeatState → Type 0
  StateOk history seen ticket serving lock owner seat Idle = Unit {0}
  StateOk history seen ticket serving lock owner seat (Waits t) = HasTicket ticket serving owner seat t × (t ≡ serving → lock ≡ home)
  StateOk history seen ticket serving lock owner seat (Served t) = HasTicket ticket serving owner seat t × (t ≡ serving) × (lock ≡ out) × (seen ≡ history)
  StateOk history seen ticket serving lock owner seat (Counted t) = HasTicket ticket serving owner seat t × (t ≡ serving) × (lock ≡ turned) × (seen ≡ history)

  pub record SeatOk (b : Board E R) (seat : ℕ) (k : SeatView E R) : Type 0 where
    pub number : k.number ≡ seat
    pub seen : HasOwnTurns seat k.seen b.history
    pub state : StateOk b.history k.seen b.ticket b.serving b.lock b.owner seat k.state
    pub some_part : 1 ≤ k.parts
    pub counts : seat ≡ 0 → (k.splits ≡ b.splits) × (k.joined ≡ b.joined) × All (λ item. IsPrefix item.seen k.seen) b.joined
    pub not_joined : All (λ item. item.number ≢ seat) b.joined

  pub record JoinedOk (history : List (TakenTurn E R)) (splits : ℕ) (item : Joined E R) : Type 0 where
    pub is_given : item.number ≤ splits
    pub not_first : item.number ≢ 0
    pub turns : HasOwnTurns item.number item.seen history
    pub adds_none : AddsNoneOwn item

  pub record BoardOk (b : Board E R) : Type 0 where
    pub counted : length b.history ≤ b.serving + 1
    pub uncounted : b.lock ≢ turned → length b.history ≤ b.serving
    pub order : b.serving ≤ b.ticket
    pub small : b.ticket < 2 ^ 64
    pub given_numbers : All (λ t. t.seat ≤ b.splits) b.history
    pub joined : All (JoinedOk b.history b.splits) b.joined

  abbrev pub SomeSeat : List (SeatView E R) → (SeatView E R → Type 0) → Type 0
  SomeSeat ks P = (j : ℕ) × (k : SeatView E R) × (get_elem? ks j ≡ some k) × (k.live ≡ true) × P k

  abbrev pub part_of : SeatView E R → ℕ
  part_of k = if k.live then k.parts else 0

  pub record SeatsOk (seats : ℕ) (b : Board E R) (ks : List (SeatView E R)) : Type 0 where
    pub each : (j : ℕ) (k : SeatView E R) → get_elem? ks j ≡ some k → k.live ≡ true → SeatOk b j k
    pub given : length ks ≡ b.splits + 1
    pub has_first : SomeSeat ks (λ k. k.number ≡ 0)
    pub all_parts : sum_by part_of ks ≡ seats
    pub whole : SomeSeat ks (λ k. k.seen ≡ b.history)
    pub at_turn : b.lock ≢ home → SomeSeat ks (λ k. IsAtTurn k.state)

  module _ {V : Type 0} (past : V → List E) (stands : V → List (Operation E R) → Type 0) (kept : V → Type 0) where
    -- the cell is at home with the value, or out
    abbrev pub CellOk : Board E R → maybe.Option (Option (Held V E R)) → Type 0
    CellOk b (some (Some held)) = (b.lock ≡ home) × StandsFor past stands kept held.value b.history
    CellOk b (some None) = ⊥
    CellOk b none = b.lock ≢ home

    pub record Ruled (seats : ℕ) (s : State (Option (Held V E R)) (SeatView E R)) : Type 0 where
      pub board : Board E R
      pub cell : maybe.Option (Option (Held V E R))
      pub words : s.words ≡ length board.history ∷ board.ticket ∷ board.serving ∷ []
      pub homes : s.homes ≡ cell ∷ []
      pub cell_ok : CellOk board cell
      pub board_ok : BoardOk board
      pub seats_ok : SeatsOk seats board s.views
