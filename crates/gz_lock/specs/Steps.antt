-- What each step tells the seat that takes it.
use Rattle.std.specs.Prelude.{◌≡◌, ◌≢◌, ℕ, List, [], ◌∷◌, ◌++◌, Bool, All, Option, Some}
use Rattle.atomic_table.specs.Table.{Me, Step}
use Rattle.gz_lock.specs.Operations.{Operation}
use Rattle.gz_lock.specs.Histories.{taken_turn, turns_of, StandsFor}
use Rattle.gz_lock.specs.Seats.{with_state, AddsNoneOwn, KnowsJoined}
use Rattle.gz_lock.specs.declared.views.TakenTurn.{TakenTurn}
use Rattle.gz_lock.specs.declared.views.SeatState.TheVariants.{Idle, Waits, Served, Counted}
use Rattle.gz_lock.specs.declared.views.SeatView.{SeatView}
use Rattle.gz_lock.specs.declared.views.Held.{Held}
use Rattle.gz_lock.specs.declared.views.Last.{Last}

module _ {S E R : Type 0} where
  -- the ticket is the seat's where it was the next one
  abbrev pub took_ticket : Step S → Me S (SeatView E R) → ℕ → Me S (SeatView E R) → Type 0
  took_ticket st m n m' = (n ≡ st.first → m' ≡ (with_state m.0 (Waits n) m.0.seen, m.1)) × (n ≢ st.first → m' ≡ m)

  abbrev pub released : Step S → Me S (SeatView E R) → ℕ → Me S (SeatView E R) → Type 0
  released st m n m' = (m' ≡ (with_state m.0 Idle m.0.seen, [])) × (m.0.number ≡ 0 → KnowsJoined m'.0)

  abbrev pub learned : Step S → Me S (SeatView E R) → ℕ → Me S (SeatView E R) → Type 0
  learned st m n m' = (m' ≡ m) × (m.0.number ≡ 0 → KnowsJoined m.0 × All AddsNoneOwn m.0.joined)

abbrev pub held_of : {V E R : Type 0} → V → Option (Last E R) → Held V E R
held_of value last = record { value = value; last = last }

module _ {V E R : Type 0} (past : V → List E) (stands : V → List (Operation E R) → Type 0) (kept : V → Type 0) where
  abbrev pub Sat : Type 0
  Sat = Me (Option (Held V E R)) (SeatView E R)

  -- the cell is out with the seat, and its value is what the seat has seen
  pub record HoldsCell (m : Sat) : Type 0 where
    pub held : Held V E R
    pub cell : m.1 ≡ (0, Some held) ∷ []
    pub stands_for : StandsFor past stands kept held.value m.0.seen

  -- the seat is served, and has seen the whole history
  pub record IsServed (old : SeatView E R) (ticket : ℕ) (m : Sat) : Type 0 where
    pub others : List (TakenTurn E R)
    pub none_own : turns_of old.number others ≡ []
    pub view : m.0 ≡ with_state old (Served ticket) (old.seen ++ others)
    pub holds : HoldsCell m

  -- the seat's turn is in the history
  pub record IsCounted (old : SeatView E R) (ticket : ℕ) (entry : E) (reply : R) (m : Sat) : Type 0 where
    pub grew : Bool
    pub view : m.0 ≡ with_state old (Counted ticket) (old.seen ++ taken_turn old.number entry reply grew ∷ [])
    pub holds : HoldsCell m

  abbrev pub looked : Step (Option (Held V E R)) → Sat → ℕ → Sat → Type 0
  looked st m n m' = (t : ℕ) → m.0.state ≡ Waits t → (n ≡ t → IsServed m.0 t m') × (n ≢ t → m' ≡ m)

  abbrev pub counted : Step (Option (Held V E R)) → Sat → ℕ → Sat → Type 0
  counted st m n m' = (t : ℕ) (held : Held V E R) (last : Last E R) → m.0.state ≡ Served t → m.1 ≡ (0, Some held) ∷ [] → held.last ≡ Some last
      → IsCounted m.0 t last.entry.value last.reply.value m'
