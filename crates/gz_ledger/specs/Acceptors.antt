-- An acceptor of every version of one object, and what it shows of a version. (Lamport 2006, "Fast Paxos".)
use Rattle.std.specs.Prelude.{ℕ, ◌<◌, ◌==◌, Bool, true, false, ◌&&◌, not, if◌then◌else◌, Some, None}
use Rattle.gz_core.specs.Names.{Name, BallotAt, fast, is_below, same_ballot, same_name}
use Rattle.gz_core.specs.declared.slots.Slot.{Slot}
use Rattle.gz_core.specs.declared.slots.Slot.TheVariants.{Gone, DecidedAs, OpenAt}

-- an acceptor's state of each version
abbrev pub Acceptor : Type 0
Acceptor = ℕ → Slot

-- an acceptor that took part in nothing
abbrev pub new_acceptor : Acceptor
new_acceptor v = OpenAt fast None

-- the acceptors of all sites, with another one at one site
abbrev pub with_acceptor : (ℕ → Acceptor) → ℕ → Acceptor → ℕ → Acceptor
with_acceptor told s r t = if t == s then r else told t

-- whether a vote of this ballot for this value stands
abbrev pub slot_votes : Slot → BallotAt → Name → Bool
slot_votes Gone b x = false
slot_votes (DecidedAs y) b x = false
slot_votes (OpenAt promise None) b x = false
slot_votes (OpenAt promise (Some vote)) b x = same_ballot vote.0 b && same_name vote.1 x

-- whether a vote of this ballot stands, for whatever value
abbrev pub slot_voted : Slot → BallotAt → Bool
slot_voted Gone b = false
slot_voted (DecidedAs y) b = false
slot_voted (OpenAt promise None) b = false
slot_voted (OpenAt promise (Some vote)) b = same_ballot vote.0 b

-- whether a vote of this ballot is still let in: the promise is not above it, and in the fast ballot no vote stands
abbrev pub slot_lets : Slot → BallotAt → Bool
slot_lets Gone b = false
slot_lets (DecidedAs y) b = false
slot_lets (OpenAt promise None) b = not (is_below b promise)
slot_lets (OpenAt promise (Some vote)) b = not (is_below b promise) && not (same_ballot b fast)

-- whether the slot backs a value: by a vote for it, as decided, or as collected
abbrev pub slot_backs : Slot → Name → Bool
slot_backs Gone x = true
slot_backs (DecidedAs y) x = same_name y x
slot_backs (OpenAt promise None) x = false
slot_backs (OpenAt promise (Some vote)) x = same_name vote.1 x

-- a vote or a decision stands
abbrev pub HasValue : Slot → Type 0
HasValue Gone = ⊥
HasValue (DecidedAs x) = Unit {0}
HasValue (OpenAt promise None) = ⊥
HasValue (OpenAt promise (Some vote)) = Unit {0}

-- no vote and no decision stands above a version
abbrev pub IsQuiet : Acceptor → ℕ → Type 0
IsQuiet r v = (u : ℕ) → v < u → HasValue (r u) → ⊥
