-- A decision and a vote name the value of their slot.
use Rattle.std.proofs.Common.{◌≡◌, Option, Some, ap}
use Rattle.gz_core.specs.Names.{Name, BallotAt}
use Rattle.gz_core.specs.Slots.{slot_vote, slot_decision, slot_name, voted_name}
use Rattle.gz_core.specs.declared.slots.Slot.{Slot}
use Rattle.gz_core.specs.declared.slots.Slot.TheVariants.{Gone, DecidedAs, OpenAt}

pub decision_named : (slot : Slot) (x : Name) → slot_decision slot ≡ Some x → slot_name slot ≡ Some x
decision_named Gone x is = absurd cc
decision_named (DecidedAs y) x is = is
decision_named (OpenAt promise vote) x is = absurd cc

pub vote_named : (slot : Slot) (vote : BallotAt × Name) → slot_vote slot ≡ Some vote → slot_name slot ≡ Some vote.1
vote_named Gone vote is = absurd cc
vote_named (DecidedAs y) vote is = absurd cc
vote_named (OpenAt promise cast) vote is = ap voted_name is
