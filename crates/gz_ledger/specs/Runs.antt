-- Runs that the guards allow.
use Rattle.std.specs.Prelude.{ℕ, List, [], ◌∷◌, Some, None}
use Rattle.gz_core.specs.Names.{Name, BallotAt, fast}
use Rattle.gz_core.specs.Slots.{VotesFast, Promises, VotesClassic, Decides, with_slot}
use Rattle.gz_core.specs.declared.slots.Slot.{Slot}
use Rattle.gz_core.specs.declared.slots.Slot.TheVariants.{OpenAt, DecidedAs}
use Rattle.gz_config.specs.declared.Config.{Config}
use Rattle.gz_config.specs.declared.Order.TheVariants.{Parallel}
use Rattle.gz_ledger.specs.Acceptors.{Acceptor, new_acceptor}
use Rattle.gz_ledger.specs.Histories.{RowSeen, IsShownByRows}
use Rattle.gz_ledger.specs.Transitions.{WriteSent, Transition, Reads, Begins, Written, AreTransitions, seen_after}

-- three sites, of which one may be lost
abbrev pub three_sites : Config
three_sites = record { n = 3; qc = 2; qf = 3; k = 2; m = 1; f = 0; tries = 8; order = Parallel }

-- the fast vote of a put for its own value at version 1 of a new object
abbrev pub first_vote : Name → ℕ → WriteSent
first_vote x s = record {
  expect = None;
  write = record { call = x; site = s; before = new_acceptor; act = VotesFast 1 x; after = with_slot new_acceptor 1 (OpenAt fast (Some (fast, x))) };
}

-- a put reads three sites and writes its fast vote at each, the newest transition first
abbrev pub one_put : Name → List Transition
one_put x =
    Written (first_vote x 2) 1 ∷ Written (first_vote x 1) 1 ∷ Written (first_vote x 0) 1 ∷ Begins [] (first_vote x 2) ∷ Begins [] (first_vote x 1) ∷ Begins [] (first_vote x 0)
    ∷ Reads 2 ∷ Reads 1 ∷ Reads 0 ∷ []

-- the put of any name may do so, and its value is then shown at version 1
abbrev pub OnePutRuns : Type 0
OnePutRuns = (x : Name) → AreTransitions three_sites (λ s. 0) (one_put x) × IsShownByRows three_sites (seen_after (λ s. 0) (one_put x)) 1 x

-- the first classic ballot of the first session
abbrev pub first_ballot : BallotAt
first_ballot = record { round = 1; session = 1 }

-- a row with this state of version 1
abbrev pub row_with : Slot → Acceptor
row_with slot = with_slot new_acceptor 1 slot

-- a promise of the ballot at version 1 of a new object
abbrev pub first_promise : Name → ℕ → WriteSent
first_promise y s = record {
  expect = None;
  write = record { call = y; site = s; before = new_acceptor; act = Promises 1 first_ballot; after = row_with (OpenAt first_ballot None) };
}

-- a vote in it for the call's own value
abbrev pub ballot_vote : Name → ℕ → WriteSent
ballot_vote y s = record {
  expect = Some 1;
  write = record {
    call = y;
    site = s;
    before = row_with (OpenAt first_ballot None);
    act = VotesClassic 1 first_ballot y;
    after = with_slot (row_with (OpenAt first_ballot None)) 1 (OpenAt first_ballot (Some (first_ballot, y)));
  };
}

-- the decision
abbrev pub ballot_decision : Name → ℕ → WriteSent
ballot_decision y s = record {
  expect = Some 2;
  write = record {
    call = y;
    site = s;
    before = (ballot_vote y s).write.after;
    act = Decides 1 y;
    after = with_slot (ballot_vote y s).write.after 1 (DecidedAs y);
  };
}

-- the row that a write made at its site
abbrev pub row_written : WriteSent → RowSeen
row_written a = record { site = a.write.site; row = a.write.after }

-- a put votes at one site and goes no further; another one promises a classic ballot at the two other sites, votes
-- in it for its own value, and sends one site the decision; the newest transition first
abbrev pub one_recovery : Name → Name → List Transition
one_recovery x y =
    Written (ballot_decision y 1) 3 ∷ Begins (row_written (ballot_vote y 1) ∷ row_written (ballot_vote y 2) ∷ []) (ballot_decision y 1) ∷ Written (ballot_vote y 2) 2 ∷ Written (ballot_vote y 1) 2
    ∷ Begins (row_written (first_promise y 1) ∷ row_written (first_promise y 2) ∷ []) (ballot_vote y 2) ∷ Begins (row_written (first_promise y 1) ∷ row_written (first_promise y 2) ∷ []) (ballot_vote y 1)
    ∷ Written (first_promise y 2) 1 ∷ Written (first_promise y 1) 1 ∷ Begins [] (first_promise y 2) ∷ Begins [] (first_promise y 1) ∷ Written (first_vote x 0) 1 ∷ Begins [] (first_vote x 0)
    ∷ Reads 2 ∷ Reads 1 ∷ Reads 0 ∷ []

-- they may do so, and the value of the second put is then shown at version 1
abbrev pub OneRecoveryRuns : Type 0
OneRecoveryRuns = (x y : Name) → AreTransitions three_sites (λ s. 0) (one_recovery x y) × IsShownByRows three_sites (seen_after (λ s. 0) (one_recovery x y)) 1 y
