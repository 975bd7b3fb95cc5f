-- Ballots against a promise.
use Rattle.std.proofs.Common.{◌≡◌, true, false, arith}
use Rattle.std.proofs.lemmas.Bool.Decides.{nat_tests}
use Rattle.gz_core.proofs.Ballots.{ballots_equal, below_not, at_below}
use Rattle.gz_core.specs.Names.{BallotAt, fast, is_below, same_ballot}

-- of two ballots that differ, one is below the other
pub below_otherwise : (a b : BallotAt) → is_below b a ≡ false → same_ballot a b ≡ false → is_below a b ≡ true
below_otherwise a b above differ = grind (arith, nat_tests)

-- what is not above a promise is not above one that is higher
pub low_under : (low promise higher : BallotAt) → is_below promise low ≡ false → is_below promise higher ≡ true → is_below higher low ≡ false
low_under low promise higher over under = below_not low higher (at_below low promise higher over under)

-- a ballot that is not above the fast one is the fast one
pub is_fast : (b : BallotAt) → is_below fast b ≡ false → b ≡ fast
is_fast b low = ballots_equal b fast (grind (arith, nat_tests)) (grind (arith, nat_tests))
