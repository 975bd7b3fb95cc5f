-- What the sizes of quorums give.
use Rattle.std.proofs.Common.{◌≡◌, ℕ, ◌<◌, ◌≤◌, Bool, true, inl, inr, refl, arith}
use Rattle.std.proofs.lemmas.Bool.{cases_Bool}
use Rattle.gz_core.specs.Names.{BallotAt, fast, same_ballot}
use Rattle.gz_core.specs.Configurations.{need, AreQuorums}
use Rattle.gz_core.specs.Counts.{count_sites}
use Rattle.gz_core.proofs.Counting.{meeting, meeting_three}

-- every quorum is at least as large as a classic one
pub need_least : (n qc qf : ℕ) (b : BallotAt) → AreQuorums n qc qf → qc ≤ need qc qf b
need_least n qc qf b q =
    elim (cases_Bool (same_ballot b fast)) [
      | inl e ↦ rw e (omega (arith, q.classic))
      | inr e ↦ rw e (omega arith)
    ]

-- no quorum is empty
pub need_some : (n qc qf : ℕ) (b : BallotAt) → AreQuorums n qc qf → 0 < need qc qf b
need_some n qc qf b q = omega (arith, need_least n qc qf b q, q.majority)

-- the fast ballot needs a fast quorum
pub need_fast : (qc qf : ℕ) → need qc qf fast ≡ qf
need_fast qc qf = refl

-- two quorums meet
pub quorums_meet : (n qc qf : ℕ) (p q : ℕ → Bool) → AreQuorums n qc qf → qc ≤ count_sites n p → qc ≤ count_sites n q → (s : ℕ) × (s < n) × (p s ≡ true) × (q s ≡ true)
quorums_meet n qc qf p q a h k = meeting n p q (omega (arith, a.majority))

-- a classic quorum and two fast ones have a common site
pub three_meet : (n qc qf : ℕ) (p q r : ℕ → Bool) → AreQuorums n qc qf → qc ≤ count_sites n p → qf ≤ count_sites n q → qf ≤ count_sites n r → (s : ℕ) × (s < n) × (p s ≡ true) × (q s ≡ true) × (r s ≡ true)
three_meet n qc qf p q r a h k l = meeting_three n p q r (omega (arith, a.triple))
