use Rattle.std.proofs.Common.{ℕ, Bool, ◌≤◌, arith}
use Rattle.gz_core.specs.Configurations.{AreQuorums}
use Rattle.gz_core.specs.Counts.{count_sites}
use Rattle.gz_core.proofs.Quorums as quorums
use Rattle.gz_model.proofs.laws.quorums_meet.Goals as goal

pub returns-clause-classic : goal.returns-clause-classic
returns-clause-classic c = quorums.quorums_meet

pub returns-clause-fast : goal.returns-clause-fast
returns-clause-fast c =
    λ (n qc qf : ℕ) (p q : ℕ → Bool) (a : AreQuorums n qc qf) (h : qc ≤ count_sites n p) (k : qf ≤ count_sites n q). quorums.quorums_meet n qc qf p q a h (omega (arith, a.classic))

pub returns-clause-triple : goal.returns-clause-triple
returns-clause-triple c = quorums.three_meet
