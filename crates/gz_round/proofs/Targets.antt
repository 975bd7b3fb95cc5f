-- The version that a call asks for, and where it works for it.
use Rattle.std.proofs.Common.{◌≡◌, ℕ, ◌≤◌, min, List, ◌+◌, Some, sym, subst, inl, inr, arith}
use Rattle.std.proofs.lemmas.Bool.{cases_lt}
use Rattle.gz_core.specs.declared.values.Value.{Value}
use Rattle.gz_config.specs.declared.Config.{Config}
use Rattle.gz_core.specs.History.{Action, Caller}
use Rattle.gz_round.specs.declared.run.Target.{Target}
use Rattle.gz_round.specs.declared.run.Target.TheVariants.{Latest, At}
use Rattle.gz_round.specs.Shown.{IsCurrent, IsQuorumHeard}
use Rattle.gz_round.specs.Targets.{target_of, looked_at, IsAim, IsAskedFor}
use Rattle.gz_round.specs.Standing.{WritesLatest, IsVoteNext, MayPass}
use Rattle.gz_round.proofs.Heard.{current_quorum}
use Rattle.gz_round.proofs.Unpromised.{unpromised_from}

-- what is shown of the latest version goes on to be
pub aim_by : (c : Config) (target : Target) (ms ns : List Action) (v : ℕ) → (IsCurrent c ms v → IsCurrent c ns v) → (IsQuorumHeard c ms → IsQuorumHeard c ns) → IsAim c target ms v → IsAim c target ns v
aim_by c Latest ms ns v more heard h = more h
aim_by c (At asked) ms ns v more heard (inl same) = inl (same.0, heard same.1)
aim_by c (At asked) ms ns v more heard (inr h) = inr (h.0, more h.1)

pub asked_by : (c : Config) (target : Target) (ms ns : List Action) (v : ℕ) → (IsCurrent c ms v → IsCurrent c ns v) → (IsQuorumHeard c ms → IsQuorumHeard c ns) → IsAskedFor c target ms v → IsAskedFor c target ns v
asked_by c Latest ms ns v more heard h = more h
asked_by c (At asked) ms ns v more heard h = (h.0, heard h.1)

-- a call works nowhere before rows of a quorum were heard
pub aim_quorum : (c : Config) (target : Target) (ms : List Action) (v : ℕ) → IsAim c target ms v → IsQuorumHeard c ms
aim_quorum c Latest ms v h = current_quorum c ms v h
aim_quorum c (At asked) ms v (inl same) = same.1
aim_quorum c (At asked) ms v (inr h) = current_quorum c ms v h.1

-- a call looks at no version above the highest that has begun
pub looked_low : (target : Target) (highest : ℕ) → looked_at target highest ≤ highest
looked_low Latest highest = omega arith
looked_low (At asked) highest = omega arith

-- and may work there
pub looked_aim : (c : Config) (target : Target) (ms : List Action) (highest : ℕ) → IsCurrent c ms highest → IsAim c target ms (looked_at target highest)
looked_aim c Latest ms highest h = h
looked_aim c (At asked) ms highest h =
    elim (cases_lt highest asked) [
      | inl low ↦ (
          let same : highest ≡ min asked highest = omega arith in
          subst (λ (v : ℕ). IsAim c (At asked) ms v) same (inr (low, h)))
      | inr high ↦ inl (omega arith, current_quorum c ms highest h)
    ]

-- a call that writes works at the latest version
pub writes_current : (c : Config) (w : Caller) (ms : List Action) (v : ℕ) (x : Value) → WritesLatest w → w.own ≡ Some x → IsAim c (target_of w.call) ms v → IsCurrent c ms v
writes_current c w ms v x latest own h = subst (λ t. IsAim c t ms v) (latest x own) h

-- a call that may vote may pass on
pub vote_passes : (c : Config) (w : Caller) (ms : List Action) (v : ℕ) → WritesLatest w → IsVoteNext c w ms v → MayPass c w ms v
vote_passes c w ms v latest h = record {
  above = h.may.above;
  aim = subst (λ t. IsAim c t ms v) (sym (latest h.own.0 h.own.1)) h.may.current;
  clear = h.may.clear;
  later = unpromised_from ms v (v + 1) (omega arith) h.unpromised;
  votes = h.votes;
}
