-- The conditions of the acceptor's steps.
use Rattle.std.specs.Prelude.{◌≤◌, ◌<◌, ◌+◌, ◌^◌, Option, Some, None}
use Rattle.gz_core.specs.Names.{IsClassic}
use Rattle.gz_core.specs.declared.requests.RowStep.{RowStep}
use Rattle.gz_core.specs.declared.requests.RowStep.TheVariants.{FastVote, Promise, ClassicVote, Decide, Trim}

-- the version that a step is about is one, its ballot is classic, and a floor lies below the last version
abbrev pub IsStep : RowStep → Type 0
IsStep (FastVote v x) = 1 ≤ v
IsStep (Promise v b) = (1 ≤ v) × IsClassic b
IsStep (ClassicVote v b x) = (1 ≤ v) × IsClassic b
IsStep (Decide v x) = 1 ≤ v
IsStep (Trim to x) = (1 ≤ to) × (to + 1 < 2 ^ 63)

abbrev pub IsStepOf : Option RowStep → Type 0
IsStepOf None = Unit {0}
IsStepOf (Some step) = IsStep step
