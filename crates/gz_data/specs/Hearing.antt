-- What a gathering makes of what came of a fragment.
use Rattle.std.specs.Prelude.{ℕ, ◌≡◌, List}
use Rattle.gz_core.specs.History.{Action}
use Rattle.gz_core.specs.declared.calls.Answer.{Answer}
use Rattle.gz_data.specs.Blobs.{Outcome}
use Rattle.gz_data.specs.Gathered.{GatheredAt, CameAt, gathered_after, with_came, CanKeep, Gathers, IsOver, IsAnswerOf}
use Rattle.gz_data.specs.declared.gathering.Heard.{Heard}
use Rattle.gz_data.specs.declared.gathering.Heard.TheVariants.{Goes, Ends}

-- it goes on where its answer isn't known yet, or the call ends with the answer
abbrev pub HearsOf : GatheredAt → List ℕ → ℕ → Outcome → Heard → Type 0
HearsOf g key i outcome (Goes came) = CanKeep g came × (with_came g came ≡ gathered_after g key i outcome) × (IsOver (gathered_after g key i outcome) → ⊥)
HearsOf g key i outcome (Ends answer) =
    IsOver (gathered_after g key i outcome)
    × ((ms : List Action) → Gathers key ms (gathered_after g key i outcome) → IsAnswerOf key ms (gathered_after g key i outcome) answer)
