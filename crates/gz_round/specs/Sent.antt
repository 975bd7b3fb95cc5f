-- What a call has sent: votes for its own value, promises, its last row write, and how often it was overtaken.
use Rattle.std.specs.Prelude.{ℕ, ◌+◌, ◌≡◌, ◌≤◌, max, Bool, true, false, ◌&&◌, ◌||◌, ◌==◌, if◌then◌else◌, List, [], ◌∷◌, Option, Some, None}
use Rattle.gz_core.specs.Names.{Name, BallotAt, same_ballot, same_name}
use Rattle.gz_core.specs.Values.{name_of}
use Rattle.gz_core.specs.declared.calls.Phase.{Phase}
use Rattle.gz_core.specs.declared.calls.Phase.TheVariants.{Look, Fast, Prepare, Accept, Trim as TrimPhase}
use Rattle.gz_core.specs.declared.requests.RowStep.{RowStep}
use Rattle.gz_core.specs.declared.requests.RowStep.TheVariants.{FastVote, Promise, ClassicVote, Decide, Trim}
use Rattle.gz_core.specs.declared.requests.Op.{Op}
use Rattle.gz_core.specs.declared.requests.Op.TheVariants.{WriteRow}
use Rattle.gz_core.specs.History.{Action, Sent, Handed, GaveUp, Rested, GaveIn, is_row_request}
use Rattle.gz_round.specs.Sites.{is_changed}

-- a step that nobody awaits: the others get notice of what is chosen
abbrev pub is_notice : RowStep → Bool
is_notice (FastVote v x) = false
is_notice (Promise v b) = false
is_notice (ClassicVote v b x) = false
is_notice (Decide v x) = true
is_notice (Trim to x) = false

-- the version at which a step votes for the value of this name
abbrev pub vote_by : Name → RowStep → Option ℕ
vote_by x (FastVote v value) = if same_name (name_of value) x then Some v else None
vote_by x (Promise v b) = None
vote_by x (ClassicVote v b value) = if same_name (name_of value) x then Some v else None
vote_by x (Decide v value) = None
vote_by x (Trim to value) = None

-- the version and ballot that a step promises
abbrev pub promise_by : RowStep → Option (ℕ × BallotAt)
promise_by (FastVote v value) = None
promise_by (Promise v b) = Some (v, b)
promise_by (ClassicVote v b value) = None
promise_by (Decide v value) = None
promise_by (Trim to value) = None

-- the part of a call that a step belongs to; a notice is of none
abbrev pub phase_by : RowStep → Option Phase
phase_by (FastVote v value) = Some Fast
phase_by (Promise v b) = Some Prepare
phase_by (ClassicVote v b value) = Some Accept
phase_by (Decide v value) = None
phase_by (Trim to value) = Some TrimPhase

-- what is read off the step of a write
abbrev pub of_step : {T : Type 0} → (RowStep → Option T) → Op → Option T
of_step f (WriteRow key expect step row) = f step
of_step f op = None

-- what is read off the step of a write that is sent at an action
abbrev pub of_sent : {T : Type 0} → (RowStep → Option T) → Action → Option T
of_sent f (Sent a) = of_step f a.op
of_sent f (Handed a reply) = None
of_sent f (GaveUp a) = None
of_sent f Rested = None
of_sent f GaveIn = None

abbrev pub or_earlier : {T : Type 0} → Option T → Option T → Option T
or_earlier None earlier = earlier
or_earlier (Some x) earlier = Some x

-- the same of the last write that has it
abbrev pub last_sent : {T : Type 0} → (RowStep → Option T) → List Action → Option T
last_sent f [] = None
last_sent f (m ∷ ms) = or_earlier (of_sent f m) (last_sent f ms)

abbrev pub passes_sent : {T : Type 0} → (T → Bool) → Option T → Bool
passes_sent p None = false
passes_sent p (Some x) = p x

-- whether some write was sent of which what is read passes a test
abbrev pub some_sent : {T : Type 0} → (RowStep → Option T) → (T → Bool) → List Action → Bool
some_sent f p [] = false
some_sent f p (m ∷ ms) = passes_sent p (of_sent f m) || some_sent f p ms

-- whether the call sent a vote for the value of this name at all
abbrev pub voted : Name → List Action → Bool
voted x ms = some_sent (vote_by x) (λ u. true) ms

-- whether it did at this version
abbrev pub voted_at : Name → List Action → ℕ → Bool
voted_at x ms v = some_sent (vote_by x) (λ u. u == v) ms

-- the version at which it voted last for the value of this name
abbrev pub last_vote : Name → List Action → Option ℕ
last_vote x ms = last_sent (vote_by x) ms

-- whether it sent a promise of this ballot, at any version
abbrev pub has_promised : List Action → BallotAt → Bool
has_promised ms b = some_sent promise_by (λ p. same_ballot p.1 b) ms

-- whether it sent a promise of this ballot at this version
abbrev pub has_promised_at : List Action → ℕ → BallotAt → Bool
has_promised_at ms v b = some_sent promise_by (λ p. (p.0 == v) && same_ballot p.1 b) ms

-- no promise was sent at this version, or above
abbrev pub IsUnpromised : List Action → ℕ → Type 0
IsUnpromised ms v = (u : ℕ) (d : BallotAt) → v ≤ u → has_promised_at ms u d ≡ false

-- the version and ballot that it promised last
abbrev pub last_promise : List Action → Option (ℕ × BallotAt)
last_promise ms = last_sent promise_by ms

-- the greater of a round and a promise's, where there is one
abbrev pub round_after : Option (ℕ × BallotAt) → ℕ → ℕ
round_after None round = round
round_after (Some p) round = max p.1.round round

-- the greatest round of the ballots that a call promised
abbrev pub top_round : List Action → ℕ
top_round [] = 0
top_round (m ∷ ms) = round_after (of_sent promise_by m) (top_round ms)

abbrev pub phase_or_look : Option Phase → Phase
phase_or_look None = Look
phase_or_look (Some phase) = phase

-- the part of the call that sent its last row write, but for notices; `Look` where it sent none
abbrev pub phase_of : List Action → Phase
phase_of ms = phase_or_look (last_sent phase_by ms)

-- a reply of a row request shows that a write was overtaken
abbrev pub overtakes : Action → Bool
overtakes (Sent a) = false
overtakes (Handed a reply) = is_row_request a.op && is_changed reply
overtakes (GaveUp a) = false
overtakes Rested = false
overtakes GaveIn = false

-- how many writes of the call were overtaken
abbrev pub met : List Action → ℕ
met [] = 0
met (m ∷ ms) = if overtakes m then met ms + 1 else met ms
