-- When a call may send a promise of a classic ballot, and a vote in it. (Lamport 2006, "Fast Paxos", section 2.2.)
use Rattle.std.specs.Prelude.{ℕ, zero, suc, ◌+◌, max, Bool, true, false, not, ◌≡◌, ◌≢◌, ◌≤◌, ◌⊎◌, ◌&&◌, ◌||◌, ◌==◌, if◌then◌else◌, List, [], ◌∷◌, length, slice_get, Option, Some, None}
use Rattle.std.specs.List.{All}
use Rattle.gz_core.specs.Names.{Name, BallotAt, IsClassic, is_below, same_ballot, same_name}
use Rattle.gz_core.specs.Values.{name_of}
use Rattle.gz_core.specs.Slots.{slots, IsVoteOf}
use Rattle.gz_core.specs.declared.slots.Slot.{Slot}
use Rattle.gz_core.specs.declared.slots.Slot.TheVariants.{Gone, DecidedAs, OpenAt}
use Rattle.gz_core.specs.Rows.{RowAt}
use Rattle.gz_core.specs.declared.values.Value.{Value}
use Rattle.gz_config.specs.declared.Config.{Config}
use Rattle.gz_core.specs.declared.requests.RowStep.{RowStep}
use Rattle.gz_core.specs.declared.requests.RowStep.TheVariants.{FastVote, Promise, ClassicVote, Decide, Trim}
use Rattle.gz_pick.specs.Looks.{row_vote}
use Rattle.gz_pick.specs.Evidences.{is_in}
use Rattle.gz_pick.specs.Choices.{pick_of, AreHeardSites}
use Rattle.gz_pick.specs.declared.heard.Heard.{Heard}
use Rattle.gz_pick.specs.declared.heard.Pick.TheVariants.{Forced, Free}
use Rattle.gz_core.specs.History.{Action, Caller, Trace}
use Rattle.gz_round.specs.Sites.{passes, heard_in, WasHeard, rows_known}
use Rattle.gz_round.specs.Sent.{of_sent, some_sent, promise_by, has_promised, has_promised_at, last_promise, top_round}
use Rattle.gz_round.specs.Shown.{IsCurrent, IsGrounded, IsClear, IsValueHeard}
use Rattle.gz_round.specs.LookBack.{IsLookedBack}

-- no call of a list promised this ballot
abbrev pub IsUnused : List Trace → BallotAt → Type 0
IsUnused [] b = Unit {0}
IsUnused (trace ∷ traces) b = (has_promised trace.actions b ≡ false) × IsUnused traces b

-- the greatest round of the ballots that the calls of a list promised
abbrev pub top_rounds : List Trace → ℕ
top_rounds [] = 0
top_rounds (trace ∷ traces) = max (top_round trace.actions) (top_rounds traces)

-- the greatest round that a session used, with the actions of its newest call
abbrev pub rounds_used : List Trace → List Action → ℕ
rounds_used past ms = max (top_rounds past) (top_round ms)

-- the round of the ballot that a row promises at a version, 0 where none is promised
abbrev pub slot_round : Slot → ℕ
slot_round Gone = 0
slot_round (DecidedAs x) = 0
slot_round (OpenAt promise vote) = promise.round

-- whether a row promises this ballot at the version, and has no vote of it there
abbrev pub slot_promises : Slot → BallotAt → Bool
slot_promises Gone b = false
slot_promises (DecidedAs x) b = false
slot_promises (OpenAt promise vote) b = same_ballot promise b && not (is_in b vote)

-- the same of a row that may be unknown
abbrev pub promises_known : ℕ → BallotAt → Option RowAt → Bool
promises_known v b None = false
promises_known v b (Some row) = slot_promises (slots row v) b

abbrev pub round_known : ℕ → Option RowAt → ℕ
round_known v None = 0
round_known v (Some row) = slot_round (slots row v)

-- the greatest number that one of the sites below n has
abbrev pub greatest : ℕ → (ℕ → ℕ) → ℕ
greatest zero f = 0
greatest (suc n) f = max (greatest n f) (f n)

-- the round of the next ballot at a version: one above all that the session used, and all that known rows promise there
abbrev pub next_round : Config → List Trace → List Action → ℕ → ℕ
next_round c past ms v = max (rounds_used past ms) (greatest c.n (λ s. round_known v (rows_known ms s))) + 1

-- whether a row promises a ballot above this one at the version
abbrev pub slot_promises_above : Slot → BallotAt → Bool
slot_promises_above Gone b = false
slot_promises_above (DecidedAs x) b = false
slot_promises_above (OpenAt promise vote) b = is_below b promise

abbrev pub promises_above : RowAt → ℕ → BallotAt → Bool
promises_above row v b = slot_promises_above (slots row v) b

-- the same of a row that may be unknown
abbrev pub above_known : ℕ → BallotAt → Option RowAt → Bool
above_known v b None = false
above_known v b (Some row) = promises_above row v b

abbrev pub is_promise : ℕ → BallotAt → Option (ℕ × BallotAt) → Bool
is_promise v b None = false
is_promise v b (Some p) = (p.0 == v) && same_ballot p.1 b

-- whether a row that promises a ballot above this one was heard since the last promise of it was sent
abbrev pub passed_since : ℕ → BallotAt → List Action → Bool
passed_since v b [] = false
passed_since v b (m ∷ ms) = if is_promise v b (of_sent promise_by m) then false else (passes (λ row. promises_above row v b) (heard_in m) || passed_since v b ms)

-- a promise of the next ballot of its session, or of the one that the call promised last, at a version that has a
-- ground; any other ballot that the call promised there was passed since
pub record MayPromise (c : Config) (w : Caller) (past : List Trace) (ms : List Action) (v : ℕ) (b : BallotAt) : Type 0 where
  pub above : 1 ≤ v
  pub classic : IsClassic b
  pub session : b.session ≡ w.name.session
  pub unused : IsUnused past b
  pub round : (b.round ≡ next_round c past ms v) ⊎ (last_promise ms ≡ Some (v, b))
  pub grounded : IsGrounded c ms v
  pub passed : (d : BallotAt) → d ≢ b → has_promised_at ms v d ≡ true → passed_since v d ms ≡ true

-- the version, ballot and name that a step votes for in a classic ballot
pub record ClassicCast : Type 0 where
  pub version : ℕ
  pub ballot : BallotAt
  pub name : Name

abbrev pub cast_by : RowStep → Option ClassicCast
cast_by (FastVote v value) = None
cast_by (Promise v b) = None
cast_by (ClassicVote v b value) = Some (record { version = v; ballot = b; name = name_of value })
cast_by (Decide v value) = None
cast_by (Trim to value) = None

-- whether the call sent a vote in this ballot for the value of this name
abbrev pub has_classic_cast : List Action → ℕ → BallotAt → Name → Bool
has_classic_cast ms v b y = some_sent cast_by (λ k. (k.version == v) && same_ballot k.ballot b && same_name k.name y) ms

-- a row of the site was heard that promises the ballot, with this vote of a ballot below
abbrev pub IsPromiseHeard : List Action → ℕ → BallotAt → Heard → Type 0
IsPromiseHeard ms v b h = (row : RowAt) × WasHeard ms h.site row × (slots row v ≡ OpenAt b h.vote) × (IsVoteOf b h.vote → ⊥)

-- the vote that was heard at this place has this name
abbrev pub IsNamedAt : List Heard → ℕ → Name → Type 0
IsNamedAt heard at x = (h : Heard) × (vote : BallotAt × Name) × (slice_get heard at ≡ Some h) × (h.vote ≡ Some vote) × (vote.1 ≡ x)

-- where the choice is free, a call that writes proposes its own value, and another one that it heard a vote for
abbrev pub MayPropose : Config → Caller → List Action → ℕ → Value → Type 0
MayPropose c w ms v x =
    ((w.own ≡ Some x) × IsCurrent c ms v × IsClear c w.name ms v)
    ⊎ ((s : ℕ) × (row : RowAt) × (b : BallotAt) × (w.own ≡ None) × WasHeard ms s row × (row_vote row v ≡ Some (b, name_of x)))

-- the promises that were heard leave the value to the call
abbrev pub IsLeft : Config → Caller → List Action → ℕ → List Heard → Value → Type 0
IsLeft c w ms v heard x =
    ((at : ℕ) × (pick_of c.n c.qf heard ≡ Forced at) × IsNamedAt heard at (name_of x))
    ⊎ ((pick_of c.n c.qf heard ≡ Free) × MayPropose c w ms v x)

-- the value itself is the call's own, or was heard at the version
abbrev pub IsValueKnown : Caller → List Action → ℕ → Value → Type 0
IsValueKnown w ms v x = (w.own ≡ Some x) ⊎ IsValueHeard ms v x

-- a vote in a classic ballot that the call promised: rows of a classic quorum promise it, their votes leave the
-- value to the call, which knows it, and all its votes of the ballot are for one value; where they leave it to a call
-- that writes nothing, it is the one that the call looked back at just before it first promised the ballot
pub record MayClassicVote (c : Config) (w : Caller) (ms : List Action) (v : ℕ) (b : BallotAt) (x : Value) : Type 0 where
  pub above : 1 ≤ v
  pub promised : has_promised_at ms v b ≡ true
  pub heard : List Heard
  pub sites : AreHeardSites c.n heard
  pub enough : c.qc ≤ length heard
  pub rows : All (IsPromiseHeard ms v b) heard
  pub choice : IsLeft c w ms v heard x
  pub known : IsValueKnown w ms v x
  pub one : (y : Name) → has_classic_cast ms v b y ≡ true → y ≡ name_of x
  pub back : w.own ≡ None → pick_of c.n c.qf heard ≡ Free → IsLookedBack c ms v b (Some x)
