-- Where a step is done, and that what it makes is the acceptor's step over the row seen version by version.
use Rattle.std.proofs.Common.{◌≡◌, ℕ, ◌+◌, ◌<◌, true, false, List, [], ◌∷◌, refl, sym, subst, inl, inr, arith, Some, None, Option, ◌∙◌, ap}
use Rattle.std.specs.Prelude.{◌==◌, nat_le, ◌≢◌}
use Rattle.std.proofs.lemmas.Bool.{cases_Bool, false≢true}
use Rattle.std.proofs.lemmas.Bool.Decides.{nat_tests}
use Rattle.gz_core.specs.Names.{Name, BallotAt, fast, IsClassic, is_below, same_ballot, same_name}
use Rattle.gz_core.specs.Values.{name_of}
use Rattle.gz_core.specs.Rows.{RowAt, IsRow, IsColumn, IsVoteUnder, AreColumns, column_in}
use Rattle.gz_core.specs.declared.slots.Slot.{Slot}
use Rattle.gz_core.specs.declared.slots.Slot.TheVariants.{Gone, DecidedAs, OpenAt}
use Rattle.gz_core.specs.Slots.{Act, slots, slot_of, with_slot, vote_pair, Makes, VotesFast, Promises, VotesClassic, Decides, Trims, IsVoteOf}
use Rattle.gz_core.specs.declared.values.Value.{Value}
use Rattle.gz_core.specs.declared.rows.Vote.{Vote}
use Rattle.gz_core.specs.declared.rows.Column.{Column}
use Rattle.gz_core.specs.declared.rows.Column.TheVariants.{Open, Decided}
use Rattle.gz_accept.specs.declared.answers.Step.TheVariants.{Done, Already, Below, Settled}
use Rattle.gz_accept.specs.Steps.{is_cast_in, vote_in, fast_at, promise_at, classic_at, decide_at, trim_at, fast_answer, promise_answer, classic_answer, decide_answer, trim_answer, fast_voted, promised, classic_voted, decided, trimmed_to}
use Rattle.gz_core.proofs.Ballots.{same_refl, name_means}
use Rattle.gz_accept.proofs.Ballots.{below_otherwise, low_under, is_fast}
use Rattle.gz_accept.proofs.Seen.{slots_above, slots_there, slot_there, slots_with, slots_trimmed}

-- a slot that lets a fast vote in has no vote and no promise
fast_free : (floor : ℕ) (slot : Slot) → fast_at floor slot ≡ Done → slot ≡ OpenAt fast None
fast_free floor Gone done = absurd cc
fast_free floor (DecidedAs x) done = absurd cc
fast_free floor (OpenAt promise None) done =
    elim (cases_Bool (is_below fast promise)) [
      | inl e ↦ let no : Below promise ≡ Done = rw e at done in absurd cc
      | inr e ↦ ap (λ b. OpenAt b None) (is_fast promise e)
    ]
fast_free floor (OpenAt promise (Some vote)) done =
    elim (cases_Bool (is_below fast promise)) [
      | inl e ↦ let no : Below promise ≡ Done = rw e at done in absurd cc
      | inr e ↦ let no : Already ≡ Done = rw e at done in absurd cc
    ]

-- a version that is known to be open was not collected
seen_there : (row : RowAt) (v : ℕ) (promise : BallotAt) (vote : Option (BallotAt × Name)) → slots row v ≡ OpenAt promise vote → slots row v ≢ Gone
seen_there row v promise vote seen = λ gone. cc

pub makes_fast : (row : RowAt) (v : ℕ) (x : Value) → fast_answer row v ≡ Done → Makes (VotesFast v (name_of x)) (slots row) (slots (fast_voted row v x))
makes_fast row v x done =
    let free = fast_free row.floor (slots row v) done in
    (free, slots_with row v _ (seen_there row v fast None free))

-- a slot that lets a promise in is open, below the ballot
promise_low : (b : BallotAt) (floor : ℕ) (slot : Slot) → promise_at b floor slot ≡ Done →
    (promise : BallotAt) × (vote : Option (BallotAt × Name)) × (slot ≡ OpenAt promise vote) × (is_below promise b ≡ true)
promise_low b floor Gone done = absurd cc
promise_low b floor (DecidedAs x) done = absurd cc
promise_low b floor (OpenAt promise vote) done =
    elim (cases_Bool (is_below b promise)) [
      | inl e ↦ let no : Below promise ≡ Done = rw e at done in absurd cc
      | inr e ↦ elim (cases_Bool (same_ballot promise b)) [
        | inl f ↦ let no : Already ≡ Done = rw (e, f) at done in absurd cc
        | inr f ↦ (promise, vote, refl, below_otherwise promise b e f)
      ]
    ]

-- the vote of a slot is that of its column
pair_kept : (column : Option Column) (promise : BallotAt) (vote : Option (BallotAt × Name)) → slot_of column ≡ OpenAt promise vote → vote_pair (vote_in column) ≡ vote
pair_kept None promise vote same = cc
pair_kept (Some (Open held cast)) promise vote same = cc
pair_kept (Some (Decided value)) promise vote same = absurd cc

pub makes_promise : (row : RowAt) (v : ℕ) (b : BallotAt) → promise_answer row v b ≡ Done → Makes (Promises v b) (slots row) (slots (promised row v b))
makes_promise row v b done =
    let low = promise_low b row.floor (slots row v) done in
    let there = seen_there row v low.0 low.1 low.2 in
    let kept = pair_kept (column_in row.columns v) low.0 low.1 (sym (slots_there row v there) ∙ low.2) in
    (low.0, (low.1, (low.2, (low.3, slots_with row v _ there ∙ ap (λ vote. with_slot (slots row) v (OpenAt b vote)) kept))))

-- a slot that lets a classic vote in is open, with no promise above the ballot and no vote in it
classic_low : (b : BallotAt) (floor : ℕ) (slot : Slot) → classic_at b floor slot ≡ Done →
    (promise : BallotAt) × (vote : Option (BallotAt × Name)) × (slot ≡ OpenAt promise vote) × (is_below b promise ≡ false) × (is_cast_in b vote ≡ false)
classic_low b floor Gone done = absurd cc
classic_low b floor (DecidedAs x) done = absurd cc
classic_low b floor (OpenAt promise vote) done =
    elim (cases_Bool (is_below b promise)) [
      | inl e ↦ let no : Below promise ≡ Done = rw e at done in absurd cc
      | inr e ↦ elim (cases_Bool (is_cast_in b vote)) [
        | inl f ↦ let no : Already ≡ Done = rw (e, f) at done in absurd cc
        | inr f ↦ (promise, vote, refl, e, f)
      ]
    ]

no_vote_of : (b : BallotAt) (vote : Option (BallotAt × Name)) → is_cast_in b vote ≡ false → IsVoteOf b vote → ⊥
no_vote_of b None none vote = vote
no_vote_of b (Some cast) none same = false≢true (sym none ∙ (ap (λ a. same_ballot a b) same ∙ same_refl b))

pub makes_classic : (row : RowAt) (v : ℕ) (b : BallotAt) (x : Value) → classic_answer row v b ≡ Done → Makes (VotesClassic v b (name_of x)) (slots row) (slots (classic_voted row v b x))
makes_classic row v b x done =
    let low = classic_low b row.floor (slots row v) done in
    (low.0, (low.1, (low.2, (low.3, (no_vote_of b low.1 low.4, slots_with row v _ (seen_there row v low.0 low.1 low.2))))))

-- a slot that lets a decision in is open
decide_open : (floor : ℕ) (slot : Slot) → decide_at floor slot ≡ Done → (promise : BallotAt) × (vote : Option (BallotAt × Name)) × (slot ≡ OpenAt promise vote)
decide_open floor Gone done = absurd cc
decide_open floor (DecidedAs x) done = absurd cc
decide_open floor (OpenAt promise vote) done = (promise, vote, refl)

pub makes_decision : (row : RowAt) (v : ℕ) (x : Value) → decide_answer row v ≡ Done → Makes (Decides v (name_of x)) (slots row) (slots (decided row v x))
makes_decision row v x done =
    let seen = decide_open row.floor (slots row v) done in
    (seen.0, (seen.1, (seen.2, slots_with row v _ (seen_there row v seen.0 seen.1 seen.2))))

-- a floor that may rise is lower, and the version above it isn't decided with another name
pub trim_above : (row : RowAt) (to : ℕ) (x : Name) → trim_answer row to x ≡ Done → row.floor < to
trim_above row to x done =
    elim (cases_Bool (nat_le to row.floor)) [
      | inl e ↦ let no : Already ≡ Done = rw e at done in absurd cc
      | inr e ↦ grind (arith, nat_tests)
    ]

trim_next : (row : RowAt) (to : ℕ) (x : Name) → trim_answer row to x ≡ Done → trim_at x (slots row (to + 1)) ≡ Done
trim_next row to x done =
    elim (cases_Bool (nat_le to row.floor)) [
      | inl e ↦ let no : Already ≡ Done = rw e at done in absurd cc
      | inr e ↦ rw e at done
    ]

trim_named : (x y : Name) (slot : Slot) → trim_at x slot ≡ Done → slot ≡ DecidedAs y → y ≡ x
trim_named x y Gone done decided = absurd cc
trim_named x y (OpenAt promise vote) done decided = absurd cc
trim_named x y (DecidedAs z) done decided =
    elim (cases_Bool (same_name z x)) [
      | inl e ↦ let one : z ≡ y = cc in sym one ∙ name_means z x e
      | inr e ↦ let no : Settled ≡ Done = rw e at done in absurd cc
    ]

pub makes_trim : (row : RowAt) (to : ℕ) (x : Value) → trim_answer row to (name_of x) ≡ Done → Makes (Trims to (name_of x)) (slots row) (slots (trimmed_to row to x))
makes_trim row to x done =
    let above = trim_above row to (name_of x) done in (
      (λ gone. slot_there (column_in row.columns to) (sym (slots_above row to above) ∙ gone)),
      (
        (λ y decided. trim_named (name_of x) y (slots row (to + 1)) (trim_next row to (name_of x) done) decided),
        slots_trimmed row to x above,
      ),
    )

-- each column of a row keeps its rule
abbrev pub KeepsRule : Option Column → Type 0
KeepsRule None = Unit {0}
KeepsRule (Some column) = IsColumn column

pub column_rule : (cs : List (ℕ × Column)) (v : ℕ) → AreColumns cs → KeepsRule (column_in cs v)
column_rule [] v rules = tt
column_rule (c ∷ cs) v rules =
    elim (cases_Bool (c.0 == v)) [ inl e ↦ rw e rules.0 | inr e ↦ rw e (column_rule cs v rules.1) ]

not_fast : (b : BallotAt) → IsClassic b → b ≢ fast
not_fast b classic = λ same. let none : b.round ≡ 0 = ap (λ c. c.round) same in let some = classic.0 in absurd (omega arith)

vote_under : (promise b : BallotAt) (vote : Option (BallotAt × Name)) (column : Option Column) → slot_of column ≡ OpenAt promise vote → KeepsRule column → is_below promise b ≡ true → IsClassic b → IsVoteUnder b (vote_in column)
vote_under promise b vote None same rule below classic = not_fast b classic
vote_under promise b vote (Some (Decided value)) same rule below classic = absurd cc
vote_under promise b vote (Some (Open held None)) same rule below classic = not_fast b classic
vote_under promise b vote (Some (Open held (Some cast))) same rule below classic =
    let high : held ≡ promise = cc in
    low_under cast.ballot promise b (subst (λ (a : BallotAt). is_below a cast.ballot ≡ false) high rule) below

-- a vote stays under a promise that rises
pub promise_rule : (row : RowAt) (v : ℕ) (b : BallotAt) (vote : Option Vote) → IsRow row → IsClassic b → promise_answer row v b ≡ Done → vote ≡ vote_in (column_in row.columns v) → IsVoteUnder b vote
promise_rule row v b vote rule classic done kept =
    let low = promise_low b row.floor (slots row v) done in
    let there = seen_there row v low.0 low.1 low.2 in
    subst (λ (held : Option Vote). IsVoteUnder b held) (sym kept)
    (vote_under low.0 b low.1 (column_in row.columns v) (sym (slots_there row v there) ∙ low.2) (column_rule row.columns v rule.columns) low.3 classic)

-- each step, where the row after it is known by an equation
pub made : (act : Act) (old new made_one : RowAt) → Makes act (slots old) (slots made_one) → new ≡ made_one → Makes act (slots old) (slots new)
made act old new made_one makes same = subst (λ (row : RowAt). Makes act (slots old) (slots row)) (sym same) makes
