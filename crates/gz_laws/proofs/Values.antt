-- What a step makes has the values of the row that it was made on, and its own.
use Rattle.std.proofs.Common.{◌≡◌, ℕ, ◌+◌, ◌≤◌, inl, inr, List, [], ◌∷◌, Some, None, true, false, refl, ap, sym, ◌∙◌, subst, arith}
use Rattle.std.specs.Prelude.{Option, ◌==◌, if◌then◌else◌, slice_get, filter, nat_lt}
use Rattle.gz_core.specs.Names.{Name, fast}
use Rattle.gz_core.specs.Rows.{RowAt, column_in, empty_row}
use Rattle.gz_core.specs.declared.rows.Column.{Column}
use Rattle.gz_core.specs.declared.rows.Column.TheVariants.{Open, Decided}
use Rattle.gz_core.specs.declared.values.Value.{Value}
use Rattle.gz_config.specs.declared.Config.{Config}
use Rattle.gz_core.specs.declared.requests.RowStep.{RowStep}
use Rattle.gz_core.specs.declared.requests.RowStep.TheVariants.{FastVote, Promise, ClassicVote, Decide, Trim}
use Rattle.gz_core.specs.declared.requests.Op.{Op}
use Rattle.gz_core.specs.declared.requests.Op.TheVariants.{WriteRow}
use Rattle.gz_core.specs.declared.requests.Reply.{Reply}
use Rattle.gz_core.specs.declared.requests.Reply.TheVariants.{Row, NoRow, Written}
use Rattle.gz_accept.specs.Steps.{vote_in, with_column, with_column_at}
use Rattle.gz_accept.proofs.Seen.{column_in_with, column_in_filter}
use Rattle.gz_round.specs.declared.hearing.Seen.{Seen}
use Rattle.gz_core.specs.History.{Asked, Action, Sent, Handed, GaveUp, Rested, GaveIn, Caller, Trace}
use Rattle.gz_round.specs.Rounds.{IsValueKnown}
use Rattle.gz_round.specs.Sending.{AreAllowed, MayMake, IsMade}
use Rattle.gz_laws.proofs.Asking.{MayAskRow}
use Rattle.gz_round.specs.Shown.{column_value, vote_value}
use Rattle.gz_round.specs.Sites.{site_now, seen_in, heard_in, written_by, WasHeard}
use Rattle.gz_history.specs.declared.record.CallRec.{CallRec}
use Rattle.gz_laws.specs.Carried.{ActionCarried, ActionsCarried}
use Rattle.gz_world.specs.States.{RequestAt, numbered}
use Rattle.gz_laws.specs.Valued.{IsGivenTo, AreGiven, IsGivenOp, IsGivenReply}
use Rattle.gz_laws.proofs.AsHeard.{of_reply, heard_case}
use Rattle.gz_laws.proofs.Keeping.{awaited_key}
use Rattle.gz_round.proofs.Known.{last_heard}
use Rattle.gz_core.specs.Calls.{key_of}
use Rattle.gz_laws.specs.Runs.{key_asked}
use Rattle.std.proofs.lemmas.Option.{none-some, same_Some}
use Rattle.std.proofs.lemmas.Bool.{cases_Bool, cases_lt}
use Rattle.std.proofs.lemmas.Bool.Decides.{nat_tests}

-- a row with another column has the values of the old one, and that column's
with_given : (c : Config) (calls : List CallRec) (key : List ℕ) (row : RowAt) (v : ℕ) (column : Column) → AreGiven c calls key row → ((x : Value) → column_value (Some column) ≡ Some x → IsGivenTo c calls key x) → AreGiven c calls key (with_column_at row v column)
with_given c calls key row v column old own = λ u x h.
    let k : column_value (if v == u then Some column else column_in row.columns u) ≡ Some x = sym (ap column_value (column_in_with v column row.columns u)) ∙ h in
    elim (v == u) as (λ t. column_value (if t then Some column else column_in row.columns u) ≡ Some x → IsGivenTo c calls key x) [
      | true ↦ λ e. own x e
      | false ↦ λ e. old u x e
    ] k

-- the columns that a collection leaves have the values that they had
none_left : (to : ℕ) (cs : List (ℕ × Column)) (u : ℕ) → u ≤ to → column_in (filter (λ c. nat_lt to c.0) cs) u ≡ None
none_left to [] u low = refl
none_left to (c ∷ cs) u low =
    elim (cases_Bool (nat_lt to c.0)) [
      | inl e ↦ let other : (c.0 == u) ≡ false = grind (arith, nat_tests) in rw (e, other) (none_left to cs u low)
      | inr e ↦ rw e (none_left to cs u low)
    ]

left_value : (to : ℕ) (cs : List (ℕ × Column)) (u : ℕ) (x : Value) → column_value (column_in (filter (λ c. nat_lt to c.0) cs) u) ≡ Some x → column_value (column_in cs u) ≡ Some x
left_value to cs u x h = elim (cases_lt to u) [
  | inl above ↦ sym (ap column_value (column_in_filter to cs u above)) ∙ h
  | inr low ↦ absurd (none-some x (sym (ap column_value (none_left to cs u low)) ∙ h))
]

given_same : (c : Config) (calls : List CallRec) (key : List ℕ) (x y : Value) → IsGivenTo c calls key x → Some x ≡ Some y → IsGivenTo c calls key y
given_same c calls key x y h e = subst (IsGivenTo c calls key) (same_Some x y e) h

-- the vote that a promise is made over is the row's
kept_vote : (o : Option Column) (x : Value) → vote_value (vote_in o) ≡ Some x → column_value o ≡ Some x
kept_vote None x e = cc
kept_vote (Some (Open promise vote)) x e = e
kept_vote (Some (Decided value)) x e = cc

-- what a call of the object heard was given to it, and what it writes is
abbrev pub AreHeardGiven : Config → List CallRec → List ℕ → List Action → Type 0
AreHeardGiven c calls key ms = (s : ℕ) (row : RowAt) → WasHeard ms s row → AreGiven c calls key row

abbrev pub IsOwnGiven : Config → List CallRec → Caller → Type 0
IsOwnGiven c calls w = (x : Value) → w.own ≡ Some x → IsGivenTo c calls (key_of w.call) x

known_given : (c : Config) (calls : List CallRec) (w : Caller) (ms : List Action) (v : ℕ) (x : Value) → IsOwnGiven c calls w → AreHeardGiven c calls (key_of w.call) ms → IsValueKnown w ms v x → IsGivenTo c calls (key_of w.call) x
known_given c calls w ms v x own heard (inl e) = own x e
known_given c calls w ms v x own heard (inr h) = heard h.0 h.1 h.2 v x h.3

-- a step that a call may make on a row
made_given : (c : Config) (calls : List CallRec) (w : Caller) (past : List Trace) (ms : List Action) (step : RowStep) (old new : RowAt) → IsOwnGiven c calls w → AreHeardGiven c calls (key_of w.call) ms → MayMake c w past ms step → IsMade step old new → AreGiven c calls (key_of w.call) old → AreGiven c calls (key_of w.call) new
made_given c calls w past ms (FastVote v x) old new own heard may m row =
    let key = key_of w.call in
    subst (AreGiven c calls key) (sym m.1) (with_given c calls key old v (Open fast (Some (record { ballot = fast; value = x }))) row (λ y e. given_same c calls key x y (own x may.0) e))
made_given c calls w past ms (Promise v b) old new own heard may m row =
    let key = key_of w.call in
    subst (AreGiven c calls key) (sym m.1) (with_given c calls key old v (Open b (vote_in (column_in old.columns v))) row (λ y e. row v y (kept_vote (column_in old.columns v) y e)))
made_given c calls w past ms (ClassicVote v b x) old new own heard may m row =
    let key = key_of w.call in
    subst (AreGiven c calls key) (sym m.1) (with_given c calls key old v (Open b (Some (record { ballot = b; value = x }))) row (λ y e. given_same c calls key x y (known_given c calls w ms v x own heard may.known) e))
made_given c calls w past ms (Decide v x) old new own heard may m row =
    let key = key_of w.call in
    subst (AreGiven c calls key) (sym m.1) (with_given c calls key old v (Decided x) row (λ y e. given_same c calls key x y (known_given c calls w ms v x own heard may.1) e))
made_given c calls w past ms (Trim to x) old new own heard may m row =
    let key = key_of w.call in
    let next = with_given c calls key old (to + 1) (Decided x) row (λ y e. given_same c calls key x y (known_given c calls w ms (to + 1) x own heard (inr may.known)) e) in
    subst (AreGiven c calls key) (sym m.1) (λ u y e. next u y (left_value to (with_column (to + 1) (Decided x) old.columns) u y e))

empty_given : (c : Config) (calls : List CallRec) (key : List ℕ) → AreGiven c calls key empty_row
empty_given c calls key = λ v x e. cc

-- the row that a reply shows
abbrev IsGivenSeen : Config → List CallRec → List ℕ → Option Seen → Type 0
IsGivenSeen c calls key None = Unit {0}
IsGivenSeen c calls key (Some seen) = AreGiven c calls key seen.row

seen_given : (c : Config) (calls : List CallRec) (op : Op) (reply : Reply) → IsGivenOp c calls op → IsGivenReply c calls (key_asked op) reply → IsGivenSeen c calls (key_asked op) (seen_in (written_by op) reply)
seen_given c calls op (Row etag row) o r = r
seen_given c calls op NoRow o r = empty_given c calls (key_asked op)
seen_given c calls (WriteRow key expect step row) (Written etag) o r = o
seen_given c calls op reply o r = tt

-- the requests of a net and their replies
pub record AreNetGiven (c : Config) (calls : List CallRec) (net : List RequestAt) : Type 0 where
  pub requests : (n : ℕ) (r : RequestAt) → numbered net n ≡ Some r → IsGivenOp c calls r.op
  pub replies : (n i tick : ℕ) (r : RequestAt) (reply : Reply) → numbered net n ≡ Some r → slice_get r.replies i ≡ Some (tick, reply) → IsGivenReply c calls (key_asked r.op) reply

handed_given : (c : Config) (calls : List CallRec) (net : List RequestAt) (name : Name) (a : Asked) (reply : Reply) → AreNetGiven c calls net → ActionCarried c.n net name (Handed a reply) → IsGivenSeen c calls (key_asked a.op) (seen_in (written_by a.op) reply)
handed_given c calls net name a reply all carried =
    let r = carried.0 in
    let req = carried.1.0 in
    let has = carried.1.1 in
    let shown = seen_given c calls r.op has.made (all.requests a.number r req.there) (all.replies a.number has.place has.tick r has.made req.there has.there) in
    subst (λ (op : Op). IsGivenSeen c calls (key_asked op) (seen_in (written_by op) reply)) req.op_is (of_reply (IsGivenSeen c calls (key_asked r.op)) c.n r reply has tt shown)

seen_row : (c : Config) (calls : List CallRec) (key : List ℕ) (o : Option Seen) (seen : Seen) → o ≡ Some seen → IsGivenSeen c calls key o → AreGiven c calls key seen.row
seen_row c calls key o seen e h = subst (IsGivenSeen c calls key) e h

-- what a call heard was given
pub heard_given : (c : Config) (calls : List CallRec) (net : List RequestAt) (w : Caller) (past : List Trace) (ms : List Action) → AreNetGiven c calls net → AreAllowed c w past ms → ActionsCarried c.n net w.name ms → AreHeardGiven c calls (key_of w.call) ms
heard_given c calls net w past [] all allowed carried s row h = absurd h
heard_given c calls net w past (m ∷ ms) all allowed carried s row (inr h) = heard_given c calls net w past ms all allowed.1 carried.1 s row h
heard_given c calls net w past (Handed a reply ∷ ms) all allowed carried s row (inl h) =
    let key = key_of w.call in
    let given : IsGivenSeen c calls key (heard_in (Handed a reply))
    = heard_case (IsGivenSeen c calls key) a reply
    (λ about. subst (λ k. IsGivenSeen c calls k (seen_in (written_by a.op) reply)) (awaited_key c w past ms a.site a allowed.1 (allowed.0 about).0) (handed_given c calls net w.name a reply all carried.0)) tt in
    subst (AreGiven c calls key) h.3 (seen_row c calls key (heard_in (Handed a reply)) h.0 h.2 given)
heard_given c calls net w past (Sent a ∷ ms) all allowed carried s row (inl h) = let bad = h.2 in cc
heard_given c calls net w past (GaveUp a ∷ ms) all allowed carried s row (inl h) = let bad = h.2 in cc
heard_given c calls net w past (Rested ∷ ms) all allowed carried s row (inl h) = let bad = h.2 in cc
heard_given c calls net w past (GaveIn ∷ ms) all allowed carried s row (inl h) = let bad = h.2 in cc

-- a request that a call may send
pub ask_given : (c : Config) (calls : List CallRec) (w : Caller) (past : List Trace) (ms : List Action) (s : ℕ) (op : Op) → IsOwnGiven c calls w → AreHeardGiven c calls (key_of w.call) ms → MayAskRow c w past ms (site_now ms s) op → IsGivenOp c calls op
ask_given c calls w past ms s (WriteRow key expect step row) own heard may =
    let m = (may refl).1 in
    let last : Seen = record { etag = expect; row = m.before } in
    subst (λ k. AreGiven c calls k row) (sym (may refl).0) (made_given c calls w past ms step m.before row own heard m.guard m.made (heard s m.before (last_heard ms s last m.last)))
ask_given c calls w past ms s op own heard may = tt
