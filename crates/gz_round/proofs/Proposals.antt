-- The rows that promise a ballot, and the value that is proposed by their votes.
use Rattle.std.proofs.Common.{◌≡◌, ◌≢◌, ℕ, zero, suc, ◌+◌, ◌<◌, ◌≤◌, Bool, true, false, cond, ◌&&◌, ◌==◌, not, List, [], ◌∷◌, ◌++◌, length, take, get_or, Option, Some, None, refl, sym, ap, ◌∙◌, subst, inl, inr, ◌⊎◌, arith, leb}
use Rattle.std.specs.Prelude.{nat_lt, IsSome}
use Rattle.std.specs.List.{All, slice_get, count_by, position}
use Rattle.std.proofs.lemmas.Bool.{cases_Bool, cond-true, cond-false, and_parts, true≢false, false≢true, both_ways, ne_eqb}
use Rattle.std.proofs.lemmas.Option.{same_Some, none-some, slice_get_within, get_or_from_slice_get}
use Rattle.std.proofs.lemmas.List.Elements.{All-nil, All-push, All-weaker}
use Rattle.std.proofs.Math.ListN.{length-append}
use Rattle.std.proofs.Math.Seq.{take-length}
use Rattle.std.proofs.lemmas.List.Sums.{count_by_more_yes, count_by_more_no}
use Rattle.std.proofs.lemmas.List.Quantifiers.{position-Some}
use Rattle.gz_core.specs.Names.{Name, BallotAt, same_ballot, fast}
use Rattle.gz_core.specs.Values.{name_of}
use Rattle.gz_core.specs.Rows.{RowAt, column_in}
use Rattle.gz_core.specs.Slots.{slots, slot_of, vote_pair, IsVoteOf}
use Rattle.gz_core.specs.declared.slots.Slot.{Slot}
use Rattle.gz_core.specs.declared.slots.Slot.TheVariants.{Gone, DecidedAs, OpenAt}
use Rattle.gz_core.specs.declared.values.Value.{Value}
use Rattle.gz_core.specs.declared.rows.Vote.{Vote}
use Rattle.gz_core.specs.declared.rows.Column.{Column}
use Rattle.gz_core.specs.declared.rows.Column.TheVariants.{Open, Decided}
use Rattle.gz_config.specs.declared.Config.{Config}
use Rattle.gz_core.proofs.Ballots.{same_means, same_from}
use Rattle.gz_pick.specs.Evidences.{is_in}
use Rattle.gz_pick.specs.Choices.{pick_of, choice_in, choice_at, carries, has_threshold, top_of, has_heard_site, AreHeardSites}
use Rattle.gz_pick.specs.declared.heard.Heard.{Heard}
use Rattle.gz_pick.specs.declared.heard.Pick.TheVariants.{Forced, Free}
use Rattle.gz_round.specs.declared.run.Run.{Run}
use Rattle.gz_round.specs.declared.run.Stage.TheVariants.{Prepare, Accept}
use Rattle.gz_core.specs.History.{Action, Caller, Trace}
use Rattle.gz_round.specs.Sent.{last_promise}
use Rattle.gz_round.specs.LookBack.{or_next, IsLookedBack}
use Rattle.gz_round.specs.Rounds.{MayClassicVote, MayPropose, IsPromiseHeard, IsLeft, promises_known, slot_promises, has_classic_cast, rounds_used, IsValueKnown}
use Rattle.gz_round.specs.Causes.{row_value, column_value, vote_value}
use Rattle.gz_round.specs.Sending.{IsUndecided, MayGiveIn, NoValue}
use Rattle.gz_round.specs.Standing.{Knows, Stands, StageStands, MayPass}
use Rattle.gz_round.specs.Choosing.{promised_vote, heard_vote, IsHeardIn, AreHeardIn, IsProposal}
use Rattle.gz_round.specs.Acting.{IsGoalUnmet, Carries, ChoiceMeans, choice_of}
use Rattle.gz_round.specs.Goals.{IsFewIn, IsUnmet, IsOvertakenAskably}
use Rattle.gz_round.proofs.Targets.{writes_current}
use Rattle.gz_round.proofs.Known.{listed_known, known_heard}
use Rattle.gz_round.proofs.LookBacks.{back_heard, last_promised_at}
use Rattle.gz_round.proofs.Arms.{stands_stage}

vote_yes : (b : BallotAt) (slot : Slot) (vote : Option (BallotAt × Name)) → promised_vote b slot ≡ Some vote → slot_promises slot b ≡ true
vote_yes b Gone vote e = absurd (none-some vote e)
vote_yes b (DecidedAs x) vote e = absurd (none-some vote e)
vote_yes b (OpenAt promise held) vote e =
    elim (cases_Bool (same_ballot promise b && not (is_in b held))) [
      | inl k ↦ k
      | inr k ↦ absurd (none-some vote (sym (cond-false (same_ballot promise b && not (is_in b held)) (Some held) None k) ∙ e))
    ]

vote_no : (b : BallotAt) (slot : Slot) → promised_vote b slot ≡ None → slot_promises slot b ≡ false
vote_no b Gone e = refl
vote_no b (DecidedAs x) e = refl
vote_no b (OpenAt promise held) e =
    elim (cases_Bool (same_ballot promise b && not (is_in b held))) [
      | inl k ↦ absurd (none-some held (sym e ∙ cond-true (same_ballot promise b && not (is_in b held)) (Some held) None k))
      | inr k ↦ k
    ]

known_yes : (v : ℕ) (b : BallotAt) (o : Option RowAt) (vote : Option (BallotAt × Name)) → heard_vote v b o ≡ Some vote → promises_known v b o ≡ true
known_yes v b None vote e = absurd (none-some vote e)
known_yes v b (Some row) vote e = vote_yes b (slots row v) vote e

known_no : (v : ℕ) (b : BallotAt) (o : Option RowAt) → heard_vote v b o ≡ None → promises_known v b o ≡ false
known_no v b None e = refl
known_no v b (Some row) e = vote_no b (slots row v) e

has_pushed : (s : ℕ) (hs : List Heard) (h : Heard) → has_heard_site s hs ≡ false → h.site ≢ s → has_heard_site s (hs ++ (h ∷ [])) ≡ false
has_pushed s [] h e n = cond-false (h.site == s) true false (ne_eqb h.site s n)
has_pushed s (g ∷ hs) h e n =
    elim (cases_Bool (g.site == s)) [
      | inl k ↦ absurd (true≢false (sym (cond-true (g.site == s) true (has_heard_site s hs) k) ∙ e))
      | inr k ↦ cond-false (g.site == s) true (has_heard_site s (hs ++ (h ∷ []))) k ∙ has_pushed s hs h (sym (cond-false (g.site == s) true (has_heard_site s hs) k) ∙ e) n
    ]

sites_pushed : (n at : ℕ) (hs : List Heard) (h : Heard) → AreHeardSites n hs → All (λ (g : Heard). g.site < at) hs → h.site ≡ at → at < n → AreHeardSites n (hs ++ (h ∷ []))
sites_pushed n at [] h are below e l = (omega arith, (refl, tt))
sites_pushed n at (g ∷ hs) h are below e l =
    let low : g.site < at = below zero g (omega arith) in
    (are.0, (has_pushed g.site hs h are.1.0 (λ (k : h.site ≡ g.site). omega arith), sites_pushed n at hs h are.1.1 (λ (k : ℕ) (d : Heard) (i : k < length hs). below (suc k) d (omega arith)) e l))

below_more : (at : ℕ) (hs : List Heard) → All (λ (g : Heard). g.site < at) hs → All (λ (g : Heard). g.site < at + 1) hs
below_more at hs h = λ (k : ℕ) (d : Heard) (i : k < length hs). let low = h k d i in omega arith

-- no row yet
pub heard_none : (c : Config) (rows : List (Option RowAt)) (v : ℕ) (b : BallotAt) → AreHeardIn c rows v b [] 0
heard_none c rows v b = record { sites = tt; below = All-nil (λ (h : Heard). h.site < 0); rows_are = All-nil (IsHeardIn rows v b); counted = refl }

-- a row that is not such a row
pub heard_skip : (c : Config) (rows : List (Option RowAt)) (v : ℕ) (b : BallotAt) (heard : List Heard) (at : ℕ) (row : Option RowAt) → slice_get rows at ≡ Some row → heard_vote v b row ≡ None → AreHeardIn c rows v b heard at → AreHeardIn c rows v b heard (at + 1)
heard_skip c rows v b heard at row e none h = record {
  sites = h.sites;
  below = below_more at heard h.below;
  rows_are = h.rows_are;
  counted = h.counted ∙ sym (count_by_more_no (promises_known v b) rows at row (slice_get_within rows at row e) (ap (promises_known v b) (get_or_from_slice_get rows at row row e) ∙ known_no v b row none));
}

heard_row : (rows : List (Option RowAt)) (v : ℕ) (b : BallotAt) (h : Heard) (at : ℕ) (row : Option RowAt) → slice_get rows at ≡ Some row → h.site ≡ at → heard_vote v b row ≡ Some h.vote → IsHeardIn rows v b h
heard_row rows v b h at None e s k = absurd (none-some h.vote k)
heard_row rows v b h at (Some row) e s k = (row, subst (λ (z : ℕ). slice_get rows z ≡ Some (Some row)) (sym s) e, k)

-- one more of them
pub heard_push : (c : Config) (rows : List (Option RowAt)) (v : ℕ) (b : BallotAt) (heard : List Heard) (h : Heard) (at : ℕ) (row : Option RowAt) → at < c.n → slice_get rows at ≡ Some row → h.site ≡ at → heard_vote v b row ≡ Some h.vote → AreHeardIn c rows v b heard at → AreHeardIn c rows v b (heard ++ (h ∷ [])) (at + 1)
heard_push c rows v b heard h at row l e s some k = record {
  sites = sites_pushed c.n at heard h k.sites k.below s l;
  below = All-push (λ (g : Heard). g.site < at + 1) heard h (below_more at heard k.below) (omega arith);
  rows_are = All-push (IsHeardIn rows v b) heard h k.rows_are (heard_row rows v b h at row e s some);
  counted =
      let more = count_by_more_yes (promises_known v b) rows at row (slice_get_within rows at row e) (ap (promises_known v b) (get_or_from_slice_get rows at row row e) ∙ known_yes v b row h.vote some) in
      let before = k.counted in
      omega (arith, more, before, length-append heard (h ∷ []));
}

not_in : (b : BallotAt) (vote : Option (BallotAt × Name)) → is_in b vote ≡ false → IsVoteOf b vote → ⊥
not_in b None e k = k
not_in b (Some vote) e k = both_ways (same_ballot vote.0 b) e (same_from vote.0 b k)

not_true : (t : Bool) → not t ≡ true → t ≡ false
not_true true e = absurd (false≢true e)
not_true false e = refl

slot_open : (b : BallotAt) (slot : Slot) (vote : Option (BallotAt × Name)) → promised_vote b slot ≡ Some vote → (slot ≡ OpenAt b vote) × (IsVoteOf b vote → ⊥)
slot_open b Gone vote e = absurd (none-some vote e)
slot_open b (DecidedAs x) vote e = absurd (none-some vote e)
slot_open b (OpenAt promise held) vote e =
    let test : (same_ballot promise b && not (is_in b held)) ≡ true = vote_yes b (OpenAt promise held) vote e in
    let both : (same_ballot promise b ≡ true) × (not (is_in b held) ≡ true) = and_parts (same_ballot promise b) (not (is_in b held)) test in
    let ballot : promise ≡ b = same_means promise b both.0 in
    let same : held ≡ vote = same_Some held vote (sym (cond-true (same_ballot promise b && not (is_in b held)) (Some held) None test) ∙ e) in
    (ap (λ p. OpenAt p held) ballot ∙ ap (OpenAt b) same, subst (λ o. IsVoteOf b o → ⊥) same (not_in b held (not_true (is_in b held) both.1)))

-- rows that are known to promise the ballot were heard to promise it
pub promises_heard : (c : Config) (run : Run) (ms : List Action) (v : ℕ) (b : BallotAt) (heard : List Heard) → Knows c run ms → All (IsHeardIn run.rows v b) heard → All (IsPromiseHeard ms v b) heard
promises_heard c run ms v b heard k h =
    All-weaker (IsHeardIn run.rows v b) (IsPromiseHeard ms v b) (λ (one : Heard) (w : IsHeardIn run.rows v b one).
    let inside : one.site < c.n = let len = k.rows_len in omega (arith, slice_get_within run.rows one.site (Some w.0) w.1) in
    let open' = slot_open b (slots w.0 v) one.vote w.2 in
    (w.0, known_heard ms one.site w.0 (listed_known c run ms k one.site w.0 inside w.1), open'.0, open'.1)) heard h

forced_at : (o : Option ℕ) (at : ℕ) → choice_at o ≡ Forced at → o ≡ Some at
forced_at None at e = absurd (cc)
forced_at (Some other) at e = cc

forced_in : (n qf : ℕ) (heard : List Heard) (o : Option BallotAt) (at : ℕ) → choice_in n qf heard o ≡ Forced at → (b : BallotAt) × (position (carries n qf heard b) heard ≡ Some at)
forced_in n qf heard None at e = absurd (cc)
forced_in n qf heard (Some b) at e = (b, forced_at (position (carries n qf heard b) heard) at e)

in_some : (b : BallotAt) (o : Option (BallotAt × Name)) → is_in b o ≡ true → (vote : BallotAt × Name) × (o ≡ Some vote)
in_some b None e = absurd (false≢true e)
in_some b (Some vote) e = (vote, refl)

-- what is forced is at a place of the list, with a vote
pub forced_place : (n qf : ℕ) (heard : List Heard) (at : ℕ) (d : Heard) → pick_of n qf heard ≡ Forced at → (at < length heard) × ((vote : BallotAt × Name) × ((get_or heard at d).vote ≡ Some vote))
forced_place n qf heard at d e =
    let w = forced_in n qf heard (top_of heard) at e in
    let p = position-Some (carries n qf heard w.0) heard at d w.1 in
    (p.0, in_some w.0 (get_or heard at d).vote (and_parts (is_in w.0 (get_or heard at d).vote) (cond (same_ballot w.0 fast) (has_threshold n qf heard (get_or heard at d).vote) true) p.1).0)

pair_some : (o : Option Vote) (vote : BallotAt × Name) → vote_pair o ≡ Some vote → IsSome (vote_value o)
pair_some None vote e = absurd (none-some vote e)
pair_some (Some held) vote e = refl

slot_value : (o : Option Column) (b : BallotAt) (vote : BallotAt × Name) → slot_of o ≡ OpenAt b (Some vote) → IsSome (column_value o)
slot_value None b vote e = absurd (cc)
slot_value (Some (Open promise held)) b vote e = pair_some held vote (cc)
slot_value (Some (Decided value)) b vote e = absurd (cc)

gone_open : (b : BallotAt) (vote : Option (BallotAt × Name)) → Gone ≡ OpenAt b vote → ⊥
gone_open b vote e = cc

row_has : (row : RowAt) (v : ℕ) (b : BallotAt) (vote : BallotAt × Name) → slots row v ≡ OpenAt b (Some vote) → IsSome (row_value row v)
row_has row v b vote e =
    elim (cases_Bool (nat_lt 0 row.floor && leb v row.floor)) [
      | inl g ↦ absurd (gone_open b (Some vote) (sym (cond-true (nat_lt 0 row.floor && leb v row.floor) Gone (slot_of (column_in row.columns v)) g) ∙ e))
      | inr g ↦ slot_value (column_in row.columns v) b vote (sym (cond-false (nat_lt 0 row.floor && leb v row.floor) Gone (slot_of (column_in row.columns v)) g) ∙ e)
    ]

-- the row of a site that is forced has a value
pub forced_value : (c : Config) (rows : List (Option RowAt)) (v : ℕ) (b : BallotAt) (heard : List Heard) (at : ℕ) (h : Heard) → pick_of c.n c.qf heard ≡ Forced at → All (IsHeardIn rows v b) heard → slice_get heard at ≡ Some h → (row : RowAt) × (slice_get rows h.site ≡ Some (Some row)) × IsSome (row_value row v)
forced_value c rows v b heard at h e all there =
    let place = forced_place c.n c.qf heard at h e in
    let same : get_or heard at h ≡ h = get_or_from_slice_get heard at h h there in
    let w : IsHeardIn rows v b h = subst (IsHeardIn rows v b) same (all at h place.0) in
    let voted : h.vote ≡ Some place.1.0 = sym (ap (λ (g : Heard). g.vote) same) ∙ place.1.1 in
    (w.0, w.1, row_has w.0 v b place.1.0 ((slot_open b (slots w.0 v) h.vote w.2).0 ∙ ap (OpenAt b) voted))

pair_named : (o : Option Vote) (vote : Option (BallotAt × Name)) (x : Value) → vote_pair o ≡ vote → vote_value o ≡ Some x → (u : BallotAt × Name) × (vote ≡ Some u) × (u.1 ≡ name_of x)
pair_named None vote x e k = absurd (none-some x k)
pair_named (Some held) vote x e k = ((held.ballot, name_of held.value), sym e, ap name_of (same_Some held.value x k))

open_pair : (promise b : BallotAt) (held vote : Option (BallotAt × Name)) → OpenAt promise held ≡ OpenAt b vote → held ≡ vote
open_pair promise b held vote e = cc

slot_named : (o : Option Column) (b : BallotAt) (vote : Option (BallotAt × Name)) (x : Value) → slot_of o ≡ OpenAt b vote → column_value o ≡ Some x → (u : BallotAt × Name) × (vote ≡ Some u) × (u.1 ≡ name_of x)
slot_named None b vote x e k = absurd (none-some x k)
slot_named (Some (Open promise held)) b vote x e k = pair_named held vote x (open_pair promise b (vote_pair held) vote e) k
slot_named (Some (Decided value)) b vote x e k = absurd (cc)

-- the value that a row has has the name of the vote that it was heard with
row_named : (row : RowAt) (v : ℕ) (b : BallotAt) (vote : Option (BallotAt × Name)) (x : Value) → slots row v ≡ OpenAt b vote → row_value row v ≡ Some x → (u : BallotAt × Name) × (vote ≡ Some u) × (u.1 ≡ name_of x)
row_named row v b vote x e k =
    elim (cases_Bool (nat_lt 0 row.floor && leb v row.floor)) [
      | inl g ↦ absurd (gone_open b vote (sym (cond-true (nat_lt 0 row.floor && leb v row.floor) Gone (slot_of (column_in row.columns v)) g) ∙ e))
      | inr g ↦ slot_named (column_in row.columns v) b vote x (sym (cond-false (nat_lt 0 row.floor && leb v row.floor) Gone (slot_of (column_in row.columns v)) g) ∙ e) k
    ]

next_none : {A : Type 0} (a b : Option A) → a ≡ None → or_next a b ≡ b
next_none a b e = ap (λ o. or_next o b) e

next_some : {A : Type 0} (a b : Option A) (x y : A) → a ≡ Some y → Some x ≡ or_next a b → y ≡ x
next_some a b x y e k = same_Some y x (sym (k ∙ ap (λ o. or_next o b) e))

next_both : {A : Type 0} (a b : Option A) → or_next a b ≡ None → (a ≡ None) × (b ≡ None)
next_both None b e = (refl, e)
next_both (Some x) b e = absurd (none-some x (sym e))

forced_free : (at : ℕ) → Forced at ≡ Free → ⊥
forced_free at e = cc

-- what a call proposes where no value is forced: its own, or what it looked back at
free_may : (c : Config) (w : Caller) (past : List Trace) (run : Run) (ms : List Action) (v : ℕ) (b : BallotAt) (found : Option Value) (x : Value) (own : Option Value) → w.own ≡ own → Stands c w past run ms → MayPass c w ms v → (w.own ≡ None → IsLookedBack c ms v b found) → Some x ≡ or_next run.own found →
    MayPropose c w ms v x × IsValueKnown w ms v x × (w.own ≡ None → IsLookedBack c ms v b (Some x))
free_may c w past run ms v b found x (Some y) is h pass back e =
    let same : y ≡ x = next_some run.own found x y (h.own_is ∙ is) e in
    let own : w.own ≡ Some x = is ∙ ap (λ z. Some z) same in
    (inl (own, writes_current c w ms v x h.writes own pass.aim, pass.clear), inl own, λ reads. absurd (none-some x (sym reads ∙ own)))
free_may c w past run ms v b found x None is h pass back e =
    let same : found ≡ Some x = sym (e ∙ next_none run.own found (h.own_is ∙ is)) in
    let looked : IsLookedBack c ms v b (Some x) = subst (IsLookedBack c ms v b) same (back is) in
    let w' = back_heard c ms v b x looked in
    (inr (w'.0, w'.1, w'.2, is, w'.3, w'.4), inr (w'.0, w'.1, w'.3, w'.5), λ reads. looked)

-- what is proposed is left to the call, which knows it
proposed_may : (c : Config) (w : Caller) (past : List Trace) (run : Run) (ms : List Action) (v : ℕ) (b : BallotAt) (found : Option Value) (heard : List Heard) (x : Value) → Stands c w past run ms → MayPass c w ms v → (w.own ≡ None → IsLookedBack c ms v b found) → All (IsHeardIn run.rows v b) heard → IsProposal c run v found heard (Some x) →
    IsLeft c w ms v heard x × IsValueKnown w ms v x × (w.own ≡ None → pick_of c.n c.qf heard ≡ Free → IsLookedBack c ms v b (Some x))
proposed_may c w past run ms v b found heard x h pass back all (inl k) =
    let may = free_may c w past run ms v b found x (w.own) refl h pass back k.1 in
    (inr (k.0, may.0), may.1, λ reads free. may.2 reads)
proposed_may c w past run ms v b found heard x h pass back all (inr k) =
    let one : Heard = k.1 in
    let place : k.0 < length heard = slice_get_within heard k.0 k.1 k.4 in
    let was : IsHeardIn run.rows v b one = subst (IsHeardIn run.rows v b) (get_or_from_slice_get heard k.0 k.1 k.1 k.4) (all k.0 k.1 place) in
    let same : was.0 ≡ k.2 = same_Some was.0 k.2 (same_Some (Some was.0) (Some k.2) (sym was.1 ∙ k.5)) in
    let open' : slots k.2 v ≡ OpenAt b one.vote = subst (λ (r : RowAt). slots r v ≡ OpenAt b one.vote) same (slot_open b (slots was.0 v) one.vote was.2).0 in
    let value : row_value k.2 v ≡ Some x = k.7 ∙ sym k.8 in
    let named = row_named k.2 v b one.vote x open' value in
    let inside : one.site < c.n = let len = h.knows.rows_len in omega (arith, slice_get_within run.rows one.site (Some k.2) k.5) in
    (inl (k.0, k.3, (one, named.0, k.4, named.1, named.2)), inr (one.site, k.2, known_heard ms one.site k.2 (listed_known c run ms h.knows one.site k.2 inside k.5), value), λ reads free. absurd (forced_free k.0 (sym k.3 ∙ free)))

-- where nothing is proposed, the call writes nothing and looked back at nothing
proposed_none : (c : Config) (w : Caller) (past : List Trace) (run : Run) (ms : List Action) (v : ℕ) (b : BallotAt) (found : Option Value) (heard : List Heard) → Stands c w past run ms → IsProposal c run v found heard None → (w.own ≡ None) × (found ≡ None) × (pick_of c.n c.qf heard ≡ Free)
proposed_none c w past run ms v b found heard h (inl k) = let both = next_both run.own found (sym k.1) in (sym h.own_is ∙ both.0, both.1, k.0)
proposed_none c w past run ms v b found heard h (inr k) = absurd (none-some k.6 k.8)

was_last : (past : List Trace) (ms : List Action) (v : ℕ) (b : BallotAt) (round : ℕ) → round ≡ rounds_used past ms → b.round ≤ round → (last_promise ms ≡ Some (v, b)) ⊎ (rounds_used past ms < b.round) → last_promise ms ≡ Some (v, b)
was_last past ms v b round e l (inl h) = h
was_last past ms v b round e l (inr h) = absurd (omega arith)

-- a quorum promises the ballot, and the call may vote in it
chosen_carries : (c : Config) (w : Caller) (past : List Trace) (run : Run) (ms : List Action) (v : ℕ) (b : BallotAt) (found : Option Value) (heard : List Heard) (x : Value) → run.stage ≡ Prepare v b found → IsGoalUnmet c w past run ms → b.round ≤ run.round → AreHeardIn c run.rows v b heard c.n → c.qc ≤ length heard → IsProposal c run v found heard (Some x) →
    Carries c w past (record run { stage = Accept v b x }) ms
chosen_carries c w past run ms v b found heard x at a reached are enough proposed =
    let s : StageStands c w past (Prepare v b found) ms = subst (λ st. StageStands c w past st ms) at a.ready.stage in
    let unmet : IsUndecided c ms v = subst (λ st. IsUnmet c run st ms) at a.unmet in
    let askable : IsOvertakenAskably c run (Prepare v b found) ms = subst (λ st. IsOvertakenAskably c run st ms) at a.ready.above in
    let last = was_last past ms v b run.round a.ready.stands.round_is reached s.0.used in
    let may = proposed_may c w past run ms v b found heard x a.ready.stands s.0.works.pass (λ reads. s.2 reads last) are.rows_are proposed in
    let vote : MayClassicVote c w ms v b x = record {
      above = s.0.works.pass.above;
      promised = last_promised_at ms v b last;
      heard = heard;
      sites = are.sites;
      enough = enough;
      rows = promises_heard c run ms v b heard a.ready.stands.knows are.rows_are;
      choice = may.0;
      known = may.1;
      one = λ (y : Name) (k : has_classic_cast ms v b y ≡ true). absurd (both_ways (has_classic_cast ms v b y) (s.0.uncast y) k);
      back = may.2;
    } in
    record {
      acts = record { ready = record { stands = stands_stage c w past run ms (Accept v b x) a.ready.stands; stage = (vote, record { works = s.0.works; last = last }, s.1); unnoticed = a.ready.unnoticed; above = askable.1 }; going = a.going; unmet = unmet };
      few = tt;
    }

-- a quorum promises the ballot, and the call has no value to vote for
nothing_gives_in : (c : Config) (w : Caller) (past : List Trace) (run : Run) (ms : List Action) (v : ℕ) (b : BallotAt) (found : Option Value) (heard : List Heard) → run.stage ≡ Prepare v b found → IsGoalUnmet c w past run ms → b.round ≤ run.round → AreHeardIn c run.rows v b heard c.n → c.qc ≤ length heard → IsProposal c run v found heard None → MayGiveIn c w ms
nothing_gives_in c w past run ms v b found heard at a reached are enough proposed =
    let s : StageStands c w past (Prepare v b found) ms = subst (λ st. StageStands c w past st ms) at a.ready.stage in
    let none = proposed_none c w past run ms v b found heard a.ready.stands proposed in
    let last = was_last past ms v b run.round a.ready.stands.round_is reached s.0.used in
    NoValue v b (record {
      going = a.going;
      reads = none.0;
      last = last;
      uncast = s.0.uncast;
      heard = heard;
      sites = are.sites;
      enough = enough;
      rows = promises_heard c run ms v b heard a.ready.stands.knows are.rows_are;
      free = none.2;
      begun = s.0.works.begun none.0;
      back = subst (IsLookedBack c ms v b) none.1 (s.2 none.0 last);
      undecided = subst (λ st. IsUnmet c run st ms) at a.unmet;
    })

pub chosen_means : (c : Config) (w : Caller) (past : List Trace) (run : Run) (ms : List Action) (v : ℕ) (b : BallotAt) (found : Option Value) (heard : List Heard) (o : Option Value) → run.stage ≡ Prepare v b found → IsGoalUnmet c w past run ms → b.round ≤ run.round → AreHeardIn c run.rows v b heard c.n → c.qc ≤ length heard → IsProposal c run v found heard o → ChoiceMeans c w past run ms (choice_of v b o)
chosen_means c w past run ms v b found heard None at a reached are enough proposed = nothing_gives_in c w past run ms v b found heard at a reached are enough proposed
chosen_means c w past run ms v b found heard (Some x) at a reached are enough proposed = (tt, chosen_carries c w past run ms v b found heard x at a reached are enough proposed)

-- all rows were looked at
counted_all : (c : Config) (rows : List (Option RowAt)) (v : ℕ) (b : BallotAt) (heard : List Heard) → length rows ≡ c.n → AreHeardIn c rows v b heard c.n → length heard ≡ count_by (promises_known v b) rows
counted_all c rows v b heard len are = are.counted ∙ ap (count_by (promises_known v b)) (ap (λ n. take n rows) (sym len) ∙ take-length rows)

-- short of a quorum, or of a promise that the call sent
pub few_promises : (c : Config) (run : Run) (v : ℕ) (b : BallotAt) (found : Option Value) (heard : List Heard) → run.stage ≡ Prepare v b found → length run.rows ≡ c.n → AreHeardIn c run.rows v b heard c.n → (run.round < b.round) ⊎ (length heard < c.qc) → IsFewIn c run run.stage
few_promises c run v b found heard at len are (inl l) = subst (IsFewIn c run) (sym at) (inl l)
few_promises c run v b found heard at len are (inr l) = let counted = counted_all c run.rows v b heard len are in subst (IsFewIn c run) (sym at) (inr (omega arith))
