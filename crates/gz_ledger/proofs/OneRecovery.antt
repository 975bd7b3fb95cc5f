-- A put that another one overtakes in a classic ballot.
use Rattle.std.proofs.Common.{◌≡◌, ℕ, zero, suc, ◌<◌, ◌≤◌, Bool, true, List, [], ◌∷◌, Some, None, refl, sym, subst, inl, inr, arith}
use Rattle.std.specs.Prelude.{nat_lt}
use Rattle.std.specs.List.{slice_get}
use Rattle.std.proofs.lemmas.Bool.{true≢false}
use Rattle.std.proofs.lemmas.Option.{none-some, same_Some}
use Rattle.gz_core.specs.Names.{Name, fast}
use Rattle.gz_core.specs.Slots.{VotesFast, Promises, VotesClassic}
use Rattle.gz_core.specs.Counts.{count_sites}
use Rattle.gz_core.proofs.Counting.{count_within}
use Rattle.gz_pick.specs.declared.heard.Heard.{Heard}
use Rattle.gz_pick.specs.declared.heard.Pick.TheVariants.{Free}
use Rattle.gz_pick.specs.Choices.{pick_of}
use Rattle.gz_ledger.specs.Histories.{IsIn, RowSeen, Write, cast, IsShownByRows, VotesFor, IsPromised}
use Rattle.gz_ledger.specs.Guards.{IsClearByRows, IsPromiseSeen, MayVoteFast, MayPromiseByRows, MayVoteClassic}
use Rattle.gz_ledger.specs.Transitions.{Transition, Reads, Begins, Written, CanBeginWrite, CanWrite, after_transitions, AreTransitions, seen_after}
use Rattle.gz_ledger.specs.Runs.{three_sites, first_ballot, first_vote, first_promise, ballot_vote, ballot_decision, row_written, one_recovery}
use Rattle.gz_ledger.proofs.Shown.{Includes, cast_from}

-- what each of these writes has: a vote at version 1 alone, and what it promises or votes for in the ballot
record IsEarly (y : Name) (w : Write) : Type 0 where
  votes : (u : ℕ) → VotesFor w.act u y → u ≡ 1
  owns : (u : ℕ) → w.act ≡ Promises u first_ballot → (w.call ≡ y) × (u ≡ 1)
  value : (z : Name) → w.act ≡ VotesClassic 1 first_ballot z → z ≡ y

abbrev AreEarly : Name → List Write → Type 0
AreEarly y sent = (w : Write) → IsIn w sent → IsEarly y w

none_early : (y : Name) → AreEarly y []
none_early y w i = absurd i

more_early : (y : Name) (n : Write) (sent : List Write) → IsEarly y n → AreEarly y sent → AreEarly y (n ∷ sent)
more_early y n sent new all w (inl p) = subst (λ (x : Write). IsEarly y x) (sym p) new
more_early y n sent new all w (inr i) = all w i

first_early : (x y : Name) (s : ℕ) → IsEarly y (first_vote x s).write
first_early x y s = record {
  votes = λ (u : ℕ) (h : VotesFor (VotesFast 1 x) u y). sym h.0;
  owns = λ (u : ℕ) (e : VotesFast 1 x ≡ Promises u first_ballot). cc;
  value = λ (z : Name) (e : VotesFast 1 x ≡ VotesClassic 1 first_ballot z). cc;
}

promise_early : (y : Name) (s : ℕ) → IsEarly y (first_promise y s).write
promise_early y s = record {
  votes = λ (u : ℕ) (h : VotesFor (Promises 1 first_ballot) u y). absurd h;
  owns = λ (u : ℕ) (e : Promises 1 first_ballot ≡ Promises u first_ballot). (refl, same_version u e);
  value = λ (z : Name) (e : Promises 1 first_ballot ≡ VotesClassic 1 first_ballot z). cc;
}
  where
    same_version : (u : ℕ) → Promises 1 first_ballot ≡ Promises u first_ballot → u ≡ 1
    same_version u e = cc

vote_early : (y : Name) (s : ℕ) → IsEarly y (ballot_vote y s).write
vote_early y s = record {
  votes = λ (u : ℕ) (h : VotesFor (VotesClassic 1 first_ballot y) u y). sym h.0;
  owns = λ (u : ℕ) (e : VotesClassic 1 first_ballot y ≡ Promises u first_ballot). cc;
  value = λ (z : Name) (e : VotesClassic 1 first_ballot y ≡ VotesClassic 1 first_ballot z). same_value z e;
}
  where
    same_value : (z : Name) → VotesClassic 1 first_ballot y ≡ VotesClassic 1 first_ballot z → z ≡ y
    same_value z e = cc

-- no vote stands in the way of one at version 1
clear_early : (seen : List RowSeen) (y : Name) (sent : List Write) → AreEarly y sent → IsClearByRows three_sites seen sent y 1
clear_early seen y sent all w u i own votes ne = absurd (ne ((all w i).votes u votes))

may_first : (x : Name) → MayVoteFast three_sites [] [] x 1 x
may_first x = record { own = refl; next = inl refl; clear = clear_early [] x [] (none_early x) }

may_promise : (y : Name) (sent : List Write) → AreEarly y sent → MayPromiseByRows three_sites [] sent y 1 first_ballot
may_promise y sent all = record {
  positive = omega arith;
  classic = refl;
  fresh = λ (w : Write) (u : ℕ) (i : IsIn w sent) (e : w.act ≡ Promises u first_ballot). (all w i).owns u e;
  grounded = inl (inl refl);
}

-- the two promises that were heard
abbrev two_heard : List Heard
two_heard = record { site = 1; vote = None } ∷ record { site = 2; vote = None } ∷ []

two_promises : (y : Name) (at : ℕ) (h : Heard) → slice_get two_heard at ≡ Some h → IsPromiseSeen (row_written (first_promise y 1) ∷ row_written (first_promise y 2) ∷ []) 1 first_ballot h
two_promises y zero h e =
    subst (λ (g : Heard). IsPromiseSeen (row_written (first_promise y 1) ∷ row_written (first_promise y 2) ∷ []) 1 first_ballot g) (same_Some (record { site = 1; vote = None }) h e)
    (record { entry = row_written (first_promise y 1); found = inl refl; site = refl; row = refl; none = λ (bad : ⊥). bad })
two_promises y (suc zero) h e =
    subst (λ (g : Heard). IsPromiseSeen (row_written (first_promise y 1) ∷ row_written (first_promise y 2) ∷ []) 1 first_ballot g) (same_Some (record { site = 2; vote = None }) h e)
    (record { entry = row_written (first_promise y 2); found = inr (inl refl); site = refl; row = refl; none = λ (bad : ⊥). bad })
two_promises y (suc (suc at)) h e = absurd (none-some h e)

may_vote : (y : Name) (sent : List Write) → AreEarly y sent → IsPromised sent y 1 first_ballot → MayVoteClassic three_sites (row_written (first_promise y 1) ∷ row_written (first_promise y 2) ∷ []) sent y 1 first_ballot y
may_vote y sent all promised = record {
  promised = promised;
  heard = two_heard;
  quorum = record { sites = (omega arith, (refl, (omega arith, (refl, tt)))); enough = omega arith; promises = two_promises y };
  allowed = inl refl;
  source = λ (free : pick_of 3 3 two_heard ≡ Free). inl (refl, clear_early (row_written (first_promise y 1) ∷ row_written (first_promise y 2) ∷ []) y sent all);
  one = λ (w : Write) (z : Name) (i : IsIn w sent) (own : w.call ≡ y) (e : w.act ≡ VotesClassic 1 first_ballot z). (all w i).value z e;
}

-- two votes in the ballot choose
two_choose : (y : Name) (seen : List RowSeen) → IsIn (row_written (ballot_vote y 1)) seen → IsIn (row_written (ballot_vote y 2)) seen → IsShownByRows three_sites seen 1 y
two_choose y seen i j =
    let first : cast seen 1 first_ballot y 1 ≡ true = cast_from seen 1 first_ballot y (row_written (ballot_vote y 1)) i (first_ballot, refl) in
    let second : cast seen 1 first_ballot y 2 ≡ true = cast_from seen 1 first_ballot y (row_written (ballot_vote y 2)) j (first_ballot, refl) in
    let most : 2 ≤ count_sites 3 (cast seen 1 first_ballot y) = count_within 3 (λ s. nat_lt 0 s) (cast seen 1 first_ballot y) (each (cast seen 1 first_ballot y) first second) in
    inl (first_ballot, most)
  where
    each : (p : ℕ → Bool) → p 1 ≡ true → p 2 ≡ true → (s : ℕ) → s < 3 → nat_lt 0 s ≡ true → p s ≡ true
    each p b c zero l t = absurd (true≢false (sym t))
    each p b c (suc zero) l t = b
    each p b c (suc (suc zero)) l t = c
    each p b c (suc (suc (suc s))) l t = absurd (omega arith)

-- the transitions, as far as the first vote; as far as the promises; as far as the votes in the ballot
abbrev start : Name → List Transition
start x = Written (first_vote x 0) 1 ∷ Begins [] (first_vote x 0) ∷ Reads 2 ∷ Reads 1 ∷ Reads 0 ∷ []

abbrev promised : Name → Name → List Transition
promised x y = Written (first_promise y 2) 1 ∷ Written (first_promise y 1) 1 ∷ Begins [] (first_promise y 2) ∷ Begins [] (first_promise y 1) ∷ start x

abbrev heard_rows : Name → List RowSeen
heard_rows y = row_written (first_promise y 1) ∷ row_written (first_promise y 2) ∷ []

abbrev balloted : Name → Name → List Transition
balloted x y = Written (ballot_vote y 2) 2 ∷ Written (ballot_vote y 1) 2 ∷ Begins (heard_rows y) (ballot_vote y 2) ∷ Begins (heard_rows y) (ballot_vote y 1) ∷ promised x y

abbrev voted_rows : Name → List RowSeen
voted_rows y = row_written (ballot_vote y 1) ∷ row_written (ballot_vote y 2) ∷ []

start_runs : (x : Name) → AreTransitions three_sites (λ s. 0) (start x)
start_runs x =
    let began : CanBeginWrite three_sites (after_transitions (λ s. 0) (Reads 2 ∷ Reads 1 ∷ Reads 0 ∷ [])) [] (first_vote x 0) =
    record { known = λ (e : RowSeen) (i : IsIn e []). absurd i; shown = inr (inr (inl refl)); makes = (refl, refl); may = may_first x } in
    let wrote : CanWrite (after_transitions (λ s. 0) (Begins [] (first_vote x 0) ∷ Reads 2 ∷ Reads 1 ∷ Reads 0 ∷ [])) (first_vote x 0) 1 =
    record { asked = inl refl; stands = refl; new = omega arith } in
    (((((tt, tt), tt), tt), began), wrote)

promised_runs : (x y : Name) → AreTransitions three_sites (λ s. 0) (promised x y)
promised_runs x y =
    let early : AreEarly y ((first_vote x 0).write ∷ []) = more_early y (first_vote x 0).write [] (first_early x y 0) (none_early y) in
    let later : AreEarly y ((first_promise y 1).write ∷ (first_vote x 0).write ∷ []) = more_early y (first_promise y 1).write ((first_vote x 0).write ∷ []) (promise_early y 1) early in
    let one : CanBeginWrite three_sites (after_transitions (λ s. 0) (start x)) [] (first_promise y 1) =
    record { known = λ (e : RowSeen) (i : IsIn e []). absurd i; shown = inr (inr (inl refl)); makes = (fast, (None, (refl, (refl, refl)))); may = may_promise y ((first_vote x 0).write ∷ []) early } in
    let two : CanBeginWrite three_sites (after_transitions (λ s. 0) (Begins [] (first_promise y 1) ∷ start x)) [] (first_promise y 2) =
    record {
      known = λ (e : RowSeen) (i : IsIn e []). absurd i;
      shown = inr (inl refl);
      makes = (fast, (None, (refl, (refl, refl))));
      may = may_promise y ((first_promise y 1).write ∷ (first_vote x 0).write ∷ []) later;
    }
    in
    let wrote : CanWrite (after_transitions (λ s. 0) (Begins [] (first_promise y 2) ∷ Begins [] (first_promise y 1) ∷ start x)) (first_promise y 1) 1 =
    record { asked = inr (inl refl); stands = refl; new = omega arith } in
    let again : CanWrite (after_transitions (λ s. 0) (Written (first_promise y 1) 1 ∷ Begins [] (first_promise y 2) ∷ Begins [] (first_promise y 1) ∷ start x)) (first_promise y 2) 1 =
    record { asked = inl refl; stands = refl; new = omega arith } in
    ((((start_runs x, one), two), wrote), again)

heard_known : (x y : Name) → Includes (heard_rows y) (seen_after (λ s. 0) (promised x y))
heard_known x y e (inl p) = inr (inl p)
heard_known x y e (inr (inl p)) = inl p
heard_known x y e (inr (inr bad)) = absurd bad

balloted_runs : (x y : Name) → AreTransitions three_sites (λ s. 0) (balloted x y)
balloted_runs x y =
    let sent : List Write = (first_promise y 2).write ∷ (first_promise y 1).write ∷ (first_vote x 0).write ∷ [] in
    let early : AreEarly y sent = more_early y (first_promise y 2).write ((first_promise y 1).write ∷ (first_vote x 0).write ∷ []) (promise_early y 2) (more_early y (first_promise y 1).write ((first_vote x 0).write ∷ []) (promise_early y 1) (more_early y (first_vote x 0).write [] (first_early x y 0) (none_early y))) in
    let later : AreEarly y ((ballot_vote y 1).write ∷ sent) = more_early y (ballot_vote y 1).write sent (vote_early y 1) early in
    let own : IsPromised sent y 1 first_ballot = record { write = (first_promise y 2).write; found = inl refl; same = refl; promises = refl } in
    let still : IsPromised ((ballot_vote y 1).write ∷ sent) y 1 first_ballot = record { write = (first_promise y 2).write; found = inr (inl refl); same = refl; promises = refl } in
    let one : CanBeginWrite three_sites (after_transitions (λ s. 0) (promised x y)) (heard_rows y) (ballot_vote y 1) =
    record { known = heard_known x y; shown = inr (inl refl); makes = (first_ballot, (None, (refl, (refl, (λ (bad : ⊥). bad, refl))))); may = may_vote y sent early own } in
    let two : CanBeginWrite three_sites (after_transitions (λ s. 0) (Begins (heard_rows y) (ballot_vote y 1) ∷ promised x y)) (heard_rows y) (ballot_vote y 2) =
    record {
      known = heard_known x y;
      shown = inl refl;
      makes = (first_ballot, (None, (refl, (refl, (λ (bad : ⊥). bad, refl)))));
      may = may_vote y ((ballot_vote y 1).write ∷ sent) later still;
    }
    in
    let wrote : CanWrite (after_transitions (λ s. 0) (Begins (heard_rows y) (ballot_vote y 2) ∷ Begins (heard_rows y) (ballot_vote y 1) ∷ promised x y)) (ballot_vote y 1) 2 =
    record { asked = inr (inl refl); stands = refl; new = omega arith } in
    let again : CanWrite (after_transitions (λ s. 0) (Written (ballot_vote y 1) 2 ∷ Begins (heard_rows y) (ballot_vote y 2) ∷ Begins (heard_rows y) (ballot_vote y 1) ∷ promised x y)) (ballot_vote y 2) 2 =
    record { asked = inl refl; stands = refl; new = omega arith } in
    ((((promised_runs x y, one), two), wrote), again)

voted_known : (x y : Name) → Includes (voted_rows y) (seen_after (λ s. 0) (balloted x y))
voted_known x y e (inl p) = inr (inl p)
voted_known x y e (inr (inl p)) = inl p
voted_known x y e (inr (inr bad)) = absurd bad

-- they may do so, and the value of the second put is shown
pub one_recovery_runs : (x y : Name) → AreTransitions three_sites (λ s. 0) (one_recovery x y) × IsShownByRows three_sites (seen_after (λ s. 0) (one_recovery x y)) 1 y
one_recovery_runs x y =
    let decides : CanBeginWrite three_sites (after_transitions (λ s. 0) (balloted x y)) (voted_rows y) (ballot_decision y 1) =
    record {
      known = voted_known x y;
      shown = inr (inl refl);
      makes = (first_ballot, (Some (first_ballot, y), (refl, refl)));
      may = two_choose y (voted_rows y) (inl refl) (inr (inl refl));
    }
    in
    let wrote : CanWrite (after_transitions (λ s. 0) (Begins (voted_rows y) (ballot_decision y 1) ∷ balloted x y)) (ballot_decision y 1) 3 =
    record { asked = inl refl; stands = refl; new = omega arith } in
    let all : AreTransitions three_sites (λ s. 0) (one_recovery x y) = ((balloted_runs x y, decides), wrote) in
    (all, two_choose y (seen_after (λ s. 0) (one_recovery x y)) (inr (inr (inl refl))) (inr (inl refl)))
