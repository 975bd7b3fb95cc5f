-- A put on three sites.
use Rattle.std.proofs.Common.{◌≡◌, ℕ, zero, suc, ◌<◌, ◌≤◌, Bool, true, List, [], ◌∷◌, refl, ap, sym, subst, inl, inr, arith}
use Rattle.gz_core.specs.Names.{Name, fast}
use Rattle.gz_core.specs.Slots.{Act, VotesFast}
use Rattle.gz_core.specs.Counts.{count_sites}
use Rattle.gz_core.proofs.Counting.{count_within}
use Rattle.gz_ledger.specs.Histories.{IsIn, RowSeen, Write, cast, IsShownByRows, VotesFor}
use Rattle.gz_ledger.specs.Guards.{IsClearByRows, MayVoteFast}
use Rattle.gz_ledger.specs.Transitions.{Reads, Begins, CanBeginWrite, after_transitions, AreTransitions, seen_after}
use Rattle.gz_ledger.specs.Runs.{three_sites, first_vote, one_put}
use Rattle.gz_ledger.proofs.Shown.{cast_from}

-- each write that was sent is a fast vote at version 1
are_first : (x : Name) (sent : List Write) → ((w : Write) → IsIn w sent → w.act ≡ VotesFast 1 x) → IsClearByRows three_sites [] sent x 1
are_first x sent all w u i own votes ne =
    let v : VotesFor (VotesFast 1 x) u x = subst (λ (act : Act). VotesFor act u x) (all w i) votes in
    absurd (ne (sym v.0))

-- the put may send it
first_may : (x : Name) (sent : List Write) → ((w : Write) → IsIn w sent → w.act ≡ VotesFast 1 x) → MayVoteFast three_sites [] sent x 1 x
first_may x sent all = record { own = refl; next = inl refl; clear = are_first x sent all }

no_act : (x : Name) (w : Write) → IsIn w [] → w.act ≡ VotesFast 1 x
no_act x w i = absurd i

more_act : (x : Name) (s : ℕ) (sent : List Write) → ((w : Write) → IsIn w sent → w.act ≡ VotesFast 1 x) → (w : Write) → IsIn w ((first_vote x s).write ∷ sent) → w.act ≡ VotesFast 1 x
more_act x s sent all w (inl p) = ap (λ (y : Write). y.act) p
more_act x s sent all w (inr i) = all w i

-- the vote of each site is shown
shown_votes : (x : Name) → 3 ≤ count_sites 3 (cast (seen_after (λ s. 0) (one_put x)) 1 fast x)
shown_votes x =
    let seen = seen_after (λ s. 0) (one_put x) in
    let e : ℕ → RowSeen = λ (s : ℕ). record { site = s; row = (first_vote x s).write.after } in
    let zeroth : cast seen 1 fast x 0 ≡ true = cast_from seen 1 fast x (e 0) (inr (inr (inl refl))) (fast, refl) in
    let first : cast seen 1 fast x 1 ≡ true = cast_from seen 1 fast x (e 1) (inr (inl refl)) (fast, refl) in
    let second : cast seen 1 fast x 2 ≡ true = cast_from seen 1 fast x (e 2) (inl refl) (fast, refl) in
    count_within 3 (λ s. true) (cast seen 1 fast x) (each (cast seen 1 fast x) zeroth first second)
  where
    each : (p : ℕ → Bool) → p 0 ≡ true → p 1 ≡ true → p 2 ≡ true → (s : ℕ) → s < 3 → true ≡ true → p s ≡ true
    each p a b c zero l t = a
    each p a b c (suc zero) l t = b
    each p a b c (suc (suc zero)) l t = c
    each p a b c (suc (suc (suc s))) l t = absurd (omega arith)

-- the put is an allowed run, and its value is shown
pub one_put_runs : (x : Name) → AreTransitions three_sites (λ s. 0) (one_put x) × IsShownByRows three_sites (seen_after (λ s. 0) (one_put x)) 1 x
one_put_runs x =
    let w : ℕ → Write = λ (s : ℕ). (first_vote x s).write in
    let none = no_act x in
    let one = more_act x 0 [] none in
    let two = more_act x 1 (w 0 ∷ []) one in
    let reads : AreTransitions three_sites (λ s. 0) (Reads 2 ∷ Reads 1 ∷ Reads 0 ∷ []) = (((tt, tt), tt), tt) in
    let zeroth : CanBeginWrite three_sites (after_transitions (λ s. 0) (Reads 2 ∷ Reads 1 ∷ Reads 0 ∷ [])) [] (first_vote x 0) =
    record { known = λ (e : RowSeen) (i : IsIn e []). absurd i; shown = inr (inr (inl refl)); makes = (refl, refl); may = first_may x [] none } in
    let first : CanBeginWrite three_sites (after_transitions (λ s. 0) (Begins [] (first_vote x 0) ∷ Reads 2 ∷ Reads 1 ∷ Reads 0 ∷ [])) [] (first_vote x 1) =
    record { known = λ (e : RowSeen) (i : IsIn e []). absurd i; shown = inr (inl refl); makes = (refl, refl); may = first_may x (w 0 ∷ []) one } in
    let second : CanBeginWrite three_sites (after_transitions (λ s. 0) (Begins [] (first_vote x 1) ∷ Begins [] (first_vote x 0) ∷ Reads 2 ∷ Reads 1 ∷ Reads 0 ∷ [])) [] (first_vote x 2) =
    record { known = λ (e : RowSeen) (i : IsIn e []). absurd i; shown = inl refl; makes = (refl, refl); may = first_may x (w 1 ∷ w 0 ∷ []) two } in
    let began : AreTransitions three_sites (λ s. 0) (Begins [] (first_vote x 2) ∷ Begins [] (first_vote x 1) ∷ Begins [] (first_vote x 0) ∷ Reads 2 ∷ Reads 1 ∷ Reads 0 ∷ []) = (((reads, zeroth), first), second) in
    let wrote : AreTransitions three_sites (λ s. 0) (one_put x) = (
      (
        (began, record { asked = inr (inr (inl refl)); stands = refl; new = omega arith }),
        record { asked = inr (inl refl); stands = refl; new = omega arith },
      ),
      record { asked = inl refl; stands = refl; new = omega arith },
    ) in
    (wrote, inl (fast, shown_votes x))
