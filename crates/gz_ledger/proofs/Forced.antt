-- What was shown before a ballot was promised is forced by the ballot's promises.
use Rattle.std.proofs.Common.{◌≡◌, ℕ, ◌≤◌, true, false, List, [], ◌∷◌, ◌++◌, Some, ap, sym, ◌∙◌, subst, inl, inr, arith}
use Rattle.std.proofs.lemmas.Bool.{both_ways}
use Rattle.gz_core.specs.Names.{Name, BallotAt, fast, is_below, same_ballot}
use Rattle.gz_core.specs.Counts.{count_sites}
use Rattle.gz_core.specs.Slots.{VotesClassic}
use Rattle.gz_config.specs.declared.Config.{Config}
use Rattle.gz_core.proofs.Ballots.{below_cases, below_at}
use Rattle.gz_core.proofs.Counting.{count_weaker, count_found}
use Rattle.gz_core.proofs.Quorums.{need_least, need_some, quorums_meet}
use Rattle.gz_pick.specs.Choices.{pick_of, has_heard_site}
use Rattle.gz_pick.specs.declared.heard.Heard.{Heard}
use Rattle.gz_pick.specs.declared.heard.Pick.TheVariants.{Free}
use Rattle.gz_model.specs.Choosing.{IsChoosable}
use Rattle.gz_model.proofs.Choices.{choosable_forced, pick_free}
use Rattle.gz_model.proofs.Entries.{site_heard, heard_sites}
use Rattle.gz_ledger.specs.Histories.{IsIn, RowSeen, cast, IsChosenAt, IsShownByRows}
use Rattle.gz_ledger.specs.Guards.{IsPromiseSeen, IsQuorumHeard}
use Rattle.gz_ledger.specs.Ledgers.{Ledger, Move, Shows, Sends, Takes, after_moves, AreMoves, votes, standing_votes, late_seen}
use Rattle.gz_ledger.specs.Agreements.{HasQuorums}
use Rattle.gz_ledger.specs.Transitions.{Transition, AreTransitions, seen_after, sent_after, moves_of, IsUnpromisedByWrites, IsUncastByWrites}
use Rattle.gz_ledger.proofs.Follows.{Advances, Follows, advance}
use Rattle.gz_ledger.proofs.Shown.{IsCast, cast_found, cast_more}
use Rattle.gz_ledger.proofs.Sound.{IsSound, IsChain}
use Rattle.gz_ledger.proofs.SoundVotes.{are_good, cast_votes, votes_ok, recovered, shown_chosen}
use Rattle.gz_ledger.proofs.Promised.{promised, unpromised_row}
use Rattle.gz_ledger.proofs.Orders.{early_moves, early_seen, late_or_early}
use Rattle.gz_ledger.proofs.Kept.{sound}
use Rattle.gz_ledger.proofs.Stores.{both_moves, early_transitions, transitions_are_moves}

-- a row that was shown late goes forward from each of its site that was shown early
late_follows : (late early : List Move) (e f : RowSeen) → IsChain (after_moves (late ++ early)).seen → IsIn e (after_moves early).seen → IsIn f (late_seen late early) → e.site ≡ f.site → Follows e.row f.row
late_follows [] early e f chain i j same = absurd j
late_follows (Shows s ∷ late) early e f chain i (inl p) same =
    subst (λ (g : RowSeen). Follows e.row g.row) (sym p) (chain.0 e (early_seen late early e i) (same ∙ ap (λ (g : RowSeen). g.site) p))
late_follows (Shows s ∷ late) early e f chain i (inr j) same = late_follows late early e f chain.1 i j same
late_follows (Sends w ∷ late) early e f chain i j same = late_follows late early e f chain i j same
late_follows (Takes w ∷ late) early e f chain i j same = late_follows late early e f chain i j same

-- a value that was chosen before the ballot was promised is not chosen in a ballot above
chosen_below : (cfg : Config) (late early : List Move) (v : ℕ) (b c : BallotAt) (x : Name) (heard : List Heard) → HasQuorums cfg → AreMoves cfg (late ++ early) → IsUnpromisedByWrites (after_moves early).sent b → same_ballot b fast ≡ false → cfg.qc ≤ count_sites cfg.n (cast (after_moves early).seen v c x)
    → IsQuorumHeard cfg (after_moves (late ++ early)).seen v b heard → is_below b c ≡ true → ⊥
chosen_below cfg late early v b c x heard q all none classic enough quorum above =
    let so : IsSound cfg (after_moves (late ++ early)) = sound cfg (late ++ early) q all in
    let before : AreMoves cfg early = early_moves cfg late early all in
    let met = quorums_meet cfg.n cfg.qc cfg.qf (λ s. has_heard_site s heard) (cast (after_moves early).seen v c x) q (omega (arith, heard_sites cfg.n heard quorum.sites, quorum.enough)) enough in
    let h = site_heard heard met.0 met.2 in
    let p : IsPromiseSeen (after_moves (late ++ early)).seen v b h.entry = quorum.promises h.at h.entry h.is in
    let e : IsCast (after_moves early).seen v c x met.0 = cast_found (after_moves early).seen v c x met.0 met.3 in
    let same : e.entry.site ≡ p.entry.site = e.site ∙ sym h.site ∙ sym p.site in
    elim (late_or_early late early p.entry p.found) [
      | inl l ↦
          let f : Follows e.entry.row p.entry.row = late_follows late early e.entry p.entry so.chain e.found l same in
          let a : Advances e.vote.0 (Some (c, x)) b h.entry.vote = advance (e.entry.row v) (p.entry.row v) e.vote.0 b (Some (c, x)) h.entry.vote e.vote.1 p.row (f v) in
          let under : is_below e.vote.0 c ≡ false = (so.seen_acceptor e.entry (early_seen late early e.entry e.found)).under v e.vote.0 (c, x) e.vote.1 in
          both_ways (is_below b e.vote.0) a.promise (below_at b c e.vote.0 above under)
      | inr i ↦ (let w = unpromised_row (after_moves early) p.entry v b h.entry.vote (promised cfg early q before) i p.row classic in none w.0 v w.1.0 w.1.1)
    ]

forced : (cfg : Config) (late early : List Move) (v : ℕ) (b : BallotAt) (x : Name) (heard : List Heard) → HasQuorums cfg → AreMoves cfg (late ++ early) → IsUnpromisedByWrites (after_moves early).sent b → IsUncastByWrites (after_moves (late ++ early)).sent v b → same_ballot b fast ≡ false
    → IsShownByRows cfg (after_moves early).seen v x → IsQuorumHeard cfg (after_moves (late ++ early)).seen v b heard → pick_of cfg.n cfg.qf heard ≡ Free → ⊥
forced cfg late early v b x heard q all none uncast classic shown quorum free =
    let l = after_moves (late ++ early) in
    let so : IsSound cfg l = sound cfg (late ++ early) q all in
    let before : AreMoves cfg early = early_moves cfg late early all in
    let h : IsChosenAt cfg (after_moves early).seen v x = shown_chosen cfg (after_moves early) v x (sound cfg early q before) shown in
    let c = h.0 in
    let seen = early_seen late early in
    elim (below_cases c b) [
      | inl below ↦
          let ch : IsChoosable cfg.n cfg.qc cfg.qf (standing_votes l v) c x =
          omega (arith, h.1, count_weaker cfg.n (cast (after_moves early).seen v c x) (standing_votes l v c x) (λ (s : ℕ) (e : cast (after_moves early).seen v c x s ≡ true). (are_good cfg l v so).voted c x s (cast_votes l v c x s (cast_more (after_moves early).seen l.seen v c x s seen e)))) in
          pick_free cfg.n cfg.qf heard free x (choosable_forced cfg.n cfg.qc cfg.qf (votes l v) (standing_votes l v) b heard c x (recovered cfg l v b heard so quorum) below ch)
      | inr (inl same) ↦
          let w = count_found cfg.n (cast (after_moves early).seen v c x) (omega (arith, h.1, need_some cfg.n cfg.qc cfg.qf c q)) in
          let vote = (votes_ok cfg l v so c x w.0 (cast_votes l v c x w.0 (cast_more (after_moves early).seen l.seen v c x w.0 seen w.2))).classic (subst (λ (d : BallotAt). same_ballot d fast ≡ false) (sym same) classic) in
          uncast vote.0 x vote.1 (vote.2 ∙ ap (λ (d : BallotAt). VotesClassic v d x) same)
      | inr (inr above) ↦ chosen_below cfg late early v b c x heard q all none classic (omega (arith, h.1, need_least cfg.n cfg.qc cfg.qf c q)) quorum above
    ]

-- said of transitions
pub store_forced : (cfg : Config) (used : ℕ → ℕ) (late early : List Transition) (v : ℕ) (b : BallotAt) (x : Name) (heard : List Heard) → HasQuorums cfg → AreTransitions cfg used (late ++ early) → IsUnpromisedByWrites (sent_after used early) b → IsUncastByWrites (sent_after used (late ++ early)) v b → same_ballot b fast ≡ false
    → IsShownByRows cfg (seen_after used early) v x → IsQuorumHeard cfg (seen_after used (late ++ early)) v b heard → pick_of cfg.n cfg.qf heard ≡ Free → ⊥
store_forced cfg used late early v b x heard q all none uncast classic shown quorum free =
    let both = both_moves cfg used late early all in
    let first = (transitions_are_moves cfg used early (early_transitions cfg used late early all)).1 in
    forced cfg (moves_of late) (moves_of early) v b x heard q both.0
    (subst (λ (l : Ledger). IsUnpromisedByWrites l.sent b) (sym first) none)
    (subst (λ (l : Ledger). IsUncastByWrites l.sent v b) (sym both.1) uncast) classic
    (subst (λ (l : Ledger). IsShownByRows cfg l.seen v x) (sym first) shown)
    (subst (λ (l : Ledger). IsQuorumHeard cfg l.seen v b heard) (sym both.1) quorum) free
