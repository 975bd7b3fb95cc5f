-- The votes of a sound ledger are as the laws of Fast Paxos ask.
use Rattle.std.proofs.Common.{◌≡◌, ℕ, ◌<◌, true, false, List, Option, Some, refl, ap, ◌∙◌, sym, subst, inl, inr, ◌⊎◌, arith}
use Rattle.std.specs.List.{slice_get}
use Rattle.std.proofs.lemmas.Bool.{both_ways}
use Rattle.std.proofs.lemmas.Option.{same_Some, some_pair_parts}
use Rattle.gz_core.specs.Names.{Name, BallotAt, is_below}
use Rattle.gz_core.specs.Slots.{IsVoteOf}
use Rattle.gz_core.specs.declared.slots.Slot.{Slot}
use Rattle.gz_core.specs.declared.slots.Slot.TheVariants.{OpenAt}
use Rattle.gz_config.specs.declared.Config.{Config}
use Rattle.gz_core.proofs.Ballots.{below_never, below_not, below_cases, below_at}
use Rattle.gz_core.proofs.Counting.{count_weaker, count_found}
use Rattle.gz_core.proofs.Quorums.{need_some}
use Rattle.gz_pick.specs.declared.heard.Heard.{Heard}
use Rattle.gz_model.specs.Choosing.{IsChosenBy, VotesOnce, CarriesOne, AreSafe, IsRecovered, AreGood}
use Rattle.gz_model.proofs.Choices.{one_value}
use Rattle.gz_ledger.specs.Acceptors.{Acceptor}
use Rattle.gz_ledger.specs.Histories.{cast, IsChosenAt, IsShownByRows}
use Rattle.gz_ledger.specs.Guards.{IsPromiseSeen, IsQuorumHeard}
use Rattle.gz_ledger.specs.Ledgers.{Ledger, votes, standing_votes}
use Rattle.gz_ledger.proofs.SlotTests.{IsVote}
use Rattle.gz_ledger.proofs.Follows.{Advances, Follows, advance}
use Rattle.gz_ledger.proofs.Shown.{IsCast, cast_found}
use Rattle.gz_ledger.proofs.Rows.{IsRowOf, row_of_seen, votes_row, row_votes, stands_cases, stands_voted}
use Rattle.gz_ledger.proofs.Sound.{IsVoteOk, SlotOk, IsSound, toward_at, line, vote_ok, right_at}

-- a vote in a row that goes forward stands, or another stands above it
pub later_vote : (r q : Acceptor) (v : ℕ) (b c : BallotAt) (x y : Name) → Follows r q → IsVote (r v) b x → IsVote (q v) c y → ((b ≡ c) × (x ≡ y)) ⊎ (is_below b c ≡ true)
later_vote r q v b c x y f h k =
    elim (advance (r v) (q v) h.0 k.0 (Some (b, x)) (Some (c, y)) h.1 k.1 (f v)).vote [
      | inl e ↦ inl (some_pair_parts b c x y (sym e))
      | inr n ↦ inr (subst (λ (w : BallotAt × Name). is_below b w.0 ≡ true) (sym (same_Some (c, y) n.vote n.is)) n.over)
    ]

same_line : (r q : Acceptor) (v : ℕ) (b : BallotAt) (x y : Name) → Follows r q → IsVote (r v) b x → IsVote (q v) b y → x ≡ y
same_line r q v b x y f h k =
    elim (later_vote r q v b b x y f h k) [ inl e ↦ e.1 | inr l ↦ absurd (both_ways (is_below b b) (below_never b) l) ]

-- no site votes for two values in one ballot
pub votes_once : (cfg : Config) (l : Ledger) (v : ℕ) → IsSound cfg l → VotesOnce (votes l v)
votes_once cfg l v so b x y s h k =
    let r : (r : Acceptor) × IsRowOf l s r × IsVote (r v) b x = votes_row l v b x s h in
    let q : (r : Acceptor) × IsRowOf l s r × IsVote (r v) b y = votes_row l v b y s k in
    elim (line cfg l so s r.0 q.0 r.1 q.1) [
      | inl f ↦ same_line r.0 q.0 v b x y f r.2 q.2
      | inr f ↦ sym (same_line q.0 r.0 v b y x f q.2 r.2)
    ]

-- what stands behind a site's vote
pub votes_ok : (cfg : Config) (l : Ledger) (v : ℕ) → IsSound cfg l → (b : BallotAt) (x : Name) (s : ℕ) → votes l v b x s ≡ true → IsVoteOk cfg l.seen l.sent v (b, x)
votes_ok cfg l v so b x s h =
    let r : (r : Acceptor) × IsRowOf l s r × IsVote (r v) b x = votes_row l v b x s h in
    vote_ok cfg l so s r.0 v b x r.1 r.2

-- a classic ballot carries one value
pub carries_one : (cfg : Config) (l : Ledger) (v : ℕ) → IsSound cfg l → CarriesOne (votes l v)
carries_one cfg l v so b x y s t c h k =
    let w = (votes_ok cfg l v so b x s h).classic c in
    let z = (votes_ok cfg l v so b y t k).classic c in
    so.one w.0 z.0 v b x y w.1 z.1 w.2 z.2

-- every vote of a classic ballot is safe
pub are_safe : (cfg : Config) (l : Ledger) (v : ℕ) → IsSound cfg l → AreSafe cfg.n cfg.qc cfg.qf (votes l v) (standing_votes l v)
are_safe cfg l v so b x s c h =
    let w = (votes_ok cfg l v so b x s h).classic c in
    (right_at cfg l so w.0 v b x w.1 w.2).safe

pub are_good : (cfg : Config) (l : Ledger) (v : ℕ) → IsSound cfg l → AreGood cfg.n cfg.qc cfg.qf (votes l v) (standing_votes l v)
are_good cfg l v so = record {
  quorums = so.quorums;
  once = votes_once cfg l v so;
  one = carries_one cfg l v so;
  safe = are_safe cfg l v so;
  voted = stands_voted l v;
}

-- a vote that was shown is a site's vote
pub cast_votes : (l : Ledger) (v : ℕ) (b : BallotAt) (x : Name) (s : ℕ) → cast l.seen v b x s ≡ true → votes l v b x s ≡ true
cast_votes l v b x s h =
    let c : IsCast l.seen v b x s = cast_found l.seen v b x s h in
    row_votes l v b x s c.entry.row (inr (c.entry, c.found, c.site, refl)) c.vote

-- what is chosen by the votes that were shown is chosen by the sites' votes
pub chosen_votes : (cfg : Config) (l : Ledger) (v : ℕ) (x : Name) → IsChosenAt cfg l.seen v x → IsChosenBy cfg.n cfg.qc cfg.qf (votes l v) x
chosen_votes cfg l v x h = (h.0, omega (arith, h.1, count_weaker cfg.n (cast l.seen v h.0 x) (votes l v h.0 x) (cast_votes l v h.0 x)))

-- two chosen values are the same
pub chosen_one : (cfg : Config) (l : Ledger) (v : ℕ) (x y : Name) → IsSound cfg l → IsChosenAt cfg l.seen v x → IsChosenAt cfg l.seen v y → x ≡ y
chosen_one cfg l v x y so h k =
    one_value cfg.n cfg.qc cfg.qf (votes l v) (standing_votes l v) x y (are_good cfg l v so) (chosen_votes cfg l v x h) (chosen_votes cfg l v y k)

-- a chosen value has a vote that was shown
pub chosen_cast : (cfg : Config) (l : Ledger) (v : ℕ) (x : Name) → IsSound cfg l → (h : IsChosenAt cfg l.seen v x) → (s : ℕ) × IsCast l.seen v h.0 x s
chosen_cast cfg l v x so h =
    let w : (s : ℕ) × (s < cfg.n) × (cast l.seen v h.0 x s ≡ true) = count_found cfg.n (cast l.seen v h.0 x) (omega (arith, h.1, need_some cfg.n cfg.qc cfg.qf h.0 so.quorums)) in
    (w.0, cast_found l.seen v h.0 x w.0 w.2)

pub chosen_ok : (cfg : Config) (l : Ledger) (v : ℕ) (x : Name) → IsSound cfg l → (h : IsChosenAt cfg l.seen v x) → IsVoteOk cfg l.seen l.sent v (h.0, x)
chosen_ok cfg l v x so h =
    let c : (s : ℕ) × IsCast l.seen v h.0 x s = chosen_cast cfg l v x so h in
    vote_ok cfg l so c.1.entry.site c.1.entry.row v h.0 x (row_of_seen l c.1.entry c.1.found) c.1.vote

-- what is shown is chosen
pub shown_chosen : (cfg : Config) (l : Ledger) (v : ℕ) (x : Name) → IsSound cfg l → IsShownByRows cfg l.seen v x → IsChosenAt cfg l.seen v x
shown_chosen cfg l v x so (inl h) = h
shown_chosen cfg l v x so (inr d) = (subst (λ (slot : Slot). SlotOk cfg l.seen l.sent v slot) d.decided (so.seen_ok d.entry v d.found)).0

-- a promise that was heard shows its site's votes below the ballot, and that it casts none there any more
heard_was : (cfg : Config) (l : Ledger) (v : ℕ) (b : BallotAt) (h : Heard) → IsSound cfg l → IsPromiseSeen l.seen v b h → (u : BallotAt × Name) → h.vote ≡ Some u → (votes l v u.0 u.1 h.site ≡ true) × (is_below u.0 b ≡ true)
heard_was cfg l v b h so p u e =
    let slot : p.entry.row v ≡ OpenAt b (Some (u.0, u.1)) = p.row ∙ ap (λ (o : Option (BallotAt × Name)). OpenAt b o) e in
    let under : is_below b u.0 ≡ false = (so.seen_acceptor p.entry p.found).under v b u slot in (
      row_votes l v u.0 u.1 h.site p.entry.row (inr (p.entry, p.found, p.site, refl)) (b, slot),
      elim (below_cases u.0 b) [
        | inl l ↦ l
        | inr (inl q) ↦ absurd (p.none (subst (λ (o : Option (BallotAt × Name)). IsVoteOf b o) (sym e) q))
        | inr (inr l) ↦ absurd (both_ways (is_below b u.0) under l)
      ],
    )

heard_top : (cfg : Config) (l : Ledger) (v : ℕ) (b : BallotAt) (h : Heard) → IsSound cfg l → IsPromiseSeen l.seen v b h → (c : BallotAt) (y : Name) → is_below c b ≡ true → votes l v c y h.site ≡ true → (u : BallotAt × Name) × (h.vote ≡ Some u) × (is_below u.0 c ≡ false)
heard_top cfg l v b h so p c y lt k =
    let r : (r : Acceptor) × IsRowOf l h.site r × IsVote (r v) c y = votes_row l v c y h.site k in
    elim (line cfg l so h.site r.0 p.entry.row r.1 (inr (p.entry, p.found, p.site, refl))) [
      | inl f ↦ elim (advance (r.0 v) (p.entry.row v) r.2.0 b (Some (c, y)) h.vote r.2.1 p.row (f v)).vote [
        | inl e ↦ ((c, y), e, below_never c)
        | inr n ↦ (n.vote, n.is, below_not c n.vote.0 n.over)
      ]
      | inr f ↦ elim (advance (p.entry.row v) (r.0 v) b r.2.0 h.vote (Some (c, y)) p.row r.2.1 (f v)).vote [
        | inl e ↦ ((c, y), sym e, below_never c)
        | inr n ↦ absurd (both_ways (is_below c b) (subst (λ (w : BallotAt × Name). is_below w.0 b ≡ false) (sym (same_Some (c, y) n.vote n.is)) n.above) lt)
      ]
    ]

heard_shut : (cfg : Config) (l : Ledger) (v : ℕ) (b : BallotAt) (h : Heard) → IsSound cfg l → IsPromiseSeen l.seen v b h → (c : BallotAt) (y : Name) → is_below c b ≡ true → standing_votes l v c y h.site ≡ true → votes l v c y h.site ≡ true
heard_shut cfg l v b h so p c y lt k =
    elim (stands_cases l v c y h.site k) [
      | inl e ↦ e
      | inr w ↦
          let f : Follows p.entry.row (l.told h.site) = toward_at cfg l so p.entry h.site p.found p.site in
          let a : Advances b h.vote w.1.promise w.1.vote = advance (p.entry.row v) (l.told h.site v) b w.1.promise h.vote w.1.vote p.row w.1.is (f v) in
          absurd (both_ways (is_below c w.1.promise) w.1.at (below_at c b w.1.promise lt a.promise))
    ]

-- a sound ledger and a quorum's promises are what the choice rule asks
pub recovered : (cfg : Config) (l : Ledger) (v : ℕ) (b : BallotAt) (heard : List Heard) → IsSound cfg l → IsQuorumHeard cfg l.seen v b heard → IsRecovered cfg.n cfg.qc cfg.qf (votes l v) (standing_votes l v) b heard
recovered cfg l v b heard so q = record {
  quorums = so.quorums;
  sites = q.sites;
  enough = q.enough;
  once = votes_once cfg l v so;
  one = carries_one cfg l v so;
  safe = are_safe cfg l v so;
  told = λ (at : ℕ) (h : Heard) (is : slice_get heard at ≡ Some h).
      let p : IsPromiseSeen l.seen v b h = q.promises at h is in
      record { was = heard_was cfg l v b h so p; top = heard_top cfg l v b h so p; shut = heard_shut cfg l v b h so p };
}
