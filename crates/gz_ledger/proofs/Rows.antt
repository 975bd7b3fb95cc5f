-- The rows of a site, now and when they were shown, and how it votes and stands by them.
use Rattle.std.proofs.Common.{◌≡◌, ℕ, true, false, not, ◌&&◌, refl, sym, subst, inl, inr, ◌⊎◌}
use Rattle.std.proofs.lemmas.Bool.{and_parts, and_from, or_cases, or_left, or_right, not-true, not_from_false}
use Rattle.gz_core.specs.Names.{Name, BallotAt}
use Rattle.gz_ledger.specs.Acceptors.{Acceptor, slot_votes, slot_voted, slot_lets}
use Rattle.gz_ledger.specs.Histories.{IsIn, RowSeen, cast, cast_in}
use Rattle.gz_ledger.specs.Ledgers.{Ledger, votes, site_voted, standing_votes}
use Rattle.gz_ledger.proofs.SlotTests.{IsVote, votes_means, votes_from, voted_means, voted_from, LetsIn, lets_means, lets_from}
use Rattle.gz_ledger.proofs.Shown.{IsCast, cast_found, cast_from, cast_in_found, cast_in_from}

-- the site's row, or one that was shown of it
abbrev pub IsRowOf : Ledger → ℕ → Acceptor → Type 0
IsRowOf l s r = (r ≡ l.told s) ⊎ ((e : RowSeen) × IsIn e l.seen × (e.site ≡ s) × (e.row ≡ r))

-- the row that was shown is a row of its site
pub row_of_seen : (l : Ledger) (e : RowSeen) → IsIn e l.seen → IsRowOf l e.site e.row
row_of_seen l e i = inr (e, i, refl, refl)

row_of_cast : (l : Ledger) (v : ℕ) (b : BallotAt) (x : Name) (s : ℕ) (c : IsCast l.seen v b x s) → IsRowOf l s c.entry.row
row_of_cast l v b x s c = inr (c.entry, c.found, c.site, refl)

-- a vote of a site stands in one of its rows
pub votes_row : (l : Ledger) (v : ℕ) (b : BallotAt) (x : Name) (s : ℕ) → votes l v b x s ≡ true → (r : Acceptor) × IsRowOf l s r × IsVote (r v) b x
votes_row l v b x s e =
    elim (or_cases (slot_votes (l.told s v) b x) (cast l.seen v b x s) e) [
      | inl h ↦ (l.told s, inl refl, votes_means (l.told s v) b x h)
      | inr h ↦
          let c : IsCast l.seen v b x s = cast_found l.seen v b x s h in
          (c.entry.row, row_of_cast l v b x s c, c.vote)
    ]

-- and a vote in one of its rows is its vote
pub row_votes : (l : Ledger) (v : ℕ) (b : BallotAt) (x : Name) (s : ℕ) (r : Acceptor) → IsRowOf l s r → IsVote (r v) b x → votes l v b x s ≡ true
row_votes l v b x s r (inl e) h =
    or_left (slot_votes (l.told s v) b x) (cast l.seen v b x s) (votes_from (l.told s v) b x (subst (λ (q : Acceptor). IsVote (q v) b x) e h))
row_votes l v b x s r (inr w) h =
    or_right (slot_votes (l.told s v) b x) (cast l.seen v b x s)
    (subst (λ (t : ℕ). cast l.seen v b x t ≡ true) w.2 (cast_from l.seen v b x w.0 w.1 (subst (λ (q : Acceptor). IsVote (q v) b x) (sym w.3) h)))

pub voted_row : (l : Ledger) (v : ℕ) (b : BallotAt) (s : ℕ) → site_voted l v b s ≡ true → (r : Acceptor) × (x : Name) × IsRowOf l s r × IsVote (r v) b x
voted_row l v b s e =
    elim (or_cases (slot_voted (l.told s v) b) (cast_in l.seen v b s) e) [
      | inl h ↦
          let w : (x : Name) × IsVote (l.told s v) b x = voted_means (l.told s v) b h in
          (l.told s, w.0, inl refl, w.1)
      | inr h ↦
          let w : (x : Name) × IsCast l.seen v b x s = cast_in_found l.seen v b s h in
          (w.1.entry.row, w.0, row_of_cast l v b w.0 s w.1, w.1.vote)
    ]

pub row_voted : (l : Ledger) (v : ℕ) (b : BallotAt) (x : Name) (s : ℕ) (r : Acceptor) → IsRowOf l s r → IsVote (r v) b x → site_voted l v b s ≡ true
row_voted l v b x s r (inl e) h =
    or_left (slot_voted (l.told s v) b) (cast_in l.seen v b s) (voted_from (l.told s v) b x (subst (λ (q : Acceptor). IsVote (q v) b x) e h))
row_voted l v b x s r (inr w) h =
    or_right (slot_voted (l.told s v) b) (cast_in l.seen v b s)
    (subst (λ (t : ℕ). cast_in l.seen v b t ≡ true) w.2 (cast_in_from l.seen v b x w.0 w.1 (subst (λ (q : Acceptor). IsVote (q v) b x) (sym w.3) h)))

-- a site that stands for a value voted for it, or did not vote in the ballot and may yet
pub stands_cases : (l : Ledger) (v : ℕ) (b : BallotAt) (x : Name) (s : ℕ) → standing_votes l v b x s ≡ true → (votes l v b x s ≡ true) ⊎ ((site_voted l v b s ≡ false) × LetsIn (l.told s v) b)
stands_cases l v b x s e =
    elim (or_cases (votes l v b x s) (not (site_voted l v b s) && slot_lets (l.told s v) b) e) [
      | inl h ↦ inl h
      | inr h ↦
          let parts : (not (site_voted l v b s) ≡ true) × (slot_lets (l.told s v) b ≡ true) = and_parts (not (site_voted l v b s)) (slot_lets (l.told s v) b) h in
          inr (not-true (site_voted l v b s) parts.0, lets_means (l.told s v) b parts.1)
    ]

pub stands_voted : (l : Ledger) (v : ℕ) (b : BallotAt) (x : Name) (s : ℕ) → votes l v b x s ≡ true → standing_votes l v b x s ≡ true
stands_voted l v b x s h = or_left (votes l v b x s) (not (site_voted l v b s) && slot_lets (l.told s v) b) h

pub stands_open : (l : Ledger) (v : ℕ) (b : BallotAt) (x : Name) (s : ℕ) → site_voted l v b s ≡ false → LetsIn (l.told s v) b → standing_votes l v b x s ≡ true
stands_open l v b x s n h =
    or_right (votes l v b x s) (not (site_voted l v b s) && slot_lets (l.told s v) b)
    (and_from (not (site_voted l v b s)) (slot_lets (l.told s v) b) (not_from_false (site_voted l v b s) n) (lets_from (l.told s v) b h))
