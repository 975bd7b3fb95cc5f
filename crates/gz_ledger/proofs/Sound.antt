-- What every run keeps.
use Rattle.std.proofs.Common.{◌≡◌, ℕ, suc, ◌+◌, false, List, [], ◌∷◌, Some, None, ap, ◌∙◌, sym, subst, inl, inr, ◌⊎◌}
use Rattle.gz_core.specs.Names.{Name, BallotAt, fast, same_ballot}
use Rattle.gz_core.specs.Slots.{Act, VotesFast, Promises, VotesClassic, Decides, Trims, Makes}
use Rattle.gz_core.specs.declared.slots.Slot.{Slot}
use Rattle.gz_core.specs.declared.slots.Slot.TheVariants.{Gone, DecidedAs, OpenAt}
use Rattle.gz_config.specs.declared.Config.{Config}
use Rattle.gz_model.specs.Choosing.{IsSafe}
use Rattle.gz_ledger.specs.Acceptors.{Acceptor}
use Rattle.gz_ledger.specs.Histories.{IsIn, RowSeen, Write, IsChosenAt, IsProposed, IsPromised, IsTrimSent}
use Rattle.gz_ledger.specs.Ledgers.{Ledger, standing_votes}
use Rattle.gz_ledger.specs.Agreements.{HasQuorums}
use Rattle.gz_ledger.proofs.Follows.{Follows, follows_refl, IsAcceptor}
use Rattle.gz_ledger.proofs.Rows.{IsRowOf}
use Rattle.gz_ledger.proofs.SlotTests.{IsVote}

-- the version is the first, or a value is chosen at the one before
abbrev pub IsBuilt : Config → List RowSeen → ℕ → Type 0
IsBuilt cfg seen v = (v ≡ 1) ⊎ ((u : ℕ) × (v ≡ suc u) × (y : Name) × IsChosenAt cfg seen u y)

-- a vote of a classic ballot was sent
abbrev pub IsVoteSent : List Write → ℕ → BallotAt → Name → Type 0
IsVoteSent sent v b x = (w : Write) × IsIn w sent × (w.act ≡ VotesClassic v b x)

-- what stands behind a vote
pub record IsVoteOk (cfg : Config) (seen : List RowSeen) (sent : List Write) (v : ℕ) (u : BallotAt × Name) : Type 0 where
  pub built : IsBuilt cfg seen v
  pub proposed : IsProposed sent v u.1
  pub classic : same_ballot u.0 fast ≡ false → IsVoteSent sent v u.0 u.1

-- what stands behind a slot
abbrev pub SlotOk : Config → List RowSeen → List Write → ℕ → Slot → Type 0
SlotOk cfg seen sent v Gone = IsTrimSent sent v
SlotOk cfg seen sent v (DecidedAs x) = IsChosenAt cfg seen v x × IsBuilt cfg seen v
SlotOk cfg seen sent v (OpenAt p None) = (p ≡ fast) ⊎ IsBuilt cfg seen v
SlotOk cfg seen sent v (OpenAt p (Some u)) = IsVoteOk cfg seen sent v u

-- what stands behind a vote of a classic ballot that was sent
pub record IsVoteRight (cfg : Config) (l : Ledger) (call : Name) (v : ℕ) (b : BallotAt) (x : Name) : Type 0 where
  pub classic : same_ballot b fast ≡ false
  pub built : IsBuilt cfg l.seen v
  pub safe : IsSafe cfg.n cfg.qc cfg.qf (standing_votes l v) b x
  pub promised : IsPromised l.sent call v b
  pub proposed : IsProposed l.sent v x

-- what stands behind a step that was sent
abbrev pub ActOk : Config → Ledger → Name → Act → Type 0
ActOk cfg l call (VotesFast v x) = (x ≡ call) × IsBuilt cfg l.seen v
ActOk cfg l call (Promises v b) = (same_ballot b fast ≡ false) × IsBuilt cfg l.seen v
ActOk cfg l call (VotesClassic v b x) = IsVoteRight cfg l call v b x
ActOk cfg l call (Decides v x) = IsChosenAt cfg l.seen v x × IsBuilt cfg l.seen v
ActOk cfg l call (Trims to x) = IsChosenAt cfg l.seen (to + 1) x × IsBuilt cfg l.seen (to + 1)

-- a value other than this one is chosen
abbrev pub IsOtherChosen : Config → List RowSeen → ℕ → Name → Type 0
IsOtherChosen cfg seen v x = (y : Name) × (y ≡ x → ⊥) × IsChosenAt cfg seen v y

-- the rows that were shown of one site go forward
abbrev pub IsChain : List RowSeen → Type 0
IsChain [] = Unit {0}
IsChain (e ∷ es) = ((f : RowSeen) → IsIn f es → f.site ≡ e.site → Follows f.row e.row) × IsChain es

pub record IsSound (cfg : Config) (l : Ledger) : Type 0 where
  pub quorums : HasQuorums cfg
  pub chain : IsChain l.seen
  pub toward : (e : RowSeen) → IsIn e l.seen → Follows e.row (l.told e.site)
  pub told_acceptor : (s : ℕ) → IsAcceptor (l.told s)
  pub seen_acceptor : (e : RowSeen) → IsIn e l.seen → IsAcceptor e.row
  pub told_ok : (s v : ℕ) → SlotOk cfg l.seen l.sent v (l.told s v)
  pub seen_ok : (e : RowSeen) (v : ℕ) → IsIn e l.seen → SlotOk cfg l.seen l.sent v (e.row v)
  pub sent_shown : (w : Write) → IsIn w l.sent → (e : RowSeen) × IsIn e l.seen × (e.site ≡ w.site) × (e.row ≡ w.before)
  pub sent_makes : (w : Write) → IsIn w l.sent → Makes w.act w.before w.after
  pub sent_ok : (w : Write) → IsIn w l.sent → ActOk cfg l w.call w.act
  pub owned : (w x : Write) (u v : ℕ) (b : BallotAt) → IsIn w l.sent → IsIn x l.sent → w.act ≡ Promises u b → x.act ≡ Promises v b → (w.call ≡ x.call) × (u ≡ v)
  pub one : (w x : Write) (v : ℕ) (b : BallotAt) (y z : Name) → IsIn w l.sent → IsIn x l.sent → w.act ≡ VotesClassic v b y → x.act ≡ VotesClassic v b z → y ≡ z
  pub apart : (u v : ℕ) (x : Name) → IsProposed l.sent u x → IsProposed l.sent v x → (u ≡ v) ⊎ (IsOtherChosen cfg l.seen u x ⊎ IsOtherChosen cfg l.seen v x)

-- of two rows that were shown of one site one goes forward to the other
pub on_chain : (seen : List RowSeen) (e f : RowSeen) → IsChain seen → IsIn e seen → IsIn f seen → e.site ≡ f.site → Follows e.row f.row ⊎ Follows f.row e.row
on_chain [] e f c i j s = absurd i
on_chain (g ∷ es) e f c (inl p) (inl q) s = inl (subst (λ (h : RowSeen). Follows e.row h.row) (p ∙ sym q) (follows_refl e.row))
on_chain (g ∷ es) e f c (inl p) (inr j) s = inr (subst (λ (h : RowSeen). Follows f.row h.row) (sym p) (c.0 f j (sym s ∙ ap (λ (h : RowSeen). h.site) p)))
on_chain (g ∷ es) e f c (inr i) (inl q) s = inl (subst (λ (h : RowSeen). Follows e.row h.row) (sym q) (c.0 e i (s ∙ ap (λ (h : RowSeen). h.site) q)))
on_chain (g ∷ es) e f c (inr i) (inr j) s = on_chain es e f c.1 i j s

-- a row that was shown of a site goes forward to the site's
pub toward_at : (cfg : Config) (l : Ledger) → IsSound cfg l → (e : RowSeen) (s : ℕ) → IsIn e l.seen → e.site ≡ s → Follows e.row (l.told s)
toward_at cfg l so e s i p = subst (λ (t : ℕ). Follows e.row (l.told t)) p (so.toward e i)

-- of two rows of a site one goes forward to the other
pub line : (cfg : Config) (l : Ledger) → IsSound cfg l → (s : ℕ) (r q : Acceptor) → IsRowOf l s r → IsRowOf l s q → Follows r q ⊎ Follows q r
line cfg l so s r q (inl e) (inl f) = inl (subst (λ (p : Acceptor). Follows r p) (e ∙ sym f) (follows_refl r))
line cfg l so s r q (inl e) (inr w) =
    inr (subst (λ (p : Acceptor). Follows q p) (sym e) (subst (λ (p : Acceptor). Follows p (l.told s)) w.3 (toward_at cfg l so w.0 s w.1 w.2)))
line cfg l so s r q (inr w) (inl f) =
    inl (subst (λ (p : Acceptor). Follows r p) (sym f) (subst (λ (p : Acceptor). Follows p (l.told s)) w.3 (toward_at cfg l so w.0 s w.1 w.2)))
line cfg l so s r q (inr w) (inr x) =
    subst (λ (p : Acceptor). Follows p q ⊎ Follows q p) w.3 (subst (λ (p : Acceptor). Follows w.0.row p ⊎ Follows p w.0.row) x.3 (on_chain l.seen w.0 x.0 so.chain w.1 x.1 (w.2 ∙ sym x.2)))

-- each row of a site keeps the acceptor's rule
pub row_acceptor : (cfg : Config) (l : Ledger) → IsSound cfg l → (s : ℕ) (r : Acceptor) → IsRowOf l s r → IsAcceptor r
row_acceptor cfg l so s r (inl e) = subst IsAcceptor (sym e) (so.told_acceptor s)
row_acceptor cfg l so s r (inr w) = subst IsAcceptor w.3 (so.seen_acceptor w.0 w.1)

-- and its slots have what stands behind them
pub row_ok : (cfg : Config) (l : Ledger) → IsSound cfg l → (s : ℕ) (r : Acceptor) (v : ℕ) → IsRowOf l s r → SlotOk cfg l.seen l.sent v (r v)
row_ok cfg l so s r v (inl e) = subst (λ (q : Acceptor). SlotOk cfg l.seen l.sent v (q v)) (sym e) (so.told_ok s v)
row_ok cfg l so s r v (inr w) = subst (λ (q : Acceptor). SlotOk cfg l.seen l.sent v (q v)) w.3 (so.seen_ok w.0 v w.1)

pub vote_ok : (cfg : Config) (l : Ledger) → IsSound cfg l → (s : ℕ) (r : Acceptor) (v : ℕ) (b : BallotAt) (x : Name) → IsRowOf l s r → IsVote (r v) b x → IsVoteOk cfg l.seen l.sent v (b, x)
vote_ok cfg l so s r v b x i h = subst (λ (slot : Slot). SlotOk cfg l.seen l.sent v slot) h.1 (row_ok cfg l so s r v i)

pub right_at : (cfg : Config) (l : Ledger) → IsSound cfg l → (w : Write) (v : ℕ) (b : BallotAt) (x : Name) → IsIn w l.sent → w.act ≡ VotesClassic v b x → IsVoteRight cfg l w.call v b x
right_at cfg l so w v b x i e = subst (λ (act : Act). ActOk cfg l w.call act) e (so.sent_ok w i)
