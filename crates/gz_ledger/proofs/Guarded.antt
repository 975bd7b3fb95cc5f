-- What the guards of a write give.
use Rattle.std.proofs.Common.{◌≡◌, ℕ, zero, suc, ◌+◌, ◌≤◌, false, List, ◌∷◌, Option, Some, None, refl, ap, ◌∙◌, sym, subst, inl, inr, ◌⊎◌, arith}
use Rattle.std.proofs.lemmas.Bool.{cases_eq}
use Rattle.gz_core.specs.Names.{Name, BallotAt, fast, same_ballot}
use Rattle.gz_core.specs.Slots.{Act, VotesFast, Promises, VotesClassic, Decides, Trims}
use Rattle.gz_core.specs.declared.slots.Slot.{Slot}
use Rattle.gz_core.specs.declared.slots.Slot.TheVariants.{Gone, DecidedAs, OpenAt}
use Rattle.gz_config.specs.declared.Config.{Config}
use Rattle.gz_model.proofs.Choices.{allowed_safe}
use Rattle.gz_ledger.specs.Acceptors.{HasValue}
use Rattle.gz_ledger.specs.Histories.{RowSeen, Write, IsChosenAt, IsShownByRows, IsVotedAt, VotesFor, IsProposed, IsPromised}
use Rattle.gz_ledger.specs.Guards.{IsClearByRows, IsNextByRows, IsGroundedByRows, IsPromiseSeen, MayVoteClassic, May}
use Rattle.gz_ledger.specs.Ledgers.{Ledger, Sends, moved, standing_votes, votes}
use Rattle.gz_ledger.proofs.Sound.{IsBuilt, SlotOk, IsVoteRight, ActOk, IsOtherChosen, IsSound}
use Rattle.gz_ledger.proofs.SoundVotes.{chosen_ok, shown_chosen, recovered}

-- a chosen value's version is built
pub chosen_built : (cfg : Config) (l : Ledger) (v : ℕ) (x : Name) → IsSound cfg l → IsChosenAt cfg l.seen v x → IsBuilt cfg l.seen v
chosen_built cfg l v x so h = (chosen_ok cfg l v x so h).built

pub next_built : (cfg : Config) (l : Ledger) (v : ℕ) → IsSound cfg l → IsNextByRows cfg l.seen v → IsBuilt cfg l.seen v
next_built cfg l v so (inl e) = inl e
next_built cfg l v so (inr (u, e, y, h)) = inr (u, e, y, shown_chosen cfg l u y so h)

-- below a built version each is built
pub built_down : (cfg : Config) (l : Ledger) → IsSound cfg l → (w v : ℕ) → IsBuilt cfg l.seen w → 1 ≤ v → v ≤ w → IsBuilt cfg l.seen v
built_down cfg l so zero v b p le = absurd (omega arith)
built_down cfg l so (suc w) v b p le =
    elim (cases_eq v (suc w)) [
      | inl e ↦ subst (λ (k : ℕ). IsBuilt cfg l.seen k) (sym e) b
      | inr ne ↦ elim b [
        | inl e ↦ absurd (below_one v w p le ne e)
        | inr f ↦ built_down cfg l so w v (subst (λ (k : ℕ). IsBuilt cfg l.seen k) (same_suc f.0 w f.1) (chosen_built cfg l f.0 f.2 so f.3)) p (below_suc v w le ne)
      ]
    ]
  where
    below_one : (v w : ℕ) → 1 ≤ v → v ≤ suc w → (v ≡ suc w → ⊥) → suc w ≡ 1 → ⊥
    below_one v w p le ne e = grind arith

    below_suc : (v w : ℕ) → v ≤ suc w → (v ≡ suc w → ⊥) → v ≤ w
    below_suc v w le ne = grind arith

    same_suc : (u w : ℕ) → suc w ≡ suc u → u ≡ w
    same_suc u w e = omega arith

pub value_built : (cfg : Config) (seen : List RowSeen) (sent : List Write) (u : ℕ) (slot : Slot) → SlotOk cfg seen sent u slot → HasValue slot → IsBuilt cfg seen u
value_built cfg seen sent u Gone ok h = absurd h
value_built cfg seen sent u (DecidedAs x) ok h = ok.1
value_built cfg seen sent u (OpenAt p None) ok h = absurd h
value_built cfg seen sent u (OpenAt p (Some vote)) ok h = ok.built

pub grounded_built : (cfg : Config) (l : Ledger) (v : ℕ) → IsSound cfg l → 1 ≤ v → IsGroundedByRows cfg l.seen v → IsBuilt cfg l.seen v
grounded_built cfg l v so p (inl n) = next_built cfg l v so n
grounded_built cfg l v so p (inr (e, u, i, le, h)) = built_down cfg l so u v (value_built cfg l.seen l.sent u (e.row u) (so.seen_ok e u i) h) p le

-- a value that was shown with a vote was proposed by its own call
pub voted_proposed : (cfg : Config) (l : Ledger) (v : ℕ) (x : Name) → IsSound cfg l → IsVotedAt l.seen v x → IsProposed l.sent v x
voted_proposed cfg l v x so h =
    (subst (λ (slot : Slot). SlotOk cfg l.seen l.sent v slot) h.votes (so.seen_ok h.entry v h.found)).proposed

-- the value of a classic vote is the call's own, which is clear, or its own call proposed it before
pub source_of : (cfg : Config) (l : Ledger) (call : Name) (v : ℕ) (b : BallotAt) (x : Name) → IsSound cfg l → MayVoteClassic cfg l.seen l.sent call v b x → ((x ≡ call) × IsClearByRows cfg l.seen l.sent call v) ⊎ IsProposed l.sent v x
source_of cfg l call v b x so m =
    elim m.allowed [
      | inl free ↦ elim (m.source free) [ inl own ↦ inl own | inr h ↦ inr (voted_proposed cfg l v x so h) ]
      | inr a ↦
          let p : IsPromiseSeen l.seen v b a.3.site = m.quorum.promises a.0 a.3.site a.3.is in
          inr (voted_proposed cfg l v x so (record { entry = p.entry; found = p.found; promise = b; ballot = a.2; votes = p.row ∙ ap (λ (o : Option (BallotAt × Name)). OpenAt b o) a.3.vote }))
    ]

-- a promise that was sent is of a classic ballot, at a built version
pub promised_ok : (cfg : Config) (l : Ledger) (call : Name) (v : ℕ) (b : BallotAt) → IsSound cfg l → IsPromised l.sent call v b → (same_ballot b fast ≡ false) × IsBuilt cfg l.seen v
promised_ok cfg l call v b so p =
    subst (λ (act : Act). ActOk cfg l p.write.call act) p.promises (so.sent_ok p.write p.found)

later_promised : (sent : List Write) (w : Write) (call : Name) (v : ℕ) (b : BallotAt) → IsPromised sent call v b → IsPromised (w ∷ sent) call v b
later_promised sent w call v b p = record { write = p.write; found = inr p.found; same = p.same; promises = p.promises }

-- the vote that is sent now proposes, where it is for the call's own value
own_proposed : (sent : List Write) (w : Write) (v : ℕ) (x : Name) → x ≡ w.call → VotesFor w.act v x → IsProposed (w ∷ sent) v x
own_proposed sent w v x e h = record { write = w; found = inl refl; own = sym e; votes = h }

classic_right : (cfg : Config) (l : Ledger) (w : Write) (v : ℕ) (b : BallotAt) (x : Name) → IsSound cfg l → w.act ≡ VotesClassic v b x → MayVoteClassic cfg l.seen l.sent w.call v b x → IsVoteRight cfg (moved l (Sends w)) w.call v b x
classic_right cfg l w v b x so e m =
    let ok : (same_ballot b fast ≡ false) × IsBuilt cfg l.seen v = promised_ok cfg l w.call v b so m.promised in
    record {
      classic = ok.0;
      built = ok.1;
      safe = allowed_safe cfg.n cfg.qc cfg.qf (votes l v) (standing_votes l v) b m.heard x (recovered cfg l v b m.heard so m.quorum) m.allowed;
      promised = later_promised l.sent w w.call v b m.promised;
      proposed = elim (source_of cfg l w.call v b x so m) [
        | inl own ↦ own_proposed l.sent w v x own.0 (subst (λ (act : Act). VotesFor act v x) (sym e) (refl, refl))
        | inr p ↦ record { write = p.write; found = inr p.found; own = p.own; votes = p.votes }
      ];
    }

-- what stands behind a step that may be sent
pub may_ok : (cfg : Config) (l : Ledger) (w : Write) (act : Act) → IsSound cfg l → w.act ≡ act → May cfg l.seen l.sent w.call act → ActOk cfg (moved l (Sends w)) w.call act
may_ok cfg l w (VotesFast v x) so e m = (m.own, next_built cfg l v so m.next)
may_ok cfg l w (Promises v b) so e m = (m.classic, grounded_built cfg l v so m.positive m.grounded)
may_ok cfg l w (VotesClassic v b x) so e m = classic_right cfg l w v b x so e m
may_ok cfg l w (Decides v x) so e m =
    let h : IsChosenAt cfg l.seen v x = shown_chosen cfg l v x so m in
    (h, chosen_built cfg l v x so h)
may_ok cfg l w (Trims to x) so e m =
    let h : IsChosenAt cfg l.seen (to + 1) x = shown_chosen cfg l (to + 1) x so m in
    (h, chosen_built cfg l (to + 1) x so h)

-- a vote for the call's own value is clear, or its call proposed it before
pub own_vote : (cfg : Config) (l : Ledger) (call : Name) (v : ℕ) (act : Act) → IsSound cfg l → May cfg l.seen l.sent call act → VotesFor act v call → IsClearByRows cfg l.seen l.sent call v ⊎ IsProposed l.sent v call
own_vote cfg l call v (VotesFast u x) so m h = inl (subst (λ (k : ℕ). IsClearByRows cfg l.seen l.sent call k) h.0 m.clear)
own_vote cfg l call v (Promises u b) so m h = absurd h
own_vote cfg l call v (VotesClassic u b x) so m h =
    elim (source_of cfg l call u b x so m) [
      | inl own ↦ inl (subst (λ (k : ℕ). IsClearByRows cfg l.seen l.sent call k) h.0 own.1)
      | inr p ↦ inr (subst (λ (k : ℕ). IsProposed l.sent k call) h.0 (subst (λ (y : Name). IsProposed l.sent u y) h.1 p))
    ]
own_vote cfg l call v (Decides u x) so m h = absurd h
own_vote cfg l call v (Trims to x) so m h = absurd h

-- the versions at which a call votes for its own value are one, or another value is chosen at one of them
pub new_apart : (cfg : Config) (l : Ledger) (w : Write) (u v : ℕ) (x : Name) → IsSound cfg l → May cfg l.seen l.sent w.call w.act → w.call ≡ x → VotesFor w.act u x → IsProposed l.sent v x → (u ≡ v) ⊎ (IsOtherChosen cfg l.seen u x ⊎ IsOtherChosen cfg l.seen v x)
new_apart cfg l w u v x so m own h p =
    let here : VotesFor w.act u w.call = subst (λ (y : Name). VotesFor w.act u y) (sym own) h in
    elim (own_vote cfg l w.call u w.act so m here) [
      | inl clear ↦ elim (cases_eq v u) [
        | inl e ↦ inl (sym e)
        | inr ne ↦
            let o : (y : Name) × (y ≡ w.call → ⊥) × IsShownByRows cfg l.seen v y = clear p.write v p.found (p.own ∙ sym own) (subst (λ (y : Name). VotesFor p.write.act v y) (sym own) p.votes) ne in
            inr (inr (o.0, λ (e : o.0 ≡ x). o.1 (e ∙ sym own), shown_chosen cfg l v o.0 so o.2))
      ]
      | inr q ↦ so.apart u v x (subst (λ (y : Name). IsProposed l.sent u y) own q) p
    ]
