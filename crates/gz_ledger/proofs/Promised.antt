-- A row that promises a classic ballot tells that the promise was sent.
use Rattle.std.proofs.Common.{◌≡◌, ℕ, ◌≤◌, true, false, List, [], ◌∷◌, Option, Some, refl, sym, ◌∙◌, subst, inl, inr, ◌⊎◌}
use Rattle.gz_core.specs.Names.{Name, BallotAt, fast, same_ballot}
use Rattle.gz_core.specs.Slots.{Act, VotesFast, Promises, VotesClassic, Decides, Trims, Makes}
use Rattle.gz_core.specs.declared.slots.Slot.{Slot}
use Rattle.gz_core.specs.declared.slots.Slot.TheVariants.{Gone, DecidedAs, OpenAt}
use Rattle.gz_config.specs.declared.Config.{Config}
use Rattle.gz_core.proofs.Ballots.{same_refl}
use Rattle.gz_ledger.specs.Acceptors.{Acceptor}
use Rattle.gz_ledger.specs.Histories.{IsIn, RowSeen, Write}
use Rattle.gz_ledger.specs.Ledgers.{Ledger, Move, Shows, Sends, Takes, row_of, moved, after_moves, Can, AreMoves}
use Rattle.gz_ledger.specs.Agreements.{HasQuorums}
use Rattle.gz_ledger.proofs.Shown.{Includes}
use Rattle.gz_ledger.proofs.Sound.{ActOk, IsSound}
use Rattle.gz_ledger.proofs.Kept.{sound, each_with, each_trimmed, each_told}

-- a promise of this ballot at this version was sent
abbrev pub IsPromiseSent : List Write → ℕ → BallotAt → Type 0
IsPromiseSent sent v b = (w : Write) × (IsIn w sent × (w.act ≡ Promises v b))

abbrev pub SlotPromised : List Write → ℕ → Slot → Type 0
SlotPromised sent v Gone = Unit {0}
SlotPromised sent v (DecidedAs x) = Unit {0}
SlotPromised sent v (OpenAt p vote) = (same_ballot p fast ≡ true) ⊎ IsPromiseSent sent v p

-- each row of a ledger tells so
pub record ArePromised (l : Ledger) : Type 0 where
  pub told : (s v : ℕ) → SlotPromised l.sent v (l.told s v)
  pub seen : (e : RowSeen) (v : ℕ) → IsIn e l.seen → SlotPromised l.sent v (e.row v)

more_sent : (sent more : List Write) (v : ℕ) (slot : Slot) → Includes sent more → SlotPromised sent v slot → SlotPromised more v slot
more_sent sent more v Gone i h = tt
more_sent sent more v (DecidedAs x) i h = tt
more_sent sent more v (OpenAt p vote) i (inl e) = inl e
more_sent sent more v (OpenAt p vote) i (inr h) = inr (h.0, (i h.0 h.1.0, h.1.1))

-- the row that a step makes
made_promised : (cfg : Config) (l : Ledger) (w : Write) (act : Act) (r s : Acceptor) → IsIn w l.sent → w.act ≡ act → ActOk cfg l w.call act → ((v : ℕ) → SlotPromised l.sent v (r v)) → Makes act r s → (v : ℕ) → SlotPromised l.sent v (s v)
made_promised cfg l w (VotesFast u x) r s i e ok all m v =
    subst (λ (t : Acceptor). SlotPromised l.sent v (t v)) (sym m.1) (each_with (SlotPromised l.sent) r u (OpenAt fast (Some (fast, x))) all (inl (same_refl fast)) v)
made_promised cfg l w (Promises u b) r s i e ok all m v =
    subst (λ (t : Acceptor). SlotPromised l.sent v (t v)) (sym m.1.1.1.1) (each_with (SlotPromised l.sent) r u (OpenAt b m.1.0) all (inr (w, (i, e))) v)
made_promised cfg l w (VotesClassic u b x) r s i e ok all m v =
    let p = ok.promised in
    subst (λ (t : Acceptor). SlotPromised l.sent v (t v)) (sym m.1.1.1.1.1) (each_with (SlotPromised l.sent) r u (OpenAt b (Some (b, x))) all (inr (p.write, (p.found, p.promises))) v)
made_promised cfg l w (Decides u x) r s i e ok all m v =
    subst (λ (t : Acceptor). SlotPromised l.sent v (t v)) (sym m.1.1.1) (each_with (SlotPromised l.sent) r u (DecidedAs x) all tt v)
made_promised cfg l w (Trims to x) r s i e ok all m v =
    subst (λ (t : Acceptor). SlotPromised l.sent v (t v)) (sym m.1.1) (each_trimmed (SlotPromised l.sent) r to x all (λ (u : ℕ) (low : u ≤ to). tt) tt v)

shown_promised : (l : Ledger) (s : ℕ) → ArePromised l → (e : RowSeen) (v : ℕ) → IsIn e (row_of l s ∷ l.seen) → SlotPromised l.sent v (e.row v)
shown_promised l s p e v (inl same) = subst (λ (f : RowSeen). SlotPromised l.sent v (f.row v)) (sym same) (p.told s v)
shown_promised l s p e v (inr i) = p.seen e v i

promised_moved : (cfg : Config) (l : Ledger) (m : Move) → IsSound cfg l → Can cfg l m → ArePromised l → ArePromised (moved l m)
promised_moved cfg l (Shows s) so can p = record { told = p.told; seen = shown_promised l s p }
promised_moved cfg l (Sends w) so can p = record {
  told = λ (s v : ℕ). more_sent l.sent (w ∷ l.sent) v (l.told s v) (λ (x : Write) (i : IsIn x l.sent). inr i) (p.told s v);
  seen = λ (e : RowSeen) (v : ℕ) (i : IsIn e l.seen). more_sent l.sent (w ∷ l.sent) v (e.row v) (λ (x : Write) (j : IsIn x l.sent). inr j) (p.seen e v i);
}
promised_moved cfg l (Takes w) so can p =
    let makes : Makes w.act (l.told w.site) w.after = subst (λ (r : Acceptor). Makes w.act r w.after) (sym can.1) (so.sent_makes w can.0) in
    record {
      told = each_told l w (λ (r : Acceptor). (v : ℕ) → SlotPromised l.sent v (r v)) (made_promised cfg l w w.act (l.told w.site) w.after can.0 refl (so.sent_ok w can.0) (p.told w.site) makes) p.told;
      seen = p.seen;
    }

-- in every run
pub promised : (cfg : Config) (ms : List Move) → HasQuorums cfg → AreMoves cfg ms → ArePromised (after_moves ms)
promised cfg [] q a = record { told = λ (s v : ℕ). inl (same_refl fast); seen = λ (e : RowSeen) (v : ℕ) (i : IsIn e []). absurd i }
promised cfg (m ∷ ms) q a = promised_moved cfg (after_moves ms) m (sound cfg ms q a.0) a.1 (promised cfg ms q a.0)

-- a row at which a ballot is promised was shown only after a promise of it was sent
pub unpromised_row : (l : Ledger) (e : RowSeen) (v : ℕ) (b : BallotAt) (vote : Option (BallotAt × Name)) → ArePromised l → IsIn e l.seen → e.row v ≡ OpenAt b vote → same_ballot b fast ≡ false → IsPromiseSent l.sent v b
unpromised_row l e v b vote p i is classic =
    elim (subst (SlotPromised l.sent v) is (p.seen e v i)) [ inl f ↦ (let bad : true ≡ false = sym f ∙ classic in cc) | inr h ↦ h ]
