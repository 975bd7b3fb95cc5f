-- Every run is sound.
use Rattle.std.proofs.Common.{◌≡◌, ℕ, ◌+◌, ◌≤◌, true, false, List, [], ◌∷◌, Option, Some, None, refl, ap, ◌∙◌, sym, subst, inl, inr, ◌⊎◌}
use Rattle.std.proofs.lemmas.Bool.{both_ways, cases_eq}
use Rattle.gz_core.specs.Names.{Name, BallotAt, fast, same_ballot}
use Rattle.gz_core.specs.Slots.{Act, VotesFast, Promises, VotesClassic, Decides, Trims, Makes, with_slot, trimmed}
use Rattle.gz_core.specs.declared.slots.Slot.{Slot}
use Rattle.gz_core.specs.declared.slots.Slot.TheVariants.{Gone, DecidedAs, OpenAt}
use Rattle.gz_config.specs.declared.Config.{Config}
use Rattle.gz_core.proofs.Ballots.{same_refl}
use Rattle.gz_ledger.specs.Acceptors.{Acceptor, new_acceptor, with_acceptor}
use Rattle.gz_ledger.specs.Histories.{IsIn, RowSeen, Write, VotesFor, IsProposed, IsPromised, IsTrimSent}
use Rattle.gz_ledger.specs.Guards.{May}
use Rattle.gz_ledger.specs.Ledgers.{Ledger, new_ledger, Move, Shows, Sends, Takes, moved, row_of, CanSend, Can, after_moves, AreMoves, standing_votes}
use Rattle.gz_ledger.specs.Agreements.{HasQuorums}
use Rattle.gz_ledger.proofs.Follows.{Follows, follows_refl, follows_trans, IsAcceptor, makes_acceptor, with_same, with_other, trim_cases, trimmed_gone, trimmed_decided, trimmed_other}
use Rattle.gz_ledger.proofs.Shown.{Includes}
use Rattle.gz_ledger.proofs.Sound.{IsBuilt, SlotOk, IsVoteOk, ActOk, IsOtherChosen, IsSound, toward_at, right_at}
use Rattle.gz_ledger.proofs.Stances.{shrinks_show, shrinks_take, take_follows, acceptor_same, acceptor_other}
use Rattle.gz_ledger.proofs.Grown.{slot_more, act_more, other_more}
use Rattle.gz_ledger.proofs.Guarded.{may_ok, new_apart}

-- nothing has happened
new_is_acceptor : IsAcceptor new_acceptor
new_is_acceptor = record {
  under = λ (v : ℕ) (p : BallotAt) (u : BallotAt × Name) (e : OpenAt fast None ≡ OpenAt p (Some u)). cc;
  down = λ (v : ℕ) (e : OpenAt fast None ≡ Gone). cc;
  topped = λ (v : ℕ) (e : OpenAt fast None ≡ Gone). cc;
}

pub sound_new : (cfg : Config) → HasQuorums cfg → IsSound cfg new_ledger
sound_new cfg q = record {
  quorums = q;
  chain = tt;
  toward = λ (e : RowSeen) (i : IsIn e []). absurd i;
  told_acceptor = λ (s : ℕ). new_is_acceptor;
  seen_acceptor = λ (e : RowSeen) (i : IsIn e []). absurd i;
  told_ok = λ (s v : ℕ). inl refl;
  seen_ok = λ (e : RowSeen) (v : ℕ) (i : IsIn e []). absurd i;
  sent_shown = λ (w : Write) (i : IsIn w []). absurd i;
  sent_makes = λ (w : Write) (i : IsIn w []). absurd i;
  sent_ok = λ (w : Write) (i : IsIn w []). absurd i;
  owned = λ (w x : Write) (u v : ℕ) (b : BallotAt) (i : IsIn w []). absurd i;
  one = λ (w x : Write) (v : ℕ) (b : BallotAt) (y z : Name) (i : IsIn w []). absurd i;
  apart = λ (u v : ℕ) (x : Name) (p : IsProposed [] u x). absurd p.found;
}

apart_more : (cfg : Config) (seen more : List RowSeen) (u v : ℕ) (x : Name) → Includes seen more → (u ≡ v) ⊎ (IsOtherChosen cfg seen u x ⊎ IsOtherChosen cfg seen v x) → (u ≡ v) ⊎ (IsOtherChosen cfg more u x ⊎ IsOtherChosen cfg more v x)
apart_more cfg seen more u v x i (inl e) = inl e
apart_more cfg seen more u v x i (inr (inl h)) = inr (inl (other_more cfg seen more u x i h))
apart_more cfg seen more u v x i (inr (inr h)) = inr (inr (other_more cfg seen more v x i h))

shown_toward : (cfg : Config) (l : Ledger) (s : ℕ) → IsSound cfg l → (e : RowSeen) → IsIn e (row_of l s ∷ l.seen) → Follows e.row (l.told e.site)
shown_toward cfg l s so e (inl p) = subst (λ (f : RowSeen). Follows f.row (l.told f.site)) (sym p) (follows_refl (l.told s))
shown_toward cfg l s so e (inr i) = so.toward e i

shown_acceptor : (cfg : Config) (l : Ledger) (s : ℕ) → IsSound cfg l → (e : RowSeen) → IsIn e (row_of l s ∷ l.seen) → IsAcceptor e.row
shown_acceptor cfg l s so e (inl p) = subst (λ (f : RowSeen). IsAcceptor f.row) (sym p) (so.told_acceptor s)
shown_acceptor cfg l s so e (inr i) = so.seen_acceptor e i

shown_ok : (cfg : Config) (l : Ledger) (s : ℕ) → IsSound cfg l → (e : RowSeen) (v : ℕ) → IsIn e (row_of l s ∷ l.seen) → SlotOk cfg l.seen l.sent v (e.row v)
shown_ok cfg l s so e v (inl p) = subst (λ (f : RowSeen). SlotOk cfg l.seen l.sent v (f.row v)) (sym p) (so.told_ok s v)
shown_ok cfg l s so e v (inr i) = so.seen_ok e v i

-- a row that is shown
pub sound_show : (cfg : Config) (l : Ledger) (s : ℕ) → IsSound cfg l → IsSound cfg (moved l (Shows s))
sound_show cfg l s so =
    let more : Includes l.seen (row_of l s ∷ l.seen) = λ (e : RowSeen) (i : IsIn e l.seen). inr i in
    let same : Includes l.sent l.sent = λ (w : Write) (i : IsIn w l.sent). i in
    record {
      quorums = so.quorums;
      chain = (λ (f : RowSeen) (i : IsIn f l.seen) (p : f.site ≡ s). toward_at cfg l so f s i p, so.chain);
      toward = shown_toward cfg l s so;
      told_acceptor = so.told_acceptor;
      seen_acceptor = shown_acceptor cfg l s so;
      told_ok = λ (t v : ℕ). slot_more cfg l.seen (row_of l s ∷ l.seen) l.sent l.sent v (l.told t v) more same (so.told_ok t v);
      seen_ok = λ (e : RowSeen) (v : ℕ) (i : IsIn e (row_of l s ∷ l.seen)). slot_more cfg l.seen (row_of l s ∷ l.seen) l.sent l.sent v (e.row v) more same (shown_ok cfg l s so e v i);
      sent_shown = λ (w : Write) (i : IsIn w l.sent).
          let f = so.sent_shown w i in
          (f.0, inr f.1, f.2, f.3);
      sent_makes = so.sent_makes;
      sent_ok = λ (w : Write) (i : IsIn w l.sent). act_more cfg l (moved l (Shows s)) w.call w.act more same (shrinks_show l s) (so.sent_ok w i);
      owned = so.owned;
      one = so.one;
      apart = λ (u v : ℕ) (x : Name) (p : IsProposed l.sent u x) (q : IsProposed l.sent v x). apart_more cfg l.seen (row_of l s ∷ l.seen) u v x more (so.apart u v x p q);
    }

sent_was_shown : (cfg : Config) (l : Ledger) (n : Write) → IsSound cfg l → CanSend cfg l n → (w : Write) → IsIn w (n ∷ l.sent) → (e : RowSeen) × IsIn e l.seen × (e.site ≡ w.site) × (e.row ≡ w.before)
sent_was_shown cfg l n so can w (inl p) =
    (record { site = n.site; row = n.before }, can.shown, ap (λ (x : Write). x.site) (sym p), ap (λ (x : Write). x.before) (sym p))
sent_was_shown cfg l n so can w (inr i) = so.sent_shown w i

sent_is_made : (cfg : Config) (l : Ledger) (n : Write) → IsSound cfg l → CanSend cfg l n → (w : Write) → IsIn w (n ∷ l.sent) → Makes w.act w.before w.after
sent_is_made cfg l n so can w (inl p) = subst (λ (x : Write). Makes x.act x.before x.after) (sym p) can.makes
sent_is_made cfg l n so can w (inr i) = so.sent_makes w i

sent_is_ok : (cfg : Config) (l : Ledger) (n : Write) → IsSound cfg l → CanSend cfg l n → (w : Write) → IsIn w (n ∷ l.sent) → ActOk cfg (moved l (Sends n)) w.call w.act
sent_is_ok cfg l n so can w (inl p) = subst (λ (x : Write). ActOk cfg (moved l (Sends n)) x.call x.act) (sym p) (may_ok cfg l n n.act so refl can.may)
sent_is_ok cfg l n so can w (inr i) =
    act_more cfg l (moved l (Sends n)) w.call w.act (λ (e : RowSeen) (j : IsIn e l.seen). j) (λ (x : Write) (j : IsIn x l.sent). inr j) (λ (v : ℕ) (b : BallotAt) (x : Name) (s : ℕ) (h : standing_votes l v b x s ≡ true). h) (so.sent_ok w i)

-- the promises of a ballot are of one call, at one version
pub new_owned : (cfg : Config) (l : Ledger) (n w : Write) (u v : ℕ) (b : BallotAt) → May cfg l.seen l.sent n.call n.act → n.act ≡ Promises u b → IsIn w l.sent → w.act ≡ Promises v b → (w.call ≡ n.call) × (v ≡ u)
new_owned cfg l n w u v b may e i f =
    let m : May cfg l.seen l.sent n.call (Promises u b) = subst (λ (act : Act). May cfg l.seen l.sent n.call act) e may in
    m.fresh w v i f

promise_parts : (u v : ℕ) (b c : BallotAt) → Promises u b ≡ Promises v c → u ≡ v
promise_parts u v b c e = cc

vote_value : (u v : ℕ) (b c : BallotAt) (x y : Name) → VotesClassic u b x ≡ VotesClassic v c y → x ≡ y
vote_value u v b c x y e = cc

sent_owned : (cfg : Config) (l : Ledger) (n : Write) → IsSound cfg l → CanSend cfg l n → (w x : Write) (u v : ℕ) (b : BallotAt) → IsIn w (n ∷ l.sent) → IsIn x (n ∷ l.sent) → w.act ≡ Promises u b → x.act ≡ Promises v b → (w.call ≡ x.call) × (u ≡ v)
sent_owned cfg l n so can w x u v b (inl p) (inl q) e f =
    let same : w ≡ x = p ∙ sym q in
    (ap (λ (y : Write). y.call) same, promise_parts u v b b (sym e ∙ (ap (λ (y : Write). y.act) same ∙ f)))
sent_owned cfg l n so can w x u v b (inl p) (inr j) e f =
    let act : n.act ≡ Promises u b = ap (λ (y : Write). y.act) (sym p) ∙ e in
    let o : (x.call ≡ n.call) × (v ≡ u) = new_owned cfg l n x u v b can.may act j f in
    (ap (λ (y : Write). y.call) p ∙ sym o.0, sym o.1)
sent_owned cfg l n so can w x u v b (inr i) (inl q) e f =
    let act : n.act ≡ Promises v b = ap (λ (y : Write). y.act) (sym q) ∙ f in
    let o : (w.call ≡ n.call) × (u ≡ v) = new_owned cfg l n w v u b can.may act i e in
    (o.0 ∙ ap (λ (y : Write). y.call) (sym q), o.1)
sent_owned cfg l n so can w x u v b (inr i) (inr j) e f = so.owned w x u v b i j e f

-- a classic vote that may be sent is for the value of those of its ballot that were sent
new_one : (cfg : Config) (l : Ledger) (n w : Write) (v : ℕ) (b : BallotAt) (y z : Name) → IsSound cfg l → May cfg l.seen l.sent n.call n.act → n.act ≡ VotesClassic v b y → IsIn w l.sent → w.act ≡ VotesClassic v b z → z ≡ y
new_one cfg l n w v b y z so may e i f =
    let m : May cfg l.seen l.sent n.call (VotesClassic v b y) = subst (λ (act : Act). May cfg l.seen l.sent n.call act) e may in
    let p : IsPromised l.sent w.call v b = (right_at cfg l so w v b z i f).promised in
    let q : IsPromised l.sent n.call v b = m.promised in
    let o : (p.write.call ≡ q.write.call) × (v ≡ v) = so.owned p.write q.write v v b p.found q.found p.promises q.promises in
    m.one w z i (sym p.same ∙ (o.0 ∙ q.same)) f

sent_one : (cfg : Config) (l : Ledger) (n : Write) → IsSound cfg l → CanSend cfg l n → (w x : Write) (v : ℕ) (b : BallotAt) (y z : Name) → IsIn w (n ∷ l.sent) → IsIn x (n ∷ l.sent) → w.act ≡ VotesClassic v b y → x.act ≡ VotesClassic v b z → y ≡ z
sent_one cfg l n so can w x v b y z (inl p) (inl q) e f =
    vote_value v v b b y z (sym e ∙ (ap (λ (k : Write). k.act) (p ∙ sym q) ∙ f))
sent_one cfg l n so can w x v b y z (inl p) (inr j) e f =
    sym (new_one cfg l n x v b y z so can.may (ap (λ (k : Write). k.act) (sym p) ∙ e) j f)
sent_one cfg l n so can w x v b y z (inr i) (inl q) e f =
    new_one cfg l n w v b z y so can.may (ap (λ (k : Write). k.act) (sym q) ∙ f) i e
sent_one cfg l n so can w x v b y z (inr i) (inr j) e f = so.one w x v b y z i j e f

-- a step votes at one version
votes_at_one : (act : Act) (u v : ℕ) (x : Name) → VotesFor act u x → VotesFor act v x → u ≡ v
votes_at_one (VotesFast w y) u v x h k = sym h.0 ∙ k.0
votes_at_one (Promises w b) u v x h k = absurd h
votes_at_one (VotesClassic w b y) u v x h k = sym h.0 ∙ k.0
votes_at_one (Decides w y) u v x h k = absurd h
votes_at_one (Trims to y) u v x h k = absurd h

swapped : (cfg : Config) (seen : List RowSeen) (u v : ℕ) (x : Name) → (u ≡ v) ⊎ (IsOtherChosen cfg seen u x ⊎ IsOtherChosen cfg seen v x) → (v ≡ u) ⊎ (IsOtherChosen cfg seen v x ⊎ IsOtherChosen cfg seen u x)
swapped cfg seen u v x (inl e) = inl (sym e)
swapped cfg seen u v x (inr (inl h)) = inr (inr h)
swapped cfg seen u v x (inr (inr h)) = inr (inl h)

sent_apart : (cfg : Config) (l : Ledger) (n : Write) → IsSound cfg l → CanSend cfg l n → (u v : ℕ) (x : Name) (p q : Write) → IsIn p (n ∷ l.sent) → p.call ≡ x → VotesFor p.act u x → IsIn q (n ∷ l.sent) → q.call ≡ x → VotesFor q.act v x → (u ≡ v) ⊎ (IsOtherChosen cfg l.seen u x ⊎ IsOtherChosen cfg l.seen v x)
sent_apart cfg l n so can u v x p q (inl i) a h (inl j) b k =
    inl (votes_at_one n.act u v x (subst (λ (w : Write). VotesFor w.act u x) i h) (subst (λ (w : Write). VotesFor w.act v x) j k))
sent_apart cfg l n so can u v x p q (inl i) a h (inr j) b k =
    new_apart cfg l n u v x so can.may (ap (λ (w : Write). w.call) (sym i) ∙ a) (subst (λ (w : Write). VotesFor w.act u x) i h) (record { write = q; found = j; own = b; votes = k })
sent_apart cfg l n so can u v x p q (inr i) a h (inl j) b k =
    swapped cfg l.seen v u x
    (new_apart cfg l n v u x so can.may (ap (λ (w : Write). w.call) (sym j) ∙ b) (subst (λ (w : Write). VotesFor w.act v x) j k) (record { write = p; found = i; own = a; votes = h }))
sent_apart cfg l n so can u v x p q (inr i) a h (inr j) b k =
    so.apart u v x (record { write = p; found = i; own = a; votes = h }) (record { write = q; found = j; own = b; votes = k })

-- a write that is sent
pub sound_send : (cfg : Config) (l : Ledger) (n : Write) → IsSound cfg l → CanSend cfg l n → IsSound cfg (moved l (Sends n))
sound_send cfg l n so can =
    let same : Includes l.seen l.seen = λ (e : RowSeen) (i : IsIn e l.seen). i in
    let more : Includes l.sent (n ∷ l.sent) = λ (w : Write) (i : IsIn w l.sent). inr i in
    record {
      quorums = so.quorums;
      chain = so.chain;
      toward = so.toward;
      told_acceptor = so.told_acceptor;
      seen_acceptor = so.seen_acceptor;
      told_ok = λ (s v : ℕ). slot_more cfg l.seen l.seen l.sent (n ∷ l.sent) v (l.told s v) same more (so.told_ok s v);
      seen_ok = λ (e : RowSeen) (v : ℕ) (i : IsIn e l.seen). slot_more cfg l.seen l.seen l.sent (n ∷ l.sent) v (e.row v) same more (so.seen_ok e v i);
      sent_shown = sent_was_shown cfg l n so can;
      sent_makes = sent_is_made cfg l n so can;
      sent_ok = sent_is_ok cfg l n so can;
      owned = sent_owned cfg l n so can;
      one = sent_one cfg l n so can;
      apart = λ (u v : ℕ) (x : Name) (p : IsProposed (n ∷ l.sent) u x) (q : IsProposed (n ∷ l.sent) v x). sent_apart cfg l n so can u v x p.write q.write p.found p.own p.votes q.found q.own q.votes;
    }

-- what holds of each slot of a row holds with one slot changed, where it holds of that one
pub each_with : (P : ℕ → Slot → Type 0) (r : Acceptor) (u : ℕ) (slot : Slot) → ((v : ℕ) → P v (r v)) → P u slot → (v : ℕ) → P v (with_slot r u slot v)
each_with P r u slot all new v =
    elim (cases_eq v u) [
      | inl e ↦ subst (λ (s : Slot). P v s) (sym (with_same r u v slot e)) (subst (λ (k : ℕ). P k slot) (sym e) new)
      | inr ne ↦ subst (λ (s : Slot). P v s) (sym (with_other r u v slot ne)) (all v)
    ]

-- and where versions were collected
pub each_trimmed : (P : ℕ → Slot → Type 0) (r : Acceptor) (to : ℕ) (x : Name) → ((v : ℕ) → P v (r v)) → ((v : ℕ) → v ≤ to → P v Gone) → P (to + 1) (DecidedAs x) → (v : ℕ) → P v (trimmed r to x v)
each_trimmed P r to x all gone new v =
    elim (trim_cases to v) [
      | inl l ↦ subst (λ (s : Slot). P v s) (sym (trimmed_gone r to v x l)) (gone v l)
      | inr (inl e) ↦ subst (λ (s : Slot). P v s) (sym (trimmed_decided r to v x e)) (subst (λ (k : ℕ). P k (DecidedAs x)) (sym e) new)
      | inr (inr l) ↦ subst (λ (s : Slot). P v s) (sym (trimmed_other r to v x l)) (all v)
    ]

promised_slot : (cfg : Config) (seen : List RowSeen) (sent : List Write) (v : ℕ) (p b : BallotAt) (vote : Option (BallotAt × Name)) → IsBuilt cfg seen v → SlotOk cfg seen sent v (OpenAt p vote) → SlotOk cfg seen sent v (OpenAt b vote)
promised_slot cfg seen sent v p b None built h = inr built
promised_slot cfg seen sent v p b (Some u) built h = h

-- a collection that was sent is one of each version up to its own
trim_sent : (sent : List Write) (w : Write) (v to : ℕ) (x : Name) → IsIn w sent → w.act ≡ Trims to x → v ≤ to → IsTrimSent sent v
trim_sent sent w v to x i e low = record { write = w; found = i; to = to; value = x; trims = e; within = low }

-- a step that was sent makes a row that has what stands behind its slots
made_ok : (cfg : Config) (l : Ledger) (w : Write) (act : Act) (r s : Acceptor) → IsIn w l.sent → w.act ≡ act → ActOk cfg l w.call act → ((v : ℕ) → SlotOk cfg l.seen l.sent v (r v)) → Makes act r s → (v : ℕ) → SlotOk cfg l.seen l.sent v (s v)
made_ok cfg l w (VotesFast u x) r s i e ok all m v =
    subst (λ (t : Acceptor). SlotOk cfg l.seen l.sent v (t v)) (sym m.1)
    (each_with (SlotOk cfg l.seen l.sent) r u (OpenAt fast (Some (fast, x))) all
    (let g : IsVoteOk cfg l.seen l.sent u (fast, x) = record {
      built = ok.1;
      proposed = record { write = w; found = i; own = sym ok.0; votes = subst (λ (a : Act). VotesFor a u x) (sym e) (refl, refl) };
      classic = λ (c : same_ballot fast fast ≡ false). absurd (both_ways (same_ballot fast fast) c (same_refl fast));
    }
    in
    g)
    v)
made_ok cfg l w (Promises u b) r s i e ok all m v =
    subst (λ (t : Acceptor). SlotOk cfg l.seen l.sent v (t v)) (sym m.1.1.1.1)
    (each_with (SlotOk cfg l.seen l.sent) r u (OpenAt b m.1.0) all
    (promised_slot cfg l.seen l.sent u m.0 b m.1.0 ok.1 (subst (λ (t : Slot). SlotOk cfg l.seen l.sent u t) m.1.1.0 (all u))) v)
made_ok cfg l w (VotesClassic u b x) r s i e ok all m v =
    subst (λ (t : Acceptor). SlotOk cfg l.seen l.sent v (t v)) (sym m.1.1.1.1.1)
    (each_with (SlotOk cfg l.seen l.sent) r u (OpenAt b (Some (b, x))) all
    (let g : IsVoteOk cfg l.seen l.sent u (b, x) = record {
      built = ok.built;
      proposed = ok.proposed;
      classic = λ (c : same_ballot b fast ≡ false). (w, i, e);
    }
    in
    g)
    v)
made_ok cfg l w (Decides u x) r s i e ok all m v =
    subst (λ (t : Acceptor). SlotOk cfg l.seen l.sent v (t v)) (sym m.1.1.1) (each_with (SlotOk cfg l.seen l.sent) r u (DecidedAs x) all ok v)
made_ok cfg l w (Trims to x) r s i e ok all m v =
    subst (λ (t : Acceptor). SlotOk cfg l.seen l.sent v (t v)) (sym m.1.1)
    (each_trimmed (SlotOk cfg l.seen l.sent) r to x all (λ (u : ℕ) (low : u ≤ to). trim_sent l.sent w u to x i e low) ok v)

-- what holds of the new row and of the others holds of each
pub each_told : (l : Ledger) (w : Write) (P : Acceptor → Type 0) → P w.after → ((s : ℕ) → P (l.told s)) → (s : ℕ) → P (with_acceptor l.told w.site w.after s)
each_told l w P new all s =
    elim (cases_eq s w.site) [
      | inl e ↦ subst P (sym (acceptor_same l.told w.site s w.after e)) new
      | inr ne ↦ subst P (sym (acceptor_other l.told w.site s w.after ne)) (all s)
    ]

take_toward : (cfg : Config) (l : Ledger) (w : Write) → IsSound cfg l → IsIn w l.sent → l.told w.site ≡ w.before → (e : RowSeen) → IsIn e l.seen → Follows e.row (with_acceptor l.told w.site w.after e.site)
take_toward cfg l w so i is e j =
    elim (cases_eq e.site w.site) [
      | inl p ↦ subst (λ (r : Acceptor). Follows e.row r) (sym (acceptor_same l.told w.site e.site w.after p)) (follows_trans e.row (l.told w.site) w.after (toward_at cfg l so e w.site j p) (take_follows cfg l w so i is))
      | inr ne ↦ subst (λ (r : Acceptor). Follows e.row r) (sym (acceptor_other l.told w.site e.site w.after ne)) (so.toward e j)
    ]

-- a write that takes effect
pub sound_take : (cfg : Config) (l : Ledger) (w : Write) → IsSound cfg l → IsIn w l.sent → l.told w.site ≡ w.before → IsSound cfg (moved l (Takes w))
sound_take cfg l w so i is =
    let makes : Makes w.act (l.told w.site) w.after = subst (λ (r : Acceptor). Makes w.act r w.after) (sym is) (so.sent_makes w i) in
    let same : Includes l.seen l.seen = λ (e : RowSeen) (j : IsIn e l.seen). j in
    let sent : Includes l.sent l.sent = λ (x : Write) (j : IsIn x l.sent). j in
    record {
      quorums = so.quorums;
      chain = so.chain;
      toward = take_toward cfg l w so i is;
      told_acceptor = each_told l w IsAcceptor (makes_acceptor w.act (l.told w.site) w.after (so.told_acceptor w.site) makes) so.told_acceptor;
      seen_acceptor = so.seen_acceptor;
      told_ok = each_told l w (λ (r : Acceptor). (v : ℕ) → SlotOk cfg l.seen l.sent v (r v)) (made_ok cfg l w w.act (l.told w.site) w.after i refl (so.sent_ok w i) (so.told_ok w.site) makes) so.told_ok;
      seen_ok = so.seen_ok;
      sent_shown = so.sent_shown;
      sent_makes = so.sent_makes;
      sent_ok = λ (x : Write) (j : IsIn x l.sent). act_more cfg l (moved l (Takes w)) x.call x.act same sent (shrinks_take cfg l w so i is) (so.sent_ok x j);
      owned = so.owned;
      one = so.one;
      apart = so.apart;
    }

-- each move keeps what every run keeps
pub sound_moved : (cfg : Config) (l : Ledger) (m : Move) → IsSound cfg l → Can cfg l m → IsSound cfg (moved l m)
sound_moved cfg l (Shows s) so can = sound_show cfg l s so
sound_moved cfg l (Sends w) so can = sound_send cfg l w so can
sound_moved cfg l (Takes w) so can = sound_take cfg l w so can.0 can.1

-- every run is sound
pub sound : (cfg : Config) (ms : List Move) → HasQuorums cfg → AreMoves cfg ms → IsSound cfg (after_moves ms)
sound cfg [] q a = sound_new cfg q
sound cfg (m ∷ ms) q a = sound_moved cfg (after_moves ms) m (sound cfg ms q a.0) a.1
