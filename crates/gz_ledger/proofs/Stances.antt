-- No move lets a site stand for a value for which it did not stand before.
use Rattle.std.proofs.Common.{◌≡◌, ℕ, true, false, ◌==◌, Option, Some, None, refl, ap, ◌∙◌, sym, subst, inl, inr, ◌⊎◌}
use Rattle.std.proofs.lemmas.Bool.{both_ways, false_from_ne_true, cond-true, cond-false, eq-eqb, ne_eqb, cases_eq}
use Rattle.std.proofs.lemmas.Option.{none-some, same_Some}
use Rattle.gz_core.specs.Names.{Name, BallotAt, fast, is_below, same_ballot}
use Rattle.gz_core.specs.Slots.{Makes}
use Rattle.gz_core.specs.declared.slots.Slot.{Slot}
use Rattle.gz_core.specs.declared.slots.Slot.TheVariants.{OpenAt}
use Rattle.gz_config.specs.declared.Config.{Config}
use Rattle.gz_core.proofs.Ballots.{same_means, below_never, below_not, below_fast, not_below_trans}
use Rattle.gz_ledger.specs.Acceptors.{Acceptor, with_acceptor}
use Rattle.gz_ledger.specs.Histories.{IsIn, RowSeen, Write}
use Rattle.gz_ledger.specs.Ledgers.{Ledger, Shows, Takes, moved, site_voted, standing_votes}
use Rattle.gz_ledger.proofs.SlotTests.{IsVote, LetsIn}
use Rattle.gz_ledger.proofs.Follows.{IsUnder, IsNewVote, Advances, SlotFollows, Follows, follows_refl, advance, open_before, makes_follows}
use Rattle.gz_ledger.proofs.Rows.{IsRowOf, votes_row, row_votes, voted_row, row_voted, stands_cases, stands_voted, stands_open}
use Rattle.gz_ledger.proofs.Sound.{IsSound, toward_at}

-- sites stand for nothing new
abbrev pub Shrinks : Ledger → Ledger → Type 0
Shrinks l m = (v : ℕ) (b : BallotAt) (x : Name) (s : ℕ) → standing_votes m v b x s ≡ true → standing_votes l v b x s ≡ true

-- where a site has the same row, and the same rows were shown of it, it stands for the same values
same_rows : (l m : Ledger) (v : ℕ) (b : BallotAt) (x : Name) (s : ℕ) → ((r : Acceptor) → IsRowOf m s r → IsRowOf l s r) → ((r : Acceptor) → IsRowOf l s r → IsRowOf m s r) → m.told s ≡ l.told s → standing_votes m v b x s ≡ true → standing_votes l v b x s ≡ true
same_rows l m v b x s back on e h =
    elim (stands_cases m v b x s h) [
      | inl k ↦
          let r : (r : Acceptor) × IsRowOf m s r × IsVote (r v) b x = votes_row m v b x s k in
          stands_voted l v b x s (row_votes l v b x s r.0 (back r.0 r.1) r.2)
      | inr k ↦
          stands_open l v b x s
          (false_from_ne_true (site_voted l v b s) (λ (t : site_voted l v b s ≡ true).
          let r : (r : Acceptor) × (y : Name) × IsRowOf l s r × IsVote (r v) b y = voted_row l v b s t in
          both_ways (site_voted m v b s) k.0 (row_voted m v b r.1 s r.0 (on r.0 r.2) r.3)))
          (subst (λ (r : Acceptor). LetsIn (r v) b) e k.1)
    ]

-- a row that is shown now is the site's
show_back : (l : Ledger) (t s : ℕ) (r : Acceptor) → IsRowOf (moved l (Shows t)) s r → IsRowOf l s r
show_back l t s r (inl e) = inl e
show_back l t s r (inr (e, inl p, q, w)) =
    inl (sym w ∙ (ap (λ (f : RowSeen). f.row) p ∙ ap l.told (sym (ap (λ (f : RowSeen). f.site) p) ∙ q)))
show_back l t s r (inr (e, inr i, q, w)) = inr (e, i, q, w)

show_on : (l : Ledger) (t s : ℕ) (r : Acceptor) → IsRowOf l s r → IsRowOf (moved l (Shows t)) s r
show_on l t s r (inl e) = inl e
show_on l t s r (inr (e, i, q, w)) = inr (e, inr i, q, w)

-- a row that is shown lets no site stand for more
pub shrinks_show : (l : Ledger) (t : ℕ) → Shrinks l (moved l (Shows t))
shrinks_show l t v b x s h = same_rows l (moved l (Shows t)) v b x s (show_back l t s) (show_on l t s) refl h

pub acceptor_same : (told : ℕ → Acceptor) (s t : ℕ) (r : Acceptor) → t ≡ s → with_acceptor told s r t ≡ r
acceptor_same told s t r e = cond-true (t == s) r (told t) (eq-eqb t s e)

pub acceptor_other : (told : ℕ → Acceptor) (s t : ℕ) (r : Acceptor) → (t ≡ s → ⊥) → with_acceptor told s r t ≡ told t
acceptor_other told s t r ne = cond-false (t == s) r (told t) (ne_eqb t s ne)

take_back : (l : Ledger) (w : Write) (s : ℕ) (r : Acceptor) → (s ≡ w.site → ⊥) → IsRowOf (moved l (Takes w)) s r → IsRowOf l s r
take_back l w s r ne (inl e) = inl (e ∙ acceptor_other l.told w.site s w.after ne)
take_back l w s r ne (inr f) = inr f

take_on : (l : Ledger) (w : Write) (s : ℕ) (r : Acceptor) → (s ≡ w.site → ⊥) → IsRowOf l s r → IsRowOf (moved l (Takes w)) s r
take_on l w s r ne (inl e) = inl (e ∙ sym (acceptor_other l.told w.site s w.after ne))
take_on l w s r ne (inr f) = inr f

-- each row of a site goes forward to the site's
pub row_toward : (cfg : Config) (l : Ledger) → IsSound cfg l → (s : ℕ) (r : Acceptor) → IsRowOf l s r → Follows r (l.told s)
row_toward cfg l so s r (inl e) = subst (λ (q : Acceptor). Follows r q) e (follows_refl r)
row_toward cfg l so s r (inr (e, i, q, w)) = subst (λ (p : Acceptor). Follows p (l.told s)) w (toward_at cfg l so e s i q)

-- a write on the site's row goes forward
pub take_follows : (cfg : Config) (l : Ledger) (w : Write) → IsSound cfg l → IsIn w l.sent → l.told w.site ≡ w.before → Follows (l.told w.site) w.after
take_follows cfg l w so i e =
    makes_follows w.act (l.told w.site) w.after (so.told_acceptor w.site) (subst (λ (r : Acceptor). Makes w.act r w.after) (sym e) (so.sent_makes w i))

-- a row that was overwritten was shown before
take_seen : (cfg : Config) (l : Ledger) (w : Write) (r : Acceptor) → IsSound cfg l → IsIn w l.sent → l.told w.site ≡ w.before → IsRowOf l w.site r → IsRowOf (moved l (Takes w)) w.site r
take_seen cfg l w r so i e (inl p) =
    let f = so.sent_shown w i in
    inr (f.0, f.1, f.2, f.3 ∙ (sym e ∙ sym p))
take_seen cfg l w r so i e (inr f) = inr f

fresh_unvoted : (cfg : Config) (l : Ledger) → IsSound cfg l → (v : ℕ) (b p : BallotAt) (x : Name) (s : ℕ) (old : Option (BallotAt × Name)) → l.told s v ≡ OpenAt p old → IsUnder old (b, x) → site_voted l v b s ≡ true → ⊥
fresh_unvoted cfg l so v b p x s old is under t =
    let r : (r : Acceptor) × (y : Name) × IsRowOf l s r × IsVote (r v) b y = voted_row l v b s t in
    elim (advance (r.0 v) (l.told s v) r.3.0 p (Some (b, r.1)) old r.3.1 is (row_toward cfg l so s r.0 r.2 v)).vote [
      | inl e ↦ both_ways (is_below b b) (below_never b) (subst (λ (o : Option (BallotAt × Name)). IsUnder o (b, x)) e under)
      | inr m ↦ both_ways (is_below m.vote.0 b) (below_not b m.vote.0 m.over) (subst (λ (o : Option (BallotAt × Name)). IsUnder o (b, x)) m.is under)
    ]

under_fast : (old : Option (BallotAt × Name)) (b : BallotAt) (x : Name) → IsUnder old (b, x) → same_ballot b fast ≡ true → old ≡ None
under_fast None b x u f = refl
under_fast (Some o) b x u f = absurd (both_ways (is_below o.0 b) (subst (λ (c : BallotAt). is_below o.0 c ≡ false) (sym (same_means b fast f)) (below_fast o.0)) u)

-- a new vote is one for which the site stood
new_stands : (cfg : Config) (l : Ledger) (s : ℕ) (r : Acceptor) → IsSound cfg l → Follows (l.told s) r → (v : ℕ) (b : BallotAt) (x : Name) → IsVote (r v) b x → standing_votes l v b x s ≡ true
new_stands cfg l s r so f v b x h =
    let o : (p : BallotAt) × (old : Option (BallotAt × Name)) × (l.told s v ≡ OpenAt p old) = open_before (l.told s v) (r v) h.0 (Some (b, x)) h.1 (f v) in
    elim (advance (l.told s v) (r v) o.0 h.0 o.1 (Some (b, x)) o.2 h.1 (f v)).vote [
      | inl e ↦ stands_voted l v b x s (row_votes l v b x s (l.told s) (inl refl) (o.0, o.2 ∙ ap (λ (w : Option (BallotAt × Name)). OpenAt o.0 w) (sym e)))
      | inr n ↦
          let vote : (b, x) ≡ n.vote = same_Some (b, x) n.vote n.is in
          let under : IsUnder o.1 (b, x) = subst (λ (u : BallotAt × Name). IsUnder o.1 u) (sym vote) n.over in
          stands_open l v b x s
          (false_from_ne_true (site_voted l v b s) (fresh_unvoted cfg l so v b o.0 x s o.1 o.2 under))
          (record { promise = o.0; vote = o.1; is = o.2; at = subst (λ (u : BallotAt × Name). is_below u.0 o.0 ≡ false) (sym vote) n.above; none = under_fast o.1 b x under })
    ]

old_none : (p : BallotAt) (old new : Option (BallotAt × Name)) → (new ≡ old) ⊎ IsNewVote p old new → new ≡ None → old ≡ None
old_none p old new (inl e) f = sym e ∙ f
old_none p old new (inr n) f = absurd (none-some n.vote (sym f ∙ n.is))

-- a slot that lets a vote in let it in before
lets_before : (a c : Slot) (b : BallotAt) → SlotFollows a c → LetsIn c b → LetsIn a b
lets_before a c b f h =
    let o : (p : BallotAt) × (old : Option (BallotAt × Name)) × (a ≡ OpenAt p old) = open_before a c h.promise h.vote h.is f in
    let g : Advances o.0 o.1 h.promise h.vote = advance a c o.0 h.promise o.1 h.vote o.2 h.is f in
    record { promise = o.0; vote = o.1; is = o.2; at = not_below_trans b h.promise o.0 h.at g.promise; none = λ (e : same_ballot b fast ≡ true). old_none o.0 o.1 h.vote g.vote (h.none e) }

take_here : (cfg : Config) (l : Ledger) (w : Write) → IsSound cfg l → IsIn w l.sent → l.told w.site ≡ w.before → (v : ℕ) (b : BallotAt) (x : Name) → standing_votes (moved l (Takes w)) v b x w.site ≡ true → standing_votes l v b x w.site ≡ true
take_here cfg l w so i e v b x h =
    let f : Follows (l.told w.site) w.after = take_follows cfg l w so i e in
    let now : with_acceptor l.told w.site w.after w.site ≡ w.after = acceptor_same l.told w.site w.site w.after refl in
    elim (stands_cases (moved l (Takes w)) v b x w.site h) [
      | inl k ↦
          let r : (r : Acceptor) × IsRowOf (moved l (Takes w)) w.site r × IsVote (r v) b x = votes_row (moved l (Takes w)) v b x w.site k in
          elim r.1 [
            | inl p ↦ new_stands cfg l w.site w.after so f v b x (subst (λ (q : Acceptor). IsVote (q v) b x) (p ∙ now) r.2)
            | inr p ↦ stands_voted l v b x w.site (row_votes l v b x w.site r.0 (inr p) r.2)
          ]
      | inr k ↦
          stands_open l v b x w.site
          (false_from_ne_true (site_voted l v b w.site) (λ (t : site_voted l v b w.site ≡ true).
          let r : (r : Acceptor) × (y : Name) × IsRowOf l w.site r × IsVote (r v) b y = voted_row l v b w.site t in
          both_ways (site_voted (moved l (Takes w)) v b w.site) k.0 (row_voted (moved l (Takes w)) v b r.1 w.site r.0 (take_seen cfg l w r.0 so i e r.2) r.3)))
          (lets_before (l.told w.site v) (w.after v) b (f v) (subst (λ (q : Acceptor). LetsIn (q v) b) now k.1))
    ]

-- a write that takes effect lets no site stand for more
pub shrinks_take : (cfg : Config) (l : Ledger) (w : Write) → IsSound cfg l → IsIn w l.sent → l.told w.site ≡ w.before → Shrinks l (moved l (Takes w))
shrinks_take cfg l w so i e v b x s h =
    elim (cases_eq s w.site) [
      | inl p ↦
          subst (λ (t : ℕ). standing_votes l v b x t ≡ true) (sym p)
          (take_here cfg l w so i e v b x (subst (λ (t : ℕ). standing_votes (moved l (Takes w)) v b x t ≡ true) p h))
      | inr ne ↦ same_rows l (moved l (Takes w)) v b x s (λ (r : Acceptor). take_back l w s r ne) (λ (r : Acceptor). take_on l w s r ne) (acceptor_other l.told w.site s w.after ne) h
    ]
