-- How an acceptor's row goes forward: its promises never fall, a new vote is not below an old promise and above the
-- old vote, and what is decided or collected stays so.
use Rattle.std.proofs.Common.{◌≡◌, ℕ, zero, suc, ◌+◌, ◌<◌, ◌≤◌, true, false, ◌==◌, Option, Some, None, refl, ap, ◌∙◌, sym, subst, inl, inr, ◌⊎◌, arith}
use Rattle.std.specs.Prelude.{nat_le}
use Rattle.std.proofs.lemmas.Bool.{both_ways, cases_Bool, cases_eq, cond-true, cond-false, eq-eqb, ne_eqb, eqb-true, eqb-false, leb-true, leb-false, le-leb, lt-leb}
use Rattle.std.proofs.lemmas.Option.{same_Some}
use Rattle.gz_core.specs.Names.{Name, BallotAt, fast, is_below}
use Rattle.gz_core.specs.Slots.{with_slot, trimmed, Act, VotesFast, Promises, VotesClassic, Decides, Trims, IsVoteOf, Makes}
use Rattle.gz_core.specs.declared.slots.Slot.{Slot}
use Rattle.gz_core.specs.declared.slots.Slot.TheVariants.{Gone, DecidedAs, OpenAt}
use Rattle.gz_core.proofs.Ballots.{below_never, below_not, below_trans, below_cases, not_below_trans}
use Rattle.gz_ledger.specs.Acceptors.{Acceptor}

-- a vote stands below another one
abbrev pub IsUnder : Option (BallotAt × Name) → BallotAt × Name → Type 0
IsUnder None u = Unit {0}
IsUnder (Some v) u = is_below v.0 u.0 ≡ true

-- a vote that was cast after a promise and over an older vote
pub record IsNewVote (p : BallotAt) (old new : Option (BallotAt × Name)) : Type 0 where
  pub vote : BallotAt × Name
  pub is : new ≡ Some vote
  pub above : is_below vote.0 p ≡ false
  pub over : IsUnder old vote

-- an open slot goes forward to an open one
pub record Advances (p : BallotAt) (old : Option (BallotAt × Name)) (q : BallotAt) (new : Option (BallotAt × Name)) : Type 0 where
  pub promise : is_below q p ≡ false
  pub vote : (new ≡ old) ⊎ IsNewVote p old new

-- a slot goes forward to another
abbrev pub SlotFollows : Slot → Slot → Type 0
SlotFollows Gone Gone = Unit {0}
SlotFollows Gone (DecidedAs y) = ⊥
SlotFollows Gone (OpenAt q new) = ⊥
SlotFollows (DecidedAs x) Gone = Unit {0}
SlotFollows (DecidedAs x) (DecidedAs y) = x ≡ y
SlotFollows (DecidedAs x) (OpenAt q new) = ⊥
SlotFollows (OpenAt p old) Gone = Unit {0}
SlotFollows (OpenAt p old) (DecidedAs y) = Unit {0}
SlotFollows (OpenAt p old) (OpenAt q new) = Advances p old q new

-- a row goes forward to another
abbrev pub Follows : Acceptor → Acceptor → Type 0
Follows r s = (v : ℕ) → SlotFollows (r v) (s v)

pub slot_refl : (a : Slot) → SlotFollows a a
slot_refl Gone = tt
slot_refl (DecidedAs x) = refl
slot_refl (OpenAt p vote) = record { promise = below_never p; vote = inl refl }

-- each row goes forward to itself
pub follows_refl : (r : Acceptor) → Follows r r
follows_refl r v = slot_refl (r v)

under_trans : (old : Option (BallotAt × Name)) (u w : BallotAt × Name) → IsUnder old u → is_below u.0 w.0 ≡ true → IsUnder old w
under_trans None u w h l = tt
under_trans (Some v) u w h l = below_trans v.0 u.0 w.0 h l

vote_trans : (p q : BallotAt) (old mid new : Option (BallotAt × Name)) → is_below q p ≡ false → (mid ≡ old) ⊎ IsNewVote p old mid → (new ≡ mid) ⊎ IsNewVote q mid new → (new ≡ old) ⊎ IsNewVote p old new
vote_trans p q old mid new l (inl e) (inl f) = inl (f ∙ e)
vote_trans p q old mid new l (inr e) (inl f) = inr (record { vote = e.vote; is = f ∙ e.is; above = e.above; over = e.over })
vote_trans p q old mid new l (inl e) (inr f) =
    inr (record { vote = f.vote; is = f.is; above = not_below_trans f.vote.0 q p f.above l; over = subst (λ (o : Option (BallotAt × Name)). IsUnder o f.vote) e f.over })
vote_trans p q old mid new l (inr e) (inr f) =
    inr (record {
      vote = f.vote;
      is = f.is;
      above = not_below_trans f.vote.0 q p f.above l;
      over = under_trans old e.vote f.vote e.over (subst (λ (o : Option (BallotAt × Name)). IsUnder o f.vote) e.is f.over);
    })

pub slot_trans : (a b c : Slot) → SlotFollows a b → SlotFollows b c → SlotFollows a c
slot_trans Gone Gone c h k = k
slot_trans Gone (DecidedAs y) c h k = absurd h
slot_trans Gone (OpenAt q new) c h k = absurd h
slot_trans (DecidedAs x) Gone Gone h k = tt
slot_trans (DecidedAs x) Gone (DecidedAs z) h k = absurd k
slot_trans (DecidedAs x) Gone (OpenAt q new) h k = absurd k
slot_trans (DecidedAs x) (DecidedAs y) Gone h k = tt
slot_trans (DecidedAs x) (DecidedAs y) (DecidedAs z) h k = h ∙ k
slot_trans (DecidedAs x) (DecidedAs y) (OpenAt q new) h k = absurd k
slot_trans (DecidedAs x) (OpenAt q new) c h k = absurd h
slot_trans (OpenAt p old) Gone Gone h k = tt
slot_trans (OpenAt p old) Gone (DecidedAs z) h k = absurd k
slot_trans (OpenAt p old) Gone (OpenAt q new) h k = absurd k
slot_trans (OpenAt p old) (DecidedAs y) Gone h k = tt
slot_trans (OpenAt p old) (DecidedAs y) (DecidedAs z) h k = tt
slot_trans (OpenAt p old) (DecidedAs y) (OpenAt q new) h k = absurd k
slot_trans (OpenAt p old) (OpenAt q mid) Gone h k = tt
slot_trans (OpenAt p old) (OpenAt q mid) (DecidedAs z) h k = tt
slot_trans (OpenAt p old) (OpenAt q mid) (OpenAt r new) h k =
    record { promise = not_below_trans r q p k.promise h.promise; vote = vote_trans p q old mid new h.promise h.vote k.vote }

-- going forward twice is going forward
pub follows_trans : (r s t : Acceptor) → Follows r s → Follows s t → Follows r t
follows_trans r s t h k v = slot_trans (r v) (s v) (t v) (h v) (k v)

-- what is known of two open slots
pub advance : (a b : Slot) (p q : BallotAt) (old new : Option (BallotAt × Name)) → a ≡ OpenAt p old → b ≡ OpenAt q new → SlotFollows a b → Advances p old q new
advance a b p q old new e f h = subst (λ (s : Slot). SlotFollows s (OpenAt q new)) e (subst (λ (s : Slot). SlotFollows a s) f h)

-- what goes forward to an open slot is open
pub open_before : (a b : Slot) (q : BallotAt) (new : Option (BallotAt × Name)) → b ≡ OpenAt q new → SlotFollows a b → (p : BallotAt) × (old : Option (BallotAt × Name)) × (a ≡ OpenAt p old)
open_before Gone b q new e h = absurd (subst (λ (s : Slot). SlotFollows Gone s) e h)
open_before (DecidedAs x) b q new e h = absurd (subst (λ (s : Slot). SlotFollows (DecidedAs x) s) e h)
open_before (OpenAt p old) b q new e h = (p, old, refl)

-- two open slots that are one have one promise and one vote
pub same_open : (a : Slot) (p q : BallotAt) (old new : Option (BallotAt × Name)) → a ≡ OpenAt p old → a ≡ OpenAt q new → (p ≡ q) × (old ≡ new)
same_open a p q old new e f =
    let both : OpenAt p old ≡ OpenAt q new = sym e ∙ f in
    (cc, cc)

-- the rule of an acceptor: a vote is not above its promise, and what is collected is a beginning before a decision
pub record IsAcceptor (r : Acceptor) : Type 0 where
  pub under : (v : ℕ) (p : BallotAt) (u : BallotAt × Name) → r v ≡ OpenAt p (Some u) → is_below p u.0 ≡ false
  pub down : (v : ℕ) → r (suc v) ≡ Gone → r v ≡ Gone
  pub topped : (v : ℕ) → r v ≡ Gone → (w : ℕ) × (v < w) × (x : Name) × (r w ≡ DecidedAs x)

pub with_same : (r : Acceptor) (v u : ℕ) (slot : Slot) → u ≡ v → with_slot r v slot u ≡ slot
with_same r v u slot e = cond-true (u == v) slot (r u) (eq-eqb u v e)

pub with_other : (r : Acceptor) (v u : ℕ) (slot : Slot) → (u ≡ v → ⊥) → with_slot r v slot u ≡ r u
with_other r v u slot ne = cond-false (u == v) slot (r u) (ne_eqb u v ne)

-- a row goes forward where its one changed slot does
follows_with : (r : Acceptor) (v : ℕ) (slot : Slot) → SlotFollows (r v) slot → Follows r (with_slot r v slot)
follows_with r v slot h u =
    elim (cases_eq u v) [
      | inl e ↦ subst (λ (s : Slot). SlotFollows (r u) s) (sym (with_same r v u slot e)) (subst (λ (k : ℕ). SlotFollows (r k) slot) (sym e) h)
      | inr ne ↦ subst (λ (s : Slot). SlotFollows (r u) s) (sym (with_other r v u slot ne)) (slot_refl (r u))
    ]

open_not_gone : (a : Slot) (p : BallotAt) (vote : Option (BallotAt × Name)) → a ≡ OpenAt p vote → a ≡ Gone → ⊥
open_not_gone a p vote e f = let g : OpenAt p vote ≡ Gone = sym e ∙ f in cc

open_not_decided : (a : Slot) (p : BallotAt) (vote : Option (BallotAt × Name)) (x : Name) → a ≡ OpenAt p vote → a ≡ DecidedAs x → ⊥
open_not_decided a p vote x e f = let g : OpenAt p vote ≡ DecidedAs x = sym e ∙ f in cc

-- the rule is kept where an open slot changes into one that keeps it and is not collected
acceptor_with : (r : Acceptor) (v : ℕ) (slot : Slot) (p : BallotAt) (old : Option (BallotAt × Name)) → IsAcceptor r → r v ≡ OpenAt p old → (slot ≡ Gone → ⊥) → ((q : BallotAt) (u : BallotAt × Name) → slot ≡ OpenAt q (Some u) → is_below q u.0 ≡ false) → IsAcceptor (with_slot r v slot)
acceptor_with r v slot p old a is full under = record {
  under = λ (u : ℕ) (q : BallotAt) (w : BallotAt × Name) (e : with_slot r v slot u ≡ OpenAt q (Some w)).
      elim (cases_eq u v) [
        | inl f ↦ under q w (sym (with_same r v u slot f) ∙ e)
        | inr ne ↦ a.under u q w (sym (with_other r v u slot ne) ∙ e)
      ];
  down = λ (u : ℕ) (e : with_slot r v slot (suc u) ≡ Gone).
      elim (cases_eq (suc u) v) [
        | inl f ↦ absurd (full (sym (with_same r v (suc u) slot f) ∙ e))
        | inr ne ↦
            let gone : r u ≡ Gone = a.down u (sym (with_other r v (suc u) slot ne) ∙ e) in
            with_other r v u slot (λ (f : u ≡ v). open_not_gone (r v) p old is (subst (λ (k : ℕ). r k ≡ Gone) f gone)) ∙ gone
      ];
  topped = λ (u : ℕ) (e : with_slot r v slot u ≡ Gone).
      elim (cases_eq u v) [
        | inl f ↦ absurd (full (sym (with_same r v u slot f) ∙ e))
        | inr ne ↦
            let w : (w : ℕ) × (u < w) × (x : Name) × (r w ≡ DecidedAs x) = a.topped u (sym (with_other r v u slot ne) ∙ e) in
            (w.0, w.1, w.2, with_other r v w.0 slot (λ (f : w.0 ≡ v). open_not_decided (r v) p old w.2 is (subst (λ (k : ℕ). r k ≡ DecidedAs w.2) f w.3)) ∙ w.3)
      ];
}

-- the slots of a trimmed row
pub trimmed_gone : (r : Acceptor) (to u : ℕ) (x : Name) → u ≤ to → trimmed r to x u ≡ Gone
trimmed_gone r to u x l = cond-true (nat_le u to) Gone _ (le-leb u to l)

pub trimmed_decided : (r : Acceptor) (to u : ℕ) (x : Name) → u ≡ to + 1 → trimmed r to x u ≡ DecidedAs x
trimmed_decided r to u x e = cond-false (nat_le u to) Gone _ (lt-leb u to (omega arith)) ∙ cond-true (u == to + 1) (DecidedAs x) (r u) (eq-eqb u (to + 1) e)

pub trimmed_other : (r : Acceptor) (to u : ℕ) (x : Name) → to + 1 < u → trimmed r to x u ≡ r u
trimmed_other r to u x l = cond-false (nat_le u to) Gone _ (lt-leb u to (omega arith)) ∙ cond-false (u == to + 1) (DecidedAs x) (r u) (ne_eqb u (to + 1) (λ (e : u ≡ to + 1). omega arith))

-- where a version stands to a collection
pub trim_cases : (to u : ℕ) → (u ≤ to) ⊎ ((u ≡ to + 1) ⊎ (to + 1 < u))
trim_cases to u =
    elim (cases_Bool (nat_le u to)) [
      | inl e ↦ inl (leb-true u to e)
      | inr e ↦ elim (cases_Bool (u == to + 1)) [
        | inl f ↦ inr (inl (eqb-true u (to + 1) f))
        | inr f ↦ inr (inr (above_trim to u (leb-false u to e) (eqb-false u (to + 1) f)))
      ]
    ]
  where
    above_trim : (to u : ℕ) → to < u → (u ≡ to + 1 → ⊥) → to + 1 < u
    above_trim to u l ne = grind arith

to_gone : (a : Slot) → SlotFollows a Gone
to_gone Gone = tt
to_gone (DecidedAs x) = tt
to_gone (OpenAt p vote) = tt

to_decided : (a : Slot) (x : Name) → (a ≡ Gone → ⊥) → ((y : Name) → a ≡ DecidedAs y → y ≡ x) → SlotFollows a (DecidedAs x)
to_decided Gone x full same = absurd (full refl)
to_decided (DecidedAs y) x full same = same y refl
to_decided (OpenAt p vote) x full same = tt

-- where nothing is collected at a version, nothing is above it
pub not_gone_above : (r : Acceptor) (to u : ℕ) → IsAcceptor r → (r to ≡ Gone → ⊥) → to ≤ u → r u ≡ Gone → ⊥
not_gone_above r to zero a full l e = full (subst (λ (k : ℕ). r k ≡ Gone) (omega arith) e)
not_gone_above r to (suc u) a full l e =
    elim (cases_eq to (suc u)) [
      | inl f ↦ full (subst (λ (k : ℕ). r k ≡ Gone) (sym f) e)
      | inr ne ↦ not_gone_above r to u a full (below_last to u l ne) (a.down u e)
    ]
  where
    below_last : (to u : ℕ) → to ≤ suc u → (to ≡ suc u → ⊥) → to ≤ u
    below_last to u l ne = grind arith

follows_trimmed : (r : Acceptor) (to : ℕ) (x : Name) → IsAcceptor r → (r to ≡ Gone → ⊥) → ((y : Name) → r (to + 1) ≡ DecidedAs y → y ≡ x) → Follows r (trimmed r to x)
follows_trimmed r to x a full same u =
    elim (trim_cases to u) [
      | inl l ↦ subst (λ (s : Slot). SlotFollows (r u) s) (sym (trimmed_gone r to u x l)) (to_gone (r u))
      | inr (inl e) ↦
          subst (λ (s : Slot). SlotFollows (r u) s) (sym (trimmed_decided r to u x e))
          (subst (λ (k : ℕ). SlotFollows (r k) (DecidedAs x)) (sym e) (to_decided (r (to + 1)) x (not_gone_above r to (to + 1) a full (omega arith)) same))
      | inr (inr l) ↦ subst (λ (s : Slot). SlotFollows (r u) s) (sym (trimmed_other r to u x l)) (slot_refl (r u))
    ]

acceptor_trimmed : (r : Acceptor) (to : ℕ) (x : Name) → IsAcceptor r → (r to ≡ Gone → ⊥) → IsAcceptor (trimmed r to x)
acceptor_trimmed r to x a full = record {
  under = λ (u : ℕ) (q : BallotAt) (w : BallotAt × Name) (e : trimmed r to x u ≡ OpenAt q (Some w)).
      elim (trim_cases to u) [
        | inl l ↦ absurd (open_not_gone (trimmed r to x u) q (Some w) e (trimmed_gone r to u x l))
        | inr (inl f) ↦ absurd (open_not_decided (trimmed r to x u) q (Some w) x e (trimmed_decided r to u x f))
        | inr (inr l) ↦ a.under u q w (sym (trimmed_other r to u x l) ∙ e)
      ];
  down = λ (u : ℕ) (e : trimmed r to x (suc u) ≡ Gone).
      elim (trim_cases to (suc u)) [
        | inl l ↦ trimmed_gone r to u x (omega arith)
        | inr (inl f) ↦ let g : DecidedAs x ≡ Gone = sym (trimmed_decided r to (suc u) x f) ∙ e in cc
        | inr (inr l) ↦ absurd (not_gone_above r to (suc u) a full (omega arith) (sym (trimmed_other r to (suc u) x l) ∙ e))
      ];
  topped = λ (u : ℕ) (e : trimmed r to x u ≡ Gone).
      elim (trim_cases to u) [
        | inl l ↦ (to + 1, omega arith, x, trimmed_decided r to (to + 1) x refl)
        | inr (inl f) ↦ let g : DecidedAs x ≡ Gone = sym (trimmed_decided r to u x f) ∙ e in cc
        | inr (inr l) ↦ absurd (not_gone_above r to u a full (omega arith) (sym (trimmed_other r to u x l) ∙ e))
      ];
}

-- a vote at or below the promise that is not of a ballot at or above it is below
vote_under : (p b : BallotAt) (x : Name) (vote : Option (BallotAt × Name)) → ((u : BallotAt × Name) → vote ≡ Some u → is_below p u.0 ≡ false) → is_below b p ≡ false → (IsVoteOf b vote → ⊥) → IsUnder vote (b, x)
vote_under p b x None under at none = tt
vote_under p b x (Some u) under at none =
    elim (below_cases u.0 b) [
      | inl l ↦ l
      | inr (inl e) ↦ absurd (none e)
      | inr (inr l) ↦ absurd (both_ways (is_below b u.0) (not_below_trans b p u.0 at (under u refl)) l)
    ]

-- each step of an acceptor goes forward
pub makes_follows : (act : Act) (r s : Acceptor) → IsAcceptor r → Makes act r s → Follows r s
makes_follows (VotesFast v x) r s a m =
    subst (λ (t : Acceptor). Follows r t) (sym m.1)
    (follows_with r v (OpenAt fast (Some (fast, x)))
    (subst (λ (slot : Slot). SlotFollows slot (OpenAt fast (Some (fast, x)))) (sym m.0)
    (let g : Advances fast None fast (Some (fast, x)) = record { promise = below_never fast; vote = inr (record { vote = (fast, x); is = refl; above = below_never fast; over = tt }) } in g)))
makes_follows (Promises v b) r s a m =
    subst (λ (t : Acceptor). Follows r t) (sym m.1.1.1.1)
    (follows_with r v (OpenAt b m.1.0)
    (subst (λ (slot : Slot). SlotFollows slot (OpenAt b m.1.0)) (sym m.1.1.0)
    (let g : Advances m.0 m.1.0 b m.1.0 = record { promise = below_not m.0 b m.1.1.1.0; vote = inl refl } in g)))
makes_follows (VotesClassic v b x) r s a m =
    subst (λ (t : Acceptor). Follows r t) (sym m.1.1.1.1.1)
    (follows_with r v (OpenAt b (Some (b, x)))
    (subst (λ (slot : Slot). SlotFollows slot (OpenAt b (Some (b, x)))) (sym m.1.1.0)
    (let g : Advances m.0 m.1.0 b (Some (b, x)) = record {
      promise = m.1.1.1.0;
      vote = inr (record {
        vote = (b, x);
        is = refl;
        above = m.1.1.1.0;
        over = vote_under m.0 b x m.1.0 (λ (u : BallotAt × Name) (e : m.1.0 ≡ Some u). a.under v m.0 u (m.1.1.0 ∙ ap (λ (o : Option (BallotAt × Name)). OpenAt m.0 o) e)) m.1.1.1.0 m.1.1.1.1.0;
      });
    }
    in
    g)))
makes_follows (Decides v x) r s a m =
    subst (λ (t : Acceptor). Follows r t) (sym m.1.1.1) (follows_with r v (DecidedAs x) (subst (λ (slot : Slot). SlotFollows slot (DecidedAs x)) (sym m.1.1.0) tt))
makes_follows (Trims to x) r s a m =
    subst (λ (t : Acceptor). Follows r t) (sym m.1.1) (follows_trimmed r to x a m.0 m.1.0)

open_has : (p q : BallotAt) (vote : Option (BallotAt × Name)) (u : BallotAt × Name) → OpenAt p vote ≡ OpenAt q (Some u) → (p ≡ q) × (vote ≡ Some u)
open_has p q vote u e = (cc, cc)

-- a vote in the promised ballot is not above it
same_level : (b : BallotAt) (x : Name) (q : BallotAt) (u : BallotAt × Name) → OpenAt b (Some (b, x)) ≡ OpenAt q (Some u) → is_below q u.0 ≡ false
same_level b x q u e =
    let both : (b ≡ q) × (Some (b, x) ≡ Some u) = open_has b q (Some (b, x)) u e in
    let ballot : b ≡ u.0 = ap (λ (w : BallotAt × Name). w.0) (same_Some (b, x) u both.1) in
    subst (λ (c : BallotAt). is_below q c ≡ false) ballot (subst (λ (c : BallotAt). is_below c b ≡ false) both.0 (below_never b))

-- and keeps the acceptor's rule
pub makes_acceptor : (act : Act) (r s : Acceptor) → IsAcceptor r → Makes act r s → IsAcceptor s
makes_acceptor (VotesFast v x) r s a m =
    subst IsAcceptor (sym m.1)
    (acceptor_with r v (OpenAt fast (Some (fast, x))) fast None a m.0 (λ (e : OpenAt fast (Some (fast, x)) ≡ Gone). cc)
    (λ (q : BallotAt) (u : BallotAt × Name) (e : OpenAt fast (Some (fast, x)) ≡ OpenAt q (Some u)). same_level fast x q u e))
makes_acceptor (Promises v b) r s a m =
    subst IsAcceptor (sym m.1.1.1.1)
    (acceptor_with r v (OpenAt b m.1.0) m.0 m.1.0 a m.1.1.0 (λ (e : OpenAt b m.1.0 ≡ Gone). cc)
    (λ (q : BallotAt) (u : BallotAt × Name) (e : OpenAt b m.1.0 ≡ OpenAt q (Some u)).
    let both : (b ≡ q) × (m.1.0 ≡ Some u) = open_has b q m.1.0 u e in
    subst (λ (c : BallotAt). is_below c u.0 ≡ false) both.0
    (not_below_trans b m.0 u.0 (below_not m.0 b m.1.1.1.0) (a.under v m.0 u (m.1.1.0 ∙ ap (λ (o : Option (BallotAt × Name)). OpenAt m.0 o) both.1)))))
makes_acceptor (VotesClassic v b x) r s a m =
    subst IsAcceptor (sym m.1.1.1.1.1)
    (acceptor_with r v (OpenAt b (Some (b, x))) m.0 m.1.0 a m.1.1.0 (λ (e : OpenAt b (Some (b, x)) ≡ Gone). cc)
    (λ (q : BallotAt) (u : BallotAt × Name) (e : OpenAt b (Some (b, x)) ≡ OpenAt q (Some u)). same_level b x q u e))
makes_acceptor (Decides v x) r s a m =
    subst IsAcceptor (sym m.1.1.1)
    (acceptor_with r v (DecidedAs x) m.0 m.1.0 a m.1.1.0 (λ (e : DecidedAs x ≡ Gone). cc) (λ (q : BallotAt) (u : BallotAt × Name) (e : DecidedAs x ≡ OpenAt q (Some u)). cc))
makes_acceptor (Trims to x) r s a m = subst IsAcceptor (sym m.1.1) (acceptor_trimmed r to x a m.0)
