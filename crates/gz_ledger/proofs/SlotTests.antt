-- What the tests on an acceptor's slot show.
use Rattle.std.proofs.Common.{◌≡◌, true, false, not, Option, Some, None, refl, ap, ◌∙◌, sym, subst}
use Rattle.std.proofs.lemmas.Bool.{true≢false, both_ways, and_parts, and_from, not-true, not_from_false, false_from_ne_true}
use Rattle.std.proofs.lemmas.Option.{none-some}
use Rattle.gz_core.specs.Names.{Name, BallotAt, fast, is_below, same_ballot, same_name}
use Rattle.gz_core.specs.declared.slots.Slot.{Slot}
use Rattle.gz_core.specs.declared.slots.Slot.TheVariants.{Gone, DecidedAs, OpenAt}
use Rattle.gz_core.proofs.Ballots.{same_means, same_refl, name_means, name_refl}
use Rattle.gz_ledger.specs.Acceptors.{slot_votes, slot_voted, slot_lets}

-- an open slot with this vote
abbrev pub IsVote : Slot → BallotAt → Name → Type 0
IsVote slot b x = (p : BallotAt) × (slot ≡ OpenAt p (Some (b, x)))

-- the test finds the vote
pub votes_means : (slot : Slot) (b : BallotAt) (x : Name) → slot_votes slot b x ≡ true → IsVote slot b x
votes_means Gone b x e = absurd (true≢false (sym e))
votes_means (DecidedAs y) b x e = absurd (true≢false (sym e))
votes_means (OpenAt p None) b x e = absurd (true≢false (sym e))
votes_means (OpenAt p (Some u)) b x e =
    let parts : (same_ballot u.0 b ≡ true) × (same_name u.1 x ≡ true) = and_parts (same_ballot u.0 b) (same_name u.1 x) e in
    (p, ap (λ (c : BallotAt). OpenAt p (Some (c, u.1))) (same_means u.0 b parts.0) ∙ ap (λ (y : Name). OpenAt p (Some (b, y))) (name_means u.1 x parts.1))

-- and a vote passes it
pub votes_from : (slot : Slot) (b : BallotAt) (x : Name) → IsVote slot b x → slot_votes slot b x ≡ true
votes_from slot b x h =
    subst (λ (s : Slot). slot_votes s b x ≡ true) (sym h.1) (and_from (same_ballot b b) (same_name x x) (same_refl b) (name_refl x))

-- the test on a ballot finds its vote
pub voted_means : (slot : Slot) (b : BallotAt) → slot_voted slot b ≡ true → (x : Name) × IsVote slot b x
voted_means Gone b e = absurd (true≢false (sym e))
voted_means (DecidedAs y) b e = absurd (true≢false (sym e))
voted_means (OpenAt p None) b e = absurd (true≢false (sym e))
voted_means (OpenAt p (Some u)) b e = (u.1, (p, ap (λ (c : BallotAt). OpenAt p (Some (c, u.1))) (same_means u.0 b e)))

-- and a vote passes it
pub voted_from : (slot : Slot) (b : BallotAt) (x : Name) → IsVote slot b x → slot_voted slot b ≡ true
voted_from slot b x h = subst (λ (s : Slot). slot_voted s b ≡ true) (sym h.1) (same_refl b)

-- a slot that lets a vote of a ballot in is open, with no higher promise; in the fast ballot no vote stands
pub record LetsIn (slot : Slot) (b : BallotAt) : Type 0 where
  pub promise : BallotAt
  pub vote : Option (BallotAt × Name)
  pub is : slot ≡ OpenAt promise vote
  pub at : is_below b promise ≡ false
  pub none : same_ballot b fast ≡ true → vote ≡ None

pub lets_means : (slot : Slot) (b : BallotAt) → slot_lets slot b ≡ true → LetsIn slot b
lets_means Gone b e = absurd (true≢false (sym e))
lets_means (DecidedAs y) b e = absurd (true≢false (sym e))
lets_means (OpenAt p None) b e = record { promise = p; vote = None; is = refl; at = not-true (is_below b p) e; none = λ (f : same_ballot b fast ≡ true). refl }
lets_means (OpenAt p (Some u)) b e =
    let parts : (not (is_below b p) ≡ true) × (not (same_ballot b fast) ≡ true) = and_parts (not (is_below b p)) (not (same_ballot b fast)) e in
    record { promise = p; vote = Some u; is = refl; at = not-true (is_below b p) parts.0; none = λ (f : same_ballot b fast ≡ true). absurd (both_ways (same_ballot b fast) (not-true (same_ballot b fast) parts.1) f) }

lets_open : (p : BallotAt) (vote : Option (BallotAt × Name)) (b : BallotAt) → is_below b p ≡ false → (same_ballot b fast ≡ true → vote ≡ None) → slot_lets (OpenAt p vote) b ≡ true
lets_open p None b at none = not_from_false (is_below b p) at
lets_open p (Some u) b at none =
    and_from (not (is_below b p)) (not (same_ballot b fast)) (not_from_false (is_below b p) at)
    (not_from_false (same_ballot b fast) (false_from_ne_true (same_ballot b fast) (λ (f : same_ballot b fast ≡ true). none-some u (sym (none f)))))

pub lets_from : (slot : Slot) (b : BallotAt) → LetsIn slot b → slot_lets slot b ≡ true
lets_from slot b h = subst (λ (s : Slot). slot_lets s b ≡ true) (sym h.is) (lets_open h.promise h.vote b h.at h.none)
