-- The turns of one number in a history, and what a seat has seen of it.
use Rattle.std.proofs.Common.{◌≡◌, ◌≢◌, ℕ, ◌<◌, ◌≤◌, ◌==◌, Bool, cond, List, [], ◌∷◌, ◌++◌, All, refl, sym, ap, ◌∙◌, subst, append_assoc, ne_eqb, arith}
use Rattle.std.proofs.lemmas.List.{append-nil, append_cancel_left}
use Rattle.std.proofs.lemmas.List.Elements.{filter-append, All-head, All-tail}
use Rattle.gz_lock.specs.Histories.{IsPrefix, HasOwnTurns, turns_of}
use Rattle.gz_lock.specs.declared.views.TakenTurn.{TakenTurn}
use Rattle.gz_lock.proofs.Prefixes.{nil_left, nil_right, all_after}

module _ {E R : Type 0} where
  abbrev is_of : ℕ → TakenTurn E R → Bool
  is_of n t = t.seat == n

  pub prefix_of_own : (n : ℕ) (seen history : List (TakenTurn E R)) → HasOwnTurns n seen history → IsPrefix seen history
  prefix_of_own n seen history h = record { more = h.others; whole = h.whole }

  pub own_whole : (n : ℕ) (history : List (TakenTurn E R)) → HasOwnTurns n history history
  own_whole n history = record { others = []; whole = sym (append-nil history); none_own = refl }

  none_in_one : (n : ℕ) (t : TakenTurn E R) → t.seat ≢ n → turns_of n (t ∷ []) ≡ []
  none_in_one n t other = ap (λ b. cond b (t ∷ []) []) (ne_eqb t.seat n other)

  pub none_in_both : (n : ℕ) (xs ys : List (TakenTurn E R)) → turns_of n xs ≡ [] → turns_of n ys ≡ [] → turns_of n (xs ++ ys) ≡ []
  none_in_both n xs ys p q = filter-append (is_of n) xs ys ∙ (ap (λ l. l ++ turns_of n ys) p ∙ q)

  -- a turn of another seat leaves what was seen as it is
  pub own_stays : (n : ℕ) (seen history : List (TakenTurn E R)) (t : TakenTurn E R) → t.seat ≢ n → HasOwnTurns n seen history → HasOwnTurns n seen (history ++ t ∷ [])
  own_stays n seen history t other h = record {
    others = h.others ++ t ∷ [];
    whole = ap (λ l. l ++ t ∷ []) h.whole ∙ append_assoc seen h.others (t ∷ []);
    none_own = none_in_both n h.others (t ∷ []) h.none_own (none_in_one n t other);
  }

  module _ (n : ℕ) (seen mid history : List (TakenTurn E R)) (h : HasOwnTurns n seen history) (p : IsPrefix seen mid) (q : IsPrefix mid history) where
    split_others : h.others ≡ p.more ++ q.more
    split_others = append_cancel_left seen h.others (p.more ++ q.more) (sym h.whole ∙ (q.whole ∙ (ap (λ l. l ++ q.more) p.whole ∙ append_assoc seen p.more q.more)))

    none_parts : turns_of n p.more ++ turns_of n q.more ≡ []
    none_parts = sym (filter-append (is_of n) p.more q.more) ∙ (ap (λ l. turns_of n l) (sym split_others) ∙ h.none_own)

    pub own_between : HasOwnTurns n seen mid
    own_between = record { others = p.more; whole = p.whole; none_own = nil_left (turns_of n p.more) (turns_of n q.more) none_parts }

    pub own_beyond : HasOwnTurns n mid history
    own_beyond = record { others = q.more; whole = q.whole; none_own = nil_right (turns_of n p.more) (turns_of n q.more) none_parts }

  -- a number above all that were given has no turns
  pub none_above : (most n : ℕ) (turns : List (TakenTurn E R)) → most < n → All (λ t. t.seat ≤ most) turns → turns_of n turns ≡ []
  none_above most n [] above all = refl
  none_above most n (t ∷ ts) above all = let low : t.seat ≤ most = All-head (λ x. x.seat ≤ most) t ts all in
      ap (λ b. cond b (t ∷ turns_of n ts) (turns_of n ts)) (ne_eqb t.seat n (λ e. omega arith)) ∙ none_above most n ts above (All-tail (λ x. x.seat ≤ most) t ts all)

  -- what was seen by a seat that split another off serves that one too
  pub own_of_new : (most m n : ℕ) (seen history : List (TakenTurn E R)) → most < n → All (λ t. t.seat ≤ most) history → HasOwnTurns m seen history → HasOwnTurns n seen history
  own_of_new most m n seen history above all h = record {
    others = h.others;
    whole = h.whole;
    none_own = none_above most n h.others above (all_after (λ t. t.seat ≤ most) seen h.others (subst (λ l. All (λ t. t.seat ≤ most) l) h.whole all));
  }
