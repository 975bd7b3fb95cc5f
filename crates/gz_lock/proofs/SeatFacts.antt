-- The views of all seats, when one seat takes a step.
use Rattle.std.proofs.Common.{◌≡◌, ◌≢◌, ℕ, zero, suc, ◌+◌, ◌<◌, ⊎_elim, Bool, cond, true, List, [], ◌∷◌, length, set, get_or, sum_by, sym, ap, ◌∙◌, subst, length-set, arith}
use Rattle.std.proofs.lemmas.List.Sums.{sum_by-set}
use mathlib.Core.Logic.{dite}
use mathlib.Core.Option.{some, some-injective, some-ne-none}
use native.Mathlib.Decide.{ℕ_discrete}
use lib.ListN.{get_elem?}
use Rattle.atomic_table.proofs.Lists.{at_set, set_here, set_else}
use Rattle.gz_lock.specs.Rule.{home, Board, SeatOk, SeatsOk, SomeSeat, IsAtTurn, part_of}
use Rattle.gz_lock.specs.declared.views.SeatView.{SeatView}

module _ {A : Type 0} where
  pub index_within : (l : List A) (i : ℕ) (a : A) → get_elem? l i ≡ some a → i < length l
  index_within [] i a e = absurd (some-ne-none a (sym e))
  index_within (x ∷ xs) zero a e = omega arith
  index_within (x ∷ xs) (suc i) a e = let h = index_within xs i a e in omega arith

  pub read_at : (l : List A) (i : ℕ) (a d : A) → get_elem? l i ≡ some a → get_or l i d ≡ a
  read_at [] i a d e = absurd (some-ne-none a (sym e))
  read_at (x ∷ xs) zero a d e = some-injective x a e
  read_at (x ∷ xs) (suc i) a d e = read_at xs i a d e

module _ {E R : Type 0} where
  -- a fact of some seat, after another view came in the place of one
  pub some_seat_stays : (ks : List (SeatView E R)) (me : ℕ) (k w : SeatView E R) (P Q : SeatView E R → Type 0) → get_elem? ks me ≡ some k → w.live ≡ true → (P k → Q w) → ((j : ℕ) (x : SeatView E R) → j ≢ me → P x → Q x) → SomeSeat ks P → SomeSeat (set ks me w) Q
  some_seat_stays ks me k w P Q at live mine others found = let j = found.0 in let x = found.1 in dite (ℕ_discrete j me)
      (λ same. let is : x ≡ k = some-injective x k (sym found.2 ∙ (ap (get_elem? ks) same ∙ at)) in
      (me, w, set_here ks me w (index_within ks me k at), live, mine (subst P is found.4)))
      (λ other. (j, x, set_else ks me j w other ∙ found.2, found.3, others j x other found.4))

  pub parts_stay : (ks : List (SeatView E R)) (me : ℕ) (k w : SeatView E R) → get_elem? ks me ≡ some k → k.live ≡ true → w.live ≡ true → w.parts ≡ k.parts → sum_by part_of (set ks me w) ≡ sum_by part_of ks
  parts_stay ks me k w at live live' same = let within = index_within ks me k at in let e = sum_by-set part_of ks me w k within in
      let was : part_of (get_or ks me k) ≡ k.parts = ap part_of (read_at ks me k k at) ∙ ap (λ (b : Bool). cond b k.parts 0) live in
      let now : part_of w ≡ w.parts = ap (λ (b : Bool). cond b w.parts 0) live' in
      omega arith

  -- One live seat steps, and the others' facts stay.
  pub moved : (seats : ℕ) (b b' : Board E R) (ks : List (SeatView E R)) (me : ℕ) (k w : SeatView E R) → SeatsOk seats b ks → get_elem? ks me ≡ some k → k.live ≡ true → w.live ≡ true → w.parts ≡ k.parts → w.number ≡ k.number → b'.splits ≡ b.splits
      → SeatOk b' me w → ((j : ℕ) (x : SeatView E R) → j ≢ me → SeatOk b j x → SeatOk b' j x)
      → SomeSeat (set ks me w) (λ x. x.seen ≡ b'.history) → (b'.lock ≢ home → SomeSeat (set ks me w) (λ x. IsAtTurn x.state)) → SeatsOk seats b' (set ks me w)
  moved seats b b' ks me k w ok at live live' same_parts same_number same_splits mine others whole at_turn = record {
    each = λ j x e alive. ⊎_elim
        (λ (t : (j ≡ me) × (w ≡ x)). subst (λ (z : ℕ × SeatView E R). SeatOk b' z.0 z.1) (λ i. (sym t.0 i, t.1 i)) mine)
        (λ (t : (j ≢ me) × (get_elem? ks j ≡ some x)). others j x t.0 (ok.each j x t.1 alive)) (at_set ks me j w x e);
    given = length-set ks me w ∙ (ok.given ∙ ap (λ n. n + 1) (sym same_splits));
    has_first = some_seat_stays ks me k w (λ x. x.number ≡ 0) (λ x. x.number ≡ 0) at live' (λ e. same_number ∙ e) (λ _ x _ e. e) ok.has_first;
    all_parts = parts_stay ks me k w at live live' same_parts ∙ ok.all_parts;
    whole = whole;
    at_turn = at_turn;
  }
