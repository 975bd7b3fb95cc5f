-- A split and a join of seats keep the rule.
use Rattle.std.proofs.Common.{◌≡◌, ◌≢◌, ◌⊎◌, inl, inr, ⊎_elim, ℕ, zero, suc, ◌+◌, ◌-◌, ◌≤◌, Bool, cond, true, false, List, [], ◌∷◌, ◌++◌, length, set, sum_by, Option, refl, sym, ap, ◌∙◌, subst, length-append, length-set, arith}
use Rattle.std.proofs.lemmas.List.Sums.{sum_by-set, sum_by-append}
use Rattle.std.proofs.lemmas.List.Elements.{All-append}
use mathlib.Core.Logic.{dite}
use mathlib.Core.Option.{some, some-injective, some-ne-none}
use native.Mathlib.Decide.{ℕ_discrete}
use lib.ListN.{get_elem?}
use Rattle.atomic_table.specs.Table.{State, Splits, Joins}
use Rattle.atomic_table.proofs.Lists.{at_set, set_here, set_else, at_longer}
use Rattle.gz_lock.specs.Operations.{Operation}
use Rattle.gz_lock.specs.Histories.{IsPrefix, HasOwnTurns}
use Rattle.gz_lock.specs.Seats.{gave, given, took_in, spent}
use Rattle.gz_lock.specs.Rule.{Board, StateOk, IsAtTurn, SeatOk, JoinedOk, BoardOk, SeatsOk, SomeSeat, part_of, Ruled}
use Rattle.gz_lock.specs.declared.views.SeatState.TheVariants.{Idle}
use Rattle.gz_lock.specs.declared.views.Joined.{Joined}
use Rattle.gz_lock.specs.declared.views.SeatView.{SeatView}
use Rattle.gz_lock.specs.declared.views.Held.{Held}
use Rattle.gz_lock.proofs.Prefixes.{prefix_trans, prefixes_same, longer_above, longer_covers, longer_within, all_one}
use Rattle.gz_lock.proofs.OwnTurns.{prefix_of_own, own_between, own_beyond, own_of_new}
use Rattle.gz_lock.proofs.SeatFacts.{index_within, read_at, some_seat_stays}
use Rattle.gz_lock.proofs.TurnSteps.{cell_stays}

module _ {A : Type 0} where
  at_end : (l : List A) (a b : A) (j : ℕ) → get_elem? (l ++ a ∷ []) j ≡ some b → (get_elem? l j ≡ some b) ⊎ ((j ≡ length l) × (a ≡ b))
  at_end [] a b zero e = inr (refl, some-injective a b e)
  at_end [] a b (suc j) e = absurd (some-ne-none b (sym e))
  at_end (x ∷ xs) a b zero e = inl e
  at_end (x ∷ xs) a b (suc j) e = ⊎_elim (λ p. inl p) (λ p. inr (ap suc p.0, p.1)) (at_end xs a b j e)

module _ {E R : Type 0} where
  pub live_part : (k : SeatView E R) → k.live ≡ true → part_of k ≡ k.parts
  live_part k live = ap (λ (b : Bool). cond b k.parts 0) live

  -- the parts, after a view came in the place of one
  pub parts_after : (ks : List (SeatView E R)) (me : ℕ) (k w : SeatView E R) → get_elem? ks me ≡ some k → sum_by part_of (set ks me w) + part_of k ≡ sum_by part_of ks + part_of w
  parts_after ks me k w at = ap (λ n. sum_by part_of (set ks me w) + n) (ap part_of (sym (read_at ks me k k at))) ∙ sum_by-set part_of ks me w k (index_within ks me k at)

  module _ {V : Type 0} (past : V → List E) (stands : V → List (Operation E R) → Type 0) (kept : V → Type 0) (seats : ℕ) where
    abbrev S : Type 0
    S = Option (Held V E R)

    abbrev Rule : State S (SeatView E R) → Type 0
    Rule = Ruled past stands kept seats

    seats_after_split : (b b' : Board E R) (ks : List (SeatView E R)) (id : ℕ) (v : SeatView E R) → SeatsOk seats b ks → BoardOk b → get_elem? ks id ≡ some v → v.live ≡ true → v.number ≡ 0 → 2 ≤ v.parts → b' ≡ record b { splits = b.splits + 1 }
        → SeatsOk seats (record b { splits = b.splits + 1 }) (set ks id (gave v) ++ given v ∷ [])
    seats_after_split b b' ks id v ok board at live first two _ = let mine = ok.each id v at live in let w : SeatView E R = gave v in let o : SeatView E R = given v in let zero_id : id ≡ 0 = sym mine.number ∙ first in
        let counts = mine.counts zero_id in let same_splits : v.splits ≡ b.splits = counts.0 in let mid : List (SeatView E R) = set ks id w in
        let long : length mid ≡ b.splits + 1 = length-set ks id w ∙ ok.given in let inside = index_within ks id v at in
        let n : Board E R = record b { splits = b.splits + 1 } in
        let mine' : SeatOk n id w = record {
          number = mine.number;
          seen = mine.seen;
          state = mine.state;
          some_part = omega arith;
          counts = λ _. (ap (λ x. x + 1) same_splits, counts.1, counts.2);
          not_joined = mine.not_joined;
        } in
        let new' : SeatOk n (b.splits + 1) o = record {
          number = ap (λ x. x + 1) same_splits;
          seen = own_of_new b.splits id (b.splits + 1) v.seen b.history (omega arith) board.given_numbers mine.seen;
          state = tt;
          some_part = omega arith;
          counts = λ e. absurd (omega arith);
          not_joined = λ i d h. (λ e. let low = (board.joined i d h).is_given in absurd (omega (arith, low, e)));
        } in
        let old' : (j : ℕ) (x : SeatView E R) → j ≢ id → SeatOk b j x → SeatOk n j x = λ j x other y. record {
          number = y.number;
          seen = y.seen;
          state = y.state;
          some_part = y.some_part;
          counts = λ e. absurd (other (e ∙ sym zero_id));
          not_joined = y.not_joined;
        } in
        let more : (P Q : SeatView E R → Type 0) → (P v → Q w) → ((x : SeatView E R) → P x → Q x) → SomeSeat ks P → SomeSeat (mid ++ o ∷ []) Q = λ P Q f g found.
        (let t = some_seat_stays ks id v w P Q at live f (λ _ x _ p. g x p) found in (t.0, t.1, at_longer mid (o ∷ []) t.0 t.1 t.2, t.3, t.4)) in
        let sum = parts_after ks id v w at in let of_v = live_part v live in let of_w : part_of w ≡ v.parts - 1 = live_part w live in
        let total : sum_by part_of mid + 1 ≡ sum_by part_of ks = omega arith in record {
          each = λ j x e alive. ⊎_elim
              (λ p. ⊎_elim (λ (t : (j ≡ id) × (w ≡ x)). subst (λ (z : ℕ × SeatView E R). SeatOk n z.0 z.1) (λ i. (sym t.0 i, t.1 i)) mine')
              (λ (t : (j ≢ id) × (get_elem? ks j ≡ some x)). old' j x t.0 (ok.each j x t.1 alive)) (at_set ks id j w x p))
              (λ (t : (j ≡ length mid) × (o ≡ x)). subst (λ (z : ℕ × SeatView E R). SeatOk n z.0 z.1) (λ i. (sym (t.0 ∙ long) i, t.1 i)) new')
              (at_end mid o x j e);
          given = length-append mid (o ∷ []) ∙ ap (λ x. x + 1) long;
          has_first = more (λ x. x.number ≡ 0) (λ x. x.number ≡ 0) (λ e. e) (λ x e. e) ok.has_first;
          all_parts = sum_by-append part_of mid (o ∷ []) ∙ (total ∙ ok.all_parts);
          whole = more (λ x. x.seen ≡ b.history) (λ x. x.seen ≡ b.history) (λ e. e) (λ x e. e) ok.whole;
          at_turn = λ away. more (λ x. IsAtTurn x.state) (λ x. IsAtTurn x.state) (λ e. e) (λ x e. e) (ok.at_turn away);
        }

    pub splits : (id : ℕ) (v : SeatView E R) → v.live ≡ true → v.number ≡ 0 → 2 ≤ v.parts → Splits Rule id v (gave v) (given v)
    splits id v live first two s r at = let b = r.board in let b' : Board E R = record b { splits = b.splits + 1 } in record {
      board = b';
      cell = r.cell;
      words = r.words;
      homes = r.homes;
      cell_ok = cell_stays past stands kept seats b b' r.cell refl refl r.cell_ok;
      board_ok = record {
        counted = r.board_ok.counted;
        uncounted = r.board_ok.uncounted;
        order = r.board_ok.order;
        small = r.board_ok.small;
        given_numbers = λ i d h. (let low = r.board_ok.given_numbers i d h in omega (arith, low));
        joined = λ i d h. let y = r.board_ok.joined i d h in record { is_given = (let low = y.is_given in omega (arith, low)); not_first = y.not_first; turns = y.turns; adds_none = y.adds_none };
      };
      seats_ok = seats_after_split b b' s.views id v r.seats_ok r.board_ok at live first two refl;
    }

    module _ (b : Board E R) (ks : List (SeatView E R)) (ok : SeatsOk seats b ks) (board : BoardOk b) (id other : ℕ) (v w : SeatView E R) (at : get_elem? ks id ≡ some v) (there : get_elem? ks other ≡ some w) (apart : other ≢ id)
        (live : v.live ≡ true) (live' : w.live ≡ true) (idle : v.state ≡ Idle) (idle' : w.state ≡ Idle) (first : v.number ≡ 0) (second : w.number ≢ 0) where
      abbrev item : Joined E R
      item = record { number = w.number; seen = w.seen; first = v.seen }

      abbrev now : Board E R
      now = record b { joined = b.joined ++ item ∷ [] }

      abbrev both : SeatView E R
      both = took_in v w

      abbrev mine : SeatOk b id v
      mine = ok.each id v at live

      abbrev theirs : SeatOk b other w
      theirs = ok.each other w there live'

      before : IsPrefix v.seen b.history
      before = prefix_of_own id v.seen b.history mine.seen

      before' : IsPrefix w.seen b.history
      before' = prefix_of_own other w.seen b.history theirs.seen

      within_history : IsPrefix both.seen b.history
      within_history = longer_within v.seen w.seen b.history before before'

      first_index : id ≡ 0
      first_index = sym mine.number ∙ first

      -- the item is joined as the rule wants it
      pub board_after_join : BoardOk now
      board_after_join = record {
        counted = board.counted;
        uncounted = board.uncounted;
        order = board.order;
        small = board.small;
        given_numbers = board.given_numbers;
        joined = All-append (JoinedOk b.history b.splits) b.joined (item ∷ []) board.joined (all_one (JoinedOk b.history b.splits) item record {
          is_given = (let inside = index_within ks other w there in let long = ok.given in let same = theirs.number in omega arith);
          not_first = second;
          turns = subst (λ n. HasOwnTurns n w.seen b.history) (sym theirs.number) theirs.seen;
          adds_none = subst (λ n. HasOwnTurns n v.seen both.seen) first_index (own_between id v.seen both.seen b.history mine.seen (longer_above v.seen w.seen) within_history);
        });
      }

      first_after_join : SeatOk now id both
      first_after_join = record {
        number = mine.number;
        seen = own_beyond id v.seen both.seen b.history mine.seen (longer_above v.seen w.seen) within_history;
        state = subst (λ x. StateOk b.history both.seen b.ticket b.serving b.lock b.owner id x) (sym idle) tt;
        some_part = (let some = mine.some_part in omega arith);
        counts = λ e. let counts = mine.counts e in (
          counts.0,
          ap (λ l. l ++ item ∷ []) counts.1,
          All-append (λ x. IsPrefix x.seen both.seen) b.joined (item ∷ []) (λ i d h. prefix_trans _ v.seen both.seen (counts.2 i d h) (longer_above v.seen w.seen))
              (all_one (λ x. IsPrefix x.seen both.seen) item (longer_covers v.seen w.seen b.history before before')),
        );
        not_joined = All-append (λ x. x.number ≢ id) b.joined (item ∷ []) mine.not_joined (all_one (λ x. x.number ≢ id) item (λ e. apart (sym theirs.number ∙ e)));
      }

      others_after_join : (j : ℕ) (x : SeatView E R) → j ≢ id → j ≢ other → SeatOk b j x → SeatOk now j x
      others_after_join j x not_first not_other y = record {
        number = y.number;
        seen = y.seen;
        state = y.state;
        some_part = y.some_part;
        counts = λ e. absurd (not_first (e ∙ sym first_index));
        not_joined = All-append (λ z. z.number ≢ j) b.joined (item ∷ []) y.not_joined (all_one (λ z. z.number ≢ j) item (λ e. not_other (sym e ∙ theirs.number)));
      }

      abbrev joined_views : List (SeatView E R)
      joined_views = set (set ks id both) other spent

      -- a fact of some seat, after the join
      stays_after_join : (P Q : SeatView E R → Type 0) → (P v → Q both) → (P w → Q both) → ((x : SeatView E R) → P x → Q x) → SomeSeat ks P → SomeSeat joined_views Q
      stays_after_join P Q f f' g found = let j = found.0 in let x = found.1 in
          let here : get_elem? joined_views id ≡ some both = set_else (set ks id both) other id spent (λ e. apart (sym e)) ∙ set_here ks id both (index_within ks id v at) in dite (ℕ_discrete j id)
          (λ same. let is : x ≡ v = some-injective x v (sym found.2 ∙ (ap (get_elem? ks) same ∙ at)) in (id, both, here, live, f (subst P is found.4)))
          (λ differs. dite (ℕ_discrete j other)
          (λ same. let is : x ≡ w = some-injective x w (sym found.2 ∙ (ap (get_elem? ks) same ∙ there)) in (id, both, here, live, f' (subst P is found.4)))
          (λ differs'. (j, x, set_else (set ks id both) other j spent differs' ∙ (set_else ks id j both differs ∙ found.2), found.3, g x found.4)))

      pub seats_after_join : SeatsOk seats now joined_views
      seats_after_join = let mid : List (SeatView E R) = set ks id both in let there' : get_elem? mid other ≡ some w = set_else ks id other both apart ∙ there in
          let of_v = live_part v live in let of_w = live_part w live' in let of_both : part_of both ≡ v.parts + w.parts = live_part both live in
          let sum = parts_after ks id v both at in let sum' : sum_by part_of joined_views + part_of w ≡ sum_by part_of mid + 0 = parts_after mid other w spent there' in
          let total : sum_by part_of joined_views ≡ sum_by part_of ks = omega arith in record {
            each = λ j x e alive. ⊎_elim
                (λ (t : (j ≡ other) × (spent ≡ x)). absurd (let dead : false ≡ true = ap (λ (k : SeatView E R). k.live) t.1 ∙ alive in cc))
                (λ (t : (j ≢ other) × (get_elem? mid j ≡ some x)). ⊎_elim
                (λ (u : (j ≡ id) × (both ≡ x)). subst (λ (z : ℕ × SeatView E R). SeatOk now z.0 z.1) (λ i. (sym u.0 i, u.1 i)) first_after_join)
                (λ (u : (j ≢ id) × (get_elem? ks j ≡ some x)). others_after_join j x u.0 t.0 (ok.each j x u.1 alive))
                (at_set ks id j both x t.1))
                (at_set mid other j spent x e);
            given = length-set mid other spent ∙ (length-set ks id both ∙ ok.given);
            has_first = stays_after_join (λ x. x.number ≡ 0) (λ x. x.number ≡ 0) (λ e. e) (λ _. first) (λ x e. e) ok.has_first;
            all_parts = total ∙ ok.all_parts;
            whole = stays_after_join (λ x. x.seen ≡ b.history) (λ x. x.seen ≡ b.history)
                (λ e. prefixes_same both.seen b.history within_history (subst (λ l. IsPrefix l both.seen) e (longer_above v.seen w.seen)))
                (λ e. prefixes_same both.seen b.history within_history (subst (λ l. IsPrefix l both.seen) e (longer_covers v.seen w.seen b.history before before')))
                (λ x e. e) ok.whole;
            at_turn = λ away. stays_after_join (λ x. IsAtTurn x.state) (λ x. IsAtTurn x.state) (λ t. absurd (subst IsAtTurn idle t)) (λ t. absurd (subst IsAtTurn idle' t)) (λ x t. t) (ok.at_turn away);
          }

    pub joins : (id other : ℕ) (v w : SeatView E R) → v.live ≡ true → w.live ≡ true → v.state ≡ Idle → w.state ≡ Idle → v.number ≡ 0 → w.number ≢ 0 → Joins Rule id v other w (took_in v w) spent
    joins id other v w live live' idle idle' first second s r at apart there' = let b = r.board in
        let there : get_elem? s.views other ≡ some w = sym (set_else s.views id other (took_in v w) apart) ∙ there' in record {
          board = now b s.views r.seats_ok r.board_ok id other v w at there apart live live' idle idle' first second;
          cell = r.cell;
          words = r.words;
          homes = r.homes;
          cell_ok = cell_stays past stands kept seats b (now b s.views r.seats_ok r.board_ok id other v w at there apart live live' idle idle' first second) r.cell refl refl r.cell_ok;
          board_ok = board_after_join b s.views r.seats_ok r.board_ok id other v w at there apart live live' idle idle' first second;
          seats_ok = seats_after_join b s.views r.seats_ok r.board_ok id other v w at there apart live live' idle idle' first second;
        }
