-- The rule at the beginning, and what it tells when all parts are back.
use Rattle.std.proofs.Common.{◌≡◌, ◌≢◌, ⊎_elim, ℕ, zero, suc, ◌+◌, ◌≤◌, true, List, [], ◌∷◌, set, sum_by, Option, Some, refl, sym, ap, ◌∙◌, subst, zero-add, arith}
use Rattle.std.proofs.lemmas.List.Elements.{All-nil}
use mathlib.Core.Logic.{dite}
use mathlib.Core.Option.{some, some-injective, some-ne-none}
use native.Mathlib.Decide.{ℕ_discrete}
use lib.ListN.{get_elem?}
use Rattle.atomic_table.specs.Table.{State, opening}
use Rattle.atomic_table.proofs.Lists.{set_else}
use Rattle.gz_lock.specs.Operations.{Operation}
use Rattle.gz_lock.specs.Histories.{IsPrefix, StandsFor}
use Rattle.gz_lock.specs.Seats.{newcomer, spent, KnowsJoined}
use Rattle.gz_lock.specs.Rule.{home, Board, IsAtTurn, SeatOk, JoinedOk, part_of, Ruled}
use Rattle.gz_lock.specs.declared.views.SeatState.TheVariants.{Idle}
use Rattle.gz_lock.specs.declared.views.SeatView.{SeatView}
use Rattle.gz_lock.specs.declared.views.Held.{Held}
use Rattle.gz_lock.proofs.OwnTurns.{own_whole}
use Rattle.gz_lock.proofs.SeatSteps.{parts_after, live_part}
use Rattle.gz_lock.proofs.TurnSteps.{cell_at_home, home_or_away, knows_joined}

module _ {E R : Type 0} where
  -- one seat has all parts, so it is the only one
  only_seat : (ks : List (SeatView E R)) (id : ℕ) (v : SeatView E R) → get_elem? ks id ≡ some v → v.live ≡ true → sum_by part_of ks ≡ v.parts → (j : ℕ) (x : SeatView E R) → get_elem? ks j ≡ some x → x.live ≡ true → 1 ≤ x.parts → j ≡ id
  only_seat ks id v at live all j x there alive some_part = dite (ℕ_discrete j id) (λ e. e) (λ differs.
      let gone : SeatView E R = spent in let left : List (SeatView E R) = set ks j gone in let at' : get_elem? left id ≡ some v = set_else ks j id gone (λ e. differs (sym e)) ∙ at in
      let one : sum_by part_of left + part_of x ≡ sum_by part_of ks + 0 = parts_after ks j x gone there in
      let two : sum_by part_of (set left id gone) + part_of v ≡ sum_by part_of left + 0 = parts_after left id v gone at' in
      let of_v = live_part v live in let of_x = live_part x alive in absurd (omega arith))

  module _ {V : Type 0} (past : V → List E) (stands : V → List (Operation E R) → Type 0) (kept : V → Type 0) (seats : ℕ) where
    abbrev S : Type 0
    S = Option (Held V E R)

    abbrev Rule : State S (SeatView E R) → Type 0
    Rule = Ruled past stands kept seats

    pub opens : (held : Held V E R) → 1 ≤ seats → StandsFor past stands kept held.value [] → Rule (opening (0 ∷ 0 ∷ 0 ∷ []) (Some held ∷ []) (newcomer seats))
    opens held some_part fits = let b : Board E R = record { history = []; ticket = 0; serving = 0; lock = home; owner = λ _. 0; splits = 0; joined = [] } in let v : SeatView E R = newcomer seats in record {
      board = b;
      cell = some (Some held);
      words = refl;
      homes = refl;
      cell_ok = (refl, fits);
      board_ok = record {
        counted = omega arith;
        uncounted = λ _. omega arith;
        order = omega arith;
        small = omega arith;
        given_numbers = All-nil (λ t. t.seat ≤ 0);
        joined = All-nil (JoinedOk [] 0);
      };
      seats_ok = record {
        each = λ j k e alive. first_only j k e;
        given = refl;
        has_first = (0, v, refl, refl, refl);
        all_parts = zero-add seats;
        whole = (0, v, refl, refl, refl);
        at_turn = λ away. absurd (away refl);
      };
    } where
      first_only : (j : ℕ) (k : SeatView E R) → get_elem? (newcomer seats ∷ []) j ≡ some k → SeatOk (record { history = []; ticket = 0; serving = 0; lock = home; owner = λ _. 0; splits = 0; joined = [] }) j k
      first_only zero k e = subst (λ (x : SeatView E R). SeatOk (record { history = []; ticket = 0; serving = 0; lock = home; owner = λ _. 0; splits = 0; joined = [] }) 0 x) (some-injective (newcomer seats) k e) record {
        number = refl;
        seen = own_whole 0 [];
        state = tt;
        some_part = some_part;
        counts = λ _. (refl, refl, All-nil (λ item. IsPrefix item.seen []));
        not_joined = All-nil (λ item. item.number ≢ 0);
      }
      first_only (suc j) k e = absurd (some-ne-none k (sym e))

    -- the seat that has all parts is the first one and knows the whole history, and the cell is at home
    pub closes : (id : ℕ) (v : SeatView E R) (s : State S (SeatView E R)) → Rule s → get_elem? s.views id ≡ some v → v.live ≡ true → v.state ≡ Idle → v.parts ≡ seats
        → (held : Held V E R) × (get_elem? s.homes 0 ≡ some (some (Some held))) × StandsFor past stands kept held.value v.seen × (v.number ≡ 0) × KnowsJoined v
    closes id v s r at live idle all = let b = r.board in let ok = r.seats_ok in let mine = ok.each id v at live in let total : sum_by part_of s.views ≡ v.parts = ok.all_parts ∙ sym all in
        let is_mine : (j : ℕ) (x : SeatView E R) → get_elem? s.views j ≡ some x → x.live ≡ true → x ≡ v = λ j x there alive.
        (let same = only_seat s.views id v at live total j x there alive (ok.each j x there alive).some_part in some-injective x v (sym there ∙ (ap (get_elem? s.views) same ∙ at))) in
        let at_home : b.lock ≡ home = ⊎_elim (λ e. e) (λ away. let t = ok.at_turn away in absurd (subst IsAtTurn idle (subst (λ (x : SeatView E R). IsAtTurn x.state) (is_mine t.0 t.1 t.2 t.3) t.4))) (home_or_away b.lock) in
        let whole = ok.whole in let seen : v.seen ≡ b.history = subst (λ (x : SeatView E R). x.seen ≡ b.history) (is_mine whole.0 whole.1 whole.2 whole.3) whole.4 in
        let found_first = ok.has_first in let first : v.number ≡ 0 = subst (λ (x : SeatView E R). x.number ≡ 0) (is_mine found_first.0 found_first.1 found_first.2 found_first.3) found_first.4 in
        let found = cell_at_home past stands kept seats b r.cell r.cell_ok at_home in (
          found.0,
          ap (λ hs. get_elem? hs 0) r.homes ∙ ap some found.1,
          subst (λ l. StandsFor past stands kept found.0.value l) (sym seen) found.2,
          first,
          knows_joined b id v r.board_ok mine (sym mine.number ∙ first),
        )
