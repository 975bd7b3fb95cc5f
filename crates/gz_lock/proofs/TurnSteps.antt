-- Each step of a turn keeps the rule, and tells the seat what it learns.
use Rattle.std.proofs.Common.{◌≡◌, ◌≢◌, ◌⊎◌, inl, inr, ⊎_elim, ℕ, ◌+◌, ◌%◌, ◌^◌, ◌<◌, ◌≤◌, eqb, Bool, cond, true, List, [], ◌∷◌, ◌++◌, length, set, slice_index, slice_set, All, Option, Some, None, refl, sym, ap, ◌∙◌, subst, eq-eqb, ne_eqb, length-append, mod-eq_of_lt, arith}
use Rattle.std.proofs.lemmas.List.{set-get_or}
use Rattle.std.proofs.lemmas.List.Elements.{All-append}
use mathlib.Core.Logic.{dite}
use mathlib.Core.Option.{none, some}
use mathlib.Core.Option as maybe
use native.Mathlib.Decide.{ℕ_discrete}
use prog.Atomic.{either}
use lib.ListN.{get_elem?}
use Rattle.atomic_table.specs.Table.{State, Me, step, rest, put_back, keeps, takes, gives, stepped, Allows}
use Rattle.atomic_table.proofs.Lists.{set_here, set_again}
use Rattle.gz_lock.specs.Operations.{Operation}
use Rattle.gz_lock.specs.Histories.{IsPrefix, HasOwnTurns, StandsFor, taken_turn}
use Rattle.gz_lock.specs.Seats.{with_state, AddsNoneOwn, KnowsJoined}
use Rattle.gz_lock.specs.Steps.{took_ticket, looked, counted, released, learned}
use Rattle.gz_lock.specs.Rule.{LockState, home, out, turned, Board, HasTicket, StateOk, IsAtTurn, SeatOk, BoardOk, SeatsOk, CellOk, Ruled}
use Rattle.gz_lock.specs.declared.views.TakenTurn.{TakenTurn}
use Rattle.gz_lock.specs.declared.views.SeatState.{SeatState}
use Rattle.gz_lock.specs.declared.views.SeatState.TheVariants.{Idle, Waits, Served, Counted}
use Rattle.gz_lock.specs.declared.views.SeatView.{SeatView}
use Rattle.gz_lock.specs.declared.views.Held.{Held}
use Rattle.gz_lock.specs.declared.views.Last.{Last}
use Rattle.gz_lock.proofs.Prefixes.{prefix_more, all_before, all_one}
use Rattle.gz_lock.proofs.OwnTurns.{prefix_of_own, own_whole, own_stays, own_between}
use Rattle.gz_lock.proofs.SeatFacts.{index_within, some_seat_stays, moved}

-- the owners, after a seat took a ticket
abbrev put : (ℕ → ℕ) → ℕ → ℕ → ℕ → ℕ
put f i x j = cond (eqb j i) x (f j)

put_here : (f : ℕ → ℕ) (i x : ℕ) → put f i x i ≡ x
put_here f i x = ap (λ b. cond b x (f i)) (eq-eqb i i refl)

put_else : (f : ℕ → ℕ) (i x j : ℕ) → j ≢ i → put f i x j ≡ f j
put_else f i x j other = ap (λ b. cond b x (f j)) (ne_eqb j i other)

pub home_or_away : (p : LockState) → (p ≡ home) ⊎ (p ≢ home)
home_or_away home = inl refl
home_or_away out = inr (λ e. cc)
home_or_away turned = inr (λ e. cc)

still_has_ticket : (ticket serving : ℕ) (owner : ℕ → ℕ) (me seat t : ℕ) → HasTicket ticket serving owner seat t → HasTicket (ticket + 1) serving (put owner ticket me) seat t
still_has_ticket ticket serving owner me seat t h = let low : t < ticket = h.taken in
    record { not_past = h.not_past; taken = omega arith; owned = put_else owner ticket me t (λ e. omega arith) ∙ h.owned }

not_served : (ticket serving : ℕ) (owner : ℕ → ℕ) (me seat t : ℕ) → owner serving ≡ me → seat ≢ me → HasTicket ticket serving owner seat t → t ≢ serving
not_served ticket serving owner me seat t mine other h e = other (sym h.owned ∙ (ap owner e ∙ mine))

module _ {E R : Type 0} where
  -- a ticket that is taken leaves the states of all seats
  state_at_taking : (history seen : List (TakenTurn E R)) (ticket serving : ℕ) (lock : LockState) (owner : ℕ → ℕ) (me seat : ℕ) (state : SeatState)
      → StateOk history seen ticket serving lock owner seat state → StateOk history seen (ticket + 1) serving lock (put owner ticket me) seat state
  state_at_taking history seen ticket serving lock owner me seat Idle ok = tt
  state_at_taking history seen ticket serving lock owner me seat (Waits t) ok = (still_has_ticket ticket serving owner me seat t ok.0, ok.1)
  state_at_taking history seen ticket serving lock owner me seat (Served t) ok = (still_has_ticket ticket serving owner me seat t ok.0, ok.1, ok.2, ok.3)
  state_at_taking history seen ticket serving lock owner me seat (Counted t) ok = (still_has_ticket ticket serving owner me seat t ok.0, ok.1, ok.2, ok.3)

  -- while one seat is served, all others wait for later tickets, or for none
  state_elsewhere : (history history' seen : List (TakenTurn E R)) (ticket serving : ℕ) (lock lock' : LockState) (owner : ℕ → ℕ) (me seat : ℕ) (state : SeatState) → owner serving ≡ me → seat ≢ me
      → StateOk history seen ticket serving lock owner seat state → StateOk history' seen ticket serving lock' owner seat state
  state_elsewhere history history' seen ticket serving lock lock' owner me seat Idle mine other ok = tt
  state_elsewhere history history' seen ticket serving lock lock' owner me seat (Waits t) mine other ok = (ok.0, λ e. absurd (not_served ticket serving owner me seat t mine other ok.0 e))
  state_elsewhere history history' seen ticket serving lock lock' owner me seat (Served t) mine other ok = absurd (not_served ticket serving owner me seat t mine other ok.0 ok.1)
  state_elsewhere history history' seen ticket serving lock lock' owner me seat (Counted t) mine other ok = absurd (not_served ticket serving owner me seat t mine other ok.0 ok.1)

  -- the same, where the next ticket is served
  state_at_release : (history seen : List (TakenTurn E R)) (ticket serving : ℕ) (lock : LockState) (owner : ℕ → ℕ) (me seat : ℕ) (state : SeatState) → owner serving ≡ me → seat ≢ me
      → StateOk history seen ticket serving lock owner seat state → StateOk history seen ticket (serving + 1) home owner seat state
  state_at_release history seen ticket serving lock owner me seat Idle mine other ok = tt
  state_at_release history seen ticket serving lock owner me seat (Waits t) mine other ok = let h = ok.0 in let past : serving ≤ t = h.not_past in let differs = not_served ticket serving owner me seat t mine other h in
      (record { not_past = omega arith; taken = h.taken; owned = h.owned }, λ e. refl)
  state_at_release history seen ticket serving lock owner me seat (Served t) mine other ok = absurd (not_served ticket serving owner me seat t mine other ok.0 ok.1)
  state_at_release history seen ticket serving lock owner me seat (Counted t) mine other ok = absurd (not_served ticket serving owner me seat t mine other ok.0 ok.1)

  turn_taken : (history seen : List (TakenTurn E R)) (ticket serving : ℕ) (lock : LockState) (owner : ℕ → ℕ) (seat : ℕ) (state : SeatState) → IsAtTurn state → StateOk history seen ticket serving lock owner seat state → serving < ticket
  turn_taken history seen ticket serving lock owner seat Idle at ok = absurd at
  turn_taken history seen ticket serving lock owner seat (Waits t) at ok = absurd at
  turn_taken history seen ticket serving lock owner seat (Served t) at ok = let same : t ≡ serving = ok.1 in let low : t < ticket = ok.0.taken in omega arith
  turn_taken history seen ticket serving lock owner seat (Counted t) at ok = let same : t ≡ serving = ok.1 in let low : t < ticket = ok.0.taken in omega arith

  -- where no ticket waits, the cell is at home
  home_at_last : (seats : ℕ) (b : Board E R) (ks : List (SeatView E R)) → SeatsOk seats b ks → b.serving ≡ b.ticket → b.lock ≡ home
  home_at_last seats b ks ok same = ⊎_elim (λ e. e) (λ away. let found = ok.at_turn away in let j = found.0 in let x = found.1 in
      let low : b.serving < b.ticket = turn_taken b.history x.seen b.ticket b.serving b.lock b.owner j x.state found.4 (ok.each j x found.2 found.3).state in absurd (omega arith)) (home_or_away b.lock)

  -- what the rule knows of the first seat
  pub knows_joined : (b : Board E R) (seat : ℕ) (k : SeatView E R) → BoardOk b → SeatOk b seat k → seat ≡ 0 → KnowsJoined k
  knows_joined b seat k board ok first = let counts = ok.counts first in record {
    given_numbers = subst (λ n. All (λ t. t.seat ≤ n) k.seen) (sym counts.0) (all_before (λ t. t.seat ≤ b.splits) k.seen ok.seen.others (subst (λ l. All (λ t. t.seat ≤ b.splits) l) ok.seen.whole board.given_numbers));
    joined_turns = subst (λ l. All (λ item. HasOwnTurns item.number item.seen k.seen) l) (sym counts.1)
        (λ i d h. own_between _ _ k.seen b.history (board.joined i d h).turns (counts.2 i d h) (prefix_of_own seat k.seen b.history ok.seen));
  }

  adds_none_own : (b : Board E R) (seat : ℕ) (k : SeatView E R) → BoardOk b → SeatOk b seat k → seat ≡ 0 → All AddsNoneOwn k.joined
  adds_none_own b seat k board ok first = subst (λ l. All AddsNoneOwn l) (sym (ok.counts first).1) (λ i d h. (board.joined i d h).adds_none)

  module _ {V : Type 0} (past : V → List E) (stands : V → List (Operation E R) → Type 0) (kept : V → Type 0) (seats : ℕ) where
    abbrev S : Type 0
    S = Option (Held V E R)

    abbrev Rule : State S (SeatView E R) → Type 0
    Rule = Ruled past stands kept seats

    abbrev CellFits : Board E R → maybe.Option S → Type 0
    CellFits = CellOk past stands kept

    -- a cell that is at home has the value
    pub cell_at_home : (b : Board E R) (cell : maybe.Option S) → CellFits b cell → b.lock ≡ home → (held : Held V E R) × (cell ≡ some (Some held)) × StandsFor past stands kept held.value b.history
    cell_at_home b none ok at = absurd (ok at)
    cell_at_home b (some None) ok at = absurd ok
    cell_at_home b (some (Some held)) ok at = (held, refl, ok.1)

    cell_stays_away : (b b' : Board E R) (cell : maybe.Option S) → CellFits b cell → b.lock ≢ home → b'.lock ≢ home → CellFits b' cell
    cell_stays_away b b' none ok away away' = away'
    cell_stays_away b b' (some None) ok away away' = absurd ok
    cell_stays_away b b' (some (Some held)) ok away away' = absurd (away ok.0)

    -- a cell that stays where it is, while the history does
    pub cell_stays : (b b' : Board E R) (cell : maybe.Option S) → b'.lock ≡ b.lock → b'.history ≡ b.history → CellFits b cell → CellFits b' cell
    cell_stays b b' none same_lock same ok = λ e. ok (sym same_lock ∙ e)
    cell_stays b b' (some None) same_lock same ok = ok
    cell_stays b b' (some (Some held)) same_lock same ok = (same_lock ∙ ok.0, subst (λ l. StandsFor past stands kept held.value l) (sym same) ok.1)

    -- a load that leaves the seat as it is
    pub unchanged : (s : State S (SeatView E R)) → Rule s → (id i : ℕ) (k : SeatView E R) (c : List (ℕ × S)) → get_elem? s.views id ≡ some k → Rule (stepped s i (slice_index s.words i) id c k keeps)
    unchanged s r id i k c at = record {
      board = r.board;
      cell = r.cell;
      words = set-get_or s.words i 0 ∙ r.words;
      homes = r.homes;
      cell_ok = r.cell_ok;
      board_ok = r.board_ok;
      seats_ok = subst (λ ks. SeatsOk seats r.board ks) (sym (set_again s.views id k at)) r.seats_ok;
    }

    pub loads : (slots id i : ℕ) (m : Me S (SeatView E R)) → Allows Rule slots id m i (λ n. n) (λ _ m'. m' ≡ m)
    loads slots id i m s r deep at small = (m.0, keeps, tt, unchanged s r id i m.0 m.1 at, refl)

    pub learns : (slots id : ℕ) (m : Me S (SeatView E R)) → m.0.live ≡ true → Allows Rule slots id m 0 (λ n. n) (learned (step slots 0 0 0 none) m)
    learns slots id m live s r deep at small = let mine = r.seats_ok.each id m.0 at live in
        (m.0, keeps, tt, unchanged s r id 0 m.0 m.1 at, (refl, λ first. (knows_joined r.board id m.0 r.board_ok mine (sym mine.number ∙ first), adds_none_own r.board id m.0 r.board_ok mine (sym mine.number ∙ first))))

    took : (s : State S (SeatView E R)) (r : Rule s) (id n : ℕ) (k : SeatView E R) (c : List (ℕ × S)) → get_elem? s.views id ≡ some k → k.live ≡ true → k.state ≡ Idle → n ≡ r.board.ticket → n + 1 < 2 ^ 64
        → Rule (stepped s 1 (n + 1) id c (with_state k (Waits n) k.seen) keeps)
    took s r id n k c at live idle same small = let b = r.board in let mine = r.seats_ok.each id k at live in let w : SeatView E R = with_state k (Waits n) k.seen in
        let b' : Board E R = record b { ticket = b.ticket + 1; owner = put b.owner b.ticket id } in let order : b.serving ≤ b.ticket = r.board_ok.order in
        let here : b'.owner n ≡ id = ap (put b.owner b.ticket id) same ∙ put_here b.owner b.ticket id in
        let low : n < b.ticket + 1 = omega arith in let above : b.serving ≤ n = omega arith in record {
          board = b';
          cell = r.cell;
          words = ap (λ ws. slice_set ws 1 (n + 1)) r.words ∙ ap (λ t. length b.history ∷ (t + 1) ∷ b.serving ∷ []) same;
          homes = r.homes;
          cell_ok = cell_stays b b' r.cell refl refl r.cell_ok;
          board_ok = record {
            counted = r.board_ok.counted;
            uncounted = r.board_ok.uncounted;
            order = omega arith;
            small = omega arith;
            given_numbers = r.board_ok.given_numbers;
            joined = r.board_ok.joined;
          };
          seats_ok = moved seats b b' s.views id k w r.seats_ok at live live refl refl refl
              record {
                number = mine.number;
                seen = mine.seen;
                state = (record { not_past = above; taken = low; owned = here }, λ e. home_at_last seats b s.views r.seats_ok (sym e ∙ same));
                some_part = mine.some_part;
                counts = mine.counts;
                not_joined = mine.not_joined;
              }
              (λ j x other ok. record {
                number = ok.number;
                seen = ok.seen;
                state = state_at_taking b.history x.seen b.ticket b.serving b.lock b.owner id j x.state ok.state;
                some_part = ok.some_part;
                counts = ok.counts;
                not_joined = ok.not_joined;
              })
              (some_seat_stays s.views id k w (λ x. x.seen ≡ b.history) (λ x. x.seen ≡ b.history) at live (λ e. e) (λ _ x _ e. e) r.seats_ok.whole)
              (λ away. some_seat_stays s.views id k w (λ x. IsAtTurn x.state) (λ x. IsAtTurn x.state) at live (λ t. absurd (subst IsAtTurn idle t)) (λ _ x _ t. t) (r.seats_ok.at_turn away));
        }

    pub takes_ticket : (slots id next : ℕ) (m : Me S (SeatView E R)) → next + 1 < 2 ^ 64 → m.0.live ≡ true → m.0.state ≡ Idle
        → Allows Rule slots id m 1 (λ n. either (eqb n next) (next + 1) n) (took_ticket (step slots 1 next (next + 1) none) m)
    takes_ticket slots id next m room live idle s r deep at small = let n : ℕ = slice_index s.words 1 in let is : n ≡ r.board.ticket = ap (λ ws. slice_index ws 1) r.words in dite (ℕ_discrete n next)
        (λ hit. let w : SeatView E R = with_state m.0 (Waits n) m.0.seen in (
          w,
          keeps,
          tt,
          subst (λ x. Rule (stepped s 1 x id m.1 w keeps)) (ap (λ x. x + 1) hit ∙ sym (ap (λ b. either b (next + 1) n) (eq-eqb n next hit))) (took s r id n m.0 m.1 at live idle is (omega arith)),
          (λ _. refl, λ miss. absurd (miss hit)),
        ))
        (λ miss. (
          m.0,
          keeps,
          tt,
          subst (λ x. Rule (stepped s 1 x id m.1 m.0 keeps)) (sym (ap (λ b. either b (next + 1) n) (ne_eqb n next miss))) (unchanged s r id 1 m.0 m.1 at),
          (λ hit. absurd (miss hit), λ _. refl),
        ))

    -- the seat is served: it sees the whole history and takes the cell
    serves_now : (s : State S (SeatView E R)) (r : Rule s) (id t : ℕ) (k : SeatView E R) (c : List (ℕ × S)) (held : Held V E R) → get_elem? s.views id ≡ some k → k.live ≡ true → k.state ≡ Waits t → slice_index s.words 2 ≡ t
        → r.cell ≡ some (Some held) → Rule (stepped s 2 (slice_index s.words 2) id c (with_state k (Served t) r.board.history) (takes 0 (Some held)))
    serves_now s r id t k c held at live waits now there = let b = r.board in let mine = r.seats_ok.each id k at live in
        let state : StateOk b.history k.seen b.ticket b.serving b.lock b.owner id (Waits t) = subst (λ x. StateOk b.history k.seen b.ticket b.serving b.lock b.owner id x) waits mine.state in
        let serving : t ≡ b.serving = sym now ∙ ap (λ ws. slice_index ws 2) r.words in let at_home : b.lock ≡ home = state.1 serving in
        let own : b.owner b.serving ≡ id = ap b.owner (sym serving) ∙ state.0.owned in
        let w : SeatView E R = with_state k (Served t) b.history in let b' : Board E R = record b { lock = out } in record {
          board = b';
          cell = none;
          words = ap (λ ws. slice_set ws 2 (slice_index ws 2)) r.words;
          homes = ap (λ hs. set hs 0 none) r.homes;
          cell_ok = λ e. cc;
          board_ok = record {
            counted = r.board_ok.counted;
            uncounted = λ _. r.board_ok.uncounted (λ e. let x : home ≡ turned = sym at_home ∙ e in cc);
            order = r.board_ok.order;
            small = r.board_ok.small;
            given_numbers = r.board_ok.given_numbers;
            joined = r.board_ok.joined;
          };
          seats_ok = moved seats b b' s.views id k w r.seats_ok at live live refl refl refl
              record {
                number = mine.number;
                seen = own_whole id b.history;
                state = (state.0, serving, refl, refl);
                some_part = mine.some_part;
                counts = λ first. let counts = mine.counts first in (counts.0, counts.1, λ i d h. prefix_of_own _ _ b.history (r.board_ok.joined i d h).turns);
                not_joined = mine.not_joined;
              }
              (λ j x other ok. record {
                number = ok.number;
                seen = ok.seen;
                state = state_elsewhere b.history b.history x.seen b.ticket b.serving b.lock out b.owner id j x.state own other ok.state;
                some_part = ok.some_part;
                counts = ok.counts;
                not_joined = ok.not_joined;
              })
              (id, w, set_here s.views id w (index_within s.views id k at), live, refl)
              (λ _. (id, w, set_here s.views id w (index_within s.views id k at), live, tt));
        }

    pub serves : (slots id t : ℕ) (m : Me S (SeatView E R)) → m.0.live ≡ true → m.0.state ≡ Waits t → m.1 ≡ [] → Allows Rule slots id m 2 (λ n. n) (looked past stands kept (step slots 2 0 0 none) m)
    serves slots id t m live waits empty s r deep at small = let b = r.board in let n : ℕ = slice_index s.words 2 in let mine = r.seats_ok.each id m.0 at live in dite (ℕ_discrete n t)
        (λ hit. let state : StateOk b.history m.0.seen b.ticket b.serving b.lock b.owner id (Waits t) = subst (λ x. StateOk b.history m.0.seen b.ticket b.serving b.lock b.owner id x) waits mine.state in
        let serving : t ≡ b.serving = sym hit ∙ ap (λ ws. slice_index ws 2) r.words in
        let found = cell_at_home b r.cell r.cell_ok (state.1 serving) in let held = found.0 in let w : SeatView E R = with_state m.0 (Served t) b.history in (
          w,
          takes 0 (Some held),
          ap (λ hs. get_elem? hs 0) r.homes ∙ ap some found.1,
          serves_now s r id t m.0 m.1 held at live waits hit found.1,
          λ t' waits'. let same : t ≡ t' = (let e : Waits t ≡ Waits t' = sym waits ∙ waits' in cc) in (
            (λ _. record {
              others = mine.seen.others;
              none_own = subst (λ x. Rattle.gz_lock.specs.Histories.turns_of x mine.seen.others ≡ []) (sym mine.number) mine.seen.none_own;
              view = λ i. with_state m.0 (Served (same i)) (mine.seen.whole i);
              holds = record { held = held; cell = ap (λ c. (0, Some held) ∷ c) empty; stands_for = found.2 };
            }),
            (λ miss. absurd (miss (hit ∙ same))),
          ),
        ))
        (λ miss. (
          m.0,
          keeps,
          tt,
          unchanged s r id 2 m.0 m.1 at,
          λ t' waits'. let same : t ≡ t' = (let e : Waits t ≡ Waits t' = sym waits ∙ waits' in cc) in (λ hit. absurd (miss (hit ∙ sym same)), λ _. refl),
        ))

    -- the seat's turn comes into the history
    counts_now : (s : State S (SeatView E R)) (r : Rule s) (id t : ℕ) (k : SeatView E R) (c : List (ℕ × S)) (done : TakenTurn E R) → get_elem? s.views id ≡ some k → k.live ≡ true → k.state ≡ Served t → done.seat ≡ k.number
        → Rule (stepped s 0 ((slice_index s.words 0 + 1) % 2 ^ 64) id c (with_state k (Counted t) (k.seen ++ done ∷ [])) keeps)
    counts_now s r id t k c done at live served own_turn = let b = r.board in let mine = r.seats_ok.each id k at live in
        let state : StateOk b.history k.seen b.ticket b.serving b.lock b.owner id (Served t) = subst (λ x. StateOk b.history k.seen b.ticket b.serving b.lock b.owner id x) served mine.state in
        let serving : t ≡ b.serving = state.1 in let is_out : b.lock ≡ out = state.2 in let whole : k.seen ≡ b.history = state.3 in let low : t < b.ticket = state.0.taken in
        let own : b.owner b.serving ≡ id = ap b.owner (sym serving) ∙ state.0.owned in let seat : done.seat ≡ id = own_turn ∙ mine.number in
        let now : List (TakenTurn E R) = b.history ++ done ∷ [] in let w : SeatView E R = with_state k (Counted t) (k.seen ++ done ∷ []) in let w_whole : w.seen ≡ now = ap (λ l. l ++ done ∷ []) whole in
        let b' : Board E R = record b { history = now; lock = turned } in
        let short : length b.history ≤ b.serving = r.board_ok.uncounted (λ e. let x : out ≡ turned = sym is_out ∙ e in cc) in
        let small : b.ticket < 2 ^ 64 = r.board_ok.small in let more : length now ≡ length b.history + 1 = length-append b.history (done ∷ []) in
        let fits : (length b.history + 1) % 2 ^ 64 ≡ length now = mod-eq_of_lt (omega arith) ∙ sym more in
        let given : length s.views ≡ b.splits + 1 = r.seats_ok.given in let inside : id < length s.views = index_within s.views id k at in record {
          board = b';
          cell = r.cell;
          words = ap (λ ws. slice_set ws 0 ((slice_index ws 0 + 1) % 2 ^ 64)) r.words ∙ ap (λ n. n ∷ b.ticket ∷ b.serving ∷ []) fits;
          homes = r.homes;
          cell_ok = cell_stays_away b b' r.cell r.cell_ok (λ e. let x : out ≡ home = sym is_out ∙ e in cc) (λ e. cc);
          board_ok = record {
            counted = omega arith;
            uncounted = λ not. absurd (not refl);
            order = r.board_ok.order;
            small = r.board_ok.small;
            given_numbers = All-append (λ x. x.seat ≤ b.splits) b.history (done ∷ []) r.board_ok.given_numbers (all_one (λ x. x.seat ≤ b.splits) done (omega arith));
            joined = λ i d h. let ok = r.board_ok.joined i d h in let apart = mine.not_joined i d h in
                record { is_given = ok.is_given; not_first = ok.not_first; turns = own_stays _ _ b.history done (λ e. apart (sym e ∙ seat)) ok.turns; adds_none = ok.adds_none };
          };
          seats_ok = moved seats b b' s.views id k w r.seats_ok at live live refl refl refl
              record {
                number = mine.number;
                seen = subst (λ l. HasOwnTurns id l now) (sym w_whole) (own_whole id now);
                state = (state.0, serving, refl, w_whole);
                some_part = mine.some_part;
                counts = λ first. let counts = mine.counts first in (counts.0, counts.1, λ i d h. prefix_more _ k.seen (done ∷ []) (counts.2 i d h));
                not_joined = mine.not_joined;
              }
              (λ j x other ok. record {
                number = ok.number;
                seen = own_stays j x.seen b.history done (λ e. other (sym e ∙ seat)) ok.seen;
                state = state_elsewhere b.history now x.seen b.ticket b.serving b.lock turned b.owner id j x.state own other ok.state;
                some_part = ok.some_part;
                counts = ok.counts;
                not_joined = ok.not_joined;
              })
              (id, w, set_here s.views id w inside, live, w_whole)
              (λ _. (id, w, set_here s.views id w inside, live, tt));
        }

    held_in : Held V E R → S → Held V E R
    held_in d None = d
    held_in d (Some h) = h

    held_first : Held V E R → List (ℕ × S) → Held V E R
    held_first d [] = d
    held_first d (x ∷ xs) = held_in d x.1

    pub same_held : (c : List (ℕ × S)) (h h' : Held V E R) → c ≡ (0, Some h) ∷ [] → c ≡ (0, Some h') ∷ [] → h ≡ h'
    unfolding held_in held_first
    same_held c h h' p q = ap (held_first h) (sym p ∙ q)

    pub counts : (slots id t : ℕ) (m : Me S (SeatView E R)) (held : Held V E R) (last : Last E R) (grew : Bool) → m.0.live ≡ true → m.0.state ≡ Served t → m.1 ≡ (0, Some held) ∷ [] → held.last ≡ Some last
        → StandsFor past stands kept held.value (m.0.seen ++ taken_turn m.0.number last.entry.value last.reply.value grew ∷ [])
        → Allows Rule slots id m 0 (λ n. (n + 1) % 2 ^ 64) (counted past stands kept (step slots 0 1 0 none) m)
    counts slots id t m held last grew live served cell told fits s r deep at small = let done : TakenTurn E R = taken_turn m.0.number last.entry.value last.reply.value grew in (
      with_state m.0 (Counted t) (m.0.seen ++ done ∷ []),
      keeps,
      tt,
      counts_now s r id t m.0 m.1 done at live served refl,
      λ t' held' last' served' cell' told'. let same : t ≡ t' = (let e : Served t ≡ Served t' = sym served ∙ served' in cc) in
          let same_last : last ≡ last' = (let e : Some last ≡ Some last' = sym told ∙ (ap (λ (h : Held V E R). h.last) (same_held m.1 held held' cell cell') ∙ told') in cc) in record {
            grew = grew;
            view = λ i. with_state m.0 (Counted (same i)) (m.0.seen ++ taken_turn m.0.number (same_last i).entry.value (same_last i).reply.value grew ∷ []);
            holds = record { held = held; cell = cell; stands_for = fits };
          },
    )

    -- a seat at its turn has seen the whole history, and the next ticket may be served
    state_of_turn : (b : Board E R) (seat : ℕ) (k : SeatView E R) (state : SeatState) → IsAtTurn state → StateOk b.history k.seen b.ticket b.serving b.lock b.owner seat state
        → (b.serving < b.ticket) × (b.owner b.serving ≡ seat) × (k.seen ≡ b.history)
    state_of_turn b seat k Idle at ok = absurd at
    state_of_turn b seat k (Waits t) at ok = absurd at
    state_of_turn b seat k (Served t) at ok = let serving : t ≡ b.serving = ok.1 in let low : t < b.ticket = ok.0.taken in (omega arith, ap b.owner (sym serving) ∙ ok.0.owned, ok.3)
    state_of_turn b seat k (Counted t) at ok = let serving : t ≡ b.serving = ok.1 in let low : t < b.ticket = ok.0.taken in (omega arith, ap b.owner (sym serving) ∙ ok.0.owned, ok.3)

    releases_now : (s : State S (SeatView E R)) (r : Rule s) (id : ℕ) (k : SeatView E R) (c : List (ℕ × S)) (held : Held V E R) → get_elem? s.views id ≡ some k → k.live ≡ true → IsAtTurn k.state → c ≡ (0, Some held) ∷ []
        → StandsFor past stands kept held.value k.seen → Rule (stepped s 2 ((slice_index s.words 2 + 1) % 2 ^ 64) id c (with_state k Idle k.seen) gives)
    releases_now s r id k c held at live turning cell fits = let b = r.board in let mine = r.seats_ok.each id k at live in let state = state_of_turn b id k k.state turning mine.state in
        let low : b.serving < b.ticket = state.0 in let whole : k.seen ≡ b.history = state.2 in let small : b.ticket < 2 ^ 64 = r.board_ok.small in
        let short : length b.history ≤ b.serving + 1 = r.board_ok.counted in let next : (b.serving + 1) % 2 ^ 64 ≡ b.serving + 1 = mod-eq_of_lt (omega arith) in
        let w : SeatView E R = with_state k Idle k.seen in let b' : Board E R = record b { serving = b.serving + 1; lock = home } in record {
          board = b';
          cell = some (Some held);
          words = ap (λ ws. slice_set ws 2 ((slice_index ws 2 + 1) % 2 ^ 64)) r.words ∙ ap (λ n. length b.history ∷ b.ticket ∷ n ∷ []) next;
          homes = λ i. put_back (r.homes i) (cell i);
          cell_ok = (refl, subst (λ l. StandsFor past stands kept held.value l) whole fits);
          board_ok = record {
            counted = omega arith;
            uncounted = λ _. short;
            order = omega arith;
            small = small;
            given_numbers = r.board_ok.given_numbers;
            joined = r.board_ok.joined;
          };
          seats_ok = moved seats b b' s.views id k w r.seats_ok at live live refl refl refl
              record {
                number = mine.number;
                seen = mine.seen;
                state = tt;
                some_part = mine.some_part;
                counts = mine.counts;
                not_joined = mine.not_joined;
              }
              (λ j x other ok. record {
                number = ok.number;
                seen = ok.seen;
                state = state_at_release b.history x.seen b.ticket b.serving b.lock b.owner id j x.state state.1 other ok.state;
                some_part = ok.some_part;
                counts = ok.counts;
                not_joined = ok.not_joined;
              })
              (id, w, set_here s.views id w (index_within s.views id k at), live, whole)
              (λ away. absurd (away refl));
        }

    pub releases : (slots id : ℕ) (m : Me S (SeatView E R)) (held : Held V E R) → m.0.live ≡ true → IsAtTurn m.0.state → m.1 ≡ (0, Some held) ∷ [] → StandsFor past stands kept held.value m.0.seen
        → Allows Rule slots id m 2 (λ n. (n + 1) % 2 ^ 64) (released (step slots 2 1 0 none) m)
    releases slots id m held live turning cell fits s r deep at small = let mine = r.seats_ok.each id m.0 at live in let w : SeatView E R = with_state m.0 Idle m.0.seen in (
      w,
      gives,
      tt,
      releases_now s r id m.0 m.1 held at live turning cell fits,
      ((λ i. (w, rest (cell i))), λ first. let known = knows_joined r.board id m.0 r.board_ok mine (sym mine.number ∙ first) in record { given_numbers = known.given_numbers; joined_turns = known.joined_turns }),
    )
