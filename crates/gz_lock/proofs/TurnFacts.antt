-- A turn as a whole: what it makes of the value, and what its steps together tell the seat.
use Rattle.std.proofs.Common.{◌≡◌, ℕ, List, [], ◌∷◌, ◌++◌, Result, Ok, Err, IfOk, OnErr, Option, sym, ap, ◌∙◌, subst}
use Rattle.std.proofs.lemmas.List.{append-nil, map-append}
use Rattle.std.proofs.lemmas.Grind.{flat_map-append}
use Rattle.atomic_table.specs.Table.{Me}
use Rattle.gz_lock.specs.Operations.{Operation, grown_by, TakesTurn, StaysAsItWas}
use Rattle.gz_lock.specs.Histories.{taken_turn, operation_of, operations_of, turns_of, grown, StandsFor}
use Rattle.gz_lock.specs.Seats.{with_state, TookTurn, TookNoTurn}
use Rattle.gz_lock.specs.Steps.{HoldsCell, IsServed, IsCounted}
use Rattle.gz_lock.specs.declared.views.TakenTurn.{TakenTurn}
use Rattle.gz_lock.specs.declared.views.SeatState.TheVariants.{Idle, Waits, Served, Counted}
use Rattle.gz_lock.specs.declared.views.SeatView.{SeatView}
use Rattle.gz_lock.specs.declared.views.Held.{Held}

pub if_ok : {A B : Type 0} (r : Result A B) (P Q : A → Type 0) → ((x : A) → P x → Q x) → IfOk r P → IfOk r Q
if_ok (Ok x) P Q f p = f x p
if_ok (Err e) P Q f p = tt

pub on_err : {A B : Type 0} (r : Result A B) (P Q : Type 0) → (P → Q) → OnErr r P → OnErr r Q
on_err (Ok x) P Q f p = tt
on_err (Err e) P Q f p = f p

module _ {V E R : Type 0} (past : V → List E) (stands : V → List (Operation E R) → Type 0) (kept : V → Type 0) where
  -- a turn of the value is one turn more of its history
  pub stands_after_turn : (old new : V) (history : List (TakenTurn E R)) (seat : ℕ) (entry : E) (reply : R) → StandsFor past stands kept old history → (took : TakesTurn past stands old new entry reply) → kept new
      → StandsFor past stands kept new (history ++ taken_turn seat entry reply took.grew ∷ [])
  stands_after_turn old new history seat entry reply was took is_kept = let done : TakenTurn E R = taken_turn seat entry reply took.grew in record {
    has_past = took.past_after ∙ (ap (λ l. l ++ grown_by entry took.grew) was.has_past ∙ (ap (λ l. grown history ++ l) (sym (append-nil (grown_by entry took.grew)))
        ∙ sym (flat_map-append (λ (t : TakenTurn E R). grown_by t.entry t.grew) history (done ∷ []))));
    has_taken = subst (λ l. stands new l) (sym (map-append operation_of history (done ∷ []))) (took.stands_after (operations_of history) was.has_taken);
    is_kept = is_kept;
  }

  pub stands_after_none : (old new : V) (history : List (TakenTurn E R)) → StandsFor past stands kept old history → StaysAsItWas past stands old new → kept new → StandsFor past stands kept new history
  stands_after_none old new history was stays is_kept = record { has_past = stays.past_after ∙ was.has_past; has_taken = stays.stands_after (operations_of history) was.has_taken; is_kept = is_kept }

  module _ (old : SeatView E R) (m₁ m₂ m₃ m₄ : Me (Option (Held V E R)) (SeatView E R)) (ticket : ℕ) (waits : m₁ ≡ (with_state old (Waits ticket) old.seen, [])) (served : IsServed past stands kept m₁.0 ticket m₂)
      (released : m₄ ≡ (with_state m₃.0 Idle m₃.0.seen, [])) where
    is₁ : m₁.0 ≡ with_state old (Waits ticket) old.seen
    is₁ = ap (λ m. m.0) waits

    is₂ : m₂.0 ≡ with_state old (Served ticket) (old.seen ++ served.others)
    is₂ = served.view ∙ ap (λ k. with_state k (Served ticket) (k.seen ++ served.others)) is₁

    none_own : turns_of old.number served.others ≡ []
    none_own = ap (λ (k : SeatView E R). turns_of k.number served.others) (sym is₁) ∙ served.none_own

    module _ (sound : List (Operation E R) → Type 0) (law : (value : V) (turns : List (Operation E R)) → kept value → stands value turns → sound turns) where
      sound_after : HoldsCell past stands kept m₃ → sound (operations_of m₄.0.seen)
      sound_after holds = let fits = holds.stands_for in
          subst (λ (m : Me (Option (Held V E R)) (SeatView E R)). sound (operations_of m.0.seen)) (sym released) (law holds.held.value (operations_of m₃.0.seen) fits.is_kept fits.has_taken)

      pub took_turn : (counted_as : ℕ) (entry : E) (reply : R) → IsCounted past stands kept m₂.0 counted_as entry reply m₃ → TookTurn sound old entry reply m₄
      took_turn counted_as entry reply counted = record {
        grew = counted.grew;
        others = served.others;
        none_own = none_own;
        after = released ∙ ap (λ (k : SeatView E R). let m : Me (Option (Held V E R)) (SeatView E R) = (with_state k Idle k.seen, []) in m)
            (counted.view ∙ ap (λ k. with_state k (Counted counted_as) (k.seen ++ taken_turn k.number entry reply counted.grew ∷ [])) is₂);
        is_sound = sound_after counted.holds;
      }

      pub took_no_turn : m₃.0 ≡ m₂.0 → HoldsCell past stands kept m₃ → TookNoTurn sound old m₄
      took_no_turn same holds = record {
        others = served.others;
        none_own = none_own;
        after = released ∙ ap (λ (k : SeatView E R). let m : Me (Option (Held V E R)) (SeatView E R) = (with_state k Idle k.seen, []) in m) (same ∙ is₂);
        is_sound = sound_after holds;
      }

    -- of what the seat knows only its history changes
    pub seat_stays : m₃.0 ≡ with_state m₂.0 m₃.0.state m₃.0.seen → m₄ ≡ (with_state old Idle m₄.0.seen, [])
    seat_stays same = let seen : List (TakenTurn E R) = m₃.0.seen in
        released ∙ (λ i. ((ap (λ (k : SeatView E R). with_state k Idle seen) same ∙ ap (λ (k : SeatView E R). with_state k Idle seen) is₂) i, [])) ∙ (λ i. (with_state old Idle (sym (ap (λ (m : Me (Option (Held V E R)) (SeatView E R)). m.0.seen) released) i), []))
