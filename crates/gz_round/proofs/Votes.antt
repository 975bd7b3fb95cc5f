-- Where a call voted for its value, and where last.
use Rattle.std.proofs.Common.{◌≡◌, ℕ, ◌<◌, Bool, true, false, ◌||◌, ◌==◌, List, [], ◌∷◌, Option, Some, None, is_some, refl, sym, ap, ◌∙◌, inl, inr, ◌⊎◌, arith}
use Rattle.std.proofs.lemmas.Bool.{cases_Bool, cond-true, cond-false, or_cases, or_parts, or_left, or_right, both_ways, false≢true, false_from_ne_true, eqb-true, eq-eqb}
use Rattle.std.proofs.lemmas.Option.{same_Some, none-some}
use Rattle.gz_core.specs.Names.{Name}
use Rattle.gz_config.specs.declared.Config.{Config}
use Rattle.gz_round.specs.declared.run.Run.{Run}
use Rattle.gz_core.specs.History.{Asked, Action, Sent, Caller, Trace}
use Rattle.gz_round.specs.Sent.{voted, voted_at, last_vote, vote_by, of_step, of_sent, or_earlier, passes_sent}
use Rattle.gz_round.specs.Shown.{IsClear}
use Rattle.gz_round.specs.Sites.{tells_of_row, up_to_rows}
use Rattle.gz_round.specs.Standing.{Stands, AreVotesUpTo, AreVotesBelow}

some_earlier : (o last : Option ℕ) → is_some (or_earlier o last) ≡ (passes_sent (λ u. true) o || is_some last)
some_earlier None last = refl
some_earlier (Some v) last = refl

-- a call that voted has voted last somewhere
pub voted_last : (x : Name) (ms : List Action) → is_some (last_vote x ms) ≡ voted x ms
voted_last x [] = refl
voted_last x (m ∷ ms) = some_earlier (of_sent (vote_by x) m) (last_vote x ms) ∙ ap (λ b. passes_sent (λ u. true) (of_sent (vote_by x) m) || b) (voted_last x ms)

voted_with : (o last : Option ℕ) (v : ℕ) (old : Bool) → (last ≡ Some v → old ≡ true) → or_earlier o last ≡ Some v → (passes_sent (λ k. k == v) o || old) ≡ true
voted_with None last v old h e = h e
voted_with (Some u) last v old h e = or_left (u == v) old (eq-eqb u v (same_Some u v e))

-- it voted where it voted last
pub last_voted_at : (x : Name) (ms : List Action) (v : ℕ) → last_vote x ms ≡ Some v → voted_at x ms v ≡ true
last_voted_at x [] v e = absurd (none-some v e)
last_voted_at x (m ∷ ms) v e = voted_with (of_sent (vote_by x) m) (last_vote x ms) v (voted_at x ms v) (last_voted_at x ms v) e

-- and keeps whether it did
pub voted_is : (c : Config) (w : Caller) (past : List Trace) (run : Run) (ms : List Action) → Stands c w past run ms → is_some run.last_vote ≡ voted w.name ms
voted_is c w past run ms h = ap (λ o. is_some o) h.vote_is ∙ voted_last w.name ms

-- where it votes no more, it did no more
pub voted_still : (c : Config) (w : Caller) (past : List Trace) (run new : Run) (ms ns : List Action) → Stands c w past run ms → Stands c w past new ns → new.last_vote ≡ run.last_vote → voted w.name ns ≡ voted w.name ms
voted_still c w past run new ms ns h k same = sym (voted_is c w past new ns k) ∙ (ap (λ o. is_some o) same ∙ voted_is c w past run ms h)

votes_with : (o last : Option ℕ) (v u : ℕ) (old : Bool) → ((k : ℕ) → passes_sent (λ z. z == k) o ≡ true → v ≡ k) → (old ≡ true → (u < v) ⊎ ((u ≡ v) × (last ≡ Some u))) → (passes_sent (λ z. z == u) o || old) ≡ true → (u < v) ⊎ ((u ≡ v) × (or_earlier o last ≡ Some u))
votes_with None last v u old only h k = h k
votes_with (Some n) last v u old only h k =
    let here : v ≡ n = only n (eq-eqb n n refl) in
    elim (or_cases (n == u) old k) [
      | inl e ↦ (let same : n ≡ u = eqb-true n u e in inr (sym same ∙ sym here, ap (λ (z : ℕ). Some z) same))
      | inr e ↦ elim (h e) [ inl low ↦ inl low | inr last_is ↦ inr (last_is.0, ap (λ (z : ℕ). Some z) (sym here ∙ sym last_is.0)) ]
    ]

-- a call that votes at no other version voted last there, or below
pub votes_kept : (w : Caller) (ms : List Action) (a : Asked) (v : ℕ) → ((u : ℕ) → passes_sent (λ k. k == u) (of_step (vote_by w.name) a.op) ≡ true → v ≡ u) → AreVotesUpTo w ms v → AreVotesUpTo w (Sent a ∷ ms) v
votes_kept w ms a v only h u k = votes_with (of_step (vote_by w.name) a.op) (last_vote w.name ms) v u (voted_at w.name ms u) only (h u) k

some_passes : (o : Option ℕ) (u : ℕ) → passes_sent (λ k. k == u) o ≡ true → passes_sent (λ k. true) o ≡ true
some_passes None u h = absurd (false≢true h)
some_passes (Some k) u h = refl

pub voted_some : (x : Name) (ms : List Action) (u : ℕ) → voted_at x ms u ≡ true → voted x ms ≡ true
voted_some x [] u h = absurd (false≢true h)
voted_some x (m ∷ ms) u h =
    elim (or_cases (passes_sent (λ k. k == u) (of_sent (vote_by x) m)) (voted_at x ms u) h) [
      | inl e ↦ or_left (passes_sent (λ k. true) (of_sent (vote_by x) m)) (voted x ms) (some_passes (of_sent (vote_by x) m) u e)
      | inr e ↦ or_right (passes_sent (λ k. true) (of_sent (vote_by x) m)) (voted x ms) (voted_some x ms u e)
    ]

-- a call that hasn't voted is clear everywhere
pub unvoted_clear : (c : Config) (x : Name) (ms : List Action) (v : ℕ) → voted x ms ≡ false → IsClear c x ms v
unvoted_clear c x ms v h u n k = absurd (both_ways (voted x ms) h (voted_some x ms u k))

-- one that voted below a version alone didn't vote there
pub unvoted_at_next : (w : Caller) (ms : List Action) (v : ℕ) → AreVotesBelow w ms v → voted_at w.name ms v ≡ false
unvoted_at_next w ms v h = false_from_ne_true (voted_at w.name ms v) (λ (k : voted_at w.name ms v ≡ true). let low : v < v = h v k in omega arith)

-- nor did it before
pub unvoted_before : (x : Name) (ms : List Action) (v : ℕ) → voted_at x ms v ≡ false → voted_at x (up_to_rows ms) v ≡ false
unvoted_before x [] v h = refl
unvoted_before x (m ∷ ms) v h =
    elim (cases_Bool (tells_of_row m)) [
      | inl e ↦ ap (λ ns. voted_at x ns v) (cond-true (tells_of_row m) (m ∷ ms) (up_to_rows ms) e) ∙ h
      | inr e ↦ ap (λ ns. voted_at x ns v) (cond-false (tells_of_row m) (m ∷ ms) (up_to_rows ms) e) ∙ unvoted_before x ms v (or_parts (passes_sent (λ k. k == v) (of_sent (vote_by x) m)) (voted_at x ms v) h).1
    ]

-- and last at none above any
pub unvoted_up_to : (w : Caller) (ms : List Action) (v : ℕ) → voted w.name ms ≡ false → AreVotesUpTo w ms v
unvoted_up_to w ms v h u k = absurd (both_ways (voted w.name ms) h (voted_some w.name ms u k))
