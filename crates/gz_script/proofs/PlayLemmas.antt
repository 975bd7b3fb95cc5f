-- Changes of worlds, one after another.
use Rattle.std.proofs.Common.{ℕ, ◌≡◌, true, false, List, [], ◌∷◌, ◌++◌, take, refl, sym, ◌∙◌, subst}
use Rattle.std.specs.Prelude.{Bool, IsTrue, Option, Some, Result, Ok, Err, IfErr, slice_get, ◌↔◌}
use Rattle.std.specs.Result.{IsErrAnd}
use Rattle.gz_core.specs.History.{Trace}
use Rattle.gz_site.specs.Told.{Told}
use Rattle.gz_world.specs.Bridge.{state_of}
use Rattle.gz_world.specs.Counting.{IsFull}
use Rattle.gz_world.specs.States.{State, numbered}
use Rattle.gz_world.specs.Told.{StepsBy, StaysBy}
use Rattle.gz_world.proofs.Performing.{states_equal, step_of}
use Rattle.gz_world.specs.declared.events.Applied.{Applied}
use Rattle.gz_world.specs.declared.events.ApplyError.{ApplyError}
use Rattle.gz_world.specs.declared.events.ApplyError.TheVariants.{Full, NoMemory}
use Rattle.gz_world.specs.declared.events.Event.{Event}
use Rattle.gz_world.specs.declared.events.Event.TheVariants as events
use Rattle.gz_world.specs.declared.world.World.{World}
use Rattle.gz_script.specs.Plays.{TakesNone, Happen, BrokeOff, StopsAt, HappenInPart, has_reply, taken, is_left_out, settled, ChangesBy}

-- what holds of an error that was passed on holds of the result
pub if_err_of : {T E : Type 0} (r : Result T E) (e : E) (P : E → Type 0) → IsErrAnd r (λ x. x ≡ e) → P e → IfErr r P
if_err_of (Ok x) e P h p = tt
if_err_of (Err x) e P h p = subst P (sym h) p

pub if_err_map : {T E : Type 0} (r : Result T E) (P Q : E → Type 0) → ((e : E) → P e → Q e) → IfErr r P → IfErr r Q
if_err_map (Ok x) P Q f h = tt
if_err_map (Err e) P Q f h = f e h

-- an event that was applied was applied in a world that isn't full
pub applied_taken : {S T : Type 0} (old new : World S) (r : Result T ApplyError) (x : T) → r ≡ Ok x
    → ((r ≡ Err Full) ↔ ((old.spent ≡ false) × IsFull old)) → ((r ≡ Err NoMemory) ↔ IsTrue new.spent) → (IsTrue old.spent → IsTrue new.spent) → IsFull old → ⊥
applied_taken old new r x is full spent ever filled =
    let at : (b : Bool) → old.spent ≡ b → ⊥ = λ b e. elim b as (λ v. old.spent ≡ v → ⊥) [
      | true ↦ λ t. let no : r ≡ Err NoMemory = spent.1 (ever t) in let both : Ok x ≡ Err NoMemory = sym is ∙ no in cc
      | false ↦ λ t. let no : r ≡ Err Full = full.1 (t, filled) in let both : Ok x ≡ Err Full = sym is ∙ no in cc
    ] e in
    at old.spent refl

-- an event that was applied has happened
pub event_happens : {S : Type 0} (told : S → Option Told) (old new : World S) (event : Event) (applied : Applied) → (IsFull old → ⊥) → StepsBy told old event new applied
    → ChangesBy told (Happen (event ∷ [])) old new
event_happens told old new event applied taken steps = λ traces fits.
    let k = steps traces fits in
    (k.0, (k.1.0, (state_of told k.0 new, (record { taken = taken; step = step_of (state_of told traces old) event (state_of told k.0 new) applied k.1.1 }, refl))))

broke_off : (error : ApplyError) (event : Event) (s : State) → (error ≡ Full → TakesNone s) → BrokeOff error (Some event) s
broke_off Full event s full = full refl
broke_off NoMemory event s full = tt

-- one that was not applied stopped the events
pub event_stops : {S : Type 0} (told : S → Option Told) (old new : World S) (event : Event) (error : ApplyError) → (error ≡ Full → IsFull old) → StaysBy told old new
    → ChangesBy told (StopsAt error event) old new
event_stops told old new event error full stays = λ traces fits.
    let k = stays traces fits in
    let same = states_equal (state_of told traces old) (state_of told traces new) k.1 in
    (traces, (k.0, (same, subst (λ s. BrokeOff error (Some event) s) same (broke_off error event (state_of told traces old) full))))

-- a change is also another one
pub changes_as : {S : Type 0} (told : S → Option Told) (A B : State → State → Type 0) (old new : World S)
    → ((traces : ℕ → List Trace) (y : State) → A (state_of told traces old) y → B (state_of told traces old) y) → ChangesBy told A old new → ChangesBy told B old new
changes_as told A B old new same a = λ traces fits.
    let k = a traces fits in
    (k.0, (k.1.0, same traces (state_of told k.0 new) k.1.1))

-- two changes, one after the other
pub changes_then : {S : Type 0} (told : S → Option Told) (A B C : State → State → Type 0) (old mid new : World S)
    → ((traces after : ℕ → List Trace) (z : State) → A (state_of told traces old) (state_of told after mid) → B (state_of told after mid) z → C (state_of told traces old) z)
    → ChangesBy told A old mid → ChangesBy told B mid new → ChangesBy told C old new
changes_then told A B C old mid new join a b = λ traces fits.
    let k = a traces fits in
    let l = b k.0 k.1.0 in
    (l.0, (l.1.0, join traces k.0 (state_of told l.0 new) k.1.1 l.1.1))

-- events that happen after others
pub happen_then : (xs ys : List Event) (a b c : State) → Happen xs a b → Happen ys b c → Happen (xs ++ ys) a c
happen_then [] ys a b c h k = subst (λ s. Happen ys s c) (sym h) k
happen_then (x ∷ xs) ys a b c h k = (h.0, (h.1.0, happen_then xs ys h.0 b c h.1.1 k))

-- events that are read off the state
pub happen_as : {S : Type 0} (told : S → Option Told) (f : State → List Event) (es : List Event) (old new : World S)
    → ((traces : ℕ → List Trace) → es ≡ f (state_of told traces old)) → ChangesBy told (Happen es) old new → ChangesBy told (λ s. Happen (f s) s) old new
happen_as told f es old new is = changes_as told (Happen es) (λ s. Happen (f s) s) old new (λ traces y h. subst (λ xs. Happen xs (state_of told traces old) y) (is traces) h)

-- the first few of them happen, and the next one stops them
pub part_stops : {S : Type 0} (told : S → Option Told) (f : State → List Event) (error : ApplyError) (event : Event) (i : ℕ) (old mid new : World S)
    → ((traces : ℕ → List Trace) → slice_get (f (state_of told traces old)) i ≡ Some event)
    → ChangesBy told (λ s. Happen (take i (f s)) s) old mid → ChangesBy told (StopsAt error event) mid new → ChangesBy told (λ s. HappenInPart error (f s) s) old new
part_stops told f error event i old mid new at =
    changes_then told (λ s. Happen (take i (f s)) s) (StopsAt error event) (λ s. HappenInPart error (f s) s) old mid new
    (λ traces after z a b. (
      i,
      (
        subst (λ s. Happen (take i (f (state_of told traces old))) (state_of told traces old) s) b.0 a,
        subst (λ o. BrokeOff error o z) (sym (at traces)) b.1,
      ),
    ))

-- a world that didn't change
pub nothing_happens : {S : Type 0} (told : S → Option Told) (w : World S) → ChangesBy told (Happen []) w w
nothing_happens told w = λ traces fits. (traces, (fits, refl))

-- the first one stops them
pub first_stops : {S : Type 0} (told : S → Option Told) (f : State → List Event) (error : ApplyError) (event : Event) (old new : World S)
    → ((traces : ℕ → List Trace) → slice_get (f (state_of told traces old)) 0 ≡ Some event) → ChangesBy told (StopsAt error event) old new → ChangesBy told (λ s. HappenInPart error (f s) s) old new
first_stops told f error event old new at = part_stops told f error event 0 old old new at (nothing_happens told old)

-- a request that has a reply is taken by handing it
pub taken_again : (n : ℕ) (s : State) → has_reply (numbered s.net n) ≡ true → events.Reply n 1 ∷ [] ≡ taken n s
taken_again n s e = rw e refl

-- any other is delivered first
pub taken_first : (n : ℕ) (s : State) → has_reply (numbered s.net n) ≡ false → events.Deliver n ∷ events.Reply n 1 ∷ [] ≡ taken n s
taken_first n s e = rw e refl

-- a request of a site that is left out is given up
pub settled_out : (without : List ℕ) (n : ℕ) (s : State) → is_left_out without (numbered s.net n) ≡ true → events.GiveUp n ∷ [] ≡ settled without n s
settled_out without n s e = rw e refl

-- any other is taken
pub settled_in : (without : List ℕ) (n : ℕ) (s : State) → is_left_out without (numbered s.net n) ≡ false → taken n s ≡ settled without n s
settled_in without n s e = rw e refl
