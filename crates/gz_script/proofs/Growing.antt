-- The requests of a world keep their names through every event, and what was answered stays answered.
use Rattle.std.proofs.Common.{ℕ, ◌≡◌, ◌≢◌, ◌+◌, ◌-◌, ◌≤◌, Bool, true, false, List, [], ◌∷◌, ◌++◌, length, map, inl, inr, refl, ap, sym, subst, ◌∙◌, arith}
use Rattle.std.specs.Prelude.{Option, Some, None, MatchOption, nat_eq, slice_get, slice_set}
use Rattle.std.proofs.lemmas.List.{length-append}
use Rattle.gz_site.specs.Told.{Told}
use Rattle.gz_world.specs.Bridge.{state_of}
use Rattle.gz_world.specs.Fits.{IsFitting}
use Rattle.gz_world.specs.States.{State, RequestAt, request_of, numbered}
use Rattle.gz_world.specs.Steps.{Does, Skips, WorldStep}
use Rattle.gz_world.specs.Refusals.{refusal_of}
use Rattle.std.proofs.lemmas.Bool.Decides.{eqb_tells}
use Rattle.gz_world.proofs.Members.{numbered_place}
use Rattle.gz_world.proofs.Places.{get_set_same, get_set_other, get_append}
use Rattle.gz_world.specs.declared.events.Effect.{Effect}
use Rattle.gz_world.specs.declared.events.Event.{Event}
use Rattle.gz_world.specs.declared.events.Event.TheVariants as events
use Rattle.gz_world.specs.declared.events.Skip.{Skip}
use Rattle.gz_world.specs.declared.world.World.{World}
use Rattle.gz_lines.specs.declared.line.Line.{Line}
use Rattle.gz_script.specs.Plays.{PlaysLine, ChangesBy}
use Rattle.gz_script.proofs.Keeping.{line_keeps}

-- a request after some events
pub record IsLater (old new : RequestAt) : Type 0 where
  pub name : new.name ≡ old.name
  pub replies : length old.replies ≤ length new.replies

-- each request is still there
abbrev pub AreKept : List RequestAt → List RequestAt → Type 0
AreKept old new = (i : ℕ) (r : RequestAt) → slice_get old i ≡ Some r → (q : RequestAt) × ((slice_get new i ≡ Some q) × IsLater r q)

later_same : (r : RequestAt) → IsLater r r
later_same r = record { name = refl; replies = omega arith }

later_then : (p q r : RequestAt) → IsLater p q → IsLater q r → IsLater p r
later_then p q r a b = let x = a.replies in let y = b.replies in record { name = b.name ∙ a.name; replies = omega (arith, x, y) }

kept_same : (old new : List RequestAt) → new ≡ old → AreKept old new
kept_same old new same = λ i r h. (r, (subst (λ xs. slice_get xs i ≡ Some r) (sym same) h, later_same r))

pub kept_then : (a b c : List RequestAt) → AreKept a b → AreKept b c → AreKept a c
kept_then a b c h k = λ i r there.
    let p = h i r there in
    let q = k i p.0 p.1.0 in
    (q.0, (q.1.0, later_then r p.0 q.0 p.1.1 q.1.1))

kept_more : (old new more : List RequestAt) → new ≡ old ++ more → AreKept old new
kept_more old new more is = λ i r h. (r, (subst (λ xs. slice_get xs i ≡ Some r) (sym is) (get_append old more i r h), later_same r))

found : (net : List RequestAt) (n : ℕ) (r : RequestAt) → numbered net n ≡ Some r → slice_get net (n - 1) ≡ Some r
found net n r h = (numbered_place net n r h).1

-- what a test of numbers says
pub same_number : (a b : ℕ) → nat_eq a b ≡ true → a ≡ b
same_number a b e = elim (eqb_tells a b) [ inl k ↦ k.1 | inr k ↦ let bad : true ≡ false = sym e ∙ k.0 in cc ]

pub other_number : (a b : ℕ) → nat_eq a b ≡ false → a ≢ b
other_number a b e = elim (eqb_tells a b) [ inl k ↦ let bad : true ≡ false = sym k.0 ∙ e in cc | inr k ↦ k.1 ]

set_at : (old : List RequestAt) (at : ℕ) (r q : RequestAt) → slice_get old at ≡ Some r → IsLater r q → (i : ℕ) (p : RequestAt) → slice_get old i ≡ Some p → (t : Bool) → nat_eq i at ≡ t
    → (x : RequestAt) × ((slice_get (slice_set old at q) i ≡ Some x) × IsLater p x)
set_at old at r q there later i p h true e =
    let same : i ≡ at = same_number i at e in
    let is : Some p ≡ Some r = sym h ∙ ap (slice_get old) same ∙ there in
    let p_is : p ≡ r = cc in
    (q, (subst (λ j. slice_get (slice_set old at q) j ≡ Some q) (sym same) (get_set_same old at r q there), subst (λ x. IsLater x q) (sym p_is) later))
set_at old at r q there later i p h false e =
    let apart : i ≢ at = other_number i at e in
    (p, (get_set_other old at i q apart ∙ h, later_same p))

kept_set : (old new : List RequestAt) (at : ℕ) (r q : RequestAt) → slice_get old at ≡ Some r → IsLater r q → new ≡ slice_set old at q → AreKept old new
kept_set old new at r q there later is = λ i p h.
    let x = set_at old at r q there later i p h (nat_eq i at) refl in
    (x.0, (subst (λ xs. slice_get xs i ≡ Some x.0) (sym is) x.1.0, x.1.1))

-- what one event does
does_keep : (old : State) (event : Event) (effect : Effect) (new : State) → Does old event effect new → AreKept old.net new.net
does_keep old events.OpenSession effect new h = kept_same old.net new.net h.net
does_keep old (events.Begin session call) effect new h = kept_more old.net new.net _ h.1.1.net
does_keep old (events.Deliver n) effect new h =
    let d = h.1.1 in
    kept_set old.net new.net (n - 1) h.0 _ (found old.net n h.0 d.request) (record { name = refl; replies = omega (arith, length-append h.0.replies ((length old.journal + 1, h.1.0) ∷ [])) }) d.net
does_keep old (events.Reply n which) effect new h =
    let t = h.1.1.1.1 in
    let marked = kept_set old.net _ (n - 1) h.0 _ (found old.net n h.0 t.request) (record { name = refl; replies = omega arith }) refl in
    kept_then old.net _ new.net marked (kept_more _ new.net _ t.net)
does_keep old (events.GiveUp n) effect new h =
    let t = h.1.1 in
    let marked = kept_set old.net _ (n - 1) h.0 _ (found old.net n h.0 t.request) (record { name = refl; replies = omega arith }) refl in
    kept_then old.net _ new.net marked (kept_more _ new.net _ t.net)
does_keep old (events.Crash session) effect new h = kept_same old.net new.net h.net

acts_keep : (old : State) (event : Event) (effect : Effect) (new : State) (why : Option Skip)
    → MatchOption why (Does old event effect new) (λ skip. Skips old event skip effect new) → AreKept old.net new.net
acts_keep old event effect new None h = does_keep old event effect new h
acts_keep old event effect new (Some skip) h = kept_same old.net new.net h.same.net

step_keeps : (old : State) (event : Event) (new : State) → WorldStep old event new → AreKept old.net new.net
step_keeps old event new h =
    kept_then old.net h.1.0.net new.net (acts_keep old event h.0 h.1.0 (refusal_of old event) h.1.1.1.0) (kept_same h.1.0.net new.net h.1.1.1.1.net)

-- what a line does
pub line_grows : (line : Line) (x y : State) → PlaysLine line x y → AreKept x.net y.net
line_grows line x y h =
    line_keeps (λ s. AreKept x.net s.net) (λ old new event step kept. kept_then x.net old.net new.net kept (step_keeps old event new step)) line x y h (kept_same x.net x.net refl)

-- a world that plays a line
pub changes_keep : {S : Type 0} (told : S → Option Told) (old new : World S) (line : Line) → IsFitting old → ChangesBy told (PlaysLine line) old new → AreKept (map request_of old.net.items) (map request_of new.net.items)
changes_keep told old new line fits a =
    let k = a fits.0 fits.1 in
    line_grows line (state_of told fits.0 old) (state_of told k.0 new) k.1.1
