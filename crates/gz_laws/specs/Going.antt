-- That no call gives in, and which sites are out for a call.
use Rattle.std.specs.Prelude.{ℕ, ◌≡◌, ◌↔◌, ◌⊎◌, true, false, List, [], ◌∷◌, None}
use Rattle.gz_core.specs.History.{Action, Sent, Handed, GaveUp, Rested, GaveIn, Trace}
use Rattle.gz_round.specs.Sites.{site_now, is_to, seen_in, written_by, is_changed}

-- a call never gave in
abbrev pub NeverGaveIn : List Action → Type 0
NeverGaveIn [] = Unit {0}
NeverGaveIn (Sent a ∷ ms) = NeverGaveIn ms
NeverGaveIn (Handed a reply ∷ ms) = NeverGaveIn ms
NeverGaveIn (GaveUp a ∷ ms) = NeverGaveIn ms
NeverGaveIn (Rested ∷ ms) = NeverGaveIn ms
NeverGaveIn (GaveIn ∷ ms) = ⊥

-- a request for the site's row was given up, or answered by what the call hears as a fault
abbrev pub LeavesAt : ℕ → Action → Type 0
LeavesAt s (Sent a) = ⊥
LeavesAt s (Handed a reply) = (is_to a s ≡ true) × ((seen_in (written_by a.op) reply ≡ None) × (is_changed reply ≡ false))
LeavesAt s (GaveUp a) = is_to a s ≡ true
LeavesAt s Rested = ⊥
LeavesAt s GaveIn = ⊥

abbrev pub WasLeft : ℕ → List Action → Type 0
WasLeft s [] = ⊥
WasLeft s (m ∷ ms) = LeavesAt s m ⊎ WasLeft s ms

-- the call never gave in, and exactly those sites are out of which a request was given up, or answered so
pub record IsGoingOn (t : Trace) : Type 0 where
  pub never : NeverGaveIn t.actions
  pub out : (s : ℕ) → ((site_now t.actions s).out ≡ true) ↔ WasLeft s t.actions
