-- What a turn makes of a value.
use Rattle.std.specs.Prelude.{◌≡◌, Bool, true, false, List, [], ◌∷◌, ◌++◌}

-- a turn as the value sees it
pub record Operation (E R : Type 0) : Type 0 where
  pub entry : E
  pub reply : R
  pub grew : Bool

abbrev pub operation : {E R : Type 0} → E → R → Bool → Operation E R
operation entry reply grew = record { entry = entry; reply = reply; grew = grew }

-- what a turn adds to the past
abbrev pub grown_by : {E : Type 0} → E → Bool → List E
grown_by entry true = entry ∷ []
grown_by entry false = []

module _ {V E R : Type 0} (past : V → List E) (stands : V → List (Operation E R) → Type 0) where
  -- a turn of this entry and this reply
  pub record TakesTurn (old new : V) (entry : E) (reply : R) : Type 0 where
    pub grew : Bool
    pub past_after : past new ≡ past old ++ grown_by entry grew
    pub stands_after : (turns : List (Operation E R)) → stands old turns → stands new (turns ++ operation entry reply grew ∷ [])

  -- no turn
  pub record StaysAsItWas (old new : V) : Type 0 where
    pub past_after : past new ≡ past old
    pub stands_after : (turns : List (Operation E R)) → stands old turns → stands new turns
