-- What a call sent and what came of it, as the world's requests have it and as the call's trace has it: the two agree, so
-- that whatever counts requests, replies and give-ups of a call can be read off the world.
use Rattle.std.specs.Prelude.{ℕ, ◌≡◌, ◌+◌, ◌==◌, ◌⊎◌, Bool, true, false, if◌then◌else◌, List, [], ◌∷◌, ◌++◌, map, Option, Some, None, option_map, is_some}
use Rattle.gz_core.specs.Names.{Name, same_name}
use Rattle.gz_core.specs.declared.requests.Op.{Op}
use Rattle.gz_core.specs.declared.requests.Reply.{Reply}
use Rattle.gz_round.specs.Sites.{as_heard, written_by}
use Rattle.gz_core.specs.History.{Asked, Action, Sent, Handed, GaveUp, Rested, GaveIn, Trace}
use Rattle.gz_laws.specs.Each.{EachTrace}
use Rattle.gz_world.specs.States.{RequestAt, State, numbered}

-- a request that was sent, the reply of it that was handed to its call, if one was, as the call hears it, and whether it was given up
pub record Exchange : Type 0 where
  pub asked : Asked
  pub reply : Option Reply
  pub given_up : Bool

-- the reply that was handed, as the call of the request hears it, which is one over n sites
abbrev pub reply_handed : ℕ → Op → List (ℕ × Reply) → Option (ℕ × ℕ) → Option Reply
reply_handed n op replies None = None
reply_handed n op replies (Some handed) = option_map (λ (r : ℕ × Reply). as_heard n (written_by op) r.1) (numbered replies handed.1)

-- what the world has of the request with this number
abbrev pub exchange_of : ℕ → ℕ → RequestAt → Exchange
exchange_of n number r = record {
  asked = record { number = number; site = r.site; op = r.op; awaited = r.awaited };
  reply = reply_handed n r.op r.replies r.handed;
  given_up = is_some r.given_up;
}

-- the exchanges of a call among requests with numbers from `first` on, in the order in which they were sent
abbrev pub exchanges_from : ℕ → ℕ → List RequestAt → Name → List Exchange
exchanges_from n first [] name = []
exchanges_from n first (r ∷ rs) name = if same_name r.name name then exchange_of n first r ∷ exchanges_from n (first + 1) rs name else exchanges_from n (first + 1) rs name

-- the exchanges of a call, by the world's requests
abbrev pub exchanges_in : ℕ → List RequestAt → Name → List Exchange
exchanges_in n net name = exchanges_from n 1 net name

abbrev pub just_sent : Asked → Exchange
just_sent a = record { asked = a; reply = None; given_up = false }

abbrev pub with_answer : Reply → Exchange → Exchange
with_answer reply x = record { asked = x.asked; reply = Some reply; given_up = x.given_up }

abbrev pub without_answer : Exchange → Exchange
without_answer x = record { asked = x.asked; reply = x.reply; given_up = true }

-- the exchange of the request with this number changes
abbrev pub changed_at : ℕ → (Exchange → Exchange) → Exchange → Exchange
changed_at number f x = if x.asked.number == number then f x else x

-- the exchanges of a call, by what happened to it
abbrev pub exchanges_told : List Action → List Exchange
exchanges_told [] = []
exchanges_told (Sent a ∷ ms) = exchanges_told ms ++ just_sent a ∷ []
exchanges_told (Handed a reply ∷ ms) = map (changed_at a.number (with_answer reply)) (exchanges_told ms)
exchanges_told (GaveUp a ∷ ms) = map (changed_at a.number without_answer) (exchanges_told ms)
exchanges_told (Rested ∷ ms) = exchanges_told ms
exchanges_told (GaveIn ∷ ms) = exchanges_told ms

-- the world's requests and the trace of a call have the same exchanges
abbrev pub IsExchanged : ℕ → List RequestAt → Trace → Type 0
IsExchanged n net t = exchanges_in n net t.caller.name ≡ exchanges_told t.actions

-- one of these calls has the name
abbrev pub IsCallOf : List Trace → Name → Type 0
IsCallOf [] name = ⊥
IsCallOf (t ∷ ts) name = (t.caller.name ≡ name) ⊎ IsCallOf ts name

-- the reply that was handed is one that was made
abbrev pub IsHandedOne : RequestAt → Type 0
IsHandedOne r = (tick which : ℕ) → r.handed ≡ Some (tick, which) → (reply : ℕ × Reply) × (numbered r.replies which ≡ Some reply)

-- the world's requests and the calls' traces agree in both directions: each trace has its call's requests, and each
-- request is of a trace's call
pub record AreExchanged (s : State) : Type 0 where
  pub traces : (session : ℕ) → EachTrace (IsExchanged s.cfg.n s.net) (s.traces session)
  pub calls : (n : ℕ) (r : RequestAt) → numbered s.net n ≡ Some r → IsCallOf (s.traces r.name.session) r.name
  pub handed : (n : ℕ) (r : RequestAt) → numbered s.net n ≡ Some r → IsHandedOne r
