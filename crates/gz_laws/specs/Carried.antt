-- What the sessions' traces say of requests and replies is what the world carried.
use Rattle.std.specs.Prelude.{ℕ, ◌≡◌, List, [], ◌∷◌, Some, slice_get}
use Rattle.gz_core.specs.Names.{Name}
use Rattle.gz_core.specs.declared.requests.Reply.{Reply}
use Rattle.gz_round.specs.Sites.{as_heard, written_by}
use Rattle.gz_core.specs.History.{Asked, Action, Sent, Handed, GaveUp, Rested, GaveIn, Trace}
use Rattle.gz_world.specs.States.{RequestAt, State, numbered}

-- a call's request is the world's of its number
pub record IsRequestOf (net : List RequestAt) (name : Name) (a : Asked) (r : RequestAt) : Type 0 where
  pub there : numbered net a.number ≡ Some r
  pub name_is : r.name ≡ name
  pub site_is : r.site ≡ a.site
  pub op_is : r.op ≡ a.op

-- a reply is one of those that were made to a request, as the call of the request hears it, which is one over n sites
pub record HasReply (n : ℕ) (r : RequestAt) (reply : Reply) : Type 0 where
  pub place : ℕ
  pub tick : ℕ
  pub made : Reply
  pub there : slice_get r.replies place ≡ Some (tick, made)
  pub heard : reply ≡ as_heard n (written_by r.op) made

-- what is sent is a request of the world, and what is handed is a reply of that request, as the call hears it
abbrev pub ActionCarried : ℕ → List RequestAt → Name → Action → Type 0
ActionCarried n net name (Sent a) = (r : RequestAt) × IsRequestOf net name a r
ActionCarried n net name (Handed a reply) = (r : RequestAt) × (IsRequestOf net name a r × HasReply n r reply)
ActionCarried n net name (GaveUp a) = (r : RequestAt) × IsRequestOf net name a r
ActionCarried n net name Rested = Unit {0}
ActionCarried n net name GaveIn = Unit {0}

abbrev pub ActionsCarried : ℕ → List RequestAt → Name → List Action → Type 0
ActionsCarried n net name [] = Unit {0}
ActionsCarried n net name (m ∷ ms) = ActionCarried n net name m × ActionsCarried n net name ms

abbrev pub TracesCarried : ℕ → List RequestAt → List Trace → Type 0
TracesCarried n net [] = Unit {0}
TracesCarried n net (t ∷ ts) = ActionsCarried n net t.caller.name t.actions × TracesCarried n net ts

abbrev pub AreCarried : State → Type 0
AreCarried s = (session : ℕ) → TracesCarried s.cfg.n s.net (s.traces session)
