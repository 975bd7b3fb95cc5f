-- Lists of the requests that sessions have sent.
use Rattle.std.specs.Prelude.{ℕ, ◌≡◌, ◌+◌, ◌≤◌, ◌==◌, if◌then◌else◌, List, [], ◌∷◌, ◌++◌, length, take, slice_get, unwrap_or}
use Rattle.gz_world.specs.States.{RequestAt}
use Rattle.gz_script.specs.declared.outboxes.Outboxes.{Outboxes}
use Rattle.gz_script.specs.Plays.{sent_by, unanswered}

-- the list of a session, by its place
abbrev pub outbox_of : List (List ℕ) → ℕ → List ℕ
outbox_of lists s = unwrap_or (slice_get lists s) []

-- the list of each session has those of its requests that have no reply, among the first that were seen; it may have some
-- that were answered since
pub record AreUnansweredListed (boxes : Outboxes) (net : List RequestAt) : Type 0 where
  pub seen : boxes.seen ≤ length net
  pub lists : (s : ℕ) → unanswered net (outbox_of boxes.lists.items s) ≡ unanswered net (sent_by (s + 1) (take boxes.seen net))

-- a request was put at the end of a session's list
abbrev pub IsAppended : List (List ℕ) → ℕ → ℕ → List (List ℕ) → Type 0
IsAppended old session n new = (s : ℕ) → outbox_of new s ≡ (if session == s + 1 then outbox_of old s ++ n ∷ [] else outbox_of old s)

-- the list of a session was replaced
abbrev pub IsReplaced : List (List ℕ) → ℕ → List ℕ → List (List ℕ) → Type 0
IsReplaced old at ns new = (s : ℕ) → outbox_of new s ≡ (if s == at then ns else outbox_of old s)
