-- The requests of a world go to sites of its configuration and are of calls of its sessions, and its calls began and
-- ended at ticks that have passed: they began one after another and ended one after another, each after it began, and at
-- one tick no call begins where another one ends.
use Rattle.std.specs.Prelude.{ℕ, ◌≡◌, ◌≤◌, ◌<◌, length, Some, is_some, slice_get}
use Rattle.gz_core.specs.Configurations.{IsConfig}
use Rattle.gz_history.specs.declared.record.CallRec.{CallRec}
use Rattle.gz_world.specs.States.{RequestAt, State, numbered}

-- a request goes to a site of the configuration, and its call is one of its session
pub record IsOfCall (s : State) (r : RequestAt) : Type 0 where
  pub site : r.site < s.cfg.n
  pub call : r.name.seq ≤ length (s.traces r.name.session)

-- the same of each request, after so many ticks
pub record ArePlacedBy (ticks : ℕ) (s : State) : Type 0 where
  pub config : IsConfig s.cfg
  pub requests : (n : ℕ) (r : RequestAt) → numbered s.net n ≡ Some r → IsOfCall s r
  pub began : (i : ℕ) (call : CallRec) → slice_get s.calls i ≡ Some call → call.begin ≤ ticks
  pub over : (i end : ℕ) (call : CallRec) → slice_get s.calls i ≡ Some call → call.end ≡ Some end → end ≤ ticks
  pub apart : (i j : ℕ) (a b : CallRec) → slice_get s.calls i ≡ Some a → slice_get s.calls j ≡ Some b → a.end ≡ Some b.begin → i ≡ j
  pub order : (i j : ℕ) (a b : CallRec) → slice_get s.calls i ≡ Some a → slice_get s.calls j ≡ Some b → i < j → a.begin < b.begin
  pub later : (i end : ℕ) (a : CallRec) → slice_get s.calls i ≡ Some a → a.end ≡ Some end → a.begin < end
  pub ends : (i j end : ℕ) (a b : CallRec) → slice_get s.calls i ≡ Some a → slice_get s.calls j ≡ Some b → a.end ≡ Some end → b.end ≡ Some end → i ≡ j
  pub answered : (i : ℕ) (a : CallRec) → slice_get s.calls i ≡ Some a → is_some a.end ≡ is_some a.answer

abbrev pub ArePlaced : State → Type 0
ArePlaced s = ArePlacedBy (length s.journal) s
