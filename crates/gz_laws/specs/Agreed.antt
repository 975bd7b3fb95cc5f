-- Agreement in a world, on the versions of one object: what votes were cast, what is chosen by them, what is shown to
-- calls, and what the sites that hold the object back. (Lamport 2006, "Fast Paxos".)
use Rattle.std.specs.Prelude.{ℕ, ◌≡◌, ◌<◌, ◌≤◌, ◌+◌, ◌==◌, ◌⊎◌, Bool, true, false, not, ◌&&◌, ◌||◌, List, [], ◌∷◌, Option, Some, None, slice_get}
use Rattle.gz_core.specs.Names.{Name, BallotAt, fast, same_ballot}
use Rattle.gz_core.specs.Calls.{key_of}
use Rattle.gz_core.specs.Counts.{count_sites}
use Rattle.gz_core.specs.Rows.{RowAt}
use Rattle.gz_core.specs.Slots.{Act, VotesClassic, slots}
use Rattle.gz_core.specs.declared.slots.Slot.TheVariants.{DecidedAs}
use Rattle.gz_config.specs.declared.Config.{Config}
use Rattle.gz_core.specs.History.{Trace}
use Rattle.gz_round.specs.Shown.{IsShown}
use Rattle.gz_site.specs.Told.{Told}
use Rattle.gz_history.specs.Answers.{shows, names}
use Rattle.gz_history.specs.declared.record.CallRec.{CallRec}
use Rattle.gz_model.specs.Casts.{is_at, has_cast, IsChosen}
use Rattle.gz_model.specs.Choosing.{Votes, IsSafe}
use Rattle.gz_model.specs.declared.casts.Cast.{Cast}
use Rattle.gz_ledger.specs.Acceptors.{Acceptor, HasValue, new_acceptor, slot_votes, slot_voted, slot_lets, slot_backs}
use Rattle.gz_laws.specs.Heard.{SentStep}
use Rattle.gz_world.specs.States.{State}

-- what a site keeps of the object, as an acceptor
abbrev pub acceptor_kept : Option (ℕ × RowAt) → Acceptor
acceptor_kept None = new_acceptor
acceptor_kept (Some kept) = slots kept.1

abbrev pub acceptor_told : Option Told → List ℕ → Acceptor
acceptor_told None key = new_acceptor
acceptor_told (Some told) key = acceptor_kept (told.rows key)

abbrev pub acceptor_at : State → List ℕ → ℕ → Acceptor
acceptor_at s key i = acceptor_told (s.sites i) key

-- whether a vote of this ballot was cast by the site
abbrev pub has_ballot : List Cast → List ℕ → ℕ → BallotAt → ℕ → Bool
has_ballot [] key v b i = false
has_ballot (c ∷ casts) key v b i = ((c.site == i) && (is_at c key v && same_ballot c.ballot b)) || has_ballot casts key v b i

-- whether the site voted so: its row says so, or it was seen to
abbrev pub has_voted : State → List ℕ → ℕ → Votes
has_voted s key v b x i = slot_votes (acceptor_at s key i v) b x || has_cast s.casts key v b x i

abbrev pub has_voted_in : State → List ℕ → ℕ → BallotAt → ℕ → Bool
has_voted_in s key v b i = slot_voted (acceptor_at s key i v) b || has_ballot s.casts key v b i

-- whether the site stands for the value: it voted so, or did not vote and may yet
abbrev pub stands_for : State → List ℕ → ℕ → Votes
stands_for s key v b x i = has_voted s key v b x i || (not (has_voted_in s key v b i) && slot_lets (acceptor_at s key i v) b)

-- a value is shown to a call of the object
abbrev pub IsShownTo : Config → List ℕ → ℕ → Name → List Trace → Type 0
IsShownTo c key v x [] = ⊥
IsShownTo c key v x (t ∷ ts) = ((key_of t.caller.call ≡ key) × IsShown c t.actions v x) ⊎ IsShownTo c key v x ts

abbrev pub IsShownIn : State → List ℕ → ℕ → Name → Type 0
IsShownIn s key v x = (session : ℕ) × IsShownTo s.cfg key v x (s.traces session)

-- a value is shown to the call of this name
abbrev pub IsShownToCall : Config → Name → ℕ → Name → List Trace → Type 0
IsShownToCall c name v x [] = ⊥
IsShownToCall c name v x (t ∷ ts) = ((t.caller.name ≡ name) × IsShown c t.actions v x) ⊎ IsShownToCall c name v x ts

-- a call of the object sent this step
abbrev pub IsSentIn : List ℕ → Act → List Trace → Type 0
IsSentIn key act [] = ⊥
IsSentIn key act (t ∷ ts) = ((key_of t.caller.call ≡ key) × SentStep t.actions act) ⊎ IsSentIn key act ts

-- agreement on the object: on votes, on what is chosen, and on what calls are shown and answer
pub record AreAgreed (key : List ℕ) (s : State) : Type 0 where
  -- each vote of a classic ballot that was sent is safe, and so is each that stands or was cast
  pub sent : (session v : ℕ) (b : BallotAt) (x : Name) → IsSentIn key (VotesClassic v b x) (s.traces session) → IsSafe s.cfg.n s.cfg.qc s.cfg.qf (stands_for s key v) b x
  pub standing : (v i : ℕ) (b : BallotAt) (x : Name) → i < s.cfg.n → same_ballot b fast ≡ false → has_voted s key v b x i ≡ true → IsSafe s.cfg.n s.cfg.qc s.cfg.qf (stands_for s key v) b x
  -- a vote that was cast at a version shows that a value is chosen at the one before
  pub chained : (v i : ℕ) (b : BallotAt) (x : Name) → 1 ≤ v → has_cast s.casts key (v + 1) b x i ≡ true → (y : Name) × IsChosen s.cfg s.casts key v y
  -- a vote or a decision that a site has at a version tells it too
  pub founded : (v i : ℕ) → 1 ≤ v → i < s.cfg.n → HasValue (acceptor_at s key i (v + 1)) → (y : Name) × IsChosen s.cfg s.casts key v y
  -- what a site has decided is chosen
  pub decided : (v i : ℕ) (x : Name) → i < s.cfg.n → acceptor_at s key i v ≡ DecidedAs x → IsChosen s.cfg s.casts key v x
  -- what is shown to a call is chosen
  pub chosen : (v : ℕ) (x : Name) → IsShownIn s key v x → IsChosen s.cfg s.casts key v x
  -- one value is chosen at a version, and a value is chosen at one version
  pub one : (v : ℕ) (x y : Name) → IsChosen s.cfg s.casts key v x → IsChosen s.cfg s.casts key v y → x ≡ y
  pub once : (u v : ℕ) (x : Name) → IsChosen s.cfg s.casts key u x → IsChosen s.cfg s.casts key v x → u ≡ v
  -- what is chosen is backed by the rows of a classic quorum
  pub backed : (v : ℕ) (x : Name) → IsChosen s.cfg s.casts key v x → s.cfg.qc ≤ count_sites s.cfg.n (λ i. slot_backs (acceptor_at s key i v) x)
  -- what the answer of a call of the object names is shown to the call itself, and chosen
  pub answers : (i v : ℕ) (a : CallRec) (x : Name) → slice_get s.calls i ≡ Some a → key_of a.call ≡ key → shows a.answer ≡ Some v → names a.name a.answer ≡ Some x → IsShownToCall s.cfg a.name v x (s.traces a.name.session) × IsChosen s.cfg s.casts key v x
