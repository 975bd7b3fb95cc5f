-- What happens to one object in a world is a run of the machine of agreement: transitions at sites that keep tagged rows.
use Rattle.std.specs.Prelude.{ℕ, ◌≡◌, ◌⊎◌, List, [], ◌∷◌, ◌++◌, Option, Some, None, slice_get}
use Rattle.gz_core.specs.Names.{Name, BallotAt}
use Rattle.gz_core.specs.Calls.{key_of}
use Rattle.gz_core.specs.Rows.{RowAt, IsRow}
use Rattle.gz_core.specs.Slots.{Act, slots}
use Rattle.gz_config.specs.declared.Config.{Config}
use Rattle.gz_core.specs.declared.requests.Op.{Op}
use Rattle.gz_core.specs.declared.requests.Op.TheVariants.{ReadRow, WriteRow, PutBlob, GetBlob, DropBlob}
use Rattle.gz_core.specs.declared.requests.Reply.{Reply}
use Rattle.gz_core.specs.History.{Trace}
use Rattle.gz_round.specs.declared.hearing.Seen.{Seen}
use Rattle.gz_round.specs.Sites.{seen_in, written_by}
use Rattle.gz_site.specs.Told.{Told}
use Rattle.gz_history.specs.Answers.{shows, IsWrite}
use Rattle.gz_history.specs.Legal.{IsBefore}
use Rattle.gz_history.specs.declared.record.CallRec.{CallRec}
use Rattle.gz_model.specs.Casts.{has_cast}
use Rattle.gz_ledger.specs.Histories.{RowSeen, Write, IsIn, IsShownByRows, VotesFor, cast}
use Rattle.gz_ledger.specs.Transitions.{Store, Stored, Transition, after_transitions, AreTransitions, late_rows, seen_after, sent_after, AreCurrentTransitions}
use Rattle.gz_world.specs.States.{RequestAt, State, numbered}
use Rattle.gz_laws.specs.Begun.{IsBegunIn}
use Rattle.gz_laws.specs.Each.{EachTrace}
use Rattle.gz_laws.specs.Heard.{unused, SeenStands, SentStep, AskedHere}
use Rattle.gz_laws.specs.Rows.{IfKept, IfWritten}

-- the row that a site keeps of the object, and its tag
abbrev pub stored_of : Option (ℕ × RowAt) → Option Stored
stored_of None = None
stored_of (Some kept) = Some (record { etag = kept.0; row = slots kept.1 })

-- what a site tells of the object is what the store has at its place, a row that keeps the rule of rows
pub record SiteStands (key : List ℕ) (told : Told) (st : Store) (i : ℕ) : Type 0 where
  pub stored : st.stored i ≡ stored_of (told.rows key)
  pub used : st.used i ≡ told.top
  pub rule : IfKept IsRow (told.rows key)

-- the object that a request is about
abbrev pub key_asked : Op → List ℕ
key_asked (ReadRow key) = key
key_asked (WriteRow key expect step row) = key
key_asked (PutBlob blob bytes) = blob.key
key_asked (GetBlob blob) = blob.key
key_asked (DropBlob blob) = blob.key

-- a request of the object is asked of the store, the row that it writes keeps the rule of rows, and its replies are the store's
pub record RequestStands (st : Store) (r : RequestAt) : Type 0 where
  pub asked : AskedHere r.name r.site r.op st
  pub rule : IfWritten IsRow r.op
  pub replies : (i tick : ℕ) (reply : Reply) → slice_get r.replies i ≡ Some (tick, reply) → SeenStands st r.site (seen_in (written_by r.op) reply)

-- the call of this name is one of the object and sent this step, and where that voted for its own value, it is a write
pub record IsSender (key : List ℕ) (name : Name) (act : Act) (t : Trace) : Type 0 where
  pub name_is : t.caller.name ≡ name
  pub key_is : key_of t.caller.call ≡ key
  pub sent : SentStep t.actions act
  pub write : (v : ℕ) → VotesFor act v name → IsWrite t.caller.call

abbrev pub IsSentBy : List ℕ → Name → Act → List Trace → Type 0
IsSentBy key name act [] = ⊥
IsSentBy key name act (t ∷ ts) = IsSender key name act t ⊎ IsSentBy key name act ts

-- a value is shown at the version, or there is no such version
abbrev pub IsShownAt : Config → List Transition → ℕ → Type 0
IsShownAt cfg ds v = (v ≡ 0) ⊎ ((x : Name) × IsShownByRows cfg (seen_after unused ds) v x)

-- the row that a reply shows is among these
abbrev pub IsRowIn : ℕ → Option Seen → List RowSeen → Type 0
IsRowIn s None rows = Unit {0}
IsRowIn s (Some seen) rows = let e : RowSeen = record { site = s; row = slots seen.row } in IsIn e rows

-- the transitions that were done before a call began, and those since: the call sent nothing before, its first votes for its
-- own value were sent where rows read since are current, what it hears was read since, and what calls that had ended
-- show was shown before
pub record IsSince (s : State) (key : List ℕ) (ds : List Transition) (b : CallRec) : Type 0 where
  pub early : List Transition
  pub late : List Transition
  pub split : ds ≡ late ++ early
  pub unsent : (q : Write) → IsIn q (sent_after unused early) → q.call ≡ b.name → ⊥
  pub current : AreCurrentTransitions s.cfg unused b.name late early
  pub heard : (n i tick : ℕ) (r : RequestAt) (reply : Reply) → numbered s.net n ≡ Some r → key_asked r.op ≡ key → r.name ≡ b.name → slice_get r.replies i ≡ Some (tick, reply)
      → IsRowIn r.site (seen_in (written_by r.op) reply) (late_rows unused late early)
  pub ended : (i v : ℕ) (a : CallRec) → slice_get s.calls i ≡ Some a → key_of a.call ≡ key → IsBefore a.end b.begin → shows a.answer ≡ Some v → IsShownAt s.cfg early v

-- these transitions are what has happened to the object
pub record IsRun (key : List ℕ) (s : State) (ds : List Transition) : Type 0 where
  pub transitions : AreTransitions s.cfg unused ds
  pub sites : (i : ℕ) (told : Told) → s.sites i ≡ Some told → SiteStands key told (after_transitions unused ds) i
  pub requests : (n : ℕ) (r : RequestAt) → numbered s.net n ≡ Some r → key_asked r.op ≡ key → RequestStands (after_transitions unused ds) r
  pub casts : (v : ℕ) (b : BallotAt) (x : Name) (i : ℕ) → has_cast s.casts key v b x i ≡ cast (seen_after unused ds) v b x i
  pub sent : (q : Write) → IsIn q (sent_after unused ds) → IsSentBy key q.call q.act (s.traces q.call.session)
  pub begun : (session : ℕ) → EachTrace (IsBegunIn key ds) (s.traces session)
  pub calls : (i : ℕ) (b : CallRec) → slice_get s.calls i ≡ Some b → key_of b.call ≡ key → IsSince s key ds b
