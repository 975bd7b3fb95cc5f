-- What a call heard, as rows of acceptors, and that it stands in a store of one object.
use Rattle.std.specs.Prelude.{ℕ, ◌≡◌, ◌⊎◌, List, [], ◌∷◌, Option, Some, None}
use Rattle.gz_core.specs.Names.{Name, BallotAt}
use Rattle.gz_config.specs.declared.Config.{Config}
use Rattle.gz_core.specs.Rows.{IsRow}
use Rattle.gz_core.specs.Slots.{Act, Promises, act_of, slots}
use Rattle.gz_core.specs.declared.requests.Op.{Op}
use Rattle.gz_core.specs.declared.requests.Op.TheVariants.{WriteRow}
use Rattle.gz_core.specs.History.{Caller, Trace, Action, Sent, Handed, GaveUp, Rested, GaveIn}
use Rattle.gz_round.specs.declared.hearing.Seen.{Seen}
use Rattle.gz_round.specs.Sites.{heard_in}
use Rattle.gz_data.specs.Own.{IsOwn}
use Rattle.gz_ledger.specs.Acceptors.{Acceptor}
use Rattle.gz_ledger.specs.Histories.{RowSeen, Write, IsIn}
use Rattle.gz_ledger.specs.Transitions.{Store, Answered, WriteSent, writes_of}

-- a row that was heard from a site, with those that were heard before
abbrev pub seen_entry : ℕ → Option Seen → List RowSeen → List RowSeen
seen_entry s None es = es
seen_entry s (Some seen) es = record { site = s; row = slots seen.row } ∷ es

-- the rows that a call heard, the newest first
abbrev pub heard_of : List Action → List RowSeen
heard_of [] = []
heard_of (Sent a ∷ ms) = heard_of ms
heard_of (Handed a reply ∷ ms) = seen_entry a.site (heard_in (Handed a reply)) (heard_of ms)
heard_of (GaveUp a ∷ ms) = heard_of ms
heard_of (Rested ∷ ms) = heard_of ms
heard_of (GaveIn ∷ ms) = heard_of ms

-- a row that was heard keeps the rule of rows, and a reply of the store showed it
abbrev pub SeenStands : Store → ℕ → Option Seen → Type 0
SeenStands st s None = Unit {0}
SeenStands st s (Some seen) = IsRow seen.row × (let r : Answered = record { site = s; etag = seen.etag; row = slots seen.row } in IsIn r st.replies)

-- the step of the write that an action sends
abbrev pub IsStepSent : Op → Act → Type 0
IsStepSent (WriteRow key expect step row) act = act_of step ≡ act
IsStepSent op act = ⊥

abbrev pub ActionStands : Store → Action → Type 0
ActionStands st (Sent a) = Unit {0}
ActionStands st (Handed a reply) = SeenStands st a.site (heard_in (Handed a reply))
ActionStands st (GaveUp a) = Unit {0}
ActionStands st Rested = Unit {0}
ActionStands st GaveIn = Unit {0}

-- what a call heard was shown by replies of the store
abbrev pub ActionsStand : Store → List Action → Type 0
ActionsStand st [] = Unit {0}
ActionsStand st (m ∷ ms) = ActionStands st m × ActionsStand st ms

-- a call sent a write of this step
abbrev pub SendsStep : Action → Act → Type 0
SendsStep (Sent a) act = IsStepSent a.op act
SendsStep (Handed a reply) act = ⊥
SendsStep (GaveUp a) act = ⊥
SendsStep Rested act = ⊥
SendsStep GaveIn act = ⊥

abbrev pub SentStep : List Action → Act → Type 0
SentStep [] act = ⊥
SentStep (m ∷ ms) act = SendsStep m act ⊎ SentStep ms act

-- a write that actions send is this one's step
abbrev pub PastStep : List Trace → Act → Type 0
PastStep [] act = ⊥
PastStep (t ∷ ts) act = SentStep t.actions act ⊎ PastStep ts act

-- a request, as the store of its object keeps it
abbrev pub IsAskedOf : Name → ℕ → Op → WriteSent → Type 0
IsAskedOf name site (WriteRow key expect step row) q =
    (before : Acceptor) × (let k : WriteSent = record { expect = expect; write = record { call = name; site = site; before = before; act = act_of step; after = slots row } } in q ≡ k)
IsAskedOf name site op q = ⊥

-- no site used a tag before the run
abbrev pub unused : ℕ → ℕ
unused s = 0

-- the write of a request is asked of the store
abbrev pub AskedHere : Name → ℕ → Op → Store → Type 0
AskedHere name site (WriteRow key expect step row) st = (q : WriteSent) × (IsAskedOf name site (WriteRow key expect step row) q × IsIn q st.asked)
AskedHere name site op st = Unit {0}

-- what a store knows of a call of its object: it writes its own value, its heard rows were shown, its writes and those of
-- the store are the same, and each ballot that was promised is of the session that promised it
pub record Keeps (c : Config) (w : Caller) (past : List Trace) (ms : List Action) (st : Store) : Type 0 where
  pub value : IsOwn c w.name w.call w.own
  pub stands : ActionsStand st ms
  pub own : (q : Write) → IsIn q (writes_of st.asked) → q.call ≡ w.name → SentStep ms q.act
  pub asked : (act : Act) → SentStep ms act → (q : Write) × (IsIn q (writes_of st.asked) × ((q.call ≡ w.name) × (q.act ≡ act)))
  pub drawn : (q : Write) (v : ℕ) (b : BallotAt) → IsIn q (writes_of st.asked) → q.act ≡ Promises v b → b.session ≡ q.call.session
  pub others : (q : Write) → IsIn q (writes_of st.asked) → q.call.session ≡ w.name.session → (q.call ≡ w.name) ⊎ PastStep past q.act
