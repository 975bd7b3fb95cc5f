-- Sites that keep an object's row under an entity tag, and what may happen to them: the network loses, repeats and
-- delays requests, and a request that failed may have taken effect.
use Rattle.std.specs.Prelude.{ℕ, ◌≡◌, ◌≤◌, ◌<◌, ◌==◌, ◌⊎◌, false, if◌then◌else◌, List, [], ◌∷◌, ◌++◌, Option, Some, None}
use Rattle.gz_core.specs.Names.{Name, BallotAt, fast, same_ballot}
use Rattle.gz_core.specs.Slots.{Promises, VotesClassic, Makes}
use Rattle.gz_config.specs.declared.Config.{Config}
use Rattle.gz_ledger.specs.Acceptors.{Acceptor, new_acceptor}
use Rattle.gz_ledger.specs.Histories.{IsIn, RowSeen, Write, IsShownByRows, IsCurrentByRows, VotesFor, IsProposed}
use Rattle.gz_pick.specs.Choices.{pick_of}
use Rattle.gz_pick.specs.declared.heard.Heard.{Heard}
use Rattle.gz_pick.specs.declared.heard.Pick.TheVariants.{Free}
use Rattle.gz_ledger.specs.Guards.{May, IsQuorumHeard}
use Rattle.gz_ledger.specs.Ledgers.{Ledger, Move, Shows, Sends, Takes, after_moves, AreMoves}
use Rattle.gz_ledger.specs.Agreements.{HasQuorums, IsAgreed}

-- the row that a site keeps, and its tag
pub record Stored : Type 0 where
  pub etag : ℕ
  pub row : Acceptor

-- a reply that showed a row: its site, its tag, and none for the row of an object of which the site keeps nothing
pub record Answered : Type 0 where
  pub site : ℕ
  pub etag : Option ℕ
  pub row : Acceptor

-- a write that was sent, and the tag under which the site's row must stand for it to take effect
pub record WriteSent : Type 0 where
  pub expect : Option ℕ
  pub write : Write

-- what each site keeps, the greatest tag that each used, the replies that showed rows, and the writes that were sent
pub record Store : Type 0 where
  pub stored : ℕ → Option Stored
  pub used : ℕ → ℕ
  pub replies : List Answered
  pub asked : List WriteSent

-- sites that keep nothing of the object
abbrev pub empty_store : (ℕ → ℕ) → Store
empty_store used = record { stored = λ s. None; used = used; replies = []; asked = [] }

-- a read shows what the site keeps; a write is sent, by what its call heard; a write takes effect under a new tag,
-- and replies, or fails all the same; a tag is used for another object
pub data Transition : Type 0 where
  Reads : ℕ → Transition
  Begins : List RowSeen → WriteSent → Transition
  Written : WriteSent → ℕ → Transition
  Failed : WriteSent → ℕ → Transition
  Elsewhere : ℕ → ℕ → Transition

abbrev pub stored_etag : Option Stored → Option ℕ
stored_etag None = None
stored_etag (Some kept) = Some kept.etag

abbrev pub acceptor_of : Option Stored → Acceptor
acceptor_of None = new_acceptor
acceptor_of (Some kept) = kept.row

-- what a read of the site shows
abbrev pub stored_answer : Store → ℕ → Answered
stored_answer st s = record { site = s; etag = stored_etag (st.stored s); row = acceptor_of (st.stored s) }

-- what the reply to a write that took effect shows
abbrev pub answer_to : WriteSent → ℕ → Answered
answer_to a e = record { site = a.write.site; etag = Some e; row = a.write.after }

-- a function with another value at one site
abbrev pub with_site : {A : Type 0} → (ℕ → A) → ℕ → A → ℕ → A
with_site f s x t = if t == s then x else f t

-- what a site keeps after a write
abbrev pub kept_after : Store → WriteSent → ℕ → ℕ → Option Stored
kept_after st a e = with_site st.stored a.write.site (Some (record { etag = e; row = a.write.after }))

-- what a transition makes of the store
abbrev pub done : Store → Transition → Store
done st (Reads s) = record { stored = st.stored; used = st.used; replies = stored_answer st s ∷ st.replies; asked = st.asked }
done st (Begins heard a) = record { stored = st.stored; used = st.used; replies = st.replies; asked = a ∷ st.asked }
done st (Written a e) = record { stored = kept_after st a e; used = with_site st.used a.write.site e; replies = answer_to a e ∷ st.replies; asked = st.asked }
done st (Failed a e) = record { stored = kept_after st a e; used = with_site st.used a.write.site e; replies = st.replies; asked = st.asked }
done st (Elsewhere s e) = record { stored = st.stored; used = with_site st.used s e; replies = st.replies; asked = st.asked }

-- the rows of these replies
abbrev pub rows_of : List Answered → List RowSeen
rows_of [] = []
rows_of (r ∷ rs) = record { site = r.site; row = r.row } ∷ rows_of rs

-- the writes of these requests
abbrev pub writes_of : List WriteSent → List Write
writes_of [] = []
writes_of (a ∷ as') = a.write ∷ writes_of as'

-- a write may be sent that makes its step on a row that was shown under the tag that it expects, within the guards
-- over the rows that its call heard, which were all shown
pub record CanBeginWrite (cfg : Config) (st : Store) (heard : List RowSeen) (a : WriteSent) : Type 0 where
  pub known : (e : RowSeen) → IsIn e heard → IsIn e (rows_of st.replies)
  pub shown : let r : Answered = record { site = a.write.site; etag = a.expect; row = a.write.before } in IsIn r st.replies
  pub makes : Makes a.write.act a.write.before a.write.after
  pub may : May cfg heard (writes_of st.asked) a.write.call a.write.act

-- a write takes effect where the site's row stands under the tag that it expects; the new tag is above all that the site used
pub record CanWrite (st : Store) (a : WriteSent) (e : ℕ) : Type 0 where
  pub asked : IsIn a st.asked
  pub stands : stored_etag (st.stored a.write.site) ≡ a.expect
  pub new : st.used a.write.site < e

abbrev pub CanDo : Config → Store → Transition → Type 0
CanDo cfg st (Reads s) = Unit {0}
CanDo cfg st (Begins heard a) = CanBeginWrite cfg st heard a
CanDo cfg st (Written a e) = CanWrite st a e
CanDo cfg st (Failed a e) = CanWrite st a e
CanDo cfg st (Elsewhere s e) = st.used s ≤ e

-- the store after these transitions, the newest first, where the sites used these tags before
abbrev pub after_transitions : (ℕ → ℕ) → List Transition → Store
after_transitions used [] = empty_store used
after_transitions used (d ∷ ds) = done (after_transitions used ds) d

-- each of the transitions could be done when it was
abbrev pub AreTransitions : Config → (ℕ → ℕ) → List Transition → Type 0
AreTransitions cfg used [] = Unit {0}
AreTransitions cfg used (d ∷ ds) = AreTransitions cfg used ds × CanDo cfg (after_transitions used ds) d

-- the store as a ledger
abbrev pub ledger_of : Store → Ledger
ledger_of st = record { told = λ s. acceptor_of (st.stored s); seen = rows_of st.replies; sent = writes_of st.asked }

-- the moves of these transitions, the newest first, before those that were made already
abbrev pub moves_onto : List Transition → List Move → List Move
moves_onto [] ms = ms
moves_onto (Reads s ∷ ds) ms = Shows s ∷ moves_onto ds ms
moves_onto (Begins heard a ∷ ds) ms = Sends a.write ∷ moves_onto ds ms
moves_onto (Written a e ∷ ds) ms = Shows a.write.site ∷ Takes a.write ∷ moves_onto ds ms
moves_onto (Failed a e ∷ ds) ms = Takes a.write ∷ moves_onto ds ms
moves_onto (Elsewhere s e ∷ ds) ms = moves_onto ds ms

abbrev pub moves_of : List Transition → List Move
moves_of ds = moves_onto ds []

-- every run over tagged rows is a run of the machine of agreement
abbrev pub TransitionsAreMoves : Type 0
TransitionsAreMoves = (cfg : Config) (used : ℕ → ℕ) (ds : List Transition) → AreTransitions cfg used ds → AreMoves cfg (moves_of ds) × (after_moves (moves_of ds) ≡ ledger_of (after_transitions used ds))

-- two replies of one site under one tag show one row
abbrev pub TagsNameRows : Type 0
TagsNameRows =
    (cfg : Config) (used : ℕ → ℕ) (ds : List Transition) (r q : Answered) (e : ℕ) → AreTransitions cfg used ds → IsIn r (after_transitions used ds).replies → IsIn q (after_transitions used ds).replies
    → r.site ≡ q.site → r.etag ≡ Some e → q.etag ≡ Some e → r.row ≡ q.row

-- agreement in every run over tagged rows
abbrev pub StoreAgreement : Type 0
StoreAgreement = (cfg : Config) (used : ℕ → ℕ) (ds : List Transition) → HasQuorums cfg → AreTransitions cfg used ds → IsAgreed cfg (ledger_of (after_transitions used ds))

-- the rows that the late ones of these transitions showed
abbrev pub late_rows : (ℕ → ℕ) → List Transition → List Transition → List RowSeen
late_rows used [] early = []
late_rows used (Reads s ∷ late) early = record { site = s; row = acceptor_of ((after_transitions used (late ++ early)).stored s) } ∷ late_rows used late early
late_rows used (Begins heard a ∷ late) early = late_rows used late early
late_rows used (Written a e ∷ late) early = record { site = a.write.site; row = a.write.after } ∷ late_rows used late early
late_rows used (Failed a e ∷ late) early = late_rows used late early
late_rows used (Elsewhere s e ∷ late) early = late_rows used late early

-- the rows that these transitions showed up to now, and the writes that they sent
abbrev pub seen_after : (ℕ → ℕ) → List Transition → List RowSeen
seen_after used ds = rows_of (after_transitions used ds).replies

abbrev pub sent_after : (ℕ → ℕ) → List Transition → List Write
sent_after used ds = writes_of (after_transitions used ds).asked

-- the version at which rows that a quorum showed afterwards are current is not below one at which a value was shown
abbrev pub LatestRowsAreCurrent : Type 0
LatestRowsAreCurrent =
    (cfg : Config) (used : ℕ → ℕ) (late early : List Transition) (u v : ℕ) (x : Name) → HasQuorums cfg → AreTransitions cfg used (late ++ early)
    → IsShownByRows cfg (seen_after used early) u x → IsCurrentByRows cfg (late_rows used late early) v → u ≤ v

-- the call's first vote for its own value at a version is sent where late rows are current there
abbrev pub IsCurrentTransition : Config → (ℕ → ℕ) → Name → Transition → List Transition → List Transition → Type 0
IsCurrentTransition cfg used call (Reads s) late early = Unit {0}
IsCurrentTransition cfg used call (Begins heard a) late early =
    a.write.call ≡ call → (v : ℕ) → VotesFor a.write.act v call → IsProposed (sent_after used (late ++ early)) v call ⊎ IsCurrentByRows cfg (late_rows used late early) v
IsCurrentTransition cfg used call (Written a e) late early = Unit {0}
IsCurrentTransition cfg used call (Failed a e) late early = Unit {0}
IsCurrentTransition cfg used call (Elsewhere s e) late early = Unit {0}

abbrev pub AreCurrentTransitions : Config → (ℕ → ℕ) → Name → List Transition → List Transition → Type 0
AreCurrentTransitions cfg used call [] early = Unit {0}
AreCurrentTransitions cfg used call (d ∷ late) early = AreCurrentTransitions cfg used call late early × IsCurrentTransition cfg used call d late early

-- the value of a call that began when a value was shown is shown above it
abbrev pub OwnRowsAreAbove : Type 0
OwnRowsAreAbove =
    (cfg : Config) (used : ℕ → ℕ) (call : Name) (late early : List Transition) (u v : ℕ) (x : Name) → HasQuorums cfg → AreTransitions cfg used (late ++ early)
    → ((w : Write) → IsIn w (sent_after used early) → w.call ≡ call → ⊥) → AreCurrentTransitions cfg used call late early
    → IsShownByRows cfg (seen_after used early) u x → IsShownByRows cfg (seen_after used (late ++ early)) v call → u < v

-- no write that was sent promised the ballot
abbrev pub IsUnpromisedByWrites : List Write → BallotAt → Type 0
IsUnpromisedByWrites sent b = (w : Write) (u : ℕ) → IsIn w sent → w.act ≡ Promises u b → ⊥

-- no write that was sent voted in the ballot at the version
abbrev pub IsUncastByWrites : List Write → ℕ → BallotAt → Type 0
IsUncastByWrites sent v b = (w : Write) (y : Name) → IsIn w sent → w.act ≡ VotesClassic v b y → ⊥

-- where a value was shown at a version before a ballot was promised, and nothing was cast in the ballot, the promises of a
-- classic quorum don't leave the choice free
abbrev pub ShownIsForced : Type 0
ShownIsForced =
    (cfg : Config) (used : ℕ → ℕ) (late early : List Transition) (v : ℕ) (b : BallotAt) (x : Name) (heard : List Heard) → HasQuorums cfg → AreTransitions cfg used (late ++ early) → IsUnpromisedByWrites (sent_after used early) b
    → IsUncastByWrites (sent_after used (late ++ early)) v b → same_ballot b fast ≡ false → IsShownByRows cfg (seen_after used early) v x → IsQuorumHeard cfg (seen_after used (late ++ early)) v b heard → pick_of cfg.n cfg.qf heard ≡ Free → ⊥
