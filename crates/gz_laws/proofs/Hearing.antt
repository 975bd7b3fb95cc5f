-- What is shown to a call, by what it heard, is shown by rows of acceptors.
use Rattle.std.proofs.Common.{◌≡◌, ◌≢◌, ℕ, ◌+◌, ◌≤◌, inl, inr, List, [], ◌∷◌, Some, None, Bool, true, false, refl, ap, sym, ◌∙◌, subst, arith}
use Rattle.gz_ledger.proofs.Stores.{rows_in}
use Rattle.gz_core.proofs.Counting.{count_weaker, count_found}
use Rattle.gz_core.proofs.Ballots.{name_means}
use Rattle.std.proofs.lemmas.Bool.{and_parts, or_cases, or_left, or_right, and_from, eqb-true, false≢true}
use Rattle.std.proofs.lemmas.Bool.Decides.{nat_tests}
use Rattle.std.specs.Prelude.{Option, ◌==◌, ◌&&◌, ◌||◌, nat_le, if◌then◌else◌}
use Rattle.gz_core.specs.Names.{Name, BallotAt}
use Rattle.gz_core.specs.Rows.{RowAt, column_in, IsRow}
use Rattle.gz_core.specs.Slots.{slots, slot_of, slot_vote, slot_decision}
use Rattle.gz_core.specs.declared.slots.Slot.TheVariants.{DecidedAs}
use Rattle.gz_core.specs.declared.rows.Column.{Column}
use Rattle.gz_core.specs.declared.rows.Column.TheVariants.{Open, Decided}
use Rattle.gz_config.specs.declared.Config.{Config}
use Rattle.gz_pick.specs.Evidences.{votes_for, decides, is_for, is_named}
use Rattle.gz_core.specs.History.{Asked, Action, Sent, Handed, GaveUp, Rested, GaveIn, is_row_request}
use Rattle.gz_round.specs.declared.hearing.Seen.{Seen}
use Rattle.gz_round.specs.Sites.{SiteNow, site_now, after, after_reply, is_to, seen_in, written_by, is_changed, heard_in, passes, some_heard}
use Rattle.gz_round.proofs.Actions.{heard_row}
use Rattle.gz_round.specs.Shown.{IsShown, IsNext, HasFloor}
use Rattle.gz_ledger.specs.Acceptors.{slot_votes}
use Rattle.gz_ledger.specs.Histories.{RowSeen, IsIn, cast, IsShownByRows}
use Rattle.gz_ledger.specs.Guards.{IsNextByRows}
use Rattle.gz_ledger.specs.Transitions.{Store, Answered, rows_of}
use Rattle.gz_laws.specs.Heard.{seen_entry, heard_of, SeenStands, ActionsStand}
use Rattle.gz_laws.proofs.RowRules.{slots_found, slots_cast, floor_shows}

-- a vote of a row is one of its slots
vote_slot : (b : BallotAt) (x : Name) (o : Option Column) → is_for b x (slot_vote (slot_of o)) ≡ slot_votes (slot_of o) b x
vote_slot b x None = refl
vote_slot b x (Some (Open promise None)) = refl
vote_slot b x (Some (Open promise (Some vote))) = refl
vote_slot b x (Some (Decided value)) = refl

pub votes_slot : (row : RowAt) (v : ℕ) (b : BallotAt) (x : Name) → IsRow row → votes_for b x v (Some row) ≡ slot_votes (slots row v) b x
votes_slot row v b x rule = vote_slot b x (column_in row.columns v) ∙ sym (slots_cast row v b x rule)

-- and so is a decision
decided_slot : (x : Name) (o : Option Column) → is_named x (slot_decision (slot_of o)) ≡ true → slot_of o ≡ DecidedAs x
decided_slot x None h = cc
decided_slot x (Some (Open promise vote)) h = cc
decided_slot x (Some (Decided value)) h = ap DecidedAs (name_means _ x h)

pub decision_there : (x : Name) (o : Option Column) → is_named x (slot_decision (slot_of o)) ≡ true → o ≢ None
decision_there x None h = λ e. absurd (false≢true h)
decision_there x (Some column) h = λ e. cc

pub decides_slot : (row : RowAt) (v : ℕ) (x : Name) → IsRow row → decides x v (Some row) ≡ true → slots row v ≡ DecidedAs x
decides_slot row v x rule h = slots_found row v rule (decision_there x (column_in row.columns v) h) ∙ decided_slot x (column_in row.columns v) h

-- whether the vote is among the rows, of one more that was heard
entry_cast : (st : Store) (p : RowAt → Bool) (v : ℕ) (b : BallotAt) (x : Name) (f : (r : RowAt) → IsRow r → p r ≡ true → slot_votes (slots r v) b x ≡ true)
    (a : Asked) (o : Option Seen) (es : List RowSeen) (s : ℕ) (rest : Bool) → SeenStands st a.site o → (rest ≡ true → cast es v b x s ≡ true) → ((passes p o && is_to a s) || rest) ≡ true → cast (seen_entry a.site o es) v b x s ≡ true
entry_cast st p v b x f a None es s rest stands more h = more h
entry_cast st p v b x f a (Some seen) es s rest stands more h =
    elim (or_cases (p seen.row && is_to a s) rest h) [
      | inl e ↦
          let k = and_parts (p seen.row) (is_to a s) e in
          let t = and_parts (is_row_request a.op) (a.site == s) k.1 in
          or_left ((a.site == s) && slot_votes (slots seen.row v) b x) (cast es v b x s) (and_from (a.site == s) (slot_votes (slots seen.row v) b x) t.1 (f seen.row stands.0 k.0))
      | inr e ↦ or_right ((a.site == s) && slot_votes (slots seen.row v) b x) (cast es v b x s) (more e)
    ]

pub heard_cast : (st : Store) (p : RowAt → Bool) (v : ℕ) (b : BallotAt) (x : Name) → ((r : RowAt) → IsRow r → p r ≡ true → slot_votes (slots r v) b x ≡ true) → (ms : List Action) (s : ℕ) → ActionsStand st ms → some_heard p ms s ≡ true → cast (heard_of ms) v b x s ≡ true
heard_cast st p v b x f [] s stands h = cc
heard_cast st p v b x f (Sent a ∷ ms) s stands h = heard_cast st p v b x f ms s stands.1 h
heard_cast st p v b x f (Handed a reply ∷ ms) s stands h = entry_cast st p v b x f a (heard_in (Handed a reply)) (heard_of ms) s (some_heard p ms s) stands.0 (λ e. heard_cast st p v b x f ms s stands.1 e) h
heard_cast st p v b x f (GaveUp a ∷ ms) s stands h = heard_cast st p v b x f ms s stands.1 h
heard_cast st p v b x f (Rested ∷ ms) s stands h = heard_cast st p v b x f ms s stands.1 h
heard_cast st p v b x f (GaveIn ∷ ms) s stands h = heard_cast st p v b x f ms s stands.1 h

-- a row that was heard and passes a test
entry_found : (st : Store) (p : RowAt → Bool) (a : Asked) (o : Option Seen) (es : List RowSeen) (s : ℕ) (rest : Bool) → SeenStands st a.site o
    → (rest ≡ true → (r : RowAt) × (IsRow r × ((p r ≡ true) × (let e : RowSeen = record { site = s; row = slots r } in IsIn e es)))) → ((passes p o && is_to a s) || rest) ≡ true
    → (r : RowAt) × (IsRow r × ((p r ≡ true) × (let e : RowSeen = record { site = s; row = slots r } in IsIn e (seen_entry a.site o es))))
entry_found st p a None es s rest stands more h = more h
entry_found st p a (Some seen) es s rest stands more h =
    elim (or_cases (p seen.row && is_to a s) rest h) [
      | inl e ↦
          let k = and_parts (p seen.row) (is_to a s) e in
          let t = and_parts (is_row_request a.op) (a.site == s) k.1 in
          let n = eqb-true a.site s t.1 in
          (seen.row, (stands.0, (k.0, inl (ap (λ q. let e : RowSeen = record { site = q; row = slots seen.row } in e) (sym n)))))
      | inr e ↦ let m = more e in (m.0, (m.1.0, (m.1.1.0, inr m.1.1.1)))
    ]

pub heard_found : (st : Store) (p : RowAt → Bool) (ms : List Action) (s : ℕ) → ActionsStand st ms → some_heard p ms s ≡ true → (r : RowAt) × (IsRow r × ((p r ≡ true) × (let e : RowSeen = record { site = s; row = slots r } in IsIn e (heard_of ms))))
heard_found st p [] s stands h = cc
heard_found st p (Sent a ∷ ms) s stands h = heard_found st p ms s stands.1 h
heard_found st p (Handed a reply ∷ ms) s stands h = entry_found st p a (heard_in (Handed a reply)) (heard_of ms) s (some_heard p ms s) stands.0 (λ e. heard_found st p ms s stands.1 e) h
heard_found st p (GaveUp a ∷ ms) s stands h = heard_found st p ms s stands.1 h
heard_found st p (Rested ∷ ms) s stands h = heard_found st p ms s stands.1 h
heard_found st p (GaveIn ∷ ms) s stands h = heard_found st p ms s stands.1 h

-- what is shown to a call
pub shown_heard : (c : Config) (st : Store) (ms : List Action) (v : ℕ) (x : Name) → ActionsStand st ms → IsShown c ms v x → IsShownByRows c (heard_of ms) v x
shown_heard c st ms v x stands (inl k) =
    let more = count_weaker c.n (some_heard (λ r. votes_for k.0 x v (Some r)) ms) (cast (heard_of ms) v k.0 x) (λ s h. heard_cast st (λ r. votes_for k.0 x v (Some r)) v k.0 x (λ r e t. sym (votes_slot r v k.0 x e) ∙ t) ms s stands h) in
    let enough = k.1 in
    inl (k.0, omega (arith, more, enough))
shown_heard c st ms v x stands (inr k) =
    let f = count_found c.n (some_heard (λ r. decides x v (Some r)) ms) k in
    let g = heard_found st (λ r. decides x v (Some r)) ms f.0 stands f.2 in
    inr (record { entry = record { site = f.0; row = slots g.0 }; found = g.1.1.1; decided = decides_slot g.0 v x g.1.0 g.1.1.0 })

-- a floor that a call heard lies below a version at which a value is shown
pub floor_heard : (c : Config) (st : Store) (ms : List Action) (floor : ℕ) → ActionsStand st ms → 1 ≤ floor → HasFloor c ms floor → (x : Name) × IsShownByRows c (heard_of ms) (floor + 1) x
floor_heard c st ms floor stands positive h =
    let f = count_found c.n (some_heard (λ r. r.floor == floor) ms) h in
    let g = heard_found st (λ r. r.floor == floor) ms f.0 stands f.2 in
    let is = eqb-true g.0.floor floor g.1.1.0 in
    let d = floor_shows g.0 g.1.0 (omega (arith, is, positive)) in
    (d.0, inr (record { entry = record { site = f.0; row = slots g.0 }; found = g.1.1.1; decided = subst (λ n. slots g.0 (n + 1) ≡ DecidedAs d.0) is d.1 }))

pub next_heard : (c : Config) (st : Store) (ms : List Action) (v : ℕ) → ActionsStand st ms → IsNext c ms v → IsNextByRows c (heard_of ms) v
next_heard c st ms v stands (inl e) = inl e
next_heard c st ms v stands (inr k) = let e = k.2 in inr (k.0, omega (arith, e), k.1, shown_heard c st ms k.0 k.1 stands k.3)

entry_known : (st : Store) (s : ℕ) (o : Option Seen) (es : List RowSeen) (e : RowSeen) → SeenStands st s o → (IsIn e es → IsIn e (rows_of st.replies)) → IsIn e (seen_entry s o es) → IsIn e (rows_of st.replies)
entry_known st s None es e stands more h = more h
entry_known st s (Some seen) es e stands more (inl q) = subst (λ k. IsIn k (rows_of st.replies)) (sym q) (rows_in st.replies (record { site = s; etag = seen.etag; row = slots seen.row }) stands.1)
entry_known st s (Some seen) es e stands more (inr h) = more h

-- what was heard was shown by the store
pub heard_known : (st : Store) (ms : List Action) (e : RowSeen) → ActionsStand st ms → IsIn e (heard_of ms) → IsIn e (rows_of st.replies)
heard_known st [] e stands h = absurd h
heard_known st (Sent a ∷ ms) e stands h = heard_known st ms e stands.1 h
heard_known st (Handed a reply ∷ ms) e stands h = entry_known st a.site (heard_in (Handed a reply)) (heard_of ms) e stands.0 (λ k. heard_known st ms e stands.1 k) h
heard_known st (GaveUp a ∷ ms) e stands h = heard_known st ms e stands.1 h
heard_known st (Rested ∷ ms) e stands h = heard_known st ms e stands.1 h
heard_known st (GaveIn ∷ ms) e stands h = heard_known st ms e stands.1 h

-- the last row of a site was shown by the store under its tag
abbrev pub IsLastRow : Store → ℕ → Option Seen → Type 0
IsLastRow st s o = (seen : Seen) → o ≡ Some seen → IsRow seen.row × (let r : Answered = record { site = s; etag = seen.etag; row = slots seen.row } in IsIn r st.replies)

reply_last : (st : Store) (s : ℕ) (o : Option Seen) (changed : Bool) (now : SiteNow) → SeenStands st s o → IsLastRow st s now.row → IsLastRow st s (after_reply o changed now).row
reply_last st s (Some seen) changed now stands last = λ k e. let q : seen ≡ k = cc in subst (λ (r : Seen). IsRow r.row × (let a : Answered = record { site = s; etag = r.etag; row = slots r.row } in IsIn a st.replies)) q stands
reply_last st s None true now stands last = last
reply_last st s None false now stands last = last

sent_last : (st : Store) (s : ℕ) (a : Asked) (now : SiteNow) → IsLastRow st s now.row → IsLastRow st s (after (Sent a) now).row
sent_last st s a now last = elim a.awaited as (λ b. IsLastRow st s (if b then (let k : SiteNow = record { row = now.row; changed = now.changed; out = now.out; awaits = Some a; unanswered = true } in k) else now).row) [ true ↦ last | false ↦ last ]

chosen_last : (st : Store) (s : ℕ) (c : Bool) (now next : SiteNow) → (c ≡ true → IsLastRow st s next.row) → IsLastRow st s now.row → IsLastRow st s (if c then next else now).row
chosen_last st s true now next f last = f refl
chosen_last st s false now next f last = last

pub last_stands : (st : Store) (ms : List Action) (s : ℕ) → ActionsStand st ms → IsLastRow st s (site_now ms s).row
last_stands st [] s stands = λ k e. cc
last_stands st (Sent a ∷ ms) s stands = chosen_last st s (is_to a s) (site_now ms s) (after (Sent a) (site_now ms s)) (λ _. sent_last st s a (site_now ms s) (last_stands st ms s stands.1)) (last_stands st ms s stands.1)
last_stands st (Handed a reply ∷ ms) s stands =
    chosen_last st s (is_to a s) (site_now ms s) (after (Handed a reply) (site_now ms s))
    (λ e. let t = and_parts (is_row_request a.op) (a.site == s) e in
    reply_last st s (seen_in (written_by a.op) reply) (is_changed reply) (site_now ms s) (subst (λ q. SeenStands st q (seen_in (written_by a.op) reply)) (eqb-true a.site s t.1) (subst (SeenStands st a.site) (heard_row a reply t.0) stands.0)) (last_stands st ms s stands.1))
    (last_stands st ms s stands.1)
last_stands st (GaveUp a ∷ ms) s stands = chosen_last st s (is_to a s) (site_now ms s) (after (GaveUp a) (site_now ms s)) (λ _. last_stands st ms s stands.1) (last_stands st ms s stands.1)
last_stands st (Rested ∷ ms) s stands = last_stands st ms s stands.1
last_stands st (GaveIn ∷ ms) s stands = last_stands st ms s stands.1

-- replies that a store keeps
pub seen_more : (st su : Store) (s : ℕ) (o : Option Seen) → ((r : Answered) → IsIn r st.replies → IsIn r su.replies) → SeenStands st s o → SeenStands su s o
seen_more st su s None f h = tt
seen_more st su s (Some seen) f h = (h.0, f (record { site = s; etag = seen.etag; row = slots seen.row }) h.1)

pub stand_more : (st su : Store) (ms : List Action) → ((r : Answered) → IsIn r st.replies → IsIn r su.replies) → ActionsStand st ms → ActionsStand su ms
stand_more st su [] f stands = tt
stand_more st su (Sent a ∷ ms) f stands = (tt, stand_more st su ms f stands.1)
stand_more st su (Handed a reply ∷ ms) f stands = (seen_more st su a.site (heard_in (Handed a reply)) f stands.0, stand_more st su ms f stands.1)
stand_more st su (GaveUp a ∷ ms) f stands = (tt, stand_more st su ms f stands.1)
stand_more st su (Rested ∷ ms) f stands = (tt, stand_more st su ms f stands.1)
stand_more st su (GaveIn ∷ ms) f stands = (tt, stand_more st su ms f stands.1)

-- a test on two numbers
pub le_means : (a b : ℕ) → nat_le a b ≡ true → a ≤ b
le_means a b h = grind (arith, nat_tests)
