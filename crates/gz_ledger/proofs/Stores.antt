-- Every run over tagged rows is a run of the machine of agreement.
use Rattle.std.proofs.Common.{◌≡◌, ℕ, ◌<◌, ◌≤◌, List, [], ◌∷◌, ◌++◌, Some, refl, ap, ◌∙◌, sym, subst, inl, inr}
use Rattle.std.proofs.Math.Path.{fun_ext}
use Rattle.std.proofs.lemmas.Bool.{cases_eq}
use Rattle.gz_core.specs.Names.{Name}
use Rattle.gz_config.specs.declared.Config.{Config}
use Rattle.gz_ledger.specs.Acceptors.{Acceptor, with_acceptor}
use Rattle.gz_ledger.specs.Histories.{IsIn, RowSeen, Write, IsShownByRows, IsCurrentByRows, VotesFor, IsProposed}
use Rattle.gz_ledger.specs.Ledgers.{Ledger, Move, Shows, Sends, Takes, moved, row_of, CanSend, Can, after_moves, AreMoves, late_seen}
use Rattle.gz_ledger.specs.Agreements.{HasQuorums, IsAgreed, AreCurrentMoves}
use Rattle.gz_ledger.specs.Transitions.{Answered, WriteSent, Store, Transition, Reads, Begins, Written, Failed, Elsewhere, acceptor_of, kept_after, done, rows_of, writes_of, CanBeginWrite, CanWrite, after_transitions, AreTransitions, ledger_of, moves_onto, moves_of, late_rows, seen_after, sent_after, AreCurrentTransitions}
use Rattle.gz_ledger.proofs.Kept.{sound}
use Rattle.gz_ledger.proofs.Sound.{IsSound}
use Rattle.gz_ledger.proofs.More.{may_more}
use Rattle.gz_ledger.proofs.Orders as orders
use Rattle.gz_ledger.proofs.Stances.{acceptor_same, acceptor_other}
use Rattle.gz_ledger.proofs.Tags.{kept, site_same, site_other, shown_stands}

-- the row of a reply is one of the rows
pub rows_in : (rs : List Answered) (r : Answered) → IsIn r rs → let e : RowSeen = record { site = r.site; row = r.row } in IsIn e (rows_of rs)
rows_in [] r i = absurd i
rows_in (q ∷ rs) r (inl p) = inl (ap (λ (x : Answered). let e : RowSeen = record { site = x.site; row = x.row } in e) p)
rows_in (q ∷ rs) r (inr i) = inr (rows_in rs r i)

-- the write of a request is one of the writes
pub writes_in : (rs : List WriteSent) (a : WriteSent) → IsIn a rs → IsIn a.write (writes_of rs)
writes_in [] a i = absurd i
writes_in (q ∷ rs) a (inl p) = inl (ap (λ (x : WriteSent). x.write) p)
writes_in (q ∷ rs) a (inr i) = inr (writes_in rs a i)

told_after : (st : Store) (a : WriteSent) (e s : ℕ) → with_acceptor (λ t. acceptor_of (st.stored t)) a.write.site a.write.after s ≡ acceptor_of (kept_after st a e s)
told_after st a e s =
    elim (cases_eq s a.write.site) [
      | inl p ↦ acceptor_same (λ t. acceptor_of (st.stored t)) a.write.site s a.write.after p ∙ ap acceptor_of (sym (site_same st.stored a.write.site s (Some (record { etag = e; row = a.write.after })) p))
      | inr ne ↦ acceptor_other (λ t. acceptor_of (st.stored t)) a.write.site s a.write.after ne ∙ ap acceptor_of (sym (site_other st.stored a.write.site s (Some (record { etag = e; row = a.write.after })) ne))
    ]

-- a write that takes effect in the store takes effect in the ledger
take_ledger : (st : Store) (a : WriteSent) (e : ℕ) → moved (ledger_of st) (Takes a.write) ≡ ledger_of (done st (Failed a e))
take_ledger st a e =
    ap (λ (told : ℕ → Acceptor). let l : Ledger = record { told = told; seen = rows_of st.replies; sent = writes_of st.asked } in l) (fun_ext (told_after st a e))

-- and its reply shows the row that it made
written_ledger : (st : Store) (a : WriteSent) (e : ℕ) → moved (ledger_of (done st (Failed a e))) (Shows a.write.site) ≡ ledger_of (done st (Written a e))
written_ledger st a e =
    ap (λ (r : Acceptor). let l : Ledger = record { told = λ s. acceptor_of (kept_after st a e s); seen = record { site = a.write.site; row = r } ∷ rows_of st.replies; sent = writes_of st.asked } in l)
    (ap acceptor_of (site_same st.stored a.write.site a.write.site (Some (record { etag = e; row = a.write.after })) refl))

-- what the ledger may do, it may do where it is spelled otherwise
can_same : (cfg : Config) (l m : Ledger) (n : Move) → l ≡ m → Can cfg m n → Can cfg l n
can_same cfg l m n e can = subst (λ (k : Ledger). Can cfg k n) (sym e) can

moved_same : (l m : Ledger) (n : Move) → l ≡ m → moved l n ≡ moved m n
moved_same l m n e = ap (λ (k : Ledger). moved k n) e

can_send : (cfg : Config) (st : Store) (heard : List RowSeen) (a : WriteSent) → CanBeginWrite cfg st heard a → CanSend cfg (ledger_of st) a.write
can_send cfg st heard a can = record {
  shown = rows_in st.replies (record { site = a.write.site; etag = a.expect; row = a.write.before }) can.shown;
  makes = can.makes;
  may = may_more cfg heard (rows_of st.replies) (writes_of st.asked) a.write.call a.write.act can.known can.may;
}

-- the row of each request was shown under the tag that it expects
asked_shown : (cfg : Config) (used : ℕ → ℕ) (ds : List Transition) (a : WriteSent) → AreTransitions cfg used ds → IsIn a (after_transitions used ds).asked → let r : Answered = record { site = a.write.site; etag = a.expect; row = a.write.before } in IsIn r (after_transitions used ds).replies
asked_shown cfg used [] a all i = absurd i
asked_shown cfg used (Reads s ∷ ds) a all i = inr (asked_shown cfg used ds a all.0 i)
asked_shown cfg used (Begins heard b ∷ ds) a all (inl p) =
    subst (λ (x : WriteSent). let r : Answered = record { site = x.write.site; etag = x.expect; row = x.write.before } in IsIn r (after_transitions used ds).replies) (sym p) all.1.shown
asked_shown cfg used (Begins heard b ∷ ds) a all (inr i) = asked_shown cfg used ds a all.0 i
asked_shown cfg used (Written b e ∷ ds) a all i = inr (asked_shown cfg used ds a all.0 i)
asked_shown cfg used (Failed b e ∷ ds) a all i = asked_shown cfg used ds a all.0 i
asked_shown cfg used (Elsewhere s e ∷ ds) a all i = asked_shown cfg used ds a all.0 i

-- a write that takes effect finds the row that it was made on, since that was shown under the tag
can_take : (cfg : Config) (used : ℕ → ℕ) (ds : List Transition) (a : WriteSent) (e : ℕ) → AreTransitions cfg used ds → CanWrite (after_transitions used ds) a e → Can cfg (ledger_of (after_transitions used ds)) (Takes a.write)
can_take cfg used ds a e all can =
    let st = after_transitions used ds in (
      writes_in st.asked a can.asked,
      shown_stands st (record { site = a.write.site; etag = a.expect; row = a.write.before }) (kept cfg used ds all) (asked_shown cfg used ds a all can.asked) can.stands,
    )

-- the moves of the transitions are moves, and lead to the store as a ledger
pub transitions_are_moves : (cfg : Config) (used : ℕ → ℕ) (ds : List Transition) → AreTransitions cfg used ds → AreMoves cfg (moves_of ds) × (after_moves (moves_of ds) ≡ ledger_of (after_transitions used ds))
transitions_are_moves cfg used [] all = (tt, refl)
transitions_are_moves cfg used (Reads s ∷ ds) all =
    let w : AreMoves cfg (moves_of ds) × (after_moves (moves_of ds) ≡ ledger_of (after_transitions used ds)) = transitions_are_moves cfg used ds all.0 in
    ((w.0, tt), moved_same (after_moves (moves_of ds)) (ledger_of (after_transitions used ds)) (Shows s) w.1)
transitions_are_moves cfg used (Begins heard a ∷ ds) all =
    let w : AreMoves cfg (moves_of ds) × (after_moves (moves_of ds) ≡ ledger_of (after_transitions used ds)) = transitions_are_moves cfg used ds all.0 in (
      (w.0, can_same cfg (after_moves (moves_of ds)) (ledger_of (after_transitions used ds)) (Sends a.write) w.1 (can_send cfg (after_transitions used ds) heard a all.1)),
      moved_same (after_moves (moves_of ds)) (ledger_of (after_transitions used ds)) (Sends a.write) w.1,
    )
transitions_are_moves cfg used (Written a e ∷ ds) all =
    let w : AreMoves cfg (moves_of ds) × (after_moves (moves_of ds) ≡ ledger_of (after_transitions used ds)) = transitions_are_moves cfg used ds all.0 in
    let st = after_transitions used ds in
    let took : moved (after_moves (moves_of ds)) (Takes a.write) ≡ ledger_of (done st (Failed a e)) = moved_same (after_moves (moves_of ds)) (ledger_of st) (Takes a.write) w.1 ∙ take_ledger st a e in (
      ((w.0, can_same cfg (after_moves (moves_of ds)) (ledger_of st) (Takes a.write) w.1 (can_take cfg used ds a e all.0 all.1)), tt),
      moved_same (moved (after_moves (moves_of ds)) (Takes a.write)) (ledger_of (done st (Failed a e))) (Shows a.write.site) took ∙ written_ledger st a e,
    )
transitions_are_moves cfg used (Failed a e ∷ ds) all =
    let w : AreMoves cfg (moves_of ds) × (after_moves (moves_of ds) ≡ ledger_of (after_transitions used ds)) = transitions_are_moves cfg used ds all.0 in
    let st = after_transitions used ds in (
      (w.0, can_same cfg (after_moves (moves_of ds)) (ledger_of st) (Takes a.write) w.1 (can_take cfg used ds a e all.0 all.1)),
      moved_same (after_moves (moves_of ds)) (ledger_of st) (Takes a.write) w.1 ∙ take_ledger st a e,
    )
transitions_are_moves cfg used (Elsewhere s e ∷ ds) all = transitions_are_moves cfg used ds all.0

pub tags_name_rows : (cfg : Config) (used : ℕ → ℕ) (ds : List Transition) (r q : Answered) (e : ℕ) → AreTransitions cfg used ds → IsIn r (after_transitions used ds).replies → IsIn q (after_transitions used ds).replies → r.site ≡ q.site → r.etag ≡ Some e → q.etag ≡ Some e → r.row ≡ q.row
tags_name_rows cfg used ds r q e all i j s h g = (kept cfg used ds all).named r q e i j s h g

-- agreement in every run over tagged rows
pub store_agreed : (cfg : Config) (used : ℕ → ℕ) (ds : List Transition) → HasQuorums cfg → AreTransitions cfg used ds → IsAgreed cfg (ledger_of (after_transitions used ds))
store_agreed cfg used ds q all =
    let w : AreMoves cfg (moves_of ds) × (after_moves (moves_of ds) ≡ ledger_of (after_transitions used ds)) = transitions_are_moves cfg used ds all in
    subst (λ (l : Ledger). IsAgreed cfg l) w.1 (orders.agreement cfg (moves_of ds) q w.0)

-- every run over tagged rows keeps what runs of the machine keep
pub store_sound : (cfg : Config) (used : ℕ → ℕ) (ds : List Transition) → HasQuorums cfg → AreTransitions cfg used ds → IsSound cfg (ledger_of (after_transitions used ds))
store_sound cfg used ds q all =
    let w : AreMoves cfg (moves_of ds) × (after_moves (moves_of ds) ≡ ledger_of (after_transitions used ds)) = transitions_are_moves cfg used ds all in
    subst (λ (l : Ledger). IsSound cfg l) w.1 (sound cfg (moves_of ds) q w.0)

-- the moves of late and early transitions
onto_split : (ds : List Transition) (ms : List Move) → moves_onto ds ms ≡ moves_of ds ++ ms
onto_split [] ms = refl
onto_split (Reads s ∷ ds) ms = ap (λ (ns : List Move). Shows s ∷ ns) (onto_split ds ms)
onto_split (Begins heard a ∷ ds) ms = ap (λ (ns : List Move). Sends a.write ∷ ns) (onto_split ds ms)
onto_split (Written a e ∷ ds) ms = ap (λ (ns : List Move). Shows a.write.site ∷ Takes a.write ∷ ns) (onto_split ds ms)
onto_split (Failed a e ∷ ds) ms = ap (λ (ns : List Move). Takes a.write ∷ ns) (onto_split ds ms)
onto_split (Elsewhere s e ∷ ds) ms = onto_split ds ms

onto_both : (late early : List Transition) → moves_of (late ++ early) ≡ moves_onto late (moves_of early)
onto_both [] early = refl
onto_both (Reads s ∷ late) early = ap (λ (ns : List Move). Shows s ∷ ns) (onto_both late early)
onto_both (Begins heard a ∷ late) early = ap (λ (ns : List Move). Sends a.write ∷ ns) (onto_both late early)
onto_both (Written a e ∷ late) early = ap (λ (ns : List Move). Shows a.write.site ∷ Takes a.write ∷ ns) (onto_both late early)
onto_both (Failed a e ∷ late) early = ap (λ (ns : List Move). Takes a.write ∷ ns) (onto_both late early)
onto_both (Elsewhere s e ∷ late) early = onto_both late early

pub moves_split : (late early : List Transition) → moves_of (late ++ early) ≡ moves_of late ++ moves_of early
moves_split late early = onto_both late early ∙ onto_split late (moves_of early)

pub early_transitions : (cfg : Config) (used : ℕ → ℕ) (late early : List Transition) → AreTransitions cfg used (late ++ early) → AreTransitions cfg used early
early_transitions cfg used [] early all = all
early_transitions cfg used (d ∷ late) early all = early_transitions cfg used late early all.0

-- both lead to the same ledger
pub both_moves : (cfg : Config) (used : ℕ → ℕ) (late early : List Transition) → AreTransitions cfg used (late ++ early) → AreMoves cfg (moves_of late ++ moves_of early) × (after_moves (moves_of late ++ moves_of early) ≡ ledger_of (after_transitions used (late ++ early)))
both_moves cfg used late early all =
    let w = transitions_are_moves cfg used (late ++ early) all in
    (subst (λ (ms : List Move). AreMoves cfg ms) (moves_split late early) w.0, ap after_moves (sym (moves_split late early)) ∙ w.1)

-- the rows that late transitions showed are those that their moves show
late_same : (cfg : Config) (used : ℕ → ℕ) (late early : List Transition) → AreTransitions cfg used (late ++ early) → late_seen (moves_of late) (moves_of early) ≡ late_rows used late early
late_same cfg used [] early all = refl
late_same cfg used (Reads s ∷ late) early all =
    let row : after_moves (moves_of late ++ moves_of early) ≡ ledger_of (after_transitions used (late ++ early)) = (both_moves cfg used late early all.0).1 in
    ap (λ (l : Ledger). row_of l s ∷ late_seen (moves_of late) (moves_of early)) row ∙ ap (λ (es : List RowSeen). row_of (ledger_of (after_transitions used (late ++ early))) s ∷ es) (late_same cfg used late early all.0)
late_same cfg used (Begins heard a ∷ late) early all = late_same cfg used late early all.0
late_same cfg used (Written a e ∷ late) early all =
    let l = after_moves (moves_of late ++ moves_of early) in
    let row : with_acceptor l.told a.write.site a.write.after a.write.site ≡ a.write.after = acceptor_same l.told a.write.site a.write.site a.write.after refl in
    ap (λ (r : Acceptor). let g : RowSeen = record { site = a.write.site; row = r } in g ∷ late_seen (moves_of late) (moves_of early)) row
    ∙ ap (λ (es : List RowSeen). let g : RowSeen = record { site = a.write.site; row = a.write.after } in g ∷ es) (late_same cfg used late early all.0)
late_same cfg used (Failed a e ∷ late) early all = late_same cfg used late early all.0
late_same cfg used (Elsewhere s e ∷ late) early all = late_same cfg used late early all.0

-- what early transitions showed
early_shown : (cfg : Config) (used : ℕ → ℕ) (early : List Transition) (u : ℕ) (x : Name) → AreTransitions cfg used early → IsShownByRows cfg (seen_after used early) u x → IsShownByRows cfg (after_moves (moves_of early)).seen u x
early_shown cfg used early u x all h =
    subst (λ (l : Ledger). IsShownByRows cfg l.seen u x) (sym (transitions_are_moves cfg used early all).1) h

pub store_latest : (cfg : Config) (used : ℕ → ℕ) (late early : List Transition) (u v : ℕ) (x : Name) → HasQuorums cfg → AreTransitions cfg used (late ++ early) → IsShownByRows cfg (seen_after used early) u x → IsCurrentByRows cfg (late_rows used late early) v → u ≤ v
store_latest cfg used late early u v x q all h c =
    orders.latest cfg (moves_of late) (moves_of early) u v x q (both_moves cfg used late early all).0
    (early_shown cfg used early u x (early_transitions cfg used late early all) h)
    (subst (λ (es : List RowSeen). IsCurrentByRows cfg es v) (sym (late_same cfg used late early all)) c)

-- the call's own votes are sent where rows are current
current_moves : (cfg : Config) (used : ℕ → ℕ) (call : Name) (late early : List Transition) → AreTransitions cfg used (late ++ early) → AreCurrentTransitions cfg used call late early → AreCurrentMoves cfg call (moves_of late) (moves_of early)
current_moves cfg used call [] early all c = tt
current_moves cfg used call (Reads s ∷ late) early all c = (current_moves cfg used call late early all.0 c.0, tt)
current_moves cfg used call (Begins heard a ∷ late) early all c = (
  current_moves cfg used call late early all.0 c.0,
  λ (own : a.write.call ≡ call) (v : ℕ) (votes : VotesFor a.write.act v call). elim (c.1 own v votes) [
    | inl p ↦ inl (subst (λ (l : Ledger). IsProposed l.sent v call) (sym (both_moves cfg used late early all.0).1) p)
    | inr h ↦ inr (subst (λ (es : List RowSeen). IsCurrentByRows cfg es v) (sym (late_same cfg used late early all.0)) h)
  ],
)
current_moves cfg used call (Written a e ∷ late) early all c = ((current_moves cfg used call late early all.0 c.0, tt), tt)
current_moves cfg used call (Failed a e ∷ late) early all c = (current_moves cfg used call late early all.0 c.0, tt)
current_moves cfg used call (Elsewhere s e ∷ late) early all c = current_moves cfg used call late early all.0 c.0

pub store_above : (cfg : Config) (used : ℕ → ℕ) (call : Name) (late early : List Transition) (u v : ℕ) (x : Name) → HasQuorums cfg → AreTransitions cfg used (late ++ early) → ((w : Write) → IsIn w (sent_after used early) → w.call ≡ call → ⊥) → AreCurrentTransitions cfg used call late early → IsShownByRows cfg (seen_after used early) u x → IsShownByRows cfg (seen_after used (late ++ early)) v call → u < v
store_above cfg used call late early u v x q all none c h k =
    let before : AreTransitions cfg used early = early_transitions cfg used late early all in
    orders.above cfg call (moves_of late) (moves_of early) u v x q (both_moves cfg used late early all).0
    (λ (w : Write) (i : IsIn w (after_moves (moves_of early)).sent). none w (subst (λ (l : Ledger). IsIn w l.sent) (transitions_are_moves cfg used early before).1 i))
    (current_moves cfg used call late early all c)
    (early_shown cfg used early u x before h)
    (subst (λ (l : Ledger). IsShownByRows cfg l.seen v call) (sym (both_moves cfg used late early all).1) k)
