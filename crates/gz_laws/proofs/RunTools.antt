-- What stands in a run of an object stands in a longer one.
use Rattle.std.proofs.Common.{◌≡◌, ℕ, ◌-◌, ◌⊎◌, inl, inr, List, ◌++◌, Some, None, refl, ap, sym, ◌∙◌, subst}
use Rattle.std.proofs.lemmas.Bool.{cases_eq}
use Rattle.std.specs.Prelude.{Option, slice_get, slice_set}
use Rattle.gz_core.specs.Names.{Name}
use Rattle.gz_core.specs.Calls.{key_of}
use Rattle.gz_core.specs.Slots.{slots}
use Rattle.gz_core.specs.declared.requests.Op.{Op}
use Rattle.gz_core.specs.declared.requests.Op.TheVariants.{WriteRow}
use Rattle.gz_core.specs.declared.requests.Out.{Out}
use Rattle.gz_core.specs.declared.requests.Reply.{Reply}
use Rattle.gz_core.specs.Rows.{IsRow}
use Rattle.gz_round.specs.declared.hearing.Seen.{Seen}
use Rattle.gz_round.specs.Sites.{seen_in, written_by}
use Rattle.gz_history.specs.Answers.{shows}
use Rattle.gz_history.specs.Legal.{IsBefore}
use Rattle.gz_history.specs.declared.record.CallRec.{CallRec}
use Rattle.gz_ledger.specs.Histories.{RowSeen, IsIn}
use Rattle.gz_ledger.specs.Transitions.{Store, Answered, WriteSent, Transition, late_rows, AreCurrentTransitions}
use Rattle.gz_laws.specs.Heard.{unused, SeenStands, AskedHere}
use Rattle.gz_laws.specs.Runs.{key_asked, RequestStands, IsShownAt, IsRowIn, IsSince}
use Rattle.gz_laws.specs.Rows.{IfWritten}
use Rattle.gz_world.specs.States.{RequestAt, State, numbered, sent_request, sent_requests}
use Rattle.gz_laws.proofs.Growing.{GoesOn}
use Rattle.gz_laws.proofs.Hearing.{seen_more}
use Rattle.gz_world.proofs.Members.{numbered_place, place_numbered}
use Rattle.gz_world.proofs.Places.{get_set_same, get_set_other, get_of_two, get_mapped}

-- requests of a store that has more replies and requests
asked_more : (st su : Store) (name : Name) (site : ℕ) (op : Op) → ((q : WriteSent) → IsIn q st.asked → IsIn q su.asked) → AskedHere name site op st → AskedHere name site op su
asked_more st su name site (WriteRow key expect step row) f h = (h.0, (h.1.0, f h.0 h.1.1))
asked_more st su name site op f h = tt

pub request_more : (st su : Store) (r : RequestAt) → ((a : Answered) → IsIn a st.replies → IsIn a su.replies) → ((q : WriteSent) → IsIn q st.asked → IsIn q su.asked) → RequestStands st r → RequestStands su r
request_more st su r f g h = record {
  asked = asked_more st su r.name r.site r.op g h.asked;
  rule = h.rule;
  replies = λ i tick reply e. seen_more st su r.site (seen_in (written_by r.op) reply) f (h.replies i tick reply e);
}

pub row_in_more : (s : ℕ) (o : Option Seen) (rows more : List RowSeen) → ((e : RowSeen) → IsIn e rows → IsIn e more) → IsRowIn s o rows → IsRowIn s o more
row_in_more s None rows more f h = tt
row_in_more s (Some seen) rows more f h = f (record { site = s; row = slots seen.row }) h

-- a request with nothing changed that the run reads
pub record IsAlike (r q : RequestAt) : Type 0 where
  pub name : q.name ≡ r.name
  pub site : q.site ≡ r.site
  pub op : q.op ≡ r.op
  pub replies : q.replies ≡ r.replies

pub alike_itself : (r : RequestAt) → IsAlike r r
alike_itself r = record { name = refl; site = refl; op = refl; replies = refl }

pub alike_stands : (st : Store) (r q : RequestAt) → IsAlike r q → RequestStands st r → RequestStands st q
alike_stands st r q same h = record {
  asked = subst (λ (o : Op). AskedHere q.name q.site o st) (sym same.op) (subst (λ (s : ℕ). AskedHere q.name s r.op st) (sym same.site) (subst (λ (x : Name). AskedHere x r.site r.op st) (sym same.name) h.asked));
  rule = subst (IfWritten IsRow) (sym same.op) h.rule;
  replies = λ i tick reply e.
      subst (λ (o : Op). SeenStands st q.site (seen_in (written_by o) reply)) (sym same.op)
      (subst (λ (s : ℕ). SeenStands st s (seen_in (written_by r.op) reply)) (sym same.site)
      (h.replies i tick reply (subst (λ xs. slice_get xs i ≡ Some (tick, reply)) same.replies e)));
}

pub alike_in : (rows : List RowSeen) (r q : RequestAt) (reply : Reply) → IsAlike r q → IsRowIn r.site (seen_in (written_by r.op) reply) rows → IsRowIn q.site (seen_in (written_by q.op) reply) rows
alike_in rows r q reply same h =
    subst (λ (o : Op). IsRowIn q.site (seen_in (written_by o) reply) rows) (sym same.op) (subst (λ (s : ℕ). IsRowIn s (seen_in (written_by r.op) reply) rows) (sym same.site) h)

-- an element of a list in which one was changed
pub set_cases : {A : Type 0} (xs : List A) (n m : ℕ) (r y q : A) → numbered xs n ≡ Some r → numbered (slice_set xs (n - 1) y) m ≡ Some q → (q ≡ y) ⊎ (numbered xs m ≡ Some q)
set_cases xs n m r y q there h =
    let p = numbered_place xs n r there in
    let k = numbered_place (slice_set xs (n - 1) y) m q h in
    elim (cases_eq (m - 1) (n - 1)) [
      | inl e ↦ (let both : Some y ≡ Some q = sym (get_set_same xs (n - 1) r y p.1) ∙ ap (slice_get (slice_set xs (n - 1) y)) (sym e) ∙ k.1 in inl cc)
      | inr ne ↦ inr (place_numbered xs m q k.0 (sym (get_set_other xs (n - 1) (m - 1) y ne) ∙ k.1))
    ]

-- an element of two lists, one after the other
pub two_cases : {A : Type 0} (xs ys : List A) (m : ℕ) (q : A) → numbered (xs ++ ys) m ≡ Some q → (numbered xs m ≡ Some q) ⊎ ((j : ℕ) × (slice_get ys j ≡ Some q))
two_cases xs ys m q h =
    let k = numbered_place (xs ++ ys) m q h in
    elim (get_of_two xs ys (m - 1) q k.1) [ inl e ↦ inl (place_numbered xs m q k.0 e) | inr e ↦ inr (e.0, e.1.1) ]

-- a request that was just sent
pub fresh_request : (name : Name) (tick : ℕ) (outs : List Out) (j : ℕ) (q : RequestAt) → slice_get (sent_requests name tick outs) j ≡ Some q → (o : Out) × ((slice_get outs j ≡ Some o) × (sent_request name tick o ≡ q))
fresh_request name tick outs j q h = get_mapped (sent_request name tick) outs j q h

-- a call since it began, with more transitions
pub since_on : (key : List ℕ) (old new : State) (ds more : List Transition) (b d : CallRec) → new.cfg ≡ old.cfg → d.name ≡ b.name → d.begin ≡ b.begin → (since : IsSince old key ds b) → (on : GoesOn old.cfg b.name since.early since.late more)
    → ((n i tick : ℕ) (r : RequestAt) (reply : Reply) → numbered new.net n ≡ Some r → key_asked r.op ≡ key → r.name ≡ b.name → slice_get r.replies i ≡ Some (tick, reply) → IsRowIn r.site (seen_in (written_by r.op) reply) (late_rows unused on.later since.early))
    → ((i v : ℕ) (a : CallRec) → slice_get new.calls i ≡ Some a → key_of a.call ≡ key → IsBefore a.end b.begin → shows a.answer ≡ Some v → IsShownAt old.cfg since.early v) → IsSince new key more d
since_on key old new ds more b d cfg name begin since on heard ended = record {
  early = since.early;
  late = on.later;
  split = on.split;
  unsent = λ q i same. since.unsent q i (same ∙ name);
  current = subst (λ c. AreCurrentTransitions c unused d.name on.later since.early) (sym cfg) (subst (λ x. AreCurrentTransitions old.cfg unused x on.later since.early) (sym name) on.current);
  heard = λ n i tick r reply there is same at. heard n i tick r reply there is (same ∙ name) at;
  ended = λ i v a there is before show. subst (λ c. IsShownAt c since.early v) (sym cfg) (ended i v a there is (subst (IsBefore a.end) begin before) show);
}
