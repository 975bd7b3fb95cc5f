-- The guards of a client are within those of the machine of agreement.
use Rattle.std.proofs.Common.{◌≡◌, ℕ, ◌+◌, ◌<◌, ◌≤◌, ◌⊎◌, inl, inr, List, [], ◌∷◌, Some, None, true, false, refl, ap, sym, ◌∙◌, subst, arith}
use Rattle.gz_core.proofs.Counting.{count_found}
use Rattle.std.proofs.lemmas.Bool.Decides.{nat_tests}
use Rattle.std.proofs.lemmas.Bool.{cases_lt}
use Rattle.std.proofs.lemmas.Option.{none-some}
use Rattle.std.specs.Prelude.{◌==◌, max, nat_le, if◌then◌else◌}
use Rattle.gz_core.specs.Names.{BallotAt}
use Rattle.gz_core.specs.Values.{name_of}
use Rattle.gz_core.specs.Rows.{Rises, column_in}
use Rattle.gz_core.specs.Slots.{Promises, act_of, slots, slot_of}
use Rattle.gz_core.specs.declared.rows.Column.{Column}
use Rattle.gz_core.specs.declared.rows.Column.TheVariants.{Open, Decided}
use Rattle.gz_config.specs.declared.Config.{Config}
use Rattle.gz_core.specs.declared.values.Value.{Value}
use Rattle.gz_core.specs.declared.requests.RowStep.{RowStep}
use Rattle.gz_core.specs.declared.requests.RowStep.TheVariants.{FastVote, Promise, ClassicVote, Decide, Trim}
use Rattle.gz_pick.specs.Looks.{row_top, top_in, shows_value}
use Rattle.gz_pick.specs.Choices.{pick_of}
use Rattle.gz_pick.specs.declared.heard.Heard.{Heard}
use Rattle.gz_pick.specs.declared.heard.Pick.TheVariants.{Forced, Free}
use Rattle.gz_model.specs.Choosing.{Allows}
use Rattle.gz_core.specs.History.{Action, Caller, Trace}
use Rattle.gz_round.specs.Sites.{some_heard}
use Rattle.gz_round.specs.Shown.{heard_at, IsGrounded}
use Rattle.gz_round.specs.Rounds.{MayPromise, IsLeft, MayPropose}
use Rattle.gz_round.specs.Sending.{AreAllowed, MayMake}
use Rattle.gz_ledger.specs.Acceptors.{HasValue}
use Rattle.gz_ledger.specs.Histories.{RowSeen, Write, IsIn, IsVotedAt}
use Rattle.gz_ledger.specs.Guards.{IsGroundedByRows, IsClearByRows, May}
use Rattle.gz_ledger.specs.Transitions.{Store, writes_of}
use Rattle.gz_laws.specs.Heard.{heard_of, ActionsStand, SentStep, PastStep, Keeps}
use Rattle.gz_laws.proofs.Hearing.{shown_heard, next_heard, heard_found, le_means}
use Rattle.gz_laws.proofs.Sending.{clear_heard}
use Rattle.gz_laws.proofs.Promising.{classic_not_fast, sent_promises, unused_past, last_version, promised_sent, sent_casts, promises_heard, vote_heard}
use Rattle.gz_laws.proofs.Owning.{own_of, own_named}
use Rattle.gz_laws.proofs.RowRules.{slots_found}
use Rattle.gz_round.proofs.Prepares.{next_unpromised}

-- a column that shows a value has one
shows_slot : (column : Column) → shows_value column ≡ true → HasValue (slot_of (Some column))
shows_slot (Open promise None) h = cc
shows_slot (Open promise (Some vote)) h = tt
shows_slot (Decided value) h = tt

-- versions above a bound
top_above : (bound : ℕ) (cs : List (ℕ × Column)) → Rises bound cs → 1 ≤ top_in cs → bound < top_in cs
top_above bound [] rises h = absurd (omega arith)
top_above bound (c ∷ cs) rises h =
    let b = rises.0 in
    elim (shows_value c.1) as (λ t. 1 ≤ (if t then max c.0 (top_in cs) else top_in cs) → bound < (if t then max c.0 (top_in cs) else top_in cs)) [
      | true ↦ λ k. omega (arith, b)
      | false ↦ λ k. let r = top_above c.0 cs rises.1 k in omega (arith, b, r)
    ] h

-- the column of the greatest version with a value
top_column : (bound : ℕ) (cs : List (ℕ × Column)) → Rises bound cs → 1 ≤ top_in cs → (column : Column) × ((column_in cs (top_in cs) ≡ Some column) × (shows_value column ≡ true))
top_column bound [] rises h = absurd (omega arith)
top_column bound (c ∷ cs) rises h =
    elim (cases_lt (top_in cs) 1) [
      | inl none ↦
          elim (shows_value c.1) as (λ t. shows_value c.1 ≡ t → 1 ≤ (if t then max c.0 (top_in cs) else top_in cs) → (column : Column) × ((column_in (c ∷ cs) (if t then max c.0 (top_in cs) else top_in cs) ≡ Some column) × (shows_value column ≡ true))) [
            | true ↦ λ e k.
                let top : max c.0 (top_in cs) ≡ c.0 = omega (arith, none) in
                let same : (c.0 == max c.0 (top_in cs)) ≡ true = subst (λ q. (c.0 == q) ≡ true) (sym top) (grind (arith, nat_tests)) in
                (c.1, (ap (λ b. if b then Some c.1 else column_in cs (max c.0 (top_in cs))) same, e))
            | false ↦ λ e k. absurd (omega (arith, none, k))
          ] refl h
      | inr some ↦
          let r = top_column c.0 cs rises.1 some in
          let above = top_above c.0 cs rises.1 some in
          let other : (c.0 == top_in cs) ≡ false = grind (arith, nat_tests) in
          let there : column_in (c ∷ cs) (top_in cs) ≡ Some r.0 = ap (λ b. if b then Some c.1 else column_in cs (top_in cs)) other ∙ r.1.0 in
          elim (shows_value c.1) as (λ t. (column : Column) × ((column_in (c ∷ cs) (if t then max c.0 (top_in cs) else top_in cs) ≡ Some column) × (shows_value column ≡ true))) [
            | true ↦ let top : max c.0 (top_in cs) ≡ top_in cs = omega (arith, above) in (r.0, (ap (column_in (c ∷ cs)) top ∙ there, r.1.1))
            | false ↦ (r.0, (there, r.1.1))
          ]
    ]

-- a row that was heard with a vote or a decision at the version or above
pub record IsTopHeard (c : Config) (heard : List RowSeen) (v : ℕ) : Type 0 where
  pub entry : RowSeen
  pub within : entry.site < c.n
  pub found : IsIn entry heard
  pub version : ℕ
  pub above : v ≤ version
  pub value : HasValue (entry.row version)

pub top_heard : (c : Config) (st : Store) (ms : List Action) (v : ℕ) → 1 ≤ v → ActionsStand st ms → 1 ≤ heard_at c (λ r. nat_le v (row_top r)) ms → IsTopHeard c (heard_of ms) v
top_heard c st ms v above stands k =
    let f = count_found c.n (some_heard (λ r. nat_le v (row_top r)) ms) k in
    let g = heard_found st (λ r. nat_le v (row_top r)) ms f.0 stands f.2 in
    let le = le_means v (row_top g.0) g.1.1.0 in
    let t = top_column g.0.floor g.0.columns g.1.0.rises (omega (arith, le, above)) in
    let s : slots g.0 (row_top g.0) ≡ slot_of (Some t.0) = slots_found g.0 (row_top g.0) g.1.0 (λ none. none-some t.0 (sym none ∙ t.1.0)) ∙ ap slot_of t.1.0 in
    record { entry = record { site = f.0; row = slots g.0 }; within = f.1; found = g.1.1.1; version = row_top g.0; above = le; value = subst HasValue (sym s) (shows_slot t.0 t.1.1) }

-- a ground that was heard
grounded_heard : (c : Config) (st : Store) (ms : List Action) (v : ℕ) → 1 ≤ v → ActionsStand st ms → IsGrounded c ms v → IsGroundedByRows c (heard_of ms) v
grounded_heard c st ms v above stands (inl n) = inl (next_heard c st ms v stands n)
grounded_heard c st ms v above stands (inr k) = let t = top_heard c st ms v above stands k in inr (t.entry, t.version, t.found, t.above, t.value)

-- a promise of a ballot that was promised before is this call's, at this version
fresh_ballot : (c : Config) (w : Caller) (past : List Trace) (ms : List Action) (st : Store) (v : ℕ) (b : BallotAt) → Keeps c w past ms st → AreAllowed c w past ms → MayPromise c w past ms v b
    → (q : Write) (u : ℕ) → IsIn q (writes_of st.asked) → q.act ≡ Promises u b → (q.call ≡ w.name) × (u ≡ v)
fresh_ballot c w past ms st v b keeps allowed may q u found is =
    let drawn = keeps.drawn q u b found is in
    elim (keeps.others q found (sym drawn ∙ may.session)) [
      | inl same ↦
          let sent : SentStep ms (Promises u b) = subst (SentStep ms) is (keeps.own q found same) in
          (same, elim may.round [ inl next ↦ (let e : true ≡ false = sym (sent_promises ms u b sent) ∙ next_unpromised c past ms v b next in cc) | inr last ↦ last_version c w past ms u v b allowed last sent ])
      | inr before ↦ absurd (unused_past past u b may.unused (subst (PastStep past) is before))
    ]

-- what the promises leave to the call
left_allows : (c : Config) (w : Caller) (ms : List Action) (v : ℕ) (heard : List Heard) (x : Value) → IsLeft c w ms v heard x → Allows c.n c.qf heard (name_of x)
left_allows c w ms v heard x (inl k) =
    let n = k.2 in
    inr (k.0, k.1, n.1.0, record { site = n.0; is = n.2; vote = n.3 ∙ ap (λ y. Some (n.1.0, y)) n.4 })
left_allows c w ms v heard x (inr k) = inl k.0

proposed : (c : Config) (w : Caller) (past : List Trace) (ms : List Action) (st : Store) (v : ℕ) (x : Value) → Keeps c w past ms st → MayPropose c w ms v x
    → ((name_of x ≡ w.name) × IsClearByRows c (heard_of ms) (writes_of st.asked) w.name v) ⊎ IsVotedAt (heard_of ms) v (name_of x)
proposed c w past ms st v x keeps (inl k) = inl (own_named c w.name w.call x (own_of c w (Some x) keeps.value k.0), clear_heard c w past ms st v keeps k.2)
proposed c w past ms st v x keeps (inr k) = inr (vote_heard st ms v k.0 k.1 k.2 (name_of x) keeps.stands k.4 k.5)

-- the source of a value where the choice is free
left_source : (c : Config) (w : Caller) (past : List Trace) (ms : List Action) (st : Store) (v : ℕ) (heard : List Heard) (x : Value) → Keeps c w past ms st → IsLeft c w ms v heard x → pick_of c.n c.qf heard ≡ Free
    → ((name_of x ≡ w.name) × IsClearByRows c (heard_of ms) (writes_of st.asked) w.name v) ⊎ IsVotedAt (heard_of ms) v (name_of x)
left_source c w past ms st v heard x keeps (inl k) free = let bad : Forced k.0 ≡ Free = sym k.1 ∙ free in cc
left_source c w past ms st v heard x keeps (inr k) free = proposed c w past ms st v x keeps k.1

-- what a client may make, the machine may
pub may_send : (c : Config) (w : Caller) (past : List Trace) (ms : List Action) (st : Store) (step : RowStep) → Keeps c w past ms st → AreAllowed c w past ms → MayMake c w past ms step → May c (heard_of ms) (writes_of st.asked) w.name (act_of step)
may_send c w past ms st (FastVote v x) keeps allowed k = record { own = own_named c w.name w.call x (own_of c w (Some x) keeps.value k.0); next = next_heard c st ms v keeps.stands k.1.next; clear = clear_heard c w past ms st v keeps k.1.clear }
may_send c w past ms st (Promise v b) keeps allowed k = record {
  positive = k.above;
  classic = classic_not_fast b k.classic;
  fresh = fresh_ballot c w past ms st v b keeps allowed k;
  grounded = grounded_heard c st ms v k.above keeps.stands k.grounded;
}
may_send c w past ms st (ClassicVote v b x) keeps allowed k =
    let p = keeps.asked (Promises v b) (promised_sent ms v b k.promised) in
    record {
      promised = record { write = p.0; found = p.1.0; same = p.1.1.0; promises = p.1.1.1 };
      heard = k.heard;
      quorum = record { sites = k.sites; enough = k.enough; promises = promises_heard st ms v b k.heard keeps.stands k.rows };
      allowed = left_allows c w ms v k.heard x k.choice;
      source = left_source c w past ms st v k.heard x keeps k.choice;
      one = λ q y found same is. k.one y (sent_casts ms v b y (subst (SentStep ms) is (keeps.own q found same)));
    }
may_send c w past ms st (Decide v x) keeps allowed k = shown_heard c st ms v (name_of x) keeps.stands k.0
may_send c w past ms st (Trim to x) keeps allowed k = shown_heard c st ms (to + 1) (name_of x) keeps.stands k.next
