-- Rows that a call heard are current at a version as its test says, and a vote for its own value follows another or
-- is sent where they are.
use Rattle.std.proofs.Common.{◌≡◌, ℕ, zero, suc, ◌≤◌, ◌⊎◌, inl, inr, List, [], ◌∷◌, Some, None, Bool, true, false, cond, length, refl, ap, sym, ◌∙◌, subst, arith}
use Rattle.std.proofs.lemmas.Bool.Decides.{nat_tests}
use Rattle.std.proofs.lemmas.Bool.{or_right, eqb-true}
use Rattle.std.specs.Prelude.{Option, ◌==◌, ◌||◌, max, nat_le, if◌then◌else◌}
use Rattle.gz_core.specs.Names.{Name}
use Rattle.gz_core.specs.Values.{name_of}
use Rattle.gz_core.specs.Counts.{count_sites}
use Rattle.gz_core.specs.Rows.{RowAt, column_in}
use Rattle.gz_core.specs.Slots.{act_of, slots, slot_of}
use Rattle.gz_core.specs.declared.slots.Slot.TheVariants.{OpenAt}
use Rattle.gz_core.specs.declared.rows.Column.{Column}
use Rattle.gz_core.specs.declared.rows.Column.TheVariants.{Open, Decided}
use Rattle.gz_config.specs.declared.Config.{Config}
use Rattle.gz_core.specs.declared.values.Value.{Value}
use Rattle.gz_core.specs.declared.requests.RowStep.{RowStep}
use Rattle.gz_core.specs.declared.requests.RowStep.TheVariants.{FastVote, Promise, ClassicVote, Decide, Trim}
use Rattle.gz_accept.proofs.Seen.{slots_there}
use Rattle.gz_pick.specs.Looks.{row_top, top_in, shows_value}
use Rattle.gz_model.specs.Sites.{has_site, AreSites}
use Rattle.gz_core.specs.History.{Action, Caller, Trace}
use Rattle.gz_data.specs.Own.{IsOwn}
use Rattle.gz_round.specs.Sites.{some_heard}
use Rattle.gz_round.specs.Shown.{heard_at}
use Rattle.gz_round.specs.Sending.{MayMake}
use Rattle.gz_history.specs.Answers.{IsWrite}
use Rattle.gz_ledger.specs.Acceptors.{Acceptor, HasValue, IsQuiet}
use Rattle.gz_ledger.specs.Histories.{RowSeen, IsIn, IsVotedAt, IsCurrentByRows, IsProposed, VotesFor, sites_seen}
use Rattle.gz_ledger.specs.Agreements.{HasQuorums}
use Rattle.gz_ledger.specs.Transitions.{Store, Transition, after_transitions, AreTransitions, seen_after, sent_after}
use Rattle.gz_ledger.proofs.Shown.{cast_from, voted_more}
use Rattle.gz_ledger.proofs.Stores.{store_agreed}
use Rattle.gz_laws.specs.Heard.{unused, heard_of, ActionsStand}
use Rattle.gz_laws.proofs.Hearing.{heard_found, heard_known, le_means}
use Rattle.gz_laws.proofs.Promising.{promises_heard, vote_heard}
use Rattle.gz_laws.proofs.Owning.{own_of, own_writes}

-- a column that has a value shows it
value_shown : (o : Option Column) → HasValue (slot_of o) → (column : Column) × ((o ≡ Some column) × (shows_value column ≡ true))
value_shown None h = absurd h
value_shown (Some (Open promise None)) h = absurd h
value_shown (Some (Open promise (Some vote))) h = (Open promise (Some vote), (refl, refl))
value_shown (Some (Decided value)) h = (Decided value, (refl, refl))

-- a version with a value is not above the greatest one
top_most : (cs : List (ℕ × Column)) (u : ℕ) (column : Column) → column_in cs u ≡ Some column → shows_value column ≡ true → u ≤ top_in cs
top_most [] u column h shows = cc
top_most (c ∷ cs) u column h shows =
    elim (c.0 == u) as (λ t. (c.0 == u) ≡ t → (if t then Some c.1 else column_in cs u) ≡ Some column → u ≤ top_in (c ∷ cs)) [
      | true ↦ λ e k.
          let is : c.1 ≡ column = cc in
          let n = eqb-true c.0 u e in
          subst (λ t. u ≤ (if t then max c.0 (top_in cs) else top_in cs)) (sym (ap shows_value is ∙ shows)) (omega (arith, n))
      | false ↦ λ e k.
          let r = top_most cs u column k shows in
          elim (shows_value c.1) as (λ t. u ≤ (if t then max c.0 (top_in cs) else top_in cs)) [ true ↦ omega (arith, r) | false ↦ r ]
    ] refl h

quiet_row : (row : RowAt) (v : ℕ) → row_top row ≤ v → IsQuiet (slots row) v
quiet_row row v low = λ u above h.
    let k = value_shown (column_in row.columns u) (subst HasValue (slots_there row u (λ gone. subst HasValue gone h)) h) in
    let most = top_most row.columns u k.0 k.1.0 k.1.1 in
    omega (arith, most, low, above)

-- lists of sites below a bound
sites_more : (n : ℕ) (xs : List ℕ) → AreSites n xs → AreSites (suc n) xs
sites_more n [] h = tt
sites_more n (x ∷ xs) h = let l = h.0 in (omega (arith, l), h.1, sites_more n xs h.2)

no_site : (n : ℕ) (xs : List ℕ) → AreSites n xs → has_site xs n ≡ false
no_site n [] h = refl
no_site n (x ∷ xs) h =
    let l = h.0 in
    let t : (x == n) ≡ false = grind (arith, nat_tests) in
    ap (λ b. b || has_site xs n) t ∙ no_site n xs h.2

-- a row for each site that passes a test
pub record AreCollected (n : ℕ) (p : ℕ → Bool) (es : List RowSeen) (Q : Acceptor → Type 0) (rows : List RowSeen) : Type 0 where
  pub sites : AreSites n (sites_seen rows)
  pub enough : count_sites n p ≤ length rows
  pub found : (e : RowSeen) → IsIn e rows → IsIn e es
  pub good : (e : RowSeen) → IsIn e rows → Q e.row

one_more : (es : List RowSeen) (P : RowSeen → Type 0) (f : RowSeen) → P f → (rows : List RowSeen) → ((e : RowSeen) → IsIn e rows → P e) → (e : RowSeen) → IsIn e (f ∷ rows) → P e
one_more es P f one rows more e (inl same) = subst P (sym same) one
one_more es P f one rows more e (inr i) = more e i

pub collect : (n : ℕ) (p : ℕ → Bool) (es : List RowSeen) (Q : Acceptor → Type 0) → ((s : ℕ) → p s ≡ true → (row : Acceptor) × (Q row × (let e : RowSeen = record { site = s; row = row } in IsIn e es))) → (rows : List RowSeen) × AreCollected n p es Q rows
collect zero p es Q f = ([], record { sites = tt; enough = omega arith; found = λ e i. absurd i; good = λ e i. absurd i })
collect (suc n) p es Q f =
    let r = collect n p es Q f in
    let rest = r.1 in
    let enough = rest.enough in
    elim (p n) as (λ t. p n ≡ t → (rows : List RowSeen) × AreCollected (suc n) p es Q rows) [
      | true ↦ λ e.
          let k = f n e in
          let one : RowSeen = record { site = n; row = k.0 } in (
            one ∷ r.0,
            record {
              sites = (omega arith, no_site n (sites_seen r.0) rest.sites, sites_more n (sites_seen r.0) rest.sites);
              enough = subst (λ t. cond t (suc (count_sites n p)) (count_sites n p) ≤ length (one ∷ r.0)) (sym e) (omega (arith, enough));
              found = one_more es (λ e. IsIn e es) one k.1.1 r.0 rest.found;
              good = one_more es (λ e. Q e.row) one k.1.0 r.0 rest.good;
            },
          )
      | false ↦ λ e. (
        r.0,
        record {
          sites = sites_more n (sites_seen r.0) rest.sites;
          enough = subst (λ t. cond t (suc (count_sites n p)) (count_sites n p) ≤ length r.0) (sym e) enough;
          found = rest.found;
          good = rest.good;
        },
      )
    ] refl

-- rows of a quorum that were heard and have nothing above a version are current there
pub current_heard : (c : Config) (st : Store) (ms : List Action) (v : ℕ) (p : RowAt → Bool) → ActionsStand st ms → ((r : RowAt) → p r ≡ true → row_top r ≤ v) → c.qc ≤ heard_at c p ms → IsCurrentByRows c (heard_of ms) v
current_heard c st ms v p stands low enough =
    let k = collect c.n (some_heard p ms) (heard_of ms) (λ row. IsQuiet row v)
    (λ s h. let f = heard_found st p ms s stands h in (slots f.0, (quiet_row f.0 v (low f.0 f.1.1.0), f.1.1.1))) in
    let all = k.1 in
    let many = all.enough in
    record { rows = k.0; sites = all.sites; enough = omega (arith, enough, many); found = all.found; quiet = all.good }

-- a vote that was shown is of a call that sent it
pub voted_sent : (c : Config) (ds : List Transition) (v : ℕ) (x : Name) → HasQuorums c → AreTransitions c unused ds → IsVotedAt (seen_after unused ds) v x → IsProposed (sent_after unused ds) v x
voted_sent c ds v x q are h =
    (store_agreed c unused ds q are).proposed v h.ballot x h.entry.site (or_right _ _ (cast_from (seen_after unused ds) v h.ballot x h.entry h.found (h.promise, h.votes)))

-- a call that has a value of its own is a write
write_of : (c : Config) (w : Caller) (x : Value) → IsOwn c w.name w.call w.own → w.own ≡ Some x → IsWrite w.call
write_of c w x value e = own_writes c w.name w.call x (own_of c w (Some x) value e)

-- a vote that was heard is of a call that sent it
heard_sent : (c : Config) (ms : List Action) (ds : List Transition) (u v : ℕ) (x y : Name) → HasQuorums c → AreTransitions c unused ds → ActionsStand (after_transitions unused ds) ms → u ≡ v → x ≡ y → IsVotedAt (heard_of ms) u x → IsProposed (sent_after unused ds) v y
heard_sent c ms ds u v x y q are stands at named h =
    subst (λ k. IsProposed (sent_after unused ds) v k) named (subst (λ k. IsProposed (sent_after unused ds) k x) at
    (voted_sent c ds u x q are (voted_more (heard_of ms) (seen_after unused ds) u x (λ e i. heard_known (after_transitions unused ds) ms e stands i) h)))

own_heard : (c : Config) (st : Store) (ms : List Action) (u v : ℕ) → ActionsStand st ms → u ≡ v → c.qc ≤ heard_at c (λ r. nat_le (row_top r) u) ms → IsCurrentByRows c (heard_of ms) v
own_heard c st ms u v stands at h = subst (λ k. IsCurrentByRows c (heard_of ms) k) at (current_heard c st ms u (λ r. nat_le (row_top r) u) stands (λ r e. le_means (row_top r) u e) h)

-- of a vote for its own value that a call may send: it sent one before at the version, or it is a write whose heard rows are current there
pub own_current : (c : Config) (w : Caller) (past : List Trace) (ms : List Action) (ds : List Transition) (step : RowStep) (v : ℕ) → HasQuorums c → AreTransitions c unused ds → IsOwn c w.name w.call w.own → ActionsStand (after_transitions unused ds) ms → MayMake c w past ms step → VotesFor (act_of step) v w.name
    → IsProposed (sent_after unused ds) v w.name ⊎ (IsWrite w.call × IsCurrentByRows c (heard_of ms) v)
own_current c w past ms ds (FastVote u x) v q are value stands may votes = inr (write_of c w x value may.0, own_heard c (after_transitions unused ds) ms u v stands votes.0 may.1.current)
own_current c w past ms ds (Promise u b) v q are value stands may votes = absurd votes
own_current c w past ms ds (ClassicVote u b x) v q are value stands may votes = elim may.choice [
  | inl k ↦ (let n = k.2 in
      let p = promises_heard (after_transitions unused ds) ms u b may.heard stands may.rows k.0 n.0 n.2 in
      inl (heard_sent c ms ds u v (name_of x) w.name q are stands votes.0 votes.1
      (record { entry = p.entry; found = p.found; promise = b; ballot = n.1.0; votes = p.row ∙ ap (OpenAt b) (n.3 ∙ ap (λ y. Some (n.1.0, y)) n.4) })))
  | inr k ↦ elim k.1 [
    | inl o ↦ inr (write_of c w x value o.0, own_heard c (after_transitions unused ds) ms u v stands votes.0 o.1)
    | inr h ↦ inl (heard_sent c ms ds u v (name_of x) w.name q are stands votes.0 votes.1 (vote_heard (after_transitions unused ds) ms u h.0 h.1 h.2 (name_of x) stands h.4 h.5))
  ]
]
own_current c w past ms ds (Decide u x) v q are value stands may votes = absurd votes
own_current c w past ms ds (Trim to x) v q are value stands may votes = absurd votes
