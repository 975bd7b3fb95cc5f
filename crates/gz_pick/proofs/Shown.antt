-- What the rows show to be chosen, and the row that shows it.
use Rattle.std.proofs.Common.{◌≡◌, ℕ, zero, suc, ◌<◌, ◌≤◌, Bool, true, false, List, [], ◌∷◌, Option, Some, None, length, refl, sym, ◌∙◌, ap, subst, inl, inr, arith, ◌≢◌, ◌&&◌, is_some, ◌⊎◌}
use Rattle.std.proofs.lemmas.Bool.{cases_Bool, false≢true}
use Rattle.std.proofs.lemmas.Bool.Decides.{nat_tests}
use Rattle.std.specs.List.{position}
use Rattle.gz_core.proofs.Ballots.{same_refl, same_means, name_refl, name_means}
use Rattle.gz_core.proofs.Counting.{count_found}
use Rattle.gz_core.specs.Counts.{count_sites}
use Rattle.gz_core.specs.Configurations.{need, AreQuorums}
use Rattle.gz_core.specs.Names.{Name, BallotAt, fast, is_below, same_ballot, same_name}
use Rattle.gz_core.specs.Rows.{RowAt, column_in}
use Rattle.gz_core.specs.Slots.{slot_of}
use Rattle.gz_core.proofs.SlotNames.{decision_named, vote_named}
use Rattle.gz_pick.specs.Looks.{row_decision, row_name}
use Rattle.gz_pick.specs.Evidences.{vote_of, decision_of, is_for, is_named, votes_for, decides, votes_in, is_chosen, has_decided, is_in, shows_in, higher, top_ballot, votes_at, first_in, or_else, evidence_of, row_at, IsEvident, IsEvidence}
use Rattle.gz_pick.proofs.Counts.{count_rows, count_one, first_there, first_passes}

-- the highest ballot of votes that pass a test that only votes pass
abbrev Tests : Type 0
Tests = Option (BallotAt × Name) → Bool

-- a row whose vote is of this ballot and passes
abbrev Reaches : Tests → ℕ → List (Option RowAt) → BallotAt → Type 0
Reaches passes v rows b = (s : ℕ) × (s < length rows) × (passes (vote_of (row_at rows s) v) ≡ true) × (is_in b (vote_of (row_at rows s) v) ≡ true)

reaches_more : (passes : Tests) (v : ℕ) (row : Option RowAt) (rows : List (Option RowAt)) (b : BallotAt) → Reaches passes v rows b → Reaches passes v (row ∷ rows) b
reaches_more passes v row rows b reach = let within = reach.1 in (suc reach.0, omega arith, reach.2, reach.3)

reaches_first : (passes : Tests) (v : ℕ) (row : Option RowAt) (rows : List (Option RowAt)) (b : BallotAt) (vote : BallotAt × Name) → vote_of row v ≡ Some vote → passes (vote_of row v) ≡ true → vote.0 ≡ b → Reaches passes v (row ∷ rows) b
reaches_first passes v row rows b vote has passed of = (zero, omega arith, passed, ap (is_in b) has ∙ ap (λ a. same_ballot a b) of ∙ same_refl b)

-- the ballot that is higher is the one or the other
higher_reach : (passes : Tests) (v : ℕ) (row : Option RowAt) (rows : List (Option RowAt)) (b : BallotAt) (top : Option BallotAt) (vote : Option (BallotAt × Name)) → vote_of row v ≡ vote → passes (vote_of row v) ≡ true →
    ((t : BallotAt) → top ≡ Some t → Reaches passes v rows t) → higher top vote ≡ Some b → Reaches passes v (row ∷ rows) b
higher_reach passes v row rows b top None has passed reach is = reaches_more passes v row rows b (reach b is)
higher_reach passes v row rows b None (Some vote) has passed reach is = reaches_first passes v row rows b vote has passed cc
higher_reach passes v row rows b (Some top) (Some vote) has passed reach is =
    elim (cases_Bool (is_below top vote.0)) [
      | inl e ↦ let one : Some vote.0 ≡ Some b = rw e at is in reaches_first passes v row rows b vote has passed cc
      | inr e ↦ let one : Some top ≡ Some b = rw e at is in reaches_more passes v row rows b (reach b one)
    ]

top_reached : (passes : Tests) (v : ℕ) (rows : List (Option RowAt)) (b : BallotAt) → top_ballot passes (votes_at v rows) ≡ Some b → Reaches passes v rows b
top_reached passes v [] b is = absurd cc
top_reached passes v (row ∷ rows) b is =
    elim (cases_Bool (passes (vote_of row v))) [
      | inl e ↦ higher_reach passes v row rows b (top_ballot passes (votes_at v rows)) (vote_of row v) refl e (λ t top. top_reached passes v rows t top) (rw e at is)
      | inr e ↦ reaches_more passes v row rows b (top_reached passes v rows b (rw e at is))
    ]

higher_there : (top : Option BallotAt) (vote : Option (BallotAt × Name)) → top ≢ None → higher top vote ≢ None
higher_there top None there = there
higher_there top (Some vote) there = λ none. cc

vote_there : (passes : Tests) (top : Option BallotAt) (vote : Option (BallotAt × Name)) → passes None ≡ false → passes vote ≡ true → higher top vote ≢ None
vote_there passes top None silent passed = absurd (false≢true (sym silent ∙ passed))
vote_there passes top (Some vote) silent passed = λ none. cc

top_there : (passes : Tests) (v : ℕ) (rows : List (Option RowAt)) (s : ℕ) → passes None ≡ false → s < length rows → passes (vote_of (row_at rows s) v) ≡ true → top_ballot passes (votes_at v rows) ≢ None
top_there passes v [] s silent below passed = absurd (omega arith)
top_there passes v (row ∷ rows) zero silent below passed = rw passed (vote_there passes (top_ballot passes (votes_at v rows)) (vote_of row v) silent passed)
top_there passes v (row ∷ rows) (suc s) silent below passed =
    let rest = top_there passes v rows s silent (omega arith) passed in
    elim (cases_Bool (passes (vote_of row v))) [ inl e ↦ rw e (higher_there (top_ballot passes (votes_at v rows)) (vote_of row v) rest) | inr e ↦ rw e rest ]

some_there : {A : Type 0} (o : Option A) → is_some o ≡ true → (x : A) × (o ≡ Some x)
some_there None some = absurd (false≢true some)
some_there (Some x) some = (x, refl)

-- what the row of an evident site shows
abbrev Names : ℕ → ℕ → ℕ → List (Option RowAt) → ℕ → Option RowAt → Type 0
Names n qc qf rows v row = (r : RowAt) × (x : Name) × (row ≡ Some r) × (row_name r v ≡ Some x) × IsEvident n qc qf (row_at rows) v x

decided_names : (n qc qf : ℕ) (rows : List (Option RowAt)) (v : ℕ) (row : Option RowAt) → has_decided v row ≡ true → ((x : Name) → decides x v row ≡ true → 1 ≤ count_sites n (λ s. decides x v (row_at rows s))) → Names n qc qf rows v row
decided_names n qc qf rows v None has counted = absurd (false≢true has)
decided_names n qc qf rows v (Some r) has counted =
    let decision = some_there (row_decision r v) has in
    (r, decision.0, refl, decision_named (slot_of (column_in r.columns v)) decision.0 decision.1, inr (counted decision.0 (ap (is_named decision.0) decision.1 ∙ name_refl decision.0)))

-- a vote that is chosen has as many sites as its ballot needs
chosen_counted : (n qc qf : ℕ) (rows : List (Option RowAt)) (v : ℕ) (vote : BallotAt × Name) → length rows ≡ n → is_chosen qc qf rows v (Some vote) ≡ true → need qc qf vote.0 ≤ count_sites n (λ s. votes_for vote.0 vote.1 v (row_at rows s))
chosen_counted n qc qf rows v vote len chosen =
    let enough : need qc qf vote.0 ≤ votes_in vote.0 vote.1 v rows = grind (arith, nat_tests) in
    subst (λ (m : ℕ). need qc qf vote.0 ≤ count_sites m (λ s. votes_for vote.0 vote.1 v (row_at rows s))) len
    (subst (λ (m : ℕ). need qc qf vote.0 ≤ m) (count_rows (votes_for vote.0 vote.1 v) rows) enough)

voted_names : (n qc qf : ℕ) (rows : List (Option RowAt)) (v : ℕ) (row : Option RowAt) (vote : Option (BallotAt × Name)) → length rows ≡ n → vote_of row v ≡ vote → is_chosen qc qf rows v vote ≡ true → Names n qc qf rows v row
voted_names n qc qf rows v row None len has chosen = absurd (false≢true chosen)
voted_names n qc qf rows v None (Some vote) len has chosen = absurd cc
voted_names n qc qf rows v (Some r) (Some vote) len has chosen =
    (r, vote.1, refl, vote_named (slot_of (column_in r.columns v)) vote has, inl (vote.0, chosen_counted n qc qf rows v vote len chosen))

and_right : (a b : Bool) → (a && b) ≡ true → b ≡ true
and_right true b both = both
and_right false b both = absurd (false≢true both)

-- a vote for x is that vote
vote_is : (b : BallotAt) (x : Name) (vote : Option (BallotAt × Name)) → is_for b x vote ≡ true → vote ≡ Some (b, x)
vote_is b x None has = absurd (false≢true has)
vote_is b x (Some vote) has =
    elim (cases_Bool (same_ballot vote.0 b)) [
      | inl e ↦ let name : same_name vote.1 x ≡ true = rw e at has in (λ i. Some (same_means vote.0 b e i, name_means vote.1 x name i))
      | inr e ↦ absurd (false≢true (rw e at has))
    ]

-- a name that is decided is a decision
named_there : (x : Name) (decision : Option Name) → is_named x decision ≡ true → is_some decision ≡ true
named_there x None named = named
named_there x (Some y) named = refl

need_some : (qc qf : ℕ) (b : BallotAt) → 1 ≤ qc → 1 ≤ qf → 1 ≤ need qc qf b
need_some qc qf b classic quick = elim (cases_Bool (same_ballot b fast)) [ inl e ↦ rw e quick | inr e ↦ rw e classic ]

and_both : (a b : Bool) → a ≡ true → b ≡ true → (a && b) ≡ true
and_both a b left right = rw (left, right) refl

top_shown : (qc qf : ℕ) (rows : List (Option RowAt)) (v : ℕ) (top : Option BallotAt) → top ≢ None → ((b : BallotAt) → top ≡ Some b → Reaches (is_chosen qc qf rows v) v rows b) → first_in qc qf rows v top ≢ None
top_shown qc qf rows v None there reach = absurd (there refl)
top_shown qc qf rows v (Some b) there reach =
    let site = reach b refl in
    first_there (shows_in qc qf rows v b) rows site.0 site.1 (and_both _ _ site.3 site.2)

-- where a vote is chosen, some site shows one of the highest ballot
chosen_shown : (qc qf : ℕ) (rows : List (Option RowAt)) (v s : ℕ) → s < length rows → is_chosen qc qf rows v (vote_of (row_at rows s) v) ≡ true → first_in qc qf rows v (top_ballot (is_chosen qc qf rows v) (votes_at v rows)) ≢ None
chosen_shown qc qf rows v s below chosen =
    top_shown qc qf rows v (top_ballot (is_chosen qc qf rows v) (votes_at v rows)) (top_there (is_chosen qc qf rows v) v rows s refl below chosen) (top_reached (is_chosen qc qf rows v) v rows)

-- a value that is evident is shown by some site
evident_shown : (n qc qf : ℕ) (rows : List (Option RowAt)) (v : ℕ) (x : Name) → length rows ≡ n → 1 ≤ qc → 1 ≤ qf → IsEvident n qc qf (row_at rows) v x →
    (position (has_decided v) rows ≢ None) ⊎ (first_in qc qf rows v (top_ballot (is_chosen qc qf rows v) (votes_at v rows)) ≢ None)
evident_shown n qc qf rows v x len classic quick (inl votes) =
    let some = need_some qc qf votes.0 classic quick in
    let enough = votes.1 in
    let site = count_found n (λ s. votes_for votes.0 x v (row_at rows s)) (omega arith) in
    let below = site.1 in
    let vote = vote_is votes.0 x (vote_of (row_at rows site.0) v) site.2 in
    let counted : need qc qf votes.0 ≤ votes_in votes.0 x v rows =
    subst (λ (m : ℕ). need qc qf votes.0 ≤ m) (sym (count_rows (votes_for votes.0 x v) rows))
    (subst (λ (m : ℕ). need qc qf votes.0 ≤ count_sites m (λ s. votes_for votes.0 x v (row_at rows s))) (sym len) enough) in
    let chosen : is_chosen qc qf rows v (Some (votes.0, x)) ≡ true = grind (arith, nat_tests) in
    inr (chosen_shown qc qf rows v site.0 (omega arith) (ap (is_chosen qc qf rows v) vote ∙ chosen))
evident_shown n qc qf rows v x len classic quick (inr decision) =
    let site = count_found n (λ s. decides x v (row_at rows s)) decision in
    let below = site.1 in
    inl (first_there (has_decided v) rows site.0 (omega arith) (named_there x (decision_of (row_at rows site.0) v) site.2))

-- the first of three places, each of which shows a value
first_shows : (n qc qf : ℕ) (rows : List (Option RowAt)) (v : ℕ) (decided quick highest : Option ℕ) →
    ((s : ℕ) → decided ≡ Some s → Names n qc qf rows v (row_at rows s)) → ((s : ℕ) → quick ≡ Some s → Names n qc qf rows v (row_at rows s)) → ((s : ℕ) → highest ≡ Some s → Names n qc qf rows v (row_at rows s)) →
    ((x : Name) → IsEvident n qc qf (row_at rows) v x → (decided ≢ None) ⊎ (highest ≢ None)) → IsEvidence n qc qf rows v (or_else decided (or_else quick highest))
first_shows n qc qf rows v (Some s) quick highest first second third none = first s refl
first_shows n qc qf rows v None (Some s) highest first second third none = second s refl
first_shows n qc qf rows v None None (Some s) first second third none = third s refl
first_shows n qc qf rows v None None None first second third none = λ x evident. elim (none x evident) [ inl there ↦ there refl | inr there ↦ there refl ]

in_shows : (n qc qf : ℕ) (rows : List (Option RowAt)) (v : ℕ) (top : Option BallotAt) → length rows ≡ n → (s : ℕ) → first_in qc qf rows v top ≡ Some s → Names n qc qf rows v (row_at rows s)
in_shows n qc qf rows v None len s first = absurd cc
in_shows n qc qf rows v (Some b) len s first =
    let site = first_passes (shows_in qc qf rows v b) rows s first in
    voted_names n qc qf rows v (row_at rows s) (vote_of (row_at rows s) v) len refl (and_right _ _ site.1)

decided_shows : (n qc qf : ℕ) (rows : List (Option RowAt)) (v : ℕ) → length rows ≡ n → (s : ℕ) → position (has_decided v) rows ≡ Some s → Names n qc qf rows v (row_at rows s)
decided_shows n qc qf rows v len s first =
    let site = first_passes (has_decided v) rows s first in
    let below = site.0 in
    decided_names n qc qf rows v (row_at rows s) site.1 (λ x named. count_one n (λ t. decides x v (row_at rows t)) s (omega arith) named)

-- the site that is answered shows a value that is known to be chosen, and where none is answered no value is
pub evidence_shows : (n qc qf : ℕ) (rows : List (Option RowAt)) (v : ℕ) → length rows ≡ n → 1 ≤ qc → 1 ≤ qf → IsEvidence n qc qf rows v (evidence_of qc qf rows v)
evidence_shows n qc qf rows v len classic quick =
    first_shows n qc qf rows v (position (has_decided v) rows) (first_in qc qf rows v (Some fast)) (first_in qc qf rows v (top_ballot (is_chosen qc qf rows v) (votes_at v rows)))
    (decided_shows n qc qf rows v len) (in_shows n qc qf rows v (Some fast) len) (in_shows n qc qf rows v (top_ballot (is_chosen qc qf rows v) (votes_at v rows)) len)
    (λ x evident. evident_shown n qc qf rows v x len classic quick evident)

-- the same of an answer that is known by an equation
pub answer_shows : (n qc qf : ℕ) (rows : List (Option RowAt)) (v : ℕ) (answer : Option ℕ) → length rows ≡ n → AreQuorums n qc qf → answer ≡ evidence_of qc qf rows v → IsEvidence n qc qf rows v answer
answer_shows n qc qf rows v answer len sizes same =
    let majority = sizes.majority in
    let larger = sizes.classic in
    subst (λ (told : Option ℕ). IsEvidence n qc qf rows v told) (sym same) (evidence_shows n qc qf rows v len (omega arith) (omega arith))
