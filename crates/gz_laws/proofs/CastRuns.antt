-- The audit list has the votes that replies showed.
use Rattle.std.proofs.Common.{◌≡◌, ℕ, ◌≤◌, inl, inr, List, [], ◌∷◌, ◌++◌, Some, None, Bool, true, false, cond, refl, ap, sym, ◌∙◌, subst, arith}
use Rattle.std.proofs.lemmas.Bool.{eqb-true, or_cases, or_left, or_right}
use Rattle.std.proofs.lemmas.Bool.Decides.{nat_tests}
use Rattle.std.proofs.lemmas.Map.Text.{is_eq-slice_cmp}
use Rattle.std.proofs.lemmas.Slice.Eq.{bytes_eq-Decides}
use Rattle.std.specs.Prelude.{◌==◌, ◌&&◌, ◌||◌, nat_lt, if◌then◌else◌}
use Rattle.std.specs.Ordering.{nat_cmp, ordering_then, is_eq}
use Rattle.std.specs.Str.{bytes_eq}
use Rattle.std.specs.declared.cmp.Ordering.{Ordering}
use Rattle.std.specs.declared.cmp.Ordering.TheVariants.{Less, Equal, Greater}
use Rattle.gz_core.specs.Names.{Name, BallotAt, same_ballot, same_name}
use Rattle.gz_core.specs.Values.{name_of}
use Rattle.gz_core.specs.Rows.{RowAt, Rises, column_in, IsRow}
use Rattle.gz_core.specs.Slots.{slots, slot_of}
use Rattle.gz_core.specs.declared.rows.Column.{Column}
use Rattle.gz_core.specs.declared.rows.Column.TheVariants.{Open, Decided}
use Rattle.gz_site.specs.Told.{same_key}
use Rattle.gz_model.specs.Casts.{is_vote, has_cast}
use Rattle.gz_model.specs.declared.casts.Cast.{Cast}
use Rattle.gz_ledger.specs.Acceptors.{slot_votes}
use Rattle.gz_world.specs.Audit.{same_cast, is_listed, with_cast, with_casts, cast_at, casts_of}
use Rattle.gz_core.proofs.Columns.{none_below}
use Rattle.gz_laws.proofs.RowRules.{slots_cast}
use Rattle.gz_laws.proofs.Keys.{same_key-eq}

or_false : (b : Bool) → (b || false) ≡ b
or_false true = refl
or_false false = refl

pub and_false : (b : Bool) → (b && false) ≡ false
and_false true = refl
and_false false = refl

or_assoc : (a b c : Bool) → ((a || b) || c) ≡ (a || (b || c))
or_assoc true b c = refl
or_assoc false b c = refl

pub or_comm : (a b : Bool) → (a || b) ≡ (b || a)
or_comm true true = refl
or_comm true false = refl
or_comm false true = refl
or_comm false false = refl

-- votes that compare as the same are one vote
then_equal : (o p : Ordering) → is_eq (ordering_then o p) ≡ true → (is_eq o ≡ true) × (is_eq p ≡ true)
then_equal Less p e = cc
then_equal Equal p e = (refl, e)
then_equal Greater p e = cc

number_equal : (m n : ℕ) → is_eq (nat_cmp m n) ≡ true → m ≡ n
number_equal m n h =
    elim (nat_lt m n) as (λ t. is_eq (cond t Less (cond (m == n) Equal Greater)) ≡ true → m ≡ n) [
      | true ↦ λ e. cc
      | false ↦ λ e. elim (m == n) as (λ t. (m == n) ≡ t → is_eq (cond t Equal Greater) ≡ true → m ≡ n) [ true ↦ λ k _. eqb-true m n k | false ↦ λ k q. cc ] refl e
    ] h

same_means : (c d : Cast) → same_cast c d ≡ true → c ≡ d
same_means c d h =
    let p = then_equal (ordering_then (nat_cmp c.name.session d.name.session) (nat_cmp c.name.seq d.name.seq)) _ h in
    let q = then_equal (nat_cmp c.site d.site) _ p.1 in
    let r = then_equal (nat_cmp c.version d.version) _ q.1 in
    let b = then_equal _ _ r.1 in
    let name = then_equal (nat_cmp c.name.session d.name.session) (nat_cmp c.name.seq d.name.seq) p.0 in
    let ballot = then_equal (nat_cmp c.ballot.round d.ballot.round) (nat_cmp c.ballot.session d.ballot.session) b.0 in
    let site = number_equal c.site d.site q.0 in
    let key = same_key-eq c.key d.key b.1 in
    let version = number_equal c.version d.version r.0 in
    let round = number_equal c.ballot.round d.ballot.round ballot.0 in
    let drawn = number_equal c.ballot.session d.ballot.session ballot.1 in
    let session = number_equal c.name.session d.name.session name.0 in
    let seq = number_equal c.name.seq d.name.seq name.1 in
    λ i. record { site = site i; key = key i; version = version i; ballot = record { round = round i; session = drawn i }; name = record { session = session i; seq = seq i } }

-- whether one vote is the site's of this ballot for this value
abbrev pub is_this : Cast → List ℕ → ℕ → BallotAt → Name → ℕ → Bool
is_this c key v b x i = (c.site == i) && is_vote c key v b x

has_append : (xs ys : List Cast) (key : List ℕ) (v : ℕ) (b : BallotAt) (x : Name) (i : ℕ) → has_cast (xs ++ ys) key v b x i ≡ (has_cast xs key v b x i || has_cast ys key v b x i)
has_append [] ys key v b x i = refl
has_append (c ∷ xs) ys key v b x i = ap (λ t. is_this c key v b x i || t) (has_append xs ys key v b x i) ∙ sym (or_assoc (is_this c key v b x i) (has_cast xs key v b x i) (has_cast ys key v b x i))

listed_has : (xs : List Cast) (c : Cast) (key : List ℕ) (v : ℕ) (b : BallotAt) (x : Name) (i : ℕ) → is_listed xs c ≡ true → is_this c key v b x i ≡ true → has_cast xs key v b x i ≡ true
listed_has [] c key v b x i h e = cc
listed_has (d ∷ xs) c key v b x i h e = elim (or_cases (same_cast c d) (is_listed xs c) h) [
  | inl k ↦ or_left (is_this d key v b x i) (has_cast xs key v b x i) (subst (λ (q : Cast). is_this q key v b x i ≡ true) (same_means c d k) e)
  | inr k ↦ or_right (is_this d key v b x i) (has_cast xs key v b x i) (listed_has xs c key v b x i k e)
]

with_has : (xs : List Cast) (c : Cast) (key : List ℕ) (v : ℕ) (b : BallotAt) (x : Name) (i : ℕ) → has_cast (with_cast xs c) key v b x i ≡ (has_cast xs key v b x i || is_this c key v b x i)
with_has xs c key v b x i =
    elim (is_listed xs c) as (λ t. is_listed xs c ≡ t → has_cast (if t then xs else xs ++ c ∷ []) key v b x i ≡ (has_cast xs key v b x i || is_this c key v b x i)) [
      | true ↦ λ e. elim (is_this c key v b x i) as (λ t. is_this c key v b x i ≡ t → has_cast xs key v b x i ≡ (has_cast xs key v b x i || t)) [
        | true ↦ λ k. (let h = listed_has xs c key v b x i e k in h ∙ sym (ap (λ t. t || true) h))
        | false ↦ λ k. sym (or_false (has_cast xs key v b x i))
      ] refl
      | false ↦ λ e. has_append xs (c ∷ []) key v b x i ∙ ap (λ t. has_cast xs key v b x i || t) (or_false (is_this c key v b x i))
    ] refl

pub fold_has : (fresh xs : List Cast) (key : List ℕ) (v : ℕ) (b : BallotAt) (x : Name) (i : ℕ) → has_cast (with_casts xs fresh) key v b x i ≡ (has_cast xs key v b x i || has_cast fresh key v b x i)
fold_has [] xs key v b x i = sym (or_false (has_cast xs key v b x i))
fold_has (c ∷ cs) xs key v b x i =
    fold_has cs (with_cast xs c) key v b x i ∙ ap (λ t. t || has_cast cs key v b x i) (with_has xs c key v b x i) ∙ or_assoc (has_cast xs key v b x i) (is_this c key v b x i) (has_cast cs key v b x i)

-- the votes of a row's columns
abbrev votes_in : ℕ → List ℕ → List (ℕ × Column) → List Cast
votes_in site key cs = casts_of site key (record { floor = 0; columns = cs })

abbrev IsShownBy : ℕ → List ℕ → List ℕ → ℕ → List (ℕ × Column) → Type 0
IsShownBy site k key bound cs = Rises bound cs → (v : ℕ) (b : BallotAt) (x : Name) (i : ℕ) → has_cast (votes_in site k cs) key v b x i ≡ ((site == i) && slot_votes (slot_of (column_in cs v)) b x)

no_vote : (site i v : ℕ) (b : BallotAt) (x : Name) (cs : List (ℕ × Column)) → column_in cs v ≡ None → ((site == i) && slot_votes (slot_of (column_in cs v)) b x) ≡ false
no_vote site i v b x cs none = ap (λ o. (site == i) && slot_votes (slot_of o) b x) none ∙ and_false (site == i)

-- a column without a vote
plain_column : (site : ℕ) (k key : List ℕ) (u : ℕ) (column : Column) (cs : List (ℕ × Column)) → ((b : BallotAt) (x : Name) → slot_votes (slot_of (Some column)) b x ≡ false) → Rises u cs → (v : ℕ) (b : BallotAt) (x : Name) (i : ℕ) → has_cast (votes_in site k cs) key v b x i ≡ ((site == i) && slot_votes (slot_of (column_in cs v)) b x)
    → has_cast (votes_in site k cs) key v b x i ≡ ((site == i) && slot_votes (slot_of (if u == v then Some column else column_in cs v)) b x)
plain_column site k key u column cs plain rises v b x i more =
    elim (u == v) as (λ t. (u == v) ≡ t → has_cast (votes_in site k cs) key v b x i ≡ ((site == i) && slot_votes (slot_of (if t then Some column else column_in cs v)) b x)) [
      | true ↦ λ e. (let le : v ≤ u = grind (arith, nat_tests) in
          more ∙ no_vote site i v b x cs (none_below v u cs le rises) ∙ sym (ap (λ t. (site == i) && t) (plain b x) ∙ and_false (site == i)))
      | false ↦ λ e. more
    ] refl

same_bytes : (k key : List ℕ) → k ≡ key → bytes_eq k key ≡ true
same_bytes k key e = (bytes_eq-Decides k key).1 e

columns_shown : (site : ℕ) (k key : List ℕ) (bound : ℕ) (cs : List (ℕ × Column)) → k ≡ key → IsShownBy site k key bound cs
columns_shown site k key bound [] same rises v b x i = sym (and_false (site == i))
columns_shown site k key bound ((u, Open promise None) ∷ cs) same rises v b x i = plain_column site k key u (Open promise None) cs (λ b x. refl) rises.1 v b x i (columns_shown site k key u cs same rises.1 v b x i)
columns_shown site k key bound ((u, Open promise (Some vote)) ∷ cs) same rises v b x i =
    let more = columns_shown site k key u cs same rises.1 v b x i in
    let sb = same_ballot vote.ballot b in
    let sn = same_name (name_of vote.value) x in
    elim (u == v) as (λ t. (u == v) ≡ t → (((site == i) && (t && bytes_eq k key && sb && sn)) || has_cast (votes_in site k cs) key v b x i) ≡ ((site == i) && slot_votes (slot_of (if t then Some (Open promise (Some vote)) else column_in cs v)) b x)) [
      | true ↦ λ e. (let le : v ≤ u = grind (arith, nat_tests) in
          let rest = more ∙ no_vote site i v b x cs (none_below v u cs le rises.1) in
          ap (λ t. ((site == i) && (true && bytes_eq k key && sb && sn)) || t) rest ∙ or_false ((site == i) && (true && bytes_eq k key && sb && sn)) ∙ ap (λ t. (site == i) && (true && t && sb && sn)) (same_bytes k key same))
      | false ↦ λ e. ap (λ t. t || has_cast (votes_in site k cs) key v b x i) (and_false (site == i)) ∙ more
    ] refl
columns_shown site k key bound ((u, Decided value) ∷ cs) same rises v b x i = plain_column site k key u (Decided value) cs (λ b x. refl) rises.1 v b x i (columns_shown site k key u cs same rises.1 v b x i)

-- the votes of a row are those of its slots
pub row_casts : (site : ℕ) (k key : List ℕ) (row : RowAt) (v : ℕ) (b : BallotAt) (x : Name) (i : ℕ) → k ≡ key → IsRow row → has_cast (casts_of site k row) key v b x i ≡ ((site == i) && slot_votes (slots row v) b x)
row_casts site k key row v b x i same rule = columns_shown site k key row.floor row.columns same rule.rises v b x i ∙ ap (λ t. (site == i) && t) (sym (slots_cast row v b x rule))

-- the votes of another object's row are none of this one's
other_vote : (c : Cast) (key : List ℕ) (v : ℕ) (b : BallotAt) (x : Name) (i : ℕ) → bytes_eq c.key key ≡ false → is_this c key v b x i ≡ false
other_vote c key v b x i e =
    ap (λ t. (c.site == i) && ((c.version == v) && t && same_ballot c.ballot b && same_name c.name x)) e
    ∙ ap (λ t. (c.site == i) && (t && same_ballot c.ballot b && same_name c.name x)) (and_false (c.version == v)) ∙ and_false (c.site == i)

other_columns : (site : ℕ) (k key : List ℕ) (cs : List (ℕ × Column)) (v : ℕ) (b : BallotAt) (x : Name) (i : ℕ) → bytes_eq k key ≡ false → has_cast (votes_in site k cs) key v b x i ≡ false
other_columns site k key [] v b x i apart = refl
other_columns site k key ((u, Open promise None) ∷ cs) v b x i apart = other_columns site k key cs v b x i apart
other_columns site k key ((u, Open promise (Some vote)) ∷ cs) v b x i apart =
    ap (λ t. t || has_cast (votes_in site k cs) key v b x i) (other_vote (cast_at site k u vote) key v b x i apart) ∙ other_columns site k key cs v b x i apart
other_columns site k key ((u, Decided value) ∷ cs) v b x i apart = other_columns site k key cs v b x i apart

pub other_casts : (site : ℕ) (k key : List ℕ) (row : RowAt) (v : ℕ) (b : BallotAt) (x : Name) (i : ℕ) → same_key k key ≡ false → has_cast (casts_of site k row) key v b x i ≡ false
other_casts site k key row v b x i apart = other_columns site k key row.columns v b x i (sym (is_eq-slice_cmp k key) ∙ apart)
