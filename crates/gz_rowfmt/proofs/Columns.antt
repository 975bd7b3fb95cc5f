-- Columns: what is read is what was written, and what was written is read again.
use Rattle.std.proofs.Common.{◌≡◌, ◌≢◌, ℕ, zero, suc, ◌+◌, ◌-◌, ◌^◌, ◌<◌, ◌≤◌, Bool, true, false, cond, eqb, leb, ltb, List, [], ◌∷◌, ◌++◌, length, Some, None, Ok, Err, refl, sym, ap, subst, ◌∙◌, append_assoc, arith, inl, inr}
use Rattle.std.specs.Prelude.{◌||◌, ◌&&◌, ◌⊎◌, not}
use Rattle.std.specs.List.{flat_map}
use Rattle.std.specs.Int.{w32, w64, to_be_bytes}
use Rattle.std.proofs.lemmas.Bool.{cases_Bool, leb-false, lt-leb, ltb-false, le-ltb, eqb-true, eqb-false, eq-eqb}
use Rattle.std.proofs.lemmas.List.Concat.{flat_map-cons}
use Rattle.gz_core.specs.Names.{BallotAt, fast, is_below, same_ballot}
use Rattle.gz_core.specs.Rows.{IsColumn, IsDecided}
use Rattle.gz_core.specs.declared.rows.Vote.{Vote}
use Rattle.gz_core.specs.declared.rows.Column.{Column}
use Rattle.gz_core.specs.declared.rows.Column.TheVariants.{Open, Decided}
use Rattle.gz_bytes.specs.Fields.{byte_at, number_at}
use Rattle.gz_bytes.proofs.Steps.{bind_ok, bind_again, told_ok, told_again, ok_is, not_refused, neither, not_zero, tested}
use Rattle.gz_bytes.proofs.Bytes.{IsBytes, Takes, Takes-then, Takes-after, byte_takes}
use Rattle.gz_bytes.proofs.Widths.{wide32, wide64, number_takes, number_again}
use Rattle.gz_rowfmt.specs.declared.errors.RowError.{RowError}
use Rattle.gz_rowfmt.specs.declared.errors.RowError.TheVariants as errors
use Rattle.gz_rowfmt.specs.Records.{IsBallot, FitsBody}
use Rattle.gz_rowfmt.specs.Spelling.{ballot_bytes, value_bytes, vote_bytes, body_bytes, column_bytes}
use Rattle.gz_rowfmt.specs.Reading.{fault_of, value_at, version_at, kind_at, ballot_at, open_at, vote_ballot_at, voted_at, decided_at, body_at, column_at, columns_at}
use Rattle.gz_rowfmt.proofs.Values.{value_takes, value_again}

-- a test that is not both asked and failed
not_asked : (asked passed : Bool) → asked && not passed ≡ false → asked ≡ true → passed ≡ true
not_asked true true e h = refl
not_asked true false e h = absurd cc
not_asked false passed e h = absurd cc

asked_so : (asked passed : Bool) → (asked ≡ true → passed ≡ true) → asked && not passed ≡ false
asked_so true passed h = rw (h refl) refl
asked_so false passed h = refl

-- ---- versions

-- the version of a column that stands after `before`, right after it where it is the first above a floor that was raised
pub record IsNext (raised : Bool) (before v : ℕ) : Type 0 where
  pub above : before < v
  pub fits : v < 2 ^ 63
  pub next : raised ≡ true → v ≡ before + 1

version_takes : (raised : Bool) (before at : ℕ) (bytes : List ℕ) (x : ℕ × List ℕ) → IsBytes bytes → version_at raised before at bytes ≡ Ok x → Takes bytes (to_be_bytes w64 x.0) x.1 × IsNext raised before x.0
unfolding version_at
version_takes raised before at bytes x fits e =
    let version = told_ok fault_of (number_at w64 at bytes) _ x e in
    let v = version.0.0 in
    let took = number_takes w64 (2 ^ 64) wide64 at bytes version.0 fits version.1 in
    let in_order = not_refused (leb v before || leb (2 ^ 63) v) (errors.Order at) (cond (raised && not (eqb v (before + 1))) (Err (errors.Floor at)) (Ok version.0)) x version.2 in
    let bounds = neither (leb v before) (leb (2 ^ 63) v) in_order.0 in
    let right = not_refused (raised && not (eqb v (before + 1))) (errors.Floor at) (Ok version.0) x in_order.1 in
    subst (λ (y : ℕ × List ℕ). Takes bytes (to_be_bytes w64 y.0) y.1 × IsNext raised before y.0) (ok_is {E = RowError} version.0 x right.1)
    (took.0, record { above = leb-false _ _ bounds.0; fits = leb-false _ _ bounds.1; next = λ h. eqb-true _ _ (not_asked raised (eqb v (before + 1)) right.0 h) })

version_again : (raised : Bool) (before at v : ℕ) (rest : List ℕ) → IsNext raised before v → version_at raised before at (to_be_bytes w64 v ++ rest) ≡ Ok (v, rest)
unfolding version_at
version_again raised before at v rest h =
    told_again fault_of (number_at w64 at (to_be_bytes w64 v ++ rest)) (v, rest)
    (λ version. cond (leb version.0 before || leb (2 ^ 63) version.0) (Err (errors.Order at)) (cond (raised && not (eqb version.0 (before + 1))) (Err (errors.Floor at)) (Ok version))) (Ok (v, rest))
    (number_again w64 (2 ^ 64) wide64 at v rest (omega (arith, h.fits)))
    (rw (lt-leb v before h.above, lt-leb (2 ^ 63) v h.fits, asked_so raised (eqb v (before + 1)) (λ r. eq-eqb v (before + 1) (h.next r))) refl)

-- ---- kinds

record IsKind (raised : Bool) (kind : ℕ) : Type 0 where
  known : kind ≤ 2
  decided : raised ≡ true → kind ≡ 2

kind_takes : (raised : Bool) (at : ℕ) (bytes : List ℕ) (x : ℕ × List ℕ) → IsBytes bytes → kind_at raised at bytes ≡ Ok x → Takes bytes (x.0 ∷ []) x.1 × IsKind raised x.0
unfolding kind_at
kind_takes raised at bytes x fits e =
    let kind = told_ok fault_of (byte_at at bytes) _ x e in
    let k = kind.0.0 in
    let took = byte_takes at bytes kind.0 fits kind.1 in
    let known = not_refused (ltb 2 k) (errors.Kind at) (cond (raised && not (eqb k 2)) (Err (errors.Floor at)) (Ok kind.0)) x kind.2 in
    let right = not_refused (raised && not (eqb k 2)) (errors.Floor at) (Ok kind.0) x known.1 in
    subst (λ (y : ℕ × List ℕ). Takes bytes (y.0 ∷ []) y.1 × IsKind raised y.0) (ok_is {E = RowError} kind.0 x right.1)
    (took.0, record { known = ltb-false _ _ known.0; decided = λ h. eqb-true _ _ (not_asked raised (eqb k 2) right.0 h) })

kind_again : (raised : Bool) (at kind : ℕ) (rest : List ℕ) → IsKind raised kind → kind_at raised at (kind ∷ rest) ≡ Ok (kind, rest)
unfolding kind_at
kind_again raised at kind rest h = rw (le-ltb 2 kind h.known, asked_so raised (eqb kind 2) (λ r. eq-eqb kind 2 (h.decided r))) refl

-- ---- ballots

agree : (p q : Bool) → (p && not q) || (not p && q) ≡ false → p ≡ q
agree true true e = refl
agree true false e = absurd cc
agree false true e = absurd cc
agree false false e = refl

agreeing : (p : Bool) → (p && not p) || (not p && p) ≡ false
agreeing true = refl
agreeing false = refl

abbrev OneKind : ℕ → ℕ → Type 0
OneKind round session = ((round ≡ 0) × (session ≡ 0)) ⊎ ((1 ≤ round) × (1 ≤ session))

one_kind : (round session : ℕ) → eqb round 0 ≡ eqb session 0 → OneKind round session
one_kind round session same =
    elim (cases_Bool (eqb session 0)) [
      | inl is_zero ↦ inl (eqb-true round 0 (same ∙ is_zero), eqb-true session 0 is_zero)
      | inr nonzero ↦
          let round_nonzero : round ≡ 0 → ⊥ = eqb-false round 0 (same ∙ nonzero) in
          let session_nonzero : session ≡ 0 → ⊥ = eqb-false session 0 nonzero in
          inr (omega arith, omega arith)
    ]

same_kind : (round session : ℕ) → OneKind round session → (eqb round 0 && not (eqb session 0)) || (not (eqb round 0) && eqb session 0) ≡ false
same_kind round session (inl zeros) = rw (zeros.0, zeros.1) refl
same_kind round session (inr some) = rw (not_zero round some.0, not_zero session some.1) refl

ballot_takes : (at : ℕ) (bytes : List ℕ) (x : BallotAt × List ℕ) → IsBytes bytes → ballot_at at bytes ≡ Ok x → Takes bytes (ballot_bytes x.0) x.1 × IsBallot x.0
unfolding ballot_at
ballot_takes at bytes x fits e =
    let round = told_ok fault_of (number_at w32 at bytes) _ x e in
    let session = told_ok fault_of (number_at w32 at round.0.1) _ x round.2 in
    let r = round.0.0 in
    let s = session.0.0 in
    let made : BallotAt = record { round = r; session = s } in
    let good = not_refused ((eqb r 0 && not (eqb s 0)) || (not (eqb r 0) && eqb s 0)) (errors.Ballot at) (Ok (made, session.0.1)) x session.2 in
    let first = number_takes w32 (2 ^ 32) wide32 at bytes round.0 fits round.1 in
    let second = number_takes w32 (2 ^ 32) wide32 at round.0.1 session.0 first.0.rest_fits session.1 in
    subst (λ (y : BallotAt × List ℕ). Takes bytes (ballot_bytes y.0) y.1 × IsBallot y.0) (ok_is {E = RowError} (made, session.0.1) x good.1) (
      Takes-then bytes (to_be_bytes w32 r) round.0.1 (to_be_bytes w32 s) session.0.1 first.0 second.0,
      record { kind = one_kind r s (agree (eqb r 0) (eqb s 0) good.0); round_fits = first.1; session_fits = second.1 },
    )

ballot_again : (at : ℕ) (b : BallotAt) (rest : List ℕ) → IsBallot b → ballot_at at (ballot_bytes b ++ rest) ≡ Ok (b, rest)
unfolding ballot_at
ballot_again at b rest h =
    told_again fault_of (number_at w32 at (ballot_bytes b ++ rest)) (b.round, to_be_bytes w32 b.session ++ rest) _ (Ok (b, rest))
    (number_again w32 (2 ^ 32) wide32 at b.round (to_be_bytes w32 b.session ++ rest) h.round_fits)
    (told_again fault_of (number_at w32 at (to_be_bytes w32 b.session ++ rest)) (b.session, rest)
    (λ session. cond ((eqb b.round 0 && not (eqb session.0 0)) || (not (eqb b.round 0) && eqb session.0 0)) (Err (errors.Ballot at)) (Ok (record { round = b.round; session = session.0 }, session.1))) (Ok (b, rest))
    (number_again w32 (2 ^ 32) wide32 at b.session rest h.session_fits) (rw (same_kind b.round b.session h.kind) refl))

both : (p q : Bool) → p && q ≡ true → (p ≡ true) × (q ≡ true)
both true q e = (refl, e)
both false q e = absurd cc

is_same : (b : BallotAt) → same_ballot b fast ≡ true → b ≡ fast
is_same b e =
    let tests = both (eqb b.round 0) (eqb b.session 0) e in
    let round = eqb-true b.round 0 tests.0 in
    let session = eqb-true b.session 0 tests.1 in
    λ i. record { round = round i; session = session i }

-- ---- what a column holds

-- what is read of a column of a kind
record IsBody (kind : ℕ) (bytes : List ℕ) (x : Column × List ℕ) : Type 0 where
  takes : Takes (kind ∷ bytes) (body_bytes x.0) x.1
  fits : FitsBody x.0
  is_column : IsColumn x.0
  decided : kind ≡ 2 → IsDecided x.0

open_takes : (at : ℕ) (bytes : List ℕ) (x : Column × List ℕ) → IsBytes bytes → open_at at bytes ≡ Ok x → IsBody 0 bytes x
unfolding open_at
open_takes at bytes x fits e =
    let promise = bind_ok (ballot_at at bytes) _ x e in
    let t0 = ballot_takes at bytes promise.0 fits promise.1 in
    let good = not_refused (same_ballot promise.0.0 fast) (errors.Ballot at) (Ok (Open promise.0.0 None, promise.0.1)) x promise.2 in
    let classic : promise.0.0 ≢ fast = λ same. let never : same_ballot fast fast ≡ false = subst (λ (b : BallotAt). same_ballot b fast ≡ false) same good.0 in absurd cc in
    subst (λ (y : Column × List ℕ). IsBody 0 bytes y) (ok_is {E = RowError} (Open promise.0.0 None, promise.0.1) x good.1)
    (record { takes = Takes-after 0 bytes (ballot_bytes promise.0.0) promise.0.1 t0.0; fits = (t0.1, tt); is_column = classic; decided = λ two. absurd cc })

vote_ballot_takes : (promise : BallotAt) (at : ℕ) (bytes : List ℕ) (x : BallotAt × List ℕ) → IsBytes bytes → vote_ballot_at promise at bytes ≡ Ok x → Takes bytes (ballot_bytes x.0) x.1 × IsBallot x.0 × (is_below promise x.0 ≡ false)
unfolding vote_ballot_at
vote_ballot_takes promise at bytes x fits e =
    let ballot = bind_ok (ballot_at at bytes) _ x e in
    let t0 = ballot_takes at bytes ballot.0 fits ballot.1 in
    let good = not_refused (is_below promise ballot.0.0) (errors.Ballot at) (Ok ballot.0) x ballot.2 in
    subst (λ (y : BallotAt × List ℕ). Takes bytes (ballot_bytes y.0) y.1 × IsBallot y.0 × (is_below promise y.0 ≡ false)) (ok_is {E = RowError} ballot.0 x good.1) (t0.0, t0.1, good.0)

voted_takes : (at : ℕ) (bytes : List ℕ) (x : Column × List ℕ) → IsBytes bytes → voted_at at bytes ≡ Ok x → IsBody 1 bytes x
unfolding voted_at
voted_takes at bytes x fits e =
    let promise = bind_ok (ballot_at at bytes) _ x e in
    let ballot = bind_ok (vote_ballot_at promise.0.0 (at + 8) promise.0.1) _ x promise.2 in
    let value = bind_ok (value_at (at + 16) ballot.0.1) _ x ballot.2 in
    let t0 = ballot_takes at bytes promise.0 fits promise.1 in
    let t1 = vote_ballot_takes promise.0.0 (at + 8) promise.0.1 ballot.0 t0.0.rest_fits ballot.1 in
    let t2 = value_takes (at + 16) ballot.0.1 value.0 t1.0.rest_fits value.1 in
    let vote : Vote = record { ballot = ballot.0.0; value = value.0.0 } in
    let from_ballot : Takes promise.0.1 (vote_bytes vote) value.0.1 = Takes-then promise.0.1 (ballot_bytes ballot.0.0) ballot.0.1 (value_bytes value.0.0) value.0.1 t1.0 t2.0 in
    let whole = Takes-then bytes (ballot_bytes promise.0.0) promise.0.1 (vote_bytes vote) value.0.1 t0.0 from_ballot in
    subst (λ (y : Column × List ℕ). IsBody 1 bytes y) (ok_is {E = RowError} (Open promise.0.0 (Some vote), value.0.1) x value.2)
    (record { takes = Takes-after 1 bytes (ballot_bytes promise.0.0 ++ vote_bytes vote) value.0.1 whole; fits = (t0.1, (t1.1, t2.1)); is_column = t1.2; decided = λ two. absurd cc })

decided_takes : (at : ℕ) (bytes : List ℕ) (x : Column × List ℕ) → IsBytes bytes → decided_at at bytes ≡ Ok x → IsBody 2 bytes x
unfolding decided_at
decided_takes at bytes x fits e =
    let value = bind_ok (value_at at bytes) _ x e in
    let t0 = value_takes at bytes value.0 fits value.1 in
    subst (λ (y : Column × List ℕ). IsBody 2 bytes y) (ok_is {E = RowError} (Decided value.0.0, value.0.1) x value.2)
    (record { takes = Takes-after 2 bytes (value_bytes value.0.0) value.0.1 t0.0; fits = t0.1; is_column = tt; decided = λ two. tt })

body_takes : (kind at : ℕ) (bytes : List ℕ) (x : Column × List ℕ) → IsBytes bytes → kind ≤ 2 → body_at kind at bytes ≡ Ok x → IsBody kind bytes x
body_takes kind at bytes x fits known e =
    elim (tested (eqb kind 0) (open_at at bytes) (cond (eqb kind 1) (voted_at at bytes) (decided_at at bytes)) x e) [
      | inl zeroth ↦ subst (λ (k : ℕ). IsBody k bytes x) (sym (eqb-true _ _ zeroth.0)) (open_takes at bytes x fits zeroth.1)
      | inr other ↦
          elim (tested (eqb kind 1) (voted_at at bytes) (decided_at at bytes) x other.1) [
            | inl first ↦ subst (λ (k : ℕ). IsBody k bytes x) (sym (eqb-true _ _ first.0)) (voted_takes at bytes x fits first.1)
            | inr second ↦
                let nonzero : kind ≡ 0 → ⊥ = eqb-false kind 0 other.0 in
                let not_one : kind ≡ 1 → ⊥ = eqb-false kind 1 second.0 in
                let two : kind ≡ 2 = omega (arith, known) in
                subst (λ (k : ℕ). IsBody k bytes x) (sym two) (decided_takes at bytes x fits second.1)
          ]
    ]

-- ---- a column

-- a column that stands after `before`
pub record IsColumnAfter (raised : Bool) (before : ℕ) (c : ℕ × Column) : Type 0 where
  pub next : IsNext raised before c.0
  pub fits : FitsBody c.1
  pub is_column : IsColumn c.1
  pub decided : raised ≡ true → IsDecided c.1

column_takes : (raised : Bool) (before at : ℕ) (bytes : List ℕ) (x : (ℕ × Column) × List ℕ) → IsBytes bytes → column_at raised before at bytes ≡ Ok x → Takes bytes (column_bytes x.0) x.1 × IsColumnAfter raised before x.0
unfolding column_at
column_takes raised before at bytes x fits e =
    let version = bind_ok (version_at raised before at bytes) _ x e in
    let kind = bind_ok (kind_at raised (at + 8) version.0.1) _ x version.2 in
    let body = bind_ok (body_at kind.0.0 (at + 9) kind.0.1) _ x kind.2 in
    let t0 = version_takes raised before at bytes version.0 fits version.1 in
    let t1 = kind_takes raised (at + 8) version.0.1 kind.0 t0.0.rest_fits kind.1 in
    let t2 = body_takes kind.0.0 (at + 9) kind.0.1 body.0 t1.0.rest_fits t1.1.known body.1 in
    let from_kind : Takes version.0.1 (body_bytes body.0.0) body.0.1 = subst (λ (t : List ℕ). Takes t (body_bytes body.0.0) body.0.1) (sym t1.0.parts) t2.takes in
    let made : ℕ × Column = (version.0.0, body.0.0) in
    subst (λ (y : (ℕ × Column) × List ℕ). Takes bytes (column_bytes y.0) y.1 × IsColumnAfter raised before y.0) (ok_is {E = RowError} (made, body.0.1) x body.2) (
      Takes-then bytes (to_be_bytes w64 version.0.0) version.0.1 (body_bytes body.0.0) body.0.1 t0.0 from_kind,
      record { next = t0.1; fits = t2.fits; is_column = t2.is_column; decided = λ h. t2.decided (t1.1.decided h) },
    )

-- the kind of a column and the bytes after it
abbrev kind_in : Column → ℕ
kind_in (Open promise None) = 0
kind_in (Open promise (Some vote)) = 1
kind_in (Decided value) = 2

abbrev held_bytes : Column → List ℕ
held_bytes (Open promise None) = ballot_bytes promise
held_bytes (Open promise (Some vote)) = ballot_bytes promise ++ vote_bytes vote
held_bytes (Decided value) = value_bytes value

in_two_parts : (c : Column) → body_bytes c ≡ kind_in c ∷ held_bytes c
in_two_parts (Open promise None) = refl
in_two_parts (Open promise (Some vote)) = refl
in_two_parts (Decided value) = refl

is_its_kind : (raised : Bool) (c : Column) → (raised ≡ true → IsDecided c) → IsKind raised (kind_in c)
is_its_kind raised (Open promise None) decided = record { known = omega arith; decided = λ h. absurd (decided h) }
is_its_kind raised (Open promise (Some vote)) decided = record { known = omega arith; decided = λ h. absurd (decided h) }
is_its_kind raised (Decided value) decided = record { known = omega arith; decided = λ h. refl }

not_same : (b : BallotAt) → b ≢ fast → same_ballot b fast ≡ false
not_same b classic = elim (cases_Bool (same_ballot b fast)) [ inl same ↦ absurd (classic (is_same b same)) | inr other ↦ other ]

body_again : (at : ℕ) (c : Column) (rest : List ℕ) → FitsBody c → IsColumn c → body_at (kind_in c) at (held_bytes c ++ rest) ≡ Ok (c, rest)
unfolding open_at vote_ballot_at voted_at decided_at
body_again at (Open promise None) rest fits rule =
    bind_again (ballot_at at (ballot_bytes promise ++ rest)) (promise, rest) (λ x. cond (same_ballot x.0 fast) (Err (errors.Ballot at)) (Ok (Open x.0 None, x.1))) (Ok (Open promise None, rest)) (ballot_again at promise rest fits.0)
    (rw (not_same promise rule) refl)
body_again at (Open promise (Some vote)) rest fits rule =
    let after = vote_bytes vote ++ rest in
    let last = value_bytes vote.value ++ rest in
    bind_again (ballot_at at (ballot_bytes promise ++ after)) (promise, after) _ (Ok (Open promise (Some vote), rest)) (ballot_again at promise after fits.0)
    (bind_again (vote_ballot_at promise (at + 8) after) (vote.ballot, last) _ (Ok (Open promise (Some vote), rest))
    (bind_again (ballot_at (at + 8) after) (vote.ballot, last) (λ x. cond (is_below promise x.0) (Err (errors.Ballot (at + 8))) (Ok x)) (Ok (vote.ballot, last)) (ballot_again (at + 8) vote.ballot last fits.1.0) (rw rule refl))
    (bind_again (value_at (at + 16) last) (vote.value, rest) _ (Ok (Open promise (Some vote), rest)) (value_again (at + 16) vote.value rest fits.1.1) refl))
body_again at (Decided value) rest fits rule = bind_again (value_at at (value_bytes value ++ rest)) (value, rest) _ (Ok (Decided value, rest)) (value_again at value rest fits) refl

column_again : (raised : Bool) (before at : ℕ) (c : ℕ × Column) (rest : List ℕ) → IsColumnAfter raised before c → column_at raised before at (column_bytes c ++ rest) ≡ Ok (c, rest)
unfolding column_at
column_again raised before at c rest h =
    let held = held_bytes c.1 ++ rest in
    let regrouped : column_bytes c ++ rest ≡ to_be_bytes w64 c.0 ++ (kind_in c.1 ∷ held) = ap (λ (t : List ℕ). (to_be_bytes w64 c.0 ++ t) ++ rest) (in_two_parts c.1) in
    ap (column_at raised before at) regrouped
    ∙ bind_again (version_at raised before at (to_be_bytes w64 c.0 ++ (kind_in c.1 ∷ held))) (c.0, kind_in c.1 ∷ held) _ (Ok (c, rest)) (version_again raised before at c.0 (kind_in c.1 ∷ held) h.next)
    (bind_again (kind_at raised (at + 8) (kind_in c.1 ∷ held)) (kind_in c.1, held) _ (Ok (c, rest)) (kind_again raised (at + 8) (kind_in c.1) held (is_its_kind raised c.1 h.decided))
    (bind_again (body_at (kind_in c.1) (at + 9) held) (c.1, rest) _ (Ok (c, rest)) (body_again (at + 9) c.1 rest h.fits h.is_column) refl))

-- ---- columns

-- columns that stand after `before`, each after the one before it
abbrev pub AreAfter : Bool → ℕ → List (ℕ × Column) → Type 0
AreAfter raised before [] = Unit {0}
AreAfter raised before (c ∷ cs) = IsColumnAfter raised before c × AreAfter false c.0 cs

pub columns_take : (n : ℕ) (raised : Bool) (before end : ℕ) (bytes : List ℕ) (x : List (ℕ × Column) × List ℕ) → IsBytes bytes → columns_at n raised before end bytes ≡ Ok x
    → Takes bytes (flat_map column_bytes x.0) x.1 × (length x.0 ≡ n) × AreAfter raised before x.0
unfolding columns_at
columns_take zero raised before end bytes x fits e =
    subst (λ (y : List (ℕ × Column) × List ℕ). Takes bytes (flat_map column_bytes y.0) y.1 × (length y.0 ≡ 0) × AreAfter raised before y.0) (ok_is {E = RowError} ([], bytes) x e) (record { parts = refl; rest_fits = fits }, refl, tt)
columns_take (suc n) raised before end bytes x fits e =
    let first = bind_ok (column_at raised before (end - length bytes) bytes) _ x e in
    let others = bind_ok (columns_at n false first.0.0.0 end first.0.1) _ x first.2 in
    let t0 = column_takes raised before (end - length bytes) bytes first.0 fits first.1 in
    let t1 = columns_take n false first.0.0.0 end first.0.1 others.0 t0.0.rest_fits others.1 in
    let both = Takes-then bytes (column_bytes first.0.0) first.0.1 (flat_map column_bytes others.0.0) others.0.1 t0.0 t1.0 in
    let made : List (ℕ × Column) × List ℕ = (first.0.0 ∷ others.0.0, others.0.1) in
    subst (λ (y : List (ℕ × Column) × List ℕ). Takes bytes (flat_map column_bytes y.0) y.1 × (length y.0 ≡ suc n) × AreAfter raised before y.0) (ok_is {E = RowError} made x others.2) (rw flat_map-cons both, ap suc t1.1, (t0.1, t1.2))

pub columns_again : (cs : List (ℕ × Column)) (raised : Bool) (before end : ℕ) (rest : List ℕ) → AreAfter raised before cs → columns_at (length cs) raised before end (flat_map column_bytes cs ++ rest) ≡ Ok (cs, rest)
unfolding columns_at
columns_again [] raised before end rest all = refl
columns_again (c ∷ cs) raised before end rest all =
    let others = flat_map column_bytes cs ++ rest in
    let regrouped : flat_map column_bytes (c ∷ cs) ++ rest ≡ column_bytes c ++ others = ap (λ (t : List ℕ). t ++ rest) (flat_map-cons column_bytes c cs) ∙ append_assoc (column_bytes c) (flat_map column_bytes cs) rest in
    ap (columns_at (suc (length cs)) raised before end) regrouped
    ∙ bind_again (column_at raised before (end - length (column_bytes c ++ others)) (column_bytes c ++ others)) (c, others) _ (Ok (c ∷ cs, rest)) (column_again raised before (end - length (column_bytes c ++ others)) c others all.0)
    (bind_again (columns_at (length cs) false c.0 end others) (cs, rest) _ (Ok (c ∷ cs, rest)) (columns_again cs false c.0 end rest all.1) refl)
