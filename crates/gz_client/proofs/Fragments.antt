-- A call that asks for the fragments of a value, one index after the other, keeps the rules.
use Rattle.std.proofs.Common.{◌≡◌, ◌==◌, ℕ, suc, ◌+◌, ◌<◌, Bool, true, false, cond, List, [], ◌∷◌, Some, None, refl, sym, ap, ◌∙◌, inl, inr, arith}
use Rattle.std.specs.Prelude.{slice_get, not, ◌||◌}
use Rattle.std.specs.declared.cmp.Ordering.{Ordering}
use Rattle.std.specs.declared.cmp.Ordering.TheVariants.{Less, Equal, Greater}
use Rattle.std.specs.Ordering.{nat_cmp, is_eq, ordering_then}
use Rattle.std.specs.Cmp.Lexicographic.{slice_cmp}
use Rattle.std.proofs.lemmas.Bool.{cases_Bool, false≢true, eqb-true}
use Rattle.std.proofs.lemmas.Bool.Decides.{nat_tests}
use Rattle.gz_config.specs.declared.Config.{Config}
use Rattle.gz_core.specs.Awaiting.{awaiting}
use Rattle.gz_core.specs.Blobs.{BlobAt, same_blob}
use Rattle.gz_core.specs.Calls.{key_of}
use Rattle.gz_core.specs.Names.{same_name}
use Rattle.gz_core.proofs.Ballots.{name_from}
use Rattle.gz_core.specs.Puts.{PutData}
use Rattle.gz_core.specs.declared.fragments.FragRef.{FragRef}
use Rattle.gz_core.specs.declared.values.Value.TheVariants.{Put as PutOf}
use Rattle.gz_core.specs.History.{Asked, Action, Sent, Caller, asked_of, sent_from}
use Rattle.gz_data.specs.Blobs.{BlobNow, blob_now, blob_at}
use Rattle.gz_data.specs.Own.{IsRecordOf}
use Rattle.gz_data.specs.Requests.{put_out, puts_from, get_out, gets_from}
use Rattle.gz_round.specs.Causes.{IsLearnt}
use Rattle.gz_round.proofs.Beside.{beside_blob, learnt_beside}
use Rattle.gz_client.specs.Blobs.{has_sent, reads_other}
use Rattle.gz_client.specs.Traces.{AreBelow}
use Rattle.gz_client.specs.Turning.{KeepsBlobRules}
use Rattle.gz_client.proofs.Listed.{below_sent}

-- ---- blobs of one index

then_eq : (a b : Ordering) → is_eq (ordering_then a b) ≡ true → is_eq b ≡ true
then_eq Less b e = absurd (false≢true e)
then_eq Equal b e = e
then_eq Greater b e = absurd (false≢true e)

eq_index : (i j : ℕ) → is_eq (nat_cmp i j) ≡ (i == j)
eq_index i j = grind (arith, nat_tests)

-- names of one blob have one index
same_index : (a b : BlobAt) → same_blob a b ≡ true → a.index ≡ b.index
same_index a b e =
    let names : Ordering = ordering_then (nat_cmp a.name.session b.name.session) (nat_cmp a.name.seq b.name.seq) in
    let rest = then_eq (slice_cmp nat_cmp a.key b.key) (ordering_then names (nat_cmp a.index b.index)) e in
    eqb-true a.index b.index (sym (eq_index a.index b.index) ∙ then_eq names (nat_cmp a.index b.index) rest)

-- no blob of this index or a later one was asked for
abbrev pub AreAskedBelow : ℕ → List Action → Type 0
AreAskedBelow i ms = (b : BlobAt) → (blob_now ms b).asked ≡ true → b.index < i

not_asked : (i : ℕ) (ms : List Action) (a b : BlobAt) → a.index ≡ i → AreAskedBelow i ms → same_blob a b ≡ true → (blob_now ms b).asked ≡ false
not_asked i ms a b is below e =
    elim (cases_Bool (blob_now ms b).asked) [
      | inl asked ↦ (let same = same_index a b e in absurd (omega (arith, below b asked)))
      | inr new ↦ new
    ]

asked_or : (t : Bool) (now : BlobNow) → (cond t (record { asked = true; outcome = None }) now).asked ≡ true → t ≡ false → now.asked ≡ true
asked_or true now h e = absurd (false≢true (sym e))
asked_or false now h e = h

still_below : (i : ℕ) (ms : List Action) (a b : BlobAt) → a.index ≡ i → AreAskedBelow i ms → (cond (same_blob a b) (record { asked = true; outcome = None }) (blob_now ms b)).asked ≡ true → b.index < i + 1
still_below i ms a b is below h =
    elim (cases_Bool (same_blob a b)) [
      | inl e ↦ (let same = same_index a b e in omega arith)
      | inr e ↦ omega (arith, below b (asked_or (same_blob a b) (blob_now ms b) h e))
    ]

-- ---- a put stores its records

-- these are the records of a call from this index on
abbrev pub AreRecordsFrom : Config → Caller → ℕ → List (List ℕ) → Type 0
AreRecordsFrom c w i [] = Unit {0}
AreRecordsFrom c w i (bytes ∷ records) = IsRecordOf c w.name w.call i bytes × AreRecordsFrom c w (i + 1) records

pub keeps_puts : (c : Config) (w : Caller) (first i : ℕ) (records : List (List ℕ)) (ms : List Action) → AreRecordsFrom c w i records → AreAskedBelow i ms → AreBelow first ms → KeepsBlobRules c w ms
    → KeepsBlobRules c w (sent_from first (puts_from w.name (key_of w.call) i records) ms)
keeps_puts c w first i [] ms own asked below h = h
keeps_puts c w first i (bytes ∷ records) ms own asked below h =
    let a : Asked = asked_of first (put_out w.name (key_of w.call) i bytes) in
    let b : BlobAt = record { key = key_of w.call; name = w.name; index = i } in
    keeps_puts c w (first + 1) (i + 1) records (Sent a ∷ ms) own.1 (λ other h. still_below i ms b other refl asked h) (below_sent (awaiting ms) a true below) (record {
      blobs = (record { named = refl; own = own.0 }, h.blobs);
      once = ((λ other e. not_asked i ms b other refl asked e), h.once);
      in_turn = (record { above = below; blob = λ e. refl }, h.in_turn);
      first = ((λ row. absurd (false≢true row)), h.first);
    })

-- ---- a get reads the fragments of a value

-- what was sent so far reads no other value
still_alone : (x : PutData) (b : BlobAt) (old : Bool) → b.name ≡ x.name → old ≡ false → (not (same_name b.name x.name) || old) ≡ false
still_alone x b old named e = rw (name_from b.name x.name named, e) refl

pub keeps_gets : (c : Config) (w : Caller) (first i version : ℕ) (x : PutData) (fragments : List FragRef) (ms : List Action) → ((j : ℕ) → slice_get fragments j ≡ slice_get x.fragments (i + j))
    → IsLearnt c w ms version (PutOf x) → has_sent (reads_other x.name) ms ≡ false → AreAskedBelow i ms → AreBelow first ms → KeepsBlobRules c w ms
    → KeepsBlobRules c w (sent_from first (gets_from x.name (key_of w.call) i fragments) ms)
keeps_gets c w first i version x [] ms parts learnt alone asked below h = h
keeps_gets c w first i version x (fragment ∷ fragments) ms parts learnt alone asked below h =
    let a : Asked = asked_of first (get_out x.name (key_of w.call) i fragment) in
    let b : BlobAt = blob_at (key_of w.call) x i in
    let there : slice_get x.fragments i ≡ Some fragment = ap (slice_get x.fragments) (omega arith) ∙ sym (parts 0) in
    keeps_gets c w (first + 1) (i + 1) version x fragments (Sent a ∷ ms) (λ j. parts (suc j) ∙ ap (slice_get x.fragments) (omega arith))
    (learnt_beside c w ms (Sent a ∷ ms) version (PutOf x) (beside_blob (Sent a) ms refl) learnt) (still_alone x b (has_sent (reads_other x.name) ms) refl alone)
    (λ other h. still_below i ms b other refl asked h) (below_sent (awaiting ms) a true below) (record {
      blobs = (record { version = version; value = x; learnt = learnt; alone = alone; named = refl; fragment = fragment; there = there; site = refl }, h.blobs);
      once = ((λ other e. not_asked i ms b other refl asked e), h.once);
      in_turn = (record { above = below; blob = λ e. refl }, h.in_turn);
      first = ((λ row. absurd (false≢true row)), h.first);
    })
