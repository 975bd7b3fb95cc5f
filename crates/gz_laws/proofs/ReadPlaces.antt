-- The places of reads in the order of an object's calls: at the version that a read shows, or after what had been shown when it began.
use Rattle.std.proofs.Common.{◌≡◌, ℕ, ◌≤◌, ◌⊎◌, inl, inr, List, [], ◌∷◌, Some, None, true, false, refl, ap, sym, ◌∙◌, subst, arith}
use Rattle.std.proofs.lemmas.Bool.{cases_lt, and_parts, and_from}
use Rattle.std.proofs.lemmas.Bool.Decides.{nat_tests}
use Rattle.std.proofs.Common.{rules}
use Rattle.std.specs.Prelude.{Option, ◌&&◌, max, option_map, if◌then◌else◌}
use Rattle.std.specs.Cmp.Lexicographic.{same_text}
use Rattle.gz_core.specs.Calls.{key_of}
use Rattle.gz_core.specs.declared.calls.Call.{Call}
use Rattle.gz_core.specs.declared.calls.Call.TheVariants.{Put, Delete, Get, GetAt, Collect}
use Rattle.gz_history.specs.Answers.{shows, IsWrite}
use Rattle.gz_history.specs.Legal.{IsBefore}
use Rattle.gz_history.specs.Serial.{is_about}
use Rattle.gz_history.specs.declared.record.CallRec.{CallRec}
use Rattle.gz_ledger.specs.Histories.{IsIn}
use Rattle.gz_laws.specs.Serial.{placed_at, ends_before, or_greater, shown_before, is_read}

pub about_means : (key : List ℕ) (a : CallRec) → is_about key a ≡ true → key_of a.call ≡ key
about_means key a e = same_text (key_of a.call) key (sym e)

pub about_from : (key : List ℕ) (a : CallRec) → key_of a.call ≡ key → is_about key a ≡ true
about_from key a e = search (rules, e)

-- a read writes nothing
pub read_no_write : (call : Call) → is_read call ≡ true → IsWrite call → ⊥
read_no_write (Put key bytes) read write = cc
read_no_write (Delete key) read write = cc
read_no_write (Get key) read write = write
read_no_write (GetAt key version) read write = write
read_no_write (Collect key keep) read write = write

-- ---- the place of a read, by the version that it shows

-- a read that has a place shows a version: it stands at the latest one of some moment, or after what was shown before it began
pub placed_of : (latest shown : Option ℕ) (before w : ℕ) → option_map (λ v. placed_at latest v before) shown ≡ Some w → (v : ℕ) × (shown ≡ Some v) × ((latest ≡ Some w) ⊎ ((latest ≡ None) × (w ≡ max v before)))
placed_of latest None before w e = cc
placed_of None (Some v) before w e = let same : max v before ≡ w = cc in (v, refl, inr (refl, sym same))
placed_of (Some l) (Some v) before w e = (v, refl, inl e)

-- and one that shows a version has a place
pub place_there : (latest shown : Option ℕ) (before v : ℕ) → shown ≡ Some v → (w : ℕ) × (option_map (λ n. placed_at latest n before) shown ≡ Some w)
place_there latest shown before v e = (placed_at latest v before, ap (option_map (λ n. placed_at latest n before)) e)

-- ---- what was shown before a tick

ends_means : (tick : ℕ) (end : Option ℕ) → ends_before tick end ≡ true → IsBefore end tick
ends_means tick None e = cc
ends_means tick (Some end) e = grind (arith, nat_tests)

ends_from : (tick : ℕ) (end : Option ℕ) → IsBefore end tick → ends_before tick end ≡ true
ends_from tick None h = absurd h
ends_from tick (Some end) h = grind (arith, nat_tests)

greater_shown : (o : Option ℕ) (v n : ℕ) → o ≡ Some v → v ≤ or_greater o n
greater_shown None v n e = cc
greater_shown (Some u) v n e = let same : u ≡ v = cc in omega (arith, same)

greater_rest : (o : Option ℕ) (n : ℕ) → n ≤ or_greater o n
greater_rest None n = omega arith
greater_rest (Some u) n = omega arith

-- a version that a call shows which ended before is at most the greatest one
pub shown_most : (key : List ℕ) (calls : List CallRec) (tick : ℕ) (a : CallRec) (v : ℕ) → IsIn a calls → key_of a.call ≡ key → IsBefore a.end tick → shows a.answer ≡ Some v → v ≤ shown_before key calls tick
shown_most key [] tick a v found about before e = absurd found
shown_most key (d ∷ calls) tick a v (inl same) about before e =
    let here : is_about key d && ends_before tick d.end ≡ true = subst (λ (q : CallRec). is_about key q && ends_before tick q.end ≡ true) same (and_from (is_about key a) (ends_before tick a.end) (about_from key a about) (ends_from tick a.end before)) in
    subst (λ t. v ≤ (if t then or_greater (shows d.answer) (shown_before key calls tick) else shown_before key calls tick)) (sym here) (greater_shown (shows d.answer) v (shown_before key calls tick) (ap (λ (q : CallRec). shows q.answer) (sym same) ∙ e))
shown_most key (d ∷ calls) tick a v (inr found) about before e =
    let low = shown_most key calls tick a v found about before e in
    let rest = greater_rest (shows d.answer) (shown_before key calls tick) in
    elim (is_about key d && ends_before tick d.end) as (λ t. v ≤ (if t then or_greater (shows d.answer) (shown_before key calls tick) else shown_before key calls tick)) [ true ↦ omega (arith, low, rest) | false ↦ low ]

-- the call that shows the greatest version
pub record IsShower (key : List ℕ) (calls : List CallRec) (tick v : ℕ) : Type 0 where
  pub call : CallRec
  pub found : IsIn call calls
  pub about : key_of call.call ≡ key
  pub before : IsBefore call.end tick
  pub shows_it : shows call.answer ≡ Some v

later_shower : (key : List ℕ) (d : CallRec) (calls : List CallRec) (tick v : ℕ) → IsShower key calls tick v → IsShower key (d ∷ calls) tick v
later_shower key d calls tick v h = record { call = h.call; found = inr h.found; about = h.about; before = h.before; shows_it = h.shows_it }

-- of a first call that ended before, and the rest
first_shower : (key : List ℕ) (d : CallRec) (calls : List CallRec) (tick : ℕ) (o : Option ℕ) (n : ℕ) → shows d.answer ≡ o → is_about key d && ends_before tick d.end ≡ true → (1 ≤ n → IsShower key calls tick n) → 1 ≤ or_greater o n → IsShower key (d ∷ calls) tick (or_greater o n)
first_shower key d calls tick None n e here rest h = later_shower key d calls tick n (rest h)
first_shower key d calls tick (Some v) n e here rest h =
    let parts = and_parts (is_about key d) (ends_before tick d.end) here in
    elim (cases_lt v n) [
      | inl lt ↦ (let is : n ≡ max v n = omega (arith, lt) in subst (IsShower key (d ∷ calls) tick) is (later_shower key d calls tick n (rest (omega (arith, lt)))))
      | inr ge ↦ (let is : v ≡ max v n = omega (arith, ge) in
          record { call = d; found = inl refl; about = about_means key d parts.0; before = ends_means tick d.end parts.1; shows_it = e ∙ ap Some is })
    ]

pub shown_found : (key : List ℕ) (calls : List CallRec) (tick : ℕ) → 1 ≤ shown_before key calls tick → IsShower key calls tick (shown_before key calls tick)
shown_found key [] tick h = absurd (omega (arith, h))
shown_found key (d ∷ calls) tick h =
    let n = shown_before key calls tick in
    elim (is_about key d && ends_before tick d.end) as (λ t. is_about key d && ends_before tick d.end ≡ t → 1 ≤ (if t then or_greater (shows d.answer) n else n) → IsShower key (d ∷ calls) tick (if t then or_greater (shows d.answer) n else n)) [
      | true ↦ λ e k. first_shower key d calls tick (shows d.answer) n refl e (λ l. shown_found key calls tick l) k
      | false ↦ λ e k. later_shower key d calls tick n (shown_found key calls tick k)
    ] refl h
