-- The order of the calls of an object: which calls stand in it, each once, and in which order.
use Rattle.std.proofs.Common.{◌≡◌, ℕ, zero, suc, ◌<◌, ◌≤◌, ◌⊎◌, inl, inr, List, [], ◌∷◌, ◌++◌, Some, None, true, length, refl, ap, sym, ◌∙◌, subst, arith}
use Rattle.std.proofs.Math.Numerals.{lt_of_le_of_ne}
use Rattle.std.proofs.lemmas.Bool.{cases_eq, cases_lt, and_parts, and_from, eqb-true, eq-eqb}
use Rattle.std.specs.Prelude.{Option, ◌&&◌, max, is_some, slice_get}
use Rattle.std.specs.List.{filter}
use Rattle.gz_core.specs.Calls.{key_of}
use Rattle.gz_core.specs.Configurations.{IsConfig}
use Rattle.gz_core.specs.Names.{Name, same_name}
use Rattle.gz_core.specs.declared.calls.Answer.{Answer}
use Rattle.gz_core.specs.declared.calls.Answer.TheVariants.{Ok as Placed, Thin, Short, Bytes, Incomplete, Gone, Absent, Unborn, Collected, Swept, Held, NoQuorum, Contended, Unsure}
use Rattle.gz_core.specs.declared.calls.Call.{Call}
use Rattle.gz_core.specs.declared.calls.Call.TheVariants.{Put, Delete, Get, GetAt, Collect}
use Rattle.gz_history.specs.Answers.{shows, stands, names, read_from, bytes_read, bytes_written, IsWrite, Writes, MayTakeEffect, AnswersAsked}
use Rattle.gz_history.specs.Legal.{IsBefore}
use Rattle.gz_history.specs.Serial.{is_about}
use Rattle.gz_history.specs.declared.record.CallRec.{CallRec}
use Rattle.gz_ledger.specs.Histories.{IsIn}
use Rattle.gz_model.specs.Casts.{IsChosen}
use Rattle.gz_world.specs.States.{State}
use Rattle.gz_laws.specs.Serial.{chosen_at, place_of, is_read, is_number, is_read_at, named, reads_at, write_at, order_of, top_of, IsOf, StandsBefore, shown_before}
use Rattle.gz_laws.proofs.Agreeing.{stands_shows}
use Rattle.gz_laws.proofs.ChosenAt.{OneChosen, chosen_at_is, is_chosen_at, chosen_low}
use Rattle.gz_laws.proofs.ReadPlaces.{about_means, about_from, read_no_write, placed_of, place_there, shown_most, shown_found}
use Rattle.gz_laws.proofs.Ordered.{in_left, in_right, in_cases, in_at, at_of_in, filter_in, in_filter, in_blocks, blocks_in, before_right, before_across, Befores, lefts, rights, each, before_cases, filter_before, blocks_before, blocks_within, InBlocks, one_block, two_blocks, blocks_cases, AreNamedApart, before_at, one_has_name}

-- ---- what is known of the calls of an object

-- an answer that a call may have which writes, and one that reads, as far as they show a version
abbrev pub IsWriteAnswer : Option Answer → Type 0
IsWriteAnswer None = Unit {0}
IsWriteAnswer (Some (Placed version)) = Unit {0}
IsWriteAnswer (Some (Thin version stored)) = Unit {0}
IsWriteAnswer (Some (Short stored)) = Unit {0}
IsWriteAnswer (Some (NoQuorum phase heard)) = Unit {0}
IsWriteAnswer (Some (Contended met)) = Unit {0}
IsWriteAnswer (Some (Unsure why)) = Unit {0}
IsWriteAnswer (Some answer) = ⊥

abbrev pub IsReadAnswer : Option Answer → Type 0
IsReadAnswer None = Unit {0}
IsReadAnswer (Some (Bytes version name bytes)) = Unit {0}
IsReadAnswer (Some (Incomplete version name fates)) = Unit {0}
IsReadAnswer (Some (Gone version name)) = Unit {0}
IsReadAnswer (Some Absent) = Unit {0}
IsReadAnswer (Some (Short stored)) = Unit {0}
IsReadAnswer (Some (NoQuorum phase heard)) = Unit {0}
IsReadAnswer (Some (Contended met)) = Unit {0}
IsReadAnswer (Some (Unsure why)) = Unit {0}
IsReadAnswer (Some answer) = ⊥

abbrev pub IsVersionAnswer : Option Answer → Type 0
IsVersionAnswer None = Unit {0}
IsVersionAnswer (Some (Bytes version name bytes)) = Unit {0}
IsVersionAnswer (Some (Incomplete version name fates)) = Unit {0}
IsVersionAnswer (Some (Gone version name)) = Unit {0}
IsVersionAnswer (Some (Unborn latest)) = Unit {0}
IsVersionAnswer (Some (Collected floor)) = Unit {0}
IsVersionAnswer (Some (Short stored)) = Unit {0}
IsVersionAnswer (Some (NoQuorum phase heard)) = Unit {0}
IsVersionAnswer (Some (Contended met)) = Unit {0}
IsVersionAnswer (Some (Unsure why)) = Unit {0}
IsVersionAnswer (Some answer) = ⊥

-- the answer is one of its kind of call; no call collects yet
abbrev pub Fits : Call → Option Answer → Type 0
Fits (Put key bytes) answer = IsWriteAnswer answer
Fits (Delete key) answer = IsWriteAnswer answer
Fits (Get key) answer = IsReadAnswer answer
Fits (GetAt key version) answer = IsVersionAnswer answer
Fits (Collect key keep) answer = ⊥

-- the call of a value: a write of the object, that was not answered that it took no effect
pub record IsWriter (key : List ℕ) (s : State) (x : Name) : Type 0 where
  pub call : CallRec
  pub of : IsOf key s call
  pub name_is : call.name ≡ x
  pub write : IsWrite call.call
  pub effect : MayTakeEffect call.answer

-- the call that a read names: a write of the object, of what was read
pub record IsWriterOf (key : List ℕ) (s : State) (a : CallRec) (x : Name) : Type 0 where
  pub call : CallRec
  pub of : IsOf key s call
  pub name_is : call.name ≡ x
  pub writes : Writes a.answer call.call
  pub bytes_are : (bytes : List ℕ) → bytes_read a.answer ≡ Some bytes → bytes_written call.call ≡ Some bytes

pub record IsSerializable (key : List ℕ) (s : State) : Type 0 where
  pub config : IsConfig s.cfg
  -- names differ, calls end at ticks that have passed, after they began, and have an answer exactly where they have an end
  pub apart : AreNamedApart s.calls
  pub over : (i end : ℕ) (a : CallRec) → slice_get s.calls i ≡ Some a → a.end ≡ Some end → end ≤ length s.journal
  pub later : (i end : ℕ) (a : CallRec) → slice_get s.calls i ≡ Some a → a.end ≡ Some end → a.begin < end
  pub answered : (i : ℕ) (a : CallRec) → slice_get s.calls i ≡ Some a → is_some a.end ≡ is_some a.answer
  pub fits : (a : CallRec) → IsOf key s a → Fits a.call a.answer
  pub asked : (a : CallRec) → IsOf key s a → AnswersAsked a.call a.answer
  -- one value is chosen at a version, from 1 on without a gap, and a value at one version; its call wrote it
  pub one : OneChosen key s
  pub once : (u v : ℕ) (x : Name) → IsChosen s.cfg s.casts key u x → IsChosen s.cfg s.casts key v x → u ≡ v
  pub positive : (v : ℕ) (x : Name) → IsChosen s.cfg s.casts key v x → 1 ≤ v
  pub down : (u v : ℕ) (x : Name) → IsChosen s.cfg s.casts key v x → 1 ≤ u → u ≤ v → (y : Name) × IsChosen s.cfg s.casts key u y
  pub written : (v : ℕ) (x : Name) → IsChosen s.cfg s.casts key v x → IsWriter key s x
  -- an answer shows a version at which a value is chosen, the one that it names, or none
  pub shown : (a : CallRec) (v : ℕ) → IsOf key s a → shows a.answer ≡ Some v → (v ≡ 0) ⊎ ((x : Name) × IsChosen s.cfg s.casts key v x)
  pub named : (a : CallRec) (v : ℕ) (x : Name) → IsOf key s a → shows a.answer ≡ Some v → names a.name a.answer ≡ Some x → IsChosen s.cfg s.casts key v x
  pub read : (a : CallRec) (x : Name) → IsOf key s a → read_from a.answer ≡ Some x → IsWriterOf key s a x
  -- a call that began after another had ended reads no older version, and writes a newer one
  pub order : (a b : CallRec) (v w : ℕ) → IsOf key s a → IsOf key s b → IsBefore a.end b.begin → shows a.answer ≡ Some v → stands b.call b.answer ≡ Some w → v ≤ w
  pub above : (a b : CallRec) (v w : ℕ) → IsOf key s a → IsOf key s b → IsBefore a.end b.begin → shows a.answer ≡ Some v → IsChosen s.cfg s.casts key w b.name → v < w

-- a read of the object that has its place at this version, and ended at this tick
pub record IsReadOf (key : List ℕ) (s : State) (v tick : ℕ) (a : CallRec) : Type 0 where
  pub of : IsOf key s a
  pub reads : is_read a.call ≡ true
  pub place : place_of key s.calls a ≡ Some v
  pub ended : a.end ≡ Some tick

number_means : (n : ℕ) (o : Option ℕ) → is_number n o ≡ true → o ≡ Some n
number_means n None e = cc
number_means n (Some k) e = ap Some (eqb-true k n e)

number_from : (n : ℕ) (o : Option ℕ) → o ≡ Some n → is_number n o ≡ true
number_from n None e = cc
number_from n (Some k) e = let same : k ≡ n = cc in eq-eqb k n same

-- ---- the reads of a version

module _ (key : List ℕ) (s : State) (k : IsSerializable key s) where
  of_in : (a : CallRec) → IsIn a s.calls → key_of a.call ≡ key → IsOf key s a
  of_in a h own = let at = at_of_in s.calls a h in (at.0, at.1, own)

  read_found : (v tick : ℕ) (a : CallRec) → IsIn a (filter (is_read_at key s.calls v tick) s.calls) → IsReadOf key s v tick a
  read_found v tick a h =
      let kept = filter_in (is_read_at key s.calls v tick) s.calls a h in
      let last = and_parts (is_about key a && is_read a.call && is_number v (place_of key s.calls a)) (is_number tick a.end) kept.1 in
      let third = and_parts (is_about key a && is_read a.call) (is_number v (place_of key s.calls a)) last.0 in
      let first = and_parts (is_about key a) (is_read a.call) third.0 in
      let own = about_means key a first.0 in
      let of = of_in a kept.0 own in
      record { of = of; reads = first.1; place = number_means v (place_of key s.calls a) third.1; ended = number_means tick a.end last.1 }

  read_kept : (v tick : ℕ) (a : CallRec) → IsReadOf key s v tick a → IsIn a (filter (is_read_at key s.calls v tick) s.calls)
  read_kept v tick a r =
      let about = about_from key a r.of.2 in
      let place = number_from v (place_of key s.calls a) r.place in
      let ended = number_from tick a.end r.ended in
      in_filter (is_read_at key s.calls v tick) s.calls a (in_at s.calls r.of.0 a r.of.1)
      (and_from (is_about key a && is_read a.call && is_number v (place_of key s.calls a)) (is_number tick a.end)
      (and_from (is_about key a && is_read a.call) (is_number v (place_of key s.calls a)) (and_from (is_about key a) (is_read a.call) about r.reads) place) ended)

  pub reads_found : (v : ℕ) (a : CallRec) → IsIn a (reads_at s key v) → (tick : ℕ) × IsReadOf key s v tick a
  reads_found v a h = let b = in_blocks (λ tick. filter (is_read_at key s.calls v tick) s.calls) (length s.journal) a h in (b.0, read_found v b.0 a b.2)

  reads_kept : (v tick : ℕ) (a : CallRec) → IsReadOf key s v tick a → IsIn a (reads_at s key v)
  reads_kept v tick a r = blocks_in (λ t. filter (is_read_at key s.calls v t) s.calls) (length s.journal) tick a (k.over r.of.0 tick a r.of.1 r.ended) (read_kept v tick a r)

  -- ---- the write of a version

  pub one_write : (v : ℕ) (x : Name) (a : CallRec) → IsChosen s.cfg s.casts key v x → IsOf key s a → a.name ≡ x → write_at s key v ≡ a ∷ []
  one_write zero x a h of name = absurd (omega (arith, k.positive 0 x h))
  one_write (suc v) x a h of name = ap (named s.calls) (chosen_at_is key s (suc v) x k.config k.one h) ∙ one_has_name s.calls a x k.apart (in_at s.calls of.0 a of.1) name

  -- two calls of one name are one
  pub same_call : (a b : CallRec) → IsOf key s a → IsOf key s b → a.name ≡ b.name → a ≡ b
  same_call a b p q name =
      let x = a.name in
      let one = one_has_name s.calls a x k.apart (in_at s.calls p.0 a p.1) refl in
      let two = one_has_name s.calls b x k.apart (in_at s.calls q.0 b q.1) (sym name) in
      let both : a ∷ [] ≡ b ∷ [] = sym one ∙ two in
      cc

  -- a write of a version
  record IsWriteOf (v : ℕ) (a : CallRec) : Type 0 where
    pub of : IsOf key s a
    pub chosen : IsChosen s.cfg s.casts key v a.name
    pub write : IsWrite a.call
    pub effect : MayTakeEffect a.answer

  write_of : (v : ℕ) (a : CallRec) (x : Name) → IsChosen s.cfg s.casts key v x → IsIn a (write_at s key v) → IsWriteOf v a
  write_of v a x h is =
      let w = k.written v x h in
      let one = one_write v x w.call h w.of w.name_is in
      let same : a ≡ w.call = only (subst (IsIn a) one is) in
      subst (λ (q : CallRec). IsWriteOf v q) (sym same) (record { of = w.of; chosen = subst (IsChosen s.cfg s.casts key v) (sym w.name_is) h; write = w.write; effect = w.effect })
    where
      only : {w : CallRec} → IsIn a (w ∷ []) → a ≡ w
      only (inl e) = e
      only (inr e) = absurd e

  found_write : (v : ℕ) (a : CallRec) → IsIn a (write_at s key v) → IsWriteOf v a
  found_write zero a h = absurd h
  found_write (suc v) a h = by_name (chosen_at s key (suc v)) refl h
    where
      by_name : (o : Option Name) → chosen_at s key (suc v) ≡ o → IsIn a (named s.calls o) → IsWriteOf (suc v) a
      by_name None e h = absurd h
      by_name (Some x) e h = write_of (suc v) a x (is_chosen_at key s (suc v) x e) (subst (λ (o : Option Name). IsIn a (named s.calls o)) (sym e) h)

  -- ---- what stands at a version

  data StandsAt (v : ℕ) (a : CallRec) : Type 0 where
    writes : IsWriteOf v a → StandsAt v a
    reads : (tick : ℕ) → IsReadOf key s v tick a → StandsAt v a

  stands_at : (v : ℕ) (a : CallRec) → IsIn a (write_at s key v ++ reads_at s key v) → StandsAt v a
  stands_at v a h = elim (in_cases a (write_at s key v) (reads_at s key v) h) [
    | inl e ↦ writes (found_write v a e)
    | inr e ↦ (let r = reads_found v a e in reads r.0 r.1)
  ]

  abbrev at_version : ℕ → List CallRec
  at_version v = write_at s key v ++ reads_at s key v

  abbrev top : ℕ
  top = top_of s key

  abbrev reads_by : ℕ → ℕ → List CallRec
  reads_by v tick = filter (is_read_at key s.calls v tick) s.calls

  write_here : (v : ℕ) (x : Name) (a : CallRec) → IsChosen s.cfg s.casts key v x → IsOf key s a → a.name ≡ x → IsIn a (write_at s key v)
  write_here v x a h of name = subst (IsIn a) (sym (one_write v x a h of name)) (inl refl)

  write_low : (v : ℕ) (x : Name) → IsChosen s.cfg s.casts key v x → v ≤ top
  write_low v x h = chosen_low key s v x k.config k.one (k.positive v x h) h

  shown_low : (a : CallRec) (v : ℕ) → IsOf key s a → shows a.answer ≡ Some v → v ≤ top
  shown_low a v of e = elim (k.shown a v of e) [ inl z ↦ omega (arith, z) | inr h ↦ write_low v h.0 h.1 ]

  -- a call that stands at a version wrote it, or has its place there as a read
  data ShowsAt (v : ℕ) (a : CallRec) : Type 0 where
    wrote : IsChosen s.cfg s.casts key v a.name → IsWrite a.call → ShowsAt v a
    read : (tick : ℕ) → IsReadOf key s v tick a → ShowsAt v a

  wrote_shown : (own : Name) (answer : Option Answer) (v : ℕ) → IsWriteAnswer answer → shows answer ≡ Some v → names own answer ≡ Some own
  wrote_shown own (Some (Placed u)) v fits e = refl
  wrote_shown own (Some (Thin u stored)) v fits e = refl
  wrote_shown own None v fits e = cc
  wrote_shown own (Some (Short stored)) v fits e = cc
  wrote_shown own (Some (NoQuorum phase heard)) v fits e = cc
  wrote_shown own (Some (Contended met)) v fits e = cc
  wrote_shown own (Some (Unsure why)) v fits e = cc
  wrote_shown own (Some answer) v fits e = absurd fits

  kind_of : (own : Name) (call : Call) (answer : Option Answer) (v : ℕ) → Fits call answer → shows answer ≡ Some v → (IsWrite call × (names own answer ≡ Some own)) ⊎ (is_read call ≡ true)
  kind_of own (Put q bytes) answer v fits e = inl (tt, wrote_shown own answer v fits e)
  kind_of own (Delete q) answer v fits e = inl (tt, wrote_shown own answer v fits e)
  kind_of own (Get q) answer v fits e = inr refl
  kind_of own (GetAt q version) answer v fits e = inr refl
  kind_of own (Collect q keep) answer v fits e = absurd fits

  answer_there : (answer : Option Answer) (v : ℕ) → shows answer ≡ Some v → is_some answer ≡ true
  answer_there None v e = cc
  answer_there (Some answer) v e = refl

  end_there : (end : Option ℕ) → is_some end ≡ true → (tick : ℕ) × (end ≡ Some tick)
  end_there None e = cc
  end_there (Some tick) e = (tick, refl)

  ends_low : (end : Option ℕ) (begin tick : ℕ) → end ≡ Some tick → IsBefore end begin → tick < begin
  ends_low end begin tick e h = subst (λ (o : Option ℕ). IsBefore o begin) e h

  -- of the version at which a call stands: a call of the object shows it, and ended before whatever that one ended before
  record IsShownBy (v : ℕ) (a : CallRec) : Type 0 where
    pub call : CallRec
    pub of : IsOf key s call
    pub shows_it : shows call.answer ≡ Some v
    pub before : (begin : ℕ) → IsBefore a.end begin → IsBefore call.end begin

  shown_by_self : (v : ℕ) (a : CallRec) → IsOf key s a → shows a.answer ≡ Some v → IsShownBy v a
  shown_by_self v a of e = record { call = a; of = of; shows_it = e; before = λ begin h. h }

  ends_first : (end tick begin : ℕ) (o d : Option ℕ) → o ≡ Some tick → IsBefore d end → end < tick → IsBefore o begin → IsBefore d begin
  ends_first end tick begin o None e low lt h = absurd low
  ends_first end tick begin o (Some first) e low lt h = let after = ends_low o begin tick e h in omega (arith, low, lt, after)

  shown_by_shower : (v w tick : ℕ) (a : CallRec) → IsReadOf key s w tick a → v < shown_before key s.calls a.begin → w ≡ max v (shown_before key s.calls a.begin) → IsShownBy w a
  shown_by_shower v w tick a r lt is =
      let d = shown_found key s.calls a.begin (omega (arith, lt)) in
      let same : shown_before key s.calls a.begin ≡ w = omega (arith, lt, is) in
      let later = k.later r.of.0 tick a r.of.1 r.ended in
      record { call = d.call; of = of_in d.call d.found d.about; shows_it = d.shows_it ∙ ap Some same; before = λ begin h. ends_first a.begin tick begin a.end d.call.end r.ended d.before later h }

  -- the place of a read
  pub record IsPlacedRead (w : ℕ) (a : CallRec) : Type 0 where
    pub version : ℕ
    pub shows_it : shows a.answer ≡ Some version
    pub place : (stands a.call a.answer ≡ Some w) ⊎ ((stands a.call a.answer ≡ None) × (w ≡ max version (shown_before key s.calls a.begin)))

  pub placed_read : (w tick : ℕ) (a : CallRec) → IsReadOf key s w tick a → IsPlacedRead w a
  placed_read w tick a r =
      let p = placed_of (stands a.call a.answer) (shows a.answer) (shown_before key s.calls a.begin) w r.place in
      record { version = p.0; shows_it = p.1; place = p.2 }

  -- is at the version that it shows, or above
  pub place_least : (v w tick : ℕ) (a : CallRec) → IsReadOf key s w tick a → shows a.answer ≡ Some v → v ≤ w
  place_least v w tick a r e = let p = placed_read w tick a r in elim p.place [
    | inl latest ↦ (let both : Some v ≡ Some w = sym e ∙ stands_shows a.call a.answer w latest in let same : v ≡ w = cc in omega (arith, same))
    | inr after ↦ (let both : Some v ≡ Some p.version = sym e ∙ p.shows_it in let same : v ≡ p.version = cc in let is = after.1 in omega (arith, same, is))
  ]

  -- and a call shows it
  shown_by : (w tick : ℕ) (a : CallRec) → IsReadOf key s w tick a → IsShownBy w a
  shown_by w tick a r = let p = placed_read w tick a r in elim p.place [
    | inl latest ↦ shown_by_self w a r.of (stands_shows a.call a.answer w latest)
    | inr after ↦ elim (cases_lt p.version (shown_before key s.calls a.begin)) [
      | inl lt ↦ shown_by_shower p.version w tick a r lt after.1
      | inr ge ↦ (let is = after.1 in let same : p.version ≡ w = omega (arith, ge, is) in shown_by_self w a r.of (p.shows_it ∙ ap Some same))
    ]
  ]

  -- and it is at what was shown before the read began, or above
  place_after : (a b : CallRec) (v l tick : ℕ) → IsOf key s a → shows a.answer ≡ Some v → IsBefore a.end b.begin → IsReadOf key s l tick b → v ≤ l
  place_after a b v l tick of e before r = let p = placed_read l tick b r in elim p.place [
    | inl latest ↦ k.order a b v l of r.of before e latest
    | inr after ↦ (let low = shown_most key s.calls b.begin a v (in_at s.calls of.0 a of.1) of.2 before e in let is = after.1 in omega (arith, low, is))
  ]

  -- where a call stands whose answer shows a version: there or above
  record Stands (a : CallRec) (v : ℕ) : Type 0 where
    pub version : ℕ
    pub least : v ≤ version
    pub here : ShowsAt version a
    pub by : IsShownBy version a

  shows_at : (a : CallRec) (v : ℕ) → IsOf key s a → shows a.answer ≡ Some v → Stands a v
  shows_at a v of e = elim (kind_of a.name a.call a.answer v (k.fits a of) e) [
    | inl w ↦ record { version = v; least = omega arith; here = wrote (k.named a v a.name of e w.1) w.0; by = shown_by_self v a of e }
    | inr kind ↦ (let end = end_there a.end (k.answered of.0 a of.1 ∙ answer_there a.answer v e) in
        let place = place_there (stands a.call a.answer) (shows a.answer) (shown_before key s.calls a.begin) v e in
        let r : IsReadOf key s place.0 end.0 a = record { of = of; reads = kind; place = place.1; ended = end.1 } in
        record { version = place.0; least = place_least v place.0 end.0 a r e; here = read end.0 r; by = shown_by place.0 end.0 a r })
  ]

  -- it stands at that version
  shown_here : (a : CallRec) (v : ℕ) → IsOf key s a → ShowsAt v a → IsIn a (at_version v)
  shown_here a v of (wrote h write) = in_left a (write_at s key v) (reads_at s key v) (write_here v a.name a h of refl)
  shown_here a v of (read tick r) = in_right a (write_at s key v) (reads_at s key v) (reads_kept v tick a r)

  -- ---- who stands in the order

  stands_low : (a : CallRec) (v : ℕ) → (at : Stands a v) → at.version ≤ top
  stands_low a v at = shown_low at.by.call at.version at.by.of at.by.shows_it

  pub listed : (a : CallRec) (v : ℕ) → IsOf key s a → shows a.answer ≡ Some v → IsIn a (order_of s key)
  listed a v of e = let at = shows_at a v of e in blocks_in at_version top at.version a (stands_low a v at) (shown_here a at.version of at.here)

  pub chosen_listed : (v : ℕ) (x : Name) → IsChosen s.cfg s.casts key v x → (a : CallRec) × IsIn a (order_of s key) × (a.name ≡ x)
  chosen_listed v x h =
      let w = k.written v x h in
      (w.call, blocks_in at_version top v w.call (write_low v x h) (in_left w.call (write_at s key v) (reads_at s key v) (write_here v x w.call h w.of w.name_is)), w.name_is)

  effect_shown : (answer : Option Answer) (v : ℕ) → shows answer ≡ Some v → MayTakeEffect answer
  effect_shown None v e = tt
  effect_shown (Some (Placed u)) v e = tt
  effect_shown (Some (Thin u stored)) v e = tt
  effect_shown (Some (Short stored)) v e = cc
  effect_shown (Some (Bytes u name bytes)) v e = tt
  effect_shown (Some (Incomplete u name fates)) v e = tt
  effect_shown (Some (Gone u name)) v e = tt
  effect_shown (Some Absent) v e = tt
  effect_shown (Some (Unborn latest)) v e = tt
  effect_shown (Some (Collected floor)) v e = tt
  effect_shown (Some (Swept floor dropped)) v e = tt
  effect_shown (Some (Held why)) v e = tt
  effect_shown (Some (NoQuorum phase heard)) v e = cc
  effect_shown (Some (Contended met)) v e = cc
  effect_shown (Some (Unsure why)) v e = tt

  standing_call : (v : ℕ) (a : CallRec) → StandsAt v a → IsOf key s a × MayTakeEffect a.answer
  standing_call v a (writes w) = (w.of, w.effect)
  standing_call v a (reads tick r) = let p = placed_read v tick a r in (r.of, effect_shown a.answer p.version p.shows_it)

  pub calls_of : (a : CallRec) → IsIn a (order_of s key) → IsOf key s a × MayTakeEffect a.answer
  calls_of a h = let b = in_blocks at_version top a h in standing_call b.0 a (stands_at b.0 a b.2)

  -- ---- in which order

  before_read : (a b : CallRec) (v tick : ℕ) → IsOf key s a → IsBefore a.end b.begin → ShowsAt v a → IsReadOf key s v tick b → StandsBefore (at_version v) a b
  before_read a b v tick of before (wrote h write) r = before_across (write_at s key v) (reads_at s key v) a b (write_here v a.name a h of refl) (reads_kept v tick b r)
  before_read a b v tick of before (read t q) r =
      let low = ends_low a.end b.begin t q.ended before in
      let later = k.later r.of.0 tick b r.of.1 r.ended in
      before_right (write_at s key v) (reads_at s key v) a b
      (blocks_before (reads_by v) (length s.journal) t tick a b (omega (arith, low, later)) (k.over r.of.0 tick b r.of.1 r.ended) (read_kept v t a q) (read_kept v tick b r))

  before_standing : (a b : CallRec) (v l : ℕ) → IsOf key s a → (at : Stands a v) → IsBefore a.end b.begin → l ≤ top → IsIn b (at_version l) → StandsAt l b → StandsBefore (order_of s key) a b
  before_standing a b v l of at before le here (writes w) =
      let by = at.by in
      blocks_before at_version top at.version l a b (k.above by.call b at.version l by.of w.of (by.before b.begin before) by.shows_it w.chosen) le (shown_here a at.version of at.here) here
  before_standing a b v l of at before le here (reads tick r) =
      let by = at.by in
      let low = place_after by.call b at.version l tick by.of by.shows_it (by.before b.begin before) r in
      elim (cases_eq at.version l) [
        | inl same ↦ blocks_within at_version top at.version a b (stands_low a v at) (before_read a b at.version tick of before at.here (subst (λ (u : ℕ). IsReadOf key s u tick b) (sym same) r))
        | inr ne ↦ blocks_before at_version top at.version l a b (lt_of_le_of_ne low ne) le (shown_here a at.version of at.here) here
      ]

  pub ordered : (a b : CallRec) (v : ℕ) → IsOf key s a → shows a.answer ≡ Some v → IsIn b (order_of s key) → IsBefore a.end b.begin → StandsBefore (order_of s key) a b
  ordered a b v of e h before = let l = in_blocks at_version top b h in before_standing a b v l.0 of (shows_at a v of e) before l.1 l.2 (stands_at l.0 b l.2)

  -- ---- each once

  no_read_writes : (v u tick : ℕ) (a : CallRec) → IsWriteOf v a → IsReadOf key s u tick a → ⊥
  no_read_writes v u tick a w r = read_no_write a.call r.reads w.write

  write_once : (v : ℕ) (a : CallRec) → StandsBefore (write_at s key v) a a → ⊥
  write_once zero a h = absurd h
  write_once (suc v) a h = by_name (chosen_at s key (suc v)) h
    where
      by_name : (o : Option Name) → StandsBefore (named s.calls o) a a → ⊥
      by_name None h = absurd h
      by_name (Some x) h = k.apart a a (filter_before (λ (d : CallRec). same_name d.name x) s.calls a a h) refl

  reads_once : (v : ℕ) (a : CallRec) → InBlocks (reads_by v) (length s.journal) a a → ⊥
  reads_once v a (one_block t le h) = k.apart a a (filter_before (is_read_at key s.calls v t) s.calls a a h) refl
  reads_once v a (two_blocks t u lt le h g) =
      let both : Some t ≡ Some u = sym (read_found v t a h).ended ∙ (read_found v u a g).ended in
      let same : t ≡ u = cc in
      absurd (omega (arith, lt, same))

  version_once : (v : ℕ) (a : CallRec) → Befores (write_at s key v) (reads_at s key v) a a → ⊥
  version_once v a (lefts h) = write_once v a h
  version_once v a (rights h) = reads_once v a (blocks_cases (reads_by v) (length s.journal) a a h)
  version_once v a (each h g) = let r = reads_found v a g in no_read_writes v v r.0 a (found_write v a h) r.1

  at_one : (v u : ℕ) (a : CallRec) → StandsAt v a → StandsAt u a → v ≡ u
  at_one v u a (writes w) (writes x) = k.once v u a.name w.chosen x.chosen
  at_one v u a (writes w) (reads tick r) = absurd (no_read_writes v u tick a w r)
  at_one v u a (reads tick r) (writes w) = absurd (no_read_writes u v tick a w r)
  at_one v u a (reads tick r) (reads t q) = let both : Some v ≡ Some u = sym r.place ∙ q.place in cc

  never_twice : (a : CallRec) → InBlocks at_version top a a → ⊥
  never_twice a (one_block v le h) = version_once v a (before_cases (write_at s key v) (reads_at s key v) a a h)
  never_twice a (two_blocks v u lt le h g) = let same = at_one v u a (stands_at v a h) (stands_at u a g) in absurd (omega (arith, lt, same))

  before_in : (xs : List CallRec) (a b : CallRec) → StandsBefore xs a b → IsIn a xs × IsIn b xs
  before_in xs a b h = let at = before_at xs a b h in (in_at xs at.0 a at.3, in_at xs at.1 b at.4)

  pub each_once : (a b : CallRec) → StandsBefore (order_of s key) a b → a.name ≡ b.name → ⊥
  each_once a b h name =
      let both = before_in (order_of s key) a b h in
      let same = same_call a b (calls_of a both.0).0 (calls_of b both.1).0 name in
      never_twice a (blocks_cases at_version top a a (subst (StandsBefore (order_of s key) a) (sym same) h))
