-- The register, run from the empty one over the order of an object's calls, gives each call its answer.
use Rattle.std.proofs.Common.{◌≡◌, ℕ, zero, suc, ◌+◌, ◌≤◌, inl, inr, List, [], ◌∷◌, ◌++◌, Some, None, true, length, refl, ap, sym, ◌∙◌, subst, arith, length-append}
use Rattle.std.proofs.lemmas.Bool.{cases_eq}
use Rattle.std.specs.Prelude.{Option}
use Rattle.gz_core.specs.Names.{Name}
use Rattle.gz_core.specs.declared.calls.Answer.{Answer}
use Rattle.gz_core.specs.declared.calls.Answer.TheVariants.{Ok as Placed, Thin, Short, Bytes, Incomplete, Gone, Absent, Unborn, Collected, NoQuorum, Contended, Unsure}
use Rattle.gz_core.specs.declared.calls.Call.{Call}
use Rattle.gz_core.specs.declared.calls.Call.TheVariants.{Put, Delete, Get, GetAt, Collect}
use Rattle.gz_history.specs.Answers.{shows, latest_told, stands, names, read_from, bytes_read, bytes_written, IsWrite, IsPut, IsDelete, Writes, MayTakeEffect, IsOfVersion, AnswersAsked}
use Rattle.gz_history.specs.declared.record.CallRec.{CallRec}
use Rattle.gz_ledger.specs.Histories.{IsIn}
use Rattle.gz_model.specs.Casts.{IsChosen}
use Rattle.gz_world.specs.States.{State}
use Rattle.gz_world.proofs.Places.{get_append, get_last}
use Rattle.gz_laws.specs.Register.{Item, item_at, added, Gives, PlacesAt, GivesLast, GivesVersion, AnswersAs, RunsFrom}
use Rattle.gz_laws.specs.Serial.{blocks, is_read, reads_at, write_at, order_of, top_of, IsOf}
use Rattle.gz_laws.proofs.Agreeing.{stands_shows}
use Rattle.gz_laws.proofs.ChosenAt.{top_is}
use Rattle.gz_laws.proofs.Ordered.{below_next}
use Rattle.gz_laws.proofs.Serializing.{IsSerializable, IsReadOf, IsWriter, IsWriterOf, IsWriteAnswer, IsReadAnswer, IsVersionAnswer, Fits, placed_read, place_least, reads_found, one_write, same_call}

-- ---- runs

-- the register after some calls
after : List Item → List CallRec → List Item
after reg [] = reg
after reg (a ∷ calls) = after (added reg a.name a.call) calls

runs_append : (reg : List Item) (xs ys : List CallRec) → RunsFrom reg xs → RunsFrom (after reg xs) ys → RunsFrom reg (xs ++ ys)
unfolding after
runs_append reg [] ys h g = g
runs_append reg (a ∷ xs) ys h g = (h.0, runs_append (added reg a.name a.call) xs ys h.1 g)

after_append : (reg : List Item) (xs ys : List CallRec) → after reg (xs ++ ys) ≡ after (after reg xs) ys
unfolding after
after_append reg [] ys = refl
after_append reg (a ∷ xs) ys = after_append (added reg a.name a.call) xs ys

-- what a call writes
item_of : CallRec → Item
item_of a = record { name = a.name; bytes = bytes_written a.call }

write_adds : (reg : List Item) (a : CallRec) (call : Call) → a.call ≡ call → IsWrite call → added reg a.name a.call ≡ reg ++ item_of a ∷ []
unfolding item_of
write_adds reg a (Put key bytes) e write = ap (added reg a.name) e ∙ ap (λ (o : Option (List ℕ)). let item : Item = record { name = a.name; bytes = o } in reg ++ item ∷ []) (sym (ap bytes_written e))
write_adds reg a (Delete key) e write = ap (added reg a.name) e ∙ ap (λ (o : Option (List ℕ)). let item : Item = record { name = a.name; bytes = o } in reg ++ item ∷ []) (sym (ap bytes_written e))
write_adds reg a (Get key) e write = absurd write
write_adds reg a (GetAt key version) e write = absurd write
write_adds reg a (Collect key keep) e write = absurd write

read_adds_nothing : (reg : List Item) (name : Name) (call : Call) → is_read call ≡ true → added reg name call ≡ reg
read_adds_nothing reg name (Put key bytes) reads = cc
read_adds_nothing reg name (Delete key) reads = cc
read_adds_nothing reg name (Get key) reads = refl
read_adds_nothing reg name (GetAt key version) reads = refl
read_adds_nothing reg name (Collect key keep) reads = refl

same_number : (n u : ℕ) → Some n ≡ Some u → n ≡ u
same_number n u e = cc

-- an answer that gives what a put or delete wrote
abbrev IsGiving : Answer → Type 0
IsGiving (Bytes version name bytes) = Unit {0}
IsGiving (Incomplete version name fates) = Unit {0}
IsGiving (Gone version name) = Unit {0}
IsGiving answer = ⊥

writes_as : (reg : List Item) (call : Call) (answer : Option Answer) → IsWrite call → PlacesAt (length reg + 1) answer → AnswersAs reg call answer
writes_as reg (Put key bytes) answer write h = h
writes_as reg (Delete key) answer write h = h
writes_as reg (Get key) answer write h = absurd write
writes_as reg (GetAt key version) answer write h = absurd write
writes_as reg (Collect key keep) answer write h = absurd write

put_bytes : (call : Call) → IsPut call → (bytes : List ℕ) × (bytes_written call ≡ Some bytes)
put_bytes (Put key bytes) put = (bytes, refl)
put_bytes (Delete key) put = absurd put
put_bytes (Get key) put = absurd put
put_bytes (GetAt key version) put = absurd put
put_bytes (Collect key keep) put = absurd put

delete_bytes : (call : Call) → IsDelete call → bytes_written call ≡ None
delete_bytes (Put key bytes) del = absurd del
delete_bytes (Delete key) del = refl
delete_bytes (Get key) del = refl
delete_bytes (GetAt key version) del = refl
delete_bytes (Collect key keep) del = refl

kept_item : (reg : List Item) (item : Item) (u : ℕ) (x : Item) → item_at reg u ≡ Some x → item_at (reg ++ item ∷ []) u ≡ Some x
kept_item reg item zero x h = cc
kept_item reg item (suc i) x h = get_append reg (item ∷ []) i x h

last_item : (reg : List Item) (item : Item) → item_at (reg ++ item ∷ []) (suc (length reg)) ≡ Some item
last_item reg item = get_last reg item

module _ (key : List ℕ) (s : State) (k : IsSerializable key s) where
  -- a register that has the item of each version up to this one
  record Holds (reg : List Item) (v : ℕ) : Type 0 where
    pub len : length reg ≡ v
    pub items : (u : ℕ) (a : CallRec) → u ≤ v → IsOf key s a → IsChosen s.cfg s.casts key u a.name → item_at reg u ≡ Some (item_of a)

  -- ---- reads

  -- the call that a read names is that of the item of the version that it shows
  read_item : (reg : List Item) (v u tick : ℕ) (b : CallRec) (x : Name) → Holds reg v → IsReadOf key s v tick b → shows b.answer ≡ Some u → names b.name b.answer ≡ Some x → (w : IsWriterOf key s b x) → item_at reg u ≡ Some (item_of w.call)
  read_item reg v u tick b x h r shown named w =
      let chosen = subst (IsChosen s.cfg s.casts key u) (sym w.name_is) (k.named b u x r.of shown named) in
      h.items u w.call (place_least key s k u v tick b r shown) w.of chosen

  item_is : (w : CallRec) (x : Name) (o : Option (List ℕ)) → w.name ≡ x → bytes_written w.call ≡ o → (let item : Item = record { name = x; bytes = o } in item_of w ≡ item)
  unfolding item_of
  item_is w x o name bytes = rw (name, bytes) refl

  -- it gives that item
  gives_item : (reg : List Item) (v u tick : ℕ) (b : CallRec) (answer : Answer) → Holds reg v → IsReadOf key s v tick b → b.answer ≡ Some answer → IsGiving answer → shows (Some answer) ≡ Some u → Gives reg u answer
  gives_item reg v u tick b (Bytes n x bytes) h r e giving shown =
      let w = k.read b x r.of (ap read_from e) in
      let is = read_item reg v u tick b x h r (ap shows e ∙ shown) (ap (names b.name) e) w in
      (same_number n u shown, is ∙ ap Some (item_is w.call x (Some bytes) w.name_is (w.bytes_are bytes (ap bytes_read e))))
  gives_item reg v u tick b (Incomplete n x fates) h r e giving shown =
      let w = k.read b x r.of (ap read_from e) in
      let put : IsPut w.call.call = subst (λ (a : Option Answer). Writes a w.call.call) e w.writes in
      let bytes = put_bytes w.call.call put in
      let is = read_item reg v u tick b x h r (ap shows e ∙ shown) (ap (names b.name) e) w in
      (same_number n u shown, bytes.0, is ∙ ap Some (item_is w.call x (Some bytes.0) w.name_is bytes.1))
  gives_item reg v u tick b (Gone n x) h r e giving shown =
      let w = k.read b x r.of (ap read_from e) in
      let del : IsDelete w.call.call = subst (λ (a : Option Answer). Writes a w.call.call) e w.writes in
      let is = read_item reg v u tick b x h r (ap shows e ∙ shown) (ap (names b.name) e) w in
      (same_number n u shown, is ∙ ap Some (item_is w.call x None w.name_is (delete_bytes w.call.call del)))
  gives_item reg v u tick b answer h r e giving shown = absurd giving

  -- a read of the latest version has its place at the version that it shows
  get_shows : (v tick : ℕ) (b : CallRec) (q : List ℕ) → b.call ≡ Get q → IsReadOf key s v tick b → shows b.answer ≡ Some v
  get_shows v tick b q is r =
      let p = placed_read key s k v tick b r in
      let latest : stands b.call b.answer ≡ Some p.version = ap (λ (c : Call). stands c b.answer) is ∙ p.shows_it in
      elim p.place [
        | inl at ↦ stands_shows b.call b.answer v at
        | inr after ↦ (let bad : None ≡ Some p.version = sym after.0 ∙ latest in cc)
      ]

  gives_last : (reg : List Item) (v tick : ℕ) (b : CallRec) (o : Option Answer) → Holds reg v → IsReadOf key s v tick b → b.answer ≡ o → shows o ≡ Some v → IsReadAnswer o → GivesLast reg o
  gives_last reg v tick b None h r e shown fits = cc
  gives_last reg v tick b (Some Absent) h r e shown fits = h.len ∙ sym (same_number 0 v shown)
  gives_last reg v tick b (Some (Bytes u x bytes)) h r e shown fits = subst (λ n. Gives reg n (Bytes u x bytes)) (sym h.len) (gives_item reg v v tick b (Bytes u x bytes) h r e tt shown)
  gives_last reg v tick b (Some (Incomplete u x fates)) h r e shown fits = subst (λ n. Gives reg n (Incomplete u x fates)) (sym h.len) (gives_item reg v v tick b (Incomplete u x fates) h r e tt shown)
  gives_last reg v tick b (Some (Gone u x)) h r e shown fits = subst (λ n. Gives reg n (Gone u x)) (sym h.len) (gives_item reg v v tick b (Gone u x) h r e tt shown)
  gives_last reg v tick b (Some (Short stored)) h r e shown fits = cc
  gives_last reg v tick b (Some (Unsure why)) h r e shown fits = cc
  gives_last reg v tick b (Some (NoQuorum phase heard)) h r e shown fits = cc
  gives_last reg v tick b (Some (Contended met)) h r e shown fits = cc
  gives_last reg v tick b (Some answer) h r e shown fits = absurd fits

  -- where a version that was asked for has not begun, the read has its place at the latest one
  unborn_place : (v tick version latest : ℕ) (b : CallRec) (q : List ℕ) → b.call ≡ GetAt q version → b.answer ≡ Some (Unborn latest) → IsReadOf key s v tick b → latest ≡ v
  unborn_place v tick version latest b q is e r =
      let p = placed_read key s k v tick b r in
      let told : stands b.call b.answer ≡ Some latest = ap (λ (c : Call). stands c b.answer) is ∙ ap latest_told e in
      elim p.place [
        | inl at ↦ (let both : Some latest ≡ Some v = sym told ∙ at in cc)
        | inr after ↦ (let bad : None ≡ Some latest = sym after.0 ∙ told in cc)
      ]

  gives_version : (reg : List Item) (v tick version u : ℕ) (q : List ℕ) (b : CallRec) (o : Option Answer) → Holds reg v → IsReadOf key s v tick b → b.call ≡ GetAt q version → b.answer ≡ o → shows o ≡ Some u → IsVersionAnswer o → IsOfVersion version o → GivesVersion reg version o
  gives_version reg v tick version u q b None h r is e shown fits asked = cc
  gives_version reg v tick version u q b (Some (Bytes n x bytes)) h r is e shown fits asked = subst (λ i. Gives reg i (Bytes n x bytes)) asked (gives_item reg v n tick b (Bytes n x bytes) h r e tt refl)
  gives_version reg v tick version u q b (Some (Incomplete n x fates)) h r is e shown fits asked = subst (λ i. Gives reg i (Incomplete n x fates)) asked (gives_item reg v n tick b (Incomplete n x fates) h r e tt refl)
  gives_version reg v tick version u q b (Some (Gone n x)) h r is e shown fits asked = subst (λ i. Gives reg i (Gone n x)) asked (gives_item reg v n tick b (Gone n x) h r e tt refl)
  gives_version reg v tick version u q b (Some (Unborn latest)) h r is e shown fits asked = (unborn_place v tick version latest b q is e r ∙ sym h.len, asked)
  gives_version reg v tick version u q b (Some (Collected floor)) h r is e shown fits asked =
      let least = place_least key s k (floor + 1) v tick b r (ap shows e) in
      let len = h.len in
      (asked, omega (arith, least, len))
  gives_version reg v tick version u q b (Some (Short stored)) h r is e shown fits asked = cc
  gives_version reg v tick version u q b (Some (Unsure why)) h r is e shown fits asked = cc
  gives_version reg v tick version u q b (Some (NoQuorum phase heard)) h r is e shown fits asked = cc
  gives_version reg v tick version u q b (Some (Contended met)) h r is e shown fits asked = cc
  gives_version reg v tick version u q b (Some answer) h r is e shown fits asked = absurd fits

  call_answers : (reg : List Item) (v tick : ℕ) (b : CallRec) (call : Call) → Holds reg v → IsReadOf key s v tick b → b.call ≡ call → is_read call ≡ true → Fits call b.answer → AnswersAsked call b.answer → AnswersAs reg call b.answer
  call_answers reg v tick b (Put q bytes) h r is reads fits asked = cc
  call_answers reg v tick b (Delete q) h r is reads fits asked = cc
  call_answers reg v tick b (Get q) h r is reads fits asked = gives_last reg v tick b b.answer h r refl (get_shows v tick b q is r) fits
  call_answers reg v tick b (GetAt q version) h r is reads fits asked = let p = placed_read key s k v tick b r in gives_version reg v tick version p.version q b b.answer h r is refl p.shows_it fits asked
  call_answers reg v tick b (Collect q keep) h r is reads fits asked = absurd fits

  read_answers : (reg : List Item) (v tick : ℕ) (b : CallRec) → Holds reg v → IsReadOf key s v tick b → AnswersAs reg b.call b.answer
  read_answers reg v tick b h r = call_answers reg v tick b b.call h r refl r.reads (k.fits b r.of) (k.asked b r.of)

  -- reads get their answers, and leave the register as it is
  reads_run : (reg : List Item) (v : ℕ) (xs : List CallRec) → Holds reg v → ((b : CallRec) → IsIn b xs → (tick : ℕ) × IsReadOf key s v tick b) → RunsFrom reg xs × (after reg xs ≡ reg)
  unfolding after
  reads_run reg v [] h all = (tt, refl)
  reads_run reg v (b ∷ xs) h all =
      let r = all b (inl refl) in
      let same = read_adds_nothing reg b.name b.call r.1.reads in
      let rest = reads_run reg v xs h (λ c i. all c (inr i)) in
      ((read_answers reg v r.0 b h r.1, subst (λ q. RunsFrom q xs) (sym same) rest.0), ap (λ q. after q xs) same ∙ rest.1)

  -- ---- a write

  placed_at : (n v : ℕ) (a : CallRec) (o : Option Answer) → n ≡ v → IsOf key s a → IsChosen s.cfg s.casts key v a.name → a.answer ≡ o → IsWriteAnswer o → MayTakeEffect o → PlacesAt n o
  placed_at n v a None at of h e fits effect = tt
  placed_at n v a (Some (Placed u)) at of h e fits effect = k.once u v a.name (k.named a u a.name of (ap shows e) (ap (names a.name) e)) h ∙ sym at
  placed_at n v a (Some (Thin u stored)) at of h e fits effect = k.once u v a.name (k.named a u a.name of (ap shows e) (ap (names a.name) e)) h ∙ sym at
  placed_at n v a (Some (Unsure why)) at of h e fits effect = tt
  placed_at n v a (Some (Short stored)) at of h e fits effect = absurd effect
  placed_at n v a (Some (NoQuorum phase heard)) at of h e fits effect = absurd effect
  placed_at n v a (Some (Contended met)) at of h e fits effect = absurd effect
  placed_at n v a (Some answer) at of h e fits effect = absurd fits

  write_fits : (call : Call) (answer : Option Answer) → IsWrite call → Fits call answer → IsWriteAnswer answer
  write_fits (Put q bytes) answer write fits = fits
  write_fits (Delete q) answer write fits = fits
  write_fits (Get q) answer write fits = absurd write
  write_fits (GetAt q version) answer write fits = absurd write
  write_fits (Collect q keep) answer write fits = absurd write

  write_answers : (reg : List Item) (v : ℕ) (x : Name) (w : IsWriter key s x) → Holds reg v → IsChosen s.cfg s.casts key (suc v) x → AnswersAs reg w.call.call w.call.answer
  write_answers reg v x w h chosen =
      let a = w.call in
      let len = h.len in
      let next : length reg + 1 ≡ suc v = omega (arith, len) in
      writes_as reg a.call a.answer w.write
      (placed_at (length reg + 1) (suc v) a a.answer next w.of (subst (IsChosen s.cfg s.casts key (suc v)) (sym w.name_is) chosen) refl (write_fits a.call a.answer w.write (k.fits a w.of)) w.effect)

  write_holds : (reg : List Item) (v : ℕ) (x : Name) (w : IsWriter key s x) → Holds reg v → IsChosen s.cfg s.casts key (suc v) x → Holds (reg ++ item_of w.call ∷ []) (suc v)
  write_holds reg v x w h chosen =
      let more = length-append reg (item_of w.call ∷ []) in
      let len = h.len in
      record {
        len = omega (arith, more, len);
        items = λ u a le of at. elim (cases_eq u (suc v)) [
          | inl e ↦ (let name : a.name ≡ x = k.one (suc v) a.name x (subst (λ (n : ℕ). IsChosen s.cfg s.casts key n a.name) e at) chosen in
              let same : a ≡ w.call = same_call key s k a w.call of w.of (name ∙ sym w.name_is) in
              let place : u ≡ suc (length reg) = e ∙ ap suc (sym len) in
              ap (item_at (reg ++ item_of w.call ∷ [])) place ∙ last_item reg (item_of w.call) ∙ ap (λ (q : CallRec). Some (item_of q)) (sym same))
          | inr ne ↦ kept_item reg (item_of w.call) u (item_of a) (h.items u a (below_next u v le ne) of at)
        ];
      }

  -- ---- version by version

  chosen_below : (v : ℕ) → suc v ≤ top_of s key → (x : Name) × IsChosen s.cfg s.casts key (suc v) x
  chosen_below v le = elim (top_is key s) [
    | inl z ↦ absurd (omega (arith, z, le))
    | inr h ↦ k.down (suc v) (top_of s key) h.0 h.1 (omega arith) le
  ]

  abbrev at_version : ℕ → List CallRec
  at_version v = write_at s key v ++ reads_at s key v

  record RunsTo (reg : List Item) (xs : List CallRec) (v : ℕ) : Type 0 where
    pub runs : RunsFrom reg xs
    pub holds : Holds (after reg xs) v

  then_reads : (reg : List Item) (v : ℕ) (xs : List CallRec) → RunsTo reg xs v → RunsTo reg (xs ++ reads_at s key v) v
  then_reads reg v xs h =
      let r = reads_run (after reg xs) v (reads_at s key v) h.holds (reads_found key s k v) in
      record { runs = runs_append reg xs (reads_at s key v) h.runs r.0; holds = subst (λ q. Holds q v) (sym (after_append reg xs (reads_at s key v) ∙ r.1)) h.holds }

  one_write_runs : (reg : List Item) (v : ℕ) (x : Name) (w : IsWriter key s x) → Holds reg v → IsChosen s.cfg s.casts key (suc v) x → RunsTo reg (w.call ∷ []) (suc v)
  unfolding after
  one_write_runs reg v x w h chosen = record {
    runs = (write_answers reg v x w h chosen, tt);
    holds = subst (λ q. Holds q (suc v)) (sym (write_adds reg w.call w.call.call refl w.write)) (write_holds reg v x w h chosen);
  }

  version_runs : (reg : List Item) (v : ℕ) → suc v ≤ top_of s key → Holds reg v → RunsTo reg (at_version (suc v)) (suc v)
  version_runs reg v le h =
      let chosen = chosen_below v le in
      let w = k.written (suc v) chosen.0 chosen.1 in
      then_reads reg (suc v) (write_at s key (suc v)) (subst (λ xs. RunsTo reg xs (suc v)) (sym (one_write key s k (suc v) chosen.0 w.call chosen.1 w.of w.name_is)) (one_write_runs reg v chosen.0 w h chosen.1))

  empty_runs : RunsTo [] [] 0
  unfolding after
  empty_runs = record { runs = tt; holds = record { len = refl; items = λ u a le of at. (let positive = k.positive u a.name at in absurd (omega (arith, le, positive))) } }

  blocks_run : (n : ℕ) → n ≤ top_of s key → RunsTo [] (blocks at_version n) n
  blocks_run zero le = then_reads [] 0 [] empty_runs
  blocks_run (suc n) le =
      let before = blocks_run n (omega (arith, le)) in
      let now = version_runs (after [] (blocks at_version n)) n le before.holds in
      record {
        runs = runs_append [] (blocks at_version n) (at_version (suc n)) before.runs now.runs;
        holds = subst (λ q. Holds q (suc n)) (sym (after_append [] (blocks at_version n) (at_version (suc n)))) now.holds;
      }

  pub register_runs : RunsFrom [] (order_of s key)
  register_runs = (blocks_run (top_of s key) (omega arith)).runs
