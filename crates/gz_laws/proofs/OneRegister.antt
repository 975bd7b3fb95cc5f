-- The calls of an object, in a world that is reached, are those of one register.
use Rattle.std.proofs.Common.{◌≡◌, ℕ, zero, suc, ◌+◌, ◌<◌, ◌≤◌, inl, inr, List, Some, None, ap, sym, ◌∙◌, subst, arith}
use Rattle.std.proofs.lemmas.Bool.{cases_eq}
use Rattle.std.specs.Prelude.{Option}
use Rattle.gz_config.specs.declared.Config.{Config}
use Rattle.gz_core.specs.Names.{Name}
use Rattle.gz_core.specs.declared.calls.Answer.{Answer}
use Rattle.gz_core.specs.declared.calls.Answer.TheVariants.{Ok as Placed, Thin, Short, Bytes, Incomplete, Gone, Absent, Unborn, Collected, NoQuorum, Contended, Unsure}
use Rattle.gz_core.specs.declared.calls.Call.{Call}
use Rattle.gz_core.specs.declared.calls.Call.TheVariants.{Put, Delete, Get, GetAt, Collect}
use Rattle.gz_core.specs.declared.values.Value.{Value}
use Rattle.gz_core.specs.declared.values.Value.TheVariants.{Tomb, Put as PutOf}
use Rattle.gz_core.specs.History.{Trace}
use Rattle.gz_core.proofs.Counting.{count_found}
use Rattle.gz_core.proofs.Quorums.{need_some}
use Rattle.gz_data.specs.Own.{IsOwn}
use Rattle.gz_round.specs.Starting.{IsWithin}
use Rattle.gz_round.specs.Targets.{target_of}
use Rattle.gz_round.specs.declared.run.Target.TheVariants.{Latest, At}
use Rattle.gz_client.specs.Traces.{IsAnswered}
use Rattle.gz_history.specs.Answers.{shows, read_from, stands}
use Rattle.gz_history.specs.Legal.{IsBefore, IsLegal}
use Rattle.gz_history.specs.declared.record.CallRec.{CallRec}
use Rattle.gz_ledger.specs.Histories.{IsShownByRows}
use Rattle.gz_ledger.specs.Transitions.{Transition, AreTransitions, seen_after}
use Rattle.gz_model.specs.Casts.{has_cast, IsChosen}
use Rattle.gz_world.specs.Reached.{IsReached, AllTell}
use Rattle.gz_world.specs.States.{State}
use Rattle.gz_laws.specs.Agreed.{AreAgreed}
use Rattle.gz_laws.specs.Heard.{unused}
use Rattle.gz_laws.specs.Serial.{IsOf, IsOneRegister}
use Rattle.gz_laws.proofs.Agreeing.{agreed, own_above, shown_positive}
use Rattle.gz_laws.proofs.Agreement.{agreement, chosen_seen, seen_chosen}
use Rattle.gz_laws.proofs.Legality.{IsKnownRun, proposer, known, legal, contains_get, get_contains}
use Rattle.gz_laws.proofs.Ordered.{AreNamedApart, before_at, below_next}
use Rattle.gz_laws.proofs.RegisterRuns.{register_runs}
use Rattle.gz_laws.proofs.RunAnswers.{call_trace, call_shown}
use Rattle.gz_laws.proofs.Serializing.{IsSerializable, IsWriter, IsWriterOf, IsWriteAnswer, IsReadAnswer, IsVersionAnswer, Fits, each_once, calls_of, chosen_listed, listed, ordered}

-- ---- each answer is one of its kind of call

own_apart : (own : Option Value) (x : Value) → own ≡ Some x → own ≡ None → ⊥
own_apart own x e h = let bad : Some x ≡ None = sym e ∙ h in cc

write_answer : (c : Config) (past : List Trace) (t : Trace) (x : Value) (answer : Option Answer) → t.caller.own ≡ Some x → IsAnswered c past t answer → IsWriteAnswer answer
write_answer c past t x None own h = tt
write_answer c past t x (Some (Placed v)) own h = tt
write_answer c past t x (Some (Thin v stored)) own h = tt
write_answer c past t x (Some (Short stored)) own h = tt
write_answer c past t x (Some (NoQuorum phase heard)) own h = tt
write_answer c past t x (Some (Contended met)) own h = tt
write_answer c past t x (Some (Unsure why)) own h = tt
write_answer c past t x (Some (Bytes v name bytes)) own h = absurd (own_apart t.caller.own x own h.1.2.reads)
write_answer c past t x (Some (Incomplete v name fates)) own h = absurd (own_apart t.caller.own x own h.1.2.reads)
write_answer c past t x (Some (Gone v name)) own h = absurd (own_apart t.caller.own x own h.1.reads)
write_answer c past t x (Some Absent) own h = absurd (own_apart t.caller.own x own h.1.reads)
write_answer c past t x (Some (Unborn latest)) own h = absurd (own_apart t.caller.own x own h.1.reads)
write_answer c past t x (Some (Collected floor)) own h = absurd (own_apart t.caller.own x own h.1.reads)
write_answer c past t x (Some answer) own h = absurd h

-- a call that asks for the latest version asks for none by its number
asks_latest : (call : Call) (version : ℕ) → target_of call ≡ Latest → target_of call ≡ At version → ⊥
asks_latest call version latest at = let bad : Latest ≡ At version = sym latest ∙ at in cc

asks_number : (call : Call) (version : ℕ) → target_of call ≡ At version → target_of call ≡ Latest → ⊥
asks_number call version at latest = asks_latest call version latest at

read_answer : (c : Config) (past : List Trace) (t : Trace) (answer : Option Answer) → t.caller.own ≡ None → target_of t.caller.call ≡ Latest → IsAnswered c past t answer → IsReadAnswer answer
read_answer c past t None own latest h = tt
read_answer c past t (Some (Placed v)) own latest h = absurd (own_apart t.caller.own h.1.chosen.0 h.1.chosen.1 own)
read_answer c past t (Some (Thin v stored)) own latest h = absurd (own_apart t.caller.own h.1.chosen.0 h.1.chosen.1 own)
read_answer c past t (Some (Short stored)) own latest h = tt
read_answer c past t (Some (NoQuorum phase heard)) own latest h = tt
read_answer c past t (Some (Contended met)) own latest h = tt
read_answer c past t (Some (Unsure why)) own latest h = tt
read_answer c past t (Some (Bytes v name bytes)) own latest h = tt
read_answer c past t (Some (Incomplete v name fates)) own latest h = tt
read_answer c past t (Some (Gone v name)) own latest h = tt
read_answer c past t (Some Absent) own latest h = tt
read_answer c past t (Some (Unborn v)) own latest h = absurd (asks_latest t.caller.call h.1.version latest h.1.asked)
read_answer c past t (Some (Collected floor)) own latest h = absurd (asks_latest t.caller.call h.1.version latest h.1.asked)
read_answer c past t (Some answer) own latest h = absurd h

version_answer : (c : Config) (past : List Trace) (t : Trace) (version : ℕ) (answer : Option Answer) → t.caller.own ≡ None → target_of t.caller.call ≡ At version → IsAnswered c past t answer → IsVersionAnswer answer
version_answer c past t version None own at h = tt
version_answer c past t version (Some (Placed v)) own at h = absurd (own_apart t.caller.own h.1.chosen.0 h.1.chosen.1 own)
version_answer c past t version (Some (Thin v stored)) own at h = absurd (own_apart t.caller.own h.1.chosen.0 h.1.chosen.1 own)
version_answer c past t version (Some (Short stored)) own at h = tt
version_answer c past t version (Some (NoQuorum phase heard)) own at h = tt
version_answer c past t version (Some (Contended met)) own at h = tt
version_answer c past t version (Some (Unsure why)) own at h = tt
version_answer c past t version (Some (Bytes v name bytes)) own at h = tt
version_answer c past t version (Some (Incomplete v name fates)) own at h = tt
version_answer c past t version (Some (Gone v name)) own at h = tt
version_answer c past t version (Some Absent) own at h = absurd (asks_number t.caller.call version at h.1.asked)
version_answer c past t version (Some (Unborn v)) own at h = tt
version_answer c past t version (Some (Collected floor)) own at h = tt
version_answer c past t version (Some answer) own at h = absurd h

fits_of : (c : Config) (past : List Trace) (t : Trace) (call : Call) (answer : Option Answer) → t.caller.call ≡ call → IsWithin call → IsOwn c t.caller.name call t.caller.own → IsAnswered c past t answer → Fits call answer
fits_of c past t (Put key bytes) answer is within own h = write_answer c past t (PutOf own.0) answer own.1 h
fits_of c past t (Delete key) answer is within own h = write_answer c past t (Tomb t.caller.name) answer own h
fits_of c past t (Get key) answer is within own h = read_answer c past t answer own (ap target_of is) h
fits_of c past t (GetAt key version) answer is within own h = version_answer c past t version answer own (ap target_of is) h
fits_of c past t (Collect key keep) answer is within own h = absurd within

-- ---- what is known of the calls of an object

module _ (key : List ℕ) (s : State) (ds : List Transition) (k : IsKnownRun key s ds) (agrees : AreAgreed key s) (lawful : IsLegal s.calls) where
  shown_of : (v : ℕ) (x : Name) → IsChosen s.cfg s.casts key v x → IsShownByRows s.cfg (seen_after unused ds) v x
  shown_of v x h = inl (chosen_seen key s ds v x k.run h)

  -- a value is chosen at the version before
  one_below : (v : ℕ) (x : Name) → 1 ≤ v → IsChosen s.cfg s.casts key (v + 1) x → (y : Name) × IsChosen s.cfg s.casts key v y
  one_below v x positive h =
      let enough = h.1 in
      let some = need_some s.cfg.n s.cfg.qc s.cfg.qf h.0 k.placed.config.quorums in
      let site = count_found s.cfg.n (has_cast s.casts key (v + 1) h.0 x) (omega (arith, enough, some)) in
      agrees.chained v site.0 h.0 x positive site.2

  down : (u v : ℕ) (x : Name) → IsChosen s.cfg s.casts key v x → 1 ≤ u → u ≤ v → (y : Name) × IsChosen s.cfg s.casts key u y
  down u zero x h positive le = absurd (omega (arith, positive, le))
  down u (suc v) x h positive le = elim (cases_eq u (suc v)) [
    | inl e ↦ (x, subst (λ (n : ℕ). IsChosen s.cfg s.casts key n x) (sym e) h)
    | inr ne ↦ (let low = below_next u v le ne in
        let next : suc v ≡ v + 1 = omega arith in
        let y = one_below v x (omega (arith, positive, low)) (subst (λ (n : ℕ). IsChosen s.cfg s.casts key n x) next h) in
        down u v y.0 y.1 positive low)
  ]

  positive : (v : ℕ) (x : Name) → IsChosen s.cfg s.casts key v x → 1 ≤ v
  positive v x h = shown_positive key s ds v x k.listed k.placed k.run (shown_of v x h)

  apart : AreNamedApart s.calls
  apart a b h name =
      let at = before_at s.calls a b h in
      let lt = at.2 in
      let same = k.listed.apart at.0 at.1 a b at.3 at.4 name in
      omega (arith, lt, same)

  fits : (a : CallRec) → IsOf key s a → Fits a.call a.answer
  fits a of =
      let h = call_trace key s ds of.0 a k.run k.listed k.carries of.1 of.2 in
      let t = h.trace in
      fits_of s.cfg h.past t a.call a.answer h.is.call_is h.is.within (subst (λ (q : Call). IsOwn s.cfg t.caller.name q t.caller.own) h.is.call_is h.is.told.own) (subst (IsAnswered s.cfg h.past t) h.is.answer h.is.told.answered)

  written : (v : ℕ) (x : Name) → IsChosen s.cfg s.casts key v x → IsWriter key s x
  written v x h =
      let w = proposer key s ds v x k (shown_of v x h) in
      record { call = w.call; of = (w.place, w.there, w.key_is); name_is = w.name_is; write = w.write; effect = w.effect }

  read : (a : CallRec) (x : Name) → IsOf key s a → read_from a.answer ≡ Some x → IsWriterOf key s a x
  read a x of e =
      let ca = get_contains s.calls of.0 a of.1 in
      let b = lawful.sources a ca x e in
      let at = contains_get s.calls b.0 b.1.0 in
      let source = b.1.1 in
      record {
        call = b.0;
        of = (at.0, at.1, source.key ∙ of.2);
        name_is = source.name;
        writes = source.write;
        bytes_are = λ bytes is. lawful.values a b.0 ca b.1.0 (sym source.key) bytes (e ∙ ap Some (sym source.name)) is;
      }

  order : (a b : CallRec) (v w : ℕ) → IsOf key s a → IsOf key s b → IsBefore a.end b.begin → shows a.answer ≡ Some v → stands b.call b.answer ≡ Some w → v ≤ w
  order a b v w p q before sa sb = (lawful.order a b (get_contains s.calls p.0 a p.1) (get_contains s.calls q.0 b q.1) (p.2 ∙ sym q.2) v w before sa sb).0

  above : (a b : CallRec) (v w : ℕ) → IsOf key s a → IsOf key s b → IsBefore a.end b.begin → shows a.answer ≡ Some v → IsChosen s.cfg s.casts key w b.name → v < w
  above a b v w p q before sa h =
      let since = k.run.calls q.0 b q.1 q.2 in
      own_above s.cfg b.name since.early since.late v w k.placed.config.quorums (subst (λ xs. AreTransitions s.cfg unused xs) since.split k.run.transitions)
      since.unsent since.current (positive w b.name h) (since.ended p.0 v a p.1 p.2 before sa)
      (subst (λ (xs : List Transition). IsShownByRows s.cfg (seen_after unused xs) w b.name) since.split (shown_of w b.name h))

  serializable : IsSerializable key s
  serializable = record {
    config = k.placed.config;
    apart = apart;
    over = λ i end a at e. k.placed.over i end a at e;
    later = λ i end a at e. k.placed.later i end a at e;
    answered = λ i a at. k.placed.answered i a at;
    fits = fits;
    asked = λ a of. lawful.asked a (get_contains s.calls of.0 a of.1);
    one = λ v x y h g. agrees.one v x y h g;
    once = λ u v x h g. agrees.once u v x h g;
    positive = positive;
    down = down;
    written = written;
    shown = λ a v of e. elim (call_shown key s ds of.0 v a k.run k.listed k.carries of.1 of.2 e) [
      | inl z ↦ inl z
      | inr h ↦ inr (h.0, seen_chosen key s ds v h.0 k.run ((agreed key s ds k.placed k.run).chosen v h.0 h.1).0)
    ];
    named = λ a v x of e named. (agrees.answers of.0 v a x of.1 of.2 e named).1;
    read = read;
    order = order;
    above = above;
  }

pub is_one_register : (key : List ℕ) (s : State) → IsSerializable key s → IsOneRegister key s
is_one_register key s k = record {
  run = register_runs key s k;
  gapless = λ u v x h. (k.positive v x h, λ positive le. k.down u v x h positive le);
  once = each_once key s k;
  calls = calls_of key s k;
  chosen = chosen_listed key s k;
  listed = listed key s k;
  before = ordered key s k;
}

-- in every world that is reached and whose sites tell what they hold
pub one_register : (key : List ℕ) (s : State) → IsReached s → AllTell s → IsOneRegister key s
one_register key s reached tells =
    let k = known key s reached tells in
    is_one_register key s (serializable key s k.0 k.1 (agreement key s reached tells) (legal s reached tells))
