-- The calls of a log are a history.
use Rattle.std.proofs.Common.{ℕ, zero, suc, ◌≡◌, ◌+◌, ◌-◌, ◌<◌, List, [], ◌∷◌, ◌++◌, length, get_or, slice_get, Option, Some, None, Bool, true, false, inl, inr, refl, ap, sym, subst, ◌∙◌, arith}
use Rattle.std.specs.Prelude.{Vec, Result, Ok, Err, IfOk, nat_lt, option_map, is_some, codes}
use Rattle.std.specs.declared.alloc.Global.{Global}
use Rattle.std.proofs.lemmas.Bool.{cases_lt, cases_Bool}
use Rattle.std.proofs.lemmas.Bool.Decides.{nat_tests}
use Rattle.std.proofs.lemmas.Grind.{common_steps}
use Rattle.std.proofs.lemmas.Option.{same_Some, slice_get_within, slice_get-get_or}
use Rattle.gz_core.specs.Names.{Name}
use Rattle.gz_core.specs.declared.texts.TextError.{TextError}
use Rattle.gz_core.specs.declared.texts.Why.TheVariants as whys
use Rattle.gz_history.specs.Broken.{IsHistory, AreInOrder, Precedes}
use Rattle.gz_history.specs.declared.record.CallRec.{CallRec}
use Rattle.gz_history.proofs.Searching.{order_more}
use Rattle.gz_text.specs.declared.faults.Fault.{Fault}
use Rattle.gz_text.specs.Faults.{with, or_bad}
use Rattle.gz_text.specs.Fields.{is_word}
use Rattle.gz_text.specs.Names.{name_field}
use Rattle.gz_text.specs.Places.{field_at, fields_from}
use Rattle.gz_text.specs.Texts.{fields_of, lines}
use Rattle.gz_logs.proofs.Choices.{with_ok, same_ok}
use Rattle.gz_logs.specs.declared.calls.Timed.{Timed}
use Rattle.gz_logs.specs.declared.lines.Counts.{Counts}
use Rattle.gz_logs.specs.Calls.{timed_in}
use Rattle.gz_logs.specs.Kinds.{kind_of}
use Rattle.gz_logs.specs.Lines.{Seen, begin_before, is_after, is_end, is_ordered, is_open, answer_or_open, answered, placed, call_from, call_line, end_line, with_call, with_end, line_after, after}
use Rattle.gz_logs.specs.Named.{same_name, is_named}
use Rattle.gz_logs.specs.Parsed.{Log, FaultAt, finished, at_line, read_from, unread, parsed, Parses}

-- an element in front of others, and the next one
pub get_front : (xs ys : List CallRec) (i : ℕ) → i < length xs → slice_get (xs ++ ys) i ≡ slice_get xs i
get_front [] ys i h = absurd (omega arith)
get_front (x ∷ xs) ys zero h = refl
get_front (x ∷ xs) ys (suc i) h = get_front xs ys i (omega arith)

pub get_next : (xs ys : List CallRec) (x : CallRec) → slice_get (xs ++ x ∷ ys) (length xs) ≡ Some x
get_next [] ys x = refl
get_next (z ∷ zs) ys x = get_next zs ys x

length_more : (xs : List CallRec) (x : CallRec) → length (xs ++ x ∷ []) ≡ length xs + 1
length_more [] x = refl
length_more (y ∷ ys) x = omega (arith, length_more ys x)

-- a name that no call has
not_named : (name : Name) (calls : List CallRec) (i : ℕ) (a : CallRec) → is_named name calls ≡ false → slice_get calls i ≡ Some a → same_name a.name name ≡ false
not_named name [] i a h p = absurd (omega (arith, slice_get_within [] i a p))
not_named name (c ∷ cs) zero a h p =
    let same : c ≡ a = same_Some c a p in
    subst (λ (x : CallRec). same_name x.name name ≡ false) same (grind (arith, common_steps))
not_named name (c ∷ cs) (suc i) a h p = not_named name cs i a (grind (arith, common_steps)) p

apart : (name : Name) (a : CallRec) → same_name a.name name ≡ false → a.name ≡ name → ⊥
apart name a h e = let same : same_name name name ≡ false = subst (λ (n : Name). same_name n name ≡ false) e h in grind (arith, common_steps)

-- the last call, which began before a tick
last_of : (calls : List CallRec) → 0 < length calls → (last : CallRec) × (slice_get calls (length calls - 1) ≡ Some last)
last_of [] h = absurd (omega arith)
last_of (x ∷ more) h = (get_or (x ∷ more) (length (x ∷ more) - 1) x, slice_get-get_or (x ∷ more) (length (x ∷ more) - 1) x (omega arith))

ticked : (calls : List CallRec) (last : CallRec) (tick : ℕ) → slice_get calls (length calls - 1) ≡ Some last → is_after (begin_before calls) tick ≡ true → last.begin < tick
ticked calls last tick p later =
    let now : nat_lt last.begin tick ≡ true = sym (ap (λ (o : Option CallRec). is_after (option_map (λ c. c.begin) o) tick) p) ∙ later in
    grind (arith, nat_tests)

-- the calls above a line began before its call
began_before : (calls : List CallRec) (i tick : ℕ) (a : CallRec) → IsHistory calls → is_after (begin_before calls) tick ≡ true → slice_get calls i ≡ Some a → a.begin < tick
began_before calls i tick a h later p =
    let within : i < length calls = slice_get_within calls i a p in
    elim (cases_lt i (length calls - 1)) [
      | inl s ↦ (let last = last_of calls (omega arith) in
          let rose : a.begin < last.0.begin = (h.order i (length calls - 1) s (omega arith) a last.0 p last.1).began in
          let next : last.0.begin < tick = ticked calls last.0 tick last.1 later in
          omega arith)
      | inr g ↦ (let e : i ≡ length calls - 1 = omega arith in
          ticked calls a tick (sym (ap (slice_get calls) e) ∙ p) later)
    ]

-- the parts of ticks in order
ordered_parts : (before : Option ℕ) (begin : ℕ) (end : Option ℕ) (open_field : Bool) → is_ordered before begin end open_field ≡ true → (is_after before begin ≡ true) × (is_end begin end open_field ≡ true)
ordered_parts before begin end open_field h = (grind (arith, common_steps), grind (arith, common_steps))

ends_from : (begin : ℕ) (e : Option ℕ) (open_field : Bool) → is_end begin e open_field ≡ true → (end : ℕ) → e ≡ Some end → begin < end
ends_from begin e open_field h end p =
    let now : is_end begin (Some end) open_field ≡ true = sym (ap (λ (x : Option ℕ). is_end begin x open_field) p) ∙ h in
    grind (arith, nat_tests, common_steps)

-- the calls above keep their places
in_front : (calls : List CallRec) (c : CallRec) → IsHistory calls → AreInOrder (calls ++ c ∷ []) (length calls)
in_front calls c h = record {
  order = λ i j l m a b p q.
      let first : i < length calls = omega arith in
      h.order i j l m a b (sym (get_front calls (c ∷ []) i first) ∙ p) (sym (get_front calls (c ∷ []) j m) ∙ q);
  ends = λ i a m p. h.ends i a m (sym (get_front calls (c ∷ []) i m) ∙ p);
}

-- one more call of a history
history_more : (calls : List CallRec) (c : CallRec) (open_field : Bool) → IsHistory calls → is_named c.name calls ≡ false → is_ordered (begin_before calls) c.begin c.end open_field ≡ true → IsHistory (calls ++ c ∷ [])
history_more calls c open_field h unnamed ordered =
    let parts = ordered_parts (begin_before calls) c.begin c.end open_field ordered in
    let more : AreInOrder (calls ++ c ∷ []) (length calls + 1) =
    order_more (calls ++ c ∷ []) (length calls) c (in_front calls c h) (get_next calls [] c) (ends_from c.begin c.end open_field parts.1)
    (λ i m a b p q.
    let here : slice_get calls i ≡ Some a = sym (get_front calls (c ∷ []) i m) ∙ p in
    subst (λ (x : CallRec). Precedes a x) (same_Some c b (sym (get_next calls [] c) ∙ q))
    (record { began = began_before calls i c.begin a h parts.0 here; name = apart c.name a (not_named c.name calls i a unnamed here) })) in
    subst (λ (n : ℕ). AreInOrder (calls ++ c ∷ []) n) (sym (length_more calls c)) more

-- an answered call is the one that was asked
record IsOf (name : Name) (timed : Timed) (c : CallRec) : Type 0 where
  name_is : c.name ≡ name
  begin_is : c.begin ≡ timed.begin
  end_is : c.end ≡ timed.end

answered_ok : (name : Name) (timed : Timed) (fields : List (List ℕ)) (c : CallRec) → answered name timed fields ≡ Ok c → IsOf name timed c
answered_ok name timed fields c h =
    let read = with_ok (answer_or_open (kind_of timed.call) fields) (λ answer. Ok (record { name = name; call = timed.call; begin = timed.begin; end = timed.end; answer = answer })) c h in
    let same = same_ok (record { name = name; call = timed.call; begin = timed.begin; end = timed.end; answer = read.0 }) c read.1.1 in
    record { name_is = sym (ap (λ (x : CallRec). x.name) same); begin_is = sym (ap (λ (x : CallRec). x.begin) same); end_is = sym (ap (λ (x : CallRec). x.end) same) }

placed_history : (calls : List CallRec) (name : Name) (timed : Timed) (fields : List (List ℕ)) (c : CallRec) → IsHistory calls → placed calls name timed fields ≡ Ok c → IsHistory (calls ++ c ∷ [])
placed_history calls name timed fields c h e =
    elim (cases_Bool (is_named name calls)) [
      | inl named ↦ absurd (grind (arith, common_steps))
      | inr unnamed ↦ elim (cases_Bool (is_ordered (begin_before calls) timed.begin timed.end (is_open fields))) [
        | inl ordered ↦ (let of = answered_ok name timed fields c (grind (arith, common_steps)) in
            history_more calls c (is_open fields) h (rw of.name_is unnamed) (rw (of.begin_is, of.end_is) ordered))
        | inr late ↦ absurd (grind (arith, common_steps))
      ]
    ]

call_history : (calls : List CallRec) (fields : List (List ℕ)) (c : CallRec) → IsHistory calls → call_line calls fields ≡ Ok c → IsHistory (calls ++ c ∷ [])
call_history calls fields c h e =
    let named = with_ok (or_bad whys.Word (name_field (field_at 0 fields))) (λ name. call_from calls name fields) c e in
    let read = named.1.1 in
    elim (cases_Bool (nat_lt (length fields) 7)) [
      | inl few ↦ absurd (grind (arith, common_steps))
      | inr enough ↦ (let asked : with (timed_in fields) (λ timed. placed calls named.0 timed (fields_from 6 fields)) ≡ Ok c = grind (arith, common_steps) in
          let timed = with_ok (timed_in fields) (λ timed. placed calls named.0 timed (fields_from 6 fields)) c asked in
          placed_history calls named.0 timed.0 (fields_from 6 fields) c h timed.1.1)
    ]

-- the calls that are seen with one more line
line_history : (seen next : Seen) (fields : List (List ℕ)) → IsHistory seen.calls → line_after seen fields ≡ Ok next → IsHistory next.calls
line_history seen next fields h e =
    elim (cases_Bool (is_some seen.ends)) [
      | inl ended ↦ absurd (grind (arith, common_steps))
      | inr going ↦ elim (cases_Bool (is_word (codes "end") (field_at 0 fields))) [
        | inl last ↦ (let read : with_end seen.calls (end_line (length seen.calls) fields) ≡ Ok next = grind (arith, common_steps) in
            let counts = with_ok (end_line (length seen.calls) fields) (λ counts. Ok (record { calls = seen.calls; ends = Some counts })) next read in
            subst (λ (s : Seen). IsHistory s.calls) (same_ok (record { calls = seen.calls; ends = Some counts.0 }) next counts.1.1) h)
        | inr other ↦ (let read : with_call seen.calls (call_line seen.calls fields) ≡ Ok next = grind (arith, common_steps) in
            let call = with_ok (call_line seen.calls fields) (λ call. Ok (record { calls = seen.calls ++ call ∷ []; ends = None })) next read in
            subst (λ (s : Seen). IsHistory s.calls) (same_ok (record { calls = seen.calls ++ call.0 ∷ []; ends = None }) next call.1.1) (call_history seen.calls fields call.0 h call.1.0))
      ]
    ]

after_history : (seen next : Seen) (fields : List (List ℕ)) → IsHistory seen.calls → after seen fields ≡ Ok next → IsHistory next.calls
after_history seen next [] h e = subst (λ (s : Seen). IsHistory s.calls) (same_ok seen next e) h
after_history seen next (word ∷ more) h e = line_history seen next (word ∷ more) h e

-- a log that was read to its end
pub same_log : (x y : Log) → ◌≡◌ {A = Result Log FaultAt} (Ok x) (Ok y) → x ≡ y
same_log x y h = cc

finished_history : (line : ℕ) (calls : List CallRec) (ends : Option Counts) (log : Log) → IsHistory calls → finished line calls ends ≡ Ok log → IsHistory log.calls
finished_history line calls None log h e = absurd (cc)
finished_history line calls (Some counts) log h e = subst (λ (x : Log). IsHistory x.calls) (same_log (record { calls = calls; events = counts.events; skipped = counts.skipped }) log e) h

pub at_line_ok : (line : ℕ) (r : Result Seen Fault) (next : Seen → Result Log FaultAt) (log : Log) → at_line line r next ≡ Ok log → (seen : Seen) × ((r ≡ Ok seen) × (next seen ≡ Ok log))
at_line_ok line (Ok seen) next log e = (seen, (refl, e))
at_line_ok line (Err fault) next log e = absurd (cc)

pub reads_history : (line : ℕ) (seen : Seen) (texts : List (List ℕ)) (log : Log) → IsHistory seen.calls → read_from line seen texts ≡ Ok log → IsHistory log.calls
reads_history line seen [] log h e = finished_history line seen.calls seen.ends log h e
reads_history line seen (text ∷ texts) log h e =
    let read = at_line_ok line (after seen (fields_of text)) (λ next. read_from (line + 1) next texts) log e in
    reads_history (line + 1) read.0 texts log (after_history seen read.0 (fields_of text) h read.1.0) read.1.1

pub no_history : IsHistory []
no_history = record { order = λ i j l m. absurd (omega arith); ends = λ i a m. absurd (omega arith) }

-- the calls that are read are a history
pub parses_history : (text : List ℕ) (r : Result (Vec CallRec Global) TextError) → Parses (parsed text) r → IfOk r (λ calls. IsHistory calls.items)
parses_history text (Ok calls) (events, skipped, read) = reads_history 1 unread (lines text) (record { calls = calls.items; events = events; skipped = skipped }) no_history read
parses_history text (Err error) read = tt
