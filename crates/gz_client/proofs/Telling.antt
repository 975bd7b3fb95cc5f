-- What a call keeps of its fragments once it is told of the request for one.
use Rattle.std.proofs.Common.{◌≡◌, ◌==◌, ℕ, ◌+◌, ◌<◌, ◌^◌, Bool, true, false, List, [], ◌∷◌, map, Option, Some, None, refl, sym, ap, ◌∙◌, subst, inl, inr, arith}
use Rattle.std.specs.Prelude.{not, ◌||◌}
use Rattle.std.specs.List.{Contains, list_any}
use Rattle.std.proofs.lemmas.Bool.{cases_Bool, cond-false, false≢true, eq-eqb, eqb-true}
use Rattle.std.proofs.lemmas.Option.{none-some}
use Rattle.gz_config.specs.declared.Config.{Config}
use Rattle.gz_core.specs.Awaiting.{awaiting, without_rows, IsAwaited, AreInTurn}
use Rattle.gz_core.specs.Configurations.{IsConfig}
use Rattle.gz_core.specs.declared.calls.Call.{Call}
use Rattle.gz_core.specs.declared.calls.Call.TheVariants.{Put, Delete, Get, GetAt, Collect}
use Rattle.gz_core.specs.declared.requests.Op.{Op}
use Rattle.gz_core.specs.declared.requests.Op.TheVariants.{ReadRow, WriteRow, PutBlob, GetBlob, DropBlob}
use Rattle.gz_core.specs.declared.requests.Reply.{Reply}
use Rattle.gz_core.specs.History.{Asked, Action, Sent, Handed, GaveUp, Rested, GaveIn, Caller, Trace, is_row_request}
use Rattle.gz_core.proofs.Awaited.{awaiting_rises, contains_head, contains_tail, contains_cases, contains_none, filter_contains, one_of_number}
use Rattle.gz_data.specs.Blobs.{is_put_blob, puts_sent}
use Rattle.gz_data.specs.Own.{IsRecordOf}
use Rattle.gz_data.specs.Requests.{awaited_blob, is_numbered}
use Rattle.gz_data.specs.Storing.{IsCountOf}
use Rattle.gz_data.specs.declared.requests.AwaitedBlob.{AwaitedBlob}
use Rattle.gz_data.specs.declared.storing.Storing.{Storing as Counts}
use Rattle.gz_data.proofs.Blobs.{puts_counted}
use Rattle.gz_round.specs.declared.run.Run.{Run}
use Rattle.gz_round.specs.Sites.{as_heard, written_by, is_about_rows, site_now}
use Rattle.gz_round.proofs.Beside.{IsBeside, beside_blob, going_beside, chosen_beside, noticed_beside}
use Rattle.gz_round.proofs.Blobs.{blob_allowed, blob_ready, blob_runs, blob_site}
use Rattle.gz_round.proofs.Phases.{phases_beside, untold_beside}
use Rattle.gz_client.specs.Blobs.{is_put, MayAskBlob, AreBlobsAllowed}
use Rattle.gz_client.specs.Changes.{counted}
use Rattle.gz_client.specs.Running.{AsksForRows, HasRows, IsResting, PutsStand, StoresFirst, WaitsToStore}
use Rattle.gz_client.specs.Traces.{Awaits, told_of}
use Rattle.gz_client.specs.Turning.{HasCountedFirst, HasCountedLast}
use Rattle.gz_client.specs.declared.running.Puts.{Puts}
use Rattle.gz_client.proofs.Puts.{blob_not_row, puts_given_up, puts_handed}
use Rattle.gz_client.proofs.Rules.{asked_more, first_more}

-- ---- which request it is

-- where no site is awaited it is one for a blob
pub blob_awaited : (c : Config) (ms : List Action) (a : Asked) → IsResting ms → Awaits c ms a → Contains (without_rows (awaiting ms)) a
blob_awaited c ms a rests (inl row) = absurd (none-some a (sym (rests a.site) ∙ row.1))
blob_awaited c ms a rests (inr blob) = blob

any_first : (b rest : Bool) → b ≡ true → (b || rest) ≡ true
any_first b rest e = rw e refl

any_later : (b rest : Bool) → rest ≡ true → (b || rest) ≡ true
any_later true rest e = refl
any_later false rest e = e

numbered_here : (n : ℕ) (a : Asked) (rs : List Asked) (t : Bool) → (a.number == n) ≡ t → (list_any (is_numbered n) (map awaited_blob rs) ≡ true → (b : Asked) × Contains rs b × (b.number ≡ n))
    → (t || list_any (is_numbered n) (map awaited_blob rs)) ≡ true → (b : Asked) × Contains (a ∷ rs) b × (b.number ≡ n)
numbered_here n a rs true same later h = (a, contains_head a rs, eqb-true a.number n same)
numbered_here n a rs false other later h = let k = later h in (k.0, contains_tail a rs k.0 k.1, k.2)

numbered_one : (n : ℕ) (rs : List Asked) → list_any (is_numbered n) (map awaited_blob rs) ≡ true → (a : Asked) × Contains rs a × (a.number ≡ n)
numbered_one n [] e = absurd (false≢true e)
numbered_one n (a ∷ rs) e = numbered_here n a rs (a.number == n) refl (numbered_one n rs) e

one_numbered : (n : ℕ) (rs : List Asked) (a : Asked) → Contains rs a → a.number ≡ n → list_any (is_numbered n) (map awaited_blob rs) ≡ true
one_numbered n [] a i e = absurd (contains_none a i)
one_numbered n (b ∷ rs) a i e = elim (contains_cases b rs a i) [
  | inl same ↦ any_first (b.number == n) (list_any (is_numbered n) (map awaited_blob rs)) (eq-eqb b.number n (ap (λ (d : Asked). d.number) same ∙ e))
  | inr later ↦ any_later (b.number == n) (list_any (is_numbered n) (map awaited_blob rs)) (one_numbered n rs a later e)
]

-- a request of a number that a blob's has is that one
pub numbered_blob : (n : ℕ) (blobs : List AwaitedBlob) (ms : List Action) (a : Asked) → AreInTurn ms → IsAwaited ms a → a.number ≡ n → blobs ≡ map awaited_blob (without_rows (awaiting ms))
    → list_any (is_numbered n) blobs ≡ true → Contains (without_rows (awaiting ms)) a
numbered_blob n blobs ms a turn i e same any =
    let k = numbered_one n (without_rows (awaiting ms)) (subst (λ (bs : List AwaitedBlob). list_any (is_numbered n) bs ≡ true) same any) in
    let one : k.0 ≡ a = one_of_number 0 (awaiting ms) k.0 a (awaiting_rises ms turn) (filter_contains (λ (b : Asked). not (is_row_request b.op)) (awaiting ms) k.0 k.1) i (k.2 ∙ sym e) in
    subst (λ (b : Asked). Contains (without_rows (awaiting ms)) b) one k.1

-- and any other is one for a site's row
pub numbered_row : (c : Config) (n : ℕ) (blobs : List AwaitedBlob) (ms : List Action) (a : Asked) → Awaits c ms a → a.number ≡ n → blobs ≡ map awaited_blob (without_rows (awaiting ms))
    → list_any (is_numbered n) blobs ≡ false → (a.site < c.n) × ((site_now ms a.site).awaits ≡ Some a)
numbered_row c n blobs ms a (inl row) e same none = row
numbered_row c n blobs ms a (inr blob) e same none =
    absurd (false≢true (sym none ∙ subst (λ (bs : List AwaitedBlob). list_any (is_numbered n) bs ≡ true) (sym same) (one_numbered n (without_rows (awaiting ms)) a blob e)))

-- ---- the counters stay small

some_puts : (c : Config) (w : Caller) (a : Asked) (ms : List Action) (op : Op) → MayAskBlob c w ms a op → is_put_blob op ≡ true → is_put w.call ≡ true
some_puts c w a ms (ReadRow key) may e = absurd (false≢true e)
some_puts c w a ms (WriteRow key expect step row) may e = absurd (false≢true e)
some_puts c w a ms (PutBlob b bytes) may e = by w.call may.own
  where
    by : (call : Call) → IsRecordOf c w.name call a.site bytes → is_put call ≡ true
    by (Put key object) own = refl
    by (Delete key) own = absurd own
    by (Get key) own = absurd own
    by (GetAt key version) own = absurd own
    by (Collect key keep) own = absurd own
some_puts c w a ms (GetBlob b) may e = absurd (false≢true e)
some_puts c w a ms (DropBlob b) may e = absurd (false≢true e)

-- a call that isn't a put stores no fragment
only_puts : (c : Config) (w : Caller) (ms : List Action) → AreBlobsAllowed c w ms → is_put w.call ≡ false → puts_sent ms ≡ 0
only_puts c w [] h never = refl
only_puts c w (Sent a ∷ ms) h never = elim (cases_Bool (is_put_blob a.op)) [
  | inl stores ↦ absurd (false≢true (sym never ∙ some_puts c w a ms a.op h.0 stores))
  | inr other ↦ cond-false (is_put_blob a.op) (puts_sent ms + 1) (puts_sent ms) other ∙ only_puts c w ms h.1 never
]
only_puts c w (Handed a reply ∷ ms) h never = only_puts c w ms h.1 never
only_puts c w (GaveUp a ∷ ms) h never = only_puts c w ms h.1 never
only_puts c w (Rested ∷ ms) h never = only_puts c w ms h.1 never
only_puts c w (GaveIn ∷ ms) h never = only_puts c w ms h.1 never

pub counts_low : (c : Config) (w : Caller) (puts : Puts) (ms : List Action) → IsConfig c → AreInTurn ms → AreBlobsAllowed c w ms → PutsStand c w puts ms → puts.counts.stored + puts.counts.lost + 1 < 2 ^ 32
counts_low c w puts ms config turn allowed h =
    let all = puts_counted ms turn in
    let same_stored = h.counts.stored in
    let same_lost = h.counts.lost in
    elim (cases_Bool (is_put w.call)) [
      | inl put ↦ let sent = h.all put in omega (arith, all, same_stored, same_lost, sent, config.pieces, config.sites)
      | inr never ↦ let sent = only_puts c w ms allowed never in omega (arith, all, same_stored, same_lost, sent)
    ]

-- ---- what stands then

puts_told : (c : Config) (w : Caller) (puts : Puts) (counts : Counts) (n : ℕ) (o : Option Reply) (a : Asked) (ms : List Action) → Contains (without_rows (awaiting ms)) a → IsCountOf (told_of n o a ∷ ms) counts
    → PutsStand c w puts ms → PutsStand c w (counted a.number counts puts) (told_of n o a ∷ ms)
puts_told c w puts counts n None a ms i count h = puts_given_up c w puts counts ms a i count h
puts_told c w puts counts n (Some reply) a ms i count h = puts_handed c w puts counts ms a (as_heard n (written_by a.op) reply) i count h

pub told_blob : (n : ℕ) (o : Option Reply) (a : Asked) (rs : List Asked) → Contains (without_rows rs) a → is_about_rows (told_of n o a) ≡ false
told_blob n None a rs i = blob_not_row rs a i
told_blob n (Some reply) a rs i = blob_not_row rs a i

-- a put that stores its fragments first
pub tells_first : (c : Config) (w : Caller) (past : List Trace) (run : Run) (puts : Puts) (counts : Counts) (o : Option Reply) (a : Asked) (ms : List Action)
    → Contains (without_rows (awaiting ms)) a → IsCountOf (told_of c.n o a ∷ ms) counts → StoresFirst c w past run puts ms
    → HasCountedFirst c w past run (counted a.number counts puts) (told_of c.n o a ∷ ms)
tells_first c w past run puts counts o a ms i count h =
    let m : Action = told_of c.n o a in
    let blob : is_about_rows m ≡ false = told_blob c.n o a (awaiting ms) i in
    record {
      ready = blob_ready c w past run m ms blob h.ready;
      look = h.look;
      going = going_beside c ms (m ∷ ms) (beside_blob m ms blob) h.going;
      put = h.put;
      order = h.order;
      only = (blob, h.only);
      fragments = puts_told c w puts counts c.n o a ms i count h.fragments;
    }

-- a call that asks for rows
pub tells_asking : (c : Config) (w : Caller) (past : List Trace) (run : Run) (puts : Puts) (counts : Counts) (o : Option Reply) (a : Asked) (ms : List Action)
    → Contains (without_rows (awaiting ms)) a → IsCountOf (told_of c.n o a ∷ ms) counts → AsksForRows c w past run puts ms
    → AsksForRows c w past run (counted a.number counts puts) (told_of c.n o a ∷ ms)
tells_asking c w past run puts counts o a ms i count h =
    let m : Action = told_of c.n o a in
    record {
      runs = blob_runs c w past run m ms (told_blob c.n o a (awaiting ms) i) h.runs;
      phases = phases_beside c w past run.stage m ms (untold_beside m (told_blob c.n o a (awaiting ms) i)) h.phases;
      fragments = puts_told c w puts counts c.n o a ms i count h.fragments;
      first = first_more c w m ms h.first;
    }

-- the rows of a call are done with
pub tells_rows : (c : Config) (w : Caller) (past : List Trace) (m : Action) (ms : List Action) → is_about_rows m ≡ false → HasRows c w past ms → HasRows c w past (m ∷ ms)
tells_rows c w past m ms blob h = record {
  allowed = blob_allowed c w past m ms blob h.allowed;
  going = going_beside c ms (m ∷ ms) (beside_blob m ms blob) h.going;
  asked = asked_more m ms h.asked;
  rests = λ (s : ℕ). ap (λ now. now.awaits) (blob_site m ms s blob) ∙ h.rests s;
}

-- a put that is chosen
pub tells_last : (c : Config) (w : Caller) (past : List Trace) (version : ℕ) (puts : Puts) (counts : Counts) (o : Option Reply) (a : Asked) (ms : List Action)
    → Contains (without_rows (awaiting ms)) a → IsCountOf (told_of c.n o a ∷ ms) counts → WaitsToStore c w past version puts ms
    → HasCountedLast c w past version (counted a.number counts puts) (told_of c.n o a ∷ ms)
tells_last c w past version puts counts o a ms i count h =
    let m : Action = told_of c.n o a in
    let blob : is_about_rows m ≡ false = told_blob c.n o a (awaiting ms) i in
    let beside : IsBeside ms (m ∷ ms) = beside_blob m ms blob in
    record {
      told = λ row. false≢true (sym blob ∙ row);
      rows = tells_rows c w past m ms blob h.rows;
      placed = record { chosen = chosen_beside c w ms (m ∷ ms) version beside h.placed.chosen; noticed = noticed_beside c w ms (m ∷ ms) version beside h.placed.noticed };
      put = h.put;
      fragments = puts_told c w puts counts c.n o a ms i count h.fragments;
    }
