-- Each answer against the counts of its call.
use Rattle.std.proofs.Common.{◌≡◌, ℕ, ◌+◌, ◌<◌, ◌≤◌, ◌↔◌, Bool, true, false, List, [], ◌∷◌, inl, inr, Option, Some, None, refl, sym, ap, ◌∙◌, arith}
use Rattle.std.specs.Prelude.{◌||◌}
use Rattle.std.proofs.lemmas.Bool.{false≢true}
use Rattle.std.proofs.lemmas.Option.{same_Some, none-some}
use Rattle.gz_core.specs.declared.calls.Answer.{Answer}
use Rattle.gz_core.specs.declared.calls.Answer.TheVariants.{Ok, Thin, Short, Bytes, Incomplete, Gone, Absent, Unborn, Collected, NoQuorum, Contended, Unsure}
use Rattle.gz_core.specs.declared.calls.UnsureWhy.{UnsureWhy}
use Rattle.gz_core.specs.declared.calls.UnsureWhy.TheVariants.{NoQuorum as UnsureNoQuorum, Contended as UnsureContended, Trimmed as UnsureTrimmed}
use Rattle.gz_config.specs.declared.Config.{Config}
use Rattle.gz_core.specs.History.{Action, Sent, Handed, GaveUp, Rested, GaveIn, Caller, Trace}
use Rattle.gz_core.specs.Names.{Name}
use Rattle.gz_core.specs.declared.calls.Call.{Call}
use Rattle.gz_core.specs.declared.requests.Op.{Op}
use Rattle.gz_core.specs.declared.requests.Op.TheVariants.{ReadRow, WriteRow, PutBlob, GetBlob, DropBlob}
use Rattle.gz_core.specs.declared.values.Value.{Value}
use Rattle.gz_core.specs.declared.values.Value.TheVariants.{Put as PutOf}
use Rattle.gz_data.specs.Blobs.{stored}
use Rattle.gz_data.specs.Own.{IsOwn}
use Rattle.gz_round.specs.Sent.{met, voted, phase_of}
use Rattle.gz_round.specs.Counting.{outs}
use Rattle.gz_round.specs.Causes.{UnsureCause}
use Rattle.gz_client.specs.Blobs.{MayAskBlob, AreBlobsAllowed, is_put, is_get_blob, has_fetched}
use Rattle.gz_client.specs.Causes.{CannotStore, IsOpen, IsPlaced, HasCause}
use Rattle.gz_client.specs.Going.{GathersFragments, HasWork}
use Rattle.gz_client.specs.Traces.{IsAnswered, KeepsRules}
use Rattle.gz_client.proofs.Following.{put_writes}
use Rattle.gz_client.specs.Endings.{LacksSites, lacking, contending, EndsByPieces, EndsExactly}

-- an answer for want of sites
is_lack : Answer → Bool
is_lack (NoQuorum phase heard) = true
is_lack (Unsure (UnsureNoQuorum phase heard)) = true
is_lack answer = false

-- an answer of a call that was overtaken too often
is_contended : Answer → Bool
is_contended (Contended m) = true
is_contended (Unsure (UnsureContended m)) = true
is_contended answer = false

-- an answer for want of fragments
is_short : Answer → Bool
is_short (Short told) = true
is_short answer = false

lacking_lacks : (c : Config) (ms : List Action) (b : Bool) → is_lack (lacking c ms b) ≡ true
unfolding is_lack
lacking_lacks c ms true = refl
lacking_lacks c ms false = refl

contending_contends : (ms : List Action) (b : Bool) → is_contended (contending ms b) ≡ true
unfolding is_contended
contending_contends ms true = refl
contending_contends ms false = refl

short_shorts : (told : ℕ) → is_short (Short told) ≡ true
unfolding is_short
short_shorts told = refl

NotLack : Config → List Action → Option Answer → Type 0
NotLack c ms answer = (b : Bool) → answer ≡ Some (lacking c ms b) → ⊥

NotContended : List Action → Option Answer → Type 0
NotContended ms answer = (b : Bool) → answer ≡ Some (contending ms b) → ⊥

NotShort : Option Answer → Type 0
NotShort answer = (told : ℕ) → answer ≡ Some (Short told) → ⊥

not_lacking : (c : Config) (ms : List Action) (answer : Answer) → is_lack answer ≡ false → NotLack c ms (Some answer)
unfolding NotLack
not_lacking c ms answer h b e = false≢true (sym h ∙ (ap is_lack (same_Some answer (lacking c ms b) e) ∙ lacking_lacks c ms b))

not_contending : (ms : List Action) (answer : Answer) → is_contended answer ≡ false → NotContended ms (Some answer)
unfolding NotContended
not_contending ms answer h b e = false≢true (sym h ∙ (ap is_contended (same_Some answer (contending ms b) e) ∙ contending_contends ms b))

not_short : (answer : Answer) → is_short answer ≡ false → NotShort (Some answer)
unfolding NotShort
not_short answer h told e = false≢true (sym h ∙ (ap is_short (same_Some answer (Short told) e) ∙ short_shorts told))

-- what an answer shows of the counts: that the call could go on, or which count ended it
data Ending (c : Config) (w : Caller) (ms : List Action) (answer : Option Answer) : Type 0 where
  goes : met ms < c.tries → outs c ms + c.qc ≤ c.n → (CannotStore c w ms → ⊥) → NotLack c ms answer → NotContended ms answer → NotShort answer → Ending c w ms answer
  shorts : met ms < c.tries → outs c ms + c.qc ≤ c.n → CannotStore c w ms → answer ≡ Some (Short (stored ms)) → NotLack c ms answer → NotContended ms answer → Ending c w ms answer
  lacks : met ms < c.tries → c.n < outs c ms + c.qc → (CannotStore c w ms → ⊥) → answer ≡ Some (lacking c ms (voted w.name ms)) → NotContended ms answer → NotShort answer → Ending c w ms answer
  contends : c.tries ≤ met ms → (CannotStore c w ms → ⊥) → answer ≡ Some (contending ms (voted w.name ms)) → NotLack c ms answer → NotShort answer → Ending c w ms answer

going : (c : Config) (w : Caller) (ms : List Action) (answer : Answer) → IsOpen c w ms → is_lack answer ≡ false → is_contended answer ≡ false → is_short answer ≡ false → Ending c w ms (Some answer)
going c w ms answer h l k s = goes h.going.few h.going.enough h.can (not_lacking c ms answer l) (not_contending ms answer k) (not_short answer s)

unsure_ending : (c : Config) (w : Caller) (ms : List Action) (why : UnsureWhy) → (CannotStore c w ms → ⊥) → voted w.name ms ≡ true → UnsureCause c w ms why → Ending c w ms (Some (Unsure why))
unfolding is_lack is_contended is_short
unsure_ending c w ms (UnsureNoQuorum phase heard) can v h = lacks h.few h.lost can
    (ap (λ p. Some (Unsure (UnsureNoQuorum p heard))) h.phase_is ∙ (ap (λ n. Some (Unsure (UnsureNoQuorum (phase_of ms) n))) h.heard_is ∙ ap (λ b. Some (lacking c ms b)) (sym v)))
    (not_contending ms (Unsure (UnsureNoQuorum phase heard)) refl) (not_short (Unsure (UnsureNoQuorum phase heard)) refl)
unsure_ending c w ms (UnsureContended m) can v h = contends h.0 can (ap (λ n. Some (Unsure (UnsureContended n))) h.1 ∙ ap (λ b. Some (contending ms b)) (sym v))
    (not_lacking c ms (Unsure (UnsureContended m)) refl) (not_short (Unsure (UnsureContended m)) refl)
unsure_ending c w ms (UnsureTrimmed floor) can v h = going c w ms (Unsure (UnsureTrimmed floor)) (record { going = h.0; can = can }) refl refl refl

ending_of : (c : Config) (w : Caller) (ms : List Action) (answer : Answer) → HasCause c w ms answer → Ending c w ms (Some answer)
unfolding is_lack is_contended is_short
ending_of c w ms (Ok v) h = going c w ms (Ok v) h.0 refl refl refl
ending_of c w ms (Thin v told) h = going c w ms (Thin v told) h.0 refl refl refl
ending_of c w ms (Short told) h = shorts h.0.few h.0.enough h.1 (ap (λ n. Some (Short n)) h.2) (not_lacking c ms (Short told) refl) (not_contending ms (Short told) refl)
ending_of c w ms (Bytes v x bytes) h = going c w ms (Bytes v x bytes) h.0 refl refl refl
ending_of c w ms (Incomplete v x fates) h = going c w ms (Incomplete v x fates) h.0 refl refl refl
ending_of c w ms (Gone v x) h = going c w ms (Gone v x) h.0 refl refl refl
ending_of c w ms Absent h = going c w ms Absent h.0 refl refl refl
ending_of c w ms (Unborn latest) h = going c w ms (Unborn latest) h.0 refl refl refl
ending_of c w ms (Collected floor) h = going c w ms (Collected floor) h.0 refl refl refl
ending_of c w ms (NoQuorum phase heard) h = lacks h.1.1.few h.1.1.lost h.0
    (ap (λ p. Some (NoQuorum p heard)) h.1.1.phase_is ∙ (ap (λ n. Some (NoQuorum (phase_of ms) n)) h.1.1.heard_is ∙ ap (λ b. Some (lacking c ms b)) (sym h.1.0)))
    (not_contending ms (NoQuorum phase heard) refl) (not_short (NoQuorum phase heard) refl)
ending_of c w ms (Contended m) h = contends h.1.1.0 h.0 (ap (λ n. Some (Contended n)) h.1.1.1 ∙ ap (λ b. Some (contending ms b)) (sym h.1.0))
    (not_lacking c ms (Contended m) refl) (not_short (Contended m) refl)
ending_of c w ms (Unsure why) h = unsure_ending c w ms why h.0 h.1.0 h.1.1
ending_of c w ms answer h = absurd h

told_ending : (c : Config) (past : List Trace) (t : Trace) (answer : Option Answer) → IsAnswered c past t answer → Ending c t.caller t.actions answer
unfolding NotLack NotContended NotShort
told_ending c past t None h = goes h.open_still.going.few h.open_still.going.enough h.open_still.can (λ b e. none-some _ e) (λ b e. none-some _ e) (λ told e. none-some _ e)
told_ending c past t (Some answer) h = ending_of c t.caller t.actions answer h

by_ending : (c : Config) (w : Caller) (ms : List Action) (answer : Option Answer) → Ending c w ms answer →
    ((answer ≡ Some (lacking c ms (voted w.name ms))) ↔ LacksSites c ms)
    × ((answer ≡ Some (contending ms (voted w.name ms))) ↔ (c.tries ≤ met ms))
    × ((answer ≡ Some (Short (stored ms))) ↔ CannotStore c w ms)
unfolding NotLack NotContended NotShort
by_ending c w ms answer (goes few enough can no_lack no_contend no_short) = (
  (λ e. absurd (no_lack (voted w.name ms) e), λ (l : LacksSites c ms). absurd (omega (arith, l.1, enough))),
  (λ e. absurd (no_contend (voted w.name ms) e), λ often. absurd (omega arith)),
  (λ e. absurd (no_short (stored ms) e), λ short. absurd (can short)),
)
by_ending c w ms answer (shorts few enough short is no_lack no_contend) = (
  (λ e. absurd (no_lack (voted w.name ms) e), λ (l : LacksSites c ms). absurd (omega (arith, l.1, enough))),
  (λ e. absurd (no_contend (voted w.name ms) e), λ often. absurd (omega arith)),
  (λ e. short, λ s. is),
)
by_ending c w ms answer (lacks few lost can is no_contend no_short) = (
  (λ e. (few, lost), λ l. is),
  (λ e. absurd (no_contend (voted w.name ms) e), λ often. absurd (omega arith)),
  (λ e. absurd (no_short (stored ms) e), λ short. absurd (can short)),
)
by_ending c w ms answer (contends often can is no_lack no_short) = (
  (λ e. absurd (no_lack (voted w.name ms) e), λ (l : LacksSites c ms). absurd (omega (arith, l.0, often))),
  (λ e. often, λ k. is),
  (λ e. absurd (no_short (stored ms) e), λ short. absurd (can short)),
)

-- ---- once a fragment was asked for

-- a call that asked for a fragment writes nothing
fetched_reads : (c : Config) (w : Caller) (ms : List Action) → AreBlobsAllowed c w ms → has_fetched ms ≡ true → w.own ≡ None
fetched_reads c w [] h e = absurd (false≢true e)
fetched_reads c w (Sent a ∷ ms) h e = sent_reads a.op (fetched_reads c w ms h.1) h.0 e
  where
    sent_reads : (op : Op) → (has_fetched ms ≡ true → w.own ≡ None) → MayAskBlob c w ms a op → (is_get_blob op || has_fetched ms) ≡ true → w.own ≡ None
    sent_reads (ReadRow key) before may sent = before sent
    sent_reads (WriteRow key expect step row) before may sent = before sent
    sent_reads (PutBlob b bytes) before may sent = before sent
    sent_reads (GetBlob b) before may sent = may.learnt.reads
    sent_reads (DropBlob b) before may sent = before sent
fetched_reads c w (Handed a reply ∷ ms) h e = fetched_reads c w ms h.1 e
fetched_reads c w (GaveUp a ∷ ms) h e = fetched_reads c w ms h.1 e
fetched_reads c w (Rested ∷ ms) h e = fetched_reads c w ms h.1 e
fetched_reads c w (GaveIn ∷ ms) h e = fetched_reads c w ms h.1 e

-- a call that writes nothing is no put
reads_no_put : (c : Config) (name : Name) (call : Call) (own : Option Value) → IsOwn c name call own → own ≡ None → is_put call ≡ true → ⊥
reads_no_put c name call own h none put = let writes = put_writes c name call own h put in none-some (PutOf writes.0) (sym none ∙ writes.1)

-- what a call that asked for a fragment did not do
record HasFetched (c : Config) (w : Caller) (ms : List Action) : Type 0 where
  fetched : has_fetched ms ≡ true
  reads : w.own ≡ None
  no_put : is_put w.call ≡ true → ⊥

not_unfetched : (c : Config) (w : Caller) (ms : List Action) → HasFetched c w ms → has_fetched ms ≡ false → ⊥
not_unfetched c w ms f e = false≢true (sym e ∙ f.fetched)

not_placed : (c : Config) (w : Caller) (ms : List Action) (v : ℕ) → HasFetched c w ms → IsPlaced c w ms v → ⊥
not_placed c w ms v f h = none-some h.chosen.0 (sym f.reads ∙ h.chosen.1)

-- the work of a call that goes on
gathers_on : (c : Config) (w : Caller) (past : List Trace) (ms : List Action) → HasFetched c w ms → HasWork c w past ms → GathersFragments c w ms
gathers_on c w past ms f (inl stores) = absurd (f.no_put stores.put)
gathers_on c w past ms f (inr (inl works)) = absurd (not_unfetched c w ms f works.unfetched)
gathers_on c w past ms f (inr (inr (inl waits))) = absurd (f.no_put waits.put)
gathers_on c w past ms f (inr (inr (inr gathers))) = gathers

-- the answer of one that ended
pieces_end : (c : Config) (w : Caller) (ms : List Action) (answer : Answer) → HasFetched c w ms → HasCause c w ms answer → EndsByPieces c w ms (Some answer)
pieces_end c w ms (Ok v) f h = not_placed c w ms v f h.1
pieces_end c w ms (Thin v told) f h = not_placed c w ms v f h.1
pieces_end c w ms (Short told) f h = f.no_put h.1.put
pieces_end c w ms (Bytes v x bytes) f h = h.1
pieces_end c w ms (Incomplete v x fates) f h = h.1
pieces_end c w ms (Gone v x) f h = not_unfetched c w ms f h.2
pieces_end c w ms Absent f h = not_unfetched c w ms f h.2
pieces_end c w ms (Unborn latest) f h = not_unfetched c w ms f h.2
pieces_end c w ms (Collected floor) f h = not_unfetched c w ms f h.2
pieces_end c w ms (NoQuorum phase heard) f h = not_unfetched c w ms f h.2
pieces_end c w ms (Contended m) f h = not_unfetched c w ms f h.2
pieces_end c w ms (Unsure why) f h = not_unfetched c w ms f h.2
pieces_end c w ms answer f h = absurd h

by_pieces : (c : Config) (past : List Trace) (t : Trace) (answer : Option Answer) → HasFetched c t.caller t.actions → IsAnswered c past t answer → EndsByPieces c t.caller t.actions answer
by_pieces c past t None f h = gathers_on c t.caller past t.actions f h.work
by_pieces c past t (Some answer) f h = pieces_end c t.caller t.actions answer f h

has_fetched_of : (c : Config) (past : List Trace) (t : Trace) → KeepsRules c past t → has_fetched t.actions ≡ true → HasFetched c t.caller t.actions
has_fetched_of c past t h fetched =
    let reads = fetched_reads c t.caller t.actions h.blobs fetched in
    record { fetched = fetched; reads = reads; no_put = reads_no_put c t.caller.name t.caller.call t.caller.own h.own reads }

-- a call ends short, for want of sites, or as contended, exactly where its counts say so, and by its fragments once it asked for one
pub exactly : EndsExactly
exactly c past t h =
    let counts = by_ending c t.caller t.actions t.answer (told_ending c past t t.answer h.answered) in
    (counts.0, counts.1, counts.2, λ fetched. by_pieces c past t t.answer (has_fetched_of c past t h fetched) h.answered)
