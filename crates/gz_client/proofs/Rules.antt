-- The rules of what a call asks about blobs, kept from one action to the next.
use Rattle.std.proofs.Common.{◌≡◌, ◌==◌, ℕ, ◌+◌, ◌≤◌, Bool, true, false, cond, List, [], ◌∷◌, Some, refl, sym, ap, ◌∙◌, inl, inr, arith}
use Rattle.std.specs.Prelude.{◌||◌}
use Rattle.std.proofs.lemmas.Bool.{false≢true, and_parts}
use Rattle.std.proofs.lemmas.Option.{none-some}
use Rattle.gz_config.specs.declared.Config.{Config}
use Rattle.gz_core.specs.Awaiting.{awaiting, IsAwaited}
use Rattle.gz_core.specs.Blobs.{BlobAt}
use Rattle.gz_core.specs.declared.requests.Op.{Op}
use Rattle.gz_core.specs.declared.requests.Op.TheVariants.{ReadRow, WriteRow, PutBlob, GetBlob, DropBlob}
use Rattle.gz_core.specs.declared.requests.Out.{Out}
use Rattle.gz_core.specs.declared.requests.Reply.{Reply}
use Rattle.gz_core.specs.History.{Asked, Action, Sent, Handed, GaveUp, Rested, GaveIn, Caller, is_row_request, asked_of, sent_from}
use Rattle.gz_data.specs.Blobs.{is_op_about, stores, stored}
use Rattle.gz_round.specs.Sites.{site_now, seen_in, written_by, is_changed}
use Rattle.gz_round.proofs.Awaits.{awaits_sent, ended_awaits, reply_idle}
use Rattle.gz_client.specs.Blobs.{MayAskBlob, HasStoredFirst, sends_op, has_asked}
use Rattle.gz_client.specs.Causes.{CannotStore}
use Rattle.gz_client.specs.Traces.{AreBelow}
use Rattle.gz_client.specs.Turning.{KeepsBlobRules}
use Rattle.gz_client.proofs.Listed.{below_sent}

-- ---- a call that asked for a row

or_true : (b : Bool) → (b || true) ≡ true
or_true true = refl
or_true false = refl

pub asked_more : (m : Action) (ms : List Action) → has_asked ms ≡ true → has_asked (m ∷ ms) ≡ true
asked_more m ms h = ap (λ (b : Bool). sends_op is_row_request m || b) h ∙ or_true (sends_op is_row_request m)

pub asked_sent : (first : ℕ) (outs : List Out) (ms : List Action) → has_asked ms ≡ true → has_asked (sent_from first outs ms) ≡ true
asked_sent first [] ms h = h
asked_sent first (out ∷ outs) ms h = asked_sent (first + 1) outs (Sent (asked_of first out) ∷ ms) (asked_more (Sent (asked_of first out)) ms h)

-- a call that awaits a site's row asked for one
pub asked_awaits : (ms : List Action) (s : ℕ) (a : Asked) → (site_now ms s).awaits ≡ Some a → has_asked ms ≡ true
asked_awaits [] s a e = absurd (none-some a e)
asked_awaits (Sent b ∷ ms) s a e =
    elim (awaits_sent ms b a s e) [
      | inl here ↦ ap (λ (t : Bool). t || has_asked ms) (and_parts (is_row_request b.op) (b.site == s) here.1).0
      | inr before ↦ asked_more (Sent b) ms (asked_awaits ms s a before)
    ]
asked_awaits (Handed b reply ∷ ms) s a e =
    asked_more (Handed b reply) ms (asked_awaits ms s a (ended_awaits ms (Handed b reply) a s (reply_idle (seen_in (written_by b.op) reply) (is_changed reply)) e))
asked_awaits (GaveUp b ∷ ms) s a e = asked_more (GaveUp b) ms (asked_awaits ms s a (ended_awaits ms (GaveUp b) a s (λ now. refl) e))
asked_awaits (Rested ∷ ms) s a e = absurd (none-some a e)
asked_awaits (GaveIn ∷ ms) s a e = absurd (none-some a e)

-- a put that asked for a row could store
pub can_store : (c : Config) (w : Caller) (ms : List Action) → has_asked ms ≡ true → CannotStore c w ms → ⊥
can_store c w ms asked short = false≢true (sym short.unasked ∙ asked)

-- ---- what is stored stays so

stored_by : (b : Bool) (n : ℕ) → n ≤ cond b (n + 1) n
stored_by true n = omega arith
stored_by false n = omega arith

pub first_more : (c : Config) (w : Caller) (m : Action) (ms : List Action) → HasStoredFirst c w ms → HasStoredFirst c w (m ∷ ms)
first_more c w m ms h put order = omega (arith, h put order, stored_by (stores m) (stored ms))

pub first_sent : (c : Config) (w : Caller) (first : ℕ) (outs : List Out) (ms : List Action) → HasStoredFirst c w ms → HasStoredFirst c w (sent_from first outs ms)
first_sent c w first [] ms h = h
first_sent c w first (out ∷ outs) ms h = first_sent c w (first + 1) outs (Sent (asked_of first out) ∷ ms) (first_more c w (Sent (asked_of first out)) ms h)

-- ---- requests for rows

row_asks : (c : Config) (w : Caller) (ms : List Action) (a : Asked) (op : Op) → is_row_request op ≡ true → MayAskBlob c w ms a op
row_asks c w ms a (ReadRow key) e = tt
row_asks c w ms a (WriteRow key expect step row) e = tt
row_asks c w ms a (PutBlob b bytes) e = absurd (false≢true e)
row_asks c w ms a (GetBlob b) e = absurd (false≢true e)
row_asks c w ms a (DropBlob b) e = absurd (false≢true e)

row_about : (b : BlobAt) (op : Op) → is_row_request op ≡ true → is_op_about b op ≡ true → ⊥
row_about b (ReadRow key) e about = false≢true about
row_about b (WriteRow key expect step row) e about = false≢true about
row_about b (PutBlob name bytes) e about = false≢true e
row_about b (GetBlob name) e about = false≢true e
row_about b (DropBlob name) e about = false≢true e

-- each of these is about a row
abbrev pub AreRows : List Out → Type 0
AreRows [] = Unit {0}
AreRows (out ∷ outs) = (is_row_request out.op ≡ true) × AreRows outs

keeps_row : (c : Config) (w : Caller) (a : Asked) (ms : List Action) → is_row_request a.op ≡ true → HasStoredFirst c w ms → AreBelow a.number ms → KeepsBlobRules c w ms → KeepsBlobRules c w (Sent a ∷ ms)
keeps_row c w a ms row stored below h = record {
  blobs = (row_asks c w ms a a.op row, h.blobs);
  once = ((λ b about. absurd (row_about b a.op row about)), h.once);
  in_turn = (record { above = below; blob = λ other. absurd (false≢true (sym other ∙ row)) }, h.in_turn);
  first = ((λ r. stored), h.first);
}

pub keeps_rows : (c : Config) (w : Caller) (first : ℕ) (outs : List Out) (ms : List Action) → AreRows outs → HasStoredFirst c w ms → AreBelow first ms → KeepsBlobRules c w ms → KeepsBlobRules c w (sent_from first outs ms)
keeps_rows c w first [] ms rows stored below h = h
keeps_rows c w first (out ∷ outs) ms rows stored below h =
    let a : Asked = asked_of first out in
    keeps_rows c w (first + 1) outs (Sent a ∷ ms) rows.1 (first_more c w (Sent a) ms stored) (below_sent (awaiting ms) a a.awaited below) (keeps_row c w a ms rows.0 stored below h)

-- ---- what was answered or given up, and how an event closes

pub keeps_handed : (c : Config) (w : Caller) (a : Asked) (reply : Reply) (ms : List Action) → IsAwaited ms a → KeepsBlobRules c w ms → KeepsBlobRules c w (Handed a reply ∷ ms)
keeps_handed c w a reply ms i h = record { blobs = (tt, h.blobs); once = (tt, h.once); in_turn = (i, h.in_turn); first = (tt, h.first) }

pub keeps_gave_up : (c : Config) (w : Caller) (a : Asked) (ms : List Action) → IsAwaited ms a → KeepsBlobRules c w ms → KeepsBlobRules c w (GaveUp a ∷ ms)
keeps_gave_up c w a ms i h = record { blobs = (tt, h.blobs); once = (tt, h.once); in_turn = (i, h.in_turn); first = (tt, h.first) }

pub keeps_rested : (c : Config) (w : Caller) (ms : List Action) → KeepsBlobRules c w ms → KeepsBlobRules c w (Rested ∷ ms)
keeps_rested c w ms h = record { blobs = (tt, h.blobs); once = (tt, h.once); in_turn = (tt, h.in_turn); first = (tt, h.first) }

pub keeps_given_in : (c : Config) (w : Caller) (ms : List Action) → KeepsBlobRules c w ms → KeepsBlobRules c w (GaveIn ∷ ms)
keeps_given_in c w ms h = record { blobs = (tt, h.blobs); once = (tt, h.once); in_turn = (tt, h.in_turn); first = (tt, h.first) }
