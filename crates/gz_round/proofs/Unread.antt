-- Where nothing is known of any site, a pass reads each, in order.
use Rattle.std.proofs.Common.{◌≡◌, ℕ, zero, suc, ◌+◌, ◌<◌, ◌≤◌, true, List, [], ◌∷◌, ◌++◌, Option, Some, None, refl, sym, ap, ◌∙◌, arith}
use Rattle.std.proofs.lemmas.List.{append-nil, append_assoc}
use Rattle.std.specs.List.{slice_get}
use Rattle.gz_core.specs.declared.requests.RowStep.{RowStep}
use Rattle.gz_core.specs.declared.requests.Op.TheVariants.{ReadRow}
use Rattle.gz_core.specs.declared.requests.Out.{Out}
use Rattle.gz_round.specs.declared.run.Run.{Run}
use Rattle.gz_round.specs.Asking.{read_out, AskedBy, IsAskedAt}
use Rattle.gz_round.specs.Starting.{fresh_mark, reads_from, IsUnread, AreUnread}
use Rattle.gz_round.proofs.Lists.{slice_get-set_other}

-- the read of a row
abbrev read_of : List ℕ → ℕ → Out
read_of key s = record { site = s; op = ReadRow key; awaited = true }

reads_last : (key : List ℕ) (s n : ℕ) → reads_from key s n ++ (read_of key (s + n) ∷ []) ≡ reads_from key s (suc n)
reads_last key s zero =
    let same : s + 0 ≡ s = omega arith in
    ap (λ (k : ℕ). read_of key k ∷ []) same
reads_last key s (suc n) =
    let next : s + suc n ≡ (s + 1) + n = omega arith in
    ap (λ outs. read_of key s ∷ outs) (ap (λ k. reads_from key (s + 1) n ++ (read_of key k ∷ [])) next ∙ reads_last key (s + 1) n)

-- the reads of one more site
reads_next : (key : List ℕ) (n : ℕ) → reads_from key 0 n ++ (read_of key n ∷ []) ≡ reads_from key 0 (n + 1)
reads_next key n =
    let at : n ≡ 0 + n = omega arith in
    let more : suc n ≡ n + 1 = omega arith in
    ap (λ k. reads_from key 0 n ++ (read_of key k ∷ [])) at ∙ (reads_last key 0 n ∙ ap (reads_from key 0) more)

-- so far the sites below one were read
pub record AreRead (n : ℕ) (start run : Run) (outs sent : List Out) (at : ℕ) : Type 0 where
  pub key_is : run.key ≡ start.key
  pub left : (s : ℕ) → at ≤ s → s < n → IsUnread run s
  pub sent_is : sent ≡ outs ++ reads_from start.key 0 at

pub read_none : (n : ℕ) (run : Run) (outs : List Out) → AreUnread n run → AreRead n run run outs outs 0
read_none n run outs h = record { key_is = refl; left = λ (s : ℕ) (above : 0 ≤ s) (l : s < n). h s l; sent_is = sym (append-nil outs) }

pub read_more : (n : ℕ) (start run new : Run) (outs sent more : List Out) (step : Option RowStep) (at first : ℕ) → at < n → IsAskedAt run at step first sent new more → AreRead n start run outs sent at → AreRead n start new outs more (at + 1)
read_more n start run new outs sent more step at first l asked r =
    let here : IsUnread run at = r.left at (omega arith) l in
    let by : AskedBy run at first sent fresh_mark (Some (read_out run at)) new more = asked fresh_mark None here.1 here.0 in
    record {
      key_is = ap (λ (k : Run). k.key) by.0 ∙ r.key_is;
      left = λ (s : ℕ) (above : at + 1 ≤ s) (inside : s < n).
          let old : IsUnread run s = r.left s (omega arith) inside in
          let apart : (e : s ≡ at) → ⊥ = λ (e : s ≡ at). omega arith in
          (ap (λ (k : Run). slice_get k.rows s) by.0 ∙ old.0, ap (λ (k : Run). slice_get k.marks s) by.0 ∙ (slice_get-set_other run.marks at s _ apart ∙ old.1));
      sent_is = by.1 ∙ (ap (λ os. os ++ (read_out run at ∷ [])) r.sent_is ∙ (append_assoc outs (reads_from start.key 0 at) (read_out run at ∷ [])
          ∙ ap (λ os. outs ++ os) (ap (λ key. reads_from start.key 0 at ++ (read_of key at ∷ [])) r.key_is ∙ reads_next start.key at)));
    }
