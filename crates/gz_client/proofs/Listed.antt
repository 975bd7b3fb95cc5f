-- What a call awaits of sites is in the list of what it awaits, and the numbers of an event's requests rise on.
use Rattle.std.proofs.Common.{◌≡◌, ◌==◌, ℕ, ◌+◌, ◌<◌, ◌≤◌, Bool, true, false, cond, List, [], ◌∷◌, ◌++◌, length, Some, refl, sym, ap, ◌∙◌, subst, inl, inr, arith}
use Rattle.std.specs.Prelude.{not}
use Rattle.std.specs.List.{All, Contains}
use Rattle.std.proofs.lemmas.Bool.{cases_Bool, cond-true, cond-false, false≢true}
use Rattle.std.proofs.lemmas.Option.{same_Some, none-some}
use Rattle.std.proofs.lemmas.List.Elements.{All-push, All-weaker, All-filter, Contains-append_left, Contains-push}
use Rattle.gz_config.specs.declared.Config.{Config}
use Rattle.gz_core.specs.declared.requests.Out.{Out}
use Rattle.gz_core.specs.Awaiting.{without, without_rows, awaiting, IsAwaited, AreInTurn}
use Rattle.gz_core.specs.History.{Asked, Action, Sent, Handed, GaveUp, Rested, GaveIn, is_row_request, asked_of, sent_from}
use Rattle.gz_core.proofs.Awaited.{filter_contains, stays_awaited}
use Rattle.gz_round.specs.Sites.{SiteNow, site_now, after_sent, is_to, seen_in, written_by, is_changed}
use Rattle.gz_round.proofs.Actions.{now_here, now_other}
use Rattle.gz_round.proofs.Awaits.{awaits_to, ended_awaits, reply_idle}
use Rattle.gz_client.specs.Traces.{AreBelow, Awaits}

stays_listed : (rs : List Asked) (a b : Asked) (t : Bool) → Contains rs b → Contains (cond t (rs ++ a ∷ []) rs) b
stays_listed rs a b true h = Contains-append_left rs (a ∷ []) b h
stays_listed rs a b false h = h

-- a request that a site awaits once it was sent is listed
sent_listed : (rs : List Asked) (now : SiteNow) (a b : Asked) → (now.awaits ≡ Some b → Contains rs b) → (after_sent a now).awaits ≡ Some b → Contains (cond a.awaited (rs ++ a ∷ []) rs) b
sent_listed rs now a b before e =
    elim (cases_Bool a.awaited) [
      | inl t ↦ subst (λ (u : Bool). Contains (cond u (rs ++ a ∷ []) rs) b) (sym t)
          (subst (λ (c : Asked). Contains (rs ++ a ∷ []) c) (same_Some a b (sym (ap (λ (n : SiteNow). n.awaits) (cond-true a.awaited _ now t)) ∙ e)) (Contains-push rs a))
      | inr f ↦ subst (λ (u : Bool). Contains (cond u (rs ++ a ∷ []) rs) b) (sym f) (before (sym (ap (λ (n : SiteNow). n.awaits) (cond-false a.awaited _ now f)) ∙ e))
    ]

-- an action that ends one request leaves the others listed
ended_listed : (ms : List Action) (a b : Asked) (s : ℕ) → AreInTurn ms → IsAwaited ms a → Contains (awaiting ms) b → is_to b s ≡ true → is_to a s ≡ false → Contains (without a.number (awaiting ms)) b
ended_listed ms a b s turn i h to other = stays_awaited ms a b turn i h (λ same. false≢true (sym other ∙ (ap (λ (c : Asked). is_to c s) same ∙ to)))

pub row_listed : (ms : List Action) (s : ℕ) (b : Asked) → AreInTurn ms → (site_now ms s).awaits ≡ Some b → IsAwaited ms b
row_listed [] s b turn e = absurd (none-some b e)
row_listed (Sent a ∷ ms) s b turn e =
    elim (cases_Bool (is_to a s)) [
      | inl to ↦ sent_listed (awaiting ms) (site_now ms s) a b (λ before. row_listed ms s b turn.1 before) (sym (ap (λ (n : SiteNow). n.awaits) (now_here (Sent a) ms s to)) ∙ e)
      | inr other ↦ stays_listed (awaiting ms) a b a.awaited (row_listed ms s b turn.1 (sym (ap (λ (n : SiteNow). n.awaits) (now_other (Sent a) ms s other)) ∙ e))
    ]
row_listed (Handed a reply ∷ ms) s b turn e =
    elim (cases_Bool (is_to a s)) [
      | inl to ↦ absurd (none-some b (sym (ap (λ (n : SiteNow). n.awaits) (now_here (Handed a reply) ms s to) ∙ reply_idle (seen_in (written_by a.op) reply) (is_changed reply) (site_now ms s)) ∙ e))
      | inr other ↦
          let before = ended_awaits ms (Handed a reply) b s (reply_idle (seen_in (written_by a.op) reply) (is_changed reply)) e in
          ended_listed ms a b s turn.1 turn.0 (row_listed ms s b turn.1 before) (awaits_to ms s b before) other
    ]
row_listed (GaveUp a ∷ ms) s b turn e =
    elim (cases_Bool (is_to a s)) [
      | inl to ↦ absurd (none-some b (sym (ap (λ (n : SiteNow). n.awaits) (now_here (GaveUp a) ms s to)) ∙ e))
      | inr other ↦
          let before = ended_awaits ms (GaveUp a) b s (λ now. refl) e in
          ended_listed ms a b s turn.1 turn.0 (row_listed ms s b turn.1 before) (awaits_to ms s b before) other
    ]
row_listed (Rested ∷ ms) s b turn e = absurd (none-some b e)
row_listed (GaveIn ∷ ms) s b turn e = absurd (none-some b e)

-- whatever a call awaits is listed
pub awaits_listed : (c : Config) (ms : List Action) (a : Asked) → AreInTurn ms → Awaits c ms a → IsAwaited ms a
awaits_listed c ms a turn (inl row) = row_listed ms a.site a turn row.1
awaits_listed c ms a turn (inr blob) = filter_contains (λ (b : Asked). not (is_row_request b.op)) (awaiting ms) a blob

-- ---- the numbers of what is sent

-- a request for a blob is awaited
abbrev pub AreAwaited : List Out → Type 0
AreAwaited [] = Unit {0}
AreAwaited (out ∷ outs) = (is_row_request out.op ≡ false → out.awaited ≡ true) × AreAwaited outs

pub below_later : (ms : List Action) (next later : ℕ) → next ≤ later → AreBelow next ms → AreBelow later ms
below_later ms next later l h = All-weaker (λ (a : Asked). a.number < next) (λ (a : Asked). a.number < later) (λ a lt. omega arith) (awaiting ms) h

pub below_sent : (rs : List Asked) (a : Asked) (t : Bool) → All (λ (b : Asked). b.number < a.number) rs → All (λ (b : Asked). b.number < a.number + 1) (cond t (rs ++ a ∷ []) rs)
below_sent rs a t h = by t
  where
    less : All (λ (b : Asked). b.number < a.number + 1) rs
    less = All-weaker (λ (b : Asked). b.number < a.number) (λ (b : Asked). b.number < a.number + 1) (λ b lt. omega arith) rs h

    by : (u : Bool) → All (λ (b : Asked). b.number < a.number + 1) (cond u (rs ++ a ∷ []) rs)
    by true = All-push (λ (b : Asked). b.number < a.number + 1) rs a less (omega arith)
    by false = less

-- what an event sends is in turn, under the numbers from the next one on
pub in_turn_sent : (first : ℕ) (outs : List Out) (ms : List Action) → AreAwaited outs → AreInTurn ms → AreBelow first ms
    → AreInTurn (sent_from first outs ms) × AreBelow (first + length outs) (sent_from first outs ms)
in_turn_sent first [] ms awaited turn below = (turn, below_later ms first (first + 0) (omega arith) below)
in_turn_sent first (out ∷ outs) ms awaited turn below =
    let a : Asked = asked_of first out in
    let rest = in_turn_sent (first + 1) outs (Sent a ∷ ms) awaited.1 (record { above = below; blob = awaited.0 }, turn) (below_sent (awaiting ms) a a.awaited below) in
    (rest.0, below_later (sent_from (first + 1) outs (Sent a ∷ ms)) (first + 1 + length outs) (first + length (out ∷ outs)) (omega arith) rest.1)

pub below_ended : (ms : List Action) (a : Asked) (next : ℕ) → AreBelow next ms → All (λ (b : Asked). b.number < next) (without a.number (awaiting ms))
below_ended ms a next h = All-filter (λ (b : Asked). not (b.number == a.number)) (λ (b : Asked). b.number < next) (awaiting ms) h

pub below_rested : (ms : List Action) (next : ℕ) → AreBelow next ms → All (λ (b : Asked). b.number < next) (without_rows (awaiting ms))
below_rested ms next h = All-filter (λ (b : Asked). not (is_row_request b.op)) (λ (b : Asked). b.number < next) (awaiting ms) h
