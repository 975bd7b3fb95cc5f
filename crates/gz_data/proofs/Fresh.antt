-- Of a blob that is awaited nothing came yet, where each is asked for once.
use Rattle.std.proofs.Common.{◌≡◌, ℕ, Bool, true, false, cond, List, [], ◌∷◌, ◌++◌, Option, None, Some, refl, sym, ap, subst, ◌∙◌, inl, inr, arith}
use Rattle.std.specs.Prelude.{◌⊎◌, ◌==◌, not}
use Rattle.std.specs.List.{Contains, filter}
use Rattle.std.proofs.lemmas.Bool.{cases_Bool, eqb-true, eq-eqb}
use Rattle.std.proofs.lemmas.List.Elements.{Contains-push_cases, filter_passes, All-contains}
use Rattle.gz_core.specs.Blobs.{BlobAt}
use Rattle.gz_core.specs.declared.requests.Reply.{Reply}
use Rattle.gz_core.specs.History.{Asked, Action, Sent, Handed, GaveUp, Rested, GaveIn, is_row_request}
use Rattle.gz_core.specs.Awaiting.{without, without_rows, awaiting, IsAwaited, AreInTurn}
use Rattle.gz_core.proofs.Awaited.{contains_none, filter_contains}
use Rattle.gz_data.specs.Blobs.{Answered, Abandoned, BlobNow, is_op_about, blob_now, AreAskedOnce}

-- a blob that was asked for, and of which nothing came
abbrev pub asked_for : BlobNow
asked_for = record { asked = true; outcome = None }

-- each awaited request about a blob is the only one, and nothing came of it
record IsFresh (rs : List Asked) (now : BlobAt → BlobNow) : Type 0 where
  new : (a : Asked) (b : BlobAt) → Contains rs a → is_op_about b a.op ≡ true → now b ≡ asked_for
  one : (a c : Asked) (b : BlobAt) → Contains rs a → Contains rs c → is_op_about b a.op ≡ true → is_op_about b c.op ≡ true → a ≡ c

-- fewer are awaited, and of those that still are nothing came
fewer : (rs less : List Asked) (now later : BlobAt → BlobNow) → ((a : Asked) → Contains less a → Contains rs a) → ((a : Asked) (b : BlobAt) → Contains less a → is_op_about b a.op ≡ true → later b ≡ now b)
    → IsFresh rs now → IsFresh less later
fewer rs less now later were same fresh = record {
  new = λ a b i e. same a b i e ∙ fresh.new a b (were a i) e;
  one = λ a c b i j d e. fresh.one a c b (were a i) (were c j) d e;
}

-- a request that ended is no longer awaited
ended : (rs : List Asked) (now : BlobAt → BlobNow) (a : Asked) (later : BlobAt → BlobNow) → Contains rs a → IsFresh rs now
    → IsFresh (without a.number rs) (λ b. cond (is_op_about b a.op) (later b) (now b))
ended rs now a later i fresh =
    fewer rs (without a.number rs) now (λ b. cond (is_op_about b a.op) (later b) (now b)) (λ c j. filter_contains (λ (d : Asked). not (d.number == a.number)) rs c j)
    (λ c b j e. elim (cases_Bool (is_op_about b a.op)) [
      | inl about ↦
          let other : not (c.number == a.number) ≡ true = All-contains (λ (d : Asked). not (d.number == a.number) ≡ true) (without a.number rs) c (filter_passes (λ (d : Asked). not (d.number == a.number)) rs) j in
          let same : c ≡ a = fresh.one c a b (filter_contains (λ (d : Asked). not (d.number == a.number)) rs c j) i e about in
          let bad : not (c.number == a.number) ≡ false = ap not (eq-eqb c.number a.number (ap (λ (d : Asked). d.number) same)) in
          absurd cc
      | inr apart ↦ rw apart refl
    ])
    fresh

-- a request that is sent is the first about its blob
sent : (rs : List Asked) (now : BlobAt → BlobNow) (a : Asked) (t : Bool) → ((b : BlobAt) → is_op_about b a.op ≡ true → (now b).asked ≡ false) → IsFresh rs now
    → IsFresh (cond t (rs ++ a ∷ []) rs) (λ b. cond (is_op_about b a.op) asked_for (now b))
sent rs now a t first fresh =
    by t
  where
    not_about : (c : Asked) (b : BlobAt) → Contains rs c → is_op_about b c.op ≡ true → is_op_about b a.op ≡ false
    not_about c b i e = elim (cases_Bool (is_op_about b a.op)) [
      | inl about ↦ absurd (let bad = sym (ap (λ (n : BlobNow). n.asked) (fresh.new c b i e)) ∙ first b about in cc)
      | inr apart ↦ apart
    ]

    new_of : (c : Asked) (b : BlobAt) → Contains rs c ⊎ (a ≡ c) → is_op_about b c.op ≡ true → cond (is_op_about b a.op) asked_for (now b) ≡ asked_for
    new_of c b (inl old) e = rw (not_about c b old e) (fresh.new c b old e)
    new_of c b (inr same) e = let about : is_op_about b a.op ≡ true = ap (λ (d : Asked). is_op_about b d.op) same ∙ e in rw about refl

    one_of : (c d : Asked) (b : BlobAt) → Contains rs c ⊎ (a ≡ c) → Contains rs d ⊎ (a ≡ d) → is_op_about b c.op ≡ true → is_op_about b d.op ≡ true → c ≡ d
    one_of c d b (inl old) (inl other) e f = fresh.one c d b old other e f
    one_of c d b (inl old) (inr same) e f = absurd (let bad = sym (not_about c b old e) ∙ ap (λ (q : Asked). is_op_about b q.op) same ∙ f in cc)
    one_of c d b (inr same) (inl old) e f = absurd (let bad = sym (not_about d b old f) ∙ ap (λ (q : Asked). is_op_about b q.op) same ∙ e in cc)
    one_of c d b (inr same) (inr too) e f = sym same ∙ too

    by : (u : Bool) → IsFresh (cond u (rs ++ a ∷ []) rs) (λ b. cond (is_op_about b a.op) asked_for (now b))
    by true = record {
      new = λ c b i e. new_of c b (Contains-push_cases rs a c i) e;
      one = λ c d b i j e f. one_of c d b (Contains-push_cases rs a c i) (Contains-push_cases rs a d j) e f;
    }
    by false = record {
      new = λ c b i e. new_of c b (inl i) e;
      one = λ c d b i j e f. fresh.one c d b i j e f;
    }

fresh_from : (ms : List Action) → AreInTurn ms → AreAskedOnce ms → IsFresh (awaiting ms) (blob_now ms)
fresh_from [] h once = record { new = λ a b i e. absurd (contains_none a i); one = λ a c b i j d e. absurd (contains_none a i) }
fresh_from (Sent a ∷ ms) h once = sent (awaiting ms) (blob_now ms) a a.awaited once.0 (fresh_from ms h.1 once.1)
fresh_from (Handed a reply ∷ ms) h once =
    ended (awaiting ms) (blob_now ms) a (λ b. record { asked = (blob_now ms b).asked; outcome = Some (Answered reply) }) h.0 (fresh_from ms h.1 once.1)
fresh_from (GaveUp a ∷ ms) h once =
    ended (awaiting ms) (blob_now ms) a (λ b. record { asked = (blob_now ms b).asked; outcome = Some Abandoned }) h.0 (fresh_from ms h.1 once.1)
fresh_from (Rested ∷ ms) h once =
    fewer (awaiting ms) (without_rows (awaiting ms)) (blob_now ms) (blob_now ms) (λ c i. filter_contains (λ (d : Asked). not (is_row_request d.op)) (awaiting ms) c i) (λ a b i e. refl) (fresh_from ms h.1 once.1)
fresh_from (GaveIn ∷ ms) h once =
    fewer (awaiting ms) (without_rows (awaiting ms)) (blob_now ms) (blob_now ms) (λ c i. filter_contains (λ (d : Asked). not (is_row_request d.op)) (awaiting ms) c i) (λ a b i e. refl) (fresh_from ms h.1 once.1)

pub awaited_is_new : (ms : List Action) (a : Asked) (b : BlobAt) → AreInTurn ms → AreAskedOnce ms → IsAwaited ms a → is_op_about b a.op ≡ true → blob_now ms b ≡ asked_for
awaited_is_new ms a b h once i e = let fresh = fresh_from ms h once in fresh.new a b i e
