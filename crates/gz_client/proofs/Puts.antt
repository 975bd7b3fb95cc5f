-- The fragments of a put, as one is stored or lost.
use Rattle.std.proofs.Common.{◌≡◌, ◌==◌, ℕ, ◌+◌, ◌≤◌, Bool, true, false, cond, List, [], ◌∷◌, ◌++◌, map, length, refl, sym, ap, ◌∙◌, subst, inl, inr, arith}
use Rattle.std.specs.Prelude.{not, ◌||◌}
use Rattle.std.specs.List.{Contains, filter}
use Rattle.std.proofs.lemmas.Bool.{cond-false, false≢true}
use Rattle.std.proofs.lemmas.List.{append-nil}
use Rattle.std.proofs.lemmas.List.Elements.{All-contains, filter-append, filter_passes, Contains-push_cases}
use Rattle.gz_config.specs.declared.Config.{Config}
use Rattle.gz_core.specs.Awaiting.{without, without_rows, awaiting}
use Rattle.gz_core.specs.declared.requests.Op.{Op}
use Rattle.gz_core.specs.declared.requests.Op.TheVariants.{ReadRow, WriteRow, PutBlob, GetBlob, DropBlob}
use Rattle.gz_core.specs.declared.requests.Out.{Out}
use Rattle.gz_core.specs.declared.requests.Reply.{Reply}
use Rattle.gz_core.specs.History.{Asked, Action, Sent, Handed, GaveUp, Rested, GaveIn, Caller, IsClosing, is_row_request, asked_of, sent_from}
use Rattle.gz_core.proofs.Awaited.{contains_none, filter_contains}
use Rattle.gz_data.specs.Blobs.{is_put_blob, puts_sent}
use Rattle.gz_data.specs.Requests.{awaited_blob, without_number}
use Rattle.gz_data.specs.Storing.{IsCountOf}
use Rattle.gz_data.specs.declared.requests.AwaitedBlob.{AwaitedBlob}
use Rattle.gz_data.specs.declared.storing.Storing.{Storing as Counts}
use Rattle.gz_client.specs.Changes.{counted}
use Rattle.gz_client.specs.Running.{AreAbout, PutsStand, is_row_or_put}
use Rattle.gz_client.specs.declared.running.Puts.{Puts}
use Rattle.gz_client.proofs.Rules.{AreRows}

-- ---- what is awaited

sent_about : (p : Op → Bool) (rs : List Asked) (b : Asked) (t : Bool) (a : Asked) → (Contains rs a → p a.op ≡ true) → p b.op ≡ true → Contains (cond t (rs ++ b ∷ []) rs) a → p a.op ≡ true
sent_about p rs b true a before now i = elim (Contains-push_cases rs b a i) [
  | inl old ↦ before old
  | inr same ↦ ap (λ (c : Asked). p c.op) (sym same) ∙ now
]
sent_about p rs b false a before now i = before i

-- what a test of all operations says holds of those that are awaited
pub about_listed : (p : Op → Bool) (ms : List Action) (a : Asked) → AreAbout p ms → Contains (awaiting ms) a → p a.op ≡ true
about_listed p [] a h i = absurd (contains_none a i)
about_listed p (Sent b ∷ ms) a h i = sent_about p (awaiting ms) b b.awaited a (about_listed p ms a h.1) h.0 i
about_listed p (Handed b reply ∷ ms) a h i = about_listed p ms a h.1 (filter_contains (λ (c : Asked). not (c.number == b.number)) (awaiting ms) a i)
about_listed p (GaveUp b ∷ ms) a h i = about_listed p ms a h.1 (filter_contains (λ (c : Asked). not (c.number == b.number)) (awaiting ms) a i)
about_listed p (Rested ∷ ms) a h i = about_listed p ms a h.1 (filter_contains (λ (c : Asked). not (is_row_request c.op)) (awaiting ms) a i)
about_listed p (GaveIn ∷ ms) a h i = about_listed p ms a h.1 (filter_contains (λ (c : Asked). not (is_row_request c.op)) (awaiting ms) a i)

not_true : (b : Bool) → not b ≡ true → b ≡ false
not_true true e = absurd (false≢true e)
not_true false e = refl

-- a request among those for blobs is about no row
pub blob_not_row : (rs : List Asked) (a : Asked) → Contains (without_rows rs) a → is_row_request a.op ≡ false
blob_not_row rs a i =
    not_true (is_row_request a.op) (All-contains (λ (c : Asked). not (is_row_request c.op) ≡ true) (without_rows rs) a (filter_passes (λ (c : Asked). not (is_row_request c.op)) rs) i)

or_second : (a b : Bool) → a ≡ false → (a || b) ≡ true → b ≡ true
or_second true b e h = absurd (false≢true (sym e))
or_second false b e h = h

-- a request for a blob that a call which writes awaits stores a fragment
pub blob_is_put : (c : Config) (w : Caller) (puts : Puts) (ms : List Action) (a : Asked) → PutsStand c w puts ms → Contains (without_rows (awaiting ms)) a → is_put_blob a.op ≡ true
blob_is_put c w puts ms a h i =
    or_second (is_row_request a.op) (is_put_blob a.op) (blob_not_row (awaiting ms) a i)
    (about_listed is_row_or_put ms a h.about (filter_contains (λ (b : Asked). not (is_row_request b.op)) (awaiting ms) a i))

-- ---- one of them ends

module _ {X : Type 0} where
  filter_if : (p : X → Bool) (b : Bool) (x : X) (xs : List X) → filter p (cond b (x ∷ xs) xs) ≡ cond b (cond (p x) (x ∷ filter p xs) (filter p xs)) (filter p xs)
  filter_if p true x xs = refl
  filter_if p false x xs = refl

  swap_if : (a b : Bool) (x : X) (xs : List X) → cond a (cond b (x ∷ xs) xs) xs ≡ cond b (cond a (x ∷ xs) xs) xs
  swap_if true true x xs = refl
  swap_if true false x xs = refl
  swap_if false true x xs = refl
  swap_if false false x xs = refl

  -- two tests in either order
  pub filter_swap : (p q : X → Bool) (xs : List X) → filter p (filter q xs) ≡ filter q (filter p xs)
  filter_swap p q [] = refl
  filter_swap p q (x ∷ xs) =
      filter_if p (q x) x (filter q xs)
      ∙ (ap (λ (ys : List X). cond (q x) (cond (p x) (x ∷ ys) ys) ys) (filter_swap p q xs)
      ∙ (swap_if (q x) (p x) x (filter q (filter p xs)) ∙ sym (filter_if q (p x) x (filter p xs))))

kept_map : (n : ℕ) (b : Bool) (a : Asked) (rs : List Asked) → map awaited_blob (cond b (a ∷ rs) rs) ≡ cond b (awaited_blob a ∷ map awaited_blob rs) (map awaited_blob rs)
kept_map n true a rs = refl
kept_map n false a rs = refl

-- what is kept of those that are left
without_map : (n : ℕ) (rs : List Asked) → without_number n (map awaited_blob rs) ≡ map awaited_blob (without n rs)
without_map n [] = refl
without_map n (a ∷ rs) =
    ap (λ (bs : List AwaitedBlob). cond (not (a.number == n)) (awaited_blob a ∷ bs) bs) (without_map n rs) ∙ sym (kept_map n (not (a.number == n)) a (without n rs))

pub blobs_without : (n : ℕ) (rs : List Asked) (blobs : List AwaitedBlob) → blobs ≡ map awaited_blob (without_rows rs) → without_number n blobs ≡ map awaited_blob (without_rows (without n rs))
blobs_without n rs blobs e =
    ap (without_number n) e ∙ (without_map n (without_rows rs)
    ∙ ap (map awaited_blob) (filter_swap (λ (a : Asked). not (a.number == n)) (λ (a : Asked). not (is_row_request a.op)) rs))

fewer_if : {X : Type 0} (b : Bool) (x : X) (xs : List X) (n : ℕ) → length xs ≤ n → length (cond b (x ∷ xs) xs) ≤ n + 1
fewer_if true x xs n l = omega arith
fewer_if false x xs n l = omega arith

pub filter_fewer : {X : Type 0} (p : X → Bool) (xs : List X) → length (filter p xs) ≤ length xs
filter_fewer p [] = omega arith
filter_fewer p (x ∷ xs) = let h = fewer_if (p x) x (filter p xs) (length xs) (filter_fewer p xs) in omega arith

module _ {X : Type 0} where
  kept_again : (p : X → Bool) (b : Bool) (x : X) (xs : List X) → p x ≡ b → filter p (cond b (x ∷ xs) xs) ≡ cond b (x ∷ filter p xs) (filter p xs)
  kept_again p true x xs e = ap (λ t. cond t (x ∷ filter p xs) (filter p xs)) e
  kept_again p false x xs e = refl

  -- what passes a test passes it again
  pub filter_again : (p : X → Bool) (xs : List X) → filter p (filter p xs) ≡ filter p xs
  filter_again p [] = refl
  filter_again p (x ∷ xs) = kept_again p (p x) x (filter p xs) refl ∙ ap (λ (ys : List X). cond (p x) (x ∷ ys) ys) (filter_again p xs)

-- the fragments of a put once one is answered or given up
pub puts_handed : (c : Config) (w : Caller) (puts : Puts) (counts : Counts) (ms : List Action) (a : Asked) (reply : Reply) → Contains (without_rows (awaiting ms)) a → IsCountOf (Handed a reply ∷ ms) counts
    → PutsStand c w puts ms → PutsStand c w (counted a.number counts puts) (Handed a reply ∷ ms)
puts_handed c w puts counts ms a reply i count h = record {
  awaited_is = blobs_without a.number (awaiting ms) puts.awaited h.awaited_is;
  few = omega (arith, h.few, filter_fewer (λ (blob : AwaitedBlob). not (blob.number == a.number)) puts.awaited);
  counts = count;
  about = (about_listed is_row_or_put ms a h.about (filter_contains (λ (b : Asked). not (is_row_request b.op)) (awaiting ms) a i), h.about);
  all = h.all;
  none = λ reads. (about_listed is_row_request ms a (h.none reads) (filter_contains (λ (b : Asked). not (is_row_request b.op)) (awaiting ms) a i), h.none reads);
}

pub puts_given_up : (c : Config) (w : Caller) (puts : Puts) (counts : Counts) (ms : List Action) (a : Asked) → Contains (without_rows (awaiting ms)) a → IsCountOf (GaveUp a ∷ ms) counts
    → PutsStand c w puts ms → PutsStand c w (counted a.number counts puts) (GaveUp a ∷ ms)
puts_given_up c w puts counts ms a i count h = record {
  awaited_is = blobs_without a.number (awaiting ms) puts.awaited h.awaited_is;
  few = omega (arith, h.few, filter_fewer (λ (blob : AwaitedBlob). not (blob.number == a.number)) puts.awaited);
  counts = count;
  about = (about_listed is_row_or_put ms a h.about (filter_contains (λ (b : Asked). not (is_row_request b.op)) (awaiting ms) a i), h.about);
  all = h.all;
  none = λ reads. (about_listed is_row_request ms a (h.none reads) (filter_contains (λ (b : Asked). not (is_row_request b.op)) (awaiting ms) a i), h.none reads);
}

-- ---- row requests are sent, and rest

-- the fragments of a put, once its row requests rest
pub puts_rested : (c : Config) (w : Caller) (puts : Puts) (ms : List Action) → PutsStand c w puts ms → PutsStand c w puts (Rested ∷ ms)
puts_rested c w puts ms h = record {
  awaited_is = h.awaited_is ∙ ap (map awaited_blob) (sym (filter_again (λ (a : Asked). not (is_row_request a.op)) (awaiting ms)));
  few = h.few;
  counts = record { stored = h.counts.stored; lost = h.counts.lost };
  about = (refl, h.about);
  all = h.all;
  none = λ reads. (refl, h.none reads);
}

-- the same once every site went out
puts_given_in : (c : Config) (w : Caller) (puts : Puts) (ms : List Action) → PutsStand c w puts ms → PutsStand c w puts (GaveIn ∷ ms)
puts_given_in c w puts ms h = record {
  awaited_is = h.awaited_is ∙ ap (map awaited_blob) (sym (filter_again (λ (a : Asked). not (is_row_request a.op)) (awaiting ms)));
  few = h.few;
  counts = record { stored = h.counts.stored; lost = h.counts.lost };
  about = (refl, h.about);
  all = h.all;
  none = λ reads. (refl, h.none reads);
}

pub puts_closed : (c : Config) (w : Caller) (puts : Puts) (closing ms : List Action) → IsClosing closing → PutsStand c w puts ms → PutsStand c w puts (closing ++ ms)
puts_closed c w puts closing ms (inl none) h = subst (λ (cs : List Action). PutsStand c w puts (cs ++ ms)) (sym none) h
puts_closed c w puts closing ms (inr gave) h = subst (λ (cs : List Action). PutsStand c w puts (cs ++ ms)) (sym gave) (puts_given_in c w puts ms h)

pub row_not_put : (op : Op) → is_row_request op ≡ true → is_put_blob op ≡ false
row_not_put (ReadRow key) e = refl
row_not_put (WriteRow key expect step row) e = refl
row_not_put (PutBlob name bytes) e = absurd (false≢true e)
row_not_put (GetBlob name) e = absurd (false≢true e)
row_not_put (DropBlob name) e = absurd (false≢true e)

-- a request for a row is none of those for blobs that are awaited
row_left_out : (rs : List Asked) (a : Asked) (awaited : Bool) → is_row_request a.op ≡ true → without_rows (cond awaited (rs ++ a ∷ []) rs) ≡ without_rows rs
row_left_out rs a true e =
    let p : Asked → Bool = λ (b : Asked). not (is_row_request b.op) in
    filter-append p rs (a ∷ []) ∙ (ap (λ (t : Bool). without_rows rs ++ cond (not t) (a ∷ []) []) e ∙ append-nil (without_rows rs))
row_left_out rs a false e = refl

puts_row_sent : (c : Config) (w : Caller) (puts : Puts) (a : Asked) (ms : List Action) → is_row_request a.op ≡ true → PutsStand c w puts ms → PutsStand c w puts (Sent a ∷ ms)
puts_row_sent c w puts a ms e h = record {
  awaited_is = h.awaited_is ∙ ap (map awaited_blob) (sym (row_left_out (awaiting ms) a a.awaited e));
  few = h.few;
  counts = record { stored = h.counts.stored; lost = h.counts.lost };
  about = (ap (λ (t : Bool). t || is_put_blob a.op) e, h.about);
  all = λ put. cond-false (is_put_blob a.op) (puts_sent ms + 1) (puts_sent ms) (row_not_put a.op e) ∙ h.all put;
  none = λ reads. (e, h.none reads);
}

-- the fragments of a put once an event sent requests for rows
pub puts_rows_sent : (c : Config) (w : Caller) (puts : Puts) (first : ℕ) (outs : List Out) (ms : List Action) → AreRows outs → PutsStand c w puts ms → PutsStand c w puts (sent_from first outs ms)
puts_rows_sent c w puts first [] ms rows h = h
puts_rows_sent c w puts first (out ∷ outs) ms rows h =
    puts_rows_sent c w puts (first + 1) outs (Sent (asked_of first out) ∷ ms) rows.1 (puts_row_sent c w puts (asked_of first out) ms rows.0 h)
