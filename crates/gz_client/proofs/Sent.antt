-- What requests a call sent, by what its actions are about.
use Rattle.std.proofs.Common.{◌≡◌, Bool, true, false, List, [], ◌∷◌, refl, sym}
use Rattle.std.specs.Prelude.{◌||◌}
use Rattle.std.proofs.lemmas.Bool.{false≢true}
use Rattle.gz_config.specs.declared.Config.{Config}
use Rattle.gz_core.specs.Blobs.{BlobAt}
use Rattle.gz_core.specs.Names.{Name}
use Rattle.gz_core.specs.declared.requests.Op.{Op}
use Rattle.gz_core.specs.declared.requests.Op.TheVariants.{ReadRow, WriteRow, PutBlob, GetBlob, DropBlob}
use Rattle.gz_core.specs.History.{Action, Sent, Handed, GaveUp, Rested, GaveIn, Caller, is_row_request}
use Rattle.gz_data.specs.Blobs.{is_put_blob, is_op_about}
use Rattle.gz_round.specs.Sites.{AreBlobs}
use Rattle.gz_client.specs.Blobs.{has_sent, is_get_blob, reads_other, has_asked, has_fetched}
use Rattle.gz_client.specs.Running.{AreAbout, PutsStand, is_row_or_put}
use Rattle.gz_client.specs.declared.running.Puts.{Puts}

-- ---- requests of one kind are of no other

pub put_not_row : (op : Op) → is_put_blob op ≡ true → is_row_request op ≡ false
put_not_row (ReadRow key) e = absurd (false≢true e)
put_not_row (WriteRow key expect step row) e = absurd (false≢true e)
put_not_row (PutBlob name bytes) e = refl
put_not_row (GetBlob name) e = absurd (false≢true e)
put_not_row (DropBlob name) e = absurd (false≢true e)

pub about_not_row : (b : BlobAt) (op : Op) → is_op_about b op ≡ true → is_row_request op ≡ false
about_not_row b (ReadRow key) e = absurd (false≢true e)
about_not_row b (WriteRow key expect step row) e = absurd (false≢true e)
about_not_row b (PutBlob name bytes) e = refl
about_not_row b (GetBlob name) e = refl
about_not_row b (DropBlob name) e = absurd (false≢true e)

row_or_put_not_get : (op : Op) → is_row_or_put op ≡ true → is_get_blob op ≡ false
row_or_put_not_get (ReadRow key) e = refl
row_or_put_not_get (WriteRow key expect step row) e = refl
row_or_put_not_get (PutBlob name bytes) e = refl
row_or_put_not_get (GetBlob name) e = absurd (false≢true e)
row_or_put_not_get (DropBlob name) e = absurd (false≢true e)

no_get_no_other : (name : Name) (op : Op) → is_get_blob op ≡ false → reads_other name op ≡ false
no_get_no_other name (ReadRow key) e = refl
no_get_no_other name (WriteRow key expect step row) e = refl
no_get_no_other name (PutBlob b bytes) e = refl
no_get_no_other name (GetBlob b) e = absurd (false≢true (sym e))
no_get_no_other name (DropBlob b) e = refl

-- ---- what was not sent

or_false : (a b : Bool) → a ≡ false → b ≡ false → (a || b) ≡ false
or_false a b e h = rw e h

first_false : (a b : Bool) → (a || b) ≡ false → a ≡ false
first_false true b e = e
first_false false b e = refl

second_false : (a b : Bool) → (a || b) ≡ false → b ≡ false
second_false true b e = absurd (false≢true (sym e))
second_false false b e = e

-- a call whose actions are all of some kind sent no request of another
pub about_unsent : (p q : Op → Bool) → ((op : Op) → p op ≡ true → q op ≡ false) → (ms : List Action) → AreAbout p ms → has_sent q ms ≡ false
about_unsent p q apart [] h = refl
about_unsent p q apart (Sent a ∷ ms) h = or_false (q a.op) (has_sent q ms) (apart a.op h.0) (about_unsent p q apart ms h.1)
about_unsent p q apart (Handed a reply ∷ ms) h = about_unsent p q apart ms h.1
about_unsent p q apart (GaveUp a ∷ ms) h = about_unsent p q apart ms h.1
about_unsent p q apart (Rested ∷ ms) h = about_unsent p q apart ms h.1
about_unsent p q apart (GaveIn ∷ ms) h = about_unsent p q apart ms h.1

-- a call whose actions are all of some kind has them of a wider one
pub about_wider : (p q : Op → Bool) → ((op : Op) → p op ≡ true → q op ≡ true) → (ms : List Action) → AreAbout p ms → AreAbout q ms
about_wider p q wider [] h = h
about_wider p q wider (Sent a ∷ ms) h = (wider a.op h.0, about_wider p q wider ms h.1)
about_wider p q wider (Handed a reply ∷ ms) h = (wider a.op h.0, about_wider p q wider ms h.1)
about_wider p q wider (GaveUp a ∷ ms) h = (wider a.op h.0, about_wider p q wider ms h.1)
about_wider p q wider (Rested ∷ ms) h = (refl, about_wider p q wider ms h.1)
about_wider p q wider (GaveIn ∷ ms) h = (refl, about_wider p q wider ms h.1)

-- a call that sent none of some kind sent none of a narrower one
pub narrower_unsent : (p q : Op → Bool) → ((op : Op) → p op ≡ false → q op ≡ false) → (ms : List Action) → has_sent p ms ≡ false → has_sent q ms ≡ false
narrower_unsent p q narrower [] h = refl
narrower_unsent p q narrower (Sent a ∷ ms) h =
    or_false (q a.op) (has_sent q ms) (narrower a.op (first_false (p a.op) (has_sent p ms) h)) (narrower_unsent p q narrower ms (second_false (p a.op) (has_sent p ms) h))
narrower_unsent p q narrower (Handed a reply ∷ ms) h = narrower_unsent p q narrower ms h
narrower_unsent p q narrower (GaveUp a ∷ ms) h = narrower_unsent p q narrower ms h
narrower_unsent p q narrower (Rested ∷ ms) h = narrower_unsent p q narrower ms h
narrower_unsent p q narrower (GaveIn ∷ ms) h = narrower_unsent p q narrower ms h

-- a call to which nothing of rows has happened asked for none
pub blobs_unasked : (ms : List Action) → AreBlobs ms → has_asked ms ≡ false
blobs_unasked [] h = refl
blobs_unasked (Sent a ∷ ms) h = or_false (is_row_request a.op) (has_asked ms) h.0 (blobs_unasked ms h.1)
blobs_unasked (Handed a reply ∷ ms) h = blobs_unasked ms h.1
blobs_unasked (GaveUp a ∷ ms) h = blobs_unasked ms h.1
blobs_unasked (Rested ∷ ms) h = absurd (false≢true (sym h.0))
blobs_unasked (GaveIn ∷ ms) h = absurd (false≢true (sym h.0))

-- a call with the fragments of a put, or with none, asked for no fragment
pub puts_unfetched : (c : Config) (w : Caller) (puts : Puts) (ms : List Action) → PutsStand c w puts ms → has_fetched ms ≡ false
puts_unfetched c w puts ms h = about_unsent is_row_or_put is_get_blob row_or_put_not_get ms h.about

-- nor for one of another put
pub unfetched_alone : (name : Name) (ms : List Action) → has_fetched ms ≡ false → has_sent (reads_other name) ms ≡ false
unfetched_alone name ms h = narrower_unsent is_get_blob (reads_other name) (no_get_no_other name) ms h
