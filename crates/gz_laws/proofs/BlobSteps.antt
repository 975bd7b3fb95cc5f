-- An operation on a blob leaves the rows and the tags of its site as they were, and its reply shows no row.
use Rattle.std.proofs.Common.{◌≡◌, inl, inr, false, None, refl, ap}
use Rattle.gz_core.specs.History.{is_row_request}
use Rattle.gz_core.specs.declared.requests.Op.{Op}
use Rattle.gz_core.specs.declared.requests.Op.TheVariants.{ReadRow, WriteRow, PutBlob, GetBlob, DropBlob}
use Rattle.gz_core.specs.declared.requests.Reply.{Reply}
use Rattle.gz_core.specs.declared.requests.Reply.TheVariants.{Row, NoRow, Stored, Blob, NoBlob, Dropped, Failed}
use Rattle.gz_round.specs.Sites.{seen_in, written_by}
use Rattle.gz_site.specs.Told.{Told}
use Rattle.gz_world.specs.Steps.{Answers}

-- the rows and the tags of a site are as they were
pub record IsSameRows (before after : Told) : Type 0 where
  pub rows : after.rows ≡ before.rows
  pub top : after.top ≡ before.top

unchanged : (before after : Told) → after ≡ before → IsSameRows before after
unchanged before after e = record { rows = ap (λ (t : Told). t.rows) e; top = ap (λ (t : Told). t.top) e }

pub blob_leaves : (before after : Told) (op : Op) (reply : Reply) → is_row_request op ≡ false → Answers before op reply after → IsSameRows before after
blob_leaves before after (ReadRow key) reply blob h = cc
blob_leaves before after (WriteRow key expect step row) reply blob h = cc
blob_leaves before after (PutBlob name bytes) Stored blob h = record { rows = h.rows; top = h.top }
blob_leaves before after (PutBlob name bytes) Failed blob h = elim h [ inl e ↦ unchanged before after e | inr set ↦ record { rows = set.rows; top = set.top } ]
blob_leaves before after (GetBlob name) (Blob bytes) blob h = unchanged before after h.1
blob_leaves before after (GetBlob name) NoBlob blob h = unchanged before after h.1
blob_leaves before after (GetBlob name) Failed blob h = unchanged before after h
blob_leaves before after (DropBlob name) Dropped blob h = record { rows = h.1.rows; top = h.1.top }
blob_leaves before after (DropBlob name) NoBlob blob h = record { rows = h.1.rows; top = h.1.top }
blob_leaves before after (DropBlob name) Failed blob h = elim h [ inl e ↦ unchanged before after e | inr set ↦ record { rows = set.rows; top = set.top } ]
blob_leaves before after op reply blob h = absurd h

pub blob_unseen : (before after : Told) (op : Op) (reply : Reply) → is_row_request op ≡ false → Answers before op reply after → seen_in (written_by op) reply ≡ None
blob_unseen before after (ReadRow key) reply blob h = cc
blob_unseen before after (WriteRow key expect step row) reply blob h = cc
blob_unseen before after op (Row etag row) blob h = absurd h
blob_unseen before after op NoRow blob h = absurd h
blob_unseen before after op reply blob h = refl
