-- Pieces that came whole are those of different fragments.
use Rattle.std.proofs.Common.{◌≡◌, ◌≢◌, ℕ, ◌<◌, ◌⊎◌, inl, inr, List, [], ◌∷◌, ◌++◌, Some, None, true, false, length, get_or, refl, ap, sym, ◌∙◌, subst, arith, length-append}
use Rattle.std.proofs.lemmas.Bool.{cases_lt, eq-eqb, false≢true}
use Rattle.std.proofs.lemmas.List.{append-nil, get_or_append_left}
use Rattle.std.proofs.Math.Seq.{get_or-append_seam}
use Rattle.std.specs.Prelude.{Option, if◌then◌else◌}
use Rattle.gz_core.specs.Awaiting.{IsAwaited, AreInTurn}
use Rattle.gz_core.specs.Blobs.{BlobAt, same_blob}
use Rattle.gz_core.specs.Puts.{PutData}
use Rattle.gz_core.specs.declared.requests.Op.{Op}
use Rattle.gz_core.specs.declared.requests.Op.TheVariants.{ReadRow, WriteRow, PutBlob, GetBlob, DropBlob}
use Rattle.gz_core.specs.declared.requests.Reply.{Reply}
use Rattle.gz_core.specs.History.{Asked, Action, Sent, Handed, GaveUp, Rested, GaveIn}
use Rattle.gz_data.specs.Blobs.{Outcome, Answered, Abandoned, BlobNow, blob_at, blob_now, is_op_about, wholes, whole_by, piece_in, pieces_by, IsFirstAsked, AreAskedOnce}
use Rattle.gz_data.specs.Whole.{Piece, no_piece}
use Rattle.gz_data.proofs.Fresh.{awaited_is_new}
use Rattle.gz_data.proofs.SameBlob.{same_blob-blob_at}
use Rattle.gz_laws.proofs.BlobsSent.{same_blob_is}

-- ---- one more piece

abbrev EachPiece : (Piece → Type 0) → List Piece → Type 0
EachPiece P ps = (j : ℕ) → j < length ps → P (get_or ps j no_piece)

abbrev pub AreApart : List Piece → Type 0
AreApart ps = (i j : ℕ) → i < j → j < length ps → (get_or ps i no_piece).0 ≢ (get_or ps j no_piece).0

module _ (ps : List Piece) (p : Piece) where
  at_front : (j : ℕ) → j < length ps → get_or (ps ++ p ∷ []) j no_piece ≡ get_or ps j no_piece
  at_front j l = get_or_append_left ps (p ∷ []) no_piece j l

  at_end : (j : ℕ) → j ≡ length ps → get_or (ps ++ p ∷ []) j no_piece ≡ p
  at_end j e = ap (λ (n : ℕ). get_or (ps ++ p ∷ []) n no_piece) e ∙ get_or-append_seam ps p [] no_piece

  place : (j : ℕ) → j < length (ps ++ p ∷ []) → (j < length ps) ⊎ (j ≡ length ps)
  place j l = elim (cases_lt j (length ps)) [ inl before ↦ inl before | inr after ↦ inr (omega (arith, length-append ps (p ∷ []))) ]

  each_push : (P : Piece → Type 0) → EachPiece P ps → P p → EachPiece P (ps ++ p ∷ [])
  each_push P h here j l = elim (place j l) [ inl f ↦ subst P (sym (at_front j f)) (h j f) | inr e ↦ subst P (sym (at_end j e)) here ]

  apart_push : AreApart ps → EachPiece (λ (q : Piece). q.0 ≢ p.0) ps → AreApart (ps ++ p ∷ [])
  apart_push h new i j lt l = elim (place j l) [
    | inl f ↦ rw (at_front i (omega arith), at_front j f) (h i j lt f)
    | inr e ↦ rw (at_front i (omega arith), at_end j e) (new i (omega arith))
  ]

-- ---- what is known of the fragment of a piece

module _ (key : List ℕ) (x : PutData) where
  -- it was asked for, and something came of it
  abbrev IsCome : List Action → Piece → Type 0
  IsCome ms piece = ((blob_now ms (blob_at key x piece.0)).asked ≡ true) × ((blob_now ms (blob_at key x piece.0)).outcome ≡ None → ⊥)

  come_sent : (ms : List Action) (a : Asked) (piece : Piece) → IsFirstAsked ms (Sent a) → IsCome ms piece → IsCome (Sent a ∷ ms) piece
  come_sent ms a piece first h =
      let b = blob_at key x piece.0 in
      elim (is_op_about b a.op) as (λ t. is_op_about b a.op ≡ t → let n : BlobNow = (if t then record { asked = true; outcome = None } else blob_now ms b) in (n.asked ≡ true) × (n.outcome ≡ None → ⊥)) [
        | true ↦ λ e. absurd (false≢true (sym (first b e) ∙ h.0))
        | false ↦ λ e. h
      ] refl

  come_ended : (ms : List Action) (o : Outcome) (op : Op) (piece : Piece) → IsCome ms piece
      → (let n : BlobNow = (if is_op_about (blob_at key x piece.0) op then record { asked = (blob_now ms (blob_at key x piece.0)).asked; outcome = Some o } else blob_now ms (blob_at key x piece.0)) in (n.asked ≡ true) × (n.outcome ≡ None → ⊥))
  come_ended ms o op piece h =
      let b = blob_at key x piece.0 in
      elim (is_op_about b op) as (λ t. let n : BlobNow = (if t then record { asked = (blob_now ms b).asked; outcome = Some o } else blob_now ms b) in (n.asked ≡ true) × (n.outcome ≡ None → ⊥)) [
        | true ↦ (h.0, λ bad. cc)
        | false ↦ h
      ]

  -- a reply brings no piece, or that of the fragment that was asked for
  data Brings (op : Op) (pieces : List Piece) : Type 0 where
    nothing : pieces ≡ [] → Brings op pieces
    one : (i : ℕ) (piece : List ℕ) → pieces ≡ (i, piece) ∷ [] → op ≡ GetBlob (blob_at key x i) → Brings op pieces

  brings_piece : (b : BlobAt) (o : Option (List ℕ)) → b ≡ blob_at key x b.index → Brings (GetBlob b) (pieces_by b.index o)
  brings_piece b None is = nothing refl
  brings_piece b (Some piece) is = one b.index piece refl (ap GetBlob is)

  brings : (op : Op) (reply : Reply) → Brings op (whole_by key x op reply)
  brings (GetBlob b) reply = elim (same_blob b (blob_at key x b.index)) as (λ t. same_blob b (blob_at key x b.index) ≡ t → Brings (GetBlob b) (if t then pieces_by b.index (piece_in key x b.index reply) else [])) [
    | true ↦ λ e. brings_piece b (piece_in key x b.index reply) (same_blob_is b (blob_at key x b.index) e)
    | false ↦ λ e. nothing refl
  ] refl
  brings (ReadRow k) reply = nothing refl
  brings (WriteRow k expect step row) reply = nothing refl
  brings (PutBlob b bytes) reply = nothing refl
  brings (DropBlob b) reply = nothing refl

  record AreFine (ms : List Action) (ps : List Piece) : Type 0 where
    pub apart : AreApart ps
    pub come : EachPiece (IsCome ms) ps

  fine_more : (ms : List Action) (m : Action) (ps : List Piece) → ((piece : Piece) → IsCome ms piece → IsCome (m ∷ ms) piece) → AreFine ms ps → AreFine (m ∷ ms) (ps ++ [])
  fine_more ms m ps more h = subst (AreFine (m ∷ ms)) (sym (append-nil ps)) (record { apart = h.apart; come = λ j l. more (get_or ps j no_piece) (h.come j l) })

  fine_handed : (ms : List Action) (a : Asked) (reply : Reply) (ps pieces : List Piece) → AreInTurn ms → AreAskedOnce ms → IsAwaited ms a → Brings a.op pieces → AreFine ms ps → AreFine (Handed a reply ∷ ms) (ps ++ pieces)
  fine_handed ms a reply ps pieces turn once awaited (nothing e) h =
      subst (λ (more : List Piece). AreFine (Handed a reply ∷ ms) (ps ++ more)) (sym e) (fine_more ms (Handed a reply) ps (λ piece k. come_ended ms (Answered reply) a.op piece k) h)
  fine_handed ms a reply ps pieces turn once awaited (one i piece e op) h =
      let b = blob_at key x i in
      let about : is_op_about b a.op ≡ true = ap (is_op_about b) op ∙ (same_blob-blob_at key x i i ∙ eq-eqb i i refl) in
      let new = awaited_is_new ms a b turn once awaited about in
      let asked : (blob_now ms b).asked ≡ true = ap (λ (n : BlobNow). n.asked) new in
      let here : IsCome (Handed a reply ∷ ms) (i, piece) = rw about (asked, λ bad. cc) in
      subst (λ (more : List Piece). AreFine (Handed a reply ∷ ms) (ps ++ more)) (sym e) (record {
        apart = apart_push ps (i, piece) h.apart (λ j l same. (h.come j l).1 (ap (λ (n : ℕ). (blob_now ms (blob_at key x n)).outcome) same ∙ ap (λ (n : BlobNow). n.outcome) new));
        come = each_push ps (i, piece) (IsCome (Handed a reply ∷ ms)) (λ j l. come_ended ms (Answered reply) a.op (get_or ps j no_piece) (h.come j l)) here;
      })

  fine : (ms : List Action) → AreInTurn ms → AreAskedOnce ms → AreFine ms (wholes key x ms)
  fine [] turn once = record { apart = λ i j lt l. absurd (omega (arith, l)); come = λ j l. absurd (omega (arith, l)) }
  fine (Sent a ∷ ms) turn once = fine_more ms (Sent a) (wholes key x ms) (λ piece h. come_sent ms a piece once.0 h) (fine ms turn.1 once.1)
  fine (Handed a reply ∷ ms) turn once = fine_handed ms a reply (wholes key x ms) (whole_by key x a.op reply) turn.1 once.1 turn.0 (brings a.op reply) (fine ms turn.1 once.1)
  fine (GaveUp a ∷ ms) turn once = fine_more ms (GaveUp a) (wholes key x ms) (λ piece h. come_ended ms Abandoned a.op piece h) (fine ms turn.1 once.1)
  fine (Rested ∷ ms) turn once = fine_more ms Rested (wholes key x ms) (λ piece h. h) (fine ms turn.1 once.1)
  fine (GaveIn ∷ ms) turn once = fine_more ms GaveIn (wholes key x ms) (λ piece h. h) (fine ms turn.1 once.1)

  -- so no two are of one fragment
  pub wholes_apart : (ms : List Action) → AreInTurn ms → AreAskedOnce ms → AreApart (wholes key x ms)
  wholes_apart ms turn once = (fine ms turn once).apart
