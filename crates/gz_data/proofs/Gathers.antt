-- The fragments of a value as they come: what is kept of them is what happened to the call.
use Rattle.std.proofs.Common.{◌≡◌, ◌≢◌, ℕ, zero, suc, ◌+◌, ◌<◌, ◌≤◌, Bool, true, false, cond, List, [], ◌∷◌, ◌++◌, length, get_or, map, Option, Some, None, refl, sym, ap, subst, ◌∙◌, inl, inr, arith, length-append}
use Rattle.std.specs.Prelude.{◌⊎◌, ◌==◌, slice_get, slice_set, option_map, is_some}
use Rattle.std.specs.List.{All}
use Rattle.std.specs.Int.{div_ceil}
use Rattle.std.proofs.Math.ListN.{length-set}
use Rattle.std.proofs.lemmas.Bool.{cases_Bool, cases_lt, eqb-true, eq-eqb}
use Rattle.std.proofs.lemmas.List.{get_or_append_left, length-map}
use Rattle.std.proofs.Math.Seq.{get_or-append_seam}
use Rattle.std.proofs.lemmas.Option.{slice_get-map}
use Rattle.gz_core.specs.Blobs.{BlobAt, same_blob}
use Rattle.gz_core.specs.Puts.{PutData}
use Rattle.gz_core.specs.declared.fates.Fate.{Fate}
use Rattle.gz_core.specs.declared.requests.Op.{Op}
use Rattle.gz_core.specs.declared.requests.Op.TheVariants.{GetBlob}
use Rattle.gz_core.specs.declared.requests.Reply.{Reply}
use Rattle.gz_core.specs.declared.requests.Reply.TheVariants.{Row, NoRow, Written, Changed, Stored, Blob, NoBlob, Dropped, Failed}
use Rattle.gz_core.specs.History.{Asked, Action, Sent, Handed, GaveUp}
use Rattle.gz_data.specs.Own.{digest_at}
use Rattle.gz_data.specs.Records.{fragment_at, whole_piece}
use Rattle.gz_data.specs.Whole.{Piece, no_piece, ArePieces, IsRebuilt}
use Rattle.gz_data.specs.Blobs.{Outcome, Answered, Abandoned, BlobNow, is_op_about, blob_now, blob_at, fate_in, fate_by, fate_now, piece_in, pieces_by, whole_by, wholes}
use Rattle.gz_data.specs.Gathered.{GatheredAt, IsGathered, IsWaitedFor, noted, with_given_up, AreAsked, Gathers, IsLacking}
use Rattle.gz_data.proofs.SameBlob.{same_blob-blob_at}
use Rattle.gz_data.proofs.Whole.{whole_is}

-- ---- one element is set

module _ {X : Type 0} where
  get_set_same : (xs : List X) (i : ℕ) (v : X) → i < length xs → slice_get (slice_set xs i v) i ≡ Some v
  get_set_same [] i v l = absurd (omega arith)
  get_set_same (x ∷ xs) zero v l = refl
  get_set_same (x ∷ xs) (suc i) v l = get_set_same xs i v (omega arith)

  get_set_other : (xs : List X) (i j : ℕ) (v : X) → (i ≡ j → ⊥) → slice_get (slice_set xs i v) j ≡ slice_get xs j
  get_set_other [] i j v apart = refl
  get_set_other (x ∷ xs) zero zero v apart = absurd (apart refl)
  get_set_other (x ∷ xs) zero (suc j) v apart = refl
  get_set_other (x ∷ xs) (suc i) zero v apart = refl
  get_set_other (x ∷ xs) (suc i) (suc j) v apart = get_set_other xs i j v (λ e. apart (ap suc e))

-- ---- what came of one fragment

module _ (key : List ℕ) (x : PutData) where
  about_at : (i j : ℕ) (op : Op) → op ≡ GetBlob (blob_at key x i) → is_op_about (blob_at key x j) op ≡ (i == j)
  about_at i j op is = ap (is_op_about (blob_at key x j)) is ∙ same_blob-blob_at key x i j

  came : Bool → BlobNow → Outcome → BlobNow
  came t now o = cond t (record { asked = now.asked; outcome = Some o }) now

  still_asked : (t : Bool) (now : BlobNow) (o : Outcome) → now.asked ≡ true → (cond t (record { asked = now.asked; outcome = Some o }) now).asked ≡ true
  still_asked true now o h = h
  still_asked false now o h = h

  fates_more : (ms : List Action) (fates : List (Option Fate)) (i : ℕ) (op : Op) (o : Outcome) → op ≡ GetBlob (blob_at key x i) → i < x.k + x.m → length fates ≡ x.k + x.m
      → ((j : ℕ) → j < x.k + x.m → slice_get fates j ≡ Some (fate_now key x ms j)) → (j : ℕ) → j < x.k + x.m
      → slice_get (slice_set fates i (Some (fate_by key x i o))) j
      ≡ Some (option_map (fate_by key x j) (cond (is_op_about (blob_at key x j) op) (record { asked = (blob_now ms (blob_at key x j)).asked; outcome = Some o }) (blob_now ms (blob_at key x j))).outcome)
  fates_more ms fates i op o is within count before j l =
      let about = about_at i j op is in
      elim (cases_Bool (i == j)) [
        | inl e ↦
            let same : i ≡ j = eqb-true i j e in
            rw (about, e) (subst (λ (n : ℕ). slice_get (slice_set fates i (Some (fate_by key x i o))) n ≡ Some (Some (fate_by key x n o))) same (get_set_same fates i (Some (fate_by key x i o)) (omega arith)))
        | inr e ↦
            let apart : (i ≡ j → ⊥) = λ same. let bad = eq-eqb i j same in cc in
            rw (about, e) (get_set_other fates i j (Some (fate_by key x i o)) apart ∙ before j l)
      ]

  whole_by-same : (i : ℕ) (op : Op) (reply : Reply) → op ≡ GetBlob (blob_at key x i) → whole_by key x op reply ≡ pieces_by i (piece_in key x i reply)
  whole_by-same i op reply is =
      let t : same_blob (blob_at key x i) (blob_at key x i) ≡ true = same_blob-blob_at key x i i ∙ eq-eqb i i refl in
      ap (λ (p : Op). whole_by key x p reply) is ∙ ap (λ (b : Bool). cond b (pieces_by i (piece_in key x i reply)) []) t

pub gathers_begins : (key : List ℕ) (ms : List Action) (g : GatheredAt) → length g.fates ≡ g.value.k + g.value.m → ((i : ℕ) → i < length g.fates → slice_get g.fates i ≡ Some None) → g.pieces ≡ []
    → AreAsked key g.value ms → Gathers key ms g
gathers_begins key ms g count none empty asked = record {
  asked = λ i l. ap (λ (b : BlobNow). b.asked) (asked.fresh i l);
  fates = λ i l. none i (omega arith) ∙ ap Some (sym (ap (λ (b : BlobNow). option_map (fate_by key g.value i) b.outcome) (asked.fresh i l)));
  pieces = empty ∙ sym asked.none;
}

pub gathers_noted : (key : List ℕ) (ms : List Action) (g : GatheredAt) (i : ℕ) (a : Asked) (reply : Reply) → length g.fates ≡ g.value.k + g.value.m → i < g.value.k + g.value.m
    → a.op ≡ GetBlob (blob_at key g.value i) → Gathers key ms g → Gathers key (Handed a reply ∷ ms) (noted g key i reply)
gathers_noted key ms g i a reply count l is gathers = record {
  asked = λ j m. still_asked key g.value (is_op_about (blob_at key g.value j) a.op) (blob_now ms (blob_at key g.value j)) (Answered reply) (gathers.asked j m);
  fates = fates_more key g.value ms g.fates i a.op (Answered reply) is l count gathers.fates;
  pieces = ap (λ (ps : List Piece). ps ++ pieces_by i (piece_in key g.value i reply)) gathers.pieces
      ∙ ap (λ (ps : List Piece). wholes key g.value ms ++ ps) (sym (whole_by-same key g.value i a.op reply is));
}

append_none : (ps : List Piece) → ps ++ [] ≡ ps
append_none [] = refl
append_none (p ∷ ps) = ap (λ (qs : List Piece). p ∷ qs) (append_none ps)

pub gathers_given_up : (key : List ℕ) (ms : List Action) (g : GatheredAt) (i : ℕ) (a : Asked) → length g.fates ≡ g.value.k + g.value.m → i < g.value.k + g.value.m
    → a.op ≡ GetBlob (blob_at key g.value i) → Gathers key ms g → Gathers key (GaveUp a ∷ ms) (with_given_up g i)
gathers_given_up key ms g i a count l is gathers = record {
  asked = λ j m. still_asked key g.value (is_op_about (blob_at key g.value j) a.op) (blob_now ms (blob_at key g.value j)) Abandoned (gathers.asked j m);
  fates = fates_more key g.value ms g.fates i a.op Abandoned is l count gathers.fates;
  pieces = gathers.pieces ∙ sym (append_none (wholes key g.value ms));
}

-- ---- the rules of what is kept

-- a piece that came whole is as wide as the others
wide_piece : (key : List ℕ) (x : PutData) (i : ℕ) (reply : Reply) (piece : List ℕ) → piece_in key x i reply ≡ Some piece → length piece ≡ div_ceil x.length x.k
wide_piece key x i (Blob bytes) piece e = let whole = whole_is (fragment_at key x i) (digest_at x i) bytes piece e in whole.wide
wide_piece key x i (Row etag row) piece e = absurd cc
wide_piece key x i NoRow piece e = absurd cc
wide_piece key x i (Written etag) piece e = absurd cc
wide_piece key x i Changed piece e = absurd cc
wide_piece key x i Stored piece e = absurd cc
wide_piece key x i NoBlob piece e = absurd cc
wide_piece key x i Dropped piece e = absurd cc
wide_piece key x i Failed piece e = absurd cc

module _ (g : GatheredAt) (is : IsGathered g) (i : ℕ) (waited : IsWaitedFor g i) where
  -- no piece has come of it
  no_piece_of : (j : ℕ) → j < length g.pieces → (get_or g.pieces j no_piece).0 ≡ i → ⊥
  no_piece_of j l e = is.came j l (ap (slice_get g.fates) e ∙ waited.none)

  came_still : (fate : Fate) (j : ℕ) → j < length g.pieces → slice_get (slice_set g.fates i (Some fate)) (get_or g.pieces j no_piece).0 ≢ Some None
  came_still fate j l e =
      is.came j l (sym (get_set_other g.fates i (get_or g.pieces j no_piece).0 (Some fate) (λ same. no_piece_of j l (sym same))) ∙ e)

  pub gathered_given_up : (fate : Fate) → IsGathered (record g { fates = slice_set g.fates i (Some fate) })
  gathered_given_up fate = record { count = length-set g.fates i (Some fate) ∙ is.count; pieces = is.pieces; came = came_still fate; few = is.few }

  module _ (fate : Fate) (piece : List ℕ) (wide : length piece ≡ div_ceil g.value.length g.value.k) (few : length g.pieces < g.value.k) where
    at_front : (j : ℕ) → j < length g.pieces → get_or (g.pieces ++ (i, piece) ∷ []) j no_piece ≡ get_or g.pieces j no_piece
    at_front j l = get_or_append_left g.pieces ((i, piece) ∷ []) no_piece j l

    at_end : (j : ℕ) → j ≡ length g.pieces → get_or (g.pieces ++ (i, piece) ∷ []) j no_piece ≡ (i, piece)
    at_end j e = ap (λ (n : ℕ). get_or (g.pieces ++ (i, piece) ∷ []) n no_piece) e ∙ get_or-append_seam g.pieces (i, piece) [] no_piece

    place : (j : ℕ) → j < length (g.pieces ++ (i, piece) ∷ []) → (j < length g.pieces) ⊎ (j ≡ length g.pieces)
    place j l = elim (cases_lt j (length g.pieces)) [ inl before ↦ inl before | inr after ↦ inr (omega (arith, length-append g.pieces ((i, piece) ∷ []))) ]

    pub gathered_noted : IsGathered (record g { fates = slice_set g.fates i (Some fate); pieces = g.pieces ++ (i, piece) ∷ [] })
    gathered_noted = record {
      count = length-set g.fates i (Some fate) ∙ is.count;
      pieces = record {
        within = λ j l. elim (place j l) [ inl f ↦ rw (at_front j f) (is.pieces.within j f) | inr e ↦ rw (at_end j e) waited.within ];
        wide = λ j l. elim (place j l) [ inl f ↦ rw (at_front j f) (is.pieces.wide j f) | inr e ↦ rw (at_end j e) wide ];
        apart = λ h j lt l. elim (place j l) [
          | inl f ↦ rw (at_front h (omega arith), at_front j f) (is.pieces.apart h j lt f)
          | inr e ↦ rw (at_front h (omega arith), at_end j e) (no_piece_of h (omega arith))
        ];
      };
      came = λ j l. elim (place j l) [
        | inl f ↦ rw (at_front j f) (came_still fate j f)
        | inr e ↦ rw (at_end j e) (λ bad. let now = sym (get_set_same g.fates i (Some fate) (omega (arith, is.count, waited.within))) ∙ bad in cc)
      ];
      few = omega (arith, length-append g.pieces ((i, piece) ∷ []));
    }

-- whatever reply came, the rules hold
pub gathered_reply : (g : GatheredAt) (key : List ℕ) (i : ℕ) (reply : Reply) → IsGathered g → IsWaitedFor g i → length g.pieces < g.value.k → IsGathered (noted g key i reply)
gathered_reply g key i reply is waited few = by (piece_in key g.value i reply) (λ piece e. wide_piece key g.value i reply piece e)
  where
    by : (o : Option (List ℕ)) → ((piece : List ℕ) → o ≡ Some piece → length piece ≡ div_ceil g.value.length g.value.k)
        → IsGathered (record { version = g.version; value = g.value; fates = slice_set g.fates i (Some (fate_in key g.value i reply)); pieces = g.pieces ++ pieces_by i o })
    by None wide = rw (append_none g.pieces) (gathered_given_up g is i waited (fate_in key g.value i reply))
    by (Some piece) wide = gathered_noted g is i waited (fate_in key g.value i reply) piece (wide piece refl) few

-- ---- the fates that are told

peel : (some : Option Fate) (o : Option Fate) → option_map (λ (f : Fate). Some f) some ≡ Some o → some ≡ o
peel None o e = absurd cc
peel (Some f) o e = cc

pub is_lacking : (key : List ℕ) (ms : List Action) (g : GatheredAt) (fates : List Fate) → IsGathered g → Gathers key ms g → length g.pieces ≢ g.value.k → map (λ (f : Fate). Some f) fates ≡ g.fates
    → IsLacking key g.value ms fates
is_lacking key ms g fates is gathers apart all = record {
  asked = gathers.asked;
  few = let few = is.few in omega (arith, ap length gathers.pieces);
  count = sym (length-map fates (λ (f : Fate). Some f)) ∙ ap length all ∙ is.count;
  fates = λ i l. peel (slice_get fates i) (fate_now key g.value ms i) (sym (slice_get-map (λ (f : Fate). Some f) fates i) ∙ ap (λ (came : List (Option Fate)). slice_get came i) all ∙ gathers.fates i l);
}

-- ---- at what a gathering holds

-- whatever equals what was noted
pub noted_is : (g : GatheredAt) (key : List ℕ) (i : ℕ) (reply : Reply) (fates : List (Option Fate)) (fate : Fate) (pieces : List Piece)
    → fates ≡ slice_set g.fates i (Some fate) → fate ≡ fate_in key g.value i reply → pieces ≡ g.pieces ++ pieces_by i (piece_in key g.value i reply)
    → record { version = g.version; value = g.value; fates = fates; pieces = pieces } ≡ noted g key i reply
noted_is g key i reply fates fate pieces set came kept =
    let fates_are : fates ≡ slice_set g.fates i (Some (fate_in key g.value i reply)) = set ∙ ap (λ (f : Fate). slice_set g.fates i (Some f)) came in
    let P : List (Option Fate) → GatheredAt = λ fs. record { version = g.version; value = g.value; fates = fs; pieces = pieces } in
    let Q : List Piece → GatheredAt = λ ps. record { version = g.version; value = g.value; fates = slice_set g.fates i (Some (fate_in key g.value i reply)); pieces = ps } in
    ap P fates_are ∙ ap Q kept

pub gathered_new : (g seen new : GatheredAt) (key : List ℕ) (i : ℕ) (reply : Reply) → g ≡ seen → IsGathered g → IsWaitedFor seen i → length seen.pieces < seen.value.k → new ≡ noted g key i reply → IsGathered new
gathered_new g seen new key i reply same is waited few e =
    let rules = subst (λ (h : GatheredAt). IsWaitedFor h i × (length h.pieces < h.value.k)) (sym same) (waited, few) in
    subst IsGathered (sym e) (gathered_reply g key i reply is rules.0 rules.1)

pub gathers_new : (key : List ℕ) (ms : List Action) (g seen new : GatheredAt) (i : ℕ) (a : Asked) (reply : Reply) → g ≡ seen → IsGathered g → IsWaitedFor seen i → new ≡ noted g key i reply
    → a.op ≡ GetBlob (blob_at key seen.value i) → Gathers key ms seen → Gathers key (Handed a reply ∷ ms) new
gathers_new key ms g seen new i a reply same is waited e op gathers =
    let is_seen = subst IsGathered same is in
    subst (Gathers key (Handed a reply ∷ ms)) (sym (e ∙ ap (λ (h : GatheredAt). noted h key i reply) same)) (gathers_noted key ms seen i a reply is_seen.count waited.within op gathers)

pub gathers_less : (key : List ℕ) (ms : List Action) (g seen new : GatheredAt) (i : ℕ) (a : Asked) → g ≡ seen → IsGathered g → IsWaitedFor seen i → new ≡ with_given_up g i
    → a.op ≡ GetBlob (blob_at key seen.value i) → Gathers key ms seen → Gathers key (GaveUp a ∷ ms) new
gathers_less key ms g seen new i a same is waited e op gathers =
    let is_seen = subst IsGathered same is in
    subst (Gathers key (GaveUp a ∷ ms)) (sym (e ∙ ap (λ (h : GatheredAt). with_given_up h i) same)) (gathers_given_up key ms seen i a is_seen.count waited.within op gathers)

-- what is rebuilt of the pieces is rebuilt of those that came whole
pub rebuilt_of_wholes : (key : List ℕ) (ms : List Action) (g seen : GatheredAt) (bytes : List ℕ) → g ≡ seen → IsRebuilt g.value.k g.value.m g.value.length g.pieces bytes → Gathers key ms seen
    → IsRebuilt seen.value.k seen.value.m seen.value.length (wholes key seen.value ms) bytes
rebuilt_of_wholes key ms g seen bytes same rebuilt gathers =
    subst (λ (ps : List Piece). IsRebuilt seen.value.k seen.value.m seen.value.length ps bytes) gathers.pieces
    (subst (λ (h : GatheredAt). IsRebuilt h.value.k h.value.m h.value.length h.pieces bytes) same rebuilt)

pub lacking_of_fates : (key : List ℕ) (ms : List Action) (g seen : GatheredAt) (told : List Fate) → g ≡ seen → IsGathered g → length g.pieces ≢ g.value.k → map (λ (f : Fate). Some f) told ≡ g.fates → Gathers key ms seen
    → IsLacking key seen.value ms told
lacking_of_fates key ms g seen told same is apart all gathers =
    let rules = subst (λ (h : GatheredAt). IsGathered h × ((length h.pieces ≢ h.value.k) × (map (λ (f : Fate). Some f) told ≡ h.fates))) same (is, (apart, all)) in
    is_lacking key ms seen told rules.0 gathers rules.1.0 rules.1.1
