-- The highest ballot that was heard.
use Rattle.std.proofs.Common.{◌≡◌, ℕ, zero, suc, true, false, List, [], ◌∷◌, Option, Some, None, refl, ◌∙◌, sym, subst, inl, inr}
use Rattle.std.specs.List.{slice_get}
use Rattle.std.proofs.lemmas.Bool.{cases_Bool, cond-true, cond-false}
use Rattle.std.proofs.lemmas.Option.{none-some, same_Some}
use Rattle.gz_core.specs.Names.{Name, BallotAt, is_below}
use Rattle.gz_core.proofs.Ballots.{below_never, below_not, not_below_trans}
use Rattle.gz_pick.specs.declared.heard.Heard.{Heard}
use Rattle.gz_pick.specs.Evidences.{higher}
use Rattle.gz_pick.specs.Choices.{top_of}

-- every vote that was heard is at or below this ballot, and one is in it
pub record IsTopBallot (heard : List Heard) (k : BallotAt) : Type 0 where
  pub above : (at : ℕ) (h : Heard) (v : BallotAt × Name) → slice_get heard at ≡ Some h → h.vote ≡ Some v → is_below k v.0 ≡ false
  pub place : ℕ
  pub entry : Heard
  pub vote : BallotAt × Name
  pub is : slice_get heard place ≡ Some entry
  pub has : entry.vote ≡ Some vote
  pub reached : vote.0 ≡ k

-- no vote was heard, or the highest ballot is this one
abbrev pub IsTop : List Heard → Option BallotAt → Type 0
IsTop heard None = (at : ℕ) (h : Heard) → slice_get heard at ≡ Some h → h.vote ≡ None
IsTop heard (Some k) = IsTopBallot heard k

-- what holds of the first entry and of the others holds of each
each_entry : (h : Heard) (hs : List Heard) (P : Heard → Type 0) → P h → ((at : ℕ) (g : Heard) → slice_get hs at ≡ Some g → P g) → (at : ℕ) (g : Heard) → slice_get (h ∷ hs) at ≡ Some g → P g
each_entry h hs P first rest zero g e = subst P (same_Some h g e) first
each_entry h hs P first rest (suc at) g e = rest at g e

-- the vote of an entry is one vote
same_vote : (g : Heard) (v w : BallotAt × Name) → g.vote ≡ Some v → g.vote ≡ Some w → v ≡ w
same_vote g v w e f = same_Some v w (sym e ∙ f)

top_first : (h : Heard) (hs : List Heard) (v : BallotAt × Name) → h.vote ≡ Some v → IsTop hs None → IsTopBallot (h ∷ hs) v.0
top_first h hs v e t = record {
  above = λ (at : ℕ) (g : Heard) (w : BallotAt × Name) (is : slice_get (h ∷ hs) at ≡ Some g).
      each_entry h hs (λ (g : Heard). g.vote ≡ Some w → is_below v.0 w.0 ≡ false)
      (λ (f : h.vote ≡ Some w). subst (λ (u : BallotAt × Name). is_below v.0 u.0 ≡ false) (same_vote h v w e f) (below_never v.0))
      (λ (at : ℕ) (g : Heard) (is : slice_get hs at ≡ Some g) (f : g.vote ≡ Some w). absurd (none-some w (sym (t at g is) ∙ f)))
      at g is;
  place = zero;
  entry = h;
  vote = v;
  is = refl;
  has = e;
  reached = refl;
}

top_raised : (h : Heard) (hs : List Heard) (k : BallotAt) (v : BallotAt × Name) → h.vote ≡ Some v → is_below k v.0 ≡ true → IsTopBallot hs k → IsTopBallot (h ∷ hs) v.0
top_raised h hs k v e b t = record {
  above = λ (at : ℕ) (g : Heard) (w : BallotAt × Name) (is : slice_get (h ∷ hs) at ≡ Some g).
      each_entry h hs (λ (g : Heard). g.vote ≡ Some w → is_below v.0 w.0 ≡ false)
      (λ (f : h.vote ≡ Some w). subst (λ (u : BallotAt × Name). is_below v.0 u.0 ≡ false) (same_vote h v w e f) (below_never v.0))
      (λ (at : ℕ) (g : Heard) (is : slice_get hs at ≡ Some g) (f : g.vote ≡ Some w). not_below_trans v.0 k w.0 (below_not k v.0 b) (t.above at g w is f))
      at g is;
  place = zero;
  entry = h;
  vote = v;
  is = refl;
  has = e;
  reached = refl;
}

top_kept : (h : Heard) (hs : List Heard) (k : BallotAt) → ((v : BallotAt × Name) → h.vote ≡ Some v → is_below k v.0 ≡ false) → IsTopBallot hs k → IsTopBallot (h ∷ hs) k
top_kept h hs k b t = record {
  above = λ (at : ℕ) (g : Heard) (w : BallotAt × Name) (is : slice_get (h ∷ hs) at ≡ Some g).
      each_entry h hs (λ (g : Heard). g.vote ≡ Some w → is_below k w.0 ≡ false) (b w)
      (λ (at : ℕ) (g : Heard) (is : slice_get hs at ≡ Some g) (f : g.vote ≡ Some w). t.above at g w is f)
      at g is;
  place = suc t.place;
  entry = t.entry;
  vote = t.vote;
  is = t.is;
  has = t.has;
  reached = t.reached;
}

-- one entry more
top_step : (h : Heard) (hs : List Heard) (top : Option BallotAt) (vote : Option (BallotAt × Name)) → h.vote ≡ vote → IsTop hs top → IsTop (h ∷ hs) (higher top vote)
top_step h hs None None e t = each_entry h hs (λ (g : Heard). g.vote ≡ None) e t
top_step h hs (Some k) None e t = top_kept h hs k (λ (v : BallotAt × Name) (f : h.vote ≡ Some v). absurd (none-some v (sym e ∙ f))) t
top_step h hs None (Some v) e t = top_first h hs v e t
top_step h hs (Some k) (Some v) e t =
    elim (cases_Bool (is_below k v.0)) [
      | inl b ↦ subst (λ (top : BallotAt). IsTopBallot (h ∷ hs) top) (sym (cond-true (is_below k v.0) v.0 k b)) (top_raised h hs k v e b t)
      | inr b ↦ subst (λ (top : BallotAt). IsTopBallot (h ∷ hs) top) (sym (cond-false (is_below k v.0) v.0 k b)) (top_kept h hs k (λ (w : BallotAt × Name) (f : h.vote ≡ Some w). subst (λ (u : BallotAt × Name). is_below k u.0 ≡ false) (same_vote h v w e f) b) t)
    ]

-- the highest ballot is what its name says
pub tops : (heard : List Heard) → IsTop heard (top_of heard)
tops [] = λ (at : ℕ) (h : Heard) (e : slice_get [] at ≡ Some h). absurd (none-some h e)
tops (h ∷ hs) = top_step h hs (top_of hs) h.vote refl (tops hs)
