-- What was shown, found in the list, and kept where the list grows.
use Rattle.std.proofs.Common.{◌≡◌, ℕ, true, ◌&&◌, ◌==◌, List, [], ◌∷◌, refl, sym, subst, inl, inr, arith}
use Rattle.std.proofs.lemmas.Bool.{true≢false, and_parts, and_from, or_cases, or_left, or_right, eqb-true, eq-eqb}
use Rattle.gz_core.specs.Names.{Name, BallotAt}
use Rattle.gz_config.specs.declared.Config.{Config}
use Rattle.gz_core.proofs.Counting.{count_weaker}
use Rattle.gz_ledger.specs.Acceptors.{slot_votes, slot_voted}
use Rattle.gz_ledger.specs.Histories.{IsIn, RowSeen, cast, cast_in, IsChosenAt, IsShownByRows, IsVotedAt, IsCurrentByRows}
use Rattle.gz_ledger.proofs.SlotTests.{IsVote, votes_means, votes_from, voted_means, voted_from}

-- each element of a list is one of another
abbrev pub Includes : {A : Type 0} → List A → List A → Type 0
Includes {A} xs ys = (x : A) → IsIn x xs → IsIn x ys

-- a row of the site was shown with this vote
pub record IsCast (seen : List RowSeen) (v : ℕ) (b : BallotAt) (x : Name) (s : ℕ) : Type 0 where
  pub entry : RowSeen
  pub found : IsIn entry seen
  pub site : entry.site ≡ s
  pub vote : IsVote (entry.row v) b x

cast_later : (e : RowSeen) (es : List RowSeen) (v : ℕ) (b : BallotAt) (x : Name) (s : ℕ) → IsCast es v b x s → IsCast (e ∷ es) v b x s
cast_later e es v b x s c = record { entry = c.entry; found = inr c.found; site = c.site; vote = c.vote }

pub cast_found : (seen : List RowSeen) (v : ℕ) (b : BallotAt) (x : Name) (s : ℕ) → cast seen v b x s ≡ true → IsCast seen v b x s
cast_found [] v b x s e = absurd (true≢false (sym e))
cast_found (f ∷ es) v b x s e =
    elim (or_cases ((f.site == s) && slot_votes (f.row v) b x) (cast es v b x s) e) [
      | inl h ↦
          let parts : ((f.site == s) ≡ true) × (slot_votes (f.row v) b x ≡ true) = and_parts (f.site == s) (slot_votes (f.row v) b x) h in
          record { entry = f; found = inl refl; site = eqb-true f.site s parts.0; vote = votes_means (f.row v) b x parts.1 }
      | inr h ↦ cast_later f es v b x s (cast_found es v b x s h)
    ]

pub cast_from : (seen : List RowSeen) (v : ℕ) (b : BallotAt) (x : Name) (e : RowSeen) → IsIn e seen → IsVote (e.row v) b x → cast seen v b x e.site ≡ true
cast_from [] v b x e i h = absurd i
cast_from (f ∷ es) v b x e (inl same) h =
    subst (λ (g : RowSeen). cast (g ∷ es) v b x e.site ≡ true) same
    (or_left ((e.site == e.site) && slot_votes (e.row v) b x) (cast es v b x e.site) (and_from (e.site == e.site) (slot_votes (e.row v) b x) (eq-eqb e.site e.site refl) (votes_from (e.row v) b x h)))
cast_from (f ∷ es) v b x e (inr i) h = or_right ((f.site == e.site) && slot_votes (f.row v) b x) (cast es v b x e.site) (cast_from es v b x e i h)

pub cast_in_found : (seen : List RowSeen) (v : ℕ) (b : BallotAt) (s : ℕ) → cast_in seen v b s ≡ true → (x : Name) × IsCast seen v b x s
cast_in_found [] v b s e = absurd (true≢false (sym e))
cast_in_found (f ∷ es) v b s e =
    elim (or_cases ((f.site == s) && slot_voted (f.row v) b) (cast_in es v b s) e) [
      | inl h ↦
          let parts : ((f.site == s) ≡ true) × (slot_voted (f.row v) b ≡ true) = and_parts (f.site == s) (slot_voted (f.row v) b) h in
          let w : (x : Name) × IsVote (f.row v) b x = voted_means (f.row v) b parts.1 in
          (w.0, record { entry = f; found = inl refl; site = eqb-true f.site s parts.0; vote = w.1 })
      | inr h ↦
          let w : (x : Name) × IsCast es v b x s = cast_in_found es v b s h in
          (w.0, cast_later f es v b w.0 s w.1)
    ]

pub cast_in_from : (seen : List RowSeen) (v : ℕ) (b : BallotAt) (x : Name) (e : RowSeen) → IsIn e seen → IsVote (e.row v) b x → cast_in seen v b e.site ≡ true
cast_in_from [] v b x e i h = absurd i
cast_in_from (f ∷ es) v b x e (inl same) h =
    subst (λ (g : RowSeen). cast_in (g ∷ es) v b e.site ≡ true) same
    (or_left ((e.site == e.site) && slot_voted (e.row v) b) (cast_in es v b e.site) (and_from (e.site == e.site) (slot_voted (e.row v) b) (eq-eqb e.site e.site refl) (voted_from (e.row v) b x h)))
cast_in_from (f ∷ es) v b x e (inr i) h = or_right ((f.site == e.site) && slot_voted (f.row v) b) (cast_in es v b e.site) (cast_in_from es v b x e i h)

-- more rows show more votes
pub cast_more : (seen more : List RowSeen) (v : ℕ) (b : BallotAt) (x : Name) (s : ℕ) → Includes seen more → cast seen v b x s ≡ true → cast more v b x s ≡ true
cast_more seen more v b x s i e =
    let c : IsCast seen v b x s = cast_found seen v b x s e in
    subst (λ (t : ℕ). cast more v b x t ≡ true) c.site (cast_from more v b x c.entry (i c.entry c.found) c.vote)

-- what is chosen by them stays so
pub chosen_more : (cfg : Config) (seen more : List RowSeen) (v : ℕ) (x : Name) → Includes seen more → IsChosenAt cfg seen v x → IsChosenAt cfg more v x
chosen_more cfg seen more v x i h =
    (h.0, omega (arith, h.1, count_weaker cfg.n (cast seen v h.0 x) (cast more v h.0 x) (λ (s : ℕ) (e : cast seen v h.0 x s ≡ true). cast_more seen more v h.0 x s i e)))

-- what is shown by them stays so
pub shown_more : (cfg : Config) (seen more : List RowSeen) (v : ℕ) (x : Name) → Includes seen more → IsShownByRows cfg seen v x → IsShownByRows cfg more v x
shown_more cfg seen more v x i (inl h) = inl (chosen_more cfg seen more v x i h)
shown_more cfg seen more v x i (inr h) = inr (record { entry = h.entry; found = i h.entry h.found; decided = h.decided })

pub voted_more : (seen more : List RowSeen) (v : ℕ) (x : Name) → Includes seen more → IsVotedAt seen v x → IsVotedAt more v x
voted_more seen more v x i h = record { entry = h.entry; found = i h.entry h.found; promise = h.promise; ballot = h.ballot; votes = h.votes }

-- rows that are current are so among more rows
pub current_more : (cfg : Config) (seen more : List RowSeen) (v : ℕ) → Includes seen more → IsCurrentByRows cfg seen v → IsCurrentByRows cfg more v
current_more cfg seen more v i c =
    record { rows = c.rows; sites = c.sites; enough = c.enough; found = λ (e : RowSeen) (j : IsIn e c.rows). i e (c.found e j); quiet = c.quiet }
