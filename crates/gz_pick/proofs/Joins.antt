-- The highest ballot of votes, taken one after another.
use Rattle.std.proofs.Common.{◌≡◌, ℕ, ◌+◌, ◌<◌, Bool, true, false, List, ◌∷◌, Option, Some, None, length, get_or, refl, sym, ◌∙◌, ap, inl, inr, arith, add-one}
use Rattle.std.specs.Prelude.{drop, suc}
use Rattle.std.proofs.Math.Seq.{drop-cons}
use Rattle.std.proofs.lemmas.Bool.{cases_Bool}
use Rattle.std.proofs.lemmas.Bool.Decides.{nat_tests}
use Rattle.gz_core.proofs.Ballots.{below_not, same_from_order}
use Rattle.gz_core.specs.Names.{Name, BallotAt, is_below}
use Rattle.gz_core.specs.Rows.{RowAt}
use Rattle.gz_pick.specs.Evidences.{higher, higher_ballot, top_ballot, votes_at, vote_of}
use Rattle.gz_pick.specs.Choices.{top_of}
use Rattle.gz_pick.specs.declared.heard.Heard.{Heard}

-- the higher of two ballots that may be absent
abbrev pub join : Option BallotAt → Option BallotAt → Option BallotAt
join None other = other
join (Some top) None = Some top
join (Some top) (Some other) = Some (higher_ballot (Some top) other)

pub join_none : (top : Option BallotAt) → join top None ≡ top
join_none None = refl
join_none (Some top) = refl

-- the order of two ballots does not matter to which is higher
higher_swap : (a b : BallotAt) → higher_ballot (Some a) b ≡ higher_ballot (Some b) a
higher_swap a b =
    elim (cases_Bool (is_below a b)) [
      | inl e ↦ rw (e, below_not a b e) refl
      | inr e ↦ elim (cases_Bool (is_below b a)) [ inl f ↦ rw (e, f) refl | inr f ↦ rw (e, f) (same_from_order a b e f) ]
    ]

-- of three ballots the highest is found in any order
higher_three : (r w a : BallotAt) → higher_ballot (Some (higher_ballot (Some r) w)) a ≡ higher_ballot (Some r) (higher_ballot (Some a) w)
higher_three r w a =
    elim (cases_Bool (is_below r w)) [
      | inl e ↦ elim (cases_Bool (is_below a w)) [
        | inl f ↦ rw (e, f, e, below_not a w f) refl
        | inr f ↦ let under : is_below r a ≡ true = grind (arith, nat_tests) in
            rw (e, f, under) (elim (cases_Bool (is_below w a)) [ inl g ↦ rw g refl | inr g ↦ rw g (same_from_order w a g f) ])
      ]
      | inr e ↦ elim (cases_Bool (is_below a w)) [
        | inl f ↦ let over : is_below r a ≡ false = grind (arith, nat_tests) in rw (e, f, e, over) refl
        | inr f ↦ rw (e, f) refl
      ]
    ]

pub join_higher : (rest acc : Option BallotAt) (vote : Option (BallotAt × Name)) → join (higher rest vote) acc ≡ join rest (higher acc vote)
join_higher rest acc None = refl
join_higher None None (Some vote) = refl
join_higher None (Some top) (Some vote) = ap Some (higher_swap vote.0 top)
join_higher (Some rest) None (Some vote) = refl
join_higher (Some rest) (Some top) (Some vote) = ap Some (higher_three rest vote.0 top)

-- one more of the heard ones
pub heard_step : (heard : List Heard) (i : ℕ) (top : Option BallotAt) (one : Heard) → i < length heard → one ≡ get_or heard i one → top_of heard ≡ join (top_of (drop i heard)) top → top_of heard ≡ join (top_of (drop (i + 1) heard)) (higher top one.vote)
heard_step heard i top one within read before =
    let next : drop i heard ≡ one ∷ drop (i + 1) heard = rw add-one (drop-cons heard i one within ∙ ap (λ head. head ∷ drop (suc i) heard) (sym read)) in
    before ∙ ap (λ rest. join (top_of rest) top) next ∙ join_higher (top_of (drop (i + 1) heard)) top one.vote

-- one more of the rows: its vote counts where it passes the test
pub rows_step_yes : (passes : Option (BallotAt × Name) → Bool) (v : ℕ) (rows : List (Option RowAt)) (i : ℕ) (top : Option BallotAt) (row : Option RowAt) → i < length rows → row ≡ get_or rows i row → passes (vote_of row v) ≡ true →
    top_ballot passes (votes_at v rows) ≡ join (top_ballot passes (votes_at v (drop i rows))) top → top_ballot passes (votes_at v rows) ≡ join (top_ballot passes (votes_at v (drop (i + 1) rows))) (higher top (vote_of row v))
rows_step_yes passes v rows i top row within read passed before =
    let next : drop i rows ≡ row ∷ drop (i + 1) rows = rw add-one (drop-cons rows i row within ∙ ap (λ head. head ∷ drop (suc i) rows) (sym read)) in
    before ∙ ap (λ rest. join (top_ballot passes (votes_at v rest)) top) next ∙ rw passed (join_higher (top_ballot passes (votes_at v (drop (i + 1) rows))) top (vote_of row v))

pub rows_step_no : (passes : Option (BallotAt × Name) → Bool) (v : ℕ) (rows : List (Option RowAt)) (i : ℕ) (top : Option BallotAt) (row : Option RowAt) → i < length rows → row ≡ get_or rows i row → passes (vote_of row v) ≡ false →
    top_ballot passes (votes_at v rows) ≡ join (top_ballot passes (votes_at v (drop i rows))) top → top_ballot passes (votes_at v rows) ≡ join (top_ballot passes (votes_at v (drop (i + 1) rows))) top
rows_step_no passes v rows i top row within read failed before =
    let next : drop i rows ≡ row ∷ drop (i + 1) rows = rw add-one (drop-cons rows i row within ∙ ap (λ head. head ∷ drop (suc i) rows) (sym read)) in
    before ∙ ap (λ rest. join (top_ballot passes (votes_at v rest)) top) next ∙ rw failed refl
