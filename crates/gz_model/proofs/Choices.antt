-- What the choice rule forces, and why it is safe.
use Rattle.std.proofs.Common.{◌≡◌, ℕ, ◌+◌, ◌<◌, ◌≤◌, true, false, cond, ◌&&◌, List, length, Option, Some, None, refl, ap, ◌∙◌, sym, subst, inl, inr, arith}
use Rattle.std.specs.List.{slice_get, position}
use Rattle.std.specs.Prelude.{nat_le}
use Rattle.std.proofs.lemmas.Bool.{true≢false, both_ways, cases_Bool, and_parts, and_from, cond-true, cond-false, leb-true, le-leb}
use Rattle.std.proofs.lemmas.Option.{none-some, same_Some}
use Rattle.gz_core.specs.Names.{Name, BallotAt, fast, is_below, same_ballot, same_name}
use Rattle.gz_core.specs.Configurations.{need, AreQuorums}
use Rattle.gz_core.specs.Counts.{count_sites}
use Rattle.gz_core.proofs.Ballots.{same_means, same_refl, name_means, name_refl, name_cases, below_cases, below_fast, same_from_order, not_below_trans}
use Rattle.gz_core.proofs.Counting.{count_two, count_weaker, count_found}
use Rattle.gz_core.proofs.Quorums.{need_least, need_some, quorums_meet}
use Rattle.gz_pick.specs.declared.heard.Heard.{Heard}
use Rattle.gz_pick.specs.declared.heard.Pick.TheVariants.{Forced, Free}
use Rattle.gz_pick.specs.Evidences.{is_for, is_in}
use Rattle.gz_pick.specs.Choices.{top_of, heard_votes, has_threshold, carries, choice_at, choice_in, pick_of, has_heard_site}
use Rattle.gz_model.specs.Choosing.{Votes, IsChosenBy, IsChoosable, IsSafe, VotesOnce, CarriesOne, AreSafe, ShowsBelow, IsHeardAt, HeardOne, IsForced, Allows, IsRecovered, AreGood}
use Rattle.gz_model.proofs.Entries.{IsHeard, site_heard, heard_sites, has_entry, entry_has, count_entries, count_exclusive, place_none, place_some}
use Rattle.gz_model.proofs.Tops.{IsTop, IsTopBallot, tops}

-- what the test on a vote shows
for_means : (b : BallotAt) (x : Name) (vote : Option (BallotAt × Name)) → is_for b x vote ≡ true → vote ≡ Some (b, x)
for_means b x None e = absurd (true≢false (sym e))
for_means b x (Some v) e =
    let parts : (same_ballot v.0 b ≡ true) × (same_name v.1 x ≡ true) = and_parts (same_ballot v.0 b) (same_name v.1 x) e in
    ap (λ (c : BallotAt). Some (c, v.1)) (same_means v.0 b parts.0) ∙ ap (λ (y : Name). Some (b, y)) (name_means v.1 x parts.1)

for_from : (b : BallotAt) (x : Name) (vote : Option (BallotAt × Name)) → vote ≡ Some (b, x) → is_for b x vote ≡ true
for_from b x vote e =
    subst (λ (o : Option (BallotAt × Name)). is_for b x o ≡ true) (sym e) (and_from (same_ballot b b) (same_name x x) (same_refl b) (name_refl x))

in_means : (b : BallotAt) (vote : Option (BallotAt × Name)) → is_in b vote ≡ true → (x : Name) × (vote ≡ Some (b, x))
in_means b None e = absurd (true≢false (sym e))
in_means b (Some v) e = (v.1, ap (λ (c : BallotAt). Some (c, v.1)) (same_means v.0 b e))

in_from : (b : BallotAt) (x : Name) (vote : Option (BallotAt × Name)) → vote ≡ Some (b, x) → is_in b vote ≡ true
in_from b x vote e = subst (λ (o : Option (BallotAt × Name)). is_in b o ≡ true) (sym e) (same_refl b)

-- two votes in one place are one vote
pub same_heard : (vote : Option (BallotAt × Name)) (b c : BallotAt) (x y : Name) → vote ≡ Some (b, x) → vote ≡ Some (c, y) → (b ≡ c) × (x ≡ y)
same_heard vote b c x y e f =
    let p : (b, x) ≡ (c, y) = same_Some (b, x) (c, y) (sym e ∙ f) in
    (ap (λ (w : BallotAt × Name). w.0) p, ap (λ (w : BallotAt × Name). w.1) p)

-- two names that reach the fast threshold are one
one_name : (n qc qf : ℕ) (heard : List Heard) (x y : Name) → AreQuorums n qc qf → qc ≤ length heard → length heard + qf ≤ n + heard_votes fast x heard → length heard + qf ≤ n + heard_votes fast y heard → x ≡ y
one_name n qc qf heard x y q l h k =
    elim (name_cases x y) [
      | inl e ↦ e
      | inr ne ↦ absurd (omega (arith, q.triple, count_exclusive (λ (g : Heard). is_for fast x g.vote) (λ (g : Heard). is_for fast y g.vote) heard (λ (g : Heard) (e : is_for fast x g.vote ≡ true) (f : is_for fast y g.vote ≡ true). ne ((same_heard g.vote fast fast x y (for_means fast x g.vote e) (for_means fast y g.vote f)).1))))
    ]

-- a name that is forced by a fast vote reaches the threshold
forced_fast : (n qf : ℕ) (heard : List Heard) (x : Name) (f : IsForced n qf heard x) → same_ballot f.ballot fast ≡ true → length heard + qf ≤ n + heard_votes fast x heard
forced_fast n qf heard x f e =
    let parts : (is_in f.ballot f.site.vote ≡ true) × (cond (same_ballot f.ballot fast) (has_threshold n qf heard f.site.vote) true ≡ true) = and_parts (is_in f.ballot f.site.vote) (cond (same_ballot f.ballot fast) (has_threshold n qf heard f.site.vote) true) f.carries in
    let reached : has_threshold n qf heard f.site.vote ≡ true = sym (cond-true (same_ballot f.ballot fast) (has_threshold n qf heard f.site.vote) true e) ∙ parts.1 in
    let here : nat_le (length heard + qf) (n + heard_votes f.ballot x heard) ≡ true = subst (λ (o : Option (BallotAt × Name)). has_threshold n qf heard o ≡ true) f.vote reached in
    subst (λ (c : BallotAt). length heard + qf ≤ n + heard_votes c x heard) (same_means f.ballot fast e) (leb-true (length heard + qf) (n + heard_votes f.ballot x heard) here)

forced_heard : (n qf : ℕ) (heard : List Heard) (x : Name) (f : IsForced n qf heard x) → IsHeardAt heard f.at f.ballot x
forced_heard n qf heard x f = record { site = f.site; is = f.is; vote = f.vote }

-- at most one value is forced
pub one_is_forced : (n qc qf : ℕ) (heard : List Heard) (x y : Name) → AreQuorums n qc qf → qc ≤ length heard → HeardOne heard → IsForced n qf heard x → IsForced n qf heard y → x ≡ y
one_is_forced n qc qf heard x y q l one f g =
    let same : f.ballot ≡ g.ballot = same_Some f.ballot g.ballot (sym f.highest ∙ g.highest) in
    elim (cases_Bool (same_ballot f.ballot fast)) [
      | inl e ↦ one_name n qc qf heard x y q l (forced_fast n qf heard x f e) (forced_fast n qf heard y g (subst (λ (c : BallotAt). same_ballot c fast ≡ true) same e))
      | inr e ↦ one f.ballot x y f.at g.at e (forced_heard n qf heard x f) (subst (λ (c : BallotAt). IsHeardAt heard g.at c y) (sym same) (forced_heard n qf heard y g))
    ]

choice_free : (o : Option ℕ) → choice_at o ≡ Free → o ≡ None
choice_free None e = refl
choice_free (Some at) e = cc

choice_forced : (o : Option ℕ) (at : ℕ) → choice_at o ≡ Forced at → o ≡ Some at
choice_forced None at e = cc
choice_forced (Some k) at e = cc

-- what the rule forces is forced
forced_from : (n qf : ℕ) (heard : List Heard) (at : ℕ) (top : Option BallotAt) → top_of heard ≡ top → choice_in n qf heard top ≡ Forced at → (x : Name) × ((b : BallotAt) × IsHeardAt heard at b x) × IsForced n qf heard x
forced_from n qf heard at None t e = cc
forced_from n qf heard at (Some b) t e =
    let w : (h : Heard) × (slice_get heard at ≡ Some h) × (carries n qf heard b h ≡ true) = place_some (carries n qf heard b) heard at (choice_forced (position (carries n qf heard b) heard) at e) in
    let parts = and_parts (is_in b w.0.vote) (cond (same_ballot b fast) (has_threshold n qf heard w.0.vote) true) w.2 in
    let v : (x : Name) × (w.0.vote ≡ Some (b, x)) = in_means b w.0.vote parts.0 in
    (v.0, (b, record { site = w.0; is = w.1; vote = v.1 }), record { ballot = b; highest = t; site = w.0; at = at; is = w.1; carries = w.2; vote = v.1 })

pub pick_forced : (n qf : ℕ) (heard : List Heard) (at : ℕ) → pick_of n qf heard ≡ Forced at → (x : Name) × ((b : BallotAt) × IsHeardAt heard at b x) × IsForced n qf heard x
pick_forced n qf heard at e = forced_from n qf heard at (top_of heard) refl e

-- where the rule leaves the coordinator free, nothing is forced
pub pick_free : (n qf : ℕ) (heard : List Heard) → pick_of n qf heard ≡ Free → (x : Name) → IsForced n qf heard x → ⊥
pick_free n qf heard e x f =
    let here : choice_in n qf heard (Some f.ballot) ≡ Free = subst (λ (top : Option BallotAt). choice_in n qf heard top ≡ Free) f.highest e in
    both_ways (carries n qf heard f.ballot f.site) (place_none (carries n qf heard f.ballot) heard f.at f.site (choice_free (position (carries n qf heard f.ballot) heard) here) f.is) f.carries

-- the votes of one classic ballot that were heard are for one value, since it carries one
heard_one : (n qc qf : ℕ) (vote stand : Votes) (b : BallotAt) (heard : List Heard) → IsRecovered n qc qf vote stand b heard → HeardOne heard
heard_one n qc qf vote stand b heard p c x y i j e h k =
    p.one c x y h.site.site k.site.site e ((p.told i h.site h.is).was (c, x) h.vote).0 ((p.told j k.site k.is).was (c, y) k.vote).0

-- a heard site that stands for a choosable value voted for it, at or below its highest vote
record Hit (vote : Votes) (heard : List Heard) (c : BallotAt) (y : Name) : Type 0 where
  at : ℕ
  entry : Heard
  is : slice_get heard at ≡ Some entry
  ballot : BallotAt
  value : Name
  has : entry.vote ≡ Some (ballot, value)
  above : is_below ballot c ≡ false
  voted : vote c y entry.site ≡ true
  was : vote ballot value entry.site ≡ true

hit_at : (n qc qf : ℕ) (vote stand : Votes) (b : BallotAt) (heard : List Heard) (c : BallotAt) (y : Name) (s : ℕ) → IsRecovered n qc qf vote stand b heard → is_below c b ≡ true → stand c y s ≡ true → IsHeard heard s → (h : Hit vote heard c y) × (h.entry.site ≡ s)
hit_at n qc qf vote stand b heard c y s p l st i =
    let t : ShowsBelow vote stand b i.entry = p.told i.at i.entry i.is in
    let voted : vote c y i.entry.site ≡ true = t.shut c y l (subst (λ (k : ℕ). stand c y k ≡ true) (sym i.site) st) in
    let w : (v : BallotAt × Name) × (i.entry.vote ≡ Some v) × (is_below v.0 c ≡ false) = t.top c y l voted in
    (record { at = i.at; entry = i.entry; is = i.is; ballot = w.0.0; value = w.0.1; has = w.1; above = w.2; voted = voted; was = (t.was w.0 w.1).0 }, i.site)

hit : (n qc qf : ℕ) (vote stand : Votes) (b : BallotAt) (heard : List Heard) (c : BallotAt) (y : Name) → IsRecovered n qc qf vote stand b heard → is_below c b ≡ true → IsChoosable n qc qf stand c y → Hit vote heard c y
hit n qc qf vote stand b heard c y p l ch =
    let w : (s : ℕ) × (s < n) × (has_heard_site s heard ≡ true) × (stand c y s ≡ true) = quorums_meet n qc qf (λ s. has_heard_site s heard) (stand c y) p.quorums (omega (arith, heard_sites n heard p.sites, p.enough)) (omega (arith, need_least n qc qf c p.quorums, ch)) in
    (hit_at n qc qf vote stand b heard c y w.0 p l w.3 (site_heard heard w.0 w.2)).0

-- where the highest ballot heard is the fast one, a heard site that stands for a value in it has its fast vote
fast_entry : (vote : Votes) (heard : List Heard) (y : Name) (h : Hit vote heard fast y) → VotesOnce vote → IsTopBallot heard fast → h.entry.vote ≡ Some (fast, y)
fast_entry vote heard y h once t =
    let is : h.ballot ≡ fast = same_from_order h.ballot fast (below_fast h.ballot) (t.above h.at h.entry (h.ballot, h.value) h.is h.has) in
    let value : h.value ≡ y = once fast h.value y h.entry.site (subst (λ (c : BallotAt). vote c h.value h.entry.site ≡ true) is h.was) h.voted in
    h.has ∙ (ap (λ (c : BallotAt). Some (c, h.value)) is ∙ ap (λ (x : Name). Some (fast, x)) value)

-- then so many sites were heard with the vote that a fast quorum may have chosen the value
enough : (n qc qf : ℕ) (vote stand : Votes) (b : BallotAt) (heard : List Heard) (y : Name) → IsRecovered n qc qf vote stand b heard → is_below fast b ≡ true → qf ≤ count_sites n (stand fast y) → IsTopBallot heard fast → length heard + qf ≤ n + heard_votes fast y heard
enough n qc qf vote stand b heard y p l ch t =
    omega (
      arith,
      ch,
      heard_sites n heard p.sites,
      count_two n (λ s. has_heard_site s heard) (stand fast y),
      count_entries (λ (h : Heard). is_for fast y h.vote) heard n,
      count_weaker n (λ s. has_heard_site s heard && stand fast y s) (has_entry (λ (h : Heard). is_for fast y h.vote) heard) (λ (s : ℕ) (e : (has_heard_site s heard && stand fast y s) ≡ true).
          let parts : (has_heard_site s heard ≡ true) × (stand fast y s ≡ true) = and_parts (has_heard_site s heard) (stand fast y s) e in
          let w : (h : Hit vote heard fast y) × (h.entry.site ≡ s) = hit_at n qc qf vote stand b heard fast y s p l parts.1 (site_heard heard s parts.0) in
          subst (λ (k : ℕ). has_entry (λ (h : Heard). is_for fast y h.vote) heard k ≡ true) w.1
          (entry_has (λ (h : Heard). is_for fast y h.vote) heard w.0.at w.0.entry w.0.is (for_from fast y w.0.entry.vote (fast_entry vote heard y w.0 p.once t)))),
    )

-- a choosable value is forced: the highest ballot heard is the fast one
fast_forced : (n qc qf : ℕ) (vote stand : Votes) (b : BallotAt) (heard : List Heard) (y : Name) → IsRecovered n qc qf vote stand b heard → is_below fast b ≡ true → IsChoosable n qc qf stand fast y → top_of heard ≡ Some fast → IsTopBallot heard fast → Hit vote heard fast y → IsForced n qf heard y
fast_forced n qc qf vote stand b heard y p l ch e t h =
    let has : h.entry.vote ≡ Some (fast, y) = fast_entry vote heard y h p.once t in
    let full : length heard + qf ≤ n + heard_votes fast y heard = enough n qc qf vote stand b heard y p l ch t in
    record {
      ballot = fast;
      highest = e;
      site = h.entry;
      at = h.at;
      is = h.is;
      carries = and_from (is_in fast h.entry.vote) (has_threshold n qf heard h.entry.vote) (in_from fast y h.entry.vote has)
          (subst (λ (o : Option (BallotAt × Name)). has_threshold n qf heard o ≡ true) (sym has) (le-leb (length heard + qf) (n + heard_votes fast y heard) full));
      vote = has;
    }

-- the value of the highest vote heard, where its ballot is classic
classic_forced : (n qf : ℕ) (heard : List Heard) (k : BallotAt) (z : Name) → top_of heard ≡ Some k → same_ballot k fast ≡ false → (t : IsTopBallot heard k) → t.entry.vote ≡ Some (k, z) → IsForced n qf heard z
classic_forced n qf heard k z e f t has = record {
  ballot = k;
  highest = e;
  site = t.entry;
  at = t.place;
  is = t.is;
  carries = and_from (is_in k t.entry.vote) (cond (same_ballot k fast) (has_threshold n qf heard t.entry.vote) true) (in_from k z t.entry.vote has) (cond-false (same_ballot k fast) (has_threshold n qf heard t.entry.vote) true f);
  vote = has;
}

-- a value that is choosable below a vote's ballot, or was voted for in it, is that vote's
same_below : (n qc qf : ℕ) (vote stand : Votes) (k c : BallotAt) (y z : Name) (s t : ℕ) → CarriesOne vote → AreSafe n qc qf vote stand → same_ballot k fast ≡ false → is_below k c ≡ false → vote k z s ≡ true → vote c y t ≡ true → IsChoosable n qc qf stand c y → y ≡ z
same_below n qc qf vote stand k c y z s t one safe f a h g ch =
    elim (below_cases c k) [
      | inl l ↦ safe k z s f h c y l ch
      | inr (inl e) ↦ one k y z t s f (subst (λ (d : BallotAt). vote d y t ≡ true) e g) h
      | inr (inr l) ↦ absurd (both_ways (is_below k c) a l)
    ]

choosable_at : (n qc qf : ℕ) (vote stand : Votes) (b : BallotAt) (heard : List Heard) (c : BallotAt) (y : Name) (top : Option BallotAt) → IsRecovered n qc qf vote stand b heard → is_below c b ≡ true → IsChoosable n qc qf stand c y → Hit vote heard c y → top_of heard ≡ top → IsTop heard top → IsForced n qf heard y
choosable_at n qc qf vote stand b heard c y None p l ch h e t = absurd (none-some (h.ballot, h.value) (sym (t h.at h.entry h.is) ∙ h.has))
choosable_at n qc qf vote stand b heard c y (Some k) p l ch h e t =
    let above : is_below k c ≡ false = not_below_trans k h.ballot c (t.above h.at h.entry (h.ballot, h.value) h.is h.has) h.above in
    elim (cases_Bool (same_ballot k fast)) [
      | inl f ↦
          let k_fast : k ≡ fast = same_means k fast f in
          let c_fast : c ≡ fast = same_from_order c fast (below_fast c) (subst (λ (d : BallotAt). is_below d c ≡ false) k_fast above) in
          fast_forced n qc qf vote stand b heard y p
          (subst (λ (d : BallotAt). is_below d b ≡ true) c_fast l)
          (subst (λ (d : BallotAt). IsChoosable n qc qf stand d y) c_fast ch)
          (subst (λ (d : BallotAt). top_of heard ≡ Some d) k_fast e)
          (subst (λ (d : BallotAt). IsTopBallot heard d) k_fast t)
          (subst (λ (d : BallotAt). Hit vote heard d y) c_fast h)
      | inr f ↦
          let has : t.entry.vote ≡ Some (k, t.vote.1) = t.has ∙ ap (λ (d : BallotAt). Some (d, t.vote.1)) t.reached in
          let was : vote k t.vote.1 t.entry.site ≡ true = ((p.told t.place t.entry t.is).was (k, t.vote.1) has).0 in
          let same : y ≡ t.vote.1 = same_below n qc qf vote stand k c y t.vote.1 t.entry.site h.entry.site p.one p.safe f above was h.voted ch in
          subst (λ (z : Name). IsForced n qf heard z) (sym same) (classic_forced n qf heard k t.vote.1 e f t has)
    ]

-- a value that is choosable below the ballot is forced
pub choosable_forced : (n qc qf : ℕ) (vote stand : Votes) (b : BallotAt) (heard : List Heard) (c : BallotAt) (y : Name) → IsRecovered n qc qf vote stand b heard → is_below c b ≡ true → IsChoosable n qc qf stand c y → IsForced n qf heard y
choosable_forced n qc qf vote stand b heard c y p l ch =
    choosable_at n qc qf vote stand b heard c y (top_of heard) p l ch (hit n qc qf vote stand b heard c y p l ch) refl (tops heard)

-- what the rule allows is safe
pub allowed_safe : (n qc qf : ℕ) (vote stand : Votes) (b : BallotAt) (heard : List Heard) (x : Name) → IsRecovered n qc qf vote stand b heard → Allows n qf heard x → IsSafe n qc qf stand b x
allowed_safe n qc qf vote stand b heard x p (inl free) c y l ch =
    absurd (pick_free n qf heard free y (choosable_forced n qc qf vote stand b heard c y p l ch))
allowed_safe n qc qf vote stand b heard x p (inr a) c y l ch =
    let w = pick_forced n qf heard a.0 a.1 in
    let site : w.1.1.site ≡ a.3.site = same_Some w.1.1.site a.3.site (sym w.1.1.is ∙ a.3.is) in
    let vote_at : w.1.1.site.vote ≡ Some (a.2, x) = ap (λ (h : Heard). h.vote) site ∙ a.3.vote in
    let same : w.0 ≡ x = (same_heard w.1.1.site.vote w.1.0 a.2 w.0 x w.1.1.vote vote_at).1 in
    one_is_forced n qc qf heard y w.0 p.quorums p.enough (heard_one n qc qf vote stand b heard p) (choosable_forced n qc qf vote stand b heard c y p l ch) w.2 ∙ same

-- a value chosen in a lower ballot is that of the higher
chosen_below : (n qc qf : ℕ) (vote stand : Votes) (b c : BallotAt) (x y : Name) → AreGood n qc qf vote stand → is_below b c ≡ true → need qc qf b ≤ count_sites n (vote b x) → need qc qf c ≤ count_sites n (vote c y) → x ≡ y
chosen_below n qc qf vote stand b c x y g l h k =
    let w : (s : ℕ) × (s < n) × (vote c y s ≡ true) = count_found n (vote c y) (omega (arith, k, need_some n qc qf c g.quorums)) in
    let classic : same_ballot c fast ≡ false =
    elim (cases_Bool (same_ballot c fast)) [
      | inl e ↦ absurd (both_ways (is_below b c) (subst (λ (d : BallotAt). is_below b d ≡ false) (sym (same_means c fast e)) (below_fast b)) l)
      | inr e ↦ e
    ]
    in
    g.safe c y w.0 classic w.2 b x l (omega (arith, h, count_weaker n (vote b x) (stand b x) (g.voted b x)))

chosen_same : (n qc qf : ℕ) (vote stand : Votes) (b : BallotAt) (x y : Name) → AreGood n qc qf vote stand → need qc qf b ≤ count_sites n (vote b x) → need qc qf b ≤ count_sites n (vote b y) → x ≡ y
chosen_same n qc qf vote stand b x y g h k =
    let low : qc ≤ need qc qf b = need_least n qc qf b g.quorums in
    let w : (s : ℕ) × (s < n) × (vote b x s ≡ true) × (vote b y s ≡ true) = quorums_meet n qc qf (vote b x) (vote b y) g.quorums (omega (arith, low, h)) (omega (arith, low, k)) in
    g.once b x y w.0 w.2 w.3

-- two chosen values are the same
pub one_value : (n qc qf : ℕ) (vote stand : Votes) (x y : Name) → AreGood n qc qf vote stand → IsChosenBy n qc qf vote x → IsChosenBy n qc qf vote y → x ≡ y
one_value n qc qf vote stand x y g h k =
    elim (below_cases h.0 k.0) [
      | inl l ↦ chosen_below n qc qf vote stand h.0 k.0 x y g l h.1 k.1
      | inr (inl e) ↦ chosen_same n qc qf vote stand k.0 x y g (subst (λ (b : BallotAt). need qc qf b ≤ count_sites n (vote b x)) e h.1) k.1
      | inr (inr l) ↦ sym (chosen_below n qc qf vote stand k.0 h.0 y x g l k.1 h.1)
    ]
