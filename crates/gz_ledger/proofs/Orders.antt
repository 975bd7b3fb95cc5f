-- What is shown, and in which order.
use Rattle.std.proofs.Common.{◌≡◌, ℕ, suc, ◌<◌, ◌≤◌, true, false, ◌==◌, List, [], ◌∷◌, ◌++◌, length, Some, None, refl, ap, ◌∙◌, sym, subst, inl, inr, ◌⊎◌, arith}
use Rattle.std.proofs.lemmas.Bool.{both_ways, cases_lt, false_from_ne_true, true≢false, or_cases, eqb-true}
use Rattle.std.proofs.lemmas.Option.{same_Some, some_pair_parts}
use Rattle.gz_core.specs.Names.{Name, BallotAt, fast, is_below, same_ballot}
use Rattle.gz_core.specs.Counts.{count_sites}
use Rattle.gz_core.specs.Slots.{VotesClassic}
use Rattle.gz_core.specs.declared.slots.Slot.{Slot}
use Rattle.gz_core.specs.declared.slots.Slot.TheVariants.{Gone, DecidedAs, OpenAt}
use Rattle.gz_config.specs.declared.Config.{Config}
use Rattle.gz_core.proofs.Ballots.{below_fast, same_means, name_from}
use Rattle.gz_core.proofs.Counting.{count_weaker}
use Rattle.gz_core.proofs.Quorums.{need_least, quorums_meet}
use Rattle.gz_model.specs.Sites.{has_site}
use Rattle.gz_model.specs.Choosing.{IsSafe, IsChoosable}
use Rattle.gz_model.proofs.LeastSites.{count_list}
use Rattle.gz_ledger.specs.Acceptors.{Acceptor, slot_backs, HasValue, IsQuiet}
use Rattle.gz_ledger.specs.Histories.{IsIn, RowSeen, Write, cast, IsChosenAt, IsShownByRows, IsCurrentByRows, sites_seen, VotesFor, IsProposed}
use Rattle.gz_ledger.specs.Ledgers.{Ledger, Move, Shows, Sends, Takes, after_moves, AreMoves, votes, standing_votes, backs, late_seen}
use Rattle.gz_ledger.specs.Agreements.{HasQuorums, IsAgreed, AreCurrentMoves}
use Rattle.gz_ledger.proofs.SlotTests.{IsVote}
use Rattle.gz_ledger.proofs.Follows.{Advances, SlotFollows, Follows, IsAcceptor}
use Rattle.gz_ledger.proofs.Shown.{Includes, IsCast, cast_found, shown_more}
use Rattle.gz_ledger.proofs.Rows.{row_votes}
use Rattle.gz_ledger.proofs.Guarded.{value_built, built_down}
use Rattle.gz_ledger.proofs.Sound.{SlotOk, IsSound, right_at, toward_at}
use Rattle.gz_ledger.proofs.SoundVotes.{are_safe, votes_ok, cast_votes, chosen_one, chosen_ok, shown_chosen, are_good}
use Rattle.gz_ledger.proofs.Kept.{sound}

-- a vote that was shown at a version shows that a value is chosen at the one before
chained : (cfg : Config) (l : Ledger) → IsSound cfg l → (v : ℕ) (b : BallotAt) (x : Name) (s : ℕ) → 1 ≤ v → cast l.seen (suc v) b x s ≡ true → (y : Name) × IsChosenAt cfg l.seen v y
chained cfg l so v b x s p h =
    elim (votes_ok cfg l (suc v) so b x s (cast_votes l (suc v) b x s h)).built [
      | inl e ↦ absurd (omega arith)
      | inr w ↦ let same : w.0 ≡ v = omega (arith, w.1) in (w.2, subst (λ (k : ℕ). IsChosenAt cfg l.seen k w.2) same w.3)
    ]

-- a value that a site has at a version tells that one is chosen at the version before
founded : (cfg : Config) (l : Ledger) → IsSound cfg l → (v s : ℕ) → 1 ≤ v → HasValue (l.told s (suc v)) → (y : Name) × IsChosenAt cfg l.seen v y
founded cfg l so v s p h =
    elim (value_built cfg l.seen l.sent (suc v) (l.told s (suc v)) (so.told_ok s (suc v)) h) [
      | inl e ↦ absurd (omega arith)
      | inr w ↦ let same : w.0 ≡ v = omega (arith, w.1) in (w.2, subst (λ (k : ℕ). IsChosenAt cfg l.seen k w.2) same w.3)
    ]

-- a vote or a decision that was shown tells that a value is chosen at each version below
settled : (cfg : Config) (l : Ledger) → IsSound cfg l → (e : RowSeen) (v w : ℕ) → IsIn e l.seen → 1 ≤ v → v < w → HasValue (e.row w) → (y : Name) × IsChosenAt cfg l.seen v y
settled cfg l so e v w i p lt h =
    let le : suc v ≤ w = omega arith in
    elim (built_down cfg l so w (suc v) (value_built cfg l.seen l.sent w (e.row w) (so.seen_ok e w i) h) (omega arith) le) [
      | inl z ↦ absurd (omega arith)
      | inr k ↦ let same : k.0 ≡ v = omega (arith, k.1) in (k.2, subst (λ (u : ℕ). IsChosenAt cfg l.seen u k.2) same k.3)
    ]

-- a value is shown at one version
once : (cfg : Config) (l : Ledger) → IsSound cfg l → (u v : ℕ) (x : Name) → IsChosenAt cfg l.seen u x → IsChosenAt cfg l.seen v x → u ≡ v
once cfg l so u v x h k =
    elim (so.apart u v x (chosen_ok cfg l u x so h).proposed (chosen_ok cfg l v x so k).proposed) [
      | inl e ↦ e
      | inr (inl o) ↦ absurd (o.1 (chosen_one cfg l u o.0 x so o.2 h))
      | inr (inr o) ↦ absurd (o.1 (chosen_one cfg l v o.0 x so o.2 k))
    ]

-- a slot after a vote for a value that is chosen in the vote's ballot backs the value
backs_slot : (cfg : Config) (l : Ledger) (v : ℕ) (b : BallotAt) (x : Name) (a slot : Slot) → IsSound cfg l → IsChosenAt cfg l.seen v x → IsChoosable cfg.n cfg.qc cfg.qf (standing_votes l v) b x → IsVote a b x → SlotFollows a slot → ((c : BallotAt) (y : Name) → IsVote slot c y → same_ballot c fast ≡ false → IsSafe cfg.n cfg.qc cfg.qf (standing_votes l v) c y) → SlotOk cfg l.seen l.sent v slot → slot_backs slot x ≡ true
backs_slot cfg l v b x a Gone so h ch vote f safe ok = refl
backs_slot cfg l v b x a (DecidedAs y) so h ch vote f safe ok = name_from y x (chosen_one cfg l v y x so ok.0 h)
backs_slot cfg l v b x a (OpenAt q None) so h ch vote f safe ok =
    let g : Advances vote.0 (Some (b, x)) q None = subst (λ (s : Slot). SlotFollows s (OpenAt q None)) vote.1 f in
    elim g.vote [ inl e ↦ cc | inr n ↦ let bad = n.is in cc ]
backs_slot cfg l v b x a (OpenAt q (Some u)) so h ch vote f safe ok =
    let g : Advances vote.0 (Some (b, x)) q (Some u) = subst (λ (s : Slot). SlotFollows s (OpenAt q (Some u))) vote.1 f in
    elim g.vote [
      | inl e ↦ name_from u.1 x (some_pair_parts u.0 b u.1 x e).1
      | inr n ↦
          let same : u ≡ n.vote = same_Some u n.vote n.is in
          let over : is_below b u.0 ≡ true = subst (λ (w : BallotAt × Name). is_below b w.0 ≡ true) (sym same) n.over in
          let classic : same_ballot u.0 fast ≡ false = above_fast b u.0 over in
          name_from u.1 x (sym (safe u.0 u.1 (q, refl) classic b x over ch))
    ]
  where
    above_fast : (b c : BallotAt) → is_below b c ≡ true → same_ballot c fast ≡ false
    above_fast b c l = false_from_ne_true (same_ballot c fast) (λ (e : same_ballot c fast ≡ true). both_ways (is_below b c) (subst (λ (d : BallotAt). is_below b d ≡ false) (sym (same_means c fast e)) (below_fast b)) l)

-- what is chosen is backed by the rows of a classic quorum
backed : (cfg : Config) (l : Ledger) → IsSound cfg l → (v : ℕ) (x : Name) → IsChosenAt cfg l.seen v x → cfg.qc ≤ count_sites cfg.n (backs l v x)
backed cfg l so v x h =
    let ch : IsChoosable cfg.n cfg.qc cfg.qf (standing_votes l v) h.0 x =
    omega (arith, h.1, count_weaker cfg.n (cast l.seen v h.0 x) (standing_votes l v h.0 x) (λ (s : ℕ) (e : cast l.seen v h.0 x s ≡ true). (are_good cfg l v so).voted h.0 x s (cast_votes l v h.0 x s e))) in
    omega (
      arith,
      h.1,
      need_least cfg.n cfg.qc cfg.qf h.0 so.quorums,
      count_weaker cfg.n (cast l.seen v h.0 x) (backs l v x) (λ (s : ℕ) (e : cast l.seen v h.0 x s ≡ true).
          let c : IsCast l.seen v h.0 x s = cast_found l.seen v h.0 x s e in
          backs_slot cfg l v h.0 x (c.entry.row v) (l.told s v) so h ch c.vote (toward_at cfg l so c.entry s c.found c.site v)
          (λ (d : BallotAt) (y : Name) (vote : IsVote (l.told s v) d y) (classic : same_ballot d fast ≡ false). are_safe cfg l v so d y s classic (row_votes l v d y s (l.told s) (inl refl) vote))
          (so.told_ok s v)),
    )

-- agreement in one sound ledger
pub agreed : (cfg : Config) (l : Ledger) → IsSound cfg l → IsAgreed cfg l
agreed cfg l so = record {
  safe = λ (w : Write) (v : ℕ) (b : BallotAt) (x : Name) (i : IsIn w l.sent) (e : w.act ≡ VotesClassic v b x). (right_at cfg l so w v b x i e).safe;
  standing = λ (v : ℕ) (b : BallotAt) (x : Name) (s : ℕ). are_safe cfg l v so b x s;
  proposed = λ (v : ℕ) (b : BallotAt) (x : Name) (s : ℕ) (h : votes l v b x s ≡ true). (votes_ok cfg l v so b x s h).proposed;
  chained = chained cfg l so;
  chosen = λ (v : ℕ) (x : Name) (h : IsShownByRows cfg l.seen v x).
      let c : IsChosenAt cfg l.seen v x = shown_chosen cfg l v x so h in
      (c, (chosen_ok cfg l v x so c).proposed);
  one = λ (v : ℕ) (x y : Name) (h : IsShownByRows cfg l.seen v x) (k : IsShownByRows cfg l.seen v y). chosen_one cfg l v x y so (shown_chosen cfg l v x so h) (shown_chosen cfg l v y so k);
  once = λ (u v : ℕ) (x : Name) (h : IsShownByRows cfg l.seen u x) (k : IsShownByRows cfg l.seen v x). once cfg l so u v x (shown_chosen cfg l u x so h) (shown_chosen cfg l v x so k);
  settled = settled cfg l so;
  founded = founded cfg l so;
  collected = λ (v s : ℕ) (e : l.told s v ≡ Gone). subst (λ (slot : Slot). SlotOk cfg l.seen l.sent v slot) e (so.told_ok s v);
  decided = λ (v s : ℕ) (x : Name) (e : l.told s v ≡ DecidedAs x). (subst (λ (slot : Slot). SlotOk cfg l.seen l.sent v slot) e (so.told_ok s v)).0;
  backed = λ (v : ℕ) (x : Name) (h : IsShownByRows cfg l.seen v x). backed cfg l so v x (shown_chosen cfg l v x so h);
}

-- agreement in every run
pub agreement : (cfg : Config) (ms : List Move) → HasQuorums cfg → AreMoves cfg ms → IsAgreed cfg (after_moves ms)
agreement cfg ms q a = agreed cfg (after_moves ms) (sound cfg ms q a)

-- the early moves of a run are a run
pub early_moves : (cfg : Config) (late early : List Move) → AreMoves cfg (late ++ early) → AreMoves cfg early
early_moves cfg [] early a = a
early_moves cfg (m ∷ late) early a = early_moves cfg late early a.0

-- the rows that were shown are those shown late and those shown early
pub late_or_early : (late early : List Move) (e : RowSeen) → IsIn e (after_moves (late ++ early)).seen → IsIn e (late_seen late early) ⊎ IsIn e (after_moves early).seen
late_or_early [] early e i = inr i
late_or_early (Shows s ∷ late) early e (inl p) = inl (inl p)
late_or_early (Shows s ∷ late) early e (inr i) = elim (late_or_early late early e i) [ inl j ↦ inl (inr j) | inr j ↦ inr j ]
late_or_early (Sends w ∷ late) early e i = late_or_early late early e i
late_or_early (Takes w ∷ late) early e i = late_or_early late early e i

pub early_seen : (late early : List Move) → Includes (after_moves early).seen (after_moves (late ++ early)).seen
early_seen [] early e i = i
early_seen (Shows s ∷ late) early e i = inr (early_seen late early e i)
early_seen (Sends w ∷ late) early e i = early_seen late early e i
early_seen (Takes w ∷ late) early e i = early_seen late early e i

pub early_sent : (late early : List Move) → Includes (after_moves early).sent (after_moves (late ++ early)).sent
early_sent [] early w i = i
early_sent (Shows s ∷ late) early w i = early_sent late early w i
early_sent (Sends x ∷ late) early w i = inr (early_sent late early w i)
early_sent (Takes x ∷ late) early w i = early_sent late early w i

-- an early row goes forward to each late one of its site
late_follows : (cfg : Config) (late early : List Move) (e f : RowSeen) → HasQuorums cfg → AreMoves cfg (late ++ early) → IsIn f (after_moves early).seen → IsIn e (late_seen late early) → f.site ≡ e.site → Follows f.row e.row
late_follows cfg [] early e f q a i j p = absurd j
late_follows cfg (Shows s ∷ late) early e f q a i (inl j) p =
    let l = after_moves (late ++ early) in
    subst (λ (g : RowSeen). Follows f.row g.row) (sym j) (toward_at cfg l (sound cfg (late ++ early) q a.0) f s (early_seen late early f i) (p ∙ ap (λ (g : RowSeen). g.site) j))
late_follows cfg (Shows s ∷ late) early e f q a i (inr j) p = late_follows cfg late early e f q a.0 i j p
late_follows cfg (Sends w ∷ late) early e f q a i j p = late_follows cfg late early e f q a.0 i j p
late_follows cfg (Takes w ∷ late) early e f q a i j p = late_follows cfg late early e f q a.0 i j p

late_acceptor : (cfg : Config) (late early : List Move) (e : RowSeen) → HasQuorums cfg → AreMoves cfg (late ++ early) → IsIn e (late_seen late early) → IsAcceptor e.row
late_acceptor cfg [] early e q a j = absurd j
late_acceptor cfg (Shows s ∷ late) early e q a (inl j) = subst (λ (g : RowSeen). IsAcceptor g.row) (sym j) ((sound cfg (late ++ early) q a.0).told_acceptor s)
late_acceptor cfg (Shows s ∷ late) early e q a (inr j) = late_acceptor cfg late early e q a.0 j
late_acceptor cfg (Sends w ∷ late) early e q a j = late_acceptor cfg late early e q a.0 j
late_acceptor cfg (Takes w ∷ late) early e q a j = late_acceptor cfg late early e q a.0 j

-- a site of these rows has one of them
site_row : (rows : List RowSeen) (s : ℕ) → has_site (sites_seen rows) s ≡ true → (e : RowSeen) × IsIn e rows × (e.site ≡ s)
site_row [] s h = absurd (true≢false (sym h))
site_row (e ∷ es) s h =
    elim (or_cases (e.site == s) (has_site (sites_seen es) s) h) [
      | inl t ↦ (e, inl refl, eqb-true e.site s t)
      | inr t ↦
          let w : (f : RowSeen) × IsIn f es × (f.site ≡ s) = site_row es s t in
          (w.0, inr w.1, w.2)
    ]

length_sites : (rows : List RowSeen) → length (sites_seen rows) ≡ length rows
length_sites [] = refl
length_sites (e ∷ es) = ap suc (length_sites es)

-- after a vote a slot has a value, or is collected
value_after : (a c : Slot) (b : BallotAt) (x : Name) → IsVote a b x → SlotFollows a c → HasValue c ⊎ (c ≡ Gone)
value_after a Gone b x h f = inr refl
value_after a (DecidedAs y) b x h f = inl tt
value_after a (OpenAt q None) b x h f =
    let g : Advances h.0 (Some (b, x)) q None = subst (λ (s : Slot). SlotFollows s (OpenAt q None)) h.1 f in
    elim g.vote [ inl e ↦ cc | inr n ↦ let bad = n.is in cc ]
value_after a (OpenAt q (Some u)) b x h f = inl tt

-- so its row is current at no version below
not_quiet : (r : Acceptor) (u v : ℕ) → IsAcceptor r → HasValue (r u) ⊎ (r u ≡ Gone) → IsQuiet r v → v < u → ⊥
not_quiet r u v a (inl h) quiet l = quiet u l h
not_quiet r u v a (inr h) quiet l =
    let w : (w : ℕ) × (u < w) × (x : Name) × (r w ≡ DecidedAs x) = a.topped u h in
    quiet w.0 (omega (arith, w.1)) (subst HasValue (sym w.3) tt)

-- the version at which rows that a quorum showed afterwards are current is not below one at which a value was shown
pub latest : (cfg : Config) (late early : List Move) (u v : ℕ) (x : Name) → HasQuorums cfg → AreMoves cfg (late ++ early) → IsShownByRows cfg (after_moves early).seen u x → IsCurrentByRows cfg (late_seen late early) v → u ≤ v
latest cfg late early u v x q a h c =
    let l = after_moves early in
    let so : IsSound cfg l = sound cfg early q (early_moves cfg late early a) in
    let ch : IsChosenAt cfg l.seen u x = shown_chosen cfg l u x so h in
    let m : (s : ℕ) × (s < cfg.n) × (has_site (sites_seen c.rows) s ≡ true) × (cast l.seen u ch.0 x s ≡ true) =
    quorums_meet cfg.n cfg.qc cfg.qf (has_site (sites_seen c.rows)) (cast l.seen u ch.0 x) q
    (omega (arith, c.enough, length_sites c.rows, count_list cfg.n (sites_seen c.rows) c.sites))
    (omega (arith, ch.1, need_least cfg.n cfg.qc cfg.qf ch.0 q)) in
    let e : (e : RowSeen) × IsIn e c.rows × (e.site ≡ m.0) = site_row c.rows m.0 m.2 in
    let f : IsCast l.seen u ch.0 x m.0 = cast_found l.seen u ch.0 x m.0 m.3 in
    let together : f.entry.site ≡ e.0.site = cc in
    let on : Follows f.entry.row e.0.row = late_follows cfg late early e.0 f.entry q a f.found (c.found e.0 e.1) together in
    elim (cases_lt v u) [
      | inl lt ↦ absurd (not_quiet e.0.row u v (late_acceptor cfg late early e.0 q a (c.found e.0 e.1)) (value_after (f.entry.row u) (e.0.row u) ch.0 x f.vote (on u)) (c.quiet e.0 e.1) lt)
      | inr le ↦ le
    ]

-- the version of a vote of the call for its own value is not below one at which a value was shown when it began
own_above : (cfg : Config) (call : Name) (late early : List Move) (u v : ℕ) (x : Name) → HasQuorums cfg → AreMoves cfg (late ++ early) → ((w : Write) → IsIn w (after_moves early).sent → w.call ≡ call → ⊥) → AreCurrentMoves cfg call late early → IsShownByRows cfg (after_moves early).seen u x → (p : Write) → IsIn p (after_moves (late ++ early)).sent → p.call ≡ call → VotesFor p.act v call → u ≤ v
own_above cfg call [] early u v x q a none cur h p i own k = absurd (none p i own)
own_above cfg call (Shows s ∷ late) early u v x q a none cur h p i own k = own_above cfg call late early u v x q a.0 none cur.0 h p i own k
own_above cfg call (Takes w ∷ late) early u v x q a none cur h p i own k = own_above cfg call late early u v x q a.0 none cur.0 h p i own k
own_above cfg call (Sends w ∷ late) early u v x q a none cur h p (inr i) own k = own_above cfg call late early u v x q a.0 none cur.0 h p i own k
own_above cfg call (Sends w ∷ late) early u v x q a none cur h p (inl i) own k =
    elim (cur.1 (ap (λ (y : Write). y.call) (sym i) ∙ own) v (subst (λ (y : Write). VotesFor y.act v call) i k)) [
      | inl o ↦ own_above cfg call late early u v x q a.0 none cur.0 h o.write o.found o.own o.votes
      | inr c ↦ latest cfg late early u v x q a.0 h c
    ]

-- the value of a call that began when a value was shown is shown above it
pub above : (cfg : Config) (call : Name) (late early : List Move) (u v : ℕ) (x : Name) → HasQuorums cfg → AreMoves cfg (late ++ early) → ((w : Write) → IsIn w (after_moves early).sent → w.call ≡ call → ⊥) → AreCurrentMoves cfg call late early → IsShownByRows cfg (after_moves early).seen u x → IsShownByRows cfg (after_moves (late ++ early)).seen v call → u < v
above cfg call late early u v x q a none cur h k =
    let m = after_moves (late ++ early) in
    let l = after_moves early in
    let agree : IsAgreed cfg m = agreement cfg (late ++ early) q a in
    let p : IsProposed m.sent v call = (agree.chosen v call k).1 in
    let le : u ≤ v = own_above cfg call late early u v x q a none cur h p.write p.found p.own p.votes in
    elim (cases_lt u v) [
      | inl lt ↦ lt
      | inr ge ↦
          let same : u ≡ v = omega arith in
          let here : IsShownByRows cfg m.seen u call = subst (λ (t : ℕ). IsShownByRows cfg m.seen t call) (sym same) k in
          let is : x ≡ call = agree.one u x call (shown_more cfg l.seen m.seen u x (early_seen late early) h) here in
          let early_own : IsProposed l.sent u x = ((agreement cfg early q (early_moves cfg late early a)).chosen u x h).1 in
          absurd (none early_own.write early_own.found (early_own.own ∙ is))
    ]
