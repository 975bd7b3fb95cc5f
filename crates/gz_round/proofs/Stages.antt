-- A phase that stands goes on to stand while its step is made, and when a reply or a give-up is noted.
use Rattle.std.proofs.Common.{◌≡◌, ◌≢◌, ℕ, ◌+◌, ◌<◌, ◌≤◌, max, Bool, true, false, cond, ◌&&◌, ◌||◌, ◌==◌, List, ◌∷◌, Option, Some, None, refl, sym, ap, ◌∙◌, subst, inl, inr, ◌⊎◌, arith, leb}
use Rattle.std.proofs.lemmas.Bool.{cases_eq, cond-false, or_left, or_right, false≢true, ne_eqb}
use Rattle.std.proofs.lemmas.Option.{none-some, same_Some}
use Rattle.gz_core.specs.Names.{Name, BallotAt, same_ballot}
use Rattle.gz_core.specs.Rows.{RowAt}
use Rattle.gz_core.specs.declared.values.Value.{Value}
use Rattle.gz_config.specs.declared.Config.{Config}
use Rattle.gz_core.specs.declared.requests.RowStep.{RowStep}
use Rattle.gz_core.specs.declared.requests.RowStep.TheVariants.{FastVote, Promise, ClassicVote, Decide, Trim}
use Rattle.gz_core.specs.declared.requests.Op.{Op}
use Rattle.gz_core.specs.declared.requests.Op.TheVariants.{WriteRow}
use Rattle.gz_pick.specs.Looks.{row_top}
use Rattle.gz_pick.specs.declared.heard.Heard.{Heard}
use Rattle.gz_round.specs.declared.hearing.Seen.{Seen}
use Rattle.gz_round.specs.declared.run.Stage.{Stage}
use Rattle.gz_round.specs.declared.run.Stage.TheVariants.{Look, Fast, Prepare, Accept}
use Rattle.gz_core.specs.History.{Asked, Action, Sent, Caller, Trace}
use Rattle.gz_round.specs.Sites.{SiteNow, site_now, after, after_reply, concerns, known, heard_in, passes}
use Rattle.gz_round.specs.Sent.{voted_at, last_vote, vote_by, promise_by, of_step, of_sent, or_earlier, passes_sent, some_sent, has_promised_at, last_promise, IsUnpromised, top_round, round_after, phase_of}
use Rattle.gz_round.specs.Shown.{IsClear, IsGrounded}
use Rattle.gz_round.specs.LookBack.{IsLookedBack}
use Rattle.gz_round.specs.Rounds.{MayClassicVote, MayPropose, IsLeft, passed_since, is_promise, promises_above, cast_by, has_classic_cast, top_rounds, rounds_used, IsValueKnown}
use Rattle.gz_round.specs.Sending.{NoneAbove}
use Rattle.gz_round.specs.Targets.{target_of}
use Rattle.gz_round.specs.Standing.{StageStands, ArePassed, AreVotesUpTo, MayPass, IsWorking, IsPreparing, IsVoting}
use Rattle.gz_round.specs.Following.{HeldBy, HeldOf}
use Rattle.gz_round.proofs.Heard.{current_more, next_more, quorum_more, shown_more, heard_at_more}
use Rattle.gz_round.proofs.Actions.{now_here, now_other}
use Rattle.gz_round.proofs.LookBacks.{back_more, begun_more, last_promised_at}
use Rattle.gz_round.proofs.Targets.{aim_by}
use Rattle.gz_round.proofs.Votes.{votes_kept}
use Rattle.gz_round.proofs.Guards.{IsOf, clear_vote, only_vote, only_classic, promise_sent, passed_still, promises_more}
use Rattle.gz_round.proofs.Known.{known_after_sent}

-- what an action ends: the request that is awaited from one site, with the row that it showed, or overtaken, or nothing
pub record Ends (m : Action) (at : ℕ) (seen : Option Seen) (changed : Bool) : Type 0 where
  pub here : concerns m at ≡ true
  pub others : (s : ℕ) → s ≢ at → concerns m s ≡ false
  pub after_is : (now : SiteNow) → after m now ≡ after_reply seen changed now

-- an action sends no promise, and no vote of any kind
pub record IsQuiet (w : Caller) (m : Action) (ms : List Action) : Type 0 where
  pub vote : of_sent (vote_by w.name) m ≡ None
  pub phase : phase_of (m ∷ ms) ≡ phase_of ms
  pub promise : of_sent promise_by m ≡ None
  pub cast : of_sent cast_by m ≡ None

-- nothing more was sent of which something is read
pub unsent : {T : Type 0} (f : RowStep → Option T) (p : T → Bool) (m : Action) (ms : List Action) → of_sent f m ≡ None → some_sent f p (m ∷ ms) ≡ some_sent f p ms
unsent f p m ms e = ap (λ o. passes_sent p o || some_sent f p ms) e

unvoted_at : (x : Name) (m : Action) (ms : List Action) (u : ℕ) → of_sent (vote_by x) m ≡ None → voted_at x (m ∷ ms) u ≡ voted_at x ms u
unvoted_at x m ms u e = unsent (vote_by x) (λ k. k == u) m ms e

clear_more : (c : Config) (x : Name) (m : Action) (ms : List Action) (v : ℕ) → of_sent (vote_by x) m ≡ None → IsClear c x ms v → IsClear c x (m ∷ ms) v
clear_more c x m ms v e h u n k = let w = h u n (sym (unvoted_at x m ms u e) ∙ k) in (w.0, w.1, shown_more c m ms u w.0 w.2)

votes_more : (w : Caller) (m : Action) (ms : List Action) (v : ℕ) → of_sent (vote_by w.name) m ≡ None → AreVotesUpTo w ms v → AreVotesUpTo w (m ∷ ms) v
votes_more w m ms v e h u k =
    elim (h u (sym (unvoted_at w.name m ms u e) ∙ k)) [
      | inl low ↦ inl low
      | inr last ↦ inr (last.0, ap (λ o. or_earlier o (last_vote w.name ms)) e ∙ last.1)
    ]

pub unpromised_more : (m : Action) (ms : List Action) (v : ℕ) → of_sent promise_by m ≡ None → IsUnpromised ms v → IsUnpromised (m ∷ ms) v
unpromised_more m ms v e h u d l = unsent promise_by (λ p. (p.0 == u) && same_ballot p.1 d) m ms e ∙ h u d l

grounded_more : (c : Config) (m : Action) (ms : List Action) (v : ℕ) → IsGrounded c ms v → IsGrounded c (m ∷ ms) v
grounded_more c m ms v (inl h) = inl (next_more c m ms v h)
grounded_more c m ms v (inr h) = inr (omega (arith, h, heard_at_more c (λ r. leb v (row_top r)) m ms))

passed_more : (m : Action) (ms : List Action) (v : ℕ) (d : BallotAt) → of_sent promise_by m ≡ None → passed_since v d ms ≡ true → passed_since v d (m ∷ ms) ≡ true
passed_more m ms v d e h =
    cond-false (is_promise v d (of_sent promise_by m)) false (passes (λ row. promises_above row v d) (heard_in m) || passed_since v d ms) (ap (is_promise v d) e)
    ∙ or_right (passes (λ row. promises_above row v d) (heard_in m)) (passed_since v d ms) h

passed_now : (m : Action) (ms : List Action) (v : ℕ) (d : BallotAt) → of_sent promise_by m ≡ None → passes (λ row. promises_above row v d) (heard_in m) ≡ true → passed_since v d (m ∷ ms) ≡ true
passed_now m ms v d e h =
    cond-false (is_promise v d (of_sent promise_by m)) false (passes (λ row. promises_above row v d) (heard_in m) || passed_since v d ms) (ap (is_promise v d) e)
    ∙ or_left (passes (λ row. promises_above row v d) (heard_in m)) (passed_since v d ms) h

last_more : (m : Action) (ms : List Action) (v : ℕ) (b : BallotAt) → of_sent promise_by m ≡ None → last_promise ms ≡ Some (v, b) → last_promise (m ∷ ms) ≡ Some (v, b)
last_more m ms v b e h = ap (λ o. or_earlier o (last_promise ms)) e ∙ h

pass_more : (c : Config) (w : Caller) (m : Action) (ms : List Action) (v : ℕ) → IsQuiet w m ms → MayPass c w ms v → MayPass c w (m ∷ ms) v
pass_more c w m ms v q h = record { above = h.above; aim = aim_by c (target_of w.call) ms (m ∷ ms) v (current_more c m ms v) (quorum_more c m ms) h.aim; clear = clear_more c w.name m ms v q.vote h.clear; later = unpromised_more m ms (v + 1) q.promise h.later; votes = votes_more w m ms v q.vote h.votes }

works_more : (c : Config) (w : Caller) (past : List Trace) (m : Action) (ms : List Action) (v : ℕ) (b : BallotAt) → IsQuiet w m ms → IsWorking c w past ms v b → IsWorking c w past (m ∷ ms) v b
works_more c w past m ms v b q h = record {
  pass = pass_more c w m ms v q h.pass;
  classic = h.classic;
  session = h.session;
  unused = h.unused;
  grounded = grounded_more c m ms v h.grounded;
  passed = λ (d : BallotAt) (n : d ≢ b) (k : has_promised_at (m ∷ ms) v d ≡ true). passed_more m ms v d q.promise (h.passed d n (sym (unsent promise_by (λ p. (p.0 == v) && same_ballot p.1 d) m ms q.promise) ∙ k));
  begun = λ reads. begun_more c m ms v b (h.begun reads);
}

used_more : (past : List Trace) (m : Action) (ms : List Action) (v : ℕ) (b : BallotAt) → of_sent promise_by m ≡ None → (last_promise ms ≡ Some (v, b)) ⊎ (rounds_used past ms < b.round) → (last_promise (m ∷ ms) ≡ Some (v, b)) ⊎ (rounds_used past (m ∷ ms) < b.round)
used_more past m ms v b e (inl h) = inl (last_more m ms v b e h)
used_more past m ms v b e (inr h) = inr (subst (λ (n : ℕ). n < b.round) (sym (ap (λ o. max (top_rounds past) (round_after o (top_round ms))) e)) h)

preparing_more : (c : Config) (w : Caller) (past : List Trace) (m : Action) (ms : List Action) (v : ℕ) (b : BallotAt) → IsQuiet w m ms → IsPreparing c w past ms v b → IsPreparing c w past (m ∷ ms) v b
preparing_more c w past m ms v b q h = record {
  works = works_more c w past m ms v b q h.works;
  uncast = λ (y : Name). unsent cast_by _ m ms q.cast ∙ h.uncast y;
  used = used_more past m ms v b q.promise h.used;
}

voting_more : (c : Config) (w : Caller) (past : List Trace) (m : Action) (ms : List Action) (v : ℕ) (b : BallotAt) → IsQuiet w m ms → IsVoting c w past ms v b → IsVoting c w past (m ∷ ms) v b
voting_more c w past m ms v b q h = record { works = works_more c w past m ms v b q h.works; last = last_more m ms v b q.promise h.last }

-- what was looked back at before the last promise is so still
looked_more : (c : Config) (m : Action) (ms : List Action) (v : ℕ) (b : BallotAt) (found : Option Value) → of_sent promise_by m ≡ None → (last_promise ms ≡ Some (v, b) → IsLookedBack c ms v b found) → last_promise (m ∷ ms) ≡ Some (v, b) → IsLookedBack c (m ∷ ms) v b found
looked_more c m ms v b found e h last =
    let before : last_promise ms ≡ Some (v, b) = sym (ap (λ o. or_earlier o (last_promise ms)) e) ∙ last in
    back_more c m ms v b found (last_promised_at ms v b before) (h before)

propose_more : (c : Config) (w : Caller) (m : Action) (ms : List Action) (v : ℕ) (x : Value) → IsQuiet w m ms → MayPropose c w ms v x → MayPropose c w (m ∷ ms) v x
propose_more c w m ms v x q (inl h) = inl (h.0, current_more c m ms v h.1, clear_more c w.name m ms v q.vote h.2)
propose_more c w m ms v x q (inr h) = inr (h.0, h.1, h.2, h.3, inr h.4, h.5)

left_more : (c : Config) (w : Caller) (m : Action) (ms : List Action) (v : ℕ) (heard : List Heard) (x : Value) → IsQuiet w m ms → IsLeft c w ms v heard x → IsLeft c w (m ∷ ms) v heard x
left_more c w m ms v heard x q (inl h) = inl h
left_more c w m ms v heard x q (inr h) = inr (h.0, propose_more c w m ms v x q h.1)

known_more : (w : Caller) (m : Action) (ms : List Action) (v : ℕ) (x : Value) → IsValueKnown w ms v x → IsValueKnown w (m ∷ ms) v x
known_more w m ms v x (inl own) = inl own
known_more w m ms v x (inr h) = inr (h.0, h.1, inr h.2, h.3)

classic_more : (c : Config) (w : Caller) (m : Action) (ms : List Action) (v : ℕ) (b : BallotAt) (x : Value) → IsQuiet w m ms → MayClassicVote c w ms v b x → MayClassicVote c w (m ∷ ms) v b x
classic_more c w m ms v b x q h = record {
  above = h.above;
  promised = unsent promise_by (λ p. (p.0 == v) && same_ballot p.1 b) m ms q.promise ∙ h.promised;
  heard = h.heard;
  sites = h.sites;
  enough = h.enough;
  rows = promises_more m ms v b h.heard h.rows;
  choice = left_more c w m ms v h.heard x q h.choice;
  known = known_more w m ms v x h.known;
  one = λ (y : Name) (k : has_classic_cast (m ∷ ms) v b y ≡ true). h.one y (sym (unsent cast_by _ m ms q.cast) ∙ k);
  back = λ reads free. back_more c m ms v b (Some x) h.promised (h.back reads free);
}

known_seen : (seen : Seen) (row : RowAt) (out : Bool) → cond out None (Some seen.row) ≡ Some row → seen.row ≡ row
known_seen seen row true k = absurd (none-some row k)
known_seen seen row false k = same_Some seen.row row k

known_in : (seen : Option Seen) (changed : Bool) (row : RowAt) (now : SiteNow) → known (after_reply seen changed now) ≡ Some row → (known now ≡ Some row) ⊎ ((one : Seen) × (seen ≡ Some one) × (one.row ≡ row))
known_in (Some seen) changed row now k = inr (seen, refl, known_seen seen row now.out k)
known_in None true row now k = inl k
known_in None false row now k = absurd (none-some row k)

known_here : (m : Action) (ms : List Action) (at : ℕ) (seen : Option Seen) (changed : Bool) (row : RowAt) (now : SiteNow) → heard_in m ≡ seen → known (after_reply seen changed now) ≡ Some row → (known now ≡ Some row) ⊎ ((one : Seen) × (heard_in m ≡ Some one) × (one.row ≡ row))
known_here m ms at seen changed row now heard k =
    elim (known_in seen changed row now k) [
      | inl old ↦ inl old
      | inr new ↦ inr (new.0, heard ∙ new.1, new.2)
    ]

-- the row that is known after an action was known, or was heard at it
known_after : (m : Action) (ms : List Action) (at : ℕ) (seen : Option Seen) (changed : Bool) (s : ℕ) (row : RowAt) → Ends m at seen changed → heard_in m ≡ seen → known (site_now (m ∷ ms) s) ≡ Some row → (known (site_now ms s) ≡ Some row) ⊎ ((one : Seen) × (heard_in m ≡ Some one) × (one.row ≡ row))
known_after m ms at seen changed s row e heard k =
    elim (cases_eq s at) [
      | inl same ↦ known_here m ms at seen changed row (site_now ms s) heard (sym (ap known (subst (λ (z : ℕ). site_now (m ∷ ms) z ≡ after_reply seen changed (site_now ms z)) (sym same) (now_here m ms at e.here ∙ e.after_is (site_now ms at)))) ∙ k)
      | inr n ↦ inl (sym (ap known (now_other m ms s (e.others s n))) ∙ k)
    ]

-- the rows that are known after an action were known, or were heard at it
abbrev pub AreKnownBy : Action → List Action → Type 0
AreKnownBy m ms = (s : ℕ) (row : RowAt) → known (site_now (m ∷ ms) s) ≡ Some row → (known (site_now ms s) ≡ Some row) ⊎ ((one : Seen) × (heard_in m ≡ Some one) × (one.row ≡ row))

pub ended_known : (m : Action) (ms : List Action) (at : ℕ) (seen : Option Seen) (changed : Bool) → Ends m at seen changed → heard_in m ≡ seen → AreKnownBy m ms
ended_known m ms at seen changed e heard s row k = known_after m ms at seen changed s row e heard k

passed_known : (c : Config) (m : Action) (ms : List Action) (v : ℕ) (b : BallotAt) → AreKnownBy m ms → of_sent promise_by m ≡ None → ArePassed c ms v b → ArePassed c (m ∷ ms) v b
passed_known c m ms v b known_by quiet h s row l k above =
    elim (known_by s row k) [
      | inl old ↦ passed_more m ms v b quiet (h s row l old above)
      | inr new ↦ passed_now m ms v b quiet (subst (λ o. passes (λ r. promises_above r v b) o ≡ true) (sym new.1) (subst (λ r. promises_above r v b ≡ true) (sym new.2) above))
    ]

-- the phase goes on to stand
pub stage_more : (c : Config) (w : Caller) (past : List Trace) (m : Action) (ms : List Action) (stage : Stage) → AreKnownBy m ms → IsQuiet w m ms → StageStands c w past stage ms → StageStands c w past stage (m ∷ ms)
stage_more c w past m ms Look known_by q s = (unsent (vote_by w.name) (λ u. true) m ms q.vote ∙ s.0, q.phase ∙ s.1)
stage_more c w past m ms (Fast v) known_by q s =
    record {
      may = record { above = s.may.above; current = current_more c m ms v s.may.current; next = next_more c m ms v s.may.next; clear = clear_more c w.name m ms v q.vote s.may.clear };
      own = s.own;
      unpromised = unpromised_more m ms v q.promise s.unpromised;
      votes = votes_more w m ms v q.vote s.votes;
    }
stage_more c w past m ms (Prepare v b found) known_by q s = (preparing_more c w past m ms v b q s.0, passed_known c m ms v b known_by q.promise s.1, λ reads. looked_more c m ms v b found q.promise (s.2 reads))
stage_more c w past m ms (Accept v b x) known_by q s = (classic_more c w m ms v b x q s.0, voting_more c w past m ms v b q s.1, passed_known c m ms v b known_by q.promise s.2)

none_of : {T : Type 0} (f : RowStep → Option T) (op : Op) (step : RowStep) → f step ≡ None → IsOf op (Some step) → of_step f op ≡ None
none_of f (WriteRow key expect made row) step e is = ap f (sym (same_Some step made (is.writes made refl))) ∙ e
none_of f op step e is = refl

other_version : (o : Option (ℕ × BallotAt)) (v u : ℕ) (b d : BallotAt) (old : Bool) → (o ≡ None) ⊎ (o ≡ Some (v, b)) → v < u → old ≡ false → (passes_sent (λ p. (p.0 == u) && same_ballot p.1 d) o || old) ≡ false
other_version o v u b d old (inl e) l h = ap (λ z. passes_sent (λ p. (p.0 == u) && same_ballot p.1 d) z || old) e ∙ h
other_version o v u b d old (inr e) l h =
    ap (λ z. passes_sent (λ p. (p.0 == u) && same_ballot p.1 d) z || old) e ∙ (ap (λ t. (t && same_ballot b d) || old) (ne_eqb v u (λ (k : v ≡ u). omega arith)) ∙ h)

later_kept : (ms : List Action) (a : Asked) (v : ℕ) (b : BallotAt) → (of_step promise_by a.op ≡ None) ⊎ (of_step promise_by a.op ≡ Some (v, b)) → IsUnpromised ms (v + 1) → IsUnpromised (Sent a ∷ ms) (v + 1)
later_kept ms a v b sent h u d l = other_version (of_step promise_by a.op) v u b d (has_promised_at ms u d) sent (omega arith) (h u d l)

pass_kept : (c : Config) (w : Caller) (ms : List Action) (a : Asked) (v : ℕ) (b : BallotAt) → ((u : ℕ) → passes_sent (λ k. k == u) (of_step (vote_by w.name) a.op) ≡ true → v ≡ u) → (of_step promise_by a.op ≡ None) ⊎ (of_step promise_by a.op ≡ Some (v, b)) → MayPass c w ms v → MayPass c w (Sent a ∷ ms) v
pass_kept c w ms a v b only sent h = record { above = h.above; aim = aim_by c (target_of w.call) ms (Sent a ∷ ms) v (λ current. current) (λ quorum. quorum) h.aim; clear = clear_vote c w.name ms a v only h.clear; later = later_kept ms a v b sent h.later; votes = votes_kept w ms a v only h.votes }

none_voted : (x : Name) (op : Op) (v u : ℕ) → of_step (vote_by x) op ≡ None → passes_sent (λ k. k == u) (of_step (vote_by x) op) ≡ true → v ≡ u
none_voted x op v u e h = absurd (false≢true (sym (ap (passes_sent (λ k. k == u)) e) ∙ h))

works_kept : (c : Config) (w : Caller) (past : List Trace) (ms : List Action) (a : Asked) (v : ℕ) (b : BallotAt) → ((u : ℕ) → passes_sent (λ k. k == u) (of_step (vote_by w.name) a.op) ≡ true → v ≡ u) → (of_step promise_by a.op ≡ None) ⊎ (of_step promise_by a.op ≡ Some (v, b)) → IsWorking c w past ms v b → IsWorking c w past (Sent a ∷ ms) v b
works_kept c w past ms a v b only sent h = record {
  pass = pass_kept c w ms a v b only sent h.pass;
  classic = h.classic;
  session = h.session;
  unused = h.unused;
  grounded = h.grounded;
  passed = passed_still ms a v b sent h.passed;
  begun = λ reads. begun_more c (Sent a) ms v b (h.begun reads);
}

used_kept : (past : List Trace) (ms : List Action) (a : Asked) (v : ℕ) (b : BallotAt) → (of_step promise_by a.op ≡ None) ⊎ (of_step promise_by a.op ≡ Some (v, b)) → (last_promise ms ≡ Some (v, b)) ⊎ (rounds_used past ms < b.round) → (last_promise (Sent a ∷ ms) ≡ Some (v, b)) ⊎ (rounds_used past (Sent a ∷ ms) < b.round)
used_kept past ms a v b (inl e) h = used_more past (Sent a) ms v b e h
used_kept past ms a v b (inr e) h = inl (ap (λ o. or_earlier o (last_promise ms)) e)

none_kept : (c : Config) (ms : List Action) (a : Asked) (v : ℕ) (b : BallotAt) → NoneAbove c ms v b → NoneAbove c (Sent a ∷ ms) v b
none_kept c ms a v b h s row l k = h s row l (known_after_sent a ms s ∙ k)

-- what the phase of a step keeps goes on to hold while the step is made
pub held_kept : (c : Config) (w : Caller) (past : List Trace) (ms : List Action) (a : Asked) (step : RowStep) → IsOf a.op (Some step) → HeldBy c w past ms step → HeldBy c w past (Sent a ∷ ms) step
held_kept c w past ms a (FastVote v x) is h = (
  λ (u : ℕ) (d : BallotAt) (l : v ≤ u). unsent promise_by (λ p. (p.0 == u) && same_ballot p.1 d) (Sent a) ms (none_of promise_by a.op (FastVote v x) refl is) ∙ h.0 u d l,
  votes_kept w ms a v (λ (u : ℕ) (k : passes_sent (λ z. z == u) (of_step (vote_by w.name) a.op) ≡ true). only_vote w.name a.op v x u is k) h.1,
)
held_kept c w past ms a (Promise v b) is h =
    let sent = promise_sent a.op v b is in (
      record {
        works = works_kept c w past ms a v b (λ (u : ℕ) (k : passes_sent (λ z. z == u) (of_step (vote_by w.name) a.op) ≡ true). none_voted w.name a.op v u (none_of (vote_by w.name) a.op (Promise v b) refl is) k) sent h.0.works;
        uncast = λ (y : Name). unsent cast_by _ (Sent a) ms (none_of cast_by a.op (Promise v b) refl is) ∙ h.0.uncast y;
        used = used_kept past ms a v b sent h.0.used;
      },
      none_kept c ms a v b h.1,
    )
held_kept c w past ms a (ClassicVote v b x) is h =
    let none : of_step promise_by a.op ≡ None = none_of promise_by a.op (ClassicVote v b x) refl is in (
      record {
        works = works_kept c w past ms a v b (λ (u : ℕ) (k : passes_sent (λ z. z == u) (of_step (vote_by w.name) a.op) ≡ true). only_classic w.name a.op v b x u is k) (inl none) h.0.works;
        last = last_more (Sent a) ms v b none h.0.last;
      },
      none_kept c ms a v b h.1,
    )
held_kept c w past ms a (Decide v x) is h = tt
held_kept c w past ms a (Trim to x) is h = tt

pub held_kept_of : (c : Config) (w : Caller) (past : List Trace) (ms : List Action) (a : Asked) (step : Option RowStep) → IsOf a.op step → HeldOf c w past ms step → HeldOf c w past (Sent a ∷ ms) step
held_kept_of c w past ms a None is h = tt
held_kept_of c w past ms a (Some step) is h = held_kept c w past ms a step is h
