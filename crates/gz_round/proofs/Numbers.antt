-- The numbers of the requests that are awaited.
use Rattle.std.proofs.Common.{◌≡◌, ℕ, ◌+◌, ◌<◌, ◌≤◌, List, [], ◌∷◌, ◌++◌, length, Some, None, refl, sym, ap, ◌∙◌, subst, inl, inr, arith}
use Rattle.std.proofs.lemmas.Option.{none-some}
use Rattle.gz_config.specs.declared.Config.{Config}
use Rattle.gz_core.specs.declared.requests.Out.{Out}
use Rattle.gz_core.specs.declared.requests.Reply.{Reply}
use Rattle.gz_core.specs.History.{Asked, Action, Sent, Handed, GaveUp, GaveIn, IsClosing, asked_of, sent_from}
use Rattle.gz_round.specs.Sites.{SiteNow, site_now, after, seen_in, written_by, is_changed}
use Rattle.gz_round.specs.Numbering.{AreNumbered}
use Rattle.gz_round.proofs.Awaits.{to_site, awaits_sent, reply_idle, ended_awaits}

one_sent : (c : Config) (ms : List Action) (a : Asked) (next : ℕ) → next ≤ a.number → AreNumbered c ms next → AreNumbered c (Sent a ∷ ms) (a.number + 1)
one_sent c ms a next l h = record {
  below = λ (s : ℕ) (b : Asked) (i : s < c.n) (e : (site_now (Sent a ∷ ms) s).awaits ≡ Some b). elim (awaits_sent ms a b s e) [
    | inl k ↦ (let same : a.number ≡ b.number = ap (λ (z : Asked). z.number) k.0 in omega arith)
    | inr k ↦ omega (arith, h.below s b i k)
  ];
  apart = λ (s u : ℕ) (b d : Asked) (i : s < c.n) (j : u < c.n) (e : (site_now (Sent a ∷ ms) s).awaits ≡ Some b) (f : (site_now (Sent a ∷ ms) u).awaits ≡ Some d) (same : b.number ≡ d.number).
      elim (awaits_sent ms a b s e) [
        | inl k ↦ elim (awaits_sent ms a d u f) [
          | inl m ↦ sym (to_site a s k.1) ∙ to_site a u m.1
          | inr m ↦ (let n : a.number ≡ b.number = ap (λ (z : Asked). z.number) k.0 in absurd (omega (arith, h.below u d j m)))
        ]
        | inr k ↦ elim (awaits_sent ms a d u f) [
          | inl m ↦ (let n : a.number ≡ d.number = ap (λ (z : Asked). z.number) m.0 in absurd (omega (arith, h.below s b i k)))
          | inr m ↦ h.apart s u b d i j k m same
        ]
      ];
}

numbered_later : (c : Config) (ms : List Action) (next later : ℕ) → next ≤ later → AreNumbered c ms next → AreNumbered c ms later
numbered_later c ms next later l h = record { below = λ (s : ℕ) (a : Asked) (i : s < c.n) (e : (site_now ms s).awaits ≡ Some a). omega (arith, h.below s a i e); apart = h.apart }

-- the requests of an event have numbers of their own
pub numbered_sent : (c : Config) (first : ℕ) (outs : List Out) (ms : List Action) → AreNumbered c ms first → AreNumbered c (sent_from first outs ms) (first + length outs)
numbered_sent c first [] ms h = numbered_later c ms first (first + 0) (omega arith) h
numbered_sent c first (o ∷ os) ms h =
    let rest = numbered_sent c (first + 1) os (Sent (asked_of first o) ∷ ms) (one_sent c ms (asked_of first o) first (omega arith) h) in
    numbered_later c (sent_from (first + 1) os (Sent (asked_of first o) ∷ ms)) (first + 1 + length os) (first + length (o ∷ os)) (omega arith) rest

pub numbered_ended : (c : Config) (ms : List Action) (m : Action) (next : ℕ) → ((now : SiteNow) → (after m now).awaits ≡ None) → AreNumbered c ms next → AreNumbered c (m ∷ ms) next
numbered_ended c ms m next idle h = record {
  below = λ (s : ℕ) (a : Asked) (i : s < c.n) (e : (site_now (m ∷ ms) s).awaits ≡ Some a). h.below s a i (ended_awaits ms m a s idle e);
  apart = λ (s u : ℕ) (a b : Asked) (i : s < c.n) (j : u < c.n) (e : (site_now (m ∷ ms) s).awaits ≡ Some a) (f : (site_now (m ∷ ms) u).awaits ≡ Some b) (same : a.number ≡ b.number).
      h.apart s u a b i j (ended_awaits ms m a s idle e) (ended_awaits ms m b u idle f) same;
}

pub numbered_handed : (c : Config) (ms : List Action) (a : Asked) (reply : Reply) (next later : ℕ) → next ≤ later → AreNumbered c ms next → AreNumbered c (Handed a reply ∷ ms) later
numbered_handed c ms a reply next later l h = numbered_ended c ms (Handed a reply) later (reply_idle (seen_in (written_by a.op) reply) (is_changed reply)) (numbered_later c ms next later l h)

pub numbered_gave_up : (c : Config) (ms : List Action) (a : Asked) (next later : ℕ) → next ≤ later → AreNumbered c ms next → AreNumbered c (GaveUp a ∷ ms) later
numbered_gave_up c ms a next later l h = numbered_ended c ms (GaveUp a) later (λ now. refl) (numbered_later c ms next later l h)

-- nothing is awaited at the start
pub numbered_none : (c : Config) (next : ℕ) → AreNumbered c [] next
numbered_none c next = record {
  below = λ (s : ℕ) (a : Asked) (i : s < c.n) (e : None ≡ Some a). absurd (none-some a e);
  apart = λ (s u : ℕ) (a b : Asked) (i : s < c.n) (j : u < c.n) (e : None ≡ Some a) (f : None ≡ Some b) (same : a.number ≡ b.number). absurd (none-some a e);
}

-- however an event closes
pub numbered_closed : (c : Config) (ms closing : List Action) (next : ℕ) → IsClosing closing → AreNumbered c ms next → AreNumbered c (closing ++ ms) next
numbered_closed c ms closing next (inl e) h = subst (λ k. AreNumbered c (k ++ ms) next) (sym e) h
numbered_closed c ms closing next (inr e) h = subst (λ k. AreNumbered c (k ++ ms) next) (sym e) (numbered_ended c ms GaveIn next (λ now. refl) h)
