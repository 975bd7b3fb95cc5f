-- What tagged rows keep: a tag names one row, and a write takes effect only on the row that it was made on.
use Rattle.std.proofs.Common.{◌≡◌, ℕ, ◌≤◌, ◌==◌, List, [], ◌∷◌, Option, Some, None, refl, ap, ◌∙◌, sym, subst, inl, inr, arith}
use Rattle.std.proofs.lemmas.Bool.{cases_eq, cond-true, cond-false, eq-eqb, ne_eqb}
use Rattle.std.proofs.lemmas.Option.{none-some, same_Some}
use Rattle.gz_config.specs.declared.Config.{Config}
use Rattle.gz_ledger.specs.Acceptors.{new_acceptor}
use Rattle.gz_ledger.specs.Histories.{IsIn}
use Rattle.gz_ledger.specs.Transitions.{Stored, Answered, WriteSent, Store, empty_store, Transition, Reads, Begins, Written, Failed, Elsewhere, stored_etag, acceptor_of, stored_answer, answer_to, with_site, kept_after, done, CanWrite, CanDo, after_transitions, AreTransitions}

-- what the store keeps
pub record IsKept (st : Store) : Type 0 where
  pub stored_used : (s : ℕ) (k : Stored) → st.stored s ≡ Some k → k.etag ≤ st.used s
  pub reply_used : (r : Answered) (e : ℕ) → IsIn r st.replies → r.etag ≡ Some e → e ≤ st.used r.site
  pub reply_stored : (r : Answered) (k : Stored) → IsIn r st.replies → st.stored r.site ≡ Some k → r.etag ≡ Some k.etag → r.row ≡ k.row
  pub reply_none : (r : Answered) → IsIn r st.replies → r.etag ≡ None → r.row ≡ new_acceptor
  pub named : (r q : Answered) (e : ℕ) → IsIn r st.replies → IsIn q st.replies → r.site ≡ q.site → r.etag ≡ Some e → q.etag ≡ Some e → r.row ≡ q.row

pub site_same : {A : Type 0} (f : ℕ → A) (s t : ℕ) (x : A) → t ≡ s → with_site f s x t ≡ x
site_same f s t x e = cond-true (t == s) x (f t) (eq-eqb t s e)

pub site_other : {A : Type 0} (f : ℕ → A) (s t : ℕ) (x : A) → (t ≡ s → ⊥) → with_site f s x t ≡ f t
site_other f s t x ne = cond-false (t == s) x (f t) (ne_eqb t s ne)

-- a tag is that of a row that is kept
tag_kept : (o : Option Stored) (e : ℕ) → stored_etag o ≡ Some e → (k : Stored) × (o ≡ Some k) × (k.etag ≡ e)
tag_kept None e h = absurd (none-some e h)
tag_kept (Some k) e h = (k, refl, same_Some k.etag e h)

-- no tag is that of a new acceptor
tag_none : (o : Option Stored) → stored_etag o ≡ None → acceptor_of o ≡ new_acceptor
tag_none None h = refl
tag_none (Some k) h = absurd (none-some k.etag (sym h))

kept_empty : (used : ℕ → ℕ) → IsKept (empty_store used)
kept_empty used = record {
  stored_used = λ (s : ℕ) (k : Stored) (e : None ≡ Some k). absurd (none-some k e);
  reply_used = λ (r : Answered) (e : ℕ) (i : IsIn r []). absurd i;
  reply_stored = λ (r : Answered) (k : Stored) (i : IsIn r []). absurd i;
  reply_none = λ (r : Answered) (i : IsIn r []). absurd i;
  named = λ (r q : Answered) (e : ℕ) (i : IsIn r []). absurd i;
}

-- a store with one more reply
abbrev with_reply : Store → Answered → Store
with_reply st r = record { stored = st.stored; used = st.used; replies = r ∷ st.replies; asked = st.asked }

-- the reply shows what its site keeps
record ShowsKept (st : Store) (r : Answered) : Type 0 where
  tag : r.etag ≡ stored_etag (st.stored r.site)
  row : r.row ≡ acceptor_of (st.stored r.site)

new_used : (st : Store) (n r : Answered) (e : ℕ) → IsKept st → ShowsKept st n → r ≡ n → r.etag ≡ Some e → e ≤ st.used r.site
new_used st n r e k sh p h =
    let tag : stored_etag (st.stored n.site) ≡ Some e = sym sh.tag ∙ (ap (λ (x : Answered). x.etag) (sym p) ∙ h) in
    let w : (x : Stored) × (st.stored n.site ≡ Some x) × (x.etag ≡ e) = tag_kept (st.stored n.site) e tag in
    subst (λ (x : Answered). e ≤ st.used x.site) (sym p) (subst (λ (x : ℕ). x ≤ st.used n.site) w.2 (k.stored_used n.site w.0 w.1))

-- the row that the reply shows under a tag is that of each earlier reply under it
new_named : (st : Store) (n q : Answered) (e : ℕ) → IsKept st → ShowsKept st n → IsIn q st.replies → n.site ≡ q.site → n.etag ≡ Some e → q.etag ≡ Some e → n.row ≡ q.row
new_named st n q e k sh j s h g =
    let w : (x : Stored) × (st.stored n.site ≡ Some x) × (x.etag ≡ e) = tag_kept (st.stored n.site) e (sym sh.tag ∙ h) in
    let there : st.stored q.site ≡ Some w.0 = subst (λ (t : ℕ). st.stored t ≡ Some w.0) s w.1 in
    let row : n.row ≡ w.0.row = sh.row ∙ ap acceptor_of w.1 in
    row ∙ sym (k.reply_stored q w.0 j there (g ∙ ap (λ (t : ℕ). Some t) (sym w.2)))

reply_used_more : (st : Store) (n : Answered) → IsKept st → ShowsKept st n → (r : Answered) (e : ℕ) → IsIn r (n ∷ st.replies) → r.etag ≡ Some e → e ≤ st.used r.site
reply_used_more st n k sh r e (inl p) h = new_used st n r e k sh p h
reply_used_more st n k sh r e (inr i) h = k.reply_used r e i h

reply_stored_more : (st : Store) (n : Answered) → IsKept st → ShowsKept st n → (r : Answered) (x : Stored) → IsIn r (n ∷ st.replies) → st.stored r.site ≡ Some x → r.etag ≡ Some x.etag → r.row ≡ x.row
reply_stored_more st n k sh r x (inl p) h g =
    ap (λ (q : Answered). q.row) p ∙ (sh.row ∙ ap acceptor_of (subst (λ (q : Answered). st.stored q.site ≡ Some x) p h))
reply_stored_more st n k sh r x (inr i) h g = k.reply_stored r x i h g

reply_none_more : (st : Store) (n : Answered) → IsKept st → ShowsKept st n → (r : Answered) → IsIn r (n ∷ st.replies) → r.etag ≡ None → r.row ≡ new_acceptor
reply_none_more st n k sh r (inl p) h =
    ap (λ (q : Answered). q.row) p ∙ (sh.row ∙ tag_none (st.stored n.site) (sym sh.tag ∙ (ap (λ (q : Answered). q.etag) (sym p) ∙ h)))
reply_none_more st n k sh r (inr i) h = k.reply_none r i h

named_more : (st : Store) (n : Answered) → IsKept st → ShowsKept st n → (r q : Answered) (e : ℕ) → IsIn r (n ∷ st.replies) → IsIn q (n ∷ st.replies) → r.site ≡ q.site → r.etag ≡ Some e → q.etag ≡ Some e → r.row ≡ q.row
named_more st n k sh r q e (inl p) (inl o) s h g = ap (λ (x : Answered). x.row) (p ∙ sym o)
named_more st n k sh r q e (inl p) (inr j) s h g =
    ap (λ (x : Answered). x.row) p ∙ new_named st n q e k sh j (ap (λ (x : Answered). x.site) (sym p) ∙ s) (ap (λ (x : Answered). x.etag) (sym p) ∙ h) g
named_more st n k sh r q e (inr i) (inl o) s h g =
    sym (ap (λ (x : Answered). x.row) o ∙ new_named st n r e k sh i (ap (λ (x : Answered). x.site) (sym o) ∙ sym s) (ap (λ (x : Answered). x.etag) (sym o) ∙ g) h)
named_more st n k sh r q e (inr i) (inr j) s h g = k.named r q e i j s h g

-- a reply that shows what its site keeps
kept_reply : (st : Store) (n : Answered) → IsKept st → ShowsKept st n → IsKept (with_reply st n)
kept_reply st n k sh = record {
  stored_used = k.stored_used;
  reply_used = reply_used_more st n k sh;
  reply_stored = reply_stored_more st n k sh;
  reply_none = reply_none_more st n k sh;
  named = named_more st n k sh;
}

-- a write that takes effect under a new tag
kept_write : (st : Store) (a : WriteSent) (e : ℕ) → IsKept st → CanWrite st a e → IsKept (done st (Failed a e))
kept_write st a e k can = record {
  stored_used = λ (s : ℕ) (x : Stored) (h : kept_after st a e s ≡ Some x).
      elim (cases_eq s a.write.site) [
        | inl p ↦
            let here : x.etag ≡ e = ap (λ (y : Stored). y.etag) (sym (same_Some (record { etag = e; row = a.write.after }) x (sym (site_same st.stored a.write.site s (Some (record { etag = e; row = a.write.after })) p) ∙ h))) in
            omega (arith, here, site_same st.used a.write.site s e p)
        | inr ne ↦ omega (arith, site_other st.used a.write.site s e ne, k.stored_used s x (sym (site_other st.stored a.write.site s (Some (record { etag = e; row = a.write.after })) ne) ∙ h))
      ];
  reply_used = λ (r : Answered) (f : ℕ) (i : IsIn r st.replies) (h : r.etag ≡ Some f).
      elim (cases_eq r.site a.write.site) [
        | inl p ↦ omega (arith, site_same st.used a.write.site r.site e p, can.new, k.reply_used r f i h, ap st.used p)
        | inr ne ↦ omega (arith, site_other st.used a.write.site r.site e ne, k.reply_used r f i h)
      ];
  reply_stored = λ (r : Answered) (x : Stored) (i : IsIn r st.replies) (h : kept_after st a e r.site ≡ Some x) (g : r.etag ≡ Some x.etag).
      elim (cases_eq r.site a.write.site) [
        | inl p ↦
            let here : x.etag ≡ e = ap (λ (y : Stored). y.etag) (sym (same_Some (record { etag = e; row = a.write.after }) x (sym (site_same st.stored a.write.site r.site (Some (record { etag = e; row = a.write.after })) p) ∙ h))) in
            absurd (omega (arith, here, can.new, k.reply_used r x.etag i g, ap st.used p))
        | inr ne ↦ k.reply_stored r x i (sym (site_other st.stored a.write.site r.site (Some (record { etag = e; row = a.write.after })) ne) ∙ h) g
      ];
  reply_none = k.reply_none;
  named = k.named;
}

kept_elsewhere : (st : Store) (s e : ℕ) → IsKept st → st.used s ≤ e → IsKept (done st (Elsewhere s e))
kept_elsewhere st s e k le = record {
  stored_used = λ (t : ℕ) (x : Stored) (h : st.stored t ≡ Some x). omega (arith, used_more t, k.stored_used t x h);
  reply_used = λ (r : Answered) (f : ℕ) (i : IsIn r st.replies) (h : r.etag ≡ Some f). omega (arith, used_more r.site, k.reply_used r f i h);
  reply_stored = k.reply_stored;
  reply_none = k.reply_none;
  named = k.named;
}
  where
    used_more : (t : ℕ) → st.used t ≤ with_site st.used s e t
    used_more t = elim (cases_eq t s) [
      | inl p ↦ omega (arith, site_same st.used s t e p, ap st.used p, le)
      | inr ne ↦ omega (arith, site_other st.used s t e ne)
    ]

-- each transition keeps it
kept_done : (cfg : Config) (st : Store) (d : Transition) → IsKept st → CanDo cfg st d → IsKept (done st d)
kept_done cfg st (Reads s) k can = kept_reply st (stored_answer st s) k (record { tag = refl; row = refl })
kept_done cfg st (Begins heard a) k can = record { stored_used = k.stored_used; reply_used = k.reply_used; reply_stored = k.reply_stored; reply_none = k.reply_none; named = k.named }
kept_done cfg st (Written a e) k can =
    let now : kept_after st a e a.write.site ≡ Some (record { etag = e; row = a.write.after }) = site_same st.stored a.write.site a.write.site (Some (record { etag = e; row = a.write.after })) refl in
    kept_reply (done st (Failed a e)) (answer_to a e) (kept_write st a e k can) (record { tag = ap stored_etag (sym now); row = ap acceptor_of (sym now) })
kept_done cfg st (Failed a e) k can = kept_write st a e k can
kept_done cfg st (Elsewhere s e) k can = kept_elsewhere st s e k can

-- every run over tagged rows
pub kept : (cfg : Config) (used : ℕ → ℕ) (ds : List Transition) → AreTransitions cfg used ds → IsKept (after_transitions used ds)
kept cfg used [] a = kept_empty used
kept cfg used (d ∷ ds) a = kept_done cfg (after_transitions used ds) d (kept cfg used ds a.0) a.1

-- a row that was shown under the tag under which its site's row stands is that row
pub shown_stands : (st : Store) (r : Answered) → IsKept st → IsIn r st.replies → stored_etag (st.stored r.site) ≡ r.etag → acceptor_of (st.stored r.site) ≡ r.row
shown_stands st r k i e = stands_at (st.stored r.site) refl e
  where
    stands_at : (o : Option Stored) → st.stored r.site ≡ o → stored_etag o ≡ r.etag → acceptor_of o ≡ r.row
    stands_at None is tag = sym (k.reply_none r i (sym tag))
    stands_at (Some x) is tag = sym (k.reply_stored r x i is (sym tag))
