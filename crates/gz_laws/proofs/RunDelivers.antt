-- A delivery keeps the run of each object.
use Rattle.std.proofs.Common.{◌≡◌, ℕ, ◌⊎◌, inl, inr, List, [], ◌∷◌, Some, None, refl, ap, sym, ◌∙◌, subst}
use Rattle.std.proofs.lemmas.Bool.{cases_eq}
use Rattle.std.specs.Prelude.{Option, IsSome, ◌||◌, slice_get}
use Rattle.gz_core.specs.declared.requests.Reply.{Reply}
use Rattle.gz_round.specs.Sites.{seen_in, written_by}
use Rattle.gz_site.specs.Told.{Told, Tells}
use Rattle.gz_model.specs.Casts.{has_cast}
use Rattle.gz_ledger.specs.Histories.{IsIn, cast}
use Rattle.gz_ledger.specs.Transitions.{Store, WriteSent, Transition, after_transitions, AreTransitions, late_rows, seen_after, writes_of}
use Rattle.gz_world.specs.declared.events.Effect.{Effect}
use Rattle.gz_laws.specs.Begun.{IsBegunIn}
use Rattle.gz_laws.specs.Each.{EachTrace}
use Rattle.gz_laws.specs.Heard.{unused, SeenStands}
use Rattle.gz_laws.specs.Runs.{SiteStands, key_asked, RequestStands, IsSentBy, IsRowIn, IsRun}
use Rattle.gz_world.specs.States.{RequestAt, State, tick_of, numbered, with_reply}
use Rattle.gz_world.specs.Steps.{Answers, DeliversBy, casts_in}
use Rattle.gz_laws.proofs.CastRuns.{or_comm, fold_has}
use Rattle.gz_world.proofs.Places.{get_of_two, get_one}
use Rattle.gz_laws.proofs.RunSites.{site_done}
use Rattle.gz_laws.proofs.RunTools.{request_more, row_in_more, set_cases, since_on}
use Rattle.gz_laws.proofs.Traces.{each_on}

-- a site that tells goes on to tell
pub both_tell : (o p : Option Told) (R : Told → Told → Type 0) → IsSome o → Tells o p R → (before : Told) × ((after : Told) × ((o ≡ Some before) × ((p ≡ Some after) × R before after)))
both_tell None p R some h = cc
both_tell (Some before) None R some h = absurd h
both_tell (Some before) (Some after) R some h = (before, (after, (refl, (refl, h))))

pub same_told : (a b : Told) → Some a ≡ Some b → a ≡ b
same_told a b e = cc

-- the replies of a request with one more
pub more_replies : (r : RequestAt) (tick i t : ℕ) (reply one : Reply) → slice_get (with_reply tick reply r).replies i ≡ Some (t, one) → (slice_get r.replies i ≡ Some (t, one)) ⊎ (reply ≡ one)
more_replies r tick i t reply one e = elim (get_of_two r.replies ((tick, reply) ∷ []) i (t, one) e) [
  | inl k ↦ inl k
  | inr k ↦ inr (ap (λ (x : ℕ × Reply). x.1) (get_one (tick, reply) (t, one) k.0 k.1.1).1)
]

-- the request that was performed stands with its reply
reply_stands : (st su : Store) (r : RequestAt) (tick : ℕ) (reply : Reply) → RequestStands su r → SeenStands su r.site (seen_in (written_by r.op) reply) → RequestStands su (with_reply tick reply r)
reply_stands st su r tick reply h seen = record {
  asked = h.asked;
  rule = h.rule;
  replies = λ i t one e. elim (more_replies r tick i t reply one e) [
    | inl k ↦ h.replies i t one k
    | inr k ↦ subst (λ q. SeenStands su r.site (seen_in (written_by r.op) q)) k seen
  ];
}

pub deliver_run : (key : List ℕ) (old new : State) (ds : List Transition) (n : ℕ) (r : RequestAt) (reply : Reply) (effect : Effect) → DeliversBy old n r reply effect new → IsSome (old.sites r.site) → IsRun key old ds → (more : List Transition) × IsRun key new more
deliver_run key old new ds n r reply effect d tells run =
    let t = both_tell (old.sites r.site) (new.sites r.site) (λ before after. Answers before r.op reply after) tells d.site in
    let before = t.0 in
    let after = t.1.0 in
    let k = site_done old.cfg key ds r.site r.name r.op reply before after run.transitions (run.sites r.site before t.1.1.0)
    (λ same. let s = run.requests n r d.request same in (s.asked, s.rule)) t.1.1.1.1 in
    let more = k.0 in
    let done = k.1 in
    let now = with_reply (tick_of old) reply r in
    let keep : (q : WriteSent) → IsIn q (after_transitions unused ds).asked → IsIn q (after_transitions unused more).asked = λ q h. subst (IsIn q) (sym done.asked) h in (
      more,
      record {
        transitions = subst (λ c. AreTransitions c unused more) (sym d.frame.cfg) done.transitions;
        sites = λ i told is. elim (cases_eq i r.site) [
          | inl e ↦ (let same = same_told after told (sym t.1.1.1.0 ∙ sym (ap new.sites e) ∙ is) in
              subst (λ x. SiteStands key told (after_transitions unused more) x) (sym e) (subst (λ x. SiteStands key x (after_transitions unused more) r.site) same done.here))
          | inr ne ↦ (let s = run.sites i told (sym (d.others i ne) ∙ is) in
              record { stored = done.stored i ne ∙ s.stored; used = done.used i ne ∙ s.used; rule = s.rule })
        ];
        requests = λ m q there is. elim (set_cases old.net n m r now q d.request (subst (λ xs. numbered xs m ≡ Some q) d.net there)) [
          | inl e ↦ (let own : key_asked r.op ≡ key = sym (ap (λ (x : RequestAt). key_asked x.op) e) ∙ is in
              subst (RequestStands (after_transitions unused more)) (sym e)
              (reply_stands (after_transitions unused ds) (after_transitions unused more) r (tick_of old) reply (request_more (after_transitions unused ds) (after_transitions unused more) r done.replies keep (run.requests n r d.request own)) (done.seen own)))
          | inr e ↦ request_more (after_transitions unused ds) (after_transitions unused more) q done.replies keep (run.requests m q e is)
        ];
        casts = λ v b x i.
            ap (λ cs. has_cast cs key v b x i) d.casts ∙ fold_has (casts_in r.site r.op reply) old.casts key v b x i ∙ ap (λ t. t || has_cast (casts_in r.site r.op reply) key v b x i) (run.casts v b x i)
            ∙ or_comm (cast (seen_after unused ds) v b x i) (has_cast (casts_in r.site r.op reply) key v b x i) ∙ sym (done.casts v b x i);
        sent = λ q i. subst (IsSentBy key q.call q.act) (sym (d.sessions.traces q.call.session)) (run.sent q (subst (λ xs. IsIn q (writes_of xs)) done.asked i));
        begun = λ m. subst (EachTrace (IsBegunIn key more)) (sym (d.sessions.traces m)) (each_on (IsBegunIn key ds) (IsBegunIn key more) (old.traces m) (λ t h own. done.begun t.caller.name ∙ h own) (run.begun m));
        calls = λ j b there is.
            let since = run.calls j b (subst (λ cs. slice_get cs j ≡ Some b) d.sessions.calls there) is in
            let on = done.along b.name since.early since.late since.split since.current in
            since_on key old new ds more b b d.frame.cfg refl refl since on.0
            (λ m i tick q one at own same e. elim (set_cases old.net n m r now q d.request (subst (λ xs. numbered xs m ≡ Some q) d.net at)) [
              | inl f ↦ (let mine : key_asked r.op ≡ key = sym (ap (λ (x : RequestAt). key_asked x.op) f) ∙ own in
                  let named : r.name ≡ b.name = sym (ap (λ (x : RequestAt). x.name) f) ∙ same in
                  subst (λ (x : RequestAt). IsRowIn x.site (seen_in (written_by x.op) one) (late_rows unused on.0.later since.early)) (sym f)
                  (elim (more_replies r (tick_of old) i tick reply one (subst (λ (x : RequestAt). slice_get x.replies i ≡ Some (tick, one)) f e)) [
                    | inl g ↦ row_in_more r.site (seen_in (written_by r.op) one) (late_rows unused since.late since.early) (late_rows unused on.0.later since.early) on.0.rows (since.heard n i tick r one d.request mine named g)
                    | inr g ↦ subst (λ x. IsRowIn r.site (seen_in (written_by r.op) x) (late_rows unused on.0.later since.early)) g (on.1 mine)
                  ]))
              | inr f ↦ row_in_more q.site (seen_in (written_by q.op) one) (late_rows unused since.late since.early) (late_rows unused on.0.later since.early) on.0.rows (since.heard m i tick q one f own same e)
            ])
            (λ i v a at own before show. since.ended i v a (subst (λ cs. slice_get cs i ≡ Some a) d.sessions.calls at) own before show);
      },
    )
