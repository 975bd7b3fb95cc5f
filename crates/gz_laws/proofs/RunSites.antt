-- What a site does to an object is a transition of the object's run, or none.
use Rattle.std.proofs.Common.{◌≡◌, ◌≢◌, ℕ, ◌<◌, inl, inr, List, [], ◌∷◌, ◌++◌, Some, None, false, cond, refl, ap, sym, ◌∙◌, subst, arith}
use Rattle.std.specs.Prelude.{Option, ◌==◌, ◌&&◌, ◌||◌}
use Rattle.gz_core.specs.Names.{Name, BallotAt}
use Rattle.gz_core.specs.Rows.{RowAt, IsRow}
use Rattle.gz_core.specs.Slots.{slots}
use Rattle.gz_config.specs.declared.Config.{Config}
use Rattle.gz_core.specs.declared.requests.RowStep.{RowStep}
use Rattle.gz_core.specs.declared.requests.Op.{Op}
use Rattle.gz_core.specs.declared.requests.Op.TheVariants.{ReadRow, WriteRow}
use Rattle.gz_core.specs.declared.requests.Reply.{Reply}
use Rattle.gz_core.specs.declared.requests.Reply.TheVariants.{Row, NoRow, Written, Changed, Failed}
use Rattle.gz_core.specs.History.{is_row_request}
use Rattle.gz_round.specs.Sites.{seen_in, written_by}
use Rattle.gz_site.specs.Told.{Told, same_key, etag_of}
use Rattle.gz_site.specs.Steps.{RowStored}
use Rattle.gz_model.specs.Casts.{has_cast}
use Rattle.gz_ledger.specs.Acceptors.{Acceptor, slot_votes}
use Rattle.gz_ledger.specs.Histories.{RowSeen, IsIn, cast}
use Rattle.gz_ledger.specs.Transitions.{Store, Stored, Answered, WriteSent, Transition, Reads, Elsewhere, stored_etag, acceptor_of, after_transitions, AreTransitions, CanWrite, late_rows, seen_after, AreCurrentTransitions}
use Rattle.gz_ledger.specs.Transitions.{Written as WrittenBy, Failed as FailedBy}
use Rattle.gz_ledger.proofs.Tags.{site_same, site_other}
use Rattle.gz_laws.specs.Begun.{begins_of}
use Rattle.gz_laws.specs.Heard.{unused, SeenStands, IsAskedOf, AskedHere}
use Rattle.gz_laws.specs.Runs.{stored_of, SiteStands, key_asked, IsRowIn}
use Rattle.gz_laws.specs.Rows.{IfKept, IfWritten}
use Rattle.gz_world.specs.Steps.{Answers, casts_in}
use Rattle.gz_laws.proofs.BlobSteps.{IsSameRows, blob_leaves, blob_unseen}
use Rattle.gz_laws.proofs.CastRuns.{and_false, row_casts, other_casts}
use Rattle.gz_laws.proofs.Growing.{GoesOn}
use Rattle.gz_laws.proofs.Keys.{same_key-refl, key_cases}
use Rattle.gz_laws.proofs.RowRules.{blank_rule}

-- transitions at sites go on from any earlier ones
abbrev pub GoAlong : Config → List Transition → List Transition → (List RowSeen → Type 0) → Type 0
GoAlong c ds more shown =
    (call : Name) (early late : List Transition) → ds ≡ late ++ early → AreCurrentTransitions c unused call late early → (on : GoesOn c call early late more) × shown (late_rows unused on.later early)

-- a site did what a request asks, and this is what the object's transitions are then
pub record IsDone (c : Config) (key : List ℕ) (ds more : List Transition) (site : ℕ) (op : Op) (reply : Reply) (told : Told) : Type 0 where
  pub transitions : AreTransitions c unused more
  pub here : SiteStands key told (after_transitions unused more) site
  pub stored : (i : ℕ) → i ≢ site → (after_transitions unused more).stored i ≡ (after_transitions unused ds).stored i
  pub used : (i : ℕ) → i ≢ site → (after_transitions unused more).used i ≡ (after_transitions unused ds).used i
  pub replies : (r : Answered) → IsIn r (after_transitions unused ds).replies → IsIn r (after_transitions unused more).replies
  pub asked : (after_transitions unused more).asked ≡ (after_transitions unused ds).asked
  pub seen : key_asked op ≡ key → SeenStands (after_transitions unused more) site (seen_in (written_by op) reply)
  pub casts : (v : ℕ) (b : BallotAt) (x : Name) (i : ℕ) → cast (seen_after unused more) v b x i ≡ (has_cast (casts_in site op reply) key v b x i || cast (seen_after unused ds) v b x i)
  pub begun : (name : Name) → begins_of name more ≡ begins_of name ds
  pub along : GoAlong c ds more (λ rows. key_asked op ≡ key → IsRowIn site (seen_in (written_by op) reply) rows)

-- nothing was done
idle : (c : Config) (key : List ℕ) (ds : List Transition) (site : ℕ) (op : Op) (reply : Reply) (told : Told) → AreTransitions c unused ds → SiteStands key told (after_transitions unused ds) site
    → (key_asked op ≡ key → SeenStands (after_transitions unused ds) site (seen_in (written_by op) reply)) → ((rows : List RowSeen) → key_asked op ≡ key → IsRowIn site (seen_in (written_by op) reply) rows) → ((v : ℕ) (b : BallotAt) (x : Name) (i : ℕ) → has_cast (casts_in site op reply) key v b x i ≡ false) → IsDone c key ds ds site op reply told
idle c key ds site op reply told are here seen rows none = record {
  transitions = are;
  here = here;
  stored = λ i apart. refl;
  used = λ i apart. refl;
  replies = λ r h. h;
  asked = refl;
  seen = seen;
  casts = λ v b x i. sym (ap (λ t. t || cast (seen_after unused ds) v b x i) (none v b x i));
  begun = λ name. refl;
  along = λ call early late split current. (record { later = late; split = split; current = current; rows = λ e h. h }, rows (late_rows unused late early));
}

-- a read shows what the site keeps
read_done : (c : Config) (key : List ℕ) (ds : List Transition) (site : ℕ) (op : Op) (reply : Reply) (told : Told) (o : Option Stored) → AreTransitions c unused ds → SiteStands key told (after_transitions unused ds) site → (after_transitions unused ds).stored site ≡ o
    → ((st : Store) → (let r : Answered = record { site = site; etag = stored_etag o; row = acceptor_of o } in IsIn r st.replies) → SeenStands st site (seen_in (written_by op) reply))
    → ((rows : List RowSeen) → (let e : RowSeen = record { site = site; row = acceptor_of o } in IsIn e rows) → IsRowIn site (seen_in (written_by op) reply) rows)
    → ((v : ℕ) (b : BallotAt) (x : Name) (i : ℕ) → has_cast (casts_in site op reply) key v b x i ≡ ((site == i) && slot_votes (acceptor_of o v) b x)) → IsDone c key ds (Reads site ∷ ds) site op reply told
read_done c key ds site op reply told o are here is seen rows votes = record {
  transitions = (are, tt);
  here = record { stored = here.stored; used = here.used; rule = here.rule };
  stored = λ i apart. refl;
  used = λ i apart. refl;
  replies = λ r h. inr h;
  asked = refl;
  seen = λ _. seen (after_transitions unused (Reads site ∷ ds)) (inl (λ i. record { site = site; etag = stored_etag (sym is i); row = acceptor_of (sym is i) }));
  casts = λ v b x i. ap (λ (k : Option Stored). ((site == i) && slot_votes (acceptor_of k v) b x) || cast (seen_after unused ds) v b x i) is ∙ ap (λ t. t || cast (seen_after unused ds) v b x i) (sym (votes v b x i));
  begun = λ name. refl;
  along = λ call early late split current. (
    record { later = Reads site ∷ late; split = ap (λ (ks : List Transition). Reads site ∷ ks) split; current = (current, tt); rows = λ e h. inr h },
    λ _. rows (late_rows unused (Reads site ∷ late) early)
        (inl (ap (λ (k : Option Stored). let e : RowSeen = record { site = site; row = acceptor_of k } in e) (sym is ∙ ap (λ (ks : List Transition). (after_transitions unused ks).stored site) split))),
  );
}

-- a row that is kept
stored_same : (key : List ℕ) (told : Told) (st : Store) (site : ℕ) (kept : Option (ℕ × RowAt)) → SiteStands key told st site → told.rows key ≡ kept → st.stored site ≡ stored_of kept
stored_same key told st site kept here is = here.stored ∙ ap stored_of is

rule_kept : (key : List ℕ) (told : Told) (st : Store) (site : ℕ) (kept : Option (ℕ × RowAt)) → SiteStands key told st site → told.rows key ≡ kept → IfKept IsRow kept
rule_kept key told st site kept here is = subst (IfKept IsRow) is here.rule

-- the tag of the row that is kept
etag_same : (kept : Option (ℕ × RowAt)) → stored_etag (stored_of kept) ≡ etag_of kept
etag_same None = refl
etag_same (Some k) = refl

-- the object's row after a write of the object
written_stands : (key k : List ℕ) (site etag : ℕ) (row : RowAt) (before after : Told) (st : Store) → k ≡ key → RowStored before k etag row after → IsRow row
    → st.stored site ≡ Some (record { etag = etag; row = slots row }) → st.used site ≡ etag → SiteStands key after st site
written_stands key k site etag row before after st same done rule stored used =
    let is : after.rows key ≡ Some (etag, row) = done.rows key ∙ ap (λ b. cond b (Some (etag, row)) (before.rows key)) (ap (λ q. same_key q key) same ∙ same_key-refl key) in
    record {
      stored = stored ∙ sym (ap stored_of is);
      used = used ∙ sym done.top;
      rule = subst (IfKept IsRow) (sym is) rule;
    }

-- the write of a request, as it was asked
abbrev IsWriteOf : Name → ℕ → Option ℕ → RowAt → WriteSent → Type 0
IsWriteOf name site expect row qa = (qa.expect ≡ expect) × ((qa.write.site ≡ site) × (qa.write.after ≡ slots row))

write_of : (name : Name) (site : ℕ) (key : List ℕ) (expect : Option ℕ) (step : RowStep) (row : RowAt) (qa : WriteSent) → IsAskedOf name site (WriteRow key expect step row) qa → IsWriteOf name site expect row qa
write_of name site key expect step row qa h = (ap (λ (k : WriteSent). k.expect) h.1, (ap (λ (k : WriteSent). k.write.site) h.1, ap (λ (k : WriteSent). k.write.after) h.1))

can_write : (key : List ℕ) (ds : List Transition) (qa : WriteSent) (site etag : ℕ) (expect : Option ℕ) (row : RowAt) (before : Told) → IsIn qa (after_transitions unused ds).asked → qa.expect ≡ expect → qa.write.site ≡ site → SiteStands key before (after_transitions unused ds) site
    → etag_of (before.rows key) ≡ expect → before.top < etag → CanWrite (after_transitions unused ds) qa etag
can_write key ds qa site etag expect row before asked exp at here tag above =
    let u = here.used in
    record {
      asked = asked;
      stands = ap (λ s. stored_etag ((after_transitions unused ds).stored s)) at ∙ ap stored_etag here.stored ∙ etag_same (before.rows key) ∙ tag ∙ sym exp;
      new = subst (λ s. (after_transitions unused ds).used s < etag) (sym at) (omega (arith, u, above));
    }

kept_here : (ds : List Transition) (qa : WriteSent) (site etag : ℕ) (row : RowAt) → qa.write.site ≡ site → qa.write.after ≡ slots row → (after_transitions unused (FailedBy qa etag ∷ ds)).stored site ≡ Some (record { etag = etag; row = slots row })
kept_here ds qa site etag row at is =
    site_same (after_transitions unused ds).stored qa.write.site site (Some (record { etag = etag; row = qa.write.after })) (sym at) ∙ ap (λ (a : Acceptor). let k : Stored = record { etag = etag; row = a } in Some k) is

used_here : (ds : List Transition) (qa : WriteSent) (site etag : ℕ) → qa.write.site ≡ site → (after_transitions unused (FailedBy qa etag ∷ ds)).used site ≡ etag
used_here ds qa site etag at = site_same (after_transitions unused ds).used qa.write.site site etag (sym at)

-- a write took effect, and its reply was lost
failed_done : (c : Config) (key k : List ℕ) (ds : List Transition) (qa : WriteSent) (site etag : ℕ) (name : Name) (expect : Option ℕ) (step : RowStep) (row : RowAt) (before after : Told) → AreTransitions c unused ds → SiteStands key before (after_transitions unused ds) site → IsRow row
    → IsAskedOf name site (WriteRow k expect step row) qa → IsIn qa (after_transitions unused ds).asked → k ≡ key → etag_of (before.rows k) ≡ expect → RowStored before k etag row after
    → IsDone c key ds (FailedBy qa etag ∷ ds) site (WriteRow k expect step row) Failed after
failed_done c key k ds qa site etag name expect step row before after are here rule is asked same tag done =
    let tagged : etag_of (before.rows key) ≡ expect = sym (ap (λ q. etag_of (before.rows q)) same) ∙ tag in
    let w = write_of name site k expect step row qa is in
    let at = w.1.0 in
    record {
      transitions = (are, can_write key ds qa site etag expect row before asked w.0 at here tagged done.above);
      here = written_stands key k site etag row before after (after_transitions unused (FailedBy qa etag ∷ ds)) same done rule (kept_here ds qa site etag row at w.1.1) (used_here ds qa site etag at);
      stored = λ i apart. site_other (after_transitions unused ds).stored qa.write.site i (Some (record { etag = etag; row = qa.write.after })) (λ e. apart (e ∙ at));
      used = λ i apart. site_other (after_transitions unused ds).used qa.write.site i etag (λ e. apart (e ∙ at));
      replies = λ r h. h;
      asked = refl;
      seen = λ _. tt;
      casts = λ v b x i. refl;
      begun = λ name. refl;
      along = λ call early late split current. (record { later = FailedBy qa etag ∷ late; split = ap (λ (ks : List Transition). FailedBy qa etag ∷ ks) split; current = (current, tt); rows = λ e h. h }, λ _. tt);
    }

-- a write took effect, and its reply shows the row that it made
written_done : (c : Config) (key k : List ℕ) (ds : List Transition) (qa : WriteSent) (site etag : ℕ) (name : Name) (expect : Option ℕ) (step : RowStep) (row : RowAt) (before after : Told) → AreTransitions c unused ds → SiteStands key before (after_transitions unused ds) site → IsRow row
    → IsAskedOf name site (WriteRow k expect step row) qa → IsIn qa (after_transitions unused ds).asked → k ≡ key → etag_of (before.rows k) ≡ expect → RowStored before k etag row after
    → IsDone c key ds (WrittenBy qa etag ∷ ds) site (WriteRow k expect step row) (Written etag) after
written_done c key k ds qa site etag name expect step row before after are here rule is asked same tag done =
    let tagged : etag_of (before.rows key) ≡ expect = sym (ap (λ q. etag_of (before.rows q)) same) ∙ tag in
    let w = write_of name site k expect step row qa is in
    let at = w.1.0 in
    record {
      transitions = (are, can_write key ds qa site etag expect row before asked w.0 at here tagged done.above);
      here = written_stands key k site etag row before after (after_transitions unused (WrittenBy qa etag ∷ ds)) same done rule (kept_here ds qa site etag row at w.1.1) (used_here ds qa site etag at);
      stored = λ i apart. site_other (after_transitions unused ds).stored qa.write.site i (Some (record { etag = etag; row = qa.write.after })) (λ e. apart (e ∙ at));
      used = λ i apart. site_other (after_transitions unused ds).used qa.write.site i etag (λ e. apart (e ∙ at));
      replies = λ r h. inr h;
      asked = refl;
      seen = λ _. (rule, inl (λ i. record { site = sym at i; etag = Some etag; row = sym w.1.1 i }));
      casts = λ v b x i.
          ap (λ s. ((s == i) && slot_votes (qa.write.after v) b x) || cast (seen_after unused ds) v b x i) at ∙ ap (λ (a : Acceptor). ((site == i) && slot_votes (a v) b x) || cast (seen_after unused ds) v b x i) w.1.1
          ∙ ap (λ t. t || cast (seen_after unused ds) v b x i) (sym (row_casts site k key row v b x i same rule));
      begun = λ name. refl;
      along = λ call early late split current. (
        record { later = WrittenBy qa etag ∷ late; split = ap (λ (ks : List Transition). WrittenBy qa etag ∷ ks) split; current = (current, tt); rows = λ e h. inr h },
        λ _. inl (λ i. record { site = sym at i; row = sym w.1.1 i }),
      );
    }

-- a write of another object uses a tag
elsewhere_done : (c : Config) (key other : List ℕ) (ds : List Transition) (site etag : ℕ) (op : Op) (reply : Reply) (row : RowAt) (before after : Told) → AreTransitions c unused ds → SiteStands key before (after_transitions unused ds) site → same_key other key ≡ false → (key_asked op ≡ key → ⊥) → ((v : ℕ) (b : BallotAt) (x : Name) (i : ℕ) → has_cast (casts_in site op reply) key v b x i ≡ false) → RowStored before other etag row after
    → IsDone c key ds (Elsewhere site etag ∷ ds) site op reply after
elsewhere_done c key other ds site etag op reply row before after are here apart none plain done =
    let is : after.rows key ≡ before.rows key = done.rows key ∙ ap (λ b. cond b (Some (etag, row)) (before.rows key)) apart in
    let u = here.used in
    let above = done.above in
    record {
      transitions = (are, omega (arith, u, above));
      here = record {
        stored = here.stored ∙ sym (ap stored_of is);
        used = site_same (after_transitions unused ds).used site site etag refl ∙ sym done.top;
        rule = subst (IfKept IsRow) (sym is) here.rule;
      };
      stored = λ i apart. refl;
      used = λ i apart. site_other (after_transitions unused ds).used site i etag apart;
      replies = λ r h. h;
      asked = refl;
      seen = λ same. absurd (none same);
      casts = λ v b x i. sym (ap (λ t. t || cast (seen_after unused ds) v b x i) (plain v b x i));
      begun = λ name. refl;
      along = λ call early late split current. (record { later = Elsewhere site etag ∷ late; split = ap (λ (ks : List Transition). Elsewhere site etag ∷ ks) split; current = (current, tt); rows = λ e h. h }, λ same. absurd (none same));
    }

at_key : (key k : List ℕ) (told : Told) (kept : Option (ℕ × RowAt)) → k ≡ key → told.rows k ≡ kept → told.rows key ≡ kept
at_key key k told kept same is = ap told.rows (sym same) ∙ is

-- a read of the object gives what the site keeps of it
read_at : (c : Config) (key k : List ℕ) (ds : List Transition) (site : ℕ) (reply : Reply) (before after : Told) → AreTransitions c unused ds → SiteStands key before (after_transitions unused ds) site → k ≡ key → Answers before (ReadRow k) reply after → (more : List Transition) × IsDone c key ds more site (ReadRow k) reply after
read_at c key k ds site (Row etag row) before after are here same ans =
    let is = at_key key k before (Some (etag, row)) same ans.0 in
    let rule = rule_kept key before (after_transitions unused ds) site (Some (etag, row)) here is in (
      Reads site ∷ ds,
      read_done c key ds site (ReadRow k) (Row etag row) after (stored_of (Some (etag, row))) are (subst (λ t. SiteStands key t (after_transitions unused ds) site) (sym ans.1) here)
          (stored_same key before (after_transitions unused ds) site (Some (etag, row)) here is)
          (λ st i. (rule, i)) (λ rows i. i) (λ v b x i. row_casts site k key row v b x i same rule),
    )
read_at c key k ds site NoRow before after are here same ans =
    let is = at_key key k before None same ans.0 in (
      Reads site ∷ ds,
      read_done c key ds site (ReadRow k) NoRow after (stored_of None) are (subst (λ t. SiteStands key t (after_transitions unused ds) site) (sym ans.1) here)
          (stored_same key before (after_transitions unused ds) site None here is) (λ st i. (blank_rule, i)) (λ rows i. i) (λ v b x i. sym (and_false (site == i))),
    )
read_at c key k ds site Failed before after are here same ans = (ds, idle c key ds site (ReadRow k) Failed after are (subst (λ t. SiteStands key t (after_transitions unused ds) site) (sym ans) here) (λ _. tt) (λ rows _. tt) (λ v b x i. refl))
read_at c key k ds site reply before after are here same ans = absurd ans

-- a write of the object
write_at : (c : Config) (key k : List ℕ) (ds : List Transition) (site : ℕ) (name : Name) (expect : Option ℕ) (step : RowStep) (row : RowAt) (reply : Reply) (before after : Told) → AreTransitions c unused ds → SiteStands key before (after_transitions unused ds) site → k ≡ key
    → AskedHere name site (WriteRow k expect step row) (after_transitions unused ds) × IsRow row → Answers before (WriteRow k expect step row) reply after → (more : List Transition) × IsDone c key ds more site (WriteRow k expect step row) reply after
write_at c key k ds site name expect step row (Written etag) before after are here same asked ans =
    let q = asked.0 in
    (WrittenBy q.0 etag ∷ ds, written_done c key k ds q.0 site etag name expect step row before after are here asked.1 q.1.0 q.1.1 same ans.0 ans.1)
write_at c key k ds site name expect step row Changed before after are here same asked ans =
    (ds, idle c key ds site (WriteRow k expect step row) Changed after are (subst (λ t. SiteStands key t (after_transitions unused ds) site) (sym ans.1) here) (λ _. tt) (λ rows _. tt) (λ v b x i. refl))
write_at c key k ds site name expect step row Failed before after are here same asked (inl ans) =
    (ds, idle c key ds site (WriteRow k expect step row) Failed after are (subst (λ t. SiteStands key t (after_transitions unused ds) site) (sym ans) here) (λ _. tt) (λ rows _. tt) (λ v b x i. refl))
write_at c key k ds site name expect step row Failed before after are here same asked (inr ans) =
    let q = asked.0 in
    (FailedBy q.0 ans.0 ∷ ds, failed_done c key k ds q.0 site ans.0 name expect step row before after are here asked.1 q.1.0 q.1.1 same ans.1 ans.2)
write_at c key k ds site name expect step row reply before after are here same asked ans = absurd ans

-- a request of another object
other_idle : (c : Config) (key : List ℕ) (ds : List Transition) (site : ℕ) (op : Op) (reply : Reply) (before after : Told) → AreTransitions c unused ds → SiteStands key before (after_transitions unused ds) site → (key_asked op ≡ key → ⊥) → ((v : ℕ) (b : BallotAt) (x : Name) (i : ℕ) → has_cast (casts_in site op reply) key v b x i ≡ false) → after ≡ before → (more : List Transition) × IsDone c key ds more site op reply after
other_idle c key ds site op reply before after are here none plain same =
    (ds, idle c key ds site op reply after are (subst (λ t. SiteStands key t (after_transitions unused ds) site) (sym same) here) (λ e. absurd (none e)) (λ rows e. absurd (none e)) plain)

read_other : (c : Config) (key k : List ℕ) (ds : List Transition) (site : ℕ) (reply : Reply) (before after : Told) → AreTransitions c unused ds → SiteStands key before (after_transitions unused ds) site → (k ≡ key → ⊥) → same_key k key ≡ false → Answers before (ReadRow k) reply after → (more : List Transition) × IsDone c key ds more site (ReadRow k) reply after
read_other c key k ds site (Row etag row) before after are here none apart ans = other_idle c key ds site (ReadRow k) (Row etag row) before after are here none (λ v b x i. other_casts site k key row v b x i apart) ans.1
read_other c key k ds site NoRow before after are here none apart ans = other_idle c key ds site (ReadRow k) NoRow before after are here none (λ v b x i. refl) ans.1
read_other c key k ds site Failed before after are here none apart ans = other_idle c key ds site (ReadRow k) Failed before after are here none (λ v b x i. refl) ans
read_other c key k ds site reply before after are here none apart ans = absurd ans

write_other : (c : Config) (key k : List ℕ) (ds : List Transition) (site : ℕ) (expect : Option ℕ) (step : RowStep) (row : RowAt) (reply : Reply) (before after : Told) → AreTransitions c unused ds → SiteStands key before (after_transitions unused ds) site → (k ≡ key → ⊥) → same_key k key ≡ false → Answers before (WriteRow k expect step row) reply after
    → (more : List Transition) × IsDone c key ds more site (WriteRow k expect step row) reply after
write_other c key k ds site expect step row (Written etag) before after are here none apart ans = (Elsewhere site etag ∷ ds, elsewhere_done c key k ds site etag (WriteRow k expect step row) (Written etag) row before after are here apart none (λ v b x i. other_casts site k key row v b x i apart) ans.1)
write_other c key k ds site expect step row Changed before after are here none apart ans = other_idle c key ds site (WriteRow k expect step row) Changed before after are here none (λ v b x i. refl) ans.1
write_other c key k ds site expect step row Failed before after are here none apart (inl ans) = other_idle c key ds site (WriteRow k expect step row) Failed before after are here none (λ v b x i. refl) ans
write_other c key k ds site expect step row Failed before after are here none apart (inr ans) = (Elsewhere site ans.0 ∷ ds, elsewhere_done c key k ds site ans.0 (WriteRow k expect step row) Failed row before after are here apart none (λ v b x i. refl) ans.2)
write_other c key k ds site expect step row reply before after are here none apart ans = absurd ans

-- an operation on a blob
rows_stand : (key : List ℕ) (before after : Told) (st : Store) (site : ℕ) → IsSameRows before after → SiteStands key before st site → SiteStands key after st site
rows_stand key before after st site same here =
    let kept : after.rows key ≡ before.rows key = ap (λ (rows : List ℕ → Option (ℕ × RowAt)). rows key) same.rows in
    record { stored = here.stored ∙ sym (ap stored_of kept); used = here.used ∙ sym same.top; rule = subst (IfKept IsRow) (sym kept) here.rule }

blob_done : (c : Config) (key : List ℕ) (ds : List Transition) (site : ℕ) (op : Op) (reply : Reply) (before after : Told) → AreTransitions c unused ds → SiteStands key before (after_transitions unused ds) site → is_row_request op ≡ false → casts_in site op reply ≡ [] → Answers before op reply after
    → IsDone c key ds ds site op reply after
blob_done c key ds site op reply before after are here blob none ans =
    let unseen = blob_unseen before after op reply blob ans in
    idle c key ds site op reply after are (rows_stand key before after (after_transitions unused ds) site (blob_leaves before after op reply blob ans) here)
    (λ _. subst (SeenStands (after_transitions unused ds) site) (sym unseen) tt) (λ rows _. subst (λ o. IsRowIn site o rows) (sym unseen) tt) (λ v b x i. ap (λ cs. has_cast cs key v b x i) none)

-- what a site does at a request
pub site_done : (c : Config) (key : List ℕ) (ds : List Transition) (site : ℕ) (name : Name) (op : Op) (reply : Reply) (before after : Told) → AreTransitions c unused ds → SiteStands key before (after_transitions unused ds) site
    → (key_asked op ≡ key → AskedHere name site op (after_transitions unused ds) × IfWritten IsRow op) → Answers before op reply after → (more : List Transition) × IsDone c key ds more site op reply after
site_done c key ds site name (ReadRow k) reply before after are here asked ans = elim (key_cases k key) [
  | inl same ↦ read_at c key k ds site reply before after are here same ans
  | inr apart ↦ read_other c key k ds site reply before after are here apart.0 apart.1 ans
]
site_done c key ds site name (WriteRow k expect step row) reply before after are here asked ans = elim (key_cases k key) [
  | inl same ↦ write_at c key k ds site name expect step row reply before after are here same (asked same) ans
  | inr apart ↦ write_other c key k ds site expect step row reply before after are here apart.0 apart.1 ans
]
site_done c key ds site name op reply before after are here asked ans = (ds, blob_done c key ds site op reply before after are here refl refl ans)
