-- The calls of a world can be told by a log: each is within the bounds that a log has.
use Rattle.std.proofs.Common.{◌≡◌, ℕ, suc, ◌+◌, ◌≤◌, ◌<◌, ◌*◌, ◌^◌, ◌⊎◌, inl, inr, List, [], ◌∷◌, Bool, Some, None, true, false, length, refl, ap, sym, ◌∙◌, subst, arith}
use Rattle.std.proofs.lemmas.Bool.{or_cases}
use Rattle.std.proofs.lemmas.List.Elements.{All-cons, All-nil}
use Rattle.std.specs.List.{All}
use Rattle.std.specs.Prelude.{Option, if◌then◌else◌, is_some, slice_get}
use Rattle.gz_config.specs.declared.Config.{Config}
use Rattle.gz_core.proofs.Ballots.{name_means}
use Rattle.gz_core.proofs.Counting.{count_most}
use Rattle.gz_core.specs.Names.{Name, same_name}
use Rattle.gz_core.specs.Puts.{PutData}
use Rattle.gz_core.specs.declared.calls.Answer.{Answer}
use Rattle.gz_core.specs.declared.calls.Answer.TheVariants.{Ok, Thin, Short, Bytes, Incomplete, Gone, Absent, Unborn, Collected, NoQuorum, Contended, Unsure}
use Rattle.gz_core.specs.declared.calls.UnsureWhy.{UnsureWhy}
use Rattle.gz_core.specs.declared.calls.UnsureWhy.TheVariants.{NoQuorum as UnsureNoQuorum, Contended as UnsureContended, Trimmed as UnsureTrimmed}
use Rattle.gz_core.specs.declared.calls.Call.{Call}
use Rattle.gz_core.specs.declared.calls.Call.TheVariants.{Put, Delete, Get, GetAt, Collect}
use Rattle.gz_core.specs.declared.fates.Fate.{Fate}
use Rattle.gz_core.specs.declared.requests.Op.{Op}
use Rattle.gz_core.specs.declared.requests.Op.TheVariants.{ReadRow, WriteRow}
use Rattle.gz_core.specs.declared.requests.RowStep.{RowStep}
use Rattle.gz_core.specs.declared.requests.RowStep.TheVariants.{FastVote, Promise, ClassicVote, Decide, Trim}
use Rattle.gz_core.specs.declared.values.Value.{Value}
use Rattle.gz_core.specs.declared.values.Value.TheVariants.{Put as PutOf, Tomb}
use Rattle.gz_core.specs.Values.{name_of}
use Rattle.gz_core.specs.History.{Action, Sent, Handed, GaveUp, Rested, GaveIn, Trace, is_row_request}
use Rattle.gz_data.specs.Blobs.{stores, stored}
use Rattle.gz_round.specs.Causes.{IsLearnt, IsValueHeard, UnsureCause}
use Rattle.gz_round.specs.Counting.{known_count}
use Rattle.gz_round.specs.Sending.{AreAllowed, MayAsk, MayMake}
use Rattle.gz_round.specs.Shown.{IsShown, HasFloor}
use Rattle.gz_round.specs.Sent.{of_step, passes_sent, vote_by, voted, met, overtakes}
use Rattle.gz_round.specs.Sites.{SiteNow, site_now, known as known_row}
use Rattle.gz_round.specs.Starting.{IsWithin}
use Rattle.gz_round.specs.Targets.{target_of}
use Rattle.gz_round.specs.declared.run.Target.TheVariants.{Latest, At}
use Rattle.gz_client.specs.Blobs.{is_put}
use Rattle.gz_client.specs.Causes.{HasCause}
use Rattle.gz_client.specs.Traces.{IsAnswered, AllKeepRules}
use Rattle.gz_history.specs.Answers.{IsWrite}
use Rattle.gz_history.specs.declared.record.CallRec.{CallRec}
use Rattle.gz_logs.specs.Fitting.{IsCount, IsVersion, IsName, IsObject, AreFates, IsArgument, IsAnswer, IsAnswerOf, IsUnsure, IsEnded, IsCall, FitsLog, told_of}
use Rattle.gz_logs.specs.Kinds.{kind_of, may_answer}
use Rattle.gz_logs.specs.declared.kinds.Kind.{Kind}
use Rattle.gz_logs.specs.declared.kinds.Kind.TheVariants as kinds
use Rattle.gz_logs.specs.declared.kinds.Told.{Told}
use Rattle.gz_logs.specs.declared.kinds.Told.TheVariants as told
use Rattle.gz_world.specs.Reached.{IsReached, AllTell}
use Rattle.gz_world.specs.States.{State}
use Rattle.gz_laws.specs.Bounded.{IsRowWithin}
use Rattle.gz_laws.specs.Carried.{ActionsCarried, TracesCarried}
use Rattle.gz_laws.specs.Each.{EachTrace}
use Rattle.gz_laws.specs.Given.{GivesBack, AreGivenBack}
use Rattle.gz_laws.specs.Listed.{IsTraceOf, IsAmong}
use Rattle.gz_laws.specs.Logged.{IsTyped, AreTyped}
use Rattle.gz_laws.specs.Placed.{ArePlaced}
use Rattle.gz_laws.specs.Rows.{EachRow}
use Rattle.gz_laws.specs.Valued.{IsGiven}
use Rattle.gz_laws.proofs.Bounding.{AreHeardWithin, heard_within, shown_within, floor_low}
use Rattle.gz_laws.proofs.GivenBack.{IsKnownWorld, known, one_named, put_call, given_of_heard, learnt_given, given_back}
use Rattle.gz_laws.proofs.Listing.{among_name}
use Rattle.gz_laws.proofs.Owning.{own_of, own_named, own_writes, no_write}
use Rattle.gz_laws.proofs.Placing.{placed, history}
use Rattle.gz_laws.proofs.RunAnswers.{asked_positive}
use Rattle.gz_laws.proofs.Sending.{last_vote_above}
use Rattle.gz_laws.proofs.Tallies.{noted, NotesFew, AreFew, are_few, names_open}
use Rattle.gz_laws.proofs.WorldBounds.{by_events}

-- ---- counts of a call

met_noted : (ms : List Action) → met ms ≤ noted ms
met_noted [] = omega arith
met_noted (Sent a ∷ ms) = met_noted ms
met_noted (Handed a reply ∷ ms) = let low = met_noted ms in by_case (overtakes (Handed a reply)) (met ms) (noted ms) low
  where
    by_case : (b : Bool) (x y : ℕ) → x ≤ y → (if b then x + 1 else x) ≤ y + 1
    by_case true x y low = omega (arith, low)
    by_case false x y low = omega (arith, low)
met_noted (GaveUp a ∷ ms) = let low = met_noted ms in omega (arith, low)
met_noted (Rested ∷ ms) = met_noted ms
met_noted (GaveIn ∷ ms) = met_noted ms

stored_noted : (ms : List Action) → stored ms ≤ noted ms
stored_noted [] = omega arith
stored_noted (Sent a ∷ ms) = stored_noted ms
stored_noted (Handed a reply ∷ ms) = let low = stored_noted ms in by_case (stores (Handed a reply)) (stored ms) (noted ms) low
  where
    by_case : (b : Bool) (x y : ℕ) → x ≤ y → (if b then x + 1 else x) ≤ y + 1
    by_case true x y low = omega (arith, low)
    by_case false x y low = omega (arith, low)
stored_noted (GaveUp a ∷ ms) = let low = stored_noted ms in omega (arith, low)
stored_noted (Rested ∷ ms) = stored_noted ms
stored_noted (GaveIn ∷ ms) = stored_noted ms

-- ---- kinds of calls

write_ok : (call : Call) → IsWrite call → may_answer (kind_of call) told.Ok ≡ true
write_ok (Put key bytes) h = refl
write_ok (Delete key) h = refl
write_ok call h = absurd h

write_unsure : (call : Call) → IsWrite call → may_answer (kind_of call) told.Unsure ≡ true
write_unsure (Put key bytes) h = refl
write_unsure (Delete key) h = refl
write_unsure call h = absurd h

put_kind : (call : Call) → is_put call ≡ true → kind_of call ≡ kinds.Put
put_kind (Put key bytes) h = refl
put_kind call h = cc

get_kind : (call : Call) → IsWithin call → (IsWrite call → ⊥) → target_of call ≡ Latest → kind_of call ≡ kinds.Get
get_kind (Put key bytes) within none latest = absurd (none tt)
get_kind (Delete key) within none latest = absurd (none tt)
get_kind (Get key) within none latest = refl
get_kind (GetAt key version) within none latest = cc
get_kind (Collect key keep) within none latest = absurd within

at_kind : (call : Call) (version : ℕ) → target_of call ≡ At version → kind_of call ≡ kinds.GetAt
at_kind (GetAt key asked) version at = refl
at_kind (Put key bytes) version at = cc
at_kind (Delete key) version at = cc
at_kind (Get key) version at = cc
at_kind (Collect key keep) version at = cc

-- a call that reads has each answer that both kinds of reads have
read_may : (call : Call) (what : Told) → IsWithin call → (IsWrite call → ⊥) → may_answer kinds.Get what ≡ true → may_answer kinds.GetAt what ≡ true → may_answer (kind_of call) what ≡ true
read_may (Put key bytes) what within none latest at = absurd (none tt)
read_may (Delete key) what within none latest at = absurd (none tt)
read_may (Get key) what within none latest at = latest
read_may (GetAt key version) what within none latest at = at
read_may (Collect key keep) what within none latest at = absurd within

any_noquorum : (kind : Kind) → may_answer kind told.NoQuorum ≡ true
any_noquorum kinds.Put = refl
any_noquorum kinds.Delete = refl
any_noquorum kinds.Get = refl
any_noquorum kinds.GetAt = refl
any_noquorum kinds.Collect = refl

any_contended : (kind : Kind) → may_answer kind told.Contended ≡ true
any_contended kinds.Put = refl
any_contended kinds.Delete = refl
any_contended kinds.Get = refl
any_contended kinds.GetAt = refl
any_contended kinds.Collect = refl

argument_fits : (call : Call) → IsWithin call → IsTyped call → IsArgument call
argument_fits (Put key bytes) within typed = record { bounded = within; bytes_are = typed.bytes }
argument_fits (Delete key) within typed = tt
argument_fits (Get key) within typed = tt
argument_fits (GetAt key version) within typed = record { begun = within; bounded = typed.version }
argument_fits (Collect key keep) within typed = absurd within

-- ---- one call

-- what is known of a world whose calls a log tells
record IsLoggable (s : State) : Type 0 where
  pub known : IsKnownWorld s
  pub few : AreFew (length s.journal) s
  pub bounded : length s.journal ≤ 4000000
  pub rows : EachRow (IsRowWithin (length s.journal) (16 * length s.journal)) s
  pub back : AreGivenBack s
  pub placed : ArePlaced s
  pub typed : AreTyped s.calls

-- the trace of a call, with its counts
record IsTalliedIn (s : State) (c : CallRec) : Type 0 where
  pub past : List Trace
  pub trace : Trace
  pub is : IsTraceOf s.cfg c past trace
  pub low : noted trace.actions ≤ length s.journal
  pub carried : ActionsCarried s.cfg.n s.net trace.caller.name trace.actions
  pub back : GivesBack s.calls trace

tallied : (s : State) (c : CallRec) (ts : List Trace) → IsAmong s.cfg c ts → EachTrace (NotesFew (length s.journal)) ts → TracesCarried s.cfg.n s.net ts → EachTrace (GivesBack s.calls) ts → IsTalliedIn s c
tallied s c [] h few carried back = absurd h
tallied s c (t ∷ ts) (inl h) few carried back = record { past = ts; trace = t; is = h; low = few.0; carried = carried.0; back = back.0 }
tallied s c (t ∷ ts) (inr h) few carried back = tallied s c ts h few.1 carried.1 back.1

module _ (s : State) (g : IsLoggable s) where
  -- each call of the history has a name within bounds
  name_fits : (i : ℕ) (c : CallRec) → slice_get s.calls i ≡ Some c → IsName c.name
  name_fits i c there =
      let among = g.known.listed.traces i c there in
      let session = c.name.session in
      let told = g.known.listed.told session in
      let seq = (among_name s.cfg session c (s.traces session) told among).1 in
      let open_at = names_open s.cfg s.sessions session c (s.traces session) among (g.few.are_open session) in
      let above = open_at.0 in
      let below = open_at.1 in
      let most = g.few.sessions in
      let len = g.few.traces session in
      let low = g.bounded in
      let first = names_first s.cfg session c (s.traces session) told among in
      record { session = above; session_bounded = omega (arith, below, most, low); seq = first; seq_bounded = omega (arith, seq, len, low) }
    where
      names_first : (cfg : Config) (session : ℕ) (c : CallRec) (ts : List Trace) → AllKeepRules cfg session ts → IsAmong cfg c ts → 1 ≤ c.name.seq
      names_first cfg session c [] told h = absurd h
      names_first cfg session c (t ∷ ts) told (inl h) = (let q : c.name.seq ≡ length ts + 1 = ap (λ (x : Name). x.seq) (sym h.name_is ∙ told.1) in omega (arith, q))
      names_first cfg session c (t ∷ ts) told (inr h) = names_first cfg session c ts told.2 h

  given_name : (x : Value) → IsGiven s.cfg s.calls x → IsName (name_of x)
  given_name x given = subst IsName (sym (own_named s.cfg given.1.name given.1.call x given.3)) (name_fits given.0 given.1 given.2)

  within_of : (i : ℕ) (c : CallRec) → slice_get s.calls i ≡ Some c → IsWithin c.call
  within_of i c there = (tallied s c (s.traces c.name.session) (g.known.listed.traces i c there) (g.few.notes c.name.session) (g.known.carries c.name.session) (g.back c.name.session)).is.within

  module _ (i : ℕ) (c : CallRec) (there : slice_get s.calls i ≡ Some c) (k : IsTalliedIn s c) where
    heard_writes : (ks : List Action) (v : ℕ) (x : Value) → AreAllowed s.cfg k.trace.caller k.past ks → ActionsCarried s.cfg.n s.net k.trace.caller.name ks → IsValueHeard ks v x → name_of x ≡ k.trace.caller.name → IsWrite c.call
    heard_writes ks v x allowed carried heard name =
        let given = given_of_heard s k.trace.caller k.past ks v x g.known allowed carried heard in
        let same = one_named s given.0 i given.1 c g.known.listed given.2 there (sym (own_named s.cfg given.1.name given.1.call x given.3) ∙ name ∙ k.is.name_is) in
        subst (λ (q : CallRec). IsWrite q.call) same (own_writes s.cfg given.1.name given.1.call x given.3)

    own_write : (x : Value) → k.trace.caller.own ≡ Some x → IsWrite c.call
    own_write x e = subst IsWrite k.is.call_is (own_writes s.cfg k.trace.caller.name k.trace.caller.call x (own_of s.cfg k.trace.caller (Some x) k.is.told.own e))

    named_vote : (b : Bool) (v : ℕ) → passes_sent (λ (u : ℕ). true) (if b then Some v else None) ≡ true → b ≡ true
    named_vote true v e = refl
    named_vote false v e = cc

    step_writes : (ks : List Action) (step : RowStep) → AreAllowed s.cfg k.trace.caller k.past ks → ActionsCarried s.cfg.n s.net k.trace.caller.name ks → MayMake s.cfg k.trace.caller k.past ks step → passes_sent (λ (u : ℕ). true) (vote_by k.trace.caller.name step) ≡ true → IsWrite c.call
    step_writes ks (FastVote v x) allowed carried may e = own_write x may.0
    step_writes ks (Promise v b) allowed carried may e = cc
    step_writes ks (ClassicVote v b x) allowed carried may e = elim may.known [
      | inl own ↦ own_write x own
      | inr heard ↦ heard_writes ks v x allowed carried heard (name_means (name_of x) k.trace.caller.name (named_vote (same_name (name_of x) k.trace.caller.name) v e))
    ]
    step_writes ks (Decide v x) allowed carried may e = cc
    step_writes ks (Trim to x) allowed carried may e = cc

    op_writes : (ks : List Action) (now : SiteNow) (op : Op) → AreAllowed s.cfg k.trace.caller k.past ks → ActionsCarried s.cfg.n s.net k.trace.caller.name ks → MayAsk s.cfg k.trace.caller k.past ks now op → passes_sent (λ (u : ℕ). true) (of_step (vote_by k.trace.caller.name) op) ≡ true → IsWrite c.call
    op_writes ks now (WriteRow key expect step row) allowed carried may e = step_writes ks step allowed carried may.1.guard e
    op_writes ks now (ReadRow key) allowed carried may e = cc
    op_writes ks now op allowed carried may e = absurd may

    votes_row : (op : Op) → passes_sent (λ (u : ℕ). true) (of_step (vote_by k.trace.caller.name) op) ≡ true → is_row_request op ≡ true
    votes_row (WriteRow key expect step row) e = refl
    votes_row (ReadRow key) e = refl
    votes_row op e = cc

    voted_writes : (ks : List Action) → AreAllowed s.cfg k.trace.caller k.past ks → ActionsCarried s.cfg.n s.net k.trace.caller.name ks → voted k.trace.caller.name ks ≡ true → IsWrite c.call
    voted_writes [] allowed carried e = cc
    voted_writes (Sent a ∷ ks) allowed carried e = elim (or_cases (passes_sent (λ (u : ℕ). true) (of_step (vote_by k.trace.caller.name) a.op)) (voted k.trace.caller.name ks) e) [
      | inl f ↦ op_writes ks (site_now ks a.site) a.op allowed.1 carried.1 (allowed.0 (votes_row a.op f)).asks f
      | inr f ↦ voted_writes ks allowed.1 carried.1 f
    ]
    voted_writes (Handed a reply ∷ ks) allowed carried e = voted_writes ks allowed.1 carried.1 e
    voted_writes (GaveUp a ∷ ks) allowed carried e = voted_writes ks allowed.1 carried.1 e
    voted_writes (Rested ∷ ks) allowed carried e = voted_writes ks allowed.1 carried.1 e
    voted_writes (GaveIn ∷ ks) allowed carried e = voted_writes ks allowed.1 carried.1 e

    -- what a call is told that learnt a value
    version_fits : (v : ℕ) (x : Name) → IsShown s.cfg k.trace.actions v x → IsVersion v
    version_fits v x shown =
        let heard : AreHeardWithin (length s.journal) (16 * length s.journal) k.trace.actions = heard_within (length s.journal) (16 * length s.journal) s k.trace.caller.name k.trace.actions g.rows k.carried in
        let r = shown_within (length s.journal) (16 * length s.journal) s.cfg k.trace.actions v x g.known.config heard shown in
        let below = r.below in
        let low = g.bounded in
        record { begun = r.above; bounded = omega (arith, below, low) }

    -- and the floor of a row that it heard
    floor_fits : (floor : ℕ) → 1 ≤ floor → HasFloor s.cfg k.trace.actions floor → IsVersion floor
    floor_fits floor positive has =
        let heard : AreHeardWithin (length s.journal) (16 * length s.journal) k.trace.actions = heard_within (length s.journal) (16 * length s.journal) s k.trace.caller.name k.trace.actions g.rows k.carried in
        let below = floor_low (length s.journal) (16 * length s.journal) s.cfg k.trace.actions floor heard has in
        let low = g.bounded in
        record { begun = positive; bounded = omega (arith, below, low) }

    latest_fits : (latest : ℕ) → (latest ≡ 0) ⊎ ((x : Name) × IsShown s.cfg k.trace.actions latest x) → latest < 2 ^ 63
    latest_fits latest (inl none) = omega (arith, none)
    latest_fits latest (inr shown) = (version_fits latest shown.0 shown.1).bounded

    no_writer : k.trace.caller.own ≡ None → IsWrite c.call → ⊥
    no_writer none write = no_write s.cfg k.trace.caller.name k.trace.caller.call (own_of s.cfg k.trace.caller None k.is.told.own none) (subst IsWrite (sym k.is.call_is) write)

    reads : (what : Told) → k.trace.caller.own ≡ None → may_answer kinds.Get what ≡ true → may_answer kinds.GetAt what ≡ true → may_answer (kind_of c.call) what ≡ true
    reads what none latest at = read_may c.call what k.is.within (no_writer none) latest at

    latest_kind : k.trace.caller.own ≡ None → target_of k.trace.caller.call ≡ Latest → kind_of c.call ≡ kinds.Get
    latest_kind none latest = get_kind c.call k.is.within (no_writer none) (ap target_of (sym k.is.call_is) ∙ latest)

    version_kind : (version : ℕ) → target_of k.trace.caller.call ≡ At version → kind_of c.call ≡ kinds.GetAt
    version_kind version at = at_kind c.call version (ap target_of (sym k.is.call_is) ∙ at)

    asked_above : (version : ℕ) → target_of k.trace.caller.call ≡ At version → 1 ≤ version
    asked_above version at = asked_positive c.call version k.is.within (ap target_of (sym k.is.call_is) ∙ at)

    puts_kind : is_put k.trace.caller.call ≡ true → kind_of c.call ≡ kinds.Put
    puts_kind put = put_kind c.call (subst (λ (q : Call). is_put q ≡ true) k.is.call_is put)

    count_fits : (n : ℕ) → n ≤ noted k.trace.actions → IsCount n
    count_fits n le = let low = k.low in let most = g.bounded in omega (arith, le, low, most)

    known_fits : (n : ℕ) → n ≡ known_count s.cfg k.trace.actions → IsCount n
    known_fits n e =
        let most = count_most s.cfg.n (λ q. is_some (known_row (site_now k.trace.actions q))) in
        let sites = g.known.config.sites in
        omega (arith, e, most, sites)

    learnt_name : (v : ℕ) (x : Value) → IsLearnt s.cfg k.trace.caller k.trace.actions v x → IsName (name_of x)
    learnt_name v x learnt = given_name x (learnt_given s k.past k.trace v x g.known k.is.told.allowed k.carried learnt)

    object_fits : (v : ℕ) (name : Name) (bytes : List ℕ) → k.trace.answer ≡ Some (Bytes v name bytes) → IsObject bytes
    object_fits v name bytes e =
        let put = k.back v name bytes e in
        let within = subst IsWithin put.put (within_of put.place put.call put.there) in
        let typed = subst IsTyped put.put (g.typed put.place put.call put.there) in
        record { bounded = within; bytes_are = typed.bytes }

    fates_fit : (v : ℕ) (x : PutData) (fates : List Fate) → IsLearnt s.cfg k.trace.caller k.trace.actions v (PutOf x) → length fates ≡ x.k + x.m → AreFates fates
    fates_fit v x fates learnt count =
        let given = learnt_given s k.past k.trace v (PutOf x) g.known k.is.told.allowed k.carried learnt in
        let put = put_call s.cfg given.1.name given.1.call x given.3 in
        let first : x.k ≡ s.cfg.k = ap (λ (y : PutData). y.k) put.own.2 in
        let more : x.m ≡ s.cfg.m = ap (λ (y : PutData). y.m) put.own.2 in
        let some = g.known.config.split in
        let pieces = g.known.config.pieces in
        let sites = g.known.config.sites in
        record { some = omega (arith, count, first, more, some); bounded = omega (arith, count, first, more, pieces, sites) }

    by_kind : (kind : Kind) (answer : Answer) → kind_of c.call ≡ kind → may_answer kind (told_of answer) ≡ true → IsAnswer answer → IsAnswerOf (kind_of c.call) answer
    by_kind kind answer is may bounded = record { kind_is = ap (λ (q : Kind). may_answer q (told_of answer)) is ∙ may; bounded = bounded }

    unsure_fits : (why : UnsureWhy) → UnsureCause s.cfg k.trace.caller k.trace.actions why → IsUnsure why
    unsure_fits (UnsureNoQuorum phase heard) cause = known_fits heard cause.heard_is
    unsure_fits (UnsureContended m) cause = let e = cause.1 in let le = met_noted k.trace.actions in count_fits m (omega (arith, e, le))
    unsure_fits (UnsureTrimmed floor) cause =
        let first = last_vote_above s.cfg k.trace.caller k.past k.trace.actions k.trace.caller.name cause.1.version k.is.told.allowed cause.1.voted in
        let gone = cause.1.gone in
        floor_fits floor (omega (arith, first, gone)) cause.1.heard

    answer_fits : (answer : Answer) → k.trace.answer ≡ Some answer → HasCause s.cfg k.trace.caller k.trace.actions answer → IsAnswerOf (kind_of c.call) answer
    answer_fits (Ok v) e h = record { kind_is = write_ok c.call (own_write h.1.chosen.0 h.1.chosen.1); bounded = version_fits v k.trace.caller.name h.1.chosen.2 }
    answer_fits (Thin v n) e h =
        let few = h.2.few in
        let spare = g.known.config.spare in
        let pieces = g.known.config.pieces in
        let sites = g.known.config.sites in
        by_kind kinds.Put (Thin v n) (puts_kind h.2.put) refl (version_fits v k.trace.caller.name h.1.chosen.2, omega (arith, few, spare, pieces, sites))
    answer_fits (Short n) e h = let is = h.2 in let le = stored_noted k.trace.actions in by_kind kinds.Put (Short n) (puts_kind h.1.put) refl (count_fits n (omega (arith, is, le)))
    answer_fits (Bytes v name bytes) e h = record {
      kind_is = reads told.Bytes h.1.2.reads refl refl;
      bounded = (version_fits v h.1.0.name h.1.2.shown, subst IsName h.1.1 (learnt_name v (PutOf h.1.0) h.1.2), object_fits v name bytes e);
    }
    answer_fits (Incomplete v name fates) e h = record {
      kind_is = reads told.Incomplete h.1.2.reads refl refl;
      bounded = (version_fits v h.1.0.name h.1.2.shown, subst IsName h.1.1 (learnt_name v (PutOf h.1.0) h.1.2), fates_fit v h.1.0 fates h.1.2 h.1.3.0.count);
    }
    answer_fits (Gone v name) e h = record { kind_is = reads told.Gone h.1.reads refl refl; bounded = (version_fits v name h.1.shown, learnt_name v (Tomb name) h.1) }
    answer_fits Absent e h = by_kind kinds.Get Absent (latest_kind h.1.reads h.1.asked) refl tt
    answer_fits (Unborn latest) e h = by_kind kinds.GetAt (Unborn latest) (version_kind h.1.version h.1.asked) refl (latest_fits latest h.1.shown)
    answer_fits (Collected floor) e h =
        let first = asked_above h.1.version h.1.asked in
        let gone = h.1.gone in
        by_kind kinds.GetAt (Collected floor) (version_kind h.1.version h.1.asked) refl (floor_fits floor (omega (arith, first, gone)) h.1.heard)
    answer_fits (NoQuorum phase heard) e h = record { kind_is = any_noquorum (kind_of c.call); bounded = known_fits heard h.1.1.heard_is }
    answer_fits (Contended m) e h = let is = h.1.1.1 in let le = met_noted k.trace.actions in record { kind_is = any_contended (kind_of c.call); bounded = count_fits m (omega (arith, is, le)) }
    answer_fits (Unsure why) e h = record { kind_is = write_unsure c.call (voted_writes k.trace.actions k.is.told.allowed k.carried h.1.0); bounded = unsure_fits why h.1.1 }
    answer_fits answer e h = absurd h

    ended_fits : (end : Option ℕ) (answer : Option Answer) → c.end ≡ end → c.answer ≡ answer → is_some end ≡ is_some answer → IsEnded (kind_of c.call) end answer
    ended_fits None None a b same = tt
    ended_fits None (Some answer) a b same = cc
    ended_fits (Some end) None a b same = cc
    ended_fits (Some end) (Some answer) a b same =
        let over = g.placed.over i end c there a in
        let low = g.bounded in
        let is = k.is.answer ∙ b in
        (omega (arith, over, low), answer_fits answer is (subst (IsAnswered s.cfg k.past k.trace) is k.is.told.answered))

    call_fits : IsCall c
    call_fits =
        let began = g.placed.began i c there in
        let low = g.bounded in
        record {
          name = name_fits i c there;
          key = (g.typed i c there).key;
          argument = argument_fits c.call k.is.within (g.typed i c there);
          begin = omega (arith, began, low);
          ended = ended_fits c.end c.answer refl refl (g.placed.answered i c there);
        }

-- what holds of each element holds of all
each_of : {A : Type 0} (P : A → Type 0) (xs : List A) → ((i : ℕ) (x : A) → slice_get xs i ≡ Some x → P x) → All P xs
each_of P [] f = All-nil P
each_of P (x ∷ xs) f = All-cons P x xs (f 0 x refl) (each_of P xs (λ i y h. f (suc i) y h))

loggable : (s : State) → IsReached s → AllTell s → length s.journal ≤ 4000000 → AreTyped s.calls → IsLoggable s
loggable s reached tells bounded typed = record {
  known = known s reached tells;
  few = are_few s reached;
  bounded = bounded;
  rows = (by_events s reached tells).rows;
  back = given_back s reached tells;
  placed = placed s reached;
  typed = typed;
}

-- the calls of a world that is reached and whose sites tell what they hold can be told by a log
pub log_fits : (s : State) (skipped : ℕ) → IsReached s → AllTell s → length s.journal ≤ 4000000 → AreTyped s.calls → skipped ≤ length s.journal → FitsLog s.calls (length s.journal) skipped
log_fits s skipped reached tells bounded typed low =
    let g = loggable s reached tells bounded typed in
    let calls = g.few.calls in
    record {
      history = history s reached;
      each = each_of IsCall s.calls (λ i c there. call_fits s g i c there (tallied s c (s.traces c.name.session) (g.known.listed.traces i c there) (g.few.notes c.name.session) (g.known.carries c.name.session) (g.back c.name.session)));
      counted = omega (arith, calls, bounded);
      events_counted = omega (arith, bounded);
      skipped_counted = omega (arith, low, bounded);
    }
