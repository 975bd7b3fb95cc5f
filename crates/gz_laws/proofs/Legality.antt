-- The history of a world that is reached is legal.
use Rattle.std.proofs.Common.{◌≡◌, ℕ, ◌+◌, ◌<◌, ◌≤◌, inl, inr, List, [], ◌∷◌, ◌++◌, Some, None, true, false, length, refl, ap, sym, ◌∙◌, subst, arith}
use Rattle.std.proofs.lemmas.Bool.{cases_eq, cases_lt, or_cases, or_left, or_right, false≢true}
use Rattle.std.proofs.lemmas.Option.{slice_get_read, get_or_from_slice_get}
use Rattle.std.specs.Prelude.{Option, Contains, ◌==◌, slice_get}
use Rattle.gz_core.specs.Names.{Name}
use Rattle.gz_core.specs.Calls.{key_of}
use Rattle.gz_data.specs.Own.{IsOwn}
use Rattle.gz_core.specs.Values.{name_of}
use Rattle.gz_core.specs.declared.values.Value.{Value}
use Rattle.gz_core.specs.declared.values.Value.TheVariants.{Tomb, Put as PutOf}
use Rattle.gz_round.specs.Shown.{IsValueHeard}
use Rattle.gz_core.specs.Slots.{Act}
use Rattle.gz_core.specs.declared.calls.Answer.{Answer}
use Rattle.gz_core.specs.declared.calls.Answer.TheVariants.{Ok, Thin, Short, Bytes, Incomplete, Gone, Absent, Unborn, Collected, NoQuorum, Contended, Unsure}
use Rattle.gz_core.specs.declared.calls.Call.{Call}
use Rattle.gz_config.specs.declared.Config.{Config}
use Rattle.gz_core.specs.History.{Action, Sent, Trace, is_row_request}
use Rattle.gz_core.specs.declared.calls.Call.TheVariants.{GetAt}
use Rattle.gz_round.specs.Sent.{vote_by, of_step, of_sent, passes_sent, voted, voted_at}
use Rattle.gz_round.specs.Sending.{AreAllowed}
use Rattle.gz_round.specs.Targets.{target_of, IsAskedFor}
use Rattle.gz_round.specs.declared.run.Target.TheVariants.{At}
use Rattle.gz_client.specs.Traces.{IsAnswered, AllKeepRules}
use Rattle.gz_history.specs.Answers.{shows, names, read_from, bytes_read, bytes_written, IsWrite, Writes, MayTakeEffect, IsOfVersion, AnswersAsked}
use Rattle.gz_history.specs.Legal.{IsBefore, IsBeforeEnd, Agree, TakeEffectOnce, ReadsAWrite, ReturnWritten, IsLegal}
use Rattle.gz_history.specs.declared.record.CallRec.{CallRec}
use Rattle.gz_ledger.specs.Histories.{RowSeen, Write, IsIn, IsShownByRows, VotesFor}
use Rattle.gz_ledger.specs.Transitions.{Transition, Reads, Begins, Written, Failed, Elsewhere, AreTransitions, seen_after, sent_after}
use Rattle.gz_ledger.proofs.Shown.{shown_more}
use Rattle.gz_ledger.proofs.Stores.{store_agreed, early_transitions}
use Rattle.gz_laws.specs.Heard.{unused}
use Rattle.gz_laws.specs.Carried.{ActionsCarried, TracesCarried, AreCarried}
use Rattle.gz_laws.specs.Each.{EachTrace}
use Rattle.gz_laws.specs.Given.{GivesBack, AreGivenBack}
use Rattle.gz_client.specs.Blobs.{sends_op, has_asked}
use Rattle.gz_core.specs.declared.requests.Op.{Op}
use Rattle.gz_core.specs.declared.requests.Op.TheVariants.{ReadRow, WriteRow}
use Rattle.gz_laws.specs.Listed.{IsTraceOf, IsAmong, AreCallsListed}
use Rattle.gz_laws.specs.Placed.{ArePlaced}
use Rattle.gz_world.specs.Reached.{IsReached, AllTell}
use Rattle.gz_laws.specs.Recorded.{IsNamedIn, TracesRecorded, AreRecorded}
use Rattle.gz_laws.specs.Valued.{IsGiven, AreValued}
use Rattle.gz_laws.specs.Runs.{IsSender, IsSentBy, IsRun}
use Rattle.gz_world.specs.States.{RequestAt, State}
use Rattle.gz_laws.proofs.Agreeing.{agreed, shown_positive, keeps_order}
use Rattle.gz_laws.proofs.Keeping.{sent_most}
use Rattle.gz_laws.proofs.Listing.{among_name}
use Rattle.gz_world.proofs.Places.{get_below}
use Rattle.gz_laws.proofs.RunAnswers.{call_trace, call_told}
use Rattle.gz_laws.proofs.Sending.{sent_votes}
use Rattle.gz_laws.proofs.Carrying.{carried}
use Rattle.gz_laws.proofs.GivenBack.{one_named, given_back}
use Rattle.gz_laws.proofs.Listing.{listed}
use Rattle.gz_laws.proofs.Placing.{placed}
use Rattle.gz_laws.proofs.Recording.{recorded}
use Rattle.gz_laws.proofs.Running.{runs}
use Rattle.gz_laws.proofs.Values.{heard_given}
use Rattle.gz_laws.proofs.Valuing.{valued, net_given}
use Rattle.gz_laws.proofs.Owning.{own_of, own_named, own_put, own_tomb, no_write}

pub contains_get : {A : Type 0} (xs : List A) (x : A) → Contains xs x → (i : ℕ) × (slice_get xs i ≡ Some x)
contains_get xs x h = (h.0, slice_get_read xs (length xs) h.0 x refl h.1 (sym h.2))

pub get_contains : {A : Type 0} (xs : List A) (i : ℕ) (x : A) → slice_get xs i ≡ Some x → Contains xs x
get_contains xs i x h = (i, get_below xs i x h, get_or_from_slice_get xs i x x h)

-- what is known of a world and of one of its objects
pub record IsKnownRun (key : List ℕ) (s : State) (ds : List Transition) : Type 0 where
  pub run : IsRun key s ds
  pub listed : AreCallsListed s
  pub carries : AreCarried s
  pub placed : ArePlaced s
  pub recorded : AreRecorded s
  pub valued : AreValued s

pub agree : (key : List ℕ) (s : State) (ds : List Transition) (i j : ℕ) (a b : CallRec) → IsKnownRun key s ds → slice_get s.calls i ≡ Some a → slice_get s.calls j ≡ Some b → key_of a.call ≡ key → key_of b.call ≡ key → Agree a b
agree key s ds i j a b k ga gb ka kb = λ v x y sa sb na nb.
    let ta = call_told key s ds a v (call_trace key s ds i a k.run k.listed k.carries ga ka) sa in
    let tb = call_told key s ds b v (call_trace key s ds j b k.run k.listed k.carries gb kb) sb in
    (agreed key s ds k.placed k.run).one v x y (ta.named x na) (tb.named y nb)

pub take_effect_once : (key : List ℕ) (s : State) (ds : List Transition) (i j : ℕ) (a b : CallRec) → IsKnownRun key s ds → slice_get s.calls i ≡ Some a → slice_get s.calls j ≡ Some b → key_of a.call ≡ key → key_of b.call ≡ key → TakeEffectOnce a b
take_effect_once key s ds i j a b k ga gb ka kb = λ x v w na nb sa sb.
    let ta = call_told key s ds a v (call_trace key s ds i a k.run k.listed k.carries ga ka) sa in
    let tb = call_told key s ds b w (call_trace key s ds j b k.run k.listed k.carries gb kb) sb in
    (agreed key s ds k.placed k.run).once v w x (ta.named x na) (tb.named x nb)

-- the record of the call that sent a write
sender_record : (calls : List CallRec) (key : List ℕ) (name : Name) (act : Act) (ts : List Trace) → TracesRecorded calls ts → IsSentBy key name act ts → IsNamedIn calls name
sender_record calls key name act [] recorded h = absurd h
sender_record calls key name act (t ∷ ts) recorded (inl h) = (recorded.0.0, recorded.0.1, recorded.0.2, recorded.0.3 ∙ h.name_is)
sender_record calls key name act (t ∷ ts) recorded (inr h) = sender_record calls key name act ts recorded.1 h

-- and its trace
pub record IsSenderOf (c : Config) (net : List RequestAt) (key : List ℕ) (call : CallRec) (act : Act) : Type 0 where
  pub past : List Trace
  pub trace : Trace
  pub is : IsTraceOf c call past trace
  pub carried : ActionsCarried c.n net trace.caller.name trace.actions
  pub sender : IsSender key call.name act trace

sender_trace : (c : Config) (net : List RequestAt) (session : ℕ) (key : List ℕ) (call : CallRec) (act : Act) (ts : List Trace) → AllKeepRules c session ts → TracesCarried c.n net ts → IsAmong c call ts → IsSentBy key call.name act ts → IsSenderOf c net key call act
sender_trace c net session key call act [] told carried among h = absurd h
sender_trace c net session key call act (t ∷ ts) told carried (inl e) (inl h) = record { past = ts; trace = t; is = e; carried = carried.0; sender = h }
sender_trace c net session key call act (t ∷ ts) told carried (inl e) (inr h) =
    let most = sent_most c session key call.name act ts told.2 h in
    let seq : call.name.seq ≡ length ts + 1 = ap (λ (x : Name). x.seq) (sym e.name_is ∙ told.1) in
    absurd (omega (arith, most, seq))
sender_trace c net session key call act (t ∷ ts) told carried (inr e) (inl h) =
    let most = (among_name c session call ts told.2 e).1 in
    let seq : call.name.seq ≡ length ts + 1 = ap (λ (x : Name). x.seq) (sym h.name_is ∙ told.1) in
    absurd (omega (arith, most, seq))
sender_trace c net session key call act (t ∷ ts) told carried (inr e) (inr h) = sender_trace c net session key call act ts told.2 carried.1 e h

-- the call of the history that sent a write
pub record IsSenderIn (key : List ℕ) (s : State) (q : Write) : Type 0 where
  pub place : ℕ
  pub call : CallRec
  pub there : slice_get s.calls place ≡ Some call
  pub name_is : call.name ≡ q.call
  pub sends : IsSenderOf s.cfg s.net key call q.act

pub sender_in : (key : List ℕ) (s : State) (ds : List Transition) (q : Write) → IsKnownRun key s ds → IsIn q (sent_after unused ds) → IsSenderIn key s q
sender_in key s ds q k found =
    let by = k.run.sent q found in
    let n = sender_record s.calls key q.call q.act (s.traces q.call.session) (k.recorded q.call.session) by in
    let session = n.1.name.session in
    let own : IsSentBy key n.1.name q.act (s.traces session) = subst (λ (y : Name). IsSentBy key y q.act (s.traces y.session)) (sym n.3) by in
    record {
      place = n.0;
      call = n.1;
      there = n.2;
      name_is = n.3;
      sends = sender_trace s.cfg s.net session key n.1 q.act (s.traces session) (k.listed.told session) (k.carries session) (k.listed.traces n.0 n.1 n.2) own;
    }

-- a call that voted for its own value at a version voted for it
any_vote : (o : Option ℕ) (u : ℕ) → passes_sent (λ q. q == u) o ≡ true → passes_sent (λ (q : ℕ). true) o ≡ true
any_vote None u h = cc
any_vote (Some q) u h = refl

voted_some : (x : Name) (ms : List Action) (u : ℕ) → voted_at x ms u ≡ true → voted x ms ≡ true
voted_some x [] u h = cc
voted_some x (m ∷ ms) u h = elim (or_cases (passes_sent (λ q. q == u) (of_sent (vote_by x) m)) (voted_at x ms u) h) [
  | inl e ↦ or_left (passes_sent (λ (q : ℕ). true) (of_sent (vote_by x) m)) (voted x ms) (any_vote (of_sent (vote_by x) m) u e)
  | inr e ↦ or_right (passes_sent (λ (q : ℕ). true) (of_sent (vote_by x) m)) (voted x ms) (voted_some x ms u e)
]

-- it asked for a row,
cast_op : (x : Name) (op : Op) → passes_sent (λ (q : ℕ). true) (of_step (vote_by x) op) ≡ true → is_row_request op ≡ true
cast_op x (WriteRow key expect step row) h = refl
cast_op x (ReadRow key) h = refl
cast_op x op h = cc

cast_row : (x : Name) (m : Action) → passes_sent (λ (q : ℕ). true) (of_sent (vote_by x) m) ≡ true → sends_op is_row_request m ≡ true
cast_row x (Sent a) h = cast_op x a.op h
cast_row x m h = cc

voted_asked : (x : Name) (ms : List Action) → voted x ms ≡ true → has_asked ms ≡ true
voted_asked x [] h = cc
voted_asked x (m ∷ ms) h = elim (or_cases (passes_sent (λ (q : ℕ). true) (of_sent (vote_by x) m)) (voted x ms) h) [
  | inl e ↦ or_left (sends_op is_row_request m) (has_asked ms) (cast_row x m e)
  | inr e ↦ or_right (sends_op is_row_request m) (has_asked ms) (voted_asked x ms e)
]

-- and does not answer that it took no effect
effect_of : (c : Config) (past : List Trace) (t : Trace) (answer : Option Answer) → IsAnswered c past t answer → voted t.caller.name t.actions ≡ true → MayTakeEffect answer
effect_of c past t None h v = tt
effect_of c past t (Some (Ok version)) h v = tt
effect_of c past t (Some (Thin version told)) h v = tt
effect_of c past t (Some (Short told)) h v = let bad = voted_asked t.caller.name t.actions v in absurd (false≢true (sym h.1.unasked ∙ bad))
effect_of c past t (Some (Bytes version name bytes)) h v = tt
effect_of c past t (Some (Incomplete version name fates)) h v = tt
effect_of c past t (Some (Gone version name)) h v = tt
effect_of c past t (Some Absent) h v = tt
effect_of c past t (Some (Unborn latest)) h v = tt
effect_of c past t (Some (Collected floor)) h v = tt
effect_of c past t (Some (NoQuorum phase heard)) h v = let bad : true ≡ false = sym v ∙ h.1.0 in cc
effect_of c past t (Some (Contended met)) h v = let bad : true ≡ false = sym v ∙ h.1.0 in cc
effect_of c past t (Some (Unsure why)) h v = tt
effect_of c past t (Some answer) h v = absurd h

-- the rows that transitions showed before are among those that they showed later
early_seen : (late early : List Transition) (e : RowSeen) → IsIn e (seen_after unused early) → IsIn e (seen_after unused (late ++ early))
early_seen [] early e h = h
early_seen (Reads s ∷ late) early e h = inr (early_seen late early e h)
early_seen (Begins heard a ∷ late) early e h = early_seen late early e h
early_seen (Written a t ∷ late) early e h = inr (early_seen late early e h)
early_seen (Failed a t ∷ late) early e h = early_seen late early e h
early_seen (Elsewhere s t ∷ late) early e h = early_seen late early e h

-- what the answer of a call that reads shows: a value that was heard, and so what a call of that value writes
pub record IsReading (c : Config) (t : Trace) (answer : Option Answer) (x : Name) : Type 0 where
  pub version : ℕ
  pub value : Value
  pub shows_it : shows answer ≡ Some version
  pub names_it : (own : Name) → names own answer ≡ Some x
  pub reads : t.caller.own ≡ None
  pub named : name_of value ≡ x
  pub heard : IsValueHeard t.actions version value
  pub writes : (name : Name) (call : Call) → IsOwn c name call (Some value) → Writes answer call

pub reading : (c : Config) (past : List Trace) (t : Trace) (answer : Option Answer) (x : Name) → IsAnswered c past t answer → read_from answer ≡ Some x → IsReading c t answer x
reading c past t None x h e = cc
reading c past t (Some (Ok version)) x h e = cc
reading c past t (Some (Thin version told)) x h e = cc
reading c past t (Some (Short told)) x h e = cc
reading c past t (Some (Bytes version name bytes)) x h e =
    let named : name ≡ x = cc in
    record {
      version = version;
      value = PutOf h.1.0;
      shows_it = refl;
      names_it = λ own. e;
      reads = h.1.2.reads;
      named = h.1.1 ∙ named;
      heard = h.1.2.heard;
      writes = λ own call is. own_put c own call h.1.0 is;
    }
reading c past t (Some (Incomplete version name fates)) x h e =
    let named : name ≡ x = cc in
    record {
      version = version;
      value = PutOf h.1.0;
      shows_it = refl;
      names_it = λ own. e;
      reads = h.1.2.reads;
      named = h.1.1 ∙ named;
      heard = h.1.2.heard;
      writes = λ own call is. own_put c own call h.1.0 is;
    }
reading c past t (Some (Gone version name)) x h e =
    let named : name ≡ x = cc in
    record {
      version = version;
      value = Tomb name;
      shows_it = refl;
      names_it = λ own. e;
      reads = h.1.reads;
      named = named;
      heard = h.1.heard;
      writes = λ own call is. own_tomb c own name call is;
    }
reading c past t (Some Absent) x h e = cc
reading c past t (Some (Unborn latest)) x h e = cc
reading c past t (Some (Collected floor)) x h e = cc
reading c past t (Some (NoQuorum phase heard)) x h e = cc
reading c past t (Some (Contended met)) x h e = cc
reading c past t (Some (Unsure why)) x h e = cc
reading c past t (Some answer) x h e = absurd h

same_call : (xs : List CallRec) (i j : ℕ) (a b : CallRec) → i ≡ j → slice_get xs i ≡ Some a → slice_get xs j ≡ Some b → a ≡ b
same_call xs i j a b at h k = let both : Some a ≡ Some b = sym h ∙ ap (slice_get xs) at ∙ k in cc

-- a call whose value was shown to one that had ended had begun before that end
not_after : (key : List ℕ) (s : State) (ds : List Transition) (i j v : ℕ) (a b : CallRec) (x : Name) → IsKnownRun key s ds → slice_get s.calls i ≡ Some a → slice_get s.calls j ≡ Some b → key_of a.call ≡ key → key_of b.call ≡ key
    → shows a.answer ≡ Some v → IsShownByRows s.cfg (seen_after unused ds) v x → b.name ≡ x → IsBefore a.end b.begin → ⊥
not_after key s ds i j v a b x k ga gb ka kb shows_it shown name before =
    let since = k.run.calls j b gb kb in
    let early = since.early in
    let late = since.late in
    elim (since.ended i v a ga ka before shows_it) [
      | inl z ↦ (let positive = shown_positive key s ds v x k.listed k.placed k.run shown in omega (arith, z, positive))
      | inr h ↦ (let more : IsShownByRows s.cfg (seen_after unused (late ++ early)) v h.0 = shown_more s.cfg (seen_after unused early) (seen_after unused (late ++ early)) v h.0 (early_seen late early) h.1 in
          let same : h.0 ≡ x = (agreed key s ds k.placed k.run).one v h.0 x (subst (λ (xs : List Transition). IsShownByRows s.cfg (seen_after unused xs) v h.0) (sym since.split) more) shown in
          let before = early_transitions s.cfg unused late early (subst (λ xs. AreTransitions s.cfg unused xs) since.split k.run.transitions) in
          let p = ((store_agreed s.cfg unused early k.placed.config.quorums before).chosen v h.0 h.1).1 in
          since.unsent p.write p.found (p.own ∙ same ∙ sym name))
    ]

began_before : (key : List ℕ) (s : State) (ds : List Transition) (i j v : ℕ) (a b : CallRec) (x own : Name) (o : Option ℕ) → IsKnownRun key s ds → slice_get s.calls i ≡ Some a → slice_get s.calls j ≡ Some b → key_of a.call ≡ key → key_of b.call ≡ key
    → shows a.answer ≡ Some v → IsShownByRows s.cfg (seen_after unused ds) v x → b.name ≡ x → IsOwn s.cfg own a.call None → IsWrite b.call → a.end ≡ o → IsBeforeEnd b.begin o
began_before key s ds i j v a b x own None k ga gb ka kb shows_it shown name reads write e = tt
began_before key s ds i j v a b x own (Some end) k ga gb ka kb shows_it shown name reads write e = elim (cases_lt b.begin end) [
  | inl l ↦ l
  | inr ge ↦ elim (cases_eq end b.begin) [
    | inl same ↦ (let at = k.placed.apart i j a b ga gb (e ∙ ap Some same) in
        absurd (no_write s.cfg own a.call reads (subst (λ (c : CallRec). IsWrite c.call) (sym (same_call s.calls i j a b at ga gb)) write)))
    | inr ne ↦ (let lt : end < b.begin = below end b.begin ge ne in absurd (not_after key s ds i j v a b x k ga gb ka kb shows_it shown name (subst (λ q. IsBefore q b.begin) (sym e) lt)))
  ]
]
  where
    below : (m n : ℕ) → m ≤ n → (m ≡ n → ⊥) → m < n
    below m n le ne = grind arith

-- the value that a call read is the own one of the call that it names
own_read : (s : State) (past : List Trace) (t : Trace) (answer : Option Answer) (x : Name) (j : ℕ) (b : CallRec) → AreCallsListed s → AreValued s → AreAllowed s.cfg t.caller past t.actions → ActionsCarried s.cfg.n s.net t.caller.name t.actions → (r : IsReading s.cfg t answer x) → slice_get s.calls j ≡ Some b → b.name ≡ x → IsOwn s.cfg b.name b.call (Some r.value)
own_read s past t answer x j b listed valued allowed carried r gb name =
    let heard = r.heard in
    let given : IsGiven s.cfg s.calls r.value = (heard_given s.cfg s.calls s.net t.caller past t.actions (net_given s valued) allowed carried heard.0 heard.1 heard.2 r.version r.value heard.3).0 in
    let own : given.1.name ≡ b.name = sym (own_named s.cfg given.1.name given.1.call r.value given.3) ∙ r.named ∙ sym name in
    let same = one_named s given.0 j given.1 b listed given.2 gb own in
    subst (λ (q : CallRec). IsOwn s.cfg q.name q.call (Some r.value)) same given.3

-- the call whose value is shown at a version: a write of the object, in the history, that may have taken effect
pub record IsProposer (key : List ℕ) (s : State) (x : Name) : Type 0 where
  pub place : ℕ
  pub call : CallRec
  pub there : slice_get s.calls place ≡ Some call
  pub name_is : call.name ≡ x
  pub key_is : key_of call.call ≡ key
  pub write : IsWrite call.call
  pub effect : MayTakeEffect call.answer

pub proposer : (key : List ℕ) (s : State) (ds : List Transition) (v : ℕ) (x : Name) → IsKnownRun key s ds → IsShownByRows s.cfg (seen_after unused ds) v x → IsProposer key s x
proposer key s ds v x k shown =
    let c = s.cfg in
    let p = ((agreed key s ds k.placed k.run).chosen v x shown).1 in
    let q = p.write in
    let n = sender_in key s ds q k p.found in
    let b = n.call in
    let name : b.name ≡ x = n.name_is ∙ p.own in
    let so = n.sends in
    let t = so.trace in
    let call : t.caller.call ≡ b.call = so.is.call_is in
    let cast : VotesFor q.act v t.caller.name = subst (VotesFor q.act v) (sym (so.sender.name_is ∙ name)) p.votes in
    record {
      place = n.place;
      call = b;
      there = n.there;
      name_is = name;
      key_is = sym (ap key_of call) ∙ so.sender.key_is;
      write = subst IsWrite call (so.sender.write v (subst (VotesFor q.act v) (sym name) p.votes));
      effect = effect_of c so.past t b.answer (subst (IsAnswered c so.past t) so.is.answer so.is.told.answered) (voted_some t.caller.name t.actions v (sent_votes t.actions q.act v t.caller.name so.sender.sent cast));
    }

-- the call that an answer names is in the history, and writes what was read
pub reads_a_write : (key : List ℕ) (s : State) (ds : List Transition) (i : ℕ) (a : CallRec) → IsKnownRun key s ds → slice_get s.calls i ≡ Some a → key_of a.call ≡ key → ReadsAWrite s.calls a
reads_a_write key s ds i a k ga ka = λ x from.
    let c = s.cfg in
    let h = call_trace key s ds i a k.run k.listed k.carries ga ka in
    let r = reading c h.past h.trace a.answer x (subst (IsAnswered c h.past h.trace) h.is.answer h.is.told.answered) from in
    let v = r.version in
    let shown = (call_told key s ds a v h r.shows_it).named x (r.names_it a.name) in
    let w = proposer key s ds v x k shown in
    let b = w.call in
    let own : a.call ≡ h.trace.caller.call = sym h.is.call_is in
    let value = own_read s h.past h.trace a.answer x w.place b k.listed k.valued h.is.told.allowed h.carried r w.there w.name_is in (
      b,
      (
        get_contains s.calls w.place b w.there,
        record {
          name = w.name_is;
          key = w.key_is ∙ sym ka;
          write = r.writes b.name b.call value;
          began = began_before key s ds i w.place v a b x h.trace.caller.name a.end k ga w.there ka w.key_is r.shows_it shown w.name_is (subst (λ (q : Call). IsOwn c h.trace.caller.name q None) (sym own) (own_of c h.trace.caller None h.is.told.own r.reads)) w.write refl;
          effect = w.effect;
        },
      ),
    )

-- the trace of a call has what each trace has
among_each : (P : Trace → Type 0) (c : Config) (call : CallRec) (ts : List Trace) → IsAmong c call ts → EachTrace P ts → (past : List Trace) × ((t : Trace) × (IsTraceOf c call past t × P t))
among_each P c call [] h each = absurd h
among_each P c call (t ∷ ts) (inl h) each = (ts, (t, (h, each.0)))
among_each P c call (t ∷ ts) (inr h) each = among_each P c call ts h each.1

-- an answer that returns bytes
bytes_answered : (answer : Option Answer) (x : Name) (bytes : List ℕ) → read_from answer ≡ Some x → bytes_read answer ≡ Some bytes → (v : ℕ) × (answer ≡ Some (Bytes v x bytes))
bytes_answered (Some (Bytes v name read)) x bytes from is =
    let named : name ≡ x = cc in
    let same : read ≡ bytes = cc in
    (v, ap (λ (y : Name). Some (Bytes v y read)) named ∙ ap (λ (bs : List ℕ). Some (Bytes v x bs)) same)
bytes_answered answer x bytes from is = cc

-- a call that reads returns the bytes of the put that it names
pub returns_written : (s : State) (i j : ℕ) (a b : CallRec) → AreCallsListed s → AreGivenBack s → slice_get s.calls i ≡ Some a → slice_get s.calls j ≡ Some b → ReturnWritten a b
returns_written s i j a b listed given ga gb = λ bytes from read.
    let answered = bytes_answered a.answer b.name bytes from read in
    let k = among_each (GivesBack s.calls) s.cfg a (s.traces a.name.session) (listed.traces i a ga) (given a.name.session) in
    let put = k.1.1.1 answered.0 b.name bytes (k.1.1.0.answer ∙ answered.1) in
    let same = one_named s put.place j put.call b listed put.there gb put.name_is in
    ap (λ (q : CallRec). bytes_written q.call) (sym same) ∙ ap bytes_written put.put

-- what is known of a world that is reached
pub known_run : (key : List ℕ) (s : State) (ds : List Transition) → IsRun key s ds → IsReached s → AllTell s → IsKnownRun key s ds
known_run key s ds run reached tell = record { run = run; listed = listed s reached; carries = carried s reached; placed = placed s reached; recorded = recorded s reached; valued = valued s reached tell }

pub known : (key : List ℕ) (s : State) → IsReached s → AllTell s → (ds : List Transition) × IsKnownRun key s ds
known key s reached tell = let k = runs key s reached tell in (k.0, known_run key s k.0 k.1 reached tell)

-- what is told of a version that is asked for by its number is about that version
same_asked : (version asked : ℕ) (call : Call) (key : List ℕ) → call ≡ GetAt key asked → target_of call ≡ At version → version ≡ asked
same_asked version asked call key is e = let both : At version ≡ At asked = sym e ∙ ap target_of is in cc

of_version : (c : Config) (past : List Trace) (t : Trace) (key : List ℕ) (asked : ℕ) (answer : Option Answer) → t.caller.call ≡ GetAt key asked → IsAnswered c past t answer → IsOfVersion asked answer
of_version c past t key asked (Some (Bytes version name bytes)) is h = (subst (λ q. IsAskedFor c (target_of q) t.actions version) is h.1.2.asked).0
of_version c past t key asked (Some (Incomplete version name fates)) is h = (subst (λ q. IsAskedFor c (target_of q) t.actions version) is h.1.2.asked).0
of_version c past t key asked (Some (Gone version name)) is h = (subst (λ q. IsAskedFor c (target_of q) t.actions version) is h.1.asked).0
of_version c past t key asked (Some (Unborn latest)) is h = let same = same_asked h.1.version asked t.caller.call key is h.1.asked in let above = h.1.above in omega (arith, same, above)
of_version c past t key asked (Some (Collected floor)) is h = let same = same_asked h.1.version asked t.caller.call key is h.1.asked in let gone = h.1.gone in omega (arith, same, gone)
of_version c past t key asked answer is h = tt

keeps_asked : (c : Config) (past : List Trace) (t : Trace) (call : Call) (answer : Option Answer) → t.caller.call ≡ call → IsAnswered c past t answer → AnswersAsked call answer
keeps_asked c past t (GetAt key version) answer is h = of_version c past t key version answer is h
keeps_asked c past t call answer is h = tt

pub legal : (s : State) → IsReached s → AllTell s → IsLegal s.calls
legal s reached tell = record {
  agreement = λ a b ca cb same.
      let k = known (key_of a.call) s reached tell in
      let x = contains_get s.calls a ca in
      let y = contains_get s.calls b cb in
      agree (key_of a.call) s k.0 x.0 y.0 a b k.1 x.1 y.1 refl (sym same);
  once = λ a b ca cb same.
      let k = known (key_of a.call) s reached tell in
      let x = contains_get s.calls a ca in
      let y = contains_get s.calls b cb in
      take_effect_once (key_of a.call) s k.0 x.0 y.0 a b k.1 x.1 y.1 refl (sym same);
  order = λ a b ca cb same.
      let k = known (key_of a.call) s reached tell in
      let x = contains_get s.calls a ca in
      let y = contains_get s.calls b cb in
      keeps_order (key_of a.call) s k.0 x.0 y.0 a b k.1.run k.1.listed k.1.carries k.1.placed x.1 y.1 refl (sym same);
  sources = λ a ca.
      let k = known (key_of a.call) s reached tell in
      let x = contains_get s.calls a ca in
      reads_a_write (key_of a.call) s k.0 x.0 a k.1 x.1 refl;
  values = λ a b ca cb same.
      let x = contains_get s.calls a ca in
      let y = contains_get s.calls b cb in
      returns_written s x.0 y.0 a b (listed s reached) (given_back s reached tell) x.1 y.1;
  asked = λ a ca.
      let k = known (key_of a.call) s reached tell in
      let x = contains_get s.calls a ca in
      let h = call_trace (key_of a.call) s k.0 x.0 a k.1.run k.1.listed k.1.carries x.1 refl in
      keeps_asked s.cfg h.past h.trace a.call a.answer h.is.call_is (subst (IsAnswered s.cfg h.past h.trace) h.is.answer h.is.told.answered);
}
