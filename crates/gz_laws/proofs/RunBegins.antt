-- A call that begins keeps the run of each object.
use Rattle.std.proofs.Common.{◌≡◌, ℕ, ◌+◌, ◌≤◌, inl, inr, List, [], ◌∷◌, ◌++◌, Some, None, length, refl, ap, sym, ◌∙◌, subst, arith}
use Rattle.std.proofs.lemmas.Bool.{cases_eq}
use Rattle.std.specs.Prelude.{Option, if◌then◌else◌, slice_get}
use Rattle.gz_core.specs.Names.{Name}
use Rattle.gz_core.specs.Calls.{key_of}
use Rattle.gz_core.specs.Slots.{Act}
use Rattle.gz_core.specs.declared.calls.Answer.{Answer}
use Rattle.gz_core.specs.declared.calls.Call.{Call}
use Rattle.gz_core.specs.declared.requests.Out.{Out}
use Rattle.gz_core.specs.declared.requests.Turn.{Turn}
use Rattle.gz_core.specs.declared.values.Value.{Value}
use Rattle.gz_core.specs.History.{Caller, Trace, begun}
use Rattle.gz_round.specs.Sites.{seen_in, written_by}
use Rattle.gz_client.specs.Traces.{AllKeepRules}
use Rattle.gz_history.specs.Answers.{shows}
use Rattle.gz_history.specs.Legal.{IsBefore}
use Rattle.gz_history.specs.declared.record.CallRec.{CallRec}
use Rattle.gz_ledger.specs.Histories.{Write, IsIn, VotesFor}
use Rattle.gz_ledger.specs.Transitions.{Transition, Reads, Begins, Written, Failed, Elsewhere, after_transitions, late_rows, sent_after, AreCurrentTransitions}
use Rattle.gz_world.specs.declared.events.Effect.{Effect}
use Rattle.gz_laws.specs.Begun.{begins_of, IsBegunIn}
use Rattle.gz_laws.specs.Carried.{AreCarried}
use Rattle.gz_laws.specs.Heard.{unused}
use Rattle.gz_laws.specs.Listed.{AreCallsListed}
use Rattle.gz_laws.specs.Placed.{ArePlaced}
use Rattle.gz_laws.specs.Runs.{IsSentBy, IsShownAt, IsSince, IsRun}
use Rattle.gz_world.specs.States.{State, tick_of, next_of, numbered, sent_requests, end_at}
use Rattle.gz_world.specs.Steps.{SessionMoves, BeginsBy}
use Rattle.gz_laws.proofs.Keeping.{keeps_fresh, sent_most}
use Rattle.gz_laws.proofs.Listing.{traces_here, traces_there}
use Rattle.gz_world.proofs.Places.{get_of_two, get_one}
use Rattle.gz_laws.proofs.RunAnswers.{call_shown}
use Rattle.gz_laws.proofs.RunSends.{has_sent, NetFrom, sent_run}
use Rattle.gz_laws.proofs.RunTools.{alike_itself, two_cases, fresh_request, row_in_more, since_on}
use Rattle.gz_laws.proofs.RunTurns.{net_heard}
use Rattle.gz_laws.proofs.Traces.{each_moved}
use Rattle.gz_laws.proofs.Keys.{name_apart}

pub begin_net : (old new : State) (name : Name) (tick : ℕ) (outs : List Out) → new.net ≡ old.net ++ sent_requests name tick outs → NetFrom old.net new.net name tick outs
begin_net old new name tick outs net = λ m q at. elim (two_cases old.net (sent_requests name tick outs) m q (subst (λ xs. numbered xs m ≡ Some q) net at)) [
  | inl e ↦ inl (m, (q, (e, alike_itself q)))
  | inr e ↦ (let k = fresh_request name tick outs e.0 q e.1 in inr (e.0, (k.0, (k.1.0, k.1.1))))
]

-- the name of a call that begins is new
new_name : (old : State) (key : List ℕ) (session : ℕ) (name : Name) (act : Act) → ((n : ℕ) → AllKeepRules old.cfg n (old.traces n)) → name ≡ record { session = session; seq = length (old.traces session) + 1 } → IsSentBy key name act (old.traces name.session) → ⊥
new_name old key session name act told is h =
    let most = sent_most old.cfg name.session key name act (old.traces name.session) (told name.session) h in
    let seq : name.seq ≡ length (old.traces session) + 1 = ap (λ (x : Name). x.seq) is in
    let same : length (old.traces name.session) ≡ length (old.traces session) = ap (λ (x : Name). length (old.traces x.session)) is in
    omega (arith, most, seq, same)

-- a call that sent no write began none
none_begun : (name : Name) (ds : List Transition) → ((q : Write) → IsIn q (sent_after unused ds) → q.call ≡ name → ⊥) → begins_of name ds ≡ []
none_begun name [] unsent = refl
none_begun name (Reads s ∷ ds) unsent = none_begun name ds unsent
none_begun name (Begins heard a ∷ ds) unsent =
    ap (λ b. if b then (heard, a.write.act) ∷ begins_of name ds else begins_of name ds) (name_apart a.write.call name (unsent a.write (inl refl))) ∙ none_begun name ds (λ q i. unsent q (inr i))
none_begun name (Written a e ∷ ds) unsent = none_begun name ds unsent
none_begun name (Failed a e ∷ ds) unsent = none_begun name ds unsent
none_begun name (Elsewhere s e ∷ ds) unsent = none_begun name ds unsent

-- a call that has ended did so before this tick, or began and ended now
not_yet : (tick begin : ℕ) (o : Option Answer) → begin ≤ tick → IsBefore (end_at tick o) begin → ⊥
not_yet tick begin None le h = h
not_yet tick begin (Some answer) le h = omega (arith, le, h)

begin_traces : (old new : State) (session : ℕ) (t : Trace) (key : List ℕ) (name : Name) (act : Act) → SessionMoves old session (t ∷ old.traces session) new → IsSentBy key name act (old.traces name.session) → IsSentBy key name act (new.traces name.session)
begin_traces old new session t key name act moves h = elim (cases_eq name.session session) [
  | inl e ↦ subst (IsSentBy key name act) (sym (ap new.traces e ∙ traces_here old new session (t ∷ old.traces session) moves)) (inr (subst (IsSentBy key name act) (ap old.traces e) h))
  | inr ne ↦ subst (IsSentBy key name act) (sym (traces_there old new session name.session (t ∷ old.traces session) moves ne)) h
]

pub begin_run : (key : List ℕ) (old new : State) (ds : List Transition) (session : ℕ) (call : Call) (own : Option Value) (turn : Turn) (effect : Effect) → BeginsBy old session call own turn effect new → AreCallsListed old → AreCarried old → ArePlaced old → IsRun key old ds → (more : List Transition) × IsRun key new more
begin_run key old new ds session call own turn effect b listed carries placed run =
    let c = old.cfg in
    let past = old.traces session in
    let name : Name = record { session = session; seq = length past + 1 } in
    let w : Caller = record { name = name; call = call; own = own } in
    let first = next_of old in
    let tick = tick_of old in
    let outs = turn.send in
    let t = begun session call own first turn past in
    let fresh : CallRec = record { name = name; call = call; begin = tick; end = end_at tick turn.answer; answer = turn.answer } in
    let s = has_sent c key w past first outs [] ds placed.config.quorums run.transitions (λ _. keeps_fresh c key old.traces (after_transitions unused ds) session w listed.told run.sent refl b.moves.told.0.own) b.moves.told.0.allowed in
    let more = s.0 in
    let sent = s.1 in
    let net = begin_net old new name tick outs b.net in
    let unsent : (q : Write) → IsIn q (sent_after unused ds) → q.call ≡ name → ⊥ = λ q i same. new_name old key session q.call q.act listed.told same (run.sent q i) in
    let ended : (at : ℕ) (early : List Transition) → at ≤ tick → ((i v : ℕ) (a : CallRec) → slice_get old.calls i ≡ Some a → key_of a.call ≡ key → IsBefore a.end at → shows a.answer ≡ Some v → IsShownAt c early v)
    → (i v : ℕ) (a : CallRec) → slice_get new.calls i ≡ Some a → key_of a.call ≡ key → IsBefore a.end at → shows a.answer ≡ Some v → IsShownAt c early v
    = λ at early le all i v a there own ends show. elim (get_of_two old.calls (fresh ∷ []) i a (subst (λ xs. slice_get xs i ≡ Some a) b.calls there)) [
      | inl e ↦ all i v a e own ends show
      | inr e ↦ absurd (not_yet tick at turn.answer le (subst (λ (k : CallRec). IsBefore k.end at) (sym (get_one fresh a e.0 e.1.1).1) ends))
    ] in (
      more,
      sent_run key old new ds more w first tick outs [] b.frame.cfg b.sites net sent
          (λ q i. elim (sent.from q i) [
            | inl h ↦ begin_traces old new session t key q.call q.act b.moves (run.sent q h)
            | inr h ↦ (let at : q.call.session ≡ session = ap (λ (x : Name). x.session) h.call in
                subst (IsSentBy key q.call q.act) (sym (ap new.traces at ∙ traces_here old new session (t ∷ past) b.moves))
                (inl (record {
                  name_is = sym h.call;
                  key_is = h.key_is;
                  sent = h.sent;
                  write = λ v votes. elim (h.vote v (subst (VotesFor q.act v) h.call votes)) [ inl p ↦ absurd (unsent p.write p.found p.own) | inr write ↦ write ];
                })))
          ])
          (each_moved (IsBegunIn key ds) (IsBegunIn key more) old new session t past b.moves listed.told (λ u apart h own. sent.others u.caller.name apart ∙ h own)
          (λ own. sent.own own (none_begun name ds unsent)) (run.begun session) run.begun)
          (λ j d there is. elim (get_of_two old.calls (fresh ∷ []) j d (subst (λ xs. slice_get xs j ≡ Some d) b.calls there)) [
            | inl e ↦ (let since = run.calls j d e is in
                let on = sent.on d.name since.early since.late since.split since.current (λ same own e h. absurd h) in
                let began = placed.began j d e in
                since_on key old new ds more d d b.frame.cfg refl refl since on
                (net_heard key old.net new.net name tick outs d.name (late_rows unused on.later since.early) net
                (λ m i u q reply at asked named e. row_in_more q.site (seen_in (written_by q.op) reply) (late_rows unused since.late since.early) (late_rows unused on.later since.early) on.rows (since.heard m i u q reply at asked named e)))
                (ended d.begin since.early (omega (arith, began)) since.ended))
            | inr e ↦ (let same = (get_one fresh d e.0 e.1.1).1 in
                let on = sent.on name ds [] refl tt (λ _ own e h. absurd h) in
                subst (IsSince new key more) same (record {
                  early = ds;
                  late = on.later;
                  split = on.split;
                  unsent = unsent;
                  current = subst (λ c. AreCurrentTransitions c unused name on.later ds) (sym b.frame.cfg) on.current;
                  heard = net_heard key old.net new.net name tick outs name (late_rows unused on.later ds) net
                      (λ m i u q reply at asked named e.
                      let most = (placed.requests m q at).call in
                      let seq : q.name.seq ≡ length past + 1 = ap (λ (x : Name). x.seq) named in
                      let len : length (old.traces q.name.session) ≡ length past = ap (λ (x : Name). length (old.traces x.session)) named in
                      absurd (omega (arith, most, seq, len)));
                  ended = λ i v a there own ends show. subst (λ c. IsShownAt c ds v) (sym b.frame.cfg)
                      (ended tick ds (omega arith) (λ i v a there own ends show. call_shown key old ds i v a run listed carries there own show) i v a there own ends show);
                }))
          ])
          run,
    )
