-- What a delivery leaves: a reply that reports a fault only where its site counted one, and the other sites as they were.
use Rattle.std.proofs.Common.{◌≡◌, ℕ, ◌+◌, ◌-◌, ◌≤◌, List, [], ◌∷◌, ◌++◌, true, false, Some, None, length, map, ap, sym, ◌∙◌, subst, length-append, arith}
use Rattle.std.specs.Prelude.{Option, is_none, if◌then◌else◌, slice_get, slice_set}
use Rattle.std.proofs.lemmas.Option.{same_Some, some_pair_parts}
use Rattle.gz_core.specs.Causes.{Rose}
use Rattle.gz_core.specs.declared.requests.Reply.{Reply}
use Rattle.gz_core.specs.declared.requests.Reply.TheVariants as replies
use Rattle.gz_site.specs.Many.{faults_at, OthersStay}
use Rattle.gz_site.specs.declared.sites.RowRead.{RowRead}
use Rattle.gz_site.specs.declared.sites.RowRead.TheVariants as reads
use Rattle.gz_site.specs.declared.sites.RowWrite.{RowWrite}
use Rattle.gz_site.specs.declared.sites.RowWrite.TheVariants as writes
use Rattle.gz_world.specs.States.{RequestAt, request_of, numbered, with_reply}
use Rattle.gz_world.specs.Deliveries.{read_reply, write_reply, IsCounted, IsCountedFor, LeavesSites, LeavesOthers, LeavesOthersAt, is_delivery}
use Rattle.gz_world.specs.Steps.{quiet}
use Rattle.gz_world.specs.declared.events.Effect.{Effect}
use Rattle.gz_world.specs.declared.events.Outcome.{Outcome}
use Rattle.gz_world.specs.declared.events.Outcome.TheVariants as outcomes
use Rattle.gz_core.specs.History.{Trace}
use Rattle.gz_site.specs.Told.{Told}
use Rattle.gz_world.specs.Bridge.{state_of}
use Rattle.gz_world.specs.Refusals.{refusal_of}
use Rattle.gz_world.specs.declared.events.Event.{Event}
use Rattle.gz_world.specs.declared.events.Event.TheVariants as events
use Rattle.gz_world.specs.declared.events.Skip.{Skip}
use Rattle.gz_world.specs.declared.events.Skip.TheVariants as skips
use Rattle.gz_world.specs.declared.world.World.{World}
use Rattle.gz_world.proofs.Places.{get_set_same, get_last}
use Rattle.gz_world.proofs.Members.{place_numbered}

-- what a site answered is no fault
pub read_is_no_fault : {S : Type 0} (faults : S → ℕ) (olds : List S) (at : ℕ) (news : List S) (read : RowRead) (reply : Reply) → reply ≡ read_reply read → IsCounted faults olds at news reply
read_is_no_fault faults olds at news (reads.Row etag row) reply is = λ e. let bad : replies.Row etag row ≡ replies.Failed = sym is ∙ e in cc
read_is_no_fault faults olds at news reads.NoRow reply is = λ e. let bad : replies.NoRow ≡ replies.Failed = sym is ∙ e in cc

pub write_is_no_fault : {S : Type 0} (faults : S → ℕ) (olds : List S) (at : ℕ) (news : List S) (written : RowWrite) (reply : Reply) → reply ≡ write_reply written → IsCounted faults olds at news reply
write_is_no_fault faults olds at news (writes.Written etag) reply is = λ e. let bad : replies.Written etag ≡ replies.Failed = sym is ∙ e in cc
write_is_no_fault faults olds at news writes.Changed reply is = λ e. let bad : replies.Changed ≡ replies.Failed = sym is ∙ e in cc

-- the last of a list by its number
last_numbered : {A : Type 0} (xs : List A) (x : A) → numbered (xs ++ x ∷ []) (length (xs ++ x ∷ [])) ≡ Some x
last_numbered xs x =
    let n : length (xs ++ x ∷ []) ≡ length xs + 1 = length-append xs (x ∷ []) in
    let at : length xs + 1 - 1 ≡ length xs = omega arith in
    ap (numbered (xs ++ x ∷ [])) n ∙ place_numbered (xs ++ x ∷ []) (length xs + 1) x (omega arith) (ap (slice_get (xs ++ x ∷ [])) at ∙ get_last xs x)

-- a reply that was kept by a delivery
pub fault_kept : {S : Type 0} (faults : S → ℕ) (old new : World S) (n : ℕ) (r : RequestAt) (tick : ℕ) (reply : Reply)
    → 1 ≤ n → slice_get (map request_of old.net.items) (n - 1) ≡ Some r → map request_of new.net.items ≡ slice_set (map request_of old.net.items) (n - 1) (with_reply tick reply r)
    → IsCounted faults old.sites.items r.site new.sites.items reply → IsCountedFor faults old n new
fault_kept faults old new n r tick reply positive here net counted = λ q at there last.
    let marked = with_reply tick reply r in
    let set : numbered (slice_set (map request_of old.net.items) (n - 1) marked) n ≡ Some marked = place_numbered (slice_set (map request_of old.net.items) (n - 1) marked) n marked positive (get_set_same (map request_of old.net.items) (n - 1) r marked here) in
    let both : Some marked ≡ Some q = sym set ∙ ap (λ xs. numbered xs n) (sym net) ∙ there in
    let same : q ≡ marked = cc in
    let site : q.site ≡ r.site = ap (λ (k : RequestAt). k.site) same in
    let is = some_pair_parts tick at reply replies.Failed (sym (last_numbered r.replies (tick, reply)) ∙ ap (λ (k : RequestAt). numbered k.replies (length k.replies)) (sym same) ∙ last) in
    subst (λ k. Rose (faults_at faults old.sites.items k) (faults_at faults new.sites.items k)) (sym site) (counted is.1)

-- what holds after an event, where it was a delivery
abbrev pub IsCountedAfter : {S : Type 0} → (S → ℕ) → World S → Event → World S → Type 0
IsCountedAfter faults old event new = (n : ℕ) → event ≡ events.Deliver n → IsCountedFor faults old n new

pub delivery_counts : {S : Type 0} (faults : S → ℕ) (old new : World S) (event : Event) (m : ℕ) → event ≡ events.Deliver m → IsCountedFor faults old m new → IsCountedAfter faults old event new
delivery_counts faults old new event m is h = λ n e.
    let both : events.Deliver m ≡ events.Deliver n = sym is ∙ e in
    let same : m ≡ n = cc in
    subst (λ k. IsCountedFor faults old k new) same h

-- an event that delivers nothing
pub other_counts : {S : Type 0} (faults : S → ℕ) (old new : World S) (event other : Event) → event ≡ other → is_delivery other ≡ false → IsCountedAfter faults old event new
other_counts faults old new event other is none = λ n e.
    let bad : true ≡ false = sym (ap is_delivery e) ∙ ap is_delivery is ∙ none in
    cc

-- a delivery that was skipped
pub skipped_counts : {S : Type 0} (told : S → Option Told) (faults : S → ℕ) (w : World S) (traces : ℕ → List Trace) (event : Event) (why : Skip) → Some why ≡ refusal_of (state_of told traces w) event → IsCountedAfter faults w event w
skipped_counts told faults w traces event why is = λ n e r tick there last.
    let none : refusal_of (state_of told traces w) (events.Deliver n) ≡ None = ap (λ o. if is_none o then Some skips.NoRequest else None) there in
    let bad : Some why ≡ None = is ∙ ap (refusal_of (state_of told traces w)) e ∙ none in
    cc

-- what comes after, and leaves sites and requests alone
pub counted_then : {S : Type 0} (faults : S → ℕ) (old mid new : World S) (n : ℕ) → new.net ≡ mid.net → new.sites ≡ mid.sites → IsCountedFor faults old n mid → IsCountedFor faults old n new
counted_then faults old mid new n net sites h = λ r tick there last.
    subst (λ v. Rose (faults_at faults old.sites.items r.site) (faults_at faults v.items r.site)) (sym sites) (h r tick (ap (λ v. numbered (map request_of v.items) n) (sym net) ∙ there) last)

-- a delivery that is done reaches a site
pub delivery_reaches : (event : Event) (n : ℕ) (effect : Effect) (session : Option ℕ) → event ≡ events.Deliver n → effect ≡ quiet outcomes.Done session → LeavesSites event effect.outcome → ⊥
delivery_reaches event n effect session e q l = subst (λ (o : Outcome). LeavesSites (events.Deliver n) o) (ap (λ (x : Effect). x.outcome) q) (subst (λ (ev : Event). LeavesSites ev effect.outcome) e l)

-- ---- a delivery touches the site of its request alone

pub others_of : {S : Type 0} (old new : World S) (n : ℕ) (r : RequestAt) → numbered (map request_of old.net.items) n ≡ Some r → OthersStay old.sites.items r.site new.sites.items → LeavesOthers old n new
others_of old new n r there stay = λ q here i off.
    stay i (λ e. off (e ∙ ap (λ (k : RequestAt). k.site) (same_Some r q (sym there ∙ here))))

pub delivery_leaves : {S : Type 0} (old new : World S) (event : Event) (m : ℕ) → event ≡ events.Deliver m → LeavesOthers old m new → LeavesOthersAt old event new
delivery_leaves old new event m is h = λ n e.
    let both : events.Deliver m ≡ events.Deliver n = sym is ∙ e in
    let same : m ≡ n = cc in
    subst (λ k. LeavesOthers old k new) same h

-- an event that delivers nothing
pub other_leaves : {S : Type 0} (old new : World S) (event other : Event) → event ≡ other → is_delivery other ≡ false → LeavesOthersAt old event new
other_leaves old new event other is none = λ n e.
    let bad : true ≡ false = sym (ap is_delivery e) ∙ ap is_delivery is ∙ none in
    cc

-- what comes before and after, and leaves sites and requests alone
pub leaves_between : {S : Type 0} (old start mid new : World S) (event : Event) → start.net ≡ old.net → start.sites ≡ old.sites → new.sites ≡ mid.sites → LeavesOthersAt start event mid → LeavesOthersAt old event new
leaves_between old start mid new event net before after h = λ n e r there i off.
    ap (λ v. slice_get v.items i) after ∙ h n e r (ap (λ v. numbered (map request_of v.items) n) net ∙ there) i off ∙ ap (λ v. slice_get v.items i) before
