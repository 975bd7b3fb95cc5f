-- The lines of a schedule, one event after another.
use Rattle.std.proofs.Common.{ℕ, ◌≡◌, ◌+◌, ◌≤◌, ◌<◌, List, [], ◌∷◌, ◌++◌, length, map, take, get_or, inl, inr, refl, ap, sym, subst, ◌∙◌, arith, add-one}
use Rattle.std.specs.Prelude.{suc, Option, Some, None, Result, OnOk, IfErr, option_map}
use Rattle.std.proofs.lemmas.List.{take_more, take_all, take-map, map-append, length-map}
use Rattle.std.proofs.lemmas.Option.{slice_get-get_or, slice_get-map}
use Rattle.gz_core.specs.History.{Trace}
use Rattle.gz_client.specs.Lowest.{IsLowestLive}
use Rattle.gz_site.specs.Told.{Told}
use Rattle.gz_world.specs.Bridge.{state_of}
use Rattle.gz_world.specs.Fits.{Fits}
use Rattle.gz_world.specs.States.{State, request_of}
use Rattle.gz_world.specs.declared.events.ApplyError.{ApplyError}
use Rattle.gz_world.specs.declared.events.Event.{Event}
use Rattle.gz_world.specs.declared.events.Event.TheVariants as events
use Rattle.gz_world.specs.declared.world.World.{World}
use Rattle.gz_lines.specs.declared.line.Line.{Line}
use Rattle.gz_script.specs.Plays.{Happen, StopsAt, HappenInPart, settled, SettlesTimes, Settles, SettlesInPart, waiting, drained, PlaysLine, PlaysLineInPart, Plays, PlaysInPart, ChangesBy}
use Rattle.gz_script.proofs.PlayLemmas.{changes_as, changes_then, happen_as, happen_then, part_stops, first_stops, if_err_map}

-- one more request was settled
pub settle_more : {S : Type 0} (told : S → Option Told) (old mid new : World S) (session : ℕ) (without : List ℕ) (k n : ℕ)
    → ((traces : ℕ → List Trace) → Fits traces mid → IsLowestLive mid.cfg (traces session) (Some n))
    → ChangesBy told (SettlesTimes session without k) old mid → ChangesBy told (λ s. Happen (settled without n s) s) mid new
    → ChangesBy told (SettlesTimes session without (k + 1)) old new
settle_more told old mid new session without k n low a b = λ traces fits.
    let p = a traces fits in
    let q = b p.0 p.1.0 in
    let more : SettlesTimes session without (suc k) (state_of told traces old) (state_of told q.0 new) = (state_of told p.0 mid, (p.1.1, (n, (low p.0 p.1.0, q.1.1)))) in
    (q.0, (q.1.0, subst (λ m. SettlesTimes session without m (state_of told traces old) (state_of told q.0 new)) (sym (add-one k)) more))

-- none is left
pub settle_ends : {S : Type 0} (told : S → Option Told) (old new : World S) (session : ℕ) (without : List ℕ) (k : ℕ) → k ≤ 65536
    → ((traces : ℕ → List Trace) → Fits traces new → IsLowestLive new.cfg (traces session) None)
    → ChangesBy told (SettlesTimes session without k) old new → ChangesBy told (Settles session without) old new
settle_ends told old new session without k few none a = λ traces fits.
    let p = a traces fits in
    (p.0, (p.1.0, (k, (few, (p.1.1, inl (none p.0 p.1.0))))))

-- it was done as often as may be
pub settle_tires : {S : Type 0} (told : S → Option Told) (old new : World S) (session : ℕ) (without : List ℕ) (k : ℕ) → k ≡ 65536
    → ChangesBy told (SettlesTimes session without k) old new → ChangesBy told (Settles session without) old new
settle_tires told old new session without k often a = λ traces fits.
    let p = a traces fits in
    (p.0, (p.1.0, (k, (omega (arith, often), (p.1.1, inr often)))))

-- it was broken off at some request
pub settle_stops : {S : Type 0} (told : S → Option Told) (error : ApplyError) (old mid new : World S) (session : ℕ) (without : List ℕ) (k n : ℕ) → k < 65536
    → ((traces : ℕ → List Trace) → Fits traces mid → IsLowestLive mid.cfg (traces session) (Some n))
    → ChangesBy told (SettlesTimes session without k) old mid → ChangesBy told (λ s. HappenInPart error (settled without n s) s) mid new
    → ChangesBy told (SettlesInPart error session without) old new
settle_stops told error old mid new session without k n few low a b = λ traces fits.
    let p = a traces fits in
    let q = b p.0 p.1.0 in
    (q.0, (q.1.0, (k, (few, (state_of told p.0 mid, (p.1.1, (n, (low p.0 p.1.0, q.1.1))))))))

-- one more delivery
deliveries-more : (ns : List ℕ) (i : ℕ) → i < length ns → take i (map (λ n. events.Deliver n) ns) ++ events.Deliver (get_or ns i 0) ∷ [] ≡ take (i + 1) (map (λ n. events.Deliver n) ns)
deliveries-more ns i h =
    let f : ℕ → Event = λ n. events.Deliver n in
    ap (λ (es : List Event). es ++ events.Deliver (get_or ns i 0) ∷ []) (take-map f i ns)
    ∙ sym (map-append f (take i ns) (get_or ns i 0 ∷ []))
    ∙ ap (map f) (sym (take_more ns i 0 h))
    ∙ sym (take-map f (i + 1) ns)

pub drain_more : {S : Type 0} (told : S → Option Told) (old mid new : World S) (ns : List ℕ) (i : ℕ) → i < length ns
    → ChangesBy told (Happen (take i (map (λ n. events.Deliver n) ns))) old mid → ChangesBy told (Happen (events.Deliver (get_or ns i 0) ∷ [])) mid new
    → ChangesBy told (Happen (take (i + 1) (map (λ n. events.Deliver n) ns))) old new
drain_more told old mid new ns i h =
    changes_then told (Happen (take i (map (λ n. events.Deliver n) ns))) (Happen (events.Deliver (get_or ns i 0) ∷ [])) (Happen (take (i + 1) (map (λ n. events.Deliver n) ns))) old mid new
    (λ traces after z a b. subst (λ (es : List Event). Happen es (state_of told traces old) z) (deliveries-more ns i h)
    (happen_then (take i (map (λ n. events.Deliver n) ns)) (events.Deliver (get_or ns i 0) ∷ []) (state_of told traces old) (state_of told after mid) z a b))

-- all of them
pub drain_ends : {S : Type 0} (told : S → Option Told) (old new : World S) (ns : List ℕ) (i : ℕ) → length ns ≤ i
    → ChangesBy told (Happen (take i (map (λ n. events.Deliver n) ns))) old new → ChangesBy told (Happen (map (λ n. events.Deliver n) ns)) old new
drain_ends told old new ns i h = subst (λ (es : List Event). ChangesBy told (Happen es) old new) (take_all i (map (λ n. events.Deliver n) ns) (subst (λ k. k ≤ i) (sym (length-map ns (λ n. events.Deliver n))) h))

-- deliveries that were broken off
pub drain_stops : {S : Type 0} (told : S → Option Told) (error : ApplyError) (old mid new : World S) (ns : List ℕ) (i : ℕ) → i < length ns
    → ChangesBy told (Happen (take i (map (λ n. events.Deliver n) ns))) old mid → ChangesBy told (StopsAt error (events.Deliver (get_or ns i 0))) mid new
    → ChangesBy told (HappenInPart error (map (λ n. events.Deliver n) ns)) old new
drain_stops told error old mid new ns i within =
    let deliver : ℕ → Event = λ n. events.Deliver n in
    part_stops told (λ s. map deliver ns) error (deliver (get_or ns i 0)) i old mid new
    (λ traces. slice_get-map deliver ns i ∙ ap (λ o. option_map deliver o) (slice_get-get_or ns i 0 within))

-- the deliveries of a line that drains a session
pub drain_as : {S : Type 0} (told : S → Option Told) (old new : World S) (session : ℕ) (ns : List ℕ) → ns ≡ waiting session (map request_of old.net.items)
    → ChangesBy told (Happen (map (λ n. events.Deliver n) ns)) old new → ChangesBy told (λ s. Happen (drained session s) s) old new
drain_as told old new session ns is =
    happen_as told (drained session) (map (λ n. events.Deliver n) ns) old new (λ traces. ap (map (λ n. events.Deliver n)) is)

pub drain_part_as : {S : Type 0} (told : S → Option Told) (error : ApplyError) (old new : World S) (session : ℕ) (ns : List ℕ) → ns ≡ waiting session (map request_of old.net.items)
    → ChangesBy told (HappenInPart error (map (λ n. events.Deliver n) ns)) old new → ChangesBy told (λ s. HappenInPart error (drained session s) s) old new
drain_part_as told error old new session ns is =
    changes_as told (HappenInPart error (map (λ n. events.Deliver n) ns)) (λ s. HappenInPart error (drained session s) s) old new
    (λ traces y h. subst (λ (es : List Event). HappenInPart error es (state_of told traces old) y) (ap (map (λ n. events.Deliver n)) is) h)

-- one more line
plays_then : (lines : List Line) (line : Line) (x y z : State) → Plays lines x y → PlaysLine line y z → Plays (lines ++ line ∷ []) x z
plays_then [] line x y z h k = (z, (subst (λ s. PlaysLine line s z) (sym h) k, refl))
plays_then (l ∷ lines) line x y z h k = (h.0, (h.1.0, plays_then lines line h.0 y z h.1.1 k))

lines-more : (lines : List Line) (i : ℕ) (line : Line) → i < length lines → line ≡ get_or lines i line → take i lines ++ line ∷ [] ≡ take (i + 1) lines
lines-more lines i line h is = ap (λ l. take i lines ++ l ∷ []) is ∙ sym (take_more lines i line h)

pub play_more : {S : Type 0} (told : S → Option Told) (old mid new : World S) (lines : List Line) (i : ℕ) (line : Line) → i < length lines → line ≡ get_or lines i line
    → ChangesBy told (Plays (take i lines)) old mid → ChangesBy told (PlaysLine line) mid new → ChangesBy told (Plays (take (i + 1) lines)) old new
play_more told old mid new lines i line h is =
    changes_then told (Plays (take i lines)) (PlaysLine line) (Plays (take (i + 1) lines)) old mid new
    (λ traces after z a b. subst (λ (ls : List Line). Plays ls (state_of told traces old) z) (lines-more lines i line h is) (plays_then (take i lines) line (state_of told traces old) (state_of told after mid) z a b))

-- all of them
pub play_ends : {S : Type 0} (told : S → Option Told) (old new : World S) (lines : List Line) (i : ℕ) → length lines ≤ i → ChangesBy told (Plays (take i lines)) old new → ChangesBy told (Plays lines) old new
play_ends told old new lines i h = subst (λ (ls : List Line). ChangesBy told (Plays ls) old new) (take_all i lines h)

-- lines that were broken off
pub play_stops : {S : Type 0} (told : S → Option Told) (error : ApplyError) (old mid new : World S) (lines : List Line) (i : ℕ) (line : Line) → i < length lines → line ≡ get_or lines i line
    → ChangesBy told (Plays (take i lines)) old mid → ChangesBy told (PlaysLineInPart error line) mid new → ChangesBy told (PlaysInPart error lines) old new
play_stops told error old mid new lines i line h is =
    changes_then told (Plays (take i lines)) (PlaysLineInPart error line) (PlaysInPart error lines) old mid new
    (λ traces after z a b. (i, (line, (slice_get-get_or lines i line h ∙ ap (λ l. Some l) (sym is), (state_of told after mid, (a, b))))))

-- what a line does, by its kind
pub line_as : {S E : Type 0} (told : S → Option Told) (r : Result Unit E) (line at : Line) (old new : World S) → line ≡ at
    → OnOk r (ChangesBy told (PlaysLine at) old new) → OnOk r (ChangesBy told (PlaysLine line) old new)
line_as told r line at old new is h = subst (λ l. OnOk r (ChangesBy told (PlaysLine l) old new)) (sym is) h

pub line_part_as : {S : Type 0} (told : S → Option Told) (r : Result Unit ApplyError) (line at : Line) (old new : World S) → line ≡ at
    → IfErr r (λ error. ChangesBy told (PlaysLineInPart error at) old new) → IfErr r (λ error. ChangesBy told (PlaysLineInPart error line) old new)
line_part_as told r line at old new is h = subst (λ l. IfErr r (λ error. ChangesBy told (PlaysLineInPart error l) old new)) (sym is) h

-- a line of one event
pub event_part_as : {S : Type 0} (told : S → Option Told) (r : Result Unit ApplyError) (event : Event) (old new : World S)
    → IfErr r (λ error. ChangesBy told (StopsAt error event) old new) → IfErr r (λ error. ChangesBy told (HappenInPart error (event ∷ [])) old new)
event_part_as told r event old new =
    if_err_map r (λ error. ChangesBy told (StopsAt error event) old new) (λ error. ChangesBy told (HappenInPart error (event ∷ [])) old new)
    (λ error. first_stops told (λ s. event ∷ []) error event old new (λ traces. refl))
