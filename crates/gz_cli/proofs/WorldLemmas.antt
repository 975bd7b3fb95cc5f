-- What holds of the world that a run leaves.
use Rattle.std.proofs.Common.{ℕ, zero, suc, ◌≡◌, ◌≤◌, ◌<◌, List, [], ◌∷◌, ◌++◌, length, map, refl, ap, sym, ◌∙◌, subst, arith, inl, inr, false}
use Rattle.std.specs.Prelude.{Option, IfSome, IsSome, option_map, unwrap_or}
use Rattle.gz_config.specs.Configurations.{IsConfig}
use Rattle.gz_config.specs.declared.Config.{Config}
use Rattle.gz_site.specs.Told.{Told, IsEmpty}
use Rattle.gz_site.specs.Many.{told_at}
use Rattle.gz_history.specs.Legal.{IsLegal}
use Rattle.gz_script.specs.Plays.{Plays, PlaysInPart, ChangesBy}
use Rattle.gz_lines.specs.declared.line.Line.{Line}
use Rattle.gz_world.specs.Bridge.{state_of, crashed_in}
use Rattle.gz_world.specs.Opening.{AreEmpty, IsOpened}
use Rattle.gz_world.specs.Reached.{IsOpening, IsReached, opened, stepped, AllTell}
use Rattle.gz_world.specs.States.{State, request_of}
use Rattle.gz_world.specs.Told.{IsReachedBy}
use Rattle.gz_world.specs.declared.events.ApplyError.{ApplyError}
use Rattle.gz_world.specs.declared.world.Member.{Member}
use Rattle.gz_world.specs.declared.world.World.{World}
use Rattle.gz_world.proofs.Members.{numbered_suc}
use Rattle.gz_world.proofs.Opened.{no_traces_yet, fits_opened}
use Rattle.gz_laws.proofs.Agreement.{agreement}
use Rattle.gz_laws.proofs.ByPieces.{by_pieces}
use Rattle.gz_laws.proofs.GivenBack.{given_back}
use Rattle.gz_laws.proofs.OneRegister.{one_register}
use Rattle.gz_laws.proofs.Legality.{legal}
use Rattle.gz_cli.specs.Worlds.{AreFresh, AllTellAt, PlaysSome, IsPlayed, IsFilled, AgreesBy}
use Rattle.gz_cli.specs.declared.status.Status.{Status}
use Rattle.gz_cli.specs.declared.status.Status.TheVariants.{Full}
use Rattle.gz_world.specs.Counting.{IsFull}
use Rattle.gz_cli.proofs.PlayLemmas.{some_lines}
use Rattle.gz_cli.proofs.TellLemmas.{step_config, step_tell}

none_crashed : (xs : List Member) (n : ℕ) → xs ≡ [] → crashed_in xs n ≡ false
none_crashed xs zero e = refl
none_crashed xs (suc n) e = ap (λ ys. crashed_in ys (suc n)) e ∙ ap (λ o. unwrap_or (option_map (λ (k : Member). k.crashed) o) false) (numbered_suc [] n)

-- the state of a world that was opened over fresh sites
opening : {S : Type 0} (cfg : Config) (told : S → Option Told) (sites : List S) (w : World S) → IsConfig cfg → IsOpened cfg sites w → AreFresh told sites → IsOpening (state_of told no_traces_yet w)
opening cfg told sites w rules o fresh = record {
  config = subst IsConfig (sym o.cfg_is) rules;
  sites = λ i. subst (λ xs. IfSome (told_at told xs i) IsEmpty) (sym o.sites_are) (fresh.empty i);
  sessions = ap length o.clients;
  crashed = λ n. none_crashed w.clients.items n o.clients;
  traces = λ n. refl;
  net = ap (map request_of) o.net;
  journal = o.journal;
  casts = o.casts;
  calls = o.calls;
  held = o.held;
}

-- a world that was opened over fresh sites, and changed
pub played : {S : Type 0} (cfg : Config) (told : S → Option Told) (sites : List S) (Change : State → State → Type 0) (old new : World S)
    → IsConfig cfg → IsOpened cfg sites old → AreFresh told sites → ChangesBy told Change old new → IsPlayed cfg told sites Change new
played cfg told sites Change old new rules o fresh changes =
    let many : 16 ≤ length sites = fresh.enough in
    let few : cfg.n ≤ 16 = rules.sites in
    let k = changes no_traces_yet (fits_opened cfg sites old rules (omega arith) o) in
    record {
      start = state_of told no_traces_yet old;
      opening = opening cfg told sites old rules o fresh;
      config = o.cfg_is;
      sites_are = ap (told_at told) o.sites_are;
      traces = k.0;
      fits = k.1.0;
      changes = k.1.1;
    }

-- its state is reached
reached_played : {S : Type 0} (cfg : Config) (told : S → Option Told) (sites : List S) (lines : List Line) (w : World S) (p : IsPlayed cfg told sites (PlaysSome lines) w) → IsReached (state_of told p.traces w)
reached_played cfg told sites lines w p =
    some_lines IsReached (λ old new event step h. stepped old new event h step) lines p.start (state_of told p.traces w) p.changes (opened p.start p.opening)

-- its configuration is the one under which it was opened
config_played : {S : Type 0} (cfg : Config) (told : S → Option Told) (sites : List S) (lines : List Line) (w : World S) (p : IsPlayed cfg told sites (PlaysSome lines) w) → w.cfg ≡ p.start.cfg
config_played cfg told sites lines w p =
    some_lines (λ s. s.cfg ≡ p.start.cfg) (λ old new event step same. step_config old new event step ∙ same) lines p.start (state_of told p.traces w) p.changes refl

-- its sites tell their state, where they did
tells_played : {S : Type 0} (cfg : Config) (told : S → Option Told) (sites : List S) (lines : List Line) (w : World S) (p : IsPlayed cfg told sites (PlaysSome lines) w)
    → AllTellAt told sites w.cfg → AllTell (state_of told p.traces w)
tells_played cfg told sites lines w p tell =
    let start : AllTell p.start = λ i l.
    subst (λ (f : ℕ → Option Told). IsSome (f i)) (sym p.sites_are) (tell i (subst (λ (c : Config). i < c.n) (sym (config_played cfg told sites lines w p)) l)) in
    some_lines AllTell step_tell lines p.start (state_of told p.traces w) p.changes start

pub reached-by : {S : Type 0} (cfg : Config) (told : S → Option Told) (sites : List S) (lines : List Line) (w : World S) → IsPlayed cfg told sites (PlaysSome lines) w → IsReachedBy told w
reached-by cfg told sites lines w p = (p.traces, (p.fits, reached_played cfg told sites lines w p))

-- its history is legal
pub legal-by : {S : Type 0} (cfg : Config) (told : S → Option Told) (sites : List S) (lines : List Line) (w : World S) → IsPlayed cfg told sites (PlaysSome lines) w
    → AllTellAt told sites w.cfg → IsLegal w.calls.items
legal-by cfg told sites lines w p tell = legal (state_of told p.traces w) (reached_played cfg told sites lines w p) (tells_played cfg told sites lines w p tell)

-- there is agreement in it, its gets give what was put, and the calls of each object are those of one register
pub agrees-by : {S : Type 0} (cfg : Config) (told : S → Option Told) (sites : List S) (lines : List Line) (w : World S) → IsPlayed cfg told sites (PlaysSome lines) w
    → AllTellAt told sites w.cfg → AgreesBy told w
agrees-by cfg told sites lines w p tell =
    let s = state_of told p.traces w in
    let reached : IsReached s = reached_played cfg told sites lines w p in
    let tells : AllTell s = tells_played cfg told sites lines w p tell in
    record {
      traces = p.traces;
      fits = p.fits;
      reached = reached;
      agreed = λ key. agreement key s reached tells;
      given = given_back s reached tells;
      pieces = by_pieces s reached tells;
      register = λ key. one_register key s reached tells;
    }

-- lines that were played to their end, and lines that were played in part
pub some-whole : {S : Type 0} (told : S → Option Told) (lines : List Line) (old new : World S) → ChangesBy told (Plays lines) old new → ChangesBy told (PlaysSome lines) old new
some-whole told lines old new changes = λ traces fits.
    let k = changes traces fits in
    (k.0, (k.1.0, inl k.1.1))

pub some-part : {S : Type 0} (told : S → Option Told) (error : ApplyError) (lines : List Line) (old new : World S) → ChangesBy told (PlaysInPart error lines) old new → ChangesBy told (PlaysSome lines) old new
some-part told error lines old new changes = λ traces fits.
    let k = changes traces fits in
    (k.0, (k.1.0, inr (error, k.1.1)))

-- a world that takes no more events, by the status that tells it
pub filled_by : {S : Type 0} (w : World S) (events held : ℕ) (status : Status) → status ≡ Full events held → status ≡ Full (length w.journal.items) w.held → IsFull w → IsFilled events held w
filled_by w events held status is told full =
    let same : Full events held ≡ Full (length w.journal.items) w.held = sym is ∙ told in
    record { full = full; events_are = cc; held_is = cc }
