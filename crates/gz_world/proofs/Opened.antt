-- A world that was opened fits, and is reached.
use Rattle.std.proofs.Common.{◌≡◌, ℕ, zero, suc, ◌≤◌, List, [], Some, length, map, refl, ap, sym, ◌∙◌, subst, arith, false}
use Rattle.std.specs.Prelude.{Option, IfSome, slice_get, option_map, unwrap_or}
use Rattle.gz_core.specs.Configurations.{IsConfig}
use Rattle.gz_config.specs.declared.Config.{Config}
use Rattle.gz_core.specs.History.{Trace}
use Rattle.gz_site.specs.Told.{Told, IsEmpty}
use Rattle.gz_site.specs.Many.{told_at}
use Rattle.gz_world.specs.States.{request_of}
use Rattle.gz_world.specs.Bridge.{state_of, crashed_in}
use Rattle.gz_world.specs.Fits.{Fits}
use Rattle.gz_world.specs.Opening.{AreEmpty, IsOpened}
use Rattle.gz_world.specs.Reached.{opened}
use Rattle.gz_world.specs.Told.{IsReachedBy}
use Rattle.gz_world.specs.declared.world.Member.{Member}
use Rattle.gz_world.specs.declared.world.World.{World}
use Rattle.gz_world.proofs.Members.{numbered_suc}

-- no session has called anything
abbrev pub no_traces_yet : ℕ → List Trace
no_traces_yet session = []

nothing_at : {A : Type 0} (i : ℕ) (x : A) (xs : List A) → xs ≡ [] → slice_get xs i ≡ Some x → ⊥
nothing_at i x xs e h = let k : slice_get [] i ≡ Some x = subst (λ ys. slice_get ys i ≡ Some x) e h in cc

pub fits_opened : {S : Type 0} (cfg : Config) (sites : List S) (w : World S) → IsConfig cfg → cfg.n ≤ length sites → IsOpened cfg sites w → Fits no_traces_yet w
fits_opened cfg sites w config enough o =
    let n : w.cfg.n ≡ cfg.n = ap (λ (c : Config). c.n) o.cfg_is in
    let many : length w.sites.items ≡ length sites = ap length o.sites_are in
    let net : map request_of w.net.items ≡ [] = ap (map request_of) o.net in
    let count : length (map request_of w.net.items) ≡ 0 = ap length net in
    let members : length w.clients.items ≡ 0 = ap length o.clients in
    let events : length w.journal.items ≡ 0 = ap length o.journal in
    record {
      config = subst IsConfig (sym o.cfg_is) config;
      sites = omega (arith, n, many, enough);
      requests = λ i r h. absurd (nothing_at i r (map request_of w.net.items) net h);
      clients = λ i m h. absurd (nothing_at i m w.clients.items o.clients h);
      unopened = λ s l. refl;
      zeroth = refl;
      few = λ s. omega arith;
      weighs = omega (arith, count);
      opened = omega (arith, members);
      bounded = omega (arith, events);
    }

none_crashed : (xs : List Member) (n : ℕ) → xs ≡ [] → crashed_in xs n ≡ false
none_crashed xs zero e = refl
none_crashed xs (suc n) e = ap (λ ys. crashed_in ys (suc n)) e ∙ ap (λ o. unwrap_or (option_map (λ (k : Member). k.crashed) o) false) (numbered_suc [] n)

pub reached_opened : {S : Type 0} (told : S → Option Told) (cfg : Config) (sites : List S) (w : World S) → IsConfig cfg → cfg.n ≤ length sites → IsOpened cfg sites w → AreEmpty told sites → IsReachedBy told w
reached_opened told cfg sites w config enough o empty = (
  no_traces_yet,
  (
    fits_opened cfg sites w config enough o,
    opened (state_of told no_traces_yet w) (record {
      config = subst IsConfig (sym o.cfg_is) config;
      sites = λ i. subst (λ xs. IfSome (told_at told xs i) IsEmpty) (sym o.sites_are) (empty i);
      sessions = ap length o.clients;
      crashed = λ n. none_crashed w.clients.items n o.clients;
      traces = λ n. refl;
      net = ap (map request_of) o.net;
      journal = o.journal;
      casts = o.casts;
      calls = o.calls;
      held = o.held;
    }),
  ),
)
