-- Guards over what a call heard imply the guards over all that was shown.
use Rattle.std.proofs.Common.{◌≡◌, ℕ, ◌+◌, List, inl, inr}
use Rattle.std.specs.List.{slice_get}
use Rattle.std.proofs.Common.{Some}
use Rattle.gz_core.specs.Names.{Name, BallotAt}
use Rattle.gz_core.specs.Slots.{Act, VotesFast, Promises, VotesClassic, Decides, Trims}
use Rattle.gz_config.specs.declared.Config.{Config}
use Rattle.gz_pick.specs.declared.heard.Heard.{Heard}
use Rattle.gz_pick.specs.declared.heard.Pick.TheVariants.{Free}
use Rattle.gz_pick.specs.Choices.{pick_of}
use Rattle.gz_ledger.specs.Histories.{RowSeen, Write, IsShownByRows}
use Rattle.gz_ledger.specs.Guards.{IsClearByRows, IsNextByRows, IsGroundedByRows, IsPromiseSeen, May}
use Rattle.gz_ledger.proofs.Shown.{Includes, shown_more, voted_more}

clear_more : (cfg : Config) (seen more : List RowSeen) (sent : List Write) (call : Name) (v : ℕ) → Includes seen more → IsClearByRows cfg seen sent call v → IsClearByRows cfg more sent call v
clear_more cfg seen more sent call v i clear w u j own votes ne =
    let o : (y : Name) × (y ≡ call → ⊥) × IsShownByRows cfg seen u y = clear w u j own votes ne in
    (o.0, o.1, shown_more cfg seen more u o.0 i o.2)

next_more : (cfg : Config) (seen more : List RowSeen) (v : ℕ) → Includes seen more → IsNextByRows cfg seen v → IsNextByRows cfg more v
next_more cfg seen more v i (inl e) = inl e
next_more cfg seen more v i (inr (u, e, y, h)) = inr (u, e, y, shown_more cfg seen more u y i h)

grounded_more : (cfg : Config) (seen more : List RowSeen) (v : ℕ) → Includes seen more → IsGroundedByRows cfg seen v → IsGroundedByRows cfg more v
grounded_more cfg seen more v i (inl h) = inl (next_more cfg seen more v i h)
grounded_more cfg seen more v i (inr (e, u, j, l, h)) = inr (e, u, i e j, l, h)

promise_more : (seen more : List RowSeen) (v : ℕ) (b : BallotAt) (h : Heard) → Includes seen more → IsPromiseSeen seen v b h → IsPromiseSeen more v b h
promise_more seen more v b h i p = record { entry = p.entry; found = i p.entry p.found; site = p.site; row = p.row; none = p.none }

pub may_more : (cfg : Config) (heard seen : List RowSeen) (sent : List Write) (call : Name) (act : Act) → Includes heard seen → May cfg heard sent call act → May cfg seen sent call act
may_more cfg heard seen sent call (VotesFast v x) i m =
    record { own = m.own; next = next_more cfg heard seen v i m.next; clear = clear_more cfg heard seen sent call v i m.clear }
may_more cfg heard seen sent call (Promises v b) i m =
    record { positive = m.positive; classic = m.classic; fresh = m.fresh; grounded = grounded_more cfg heard seen v i m.grounded }
may_more cfg heard seen sent call (VotesClassic v b x) i m = record {
  promised = m.promised;
  heard = m.heard;
  quorum = record {
    sites = m.quorum.sites;
    enough = m.quorum.enough;
    promises = λ (at : ℕ) (h : Heard) (is : slice_get m.heard at ≡ Some h). promise_more heard seen v b h i (m.quorum.promises at h is);
  };
  allowed = m.allowed;
  source = λ (free : pick_of cfg.n cfg.qf m.heard ≡ Free). elim (m.source free) [
    | inl own ↦ inl (own.0, clear_more cfg heard seen sent call v i own.1)
    | inr h ↦ inr (voted_more heard seen v x i h)
  ];
  one = m.one;
}
may_more cfg heard seen sent call (Decides v x) i m = shown_more cfg heard seen v x i m
may_more cfg heard seen sent call (Trims to x) i m = shown_more cfg heard seen (to + 1) x i m
