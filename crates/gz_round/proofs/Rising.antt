-- The requests of a pass rise by site.
use Rattle.std.proofs.Common.{◌≡◌, ℕ, ◌+◌, ◌<◌, ◌≤◌, List, [], ◌∷◌, ◌++◌, arith}
use Rattle.gz_core.specs.declared.requests.Out.{Out}
use Rattle.gz_round.specs.Starting.{SitesRise}

-- each request goes to a site below this one
abbrev pub AreBelow : ℕ → List Out → Type 0
AreBelow at [] = Unit {0}
AreBelow at (out ∷ outs) = (out.site < at) × AreBelow at outs

pub below_later : (at : ℕ) (outs : List Out) → AreBelow at outs → AreBelow (at + 1) outs
below_later at [] h = tt
below_later at (out ∷ outs) h = let l = h.0 in (omega arith, below_later at outs h.1)

pub below_more : (at : ℕ) (outs : List Out) (out : Out) → out.site ≡ at → AreBelow at outs → AreBelow (at + 1) (outs ++ (out ∷ []))
below_more at [] out e h = (omega (arith, e), tt)
below_more at (first ∷ outs) out e h = let l = h.0 in (omega arith, below_more at outs out e h.1)

-- a request of the next site goes on the rise
pub rising_more : (from at : ℕ) (outs : List Out) (out : Out) → from ≤ at → out.site ≡ at → SitesRise from outs → AreBelow at outs → SitesRise from (outs ++ (out ∷ []))
rising_more from at [] out l e h below = (omega (arith, e), tt)
rising_more from at (first ∷ outs) out l e h below = let b = below.0 in (h.0, rising_more (first.site + 1) at outs out (omega arith) e h.1 below.1)
