-- Sites that hold nothing, one after another.
use Rattle.std.proofs.Common.{◌≡◌, List, [], ◌∷◌, ◌++◌, zero, suc, Some, refl, ap, sym, subst}
use Rattle.std.specs.Prelude.{Option, IfSome}
use Rattle.gz_site.specs.Told.{Told, IsEmpty, nothing}
use Rattle.gz_site.specs.Memory.{memory}
use Rattle.gz_site.specs.declared.memory.MemSite.{MemSite}
use Rattle.gz_world.specs.Opening.{AreEmpty}

-- one more site that holds nothing
pub more-empty : {S : Type 0} (told : S → Option Told) (sites : List S) (site : S) → AreEmpty told sites → IfSome (told site) IsEmpty → AreEmpty told (sites ++ site ∷ [])
more-empty told [] site all one zero = one
more-empty told [] site all one (suc i) = tt
more-empty told (first ∷ sites) site all one zero = all zero
more-empty told (first ∷ sites) site all one (suc i) = more-empty told sites site (λ j. all (suc j)) one i

-- a new site in memory holds nothing
pub empty-site : (site : MemSite) → memory site ≡ nothing → IsEmpty (memory site)
empty-site site same = record { rows = λ key. ap (λ (t : Told). t.rows key) same; blobs = λ blob. ap (λ (t : Told). t.blobs blob) same; top = ap (λ (t : Told). t.top) same }

-- a site that tells that it holds nothing, after those of a list
pub grown_empty : {S : Type 0} (told : S → Option Told) (sites grown : List S) (site : S) → AreEmpty told sites → told site ≡ Some nothing → grown ≡ sites ++ site ∷ [] → AreEmpty told grown
grown_empty told sites grown site all one is =
    subst (AreEmpty told) (sym is) (more-empty told sites site all
    (subst (λ t. IfSome t IsEmpty) (sym one) (record { rows = λ key. refl; blobs = λ blob. refl; top = refl })))
