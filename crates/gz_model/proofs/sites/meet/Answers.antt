use Rattle.std.proofs.Common.{ℕ, ◌≡◌, ◌+◌, ◌<◌, ◌&&◌, ◌∙◌, true, length, take, arith, subst, sym, inl, inr, List}
use Rattle.std.proofs.lemmas.Bool.{and_from, and_right, and_parts, and_cases}
use Rattle.std.proofs.lemmas.List.{take_all}
use Rattle.gz_model.specs.Sites.{has_site, IsLeastSite, is_before_least}
use Rattle.gz_model.proofs.LeastSites.{adds_more, has_site-last, least_taken, least_failed, least_above, least_of_two}
use Rattle.gz_model.proofs.sites.meet.Goals as goal
use Rattle.gz_model.proofs.sites.meet.Goals.{then-is_lower, else-is_lower}

pub loop-site-preserved : goal.loop-site-preserved
loop-site-preserved c =
    let a = c.args.a.now in
    let b = c.args.b.now in
    let i = c.loop-site.site-index in
    let x = c.site-item.result in
    let l : i < length a = omega arith in
    let p = λ (s : ℕ). has_site (take i a) s && has_site b s in
    let r = λ (s : ℕ). has_site (take (i + 1) a) s && has_site b s in
    let adds = adds_more a i x (has_site b) l c.site-item.is in
    let last : has_site (take (i + 1) a) x ≡ true = has_site-last a i x l c.site-item.is in
    let first = is_before_least x c.loop-site.least in
    elim c.if-is_lower.branch [
      | then-is_lower w ↦
          let parts : (first ≡ true) × (has_site b x ≡ true) = and_parts first (has_site b x) (sym c.is_lower.ensures ∙ w.if-is_lower.true) in
          subst (λ m. IsLeastSite r m) (sym w.least-is) (least_taken p r x c.loop-site.least adds (and_from _ _ last parts.1) parts.0 c.loop-site.invariant)
      | else-is_lower w ↦
          subst (λ m. IsLeastSite r m) (sym w.least-is)
          (elim (and_cases first (has_site b x) (sym c.is_lower.ensures ∙ w.if-is_lower.false)) [
            | inl e ↦ least_above p r x c.loop-site.least adds e c.loop-site.invariant
            | inr e ↦ least_failed p r x c.loop-site.least adds (and_right _ _ e) c.loop-site.invariant
          ])
    ]

pub returns-clause-quorums : goal.returns-clause-quorums
returns-clause-quorums c n =
    let a = c.args.a.now in
    let b = c.args.b.now in
    let all : IsLeastSite (λ s. has_site a s && has_site b s) c.loop-site.least =
    subst (λ (xs : List ℕ). IsLeastSite (λ s. has_site xs s && has_site b s) c.loop-site.least) (take_all c.loop-site.site-index a (omega arith)) c.loop-site.invariant in
    least_of_two n a b c.loop-site.least all
