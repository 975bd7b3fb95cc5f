use Rattle.std.proofs.Common.{ℕ, ◌≡◌, ◌+◌, ◌<◌, ◌&&◌, ◌∙◌, true, length, take, arith, subst, sym, inl, inr, List}
use Rattle.std.proofs.lemmas.Bool.{and_from, and_right, and_left, and_parts, and_cases}
use Rattle.std.proofs.lemmas.List.{take_all}
use Rattle.gz_model.specs.Sites.{has_site, IsLeastSite, is_before_least}
use Rattle.gz_model.proofs.LeastSites.{adds_more, has_site-last, least_taken, least_failed, least_above, least_of_three}
use Rattle.gz_model.proofs.sites.meet3.Goals as goal
use Rattle.gz_model.proofs.sites.meet3.Goals.{then-is_lower+then-is_in, else-is_lower, else-is_lower-via-then-is_lower+else-is_in, else-is_lower-via-else-is_lower}

pub loop-site-preserved : goal.loop-site-preserved
loop-site-preserved g =
    let a = g.args.a.now in
    let b = g.args.b.now in
    let c = g.args.c.now in
    let i = g.loop-site.site-index in
    let x = g.site-item.result in
    let l : i < length a = omega arith in
    let p = λ (s : ℕ). has_site (take i a) s && (has_site b s && has_site c s) in
    let r = λ (s : ℕ). has_site (take (i + 1) a) s && (has_site b s && has_site c s) in
    let adds = adds_more a i x (λ (s : ℕ). has_site b s && has_site c s) l g.site-item.is in
    let last : has_site (take (i + 1) a) x ≡ true = has_site-last a i x l g.site-item.is in
    let first = is_before_least x g.loop-site.least in
    elim g.if-is_lower.branch [
      | then-is_lower+then-is_in w ↦
          let parts : (first ≡ true) × (has_site b x ≡ true) = and_parts first (has_site b x) (sym g.is_lower.ensures ∙ w.if-is_lower.true) in
          subst (λ m. IsLeastSite r m) (sym w.least-is)
          (least_taken p r x g.loop-site.least adds (and_from _ _ last (and_from _ _ parts.1 (sym w.is_in.ensures ∙ w.if-is_in.true))) parts.0 g.loop-site.invariant)
      | else-is_lower w ↦ elim w.else-is_lower.branch [
        | else-is_lower-via-then-is_lower+else-is_in w' ↦
            subst (λ m. IsLeastSite r m) (sym w.least-is)
            (least_failed p r x g.loop-site.least adds (and_right _ _ (and_right _ _ (sym w'.is_in.ensures ∙ w'.if-is_in.false))) g.loop-site.invariant)
        | else-is_lower-via-else-is_lower w' ↦
            subst (λ m. IsLeastSite r m) (sym w.least-is)
            (elim (and_cases first (has_site b x) (sym g.is_lower.ensures ∙ w'.if-is_lower.false)) [
              | inl e ↦ least_above p r x g.loop-site.least adds e g.loop-site.invariant
              | inr e ↦ least_failed p r x g.loop-site.least adds (and_right _ _ (and_left _ _ e)) g.loop-site.invariant
            ])
      ]
    ]

pub returns-clause-quorums : goal.returns-clause-quorums
returns-clause-quorums g n =
    let a = g.args.a.now in
    let b = g.args.b.now in
    let c = g.args.c.now in
    let all : IsLeastSite (λ s. has_site a s && (has_site b s && has_site c s)) g.loop-site.least =
    subst (λ (xs : List ℕ). IsLeastSite (λ s. has_site xs s && (has_site b s && has_site c s)) g.loop-site.least) (take_all g.loop-site.site-index a (omega arith)) g.loop-site.invariant in
    least_of_three n a b c g.loop-site.least all
