use denote.Ref.{Bor}
use Rattle.std.proofs.Common.{ℕ, List, [], map, take, get_or, filter_map, ap, sym, ◌∙◌}
use Rattle.gz_text.proofs.ReadLemmas.{lent_more, filter_map-some, filter_map-none}
use Rattle.gz_lines.specs.Fields.{site_of}
use Rattle.gz_lines.proofs.fields.sites_among.Goals as goal
use Rattle.gz_lines.proofs.fields.sites_among.Goals.{in-Some+in_ok-push, in_default}

pub loop-part-preserved : goal.loop-part-preserved
loop-part-preserved c =
    let none : Bor (List ℕ) = record { ref_ptr = (0, 0); now = [] } in
    let parts = c.args.parts.now in
    let i = c.loop-part.part-index in
    let part = (get_or parts i none).now in
    let before = map (λ (x : Bor (List ℕ)). x.now) (take i parts) in
    let more = ap (λ (xs : List (List ℕ)). filter_map site_of xs) (lent_more parts i none c.loop-part-test.true) in
    elim c.match-site.branch [
      | in-Some+in_ok-push w ↦ (let one = filter_map-some site_of before part w.in-Some.site (sym c.site.ensures ∙ w.in-Some.is) in cc (w.in_ok-push.ensures.items, one, more))
      | in_default w ↦ (let same = filter_map-none site_of before part (sym c.site.ensures ∙ w.in_default.is) in cc (same, more))
    ]
