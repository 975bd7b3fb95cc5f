use Rattle.std.proofs.Common.{ℕ, ◌≡◌, List, ◌∷◌, [], length, length-append, sym, ap, subst, ◌∙◌, arith}
use Rattle.std.specs.Prelude.{Bool}
use Rattle.gz_history.specs.Index.{IsRepeat, AreRepeats}
use Rattle.gz_history.proofs.Repeating.{repeats_more}
use Rattle.gz_history.proofs.repeats.repeats_of.Goals as goal

pub loop-place-preserved : goal.loop-place-preserved
loop-place-preserved c =
    let calls = c.args.calls.now in
    let groups = c.args.groups.now in
    let repeats = c.loop-place.repeats.items in
    let pushed = c.in_ok-push.ensures.items in
    let len = c.loop-place.invariant.len in
    let is_repeat = c.repeats_last-is_repeat.result in
    let one = length-append repeats (is_repeat ∷ []) in
    record {
      len = ap (λ (xs : List Bool). length xs) pushed ∙ omega (arith, one, len);
      repeats = subst (AreRepeats calls groups) (sym pushed) (repeats_more calls groups repeats is_repeat (λ is. subst (IsRepeat calls groups) (sym len) (c.repeats_last-is_repeat.ensures is)) c.loop-place.invariant.repeats);
    }
