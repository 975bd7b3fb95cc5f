use Rattle.std.proofs.Common.{◌≡◌, ℕ, List, ◌++◌, Result, Ok, Err, ap, ◌∙◌, append_assoc}
use Rattle.std.specs.Prelude.{OnOk}
use Rattle.gz_bytes.specs.Spelling.{name_bytes}
use Rattle.gz_fragfmt.specs.Spelling.{string, shape_bytes}
use Rattle.gz_fragfmt.proofs.writing.put_header.Goals as goal

-- three parts one after another
appended : {T E : Type 0} (r : Result T E) (a b c d x y z : List ℕ) → b ≡ a ++ x → c ≡ b ++ y → OnOk r (d ≡ c ++ z) → OnOk r (d ≡ a ++ (x ++ (y ++ z)))
appended (Ok t) a b c d x y z first second third =
    third ∙ ap (λ (l : List ℕ). l ++ z) (second ∙ ap (λ (l : List ℕ). l ++ y) first) ∙ append_assoc (a ++ x) y z ∙ append_assoc a x (y ++ z)
appended (Err e) a b c d x y z first second third = tt

pub returns : goal.returns
returns c =
    appended c.put_shape.result c.args.out.now.items c.put_key.new.out.items c.put_name.new.out.items c.put_shape.new.out.items
    (string c.args.key.now) (name_bytes c.args.name) (shape_bytes c.args.shape.index c.args.shape.k c.args.shape.m c.args.shape.length)
    c.in_ok-put_key.ensures c.in_ok-put_name.ensures c.put_shape.ensures
