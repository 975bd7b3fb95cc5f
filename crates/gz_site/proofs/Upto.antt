-- What a sink has written after a part, and after a further part.
use Rattle.std.proofs.Common.{ℕ, ◌≡◌, ◌+◌, ◌-◌, List, length, take, drop, Option, Some, None, refl, ap, ◌∙◌, append_assoc, length-drop}
use Rattle.std.proofs.Math.Seq.{take-add, take-length}
use Rattle.gz_site.specs.Files.{upto}

-- the bytes from a place on, as a slice has them
from-slice : (bytes : List ℕ) (n : ℕ) → take (length bytes - n) (drop n bytes) ≡ drop n bytes
from-slice bytes n = rw (← length-drop n bytes) (take-length (drop n bytes))

-- the first n bytes, and then m of those after them, are the first n + m
drop-upto : (w : Option (List ℕ)) (bytes : List ℕ) (n m : ℕ) → upto (upto w bytes n) (drop n bytes) m ≡ upto w bytes (n + m)
drop-upto None bytes n m = refl
drop-upto (Some b) bytes n m = rw (take-add n m bytes, append_assoc) refl

-- the same with the bytes from n on as a slice has them
pub upto-upto : (w : Option (List ℕ)) (bytes : List ℕ) (n m : ℕ) → upto (upto w bytes n) (take (length bytes - n) (drop n bytes)) m ≡ upto w bytes (n + m)
upto-upto w bytes n m = ap (λ (x : List ℕ). upto (upto w bytes n) x m) (from-slice bytes n) ∙ drop-upto w bytes n m
