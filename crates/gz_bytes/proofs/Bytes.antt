-- What a reader takes from the front of some bytes.
use Rattle.std.proofs.Common.{◌≡◌, ℕ, suc, ◌+◌, ◌<◌, ◌≤◌, ltb, List, [], ◌∷◌, ◌++◌, length, get_or, take, drop, Ok, refl, sym, ap, subst, ◌∙◌, append_assoc, arith, rules, true, false, cond, Err, inl, inr}
use Rattle.std.specs.Prelude.{nat_eq}
use Rattle.std.specs.Cmp.Lexicographic.{pointwise, same_text}
use Rattle.std.proofs.lemmas.Bool.{cases_lt, ltb-false, le-ltb}
use Rattle.std.proofs.lemmas.List.{take_at, drop_at, take-append-drop, length-append, length-take, get_or-drop, get_or-take, get_or_past}
use Rattle.gz_bytes.specs.declared.faults.Fault.{Fault}
use Rattle.gz_bytes.specs.declared.faults.Fault.TheVariants.{Short}
use Rattle.gz_bytes.specs.Fields.{bytes_at, byte_at, after_magic}
use Rattle.gz_bytes.proofs.Steps.{told_ok, told_again, not_refused, admitted, ok_is}

abbrev pub IsBytes : List ℕ → Type 0
IsBytes bytes = (i : ℕ) → get_or bytes i 0 < 256

pub IsBytes-drop : (n : ℕ) (bytes : List ℕ) → IsBytes bytes → IsBytes (drop n bytes)
IsBytes-drop n bytes h i = rw get_or-drop (h (n + i))

pub IsBytes-take : (n : ℕ) (bytes : List ℕ) → IsBytes bytes → IsBytes (take n bytes)
IsBytes-take n bytes h i =
    elim (cases_lt i n) [
      | inl lt ↦ rw (get_or-take n bytes i 0 lt) (h i)
      | inr le ↦ rw (get_or_past (take n bytes) i 0 (omega (arith, length-take n bytes))) (omega arith)
    ]

-- what a reader took from the front, and what it left
pub record Takes (bytes text rest : List ℕ) : Type 0 where
  pub parts : bytes ≡ text ++ rest
  pub rest_fits : IsBytes rest

pub Takes-then : (a x b y c : List ℕ) → Takes a x b → Takes b y c → Takes a (x ++ y) c
Takes-then a x b y c p q = record { parts = p.parts ∙ ap (λ (t : List ℕ). x ++ t) q.parts ∙ sym (append_assoc x y c); rest_fits = q.rest_fits }

pub Takes-after : (b : ℕ) (bytes text rest : List ℕ) → Takes bytes text rest → Takes (b ∷ bytes) (b ∷ text) rest
Takes-after b bytes text rest p = record { parts = ap (λ (t : List ℕ). b ∷ t) p.parts; rest_fits = p.rest_fits }

-- ---- so many bytes

pub bytes_takes : (n at : ℕ) (bytes : List ℕ) (x : List ℕ × List ℕ) → IsBytes bytes → bytes_at n at bytes ≡ Ok x → Takes bytes x.0 x.1 × (length x.0 ≡ n) × IsBytes x.0
bytes_takes n at bytes x fits e =
    let g = not_refused (ltb (length bytes) n) (Short at) (Ok (take n bytes, drop n bytes)) x e in
    let long : n ≤ length bytes = ltb-false _ _ g.0 in
    subst (λ (y : List ℕ × List ℕ). Takes bytes y.0 y.1 × (length y.0 ≡ n) × IsBytes y.0) (ok_is {E = Fault} (take n bytes, drop n bytes) x g.1)
    (record { parts = sym (take-append-drop n bytes); rest_fits = IsBytes-drop n bytes fits }, omega (arith, length-take n bytes), IsBytes-take n bytes fits)

pub bytes_again : (xs rest : List ℕ) (n at : ℕ) → length xs ≡ n → bytes_at n at (xs ++ rest) ≡ Ok (xs, rest)
bytes_again xs rest n at long =
    let enough : ltb (length (xs ++ rest)) n ≡ false = le-ltb _ _ (omega (arith, length-append xs rest)) in
    rw (enough, take_at xs rest n long, drop_at xs rest n long) refl

-- ---- a number of one byte

pub byte_takes : (at : ℕ) (bytes : List ℕ) (x : ℕ × List ℕ) → IsBytes bytes → byte_at at bytes ≡ Ok x → Takes bytes (x.0 ∷ []) x.1 × (x.0 < 256)
byte_takes at [] x fits e = absurd cc
byte_takes at (b ∷ rest) x fits e =
    subst (λ (y : ℕ × List ℕ). Takes (b ∷ rest) (y.0 ∷ []) y.1 × (y.0 < 256)) (ok_is {E = Fault} (b, rest) x e) (record { parts = refl; rest_fits = λ i. fits (suc i) }, fits 0)

-- ---- what each record of a format begins with

same_test : (xs : List ℕ) → pointwise nat_eq xs xs ≡ true
same_test xs = let same : xs ≡ xs = refl in search (rules, same)

pub magic_takes : {E : Type 0} (words : Fault → E) (magic : List ℕ) (wrong : E) (bytes rest : List ℕ) → IsBytes bytes → after_magic words magic wrong bytes ≡ Ok rest → Takes bytes magic rest
magic_takes words magic wrong bytes rest fits e =
    let front = told_ok words (bytes_at (length magic) 0 bytes) _ rest e in
    let took = bytes_takes (length magic) 0 bytes front.0 fits front.1 in
    let good = admitted (pointwise nat_eq front.0.0 magic) wrong front.0.1 rest front.2 in
    let same : front.0.0 ≡ magic = same_text front.0.0 magic (sym good.0) in
    subst (λ (r : List ℕ). Takes bytes magic r) good.1 (subst (λ (t : List ℕ). Takes bytes t front.0.1) same took.0)

pub magic_again : {E : Type 0} (words : Fault → E) (magic : List ℕ) (wrong : E) (rest : List ℕ) → after_magic words magic wrong (magic ++ rest) ≡ Ok rest
magic_again words magic wrong rest =
    told_again words (bytes_at (length magic) 0 (magic ++ rest)) (magic, rest) (λ front. cond (pointwise nat_eq front.0 magic) (Ok front.1) (Err wrong)) (Ok rest)
    (bytes_again magic rest (length magic) 0 refl) (rw (same_test magic) refl)
