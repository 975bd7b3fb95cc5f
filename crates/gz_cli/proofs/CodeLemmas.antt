-- The lines of pieces, one after another.
use Rattle.std.proofs.Common.{ℕ, ◌≡◌, ◌+◌, ◌<◌, List, [], ◌∷◌, ◌++◌, length, map, take, get_or, refl, sym, ap, ◌∙◌, inl, inr, arith, append_assoc}
use Rattle.std.specs.Prelude.{Vec, Bool, true, false, ◌||◌, ◌&&◌, ◌==◌, ◌-◌, ◌%◌, nat_le, if◌then◌else◌, is_some, Some, None, Ok, Err, ◌⊎◌}
use Rattle.std.specs.Char.{is_ascii_hexdigit}
use Rattle.std.specs.List.{list_all}
use Rattle.std.proofs.lemmas.Bool.{and_parts, eqb-true}
use Rattle.std.proofs.lemmas.List.Sums.{AllPass-from_list_all}
use Rattle.hex.specs.Hex.{decode_of, is_hex_digit}
use Rattle.hex.specs.declared.error.FromHexError.{FromHexError}
use Rattle.hex.specs.declared.error.FromHexError.TheVariants.{OutOfMemory}
use Rattle.hex.proofs.HexLemmas.{decode_of-digits}
use Rattle.gz_words.specs.Words.{is_hex}
use Rattle.std.specs.declared.alloc.Global.{Global}
use Rattle.std.proofs.lemmas.List.{append-nil, take_more, map-append, length-map, length-take}
use Rattle.gz_cli.specs.Codes.{piece_line, lines_from}

-- one more piece
pub lines-more : (i n : ℕ) (xs : List (List ℕ)) (x : List ℕ) → n ≡ i + length xs → lines_from i (xs ++ x ∷ []) ≡ lines_from i xs ++ piece_line n x
lines-more i n [] x same =
    let here : i ≡ n = omega arith in
    append-nil (piece_line i x) ∙ ap (λ (k : ℕ). piece_line k x) here
lines-more i n (y ∷ ys) x same =
    ap (λ (text : List ℕ). piece_line i y ++ text) (lines-more (i + 1) n ys x (omega arith))
    ∙ sym (append_assoc (piece_line i y) (lines_from (i + 1) ys) (piece_line n x))

-- the lines of the pieces up to one of them, and its own line
pub lines-taken : (pieces : List (Vec ℕ Global)) (i : ℕ) (piece : Vec ℕ Global) (text line : List ℕ) → i < length pieces → piece ≡ get_or pieces i piece
    → text ≡ lines_from 0 (map (λ (p : Vec ℕ Global). p.items) (take i pieces)) → line ≡ piece_line i piece.items
    → text ++ line ≡ lines_from 0 (map (λ (p : Vec ℕ Global). p.items) (take (i + 1) pieces))
lines-taken pieces i piece text line within here before is =
    let items : Vec ℕ Global → List ℕ = λ p. p.items in
    let front = map items (take i pieces) in
    let taken : take (i + 1) pieces ≡ take i pieces ++ piece ∷ [] =
    take_more pieces i piece within ∙ ap (λ (p : Vec ℕ Global). take i pieces ++ p ∷ []) (sym here) in
    let mapped : map items (take (i + 1) pieces) ≡ front ++ piece.items ∷ [] =
    ap (map items) taken ∙ map-append items (take i pieces) (piece ∷ []) in
    let count : i ≡ 0 + length front = omega (arith, length-map (take i pieces) items, length-take i pieces) in
    ap (λ (t : List ℕ). t ++ line) before ∙ ap (λ (l : List ℕ). lines_from 0 front ++ l) is
    ∙ sym (lines-more 0 i front piece.items count) ∙ ap (lines_from 0) (sym mapped)

some-digit : (a b c : Bool) (x y z : ℕ) → ((a || b) || c) ≡ true → is_some (if b then Some x else if c then Some y else if a then Some z else None) ≡ true
some-digit a true c x y z h = refl
some-digit a false true x y z h = refl
some-digit true false false x y z h = refl
some-digit false false false x y z h = h

-- each of std's hexadecimal digits has a value
hex-digit : (d : ℕ) → is_ascii_hexdigit d ≡ true → is_hex_digit d ≡ true
hex-digit d h = some-digit (nat_le 48 d && nat_le d 57) (nat_le 65 d && nat_le d 70) (nat_le 97 d && nat_le d 102) (d - 55) (d - 87) (d - 48) h

hex-digits : (digits : List ℕ) → list_all is_ascii_hexdigit digits ≡ true → list_all is_hex_digit digits ≡ true
hex-digits [] h = refl
hex-digits (d ∷ digits) h =
    let parts = and_parts (is_ascii_hexdigit d) (list_all is_ascii_hexdigit digits) h in
    rw (hex-digit d parts.0) (hex-digits digits parts.1)

-- an even number of hexadecimal digits spells bytes
hex-decodes : (digits : List ℕ) (e : FromHexError) → is_hex digits ≡ true → decode_of digits ≡ Err e → ⊥
hex-decodes digits e h err =
    let parts = and_parts (length digits % 2 == 0) (list_all is_ascii_hexdigit digits) h in
    let even : length digits % 2 ≡ 0 = eqb-true (length digits % 2) 0 parts.0 in
    let spelt = decode_of-digits digits even (AllPass-from_list_all is_hex_digit digits (hex-digits digits parts.1)) in
    let both : Ok spelt.0 ≡ Err e = sym spelt.1 ∙ err in
    cc

-- hexadecimal digits fail to be read only for want of memory
pub no-memory : (digits : List ℕ) (e : FromHexError) → is_hex digits ≡ true → (e ≡ OutOfMemory) ⊎ (decode_of digits ≡ Err e) → e ≡ OutOfMemory
no-memory digits e h (inl memory) = memory
no-memory digits e h (inr err) = absurd (hex-decodes digits e h err)
