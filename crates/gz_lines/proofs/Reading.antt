-- Lines that are read one after another, up to the first one with a fault.
use denote.Ref.{Bor}
use borrow.Author.Count.{below_more}
use Rattle.std.proofs.Common.{ℕ, ◌≡◌, ◌+◌, ◌-◌, ◌<◌, ◌≤◌, List, [], ◌∷◌, ◌++◌, length, map, take, get_or, ap, sym, subst, ◌∙◌, arith}
use Rattle.std.specs.Prelude.{Vec, Result, Ok, Err, IfOk, Option, Some, None, option_map, option_and_then, filter_map, slice_get}
use Rattle.std.proofs.lemmas.List.{length-map, map-append}
use Rattle.std.proofs.lemmas.Option.{slice_get-map, slice_get-get_or}
use Rattle.std.specs.declared.alloc.Global.{Global}
use Rattle.std.proofs.Math.Seq.{take-length}
use Rattle.gz_core.specs.declared.texts.TextError.{TextError}
use Rattle.gz_text.specs.declared.faults.Fault.{Fault}
use Rattle.gz_text.specs.declared.faults.Fault.TheVariants.{Bad, TooLong}
use Rattle.gz_lines.specs.declared.line.Line.{Line}
use Rattle.gz_lines.specs.declared.line.Reading.{Reading}
use Rattle.gz_lines.specs.declared.line.Reading.TheVariants.{Skipped, Faulty, Is}
use Rattle.gz_text.specs.Faults.{error_at, told_number}
use Rattle.gz_lines.specs.Grammar.{read_line}
use Rattle.gz_lines.specs.Schedule.{fault_of, fault_at, line_of, readings, AreFaultless, IsFirstFault, Reads}
use Rattle.gz_lines.proofs.CutLemmas.{length_readings}
use Rattle.gz_text.proofs.ReadLemmas.{lent_more, filter_map-some, filter_map-none}

-- what the lines that are lent read as
abbrev pub all_of : List (Bor (List ℕ)) → List Reading
all_of texts = map read_line (map (λ text. text.now) texts)

-- what one of them reads as
reading-at : (texts : List (Bor (List ℕ))) (i : ℕ) (d : Bor (List ℕ)) → i < length texts → slice_get (all_of texts) i ≡ Some (read_line (get_or texts i d).now)
reading-at texts i d h =
    slice_get-map read_line (map (λ text. text.now) texts) i
    ∙ ap (λ (o : Option (List ℕ)). option_map read_line o) (slice_get-map (λ (text : Bor (List ℕ)). text.now) texts i)
    ∙ ap (λ (o : Option (Bor (List ℕ))). option_map read_line (option_map (λ text. text.now) o)) (slice_get-get_or texts i d h)

-- its fault
fault-at : (texts : List (Bor (List ℕ))) (i : ℕ) (d : Bor (List ℕ)) → i < length texts → fault_at (all_of texts) i ≡ fault_of (read_line (get_or texts i d).now)
fault-at texts i d h = ap (λ (o : Option Reading). option_and_then fault_of o) (reading-at texts i d h)

-- one more line without a fault
pub faultless_more : (texts : List (Bor (List ℕ))) (i : ℕ) (d : Bor (List ℕ)) (r : Reading) → i < length texts
    → r ≡ read_line (get_or texts i d).now → fault_of r ≡ None → AreFaultless (all_of texts) i → AreFaultless (all_of texts) (i + 1)
faultless_more texts i d r h same none above =
    below_more (λ k. fault_at (all_of texts) k ≡ None) i above (fault-at texts i d h ∙ ap fault_of (sym same) ∙ none)

-- the first line with a fault
pub first_fault : (texts : List (Bor (List ℕ))) (i : ℕ) (d : Bor (List ℕ)) (fault : Fault) → i < length texts
    → Faulty fault ≡ read_line (get_or texts i d).now → AreFaultless (all_of texts) i → IsFirstFault (all_of texts) (i + 1) fault
first_fault texts i d fault h same above =
    let within : length (all_of texts) ≡ length texts = length-map (map (λ text. text.now) texts) read_line ∙ length-map texts (λ (text : Bor (List ℕ)). text.now) in
    let back : i + 1 - 1 ≡ i = omega arith in
    record {
      counted = omega arith;
      within = omega arith;
      above = rw back above;
      found = rw back (fault-at texts i d h ∙ ap fault_of (sym same));
    }

-- one more line among those that were read
taken-more : (texts : List (Bor (List ℕ))) (i : ℕ) (d : Bor (List ℕ)) → i < length texts → all_of (take (i + 1) texts) ≡ all_of (take i texts) ++ read_line (get_or texts i d).now ∷ []
taken-more texts i d h =
    ap (λ (xs : List (List ℕ)). map read_line xs) (lent_more texts i d h)
    ∙ map-append read_line (map (λ (text : Bor (List ℕ)). text.now) (take i texts)) ((get_or texts i d).now ∷ [])

pub kept_more : (texts : List (Bor (List ℕ))) (i : ℕ) (d : Bor (List ℕ)) (line : Line) → i < length texts
    → Is line ≡ read_line (get_or texts i d).now → filter_map line_of (all_of (take (i + 1) texts)) ≡ filter_map line_of (all_of (take i texts)) ++ line ∷ []
kept_more texts i d line h same =
    ap (λ (rs : List Reading). filter_map line_of rs) (taken-more texts i d h)
    ∙ filter_map-some line_of (all_of (take i texts)) (read_line (get_or texts i d).now) line (ap line_of (sym same))

pub skipped_more : (texts : List (Bor (List ℕ))) (i : ℕ) (d : Bor (List ℕ)) → i < length texts
    → Skipped ≡ read_line (get_or texts i d).now → filter_map line_of (all_of (take (i + 1) texts)) ≡ filter_map line_of (all_of (take i texts))
skipped_more texts i d h same =
    ap (λ (rs : List Reading). filter_map line_of rs) (taken-more texts i d h)
    ∙ filter_map-none line_of (all_of (take i texts)) (read_line (get_or texts i d).now) (ap line_of (sym same))

-- the error of that fault
pub reads_fault : (all : List Reading) (line told : ℕ) (fault : Fault) (error : TextError) → told ≡ told_number line → error ≡ error_at told fault → IsFirstFault all line fault → Reads all (Err error)
reads_fault all line told (Bad why) error number same first = subst (λ (e : TextError). Reads all (Err e)) (sym same) (line, number, first)
reads_fault all line told TooLong error number same first = subst (λ (e : TextError). Reads all (Err e)) (sym same) (line, number, first)

-- all lines were read
pub reads_all : (texts : List (Bor (List ℕ))) (i : ℕ) (found : Vec Line Global) → i ≡ length texts → AreFaultless (all_of texts) i → found.items ≡ filter_map line_of (all_of (take i texts)) → Reads (all_of texts) (Ok found)
reads_all texts i found end faultless exact =
    let within : length (all_of texts) ≡ length texts = length-map (map (λ text. text.now) texts) read_line ∙ length-map texts (λ (text : Bor (List ℕ)). text.now) in
    let whole : i ≡ length (all_of texts) = omega arith in
    let taken : take i texts ≡ texts = rw end (take-length texts) in
    (subst (λ (n : ℕ). AreFaultless (all_of texts) n) whole faultless, exact ∙ ap (λ (ts : List (Bor (List ℕ))). filter_map line_of (all_of ts)) taken)

length-filter_map : (rs : List Reading) → length (filter_map line_of rs) ≤ length rs
length-filter_map [] = omega arith
length-filter_map (Skipped ∷ rs) = let h = length-filter_map rs in omega arith
length-filter_map (Faulty fault ∷ rs) = let h = length-filter_map rs in omega arith
length-filter_map (Is line ∷ rs) = let h = length-filter_map rs in omega arith

pub reads_few : (text : List ℕ) (result : Result (Vec Line Global) TextError) → Reads (readings text) result → IfOk result (λ found. length found.items ≤ length text + 1)
reads_few text (Ok found) read =
    let same : length found.items ≡ length (filter_map line_of (readings text)) = ap length read.1 in
    let most = length-filter_map (readings text) in
    let few = length_readings text in
    omega arith
reads_few text (Err error) read = tt
