-- Values: what is read is what was written, and what was written is read again.
use Rattle.std.proofs.Common.{◌≡◌, ℕ, zero, suc, ◌+◌, ◌<◌, cond, eqb, leb, List, [], ◌∷◌, ◌++◌, length, Ok, Err, refl, sym, ap, subst, ◌∙◌, append_assoc, inl, inr}
use Rattle.std.specs.List.{flat_map, AllByRecursion}
use Rattle.std.specs.Int.{w32, to_be_bytes}
use Rattle.std.proofs.lemmas.Bool.{leb-false, lt-leb, eqb-true}
use Rattle.std.proofs.lemmas.List.Concat.{flat_map-cons}
use Rattle.gz_core.specs.Puts.{PutData}
use Rattle.gz_core.specs.declared.fragments.FragRef.{FragRef}
use Rattle.gz_core.specs.declared.values.Value.{Value}
use Rattle.gz_core.specs.declared.values.Value.TheVariants.{Tomb, Put}
use Rattle.gz_bytes.specs.Fields.{bytes_at, byte_at, name_at, length_at, data_at, parity_at}
use Rattle.gz_bytes.specs.Spelling.{name_bytes}
use Rattle.gz_bytes.proofs.Steps.{bind_ok, bind_again, told_ok, told_again, ok_is, not_refused, tested}
use Rattle.gz_bytes.proofs.Bytes.{IsBytes, Takes, Takes-then, Takes-after, bytes_takes, bytes_again, byte_takes}
use Rattle.gz_bytes.proofs.PutFields.{name_takes, name_again, length_takes, length_again, data_takes, data_again, parity_takes, parity_again}
use Rattle.gz_rowfmt.specs.declared.errors.RowError.{RowError}
use Rattle.gz_rowfmt.specs.declared.errors.RowError.TheVariants as errors
use Rattle.gz_rowfmt.specs.Records.{IsFragRef, IsPut, IsValue}
use Rattle.gz_rowfmt.specs.Spelling.{fragment_bytes, object_bytes, put_bytes, value_bytes}
use Rattle.gz_rowfmt.specs.Reading.{fault_of, site_at, fragment_at, fragments_at, put_at, tomb_at, value_at}

-- ---- fragments

site_takes : (at : ℕ) (bytes : List ℕ) (x : ℕ × List ℕ) → IsBytes bytes → site_at at bytes ≡ Ok x → Takes bytes (x.0 ∷ []) x.1 × (x.0 < 16)
unfolding site_at
site_takes at bytes x fits e =
    let site = told_ok fault_of (byte_at at bytes) _ x e in
    let took = byte_takes at bytes site.0 fits site.1 in
    let good = not_refused (leb 16 site.0.0) (errors.ValueField at) (Ok site.0) x site.2 in
    subst (λ (y : ℕ × List ℕ). Takes bytes (y.0 ∷ []) y.1 × (y.0 < 16)) (ok_is {E = RowError} site.0 x good.1) (took.0, leb-false _ _ good.0)

site_again : (at site : ℕ) (rest : List ℕ) → site < 16 → site_at at (site ∷ rest) ≡ Ok (site, rest)
unfolding site_at
site_again at site rest h = rw (lt-leb 16 site h) refl

fragment_takes : (at : ℕ) (bytes : List ℕ) (x : FragRef × List ℕ) → IsBytes bytes → fragment_at at bytes ≡ Ok x → Takes bytes (fragment_bytes x.0) x.1 × IsFragRef x.0
unfolding fragment_at
fragment_takes at bytes x fits e =
    let site = bind_ok (site_at at bytes) _ x e in
    let digest = told_ok fault_of (bytes_at 32 (at + 1) site.0.1) _ x site.2 in
    let t0 = site_takes at bytes site.0 fits site.1 in
    let t1 = bytes_takes 32 (at + 1) site.0.1 digest.0 t0.0.rest_fits digest.1 in
    let made : FragRef = record { site = site.0.0; digest = digest.0.0 } in
    let both : Takes bytes (fragment_bytes made) digest.0.1 = Takes-then bytes (site.0.0 ∷ []) site.0.1 digest.0.0 digest.0.1 t0.0 t1.0 in
    subst (λ (y : FragRef × List ℕ). Takes bytes (fragment_bytes y.0) y.1 × IsFragRef y.0) (ok_is {E = RowError} (made, digest.0.1) x digest.2)
    (both, record { site = t0.1; wide = t1.1; bytes = t1.2 })

fragment_again : (at : ℕ) (f : FragRef) (rest : List ℕ) → IsFragRef f → fragment_at at (fragment_bytes f ++ rest) ≡ Ok (f, rest)
unfolding fragment_at
fragment_again at f rest h =
    bind_again (site_at at (fragment_bytes f ++ rest)) (f.site, f.digest ++ rest) _ (Ok (f, rest)) (site_again at f.site (f.digest ++ rest) h.site)
    (told_again fault_of (bytes_at 32 (at + 1) (f.digest ++ rest)) (f.digest, rest) _ (Ok (f, rest)) (bytes_again f.digest rest 32 (at + 1) h.wide) refl)

fragments_take : (n at : ℕ) (bytes : List ℕ) (x : List FragRef × List ℕ) → IsBytes bytes → fragments_at n at bytes ≡ Ok x → Takes bytes (flat_map fragment_bytes x.0) x.1 × (length x.0 ≡ n) × AllByRecursion IsFragRef x.0
unfolding fragments_at
fragments_take zero at bytes x fits e =
    subst (λ (y : List FragRef × List ℕ). Takes bytes (flat_map fragment_bytes y.0) y.1 × (length y.0 ≡ 0) × AllByRecursion IsFragRef y.0) (ok_is {E = RowError} ([], bytes) x e) (record { parts = refl; rest_fits = fits }, refl, tt)
fragments_take (suc n) at bytes x fits e =
    let first = bind_ok (fragment_at at bytes) _ x e in
    let others = bind_ok (fragments_at n (at + 33) first.0.1) _ x first.2 in
    let t0 = fragment_takes at bytes first.0 fits first.1 in
    let t1 = fragments_take n (at + 33) first.0.1 others.0 t0.0.rest_fits others.1 in
    let both = Takes-then bytes (fragment_bytes first.0.0) first.0.1 (flat_map fragment_bytes others.0.0) others.0.1 t0.0 t1.0 in
    let made : List FragRef × List ℕ = (first.0.0 ∷ others.0.0, others.0.1) in
    subst (λ (y : List FragRef × List ℕ). Takes bytes (flat_map fragment_bytes y.0) y.1 × (length y.0 ≡ suc n) × AllByRecursion IsFragRef y.0) (ok_is {E = RowError} made x others.2) (rw flat_map-cons both, ap suc t1.1, (t0.1, t1.2))

fragments_again : (fs : List FragRef) (at : ℕ) (rest : List ℕ) → AllByRecursion IsFragRef fs → fragments_at (length fs) at (flat_map fragment_bytes fs ++ rest) ≡ Ok (fs, rest)
unfolding fragments_at
fragments_again [] at rest all = refl
fragments_again (f ∷ fs) at rest all =
    let regrouped : flat_map fragment_bytes (f ∷ fs) ++ rest ≡ fragment_bytes f ++ (flat_map fragment_bytes fs ++ rest) = ap (λ (t : List ℕ). t ++ rest) (flat_map-cons fragment_bytes f fs) ∙ append_assoc (fragment_bytes f) (flat_map fragment_bytes fs) rest in
    ap (fragments_at (suc (length fs)) at) regrouped
    ∙ bind_again (fragment_at at (fragment_bytes f ++ (flat_map fragment_bytes fs ++ rest))) (f, flat_map fragment_bytes fs ++ rest) _ (Ok (f ∷ fs, rest)) (fragment_again at f (flat_map fragment_bytes fs ++ rest) all.0)
    (bind_again (fragments_at (length fs) (at + 33) (flat_map fragment_bytes fs ++ rest)) (fs, rest) _ (Ok (f ∷ fs, rest)) (fragments_again fs (at + 33) rest all.1) refl)

-- ---- what a put writes

put_takes : (at : ℕ) (bytes : List ℕ) (x : Value × List ℕ) → IsBytes bytes → put_at at bytes ≡ Ok x → Takes (1 ∷ bytes) (value_bytes x.0) x.1 × IsValue x.0
unfolding put_at
put_takes at bytes x fits e =
    let name = told_ok fault_of (name_at at bytes) _ x e in
    let len = told_ok fault_of (length_at (at + 8) name.0.1) _ x name.2 in
    let k = told_ok fault_of (data_at (at + 12) len.0.1) _ x len.2 in
    let m = told_ok fault_of (parity_at (at + 13) k.0.0 k.0.1) _ x k.2 in
    let fragments = bind_ok (fragments_at (k.0.0 + m.0.0) (at + 14) m.0.1) _ x m.2 in
    let t0 = name_takes at bytes name.0 fits name.1 in
    let t1 = length_takes (at + 8) name.0.1 len.0 t0.0.rest_fits len.1 in
    let t2 = data_takes (at + 12) len.0.1 k.0 t1.0.rest_fits k.1 in
    let t3 = parity_takes (at + 13) k.0.0 k.0.1 m.0 t2.0.rest_fits m.1 in
    let t4 = fragments_take (k.0.0 + m.0.0) (at + 14) m.0.1 fragments.0 t3.0.rest_fits fragments.1 in
    let made : PutData = record { name = name.0.0; length = len.0.0; k = k.0.0; m = m.0.0; fragments = fragments.0.0 } in
    let held = flat_map fragment_bytes fragments.0.0 in
    let from_m = Takes-then k.0.1 (m.0.0 ∷ []) m.0.1 held fragments.0.1 t3.0 t4.0 in
    let from_k = Takes-then len.0.1 (k.0.0 ∷ []) k.0.1 (m.0.0 ∷ held) fragments.0.1 t2.0 from_m in
    let from_length = Takes-then name.0.1 (to_be_bytes w32 len.0.0) len.0.1 (k.0.0 ∷ m.0.0 ∷ held) fragments.0.1 t1.0 from_k in
    let whole : Takes bytes (put_bytes made) fragments.0.1 = Takes-then bytes (name_bytes name.0.0) name.0.1 (object_bytes made ++ held) fragments.0.1 t0.0 from_length in
    subst (λ (y : Value × List ℕ). Takes (1 ∷ bytes) (value_bytes y.0) y.1 × IsValue y.0) (ok_is {E = RowError} (Put made, fragments.0.1) x fragments.2)
    (Takes-after 1 bytes (put_bytes made) fragments.0.1 whole, record { is_name = t0.1; is_data = record { bounded = t1.1; some = t2.1; few = t3.1; count = t4.1 }; fragments = t4.2 })

put_again : (at : ℕ) (put : PutData) (rest : List ℕ) → IsPut put → put_at at (put_bytes put ++ rest) ≡ Ok (Put put, rest)
unfolding put_at
put_again at put rest is =
    let held = flat_map fragment_bytes put.fragments ++ rest in
    told_again fault_of (name_at at (put_bytes put ++ rest)) (put.name, object_bytes put ++ held) _ (Ok (Put put, rest)) (name_again at put.name (object_bytes put ++ held) is.is_name)
    (told_again fault_of (length_at (at + 8) (object_bytes put ++ held)) (put.length, put.k ∷ put.m ∷ held) _ (Ok (Put put, rest)) (length_again (at + 8) put.length (put.k ∷ put.m ∷ held) is.is_data.bounded)
    (told_again fault_of (data_at (at + 12) (put.k ∷ put.m ∷ held)) (put.k, put.m ∷ held) _ (Ok (Put put, rest)) (data_again (at + 12) put.k (put.m ∷ held) is.is_data.some)
    (told_again fault_of (parity_at (at + 13) put.k (put.m ∷ held)) (put.m, held) _ (Ok (Put put, rest)) (parity_again (at + 13) put.k put.m held is.is_data.few)
    (bind_again (fragments_at (put.k + put.m) (at + 14) held) (put.fragments, rest) _ (Ok (Put put, rest))
    (ap (λ (n : ℕ). fragments_at n (at + 14) held) (sym is.is_data.count) ∙ fragments_again put.fragments (at + 14) rest is.fragments) refl))))

-- ---- values

tomb_takes : (at : ℕ) (bytes : List ℕ) (x : Value × List ℕ) → IsBytes bytes → tomb_at at bytes ≡ Ok x → Takes (0 ∷ bytes) (value_bytes x.0) x.1 × IsValue x.0
unfolding tomb_at
tomb_takes at bytes x fits e =
    let name = told_ok fault_of (name_at at bytes) _ x e in
    let took = name_takes at bytes name.0 fits name.1 in
    subst (λ (y : Value × List ℕ). Takes (0 ∷ bytes) (value_bytes y.0) y.1 × IsValue y.0) (ok_is {E = RowError} (Tomb name.0.0, name.0.1) x name.2)
    (Takes-after 0 bytes (name_bytes name.0.0) name.0.1 took.0, took.1)

pub value_takes : (at : ℕ) (bytes : List ℕ) (x : Value × List ℕ) → IsBytes bytes → value_at at bytes ≡ Ok x → Takes bytes (value_bytes x.0) x.1 × IsValue x.0
unfolding value_at
value_takes at bytes x fits e =
    let kind = told_ok fault_of (byte_at at bytes) _ x e in
    let took = byte_takes at bytes kind.0 fits kind.1 in
    let of_kind : Takes (kind.0.0 ∷ kind.0.1) (value_bytes x.0) x.1 × IsValue x.0 =
    elim (tested (eqb kind.0.0 0) (tomb_at (at + 1) kind.0.1) (cond (eqb kind.0.0 1) (put_at (at + 1) kind.0.1) (Err (errors.ValueField at))) x kind.2) [
      | inl tomb ↦ subst (λ (k : ℕ). Takes (k ∷ kind.0.1) (value_bytes x.0) x.1 × IsValue x.0) (sym (eqb-true _ _ tomb.0)) (tomb_takes (at + 1) kind.0.1 x took.0.rest_fits tomb.1)
      | inr other ↦
          elim (tested (eqb kind.0.0 1) (put_at (at + 1) kind.0.1) (Err (errors.ValueField at)) x other.1) [
            | inl put ↦ subst (λ (k : ℕ). Takes (k ∷ kind.0.1) (value_bytes x.0) x.1 × IsValue x.0) (sym (eqb-true _ _ put.0)) (put_takes (at + 1) kind.0.1 x took.0.rest_fits put.1)
            | inr none ↦ let never = none.1 in absurd cc
          ]
    ] in
    (subst (λ (t : List ℕ). Takes t (value_bytes x.0) x.1) (sym took.0.parts) of_kind.0, of_kind.1)

pub value_again : (at : ℕ) (x : Value) (rest : List ℕ) → IsValue x → value_at at (value_bytes x ++ rest) ≡ Ok (x, rest)
unfolding value_at tomb_at
value_again at (Tomb name) rest is = told_again fault_of (name_at (at + 1) (name_bytes name ++ rest)) (name, rest) _ (Ok (Tomb name, rest)) (name_again (at + 1) name rest is) refl
value_again at (Put put) rest is = put_again (at + 1) put rest is
