-- The digest that is kept of a fragment is that of its record.
use Rattle.std.proofs.Common.{◌≡◌, ℕ, ◌+◌, ◌<◌, ◌≤◌, List, Option, Some, None, length, sym, ap, ◌∙◌, arith}
use Rattle.std.proofs.lemmas.List.FromFn.{get_or-map-range_with_len}
use Rattle.sha2.specs.Sha256.{sha256}
use Rattle.gz_config.specs.declared.Config.{Config}
use Rattle.gz_core.specs.Names.{Name}
use Rattle.gz_core.specs.Puts.{PutData}
use Rattle.gz_core.specs.declared.fragments.FragRef.{FragRef}
use Rattle.gz_core.specs.declared.values.Value.TheVariants.{Put as PutOf}
use Rattle.gz_core.specs.declared.calls.Call.{Call}
use Rattle.gz_core.specs.declared.calls.Call.TheVariants.{Put, Delete, Get, GetAt, Collect}
use Rattle.gz_code.specs.CodeWord.{IsSplit}
use Rattle.gz_code.proofs.OneSplit.{one_split}
use Rattle.gz_data.specs.Own.{record_at, put_of, IsPutOf, IsOwn, IsRecordOfPut, IsRecordOf, no_fragment, digest_at}

module _ (c : Config) (name : Name) (key object : List ℕ) (fits : c.k + c.m ≤ 256) where
  -- of an object that is cut into these pieces
  pub digest_of_cut : (pieces : List (List ℕ)) (i : ℕ) (bytes : List ℕ) → IsSplit c.k c.m object pieces → IsRecordOfPut c name key object i bytes → digest_at (put_of c name key object pieces) i ≡ sha256 bytes
  digest_of_cut pieces i bytes split made =
      let same : made.0 ≡ pieces = one_split c.k c.m object made.0 pieces fits made.1 split in
      let f = record_at c name key object pieces in
      ap (λ (r : FragRef). r.digest) (get_or-map-range_with_len (λ j. record { site = j; digest = sha256 (f j) }) 0 (c.k + c.m) i i no_fragment made.2 (omega arith))
      ∙ ap sha256 (ap (λ (ps : List (List ℕ)). record_at c name key object ps i) (sym same) ∙ sym made.3)

  pub digest_of_put : (x : PutData) (i : ℕ) (bytes : List ℕ) → IsPutOf c name key object x → IsRecordOfPut c name key object i bytes → digest_at x i ≡ sha256 bytes
  digest_of_put x i bytes own made = ap (λ (y : PutData). digest_at y i) own.2 ∙ digest_of_cut own.0 i bytes own.1 made

-- what the own value of a put is
pub own_is_put : (c : Config) (name : Name) (key object : List ℕ) (x : PutData) → IsOwn c name (Put key object) (Some (PutOf x)) → IsPutOf c name key object x
own_is_put c name key object x own =
    let same : x ≡ own.0 = cc own.1 in
    (own.2.0, own.2.1, same ∙ own.2.2)

pub digest_of_record : (c : Config) (name : Name) (call : Call) (x : PutData) (i : ℕ) (bytes : List ℕ)
    → c.k + c.m ≤ 256 → IsOwn c name call (Some (PutOf x)) → IsRecordOf c name call i bytes → digest_at x i ≡ sha256 bytes
digest_of_record c name (Put key object) x i bytes fits own made = digest_of_put c name key object fits x i bytes (own_is_put c name key object x own) made
digest_of_record c name (Delete key) x i bytes fits own made = absurd made
digest_of_record c name (Get key) x i bytes fits own made = absurd made
digest_of_record c name (GetAt key version) x i bytes fits own made = absurd made
digest_of_record c name (Collect key keep) x i bytes fits own made = absurd made
