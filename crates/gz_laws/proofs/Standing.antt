-- The values of a world's rows have their fragments at sites: each is one that a put of the history writes.
use Rattle.std.proofs.Common.{◌≡◌, ℕ, zero, suc, ◌+◌, ◌≤◌, List, Some, None, true, map, refl, ap, sym, ◌∙◌, subst, arith}
use Rattle.std.proofs.lemmas.Bool.{and_from}
use Rattle.std.proofs.lemmas.Bool.Decides.{nat_tests}
use Rattle.std.proofs.lemmas.Option.{same_Some, none-some}
use Rattle.std.specs.Prelude.{Option, nat_lt}
use Rattle.std.specs.List.{list_all, range_with_len}
use Rattle.sha2.specs.Sha256.{sha256}
use Rattle.gz_config.specs.declared.Config.{Config}
use Rattle.gz_core.specs.Configurations.{IsConfig}
use Rattle.gz_core.specs.Names.{Name}
use Rattle.gz_core.specs.Rows.{RowAt}
use Rattle.gz_core.specs.declared.calls.Call.{Call}
use Rattle.gz_core.specs.declared.calls.Call.TheVariants.{Put, Delete}
use Rattle.gz_core.specs.declared.fragments.FragRef.{FragRef}
use Rattle.gz_core.specs.declared.requests.Op.{Op}
use Rattle.gz_core.specs.declared.requests.Op.TheVariants.{WriteRow}
use Rattle.gz_core.specs.declared.requests.Reply.{Reply}
use Rattle.gz_core.specs.declared.requests.Reply.TheVariants.{Row}
use Rattle.gz_core.specs.declared.values.Value.{Value}
use Rattle.gz_core.specs.declared.values.Value.TheVariants.{Tomb, Put as PutOf}
use Rattle.gz_data.specs.Own.{IsOwn, put_of, record_at}
use Rattle.gz_round.specs.Sites.{fragment_stands, value_stands}
use Rattle.gz_laws.specs.Valued.{AreGiven, IsGivenKept, IsGivenOp, IsGivenReply, AreValued}
use Rattle.gz_laws.specs.Runs.{key_asked}
use Rattle.gz_laws.specs.Rows.{IfKept, IfWritten, IfShown, EachRow}
use Rattle.gz_laws.proofs.RowBounds.{AreStanding}
use Rattle.gz_world.specs.States.{State}

abbrev fragment_at : (ℕ → List ℕ) → ℕ → FragRef
fragment_at f i = record { site = i; digest = sha256 (f i) }

-- a put's fragments lie at the sites of their indices
fragments_stand : (n i : ℕ) (f : ℕ → List ℕ) (count : ℕ) → i + count ≤ n → list_all (fragment_stands n) (map (fragment_at f) (range_with_len i count)) ≡ true
fragments_stand n i f zero few = refl
fragments_stand n i f (suc count) few =
    let t : nat_lt i n ≡ true = grind (arith, nat_tests) in
    and_from (nat_lt i n) (list_all (fragment_stands n) (map (fragment_at f) (range_with_len (i + 1) count))) t (fragments_stand n (i + 1) f count (omega (arith, few)))

own_stands : (c : Config) (name : Name) (call : Call) (x : Value) → IsConfig c → IsOwn c name call (Some x) → value_stands c.n x ≡ true
own_stands c name (Put key object) x sizes own =
    let pieces = own.2.0 in
    let is : x ≡ PutOf (put_of c name key object pieces) = same_Some x (PutOf own.0) own.1 ∙ ap PutOf own.2.2 in
    let few = sizes.pieces in
    subst (λ y. value_stands c.n y ≡ true) (sym is) (fragments_stand c.n 0 (record_at c name key object pieces) (c.k + c.m) (omega (arith, few)))
own_stands c name (Delete key) x sizes own = subst (λ y. value_stands c.n y ≡ true) (sym (same_Some x (Tomb name) own)) refl
own_stands c name call x sizes own = absurd (none-some x (sym own))

given_stands : (s : State) (key : List ℕ) (row : RowAt) → IsConfig s.cfg → AreGiven s.cfg s.calls key row → AreStanding s.cfg.n row
given_stands s key row sizes given v x e = let k = (given v x e).0 in own_stands s.cfg k.1.name k.1.call x sizes k.3

-- so have all of a world's rows
pub rows_standing : (s : State) → IsConfig s.cfg → AreValued s → EachRow (AreStanding s.cfg.n) s
rows_standing s sizes v = record {
  sites = λ i told key is. kept_standing key (told.rows key) (v.sites i told key is);
  requests = λ n r at. op_standing r.op (v.requests n r at);
  replies = λ n place tick r reply at has. reply_standing (key_asked r.op) reply (v.replies n place tick r reply at has);
}
  where
    kept_standing : (key : List ℕ) (o : Option (ℕ × RowAt)) → IsGivenKept s.cfg s.calls key o → IfKept (AreStanding s.cfg.n) o
    kept_standing key None h = tt
    kept_standing key (Some kept) h = given_stands s key kept.1 sizes h

    op_standing : (op : Op) → IsGivenOp s.cfg s.calls op → IfWritten (AreStanding s.cfg.n) op
    op_standing (WriteRow key expect step row) h = given_stands s key row sizes h
    op_standing op h = tt

    reply_standing : (key : List ℕ) (reply : Reply) → IsGivenReply s.cfg s.calls key reply → IfShown (AreStanding s.cfg.n) reply
    reply_standing key (Row etag row) h = given_stands s key row sizes h
    reply_standing key reply h = tt
