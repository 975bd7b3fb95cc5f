-- What a call writes is its own value: it has the call's name, and a call that has none is no write.
use Rattle.std.proofs.Common.{◌≡◌, Some, None, ap, ◌∙◌, subst}
use Rattle.std.specs.Prelude.{Option}
use Rattle.std.proofs.lemmas.Option.{same_Some}
use Rattle.gz_config.specs.declared.Config.{Config}
use Rattle.gz_core.specs.Names.{Name}
use Rattle.gz_core.specs.Puts.{PutData}
use Rattle.gz_core.specs.Values.{name_of}
use Rattle.gz_core.specs.declared.calls.Call.{Call}
use Rattle.gz_core.specs.declared.calls.Call.TheVariants.{Put, Delete}
use Rattle.gz_core.specs.declared.values.Value.{Value}
use Rattle.gz_core.specs.declared.values.Value.TheVariants.{Tomb, Put as PutOf}
use Rattle.gz_core.specs.History.{Caller}
use Rattle.gz_data.specs.Own.{IsOwn}
use Rattle.gz_history.specs.Answers.{IsWrite, IsPut, IsDelete}

pub own_of : (c : Config) (w : Caller) (o : Option Value) → IsOwn c w.name w.call w.own → w.own ≡ o → IsOwn c w.name w.call o
own_of c w o own e = subst (λ q. IsOwn c w.name w.call q) e own

pub own_named : (c : Config) (name : Name) (call : Call) (x : Value) → IsOwn c name call (Some x) → name_of x ≡ name
own_named c name (Put key bytes) x e = ap name_of (same_Some x (PutOf e.0) e.1) ∙ ap (λ (p : PutData). p.name) e.2.2
own_named c name (Delete key) x e = ap name_of (same_Some x (Tomb name) e)
own_named c name call x e = cc

pub own_writes : (c : Config) (name : Name) (call : Call) (x : Value) → IsOwn c name call (Some x) → IsWrite call
own_writes c name (Put key bytes) x e = tt
own_writes c name (Delete key) x e = tt
own_writes c name call x e = cc

pub no_write : (c : Config) (name : Name) (call : Call) → IsOwn c name call None → IsWrite call → ⊥
no_write c name (Put key bytes) e h = let none = e.1 in cc
no_write c name (Delete key) e h = cc
no_write c name call e h = h

-- a call whose own value is a put's is a put, and one whose own value is a tombstone deletes
pub own_put : (c : Config) (name : Name) (call : Call) (p : PutData) → IsOwn c name call (Some (PutOf p)) → IsPut call
own_put c name (Put key bytes) p e = tt
own_put c name call p e = cc

pub own_tomb : (c : Config) (name y : Name) (call : Call) → IsOwn c name call (Some (Tomb y)) → IsDelete call
own_tomb c name y (Delete key) e = tt
own_tomb c name y (Put key bytes) e = let tomb = e.1 in cc
own_tomb c name y call e = cc
