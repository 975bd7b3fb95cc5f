use Rattle.std.proofs.Common.{◌+◌, Some, None, IfOk, refl, sym, subst}
use Rattle.gz_core.specs.declared.calls.Call.{Call}
use Rattle.gz_core.specs.declared.calls.Call.TheVariants.{Delete, Get, GetAt}
use Rattle.gz_round.specs.declared.run.Target.TheVariants.{Latest, At}
use Rattle.gz_core.specs.declared.values.Value.TheVariants.{Tomb}
use Rattle.gz_core.specs.Names.{Name}
use Rattle.gz_client.specs.Changes.{changed}
use Rattle.gz_client.specs.Traces.{Begins}
use Rattle.gz_client.proofs.Beginning.{begins_any}
use Rattle.gz_client.proofs.client.Client.begun.Goals as goal

pub returns-in-Delete-clause-ok : goal.returns-in-Delete-clause-ok
returns-in-Delete-clause-ok c =
    let name : Name = record { session = c.args.self.now.session; seq = c.args.self.now.calls + 1 } in
    subst (λ (call : Call). IfOk c.begin_rows.result (λ after. Begins c.args.self.now (changed c.args.self.now after.0) c.args.first call after.1)) (sym c.in-Delete.is)
    (begins_any c.args.self.now c.args.first (Delete c.in-Delete.key) c.in-Delete.key name Latest (Some (Tomb name)) c.begin_rows.result refl refl refl refl c.begin_rows.ensures.ok)

pub returns-in-Get-clause-ok : goal.returns-in-Get-clause-ok
returns-in-Get-clause-ok c =
    let name : Name = record { session = c.args.self.now.session; seq = c.args.self.now.calls + 1 } in
    subst (λ (call : Call). IfOk c.begin_rows-in-Get.result (λ after. Begins c.args.self.now (changed c.args.self.now after.0) c.args.first call after.1)) (sym c.in-Get.is)
    (begins_any c.args.self.now c.args.first (Get c.in-Get.key) c.in-Get.key name Latest None c.begin_rows-in-Get.result refl refl refl refl c.begin_rows-in-Get.ensures.ok)

pub returns-in-GetAt-clause-ok : goal.returns-in-GetAt-clause-ok
returns-in-GetAt-clause-ok c =
    let name : Name = record { session = c.args.self.now.session; seq = c.args.self.now.calls + 1 } in
    subst (λ (call : Call). IfOk c.begin_rows-in-GetAt.result (λ after. Begins c.args.self.now (changed c.args.self.now after.0) c.args.first call after.1)) (sym c.in-GetAt.is)
    (begins_any c.args.self.now c.args.first (GetAt c.in-GetAt.key c.in-GetAt.version) c.in-GetAt.key name (At c.in-GetAt.version) None c.begin_rows-in-GetAt.result refl refl refl refl c.begin_rows-in-GetAt.ensures.ok)
