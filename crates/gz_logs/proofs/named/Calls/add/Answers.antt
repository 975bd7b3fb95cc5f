use Rattle.std.proofs.Common.{Bool, true, cond, List, [], ◌∷◌, ◌++◌, ap, sym, ◌∙◌}
use Rattle.gz_history.specs.declared.record.CallRec.{CallRec}
use Rattle.gz_logs.specs.Named.{same_name, is_named}
use Rattle.gz_logs.proofs.NameLemmas.{named_more}
use Rattle.gz_logs.proofs.named.Calls.add.Goals as goal

pub invariant_of-self-2 : goal.invariant_of-self-2
invariant_of-self-2 c = record {
  tied = λ n.
      c.in_ok-insert.ensures.updates.0 n
      ∙ ap (λ (b : Bool). cond (same_name c.args.call.name n) true b) (c.args.self.now.tied n)
      ∙ sym (named_more c.args.self.now.list.items c.args.call n)
      ∙ ap (λ (xs : List CallRec). is_named n (xs ++ c.args.call ∷ [])) (sym c.reserve.ensures.items)
      ∙ ap (λ (xs : List CallRec). is_named n xs) (sym c.push_reserved.ensures.items);
}
