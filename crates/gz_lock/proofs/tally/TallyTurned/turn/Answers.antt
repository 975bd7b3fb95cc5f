use Rattle.std.proofs.Common.{rules, ◌≡◌, ◌+◌, ◌++◌, [], ◌∷◌, true, length, subst, sym, ap, ◌∙◌, length-append}
use Rattle.gz_lock.specs.Operations.{operation}
use Rattle.gz_lock.specs.Counted.{IsTally}
use Rattle.gz_lock.proofs.Tallies.{tally_more}
use Rattle.gz_lock.proofs.tally.TallyTurned.turn.Goals as goal

pub returns-clause-ok : goal.returns-clause-ok
returns-clause-ok c = let past = c.args.self.now.past.items in let items : c.push.new.self.items ≡ past ++ c.args.entry ∷ [] = search rules in
    let reply : c.len.result ≡ length c.push.new.self.items = search rules in let next : c.len.result ≡ length past + 1 = reply ∙ (ap length items ∙ length-append past (c.args.entry ∷ [])) in record {
      grew = true;
      past_after = items;
      stands_after = λ turns stands. subst (λ l. IsTally l (turns ++ operation c.args.entry c.len.result true ∷ [])) (sym items) (tally_more past turns c.args.entry c.len.result stands next);
    }
