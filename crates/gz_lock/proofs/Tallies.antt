-- A tally, after one turn more.
use Rattle.std.proofs.Common.{◌≡◌, ℕ, ◌+◌, true, List, [], ◌∷◌, ◌++◌, length, refl, sym, ap, ◌∙◌, arith}
use Rattle.std.proofs.lemmas.List.{map-append, length-map}
use Rattle.gz_lock.specs.Operations.{Operation, operation}
use Rattle.gz_lock.specs.Counted.{AreRepliesFrom, entry_of, IsTally}

reply_more : (n : ℕ) (ops : List (Operation ℕ ℕ)) (op : Operation ℕ ℕ) → AreRepliesFrom n ops → op.reply ≡ n + length ops + 1 → op.grew ≡ true → AreRepliesFrom n (ops ++ op ∷ [])
reply_more n [] op all next grew = (omega arith, grew, tt)
reply_more n (x ∷ xs) op all next grew = (all.0, all.1, reply_more (n + 1) xs op all.2 (omega arith) grew)

pub tally_more : (past : List ℕ) (ops : List (Operation ℕ ℕ)) (entry reply : ℕ) → IsTally past ops → reply ≡ length past + 1 → IsTally (past ++ entry ∷ []) (ops ++ operation entry reply true ∷ [])
tally_more past ops entry reply tally next = let long : length ops ≡ length past = sym (length-map ops entry_of) ∙ ap length tally.entries in record {
  entries = map-append entry_of ops (operation entry reply true ∷ []) ∙ ap (λ l. l ++ entry ∷ []) tally.entries;
  replies = reply_more 0 ops (operation entry reply true) tally.replies (omega arith) refl;
}
