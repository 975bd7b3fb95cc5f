-- What a `Tally` is after some turns.
use Rattle.std.specs.Prelude.{◌≡◌, ℕ, ◌+◌, true, List, [], ◌∷◌, map}
use Rattle.gz_lock.specs.Operations.{Operation}

abbrev pub AreRepliesFrom : ℕ → List (Operation ℕ ℕ) → Type 0
AreRepliesFrom n [] = Unit {0}
AreRepliesFrom n (op ∷ ops) = (op.reply ≡ n + 1) × (op.grew ≡ true) × AreRepliesFrom (n + 1) ops

-- the replies are 1, 2, .., and each turn grew
abbrev pub AreReplies : List (Operation ℕ ℕ) → Type 0
AreReplies ops = AreRepliesFrom 0 ops

abbrev pub entry_of : Operation ℕ ℕ → ℕ
entry_of op = op.entry

pub record IsTally (past : List ℕ) (ops : List (Operation ℕ ℕ)) : Type 0 where
  pub entries : map entry_of ops ≡ past
  pub replies : AreReplies ops

pub replies_follow : (past : List ℕ) (ops : List (Operation ℕ ℕ)) → IsTally past ops → AreReplies ops
replies_follow past ops stands = stands.replies
