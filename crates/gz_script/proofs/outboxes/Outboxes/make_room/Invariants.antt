use Rattle.std.proofs.Common.{ℕ, ◌≡◌, ◌-◌, vec_len}
use Rattle.gz_script.specs.Outboxes.{outbox_of}
use Rattle.gz_script.proofs.outboxes.Outboxes.make_room.Given as goal

abbrev pub invariant-loop-session : goal.invariant-loop-session
invariant-loop-session l = record {
  seen : l.self.seen ≡ l.initial.self.seen;
  same : (s : ℕ) → outbox_of l.self.lists.items s ≡ outbox_of l.initial.self.lists.items s;
}

abbrev pub decreases-loop-session : goal.decreases-loop-session
decreases-loop-session l = l.session - vec_len l.self.lists
