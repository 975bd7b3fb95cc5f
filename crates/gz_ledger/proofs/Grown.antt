-- What stands behind votes and steps is kept where more is shown and sent.
use Rattle.std.proofs.Common.{◌≡◌, ℕ, ◌+◌, false, List, Some, None, inl, inr, arith}
use Rattle.gz_core.specs.Names.{Name, BallotAt, fast, same_ballot}
use Rattle.gz_core.specs.Slots.{Act, VotesFast, Promises, VotesClassic, Decides, Trims}
use Rattle.gz_core.specs.declared.slots.Slot.{Slot}
use Rattle.gz_core.specs.declared.slots.Slot.TheVariants.{Gone, DecidedAs, OpenAt}
use Rattle.gz_config.specs.declared.Config.{Config}
use Rattle.gz_core.proofs.Counting.{count_weaker}
use Rattle.gz_model.specs.Choosing.{IsSafe}
use Rattle.gz_ledger.specs.Histories.{RowSeen, Write, IsProposed, IsPromised, IsTrimSent}
use Rattle.gz_ledger.specs.Ledgers.{Ledger, standing_votes}
use Rattle.gz_ledger.proofs.Shown.{Includes, chosen_more}
use Rattle.gz_ledger.proofs.Sound.{IsBuilt, IsVoteSent, SlotOk, ActOk, IsOtherChosen}
use Rattle.gz_ledger.proofs.Stances.{Shrinks}

pub built_more : (cfg : Config) (seen more : List RowSeen) (v : ℕ) → Includes seen more → IsBuilt cfg seen v → IsBuilt cfg more v
built_more cfg seen more v i (inl e) = inl e
built_more cfg seen more v i (inr (u, e, y, h)) = inr (u, e, y, chosen_more cfg seen more u y i h)

pub proposed_more : (sent more : List Write) (v : ℕ) (x : Name) → Includes sent more → IsProposed sent v x → IsProposed more v x
proposed_more sent more v x i p = record { write = p.write; found = i p.write p.found; own = p.own; votes = p.votes }

pub promised_more : (sent more : List Write) (call : Name) (v : ℕ) (b : BallotAt) → Includes sent more → IsPromised sent call v b → IsPromised more call v b
promised_more sent more call v b i p = record { write = p.write; found = i p.write p.found; same = p.same; promises = p.promises }

trim_more : (sent more : List Write) (v : ℕ) → Includes sent more → IsTrimSent sent v → IsTrimSent more v
trim_more sent more v i t = record { write = t.write; found = i t.write t.found; to = t.to; value = t.value; trims = t.trims; within = t.within }

pub slot_more : (cfg : Config) (seen more : List RowSeen) (sent many : List Write) (v : ℕ) (slot : Slot) → Includes seen more → Includes sent many → SlotOk cfg seen sent v slot → SlotOk cfg more many v slot
slot_more cfg seen more sent many v Gone i j h = trim_more sent many v j h
slot_more cfg seen more sent many v (DecidedAs x) i j h = (chosen_more cfg seen more v x i h.0, built_more cfg seen more v i h.1)
slot_more cfg seen more sent many v (OpenAt p None) i j (inl e) = inl e
slot_more cfg seen more sent many v (OpenAt p None) i j (inr h) = inr (built_more cfg seen more v i h)
slot_more cfg seen more sent many v (OpenAt p (Some u)) i j h = record {
  built = built_more cfg seen more v i h.built;
  proposed = proposed_more sent many v u.1 j h.proposed;
  classic = λ (c : same_ballot u.0 fast ≡ false).
      let w : IsVoteSent sent v u.0 u.1 = h.classic c in
      (w.0, j w.0 w.1, w.2);
}

-- a safe value stays safe where sites stand for nothing new
pub safe_more : (cfg : Config) (l m : Ledger) (v : ℕ) (b : BallotAt) (x : Name) → Shrinks l m → IsSafe cfg.n cfg.qc cfg.qf (standing_votes l v) b x → IsSafe cfg.n cfg.qc cfg.qf (standing_votes m v) b x
safe_more cfg l m v b x sh safe c y lt ch =
    safe c y lt (omega (arith, ch, count_weaker cfg.n (standing_votes m v c y) (standing_votes l v c y) (sh v c y)))

pub act_more : (cfg : Config) (l m : Ledger) (call : Name) (act : Act) → Includes l.seen m.seen → Includes l.sent m.sent → Shrinks l m → ActOk cfg l call act → ActOk cfg m call act
act_more cfg l m call (VotesFast v x) i j sh h = (h.0, built_more cfg l.seen m.seen v i h.1)
act_more cfg l m call (Promises v b) i j sh h = (h.0, built_more cfg l.seen m.seen v i h.1)
act_more cfg l m call (VotesClassic v b x) i j sh h = record {
  classic = h.classic;
  built = built_more cfg l.seen m.seen v i h.built;
  safe = safe_more cfg l m v b x sh h.safe;
  promised = promised_more l.sent m.sent call v b j h.promised;
  proposed = proposed_more l.sent m.sent v x j h.proposed;
}
act_more cfg l m call (Decides v x) i j sh h = (chosen_more cfg l.seen m.seen v x i h.0, built_more cfg l.seen m.seen v i h.1)
act_more cfg l m call (Trims to x) i j sh h = (chosen_more cfg l.seen m.seen (to + 1) x i h.0, built_more cfg l.seen m.seen (to + 1) i h.1)

pub other_more : (cfg : Config) (seen more : List RowSeen) (v : ℕ) (x : Name) → Includes seen more → IsOtherChosen cfg seen v x → IsOtherChosen cfg more v x
other_more cfg seen more v x i (y, ne, h) = (y, ne, chosen_more cfg seen more v y i h)
