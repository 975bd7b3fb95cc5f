-- A lock may be shared among threads where its value may cross them.
use denote.RattleType.{RattleType}
use denote.Param.Send.{IsSend, IsSync, Frees, AllSync, sendable, struct_sync, recorded_sync}
use denote.Builtin.{u32}
use denote.Struct.Struct.{Struct}
use denote.Struct.Declared.{shape}
use Rattle.atomic_table.specs.declared.shared.TableRule as rule
use Rattle.std.specs.declared.alloc.Allocator as allocator
use Rattle.atomic_table.specs.contracts.owned.Table as table
use Rattle.atomic_table.proofs.shared.Shared.TheSendSync as shared
use Rattle.atomic_table.specs.contracts.shared.Seat as seat
use Rattle.atomic_table.proofs.shared.Seat.TheSendSync as seated
use Rattle.atomic_table.proofs.send_lease.SendLease.TheSendSync as lease
use Rattle.std.proofs.Crossing as heap
use Rattle.std.specs.contracts.option.Option as option
use Rattle.std.specs.contracts.snapshot.Snapshot as snapshot
use Rattle.std.specs.contracts.alloc.Global as global
use Rattle.std.specs.contracts.impls.GlobalAllocator.TheImpl as global_impl
use Rattle.gz_lock.specs.declared.turned.Turned.{Ghosts}
use Rattle.gz_lock.specs.contracts.views.SeatView as view
use Rattle.gz_lock.specs.contracts.rule.History as history
use Rattle.gz_lock.specs.contracts.rule.HistoryTableRuleOptionHeldEntryReplySeatViewEntryReplyU32.TheImpl as rule_impl
use Rattle.gz_lock.specs.contracts.views.Held as held
use Rattle.gz_lock.specs.contracts.lock.Lock.{the_row, the_type}

table_sync : (S W K P A : RattleType) (g : rule.Ghosts P.Denot S.Denot W.Denot K.Denot) (a : allocator.Ghosts A.Denot) → IsSend S → IsSend A → IsSync A → Frees a a.dealloc_token → IsSync (Struct (shape (table.the_type S W K P A g a)))
table_sync S W K P A g a send free_send free_sync frees = let fields : AllSync (shape (table.the_type S W K P A g a)).fields = (shared.the_sync S W K P g send, (search sendable, (search sendable, (lease.the_sync _ A a free_send frees, (lease.the_sync _ A a free_send frees, (free_sync, tt)))))) in
    struct_sync (shape (table.the_type S W K P A g a)) fields

-- it owns nothing
snapshot_send : (Y : RattleType) → IsSend (snapshot.the_row Y)
snapshot_send Y = record { owned = λ d vs. ((λ vss. (tt, ((λ uss. (tt, tt)), tt))), tt); leaving = λ k f vs. tt }

cell_send : (V E R : RattleType) → IsSend V → IsSend (option.the_row (held.the_row V E R))
cell_send V E R send = search (sendable, snapshot_send) depth 30

pub lock_sync : (V E R : RattleType) (g : Ghosts V.Denot E.Denot R.Denot) → IsSend V → IsSync (the_row V E R g)
lock_sync V E R g send = let table_is = table_sync (option.the_row (held.the_row V E R)) (view.the_row E R) u32 (history.the_row V) global.the_row (rule_impl.ghosts V E R g rule_impl.no_dict rule_impl.no_dict rule_impl.no_dict rule_impl.no_dict) global_impl.ghosts
    (cell_send V E R send) heap.send heap.sync heap.frees in
    let fields : AllSync (shape (the_type V E R g)).fields = (table_is, tt) in recorded_sync _ _ _ (the_type V E R g).to_one (struct_sync (shape (the_type V E R g)) fields)

pub seat_send : (V E R : RattleType) → IsSend V → IsSend (seat.the_row (option.the_row (held.the_row V E R)) (view.the_row E R))
seat_send V E R send = seated.the_send (option.the_row (held.the_row V E R)) (view.the_row E R) (cell_send V E R send)

-- for `search`
pub ruleset lock_crosses = (lock_sync, seat_send)
