-- An auction may move to any thread, and any thread may share a board.
use Prim.Native.Nat.{ℕ}
use mathlib.Core.List.{List, [], ◌∷◌}
use mir.Syntax.{Lifetime}
use base.Fml.{Lft}
use denote.RattleType.{RattleType}
use denote.Ref.{ShrRef}
use denote.Struct.Tuple.{TupleAt}
use denote.Param.Send.{IsSend, IsSync, sendable}
use Rattle.std.proofs.Crossing.{crosses}
use Rattle.std.proofs.MapsCrossing.{crosses as maps}
use denote.Builtin.{u32, usize}
use Rattle.std.specs.contracts.sync.Arc as Arc
use Rattle.std.specs.contracts.vec.Vec as Vec
use Rattle.std.specs.contracts.alloc.Global as Heap
use Rattle.std.specs.contracts.impls.GlobalAllocator.TheImpl.{ghosts}
use Rattle.answer_board.specs.contracts.board.Board as Board
use Rattle.pack_defs.specs.contracts.order.Order as Order
use Rattle.answer_board.specs.contracts.kept.Kept as Kept
use Rattle.pack_defs.specs.contracts.book.Book as Book
use Rattle.pack_defs.specs.contracts.channel_map.ChannelMap as ChannelMap
use Rattle.pack_defs.specs.contracts.fall.Fall as Fall
use Rattle.pack_defs.specs.contracts.items.Items as Items
use Rattle.pack_defs.specs.contracts.owners.Owners as Owners
use Rattle.pack_defs.specs.contracts.scenario.Scenario as Scenario
use Rattle.rup_check.specs.contracts.line.Line as Line
use Rattle.rup_check.specs.contracts.line.Log as Log
use Rattle.cert_types.specs.contracts.answer.Receipt as Receipt
use Rattle.cert_types.specs.contracts.answer.Refutation as Refutation
use Rattle.atomic_table.proofs.send_lease.SendLease.TheSendSync.{the_sync as lease_sync}
use Rattle.atomic_table.proofs.shared.Seat.TheSendSync.{the_send as seat_send}
use Rattle.atomic_table.proofs.shared.Shared.TheSendSync.{the_sync as shared_sync}
use Rattle.turn_lock.specs.contracts.lock.Pass as Pass
use Rattle.answer_board.specs.contracts.kept.KeptChronicle.TheImpl.{ghosts as kept}
use Rattle.auction_core.specs.contracts.auction.Auction as Auction
use Rattle.auction_core.specs.contracts.clock.Clock as Clock
use Rattle.auction_core.specs.contracts.setup.Setup as Setup
use Rattle.auction_core.specs.contracts.step_list.StepList as StepList
use Rattle.auction_core.specs.contracts.test_history.TestHistory as TestHistory
use Rattle.auction_core.specs.contracts.query_session.QuerySession as QuerySession
use Rattle.auction_core.specs.contracts.clock_run.ClockRun as ClockRun
use Rattle.auction_core.specs.contracts.pending_receipts.PendingReceipts as PendingReceipts
use Rattle.auction_core.specs.contracts.record.Shown as Shown
use Rattle.auction_core.specs.contracts.posting.Entry as Entry

pub items-send : (T : RattleType) → IsSend T → IsSend (Items.the_row T)
items-send T s = search (crosses, sendable) depth 30

pub map-send : IsSend ChannelMap.the_row
map-send = search (crosses, sendable) depth 30

pub line-send : IsSend Line.the_row
line-send = search (items-send, crosses, sendable) depth 30

pub log-send : IsSend Log.the_row
log-send = search (line-send, items-send, crosses, sendable) depth 30

pub receipt-send : IsSend Receipt.the_row
receipt-send = search (log-send, items-send, crosses, sendable) depth 30

pub refutation-send : IsSend Refutation.the_row
refutation-send = search (log-send, items-send, crosses, sendable) depth 30

pub shown-send : IsSend Shown.the_row
shown-send = search (map-send, receipt-send, refutation-send, items-send, crosses, sendable) depth 30

pub steps-send : IsSend StepList.the_row
steps-send = search (shown-send, crosses, sendable) depth 30

pub test_history-send : IsSend TestHistory.the_row
test_history-send = search (steps-send, crosses, sendable) depth 30

pub clock-send : IsSend Clock.the_row
clock-send = search (crosses, sendable) depth 30

pub clock_run-send : IsSend ClockRun.the_row
clock_run-send = search (shown-send, test_history-send, clock-send, crosses, sendable) depth 30

pub book-send : IsSend Book.the_row
book-send = search (crosses, sendable) depth 30

pub book-sync : IsSync Book.the_row
book-sync = search (crosses, sendable) depth 30

pub owners-send : IsSend Owners.the_row
owners-send = search (maps, crosses, sendable) depth 40

pub scenario-send : IsSend Scenario.the_row
scenario-send = search (items-send, owners-send, crosses, sendable) depth 30

shared-send : IsSend (Arc.the_field Book.the_row Heap.the_row ghosts).row
shared-send = search (book-send, book-sync, crosses, sendable) depth 30

order-field : IsSend (Order.the_field).row
order-field = search (crosses, sendable) depth 30

fall-field : IsSend (Fall.the_field).row
fall-field = search (items-send, crosses, sendable) depth 40

scenario-field : IsSend (Scenario.the_field).row
scenario-field = search (items-send, fall-field, owners-send, crosses, sendable) depth 60 fits 100000

prices-field : IsSend (Vec.the_field u32 Heap.the_row ghosts).row
prices-field = search (crosses, sendable) depth 30

places-field : IsSend (Vec.the_field usize Heap.the_row ghosts).row
places-field = search (crosses, sendable) depth 30

pub setup-send : IsSend Setup.the_row
setup-send = search (shared-send, scenario-field, order-field, prices-field, places-field, sendable) depth 40 fits 100000

pub query_session-send : IsSend QuerySession.the_row
query_session-send = search (setup-send, clock_run-send, crosses, sendable) depth 30

pub pending_receipts-send : IsSend PendingReceipts.the_row
pending_receipts-send = search (receipt-send, crosses, sendable) depth 30

pub entry-send : IsSend Entry.the_row
entry-send = search (crosses, sendable) depth 30

pub auction-send : IsSend Auction.the_row
auction-send = search (query_session-send, pending_receipts-send, entry-send, crosses, sendable) depth 30

pub kept-send : IsSend Kept.the_row
kept-send = search (auction-send, crosses, sendable) depth 30

pub board-sync : IsSync Board.the_row
board-sync = search (kept-send, book-send, book-sync, shared_sync, lease_sync, crosses, sendable) depth 30

pub pass-send : IsSend (Pass.the_row Kept.the_row QuerySession.the_row Entry.the_row kept)
pass-send = search (kept-send, seat_send, crosses, sendable) depth 30

-- The captures of a closure.
pub captured-sync : (name : List ℕ) (l₁ l₂ l₃ l₄ : Lifetime) (κ₁ κ₂ κ₃ κ₄ : Lft) (A B C D : RattleType) → IsSync A → IsSync B → IsSync C → IsSync D
    → IsSync (TupleAt name (ShrRef l₁ κ₁ A ∷ ShrRef l₂ κ₂ B ∷ ShrRef l₃ κ₃ C ∷ ShrRef l₄ κ₄ D ∷ []))
captured-sync name l₁ l₂ l₃ l₄ κ₁ κ₂ κ₃ κ₄ A B C D a b c d = search sendable depth 20
