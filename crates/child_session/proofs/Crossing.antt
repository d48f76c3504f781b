-- Which parts of the root of child pieces may cross to the thread of a worker, beside those that `czar` lists, as a set for
-- `search`.
use denote.Param.Send.{IsSend, IsSync, sendable}
use denote.Ref.{NamedLft}
use Rattle.czar.proofs.Crossing.{crossing as of_objects}
use Rattle.child_piece.specs.contracts.root.ChildRoot as child_root
use Rattle.child_rules.specs.contracts.bound.ChildBound as child_query
use Rattle.source_row.proofs.lists.SourceLists.TheSendSync as source_lists
use Rattle.source_row.proofs.schema.SourceSchema.TheSendSync as source_schema
use Rattle.source_row.proofs.sources.Sources.TheSendSync as sources
use Rattle.source_store.proofs.store.SourceStore.TheSendSync as source_store
use Rattle.child_piece.proofs.piece.ChildPiece.TheSendSync as piece
use Rattle.scan_board.proofs.shared_board.SharedBoard.TheSendSync as shared_board
use Rattle.scan_core.proofs.board.Board.TheSendSync as board
use Rattle.turn_lock.proofs.seat.Seat.TheSendSync as seat
use Rattle.child_session.proofs.world.ChildWorld.TheSendSync as child_world

pub ruleset parts = (
  of_objects,
  source_lists.the_send,
  source_lists.the_sync,
  source_schema.the_send,
  source_schema.the_sync,
  sources.the_send,
  sources.the_sync,
  source_store.the_send,
  source_store.the_sync,
  child_world.the_send,
  child_world.the_sync,
)

-- a child query may be given to a worker, and be read by all
pub child_query_send : IsSend child_query.the_row
child_query_send = search parts depth 60 fits 20000

pub child_query_sync : IsSync child_query.the_row
child_query_sync = search parts depth 60 fits 20000

-- the root of the pieces, which has child queries, and the engine, which reads them
pub ruleset crossing = (child_query_send, child_query_sync, parts)

-- the root of child pieces may be moved to a worker, and be read by all
pub root_send : (κ : NamedLft) → IsSend (child_root.the_row κ)
root_send κ = search crossing depth 60 fits 20000

pub root_sync : (κ : NamedLft) → IsSync (child_root.the_row κ)
root_sync κ = search crossing depth 60 fits 20000

-- a board of child pieces, and a participant of it
pub ruleset board_crossing = (shared_board.the_sync, seat.the_send, board.the_send, piece.the_send, root_send, sendable)
