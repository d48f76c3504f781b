-- Which parts of the root of the pieces and of the engine may cross to the thread of a worker, as a set for `search`.
use denote.Param.Send.{IsSync, sendable}
use Rattle.std.proofs.Crossing.{crosses}
use Rattle.chunk_store.below.column_block.proofs.block.Block.TheSendSync as block
use Rattle.chunk_store.proofs.lists.Lists.TheSendSync as lists
use Rattle.chunk_store.proofs.store.Store.TheSendSync as store
use Rattle.sky_plan.proofs.plan.SkyPlan.TheSendSync as sky_plan
use Rattle.sky_plan.proofs.stripe.Stripe.TheSendSync as stripe
use Rattle.column_lists.proofs.column.Column.TheSendSync as column
use Rattle.sky_row.proofs.columns.Columns.TheSendSync as columns
use Rattle.column_lists.proofs.lists.Lists.TheSendSync as lists_of_sky_row
use Rattle.sky_row.proofs.rows.Rows.TheSendSync as rows
use Rattle.sky_row.proofs.schema.Schema.TheSendSync as schema
use Rattle.sky_vector.proofs.direction.Dir.TheSendSync as dir
use Rattle.sky_vector.proofs.position.Pos.TheSendSync as pos
use Rattle.sql_bound.proofs.area.AreaTest.TheSendSync as area_test
use Rattle.sql_bound.proofs.cond.BoundPred.TheLaws.TheKnot as conds
use Rattle.sql_bound.proofs.expr.BoundAtom.TheLaws.TheKnot as exprs
use Rattle.sql_bound.proofs.expr.BoundCol.TheSendSync as bound_col
use Rattle.sql_bound.proofs.query.Shape.TheSendSync as shape
use Rattle.sql_bound.proofs.radius.SquaredRadius.TheSendSync as squared_radius
use Rattle.sql_token.proofs.int.Int.TheSendSync as int
use Rattle.sql_tree.proofs.cond.Cmp.TheSendSync as cmp
use Rattle.sqlite_items.proofs.boxed.Boxed.TheSendSync as boxed
use Rattle.sqlite_items.proofs.items.Items.TheSendSync as items
use Rattle.std.proofs.alloc.Global.TheSendSync as std_global
use Rattle.std.proofs.boxed.Box.TheSendSync as std_box
use Rattle.std.proofs.option.Option.TheSendSync as std_option
use Rattle.std.proofs.rt.Memory.TheSendSync as std_memory
use Rattle.std.proofs.vec.Vec.TheSendSync as std_vec
use Rattle.answer_rules.specs.contracts.rewritten.ChunkQuery as chunk_query

pub ruleset crossing = (
  lists.the_send,
  lists.the_sync,
  store.the_send,
  store.the_sync,
  block.the_send,
  block.the_sync,
  std_option.the_field_send,
  std_option.the_send,
  std_option.the_field_sync,
  std_option.the_sync,
  std_memory.the_field_send,
  std_memory.the_send,
  std_memory.the_field_sync,
  std_memory.the_sync,
  sky_plan.the_send,
  sky_plan.the_sync,
  stripe.the_send,
  stripe.the_sync,
  column.the_send,
  column.the_sync,
  columns.the_send,
  columns.the_sync,
  lists_of_sky_row.the_send,
  lists_of_sky_row.the_sync,
  rows.the_send,
  rows.the_sync,
  schema.the_send,
  schema.the_sync,
  dir.the_field_send,
  dir.the_send,
  dir.the_field_sync,
  dir.the_sync,
  pos.the_field_send,
  pos.the_send,
  pos.the_field_sync,
  pos.the_sync,
  area_test.the_field_send,
  area_test.the_send,
  area_test.the_field_sync,
  area_test.the_sync,
  bound_col.the_field_send,
  bound_col.the_send,
  bound_col.the_field_sync,
  bound_col.the_sync,
  shape.the_field_send,
  shape.the_send,
  shape.the_field_sync,
  shape.the_sync,
  squared_radius.the_send,
  squared_radius.the_sync,
  int.the_send,
  int.the_sync,
  cmp.the_field_send,
  cmp.the_send,
  cmp.the_field_sync,
  cmp.the_sync,
  boxed.the_send,
  boxed.the_sync,
  items.the_send,
  items.the_sync,
  std_box.the_send,
  std_box.the_sync,
  std_vec.the_send,
  std_vec.the_sync,
  std_global.the_field_send,
  std_global.the_send,
  std_global.the_field_sync,
  std_global.the_sync,
  crosses,
  conds.crosses,
  exprs.crosses,
  sendable,
)

-- a chunk query may be read by all workers
pub chunk_query_sync : IsSync chunk_query.the_row
chunk_query_sync = search crossing depth 60 fits 20000

-- the engine, which reads chunk queries
pub ruleset engine_crossing = (chunk_query_sync, crossing)
