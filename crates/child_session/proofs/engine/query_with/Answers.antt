use Rattle.std.proofs.Common.{◌∙◌, sym}
use Rattle.child_session.proofs.Scanning.{from_1, given, never_none, within}
use Rattle.child_session.proofs.engine.query_with.Goals as goal

pub overflow_sub-place : goal.overflow_sub-place
overflow_sub-place c = from_1 c.args.queries.now c.args.q c.requires

pub bounds-queries-place : goal.bounds-queries-place
bounds-queries-place c = within c.args.queries.now c.args.q c.requires

pub unreachable-requires : goal.unreachable-requires
unreachable-requires c =
    never_none c.args.queries.now c.args.q c.requires _ (sym c.index-queries-place.is ∙ c.in-None.is)

pub returns : goal.returns
returns c = given c.args.queries.now c.args.q c.requires _ _ (sym c.index-queries-place.is ∙ c.in-Some.is)
