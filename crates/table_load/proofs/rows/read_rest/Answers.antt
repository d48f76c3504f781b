use Rattle.std.proofs.Common.{◌∙◌}
use Rattle.record_text.proofs.Steps.{both_of, ended, kept, refused, small_fields, stop_by}
use Rattle.table_load.proofs.rows.read_rest.Goals as goal

pub add-requires-clause-small : goal.add-requires-clause-small
add-requires-clause-small g c =
    let (all, still) = c.requires.gives in
    let (rest, gives, same) = c.loop-turn.invariant.judged all still in
    small_fields c.in-Ok.found c.read_next.new.fields c.read_next.new.reader rest c.if-not-found.false (c.in-Ok.ensures rest gives)

pub returns-in-Err-clause-bad : goal.returns-in-Err-clause-bad
returns-in-Err-clause-bad g c =
    let wrong = rw c.loop-turn.invariant.names at c.in-Err.ensures.bad in
    stop_by c.in-Err.stop _ _ (λ f h. refused g.G.Gathering.form _ c.args.reader c.loop-turn.reader c.read_next.new.reader (g.G.Gathering.rows c.loop-turn.gathered) _ c.read_next.new.fields c.in-Ok.found f c.if-not-found.false c.in-Ok.ensures h.0 h.1 c.loop-turn.invariant.judged)
    (both_of c.in-Err.stop _ _ wrong c.in-Err.ensures.same)

pub loop-turn-preserved : goal.loop-turn-preserved
loop-turn-preserved g c =
    let none = rw c.loop-turn.invariant.names at c.in_default-add.ensures.none in
    record {
      names = c.in_default-add.ensures.names ∙ c.loop-turn.invariant.names;
      whole = c.in_default-add.ensures.whole;
      judged = kept g.G.Gathering.form _ c.args.reader c.loop-turn.reader c.read_next.new.reader (g.G.Gathering.rows c.loop-turn.gathered) _ c.read_next.new.fields c.in-Ok.found c.if-not-found.false c.in-Ok.ensures none c.in_default-add.ensures.ok c.loop-turn.invariant.judged;
    }

pub returns-then-not-found-clause-ok : goal.returns-then-not-found-clause-ok
returns-then-not-found-clause-ok g c =
    ended g.G.Gathering.form _ c.args.reader c.loop-turn.reader c.read_next.new.reader (g.G.Gathering.rows c.loop-turn.gathered) c.read_next.new.fields c.in-Ok.found c.if-not-found.true c.in-Ok.ensures c.loop-turn.invariant.judged
