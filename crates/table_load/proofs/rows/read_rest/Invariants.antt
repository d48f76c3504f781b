use Rattle.std.proofs.Common.{◌≡◌, ◌+◌, length}
use Rattle.record_text.specs.Judged.{Judged}
use Rattle.table_load.proofs.rows.read_rest.Given as goal

abbrev pub invariant-loop-turn : goal.invariant-loop-turn
invariant-loop-turn g l = record {
  names : g.G.Gathering.names l.gathered ≡ g.G.Gathering.names l.fn.gathered;
  whole : g.G.Gathering.is_whole l.gathered;
  judged : Judged g.G.Gathering.form (length g.G.Gathering.form.first + length (g.G.Gathering.names l.fn.gathered)) l.fn.reader l.reader (g.G.Gathering.rows l.gathered);
}
