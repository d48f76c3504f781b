use Rattle.std.proofs.Common.{◌≡◌, ◌<◌, ◌∙◌, List, ap, length, sym, subst}
use Rattle.std.proofs.lemmas.Result.{IfOk-weaker}
use Rattle.table_rules.specs.Objects.{Catalogue, Obj}
use Rattle.sky_rules.specs.Partition.{Partition, chunk_count}
use Rattle.source_rules.specs.SourcePlaces.{chunk_sources}
use Rattle.source_rules.specs.Sources.{IsSourceTable, SourceTable}
use Rattle.source_row.specs.SourceColumns.{sources_at, sources_in}
use Rattle.answer_rules.specs.Pieces.{PieceView}
use Rattle.child_rules.specs.ChildPieces.{HasAllRows, rows_of_picks}
use Rattle.child_scan.specs.Scans.{pairs_of}
use Rattle.child_scan.proofs.Scanned.{all_sources, chunk_columns, in_sky}
use Rattle.child_scan.proofs.chunk.child_scan.Goals as goal

pub columns-requires : goal.columns-requires
columns-requires c = subst (λ (g : Partition). c.args.chunk < chunk_count g) (sym c.requires.plan) c.requires.there

pub scan_sources-requires-clause-sources : goal.scan_sources-requires-clause-sources
scan_sources-requires-clause-sources c =
    let table = c.args.sources.now.table in
    chunk_columns c.args.sources.now.plan c.args.sources.now.objects table c.args.chunk c.columns.result.now
    (subst (λ (t : SourceTable). IsSourceTable t) c.sources.ensures c.further_columns-width.ensures.limits) c.columns.ensures.even c.columns.ensures.wide c.columns.ensures.sources

pub scan_sources-requires-clause-width : goal.scan_sources-requires-clause-width
scan_sources-requires-clause-width c = c.further_columns-width.ensures.value ∙ ap (λ (t : SourceTable). length t.names) c.sources.ensures ∙ sym c.columns.ensures.wide

pub returns : goal.returns
returns c =
    let g = c.args.store.now.plan in
    let objects = c.args.store.now.rows.objects in
    let sources = c.args.sources.now.table.sources in
    let q = c.args.query.now.bound in
    let own : sources_in c.columns.result.now ≡ sources_at sources (chunk_sources g objects sources c.args.chunk) =
    c.columns.ensures.sources ∙ ap (λ (h : Partition). sources_at sources (chunk_sources h c.args.sources.now.objects sources c.args.chunk)) c.requires.plan
    ∙ ap (λ (os : List Obj). sources_at sources (chunk_sources g os sources c.args.chunk)) c.requires.objects in
    IfOk-weaker c.scan_sources.result _ _
    (λ (view : PieceView) h. all_sources g objects sources q c.args.chunk c.columns.result.now view c.within_limits.ensures.sky (in_sky c.args.store.now.rows c.within_limits.ensures.rows) c.within_limits.ensures.rows.ascend c.requires.there own
    (subst (λ (r : Catalogue). HasAllRows (rows_of_picks q (pairs_of r.objects q c.columns.result.now)) view) c.rows.ensures h))
    c.scan_sources.ensures
