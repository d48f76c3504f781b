use Rattle.std.proofs.Common.{◌∙◌, ap, get_or}
use Rattle.sky_vector.specs.Pos.{point}
use Rattle.sky_row.specs.Columns.{no_row}
use Rattle.sky_rules.specs.Bounds.{in_sub}
use Rattle.chunk_store.proofs.Subs.{passes_at}
use Rattle.chunk_store.proofs.store.Store.holds.Goals as goal

pub returns : goal.returns
returns c =
    let at = c.position.ensures.value ∙ ap (λ s. (get_or s.rows.objects c.args.place no_row).at) c.self.view_is in
    c.is_in.ensures ∙ (ap (λ s. in_sub s.plan c.args.chunk c.args.sub (point c.position.result)) c.self.view_is
    ∙ passes_at (λ p. in_sub c.args.self.now.plan c.args.chunk c.args.sub p) c.args.self.now.rows.objects c.args.place _ c.requires.place at)
