use Rattle.std.proofs.Common.{◌∙◌, ◌&&◌, not, ap, get_or}
use Rattle.sky_vector.specs.Pos.{point}
use Rattle.sky_row.specs.Columns.{no_row}
use Rattle.sky_rules.specs.Bounds.{in_sub, near_sub}
use Rattle.chunk_store.proofs.Subs.{passes_at}
use Rattle.chunk_store.proofs.store.Store.is_beside.Goals as goal

pub returns : goal.returns
returns c =
    let at = c.position.ensures.value ∙ ap (λ s. (get_or s.rows.objects c.args.place no_row).at) c.self.view_is in
    c.is_near.ensures ∙ (ap (λ s. near_sub s.plan c.args.chunk c.args.sub (point c.position.result) && not (in_sub s.plan c.args.chunk c.args.sub (point c.position.result))) c.self.view_is
    ∙ passes_at (λ p. near_sub c.args.self.now.plan c.args.chunk c.args.sub p && not (in_sub c.args.self.now.plan c.args.chunk c.args.sub p)) c.args.self.now.rows.objects c.args.place _ c.requires.place at)
