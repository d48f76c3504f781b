use Rattle.std.proofs.Common.{◌≡◌, ◌∙◌, ap, length, rules}
use Rattle.column_lists.specs.Columns.{first_rows}
use Rattle.column_lists.proofs.lists.Lists.push.Goals as goal

pub returns-in-Err-clause-err : goal.returns-in-Err-clause-err
returns-in-Err-clause-err c =
    let count : c.len-count.result ≡ length c.args.self.now.ids = search (rules, ap (λ p. length p.ids) c.self.view_is) in
    c.truncate.ensures ∙ (ap (λ n. first_rows n c.push_parts.new.self) count ∙ c.in-Err.ensures.err)
