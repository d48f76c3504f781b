use Rattle.std.proofs.Common.{◌≡◌, refl, ◌≤◌, ◌++◌, ◌∷◌, ◌+◌, [], ℕ, List, length, length-append, ap, subst, sym, arith, ◌∙◌}
use Rattle.answer_rules.specs.Keys.{Key}
use Rattle.answer_rules.specs.Parts.{Part, Sums}
use Rattle.std.proofs.lemmas.List.Sums.{sum_by-cons}
use Rattle.answer_rules.specs.Gather.{Partial}
use Rattle.answer_rules.specs.Small.{rows_in}
use Rattle.partial_groups.specs.Groups.{AreAddable, gathered_of, group_by, most_rows}
use Rattle.partial_groups.specs.declared.group_entry.GroupEntry.{GroupEntry}
use Rattle.partial_groups.specs.Sharing.{HaveOwnParts}
use Rattle.partial_groups.proofs.Owning.{own_push}
use Rattle.partial_groups.proofs.Appending.{group_entry_from, put_addable, put_joins}
use Rattle.partial_groups.proofs.aggregation_table.put.Goals as goal

-- the group behind those that were there
new_of : (old reserved new : List GroupEntry) (key : Key) (rows by n some count : ℕ) → reserved ≡ old → new ≡ reserved ++ group_entry_from key rows by (by + some) ∷ [] → by ≡ n → some ≡ count → new ≡ old ++ group_entry_from key rows n (n + count) ∷ []
new_of old reserved new key rows by n some count e f g h =
    f ∙ ap (λ l. l ++ group_entry_from key rows by (by + some) ∷ []) e ∙ ap (λ k. old ++ group_entry_from key rows k (k + some) ∷ []) g
    ∙ ap (λ k. old ++ group_entry_from key rows n (n + k) ∷ []) h

new_group_entries : (c : goal.After-push_reserved) → c.push_reserved.new.self.items ≡ c.args.groups.now.items ++ group_entry_from c.args.key c.args.rows (length c.args.tallies.now.items) (length c.args.tallies.now.items + length c.args.parts.now) ∷ []
new_group_entries c =
    new_of c.args.groups.now.items c.reserve.new.list.items c.push_reserved.new.self.items c.args.key c.args.rows c.len-by.result (length c.args.tallies.now.items) (length c.args.parts.now) (length c.args.parts.now) c.reserve.ensures.same c.push_reserved.ensures.items (c.len-by.ensures ∙ c.args.tallies.now.ok.0) refl

-- the group's rows are few, and so are all
few : (c : goal.After-push_reserved) → (c.args.rows ≤ most_rows) × (rows_in (gathered_of c.args.tallies.now.items c.args.groups.now.items) + c.args.rows ≤ most_rows)
few c =
    let one = sum_by-cons (λ (g : Partial Key Sums). g.part.rows) (group_by c.args.key c.args.rows c.args.parts.now) [] in
    (omega (arith, c.requires.alike.few, one), omega (arith, c.requires.alike.few, one))

pub returns-clause-mine : goal.returns-clause-mine
returns-clause-mine c =
    subst (λ (parts : List Part). AreAddable parts c.push_reserved.new.self.items) (sym c.in_ok-put_parts.ensures.ok)
    (subst (λ (groups : List GroupEntry). AreAddable (c.args.tallies.now.items ++ c.args.parts.now) groups) (sym (new_group_entries c))
    (put_addable c.requires.alike.own c.args.tallies.now.items c.args.parts.now c.args.groups.now.items c.args.key c.args.rows c.requires.small (few c).0 c.requires.mine c.requires.alike.this c.requires.alike.that (few c).1))

pub returns-clause-put : goal.returns-clause-put
returns-clause-put c =
    ap (λ parts. gathered_of parts c.push_reserved.new.self.items) c.in_ok-put_parts.ensures.ok
    ∙ ap (gathered_of (c.args.tallies.now.items ++ c.args.parts.now)) (new_group_entries c)
    ∙ put_joins c.requires.alike.own c.args.tallies.now.items c.args.parts.now c.args.groups.now.items c.args.key c.args.rows c.requires.small (few c).0 c.requires.mine c.requires.alike.this c.requires.alike.that

pub overflow_add-by : goal.overflow_add-by
overflow_add-by c =
    let long : length c.put_parts.new.tallies.items ≡ length c.args.tallies.now.items + length c.args.parts.now = ap length c.in_ok-put_parts.ensures.ok ∙ length-append c.args.tallies.now.items c.args.parts.now in
    omega (arith, long, c.len-by.ensures, c.args.tallies.now.ok.0, c.put_parts.new.tallies.ok.0, c.put_parts.new.tallies.ok.1, c.put_parts.new.tallies.small)

pub returns-clause-own : goal.returns-clause-own
returns-clause-own c =
    subst HaveOwnParts (sym (new_group_entries c))
    (own_push (length c.args.tallies.now.items) c.args.groups.now.items (group_entry_from c.args.key c.args.rows (length c.args.tallies.now.items) (length c.args.tallies.now.items + length c.args.parts.now)) (omega arith) c.requires.mine.there c.requires.own)
