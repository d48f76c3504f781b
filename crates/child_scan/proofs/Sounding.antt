-- What a child query asks of a pair: columns that are there.
use Rattle.std.proofs.Common.{◌≡◌, Bool, true, false, List, [], ◌∷◌, Option, Some, None, refl, subst}
use Rattle.std.specs.Prelude.{pos}
use Rattle.std.specs.List.{list_all}
use Rattle.std.proofs.lemmas.Bool.{and_parts, and_from}
use Rattle.table_rules.specs.declared.limits.TheConstants.{COLUMNS_MOST}
use Rattle.sql_bound.specs.declared.expr.BoundCol.{BoundCol}
use Rattle.sql_bound.specs.declared.query.Bound.{Bound}
use Rattle.sql_bound.specs.declared.query.BoundItem.{BoundItem}
use Rattle.sql_bound.specs.declared.query.BoundItem.TheVariants as item
use Rattle.sql_bound.specs.declared.query.BoundKey.{BoundKey}
use Rattle.sql_bound.specs.declared.query.BoundKey.TheVariants.{Item, Column}
use Rattle.sql_bound.specs.declared.query.BoundOrder.{BoundOrder}
use Rattle.sql_bound.specs.declared.query.Shape.{Shape}
use Rattle.sql_bound.specs.declared.query.Shape.TheVariants.{Pairs}
use Rattle.value_rules.specs.Sound.{has_col, is_paired, is_plain_col, is_sound_cond, is_sound_expr, is_sound_order}
use Rattle.value_rules.specs.Sound.{is_sound_item as is_allowed_item, is_sound_key as is_allowed_key}
use Rattle.child_rules.specs.Children.{IsChild}
use Rattle.child_scan.specs.SoundPairs.{IsSoundPair, is_pair_key, is_pair_item, is_pair_order}

wrong : {A : Type 0} → false ≡ true → A
wrong h = absurd (cc)

-- the columns of a pair
abbrev both : BoundCol → Bool
both = has_col COLUMNS_MOST true

items_sound : (items : List BoundItem) → list_all (is_allowed_item COLUMNS_MOST (Pairs (pos 0))) items ≡ true → list_all (is_pair_item both) items ≡ true
items_sound [] h = refl
items_sound (item.Plain e ∷ items) h =
    let p = and_parts (is_sound_expr both e) (list_all (is_allowed_item COLUMNS_MOST (Pairs (pos 0))) items) h in
    and_from (is_sound_expr both e) (list_all (is_pair_item both) items) p.0 (items_sound items p.1)
items_sound (item.Count ∷ items) h = wrong h
items_sound (item.CountOf e ∷ items) h = wrong h
items_sound (item.Sum e ∷ items) h = wrong h
items_sound (item.Min e ∷ items) h = wrong h
items_sound (item.Max e ∷ items) h = wrong h
items_sound (item.Avg e ∷ items) h = wrong h

key_of : (q : Bound) (order : Option BoundOrder) → q.shape ≡ Pairs (pos 0) → is_sound_order COLUMNS_MOST q order ≡ true → is_pair_order both order ≡ true
key_of q None s h = refl
key_of q (Some order) s h = by_key order.key h
  where
    by_key : (k : BoundKey) → is_allowed_key COLUMNS_MOST q k ≡ true → is_pair_key both k ≡ true
    by_key (Item place) h = refl
    by_key (Column c) h = subst (λ (shape : Shape). is_plain_col COLUMNS_MOST shape c ≡ true) s h

pub child_is_sound : (q : Bound) → IsChild q → IsSoundPair both q
child_is_sound q c = record {
  items = items_sound q.items (subst (λ (shape : Shape). list_all (is_allowed_item COLUMNS_MOST shape) q.items ≡ true) c.shape c.sound.items);
  key = key_of q q.order c.shape c.sound.order;
  conds = subst (λ (shape : Shape). list_all (is_sound_cond (has_col COLUMNS_MOST (is_paired shape))) q.conds ≡ true) c.shape c.sound.conds;
}
