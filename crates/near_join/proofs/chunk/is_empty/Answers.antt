use Rattle.std.proofs.Common.{◌≡◌, ◌∙◌, ℕ, List, Option, [], arith, ap, get_or, sym, subst}
use Rattle.std.specs.Prelude.{IfSome}
use Rattle.chunk_store.specs.Places.{sub_lists}
use Rattle.near_join.proofs.Joining.{sub_list_is, subs_count}
use Rattle.near_join.proofs.chunk.is_empty.Goals as goal

pub of-requires : goal.of-requires
of-requires c =
    let g = c.args.store.now.plan in
    let objects = c.args.store.now.rows.objects in
    let is : c.in-Some.lists ≡ sub_lists g objects c.args.chunk = subst (λ (o : Option (List (List ℕ))). IfSome o (λ lists. lists ≡ sub_lists g objects c.args.chunk)) c.in-Some.is c.requires.subs in
    let count = subs_count g objects c.args.chunk c.in-Some.lists is in omega (arith, count, c.requires.sub)

pub returns-in-Some : goal.returns-in-Some
returns-in-Some c =
    let g = c.args.store.now.plan in
    let objects = c.args.store.now.rows.objects in
    let is : c.in-Some.lists ≡ sub_lists g objects c.args.chunk = subst (λ (o : Option (List (List ℕ))). IfSome o (λ lists. lists ≡ sub_lists g objects c.args.chunk)) c.in-Some.is c.requires.subs in
    λ h. sym (sub_list_is g objects c.args.chunk c.args.sub c.requires.sub) ∙ ap (λ (l : List (List ℕ)). get_or l c.args.sub []) (sym is) ∙ sym c.of.ensures ∙ c.is_nothing.ensures h
