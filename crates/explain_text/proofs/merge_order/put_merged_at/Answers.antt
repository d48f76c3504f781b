use Rattle.explain_text.proofs.merge_order.put_merged_at.Goals as goal

pub returns : goal.returns
returns g c = rw (c.keys_by.ensures, c.as_slice.ensures) at c.put_listed.ensures
