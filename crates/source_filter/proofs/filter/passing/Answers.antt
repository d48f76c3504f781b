use Rattle.std.proofs.Common.{◌≡◌, ◌∙◌, Bool, List, ap}
use Rattle.std.proofs.lemmas.Result.{IfOk-weaker}
use Rattle.lane_filter.specs.Tests.{places_of}
use Rattle.source_filter.proofs.Narrowing.{narrowed_numbers, written_whole}
use Rattle.source_filter.proofs.filter.passing.Goals as goal

pub returns : goal.returns
returns c =
    let mask : List Bool = c.narrow_all.new.mask in
    let whole : c.as_slice.result.now ≡ mask =
    c.as_slice.ensures.value ∙ written_whole c.in_ok-mask.mask.items mask c.in_ok-mask.mask.len (c.narrow_all.ensures.len ∙ c.as_mut_slice.ensures.len) in
    IfOk-weaker c.numbers_in.result _ _
    (λ numbers is. narrowed_numbers c.args.conds.now c.args.lists.now mask numbers.items c.narrow_all.ensures.narrowed (is ∙ ap places_of whole))
    c.numbers_in.ensures
