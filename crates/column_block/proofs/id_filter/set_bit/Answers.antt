use Rattle.std.proofs.Common.{rules, ◌≡◌, ◌*◌, ◌%◌, ◌^◌, ◌<◌, ◌≤◌, ◌∙◌, true, sym, subst, length, get_or, set}
use Rattle.std.specs.Int.Bits.{bit_or}
use Rattle.std.proofs.lemmas.List.{get_or_default}
use Rattle.column_block.specs.Filters.{is_set, word_of}
use Rattle.column_block.proofs.Filters.{bit_kept, bit_past, bit_set}
use Rattle.column_block.proofs.id_filter.set_bit.Goals as goal

pub returns-then-at-len-clause-set : goal.returns-then-at-len-clause-set
returns-then-at-len-clause-set c =
    let words = c.args.words.now.items in
    let at = c.word_of-at.result in
    let is : at ≡ word_of (length words) c.args.n = search rules in
    let low : at < length words = search rules in
    let word : get_or words at 0 ≡ c.index_mut.result.now = get_or_default words at 0 c.index_mut.result.now low ∙ sym c.index_mut.ensures.value in
    subst (λ w. is_set (set words at (bit_or w (1 * 2 ^ (c.args.n % 64) % 2 ^ 64))) c.args.n ≡ true) word (bit_set words c.args.n at is low)

pub returns-then-at-len-clause-kept : goal.returns-then-at-len-clause-kept
returns-then-at-len-clause-kept c = λ m on.
    let words = c.args.words.now.items in
    let at = c.word_of-at.result in
    let low : at < length words = search rules in
    let word : get_or words at 0 ≡ c.index_mut.result.now = get_or_default words at 0 c.index_mut.result.now low ∙ sym c.index_mut.ensures.value in
    subst (λ w. is_set (set words at (bit_or w (1 * 2 ^ (c.args.n % 64) % 2 ^ 64))) m ≡ true) word (bit_kept words c.args.n at m low on)

pub returns-else-at-len-clause-set : goal.returns-else-at-len-clause-set
returns-else-at-len-clause-set c =
    let words = c.args.words.now.items in
    let at = c.word_of-at.result in
    let is : at ≡ word_of (length words) c.args.n = search rules in
    let high : length words ≤ at = search rules in
    bit_past words c.args.n at is high
