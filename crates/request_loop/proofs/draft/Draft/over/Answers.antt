use Rattle.std.proofs.Common.{rules, ◌<◌, ◌≤◌, length}
use Rattle.request_loop.proofs.Drafting.{draft_rest, over_none, over_open}
use Rattle.request_loop.proofs.draft.Draft.over.Goals as goal

pub returns-then-is_spent : goal.returns-then-is_spent
returns-then-is_spent c = λ read is. (draft_rest read c.args.self is, is.some c.if-is_spent.true)

pub returns-then-size-gt0 : goal.returns-then-size-gt0
returns-then-size-gt0 c =
    let some : 0 < length c.args.self.text.items = search rules in
    λ read is. (draft_rest read c.args.self is, over_open read c.args.self is some c.if-is_spent.false)

pub returns : goal.returns
returns c =
    let none : length c.args.self.text.items ≤ 0 = search rules in
    λ read is. over_none read c.args.self is none c.if-is_spent.false
