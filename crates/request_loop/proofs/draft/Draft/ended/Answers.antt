use Rattle.std.proofs.Common.{rules, ◌≡◌, ◌++◌, ◌∷◌, [], ◌-◌, ◌<◌, ◌≤◌, length, length-take, arith, ap, sym, subst}
use Rattle.text_rules.specs.declared.limits.TheConstants.{SCRIPT_TEXT_MOST}
use Rattle.request_loop.specs.Drafts.{IsRequest, bytes_in}
use Rattle.request_loop.proofs.Drafting.{draft_ended, long_by, text_by}
use Rattle.request_loop.proofs.draft.Draft.ended.Goals as goal

pub returns-then-is_spent : goal.returns-then-is_spent
returns-then-is_spent c = λ read is. let it = draft_ended read c.args.self is c.requires in record { text = it.lines; is = it.is }

pub returns-then-size-gt-SCRIPT_TEXT_MOST : goal.returns-then-size-gt-SCRIPT_TEXT_MOST
returns-then-size-gt-SCRIPT_TEXT_MOST c =
    let sized : c.saturating_sub-size.result ≡ length c.args.self.text.items - bytes_in c.args.self.start = search rules in
    let above : SCRIPT_TEXT_MOST < c.saturating_sub-size.result = search rules in
    λ read is. long_by read c.args.self c.saturating_sub-size.result is c.requires c.if-is_spent.false sized above

pub returns : goal.returns
returns c =
    let sized : c.saturating_sub-size.result ≡ length c.args.self.text.items - bytes_in c.args.self.start = search rules in
    let within : c.saturating_sub-size.result ≤ SCRIPT_TEXT_MOST = search rules in
    let short : length c.truncate.new.self.items ≤ SCRIPT_TEXT_MOST =
    omega (arith, ap length c.truncate.ensures.items, length-take c.saturating_sub-size.result c.args.self.text.items, within) in
    λ read is. (
      subst (λ t. IsRequest t (read ++ 10 ∷ [])) (sym c.truncate.ensures.items)
          (text_by read c.args.self c.saturating_sub-size.result is c.requires c.if-is_spent.false sized within),
      short,
    )
