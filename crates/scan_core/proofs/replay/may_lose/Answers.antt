use Rattle.std.proofs.Common.{rules, ◌≡◌, ◌<◌, true, false, ◌&&◌, Bool, sym, ap, ◌∙◌}
use Rattle.scan_core.proofs.Handing.{has_told}
use Rattle.scan_core.proofs.Losing.{among_is, none_among}
use Rattle.scan_core.proofs.replay.may_lose.Goals as goal

pub returns-then-q : goal.returns-then-q
returns-then-q c = λ d. none_among c.args.slots.now.items c.args.taken.now d c.args.q (search rules)

pub returns-then-runs : goal.returns-then-runs
returns-then-runs c = λ d.
    let low : c.args.q < 256 = search rules in
    let t : c.runs_at-runs.result ≡ true = search rules in
    ap (λ (x : Bool). x && c.has-named.result) (sym t)
    ∙ among_is c.args.slots.now.items c.args.taken.now d c.args.q c.runs_at-runs.result c.has-named.result low (c.runs_at-runs.ensures.known low d) (has_told c.args.taken.now c.args.q c.has-named.result c.has-named.ensures)

pub returns-else-runs : goal.returns-else-runs
returns-else-runs c = λ d.
    let low : c.args.q < 256 = search rules in
    let f : c.runs_at-runs.result ≡ false = search rules in
    f ∙ (ap (λ (x : Bool). x && c.has-named.result) (sym f)
    ∙ among_is c.args.slots.now.items c.args.taken.now d c.args.q c.runs_at-runs.result c.has-named.result low (c.runs_at-runs.ensures.known low d) (has_told c.args.taken.now c.args.q c.has-named.result c.has-named.ensures))
