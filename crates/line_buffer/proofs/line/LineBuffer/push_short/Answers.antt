use Rattle.std.proofs.Common.{◌≡◌, ◌+◌, length, ap, arith, ◌∙◌, length-append}
use Rattle.std.proofs.lemmas.Fmt.{length-decimal-le}
use Rattle.std.specs.Fmt.{decimal}
use Rattle.line_buffer.proofs.line.LineBuffer.push_short.Goals as goal

pub push_size-requires : goal.push_size-requires
push_size-requires c =
    record { room = omega (arith, c.requires.room, length-decimal-le 19 c.unsigned_abs.result (omega arith) (omega arith) (omega arith)) }

pub push-requires : goal.push-requires
push-requires c =
    let long : length c.push_size.new.self ≡ length (decimal c.unsigned_abs.result) + length c.args.self.now =
    ap length c.push_size.ensures ∙ length-append (decimal c.unsigned_abs.result) c.args.self.now in
    record { room = omega (arith, long, c.requires.room, length-decimal-le 19 c.unsigned_abs.result (omega arith) (omega arith) (omega arith)) }

pub returns-then-n-lt0-clause-few : goal.returns-then-n-lt0-clause-few
returns-then-n-lt0-clause-few c =
    let long : length c.push_size.new.self ≡ length (decimal c.unsigned_abs.result) + length c.args.self.now =
    ap length c.push_size.ensures ∙ length-append (decimal c.unsigned_abs.result) c.args.self.now in
    let one : length c.push.new.self ≡ length c.push_size.new.self + 1 = ap length c.push.ensures ∙ omega arith in
    omega (arith, long, one, length-decimal-le 19 c.unsigned_abs.result (omega arith) (omega arith) (omega arith))

pub returns-else-n-lt0-clause-few : goal.returns-else-n-lt0-clause-few
returns-else-n-lt0-clause-few c =
    let long : length c.push_size.new.self ≡ length (decimal c.unsigned_abs.result) + length c.args.self.now =
    ap length c.push_size.ensures ∙ length-append (decimal c.unsigned_abs.result) c.args.self.now in
    omega (arith, long, length-decimal-le 19 c.unsigned_abs.result (omega arith) (omega arith) (omega arith))
