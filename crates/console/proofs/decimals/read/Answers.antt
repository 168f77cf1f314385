-- `number` is what the bytes passed spell.
use Rattle.std.proofs.Common.{refl, add-one, arith}
use Rattle.console.specs.Spelled.{value_of}
use Rattle.console.proofs.Spelling.{begun_more}
use Rattle.console.proofs.decimals.read.Goals as goal

pub loop-byte-init : goal.loop-byte-init
unfolding value_of
loop-byte-init c = (λ k h. absurd (omega arith), refl, omega arith)

pub loop-byte-preserved : goal.loop-byte-preserved
loop-byte-preserved c =
    let told = c.with_byte-number in
    let passed = c.loop-byte.byte-index in
    let more =
    begun_more passed c.args.text.now c.loop-byte.number told.result c.loop-byte.invariant told.ensures in
    rw (add-one passed) more
