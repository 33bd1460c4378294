use Rattle.cil_code.proofs.Numbers.{numbers_more}
use Rattle.cil_code.proofs.cursor.numbers_of.Goals as goal

pub loop-i-preserved : goal.loop-i-preserved
loop-i-preserved c =
    rw (c.in_ok-push.ensures.ok, c.read_u32.ensures, c.split_at.ensures.back) (numbers_more c.loop-i.ns c.args.count c.loop-i.i c.args.bytes.now _ c.loop-i-test.true c.loop-i.invariant)
