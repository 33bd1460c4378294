use Rattle.std.proofs.Common.{rules}
use Rattle.clr_base.proofs.Content.{then_more}
use Rattle.clr_base.proofs.lines.put_all.Goals as goal

pub loop-at-preserved : goal.loop-at-preserved
loop-at-preserved g c = record {
  within = search rules;
  calm = search rules;
  written = then_more _ _ _ c.args.text.now c.loop-at.at c.in_ok-at.field-0 c.loop-at.invariant.written c.in_ok-at.ensures.taken.2;
}
