use Rattle.std.proofs.Common.{◌+◌, ◌∙◌, arith}
use Rattle.type_members.proofs.Named.{named_more, named_all, name_at}
use Rattle.type_members.proofs.member_groups.MemberGroups.new.Goals as goal

pub loop-k-preserved : goal.loop-k-preserved
loop-k-preserved c = λ name.
    named_more c.args.names.now c.args.first c.loop-k.k name _ _ _ (name_at c.args.names.now (c.args.first + c.loop-k.k) _ (omega arith))
    (c.loop-k.invariant name) (c.in_ok-add.ensures name.0)

pub returns : goal.returns
returns c = record {
  each = λ name.
      c.loop-k.invariant name
      ∙ named_all c.args.names.now c.args.first c.args.count c.loop-k.k name (omega (arith, c.min-there.ensures, c.saturating_sub.ensures)) (λ less. omega (arith, c.min-there.ensures, c.saturating_sub.ensures));
}
